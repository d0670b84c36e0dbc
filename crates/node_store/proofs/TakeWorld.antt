-- Worlds in which the ledger and the files of numbers are the same, as where one take changed.
use Rattle.std.proofs.Common.{◌≡◌, ◌≢◌, ℕ, List, length, map, Option, Some, None, Bool, true, false, refl, sym, ◌∙◌, ap, not, ◌&&◌, ◌||◌}
use Rattle.std.specs.Prelude.{option_map, if◌then◌else◌}
use Rattle.std.specs.Str.{bytes_eq}
use Rattle.std.proofs.lemmas.Slice.Eq.{bytes_eq-Decides}
use Rattle.disk_model.specs.Changes.{Moves, OnOwn, Puts}
use Rattle.disk_model.specs.World as W
use Rattle.disk_model.specs.World.{World}
use Rattle.ledger_file.specs.Ledger.{ledger_name, LedgerIs}
use Rattle.ledger_rec.specs.Fold.{State, is_among}
use Rattle.ledger_rec.specs.Items.{Entry, Receipt, PartMark}
use Rattle.node_model.specs.Outside.{OutFile}
use Rattle.node_model.proofs.Lists.{off, none_some}
use Rattle.node_store.specs.Contents.{durable_by}
use Rattle.node_store.specs.Names.{in_name, out_name, take_number}
use Rattle.node_store.specs.Stored.{Part, Put, Memory, HasBodies, front_of, sizes_in, stock_by, stored_in, told_in}
use Rattle.node_store.specs.Taking.{Around, file_taken, put_take, shelf_around, stored_around, take_gone}
use Rattle.node_store.specs.Worlds.{HasFiles, HasFront, HasLength, HasNoOther, bytes_of, contents_in, gift_of, gift_told, if_take, is_absent, or_else, out_file_of, outside_in, shelf_in, takes_in}
use Rattle.node_store.proofs.Alike.{all_by, in_no_take, ledger_no_take, out_no_take}

-- the ledger and the files of numbers are the same, and what was given away
pub record IsBeside (d c : World) : Type 0 where
  pub ledger : c.own ledger_name ≡ d.own ledger_name
  pub outs : (n : ℕ) → c.own (out_name n) ≡ d.own (out_name n)
  pub ins : (n : ℕ) → c.own (in_name n) ≡ d.own (in_name n)
  pub gifts : c.gifts ≡ d.gifts

-- the takes that stand, and the files of other programs
abbrev pub around_in : World → Around
around_in w = record { takes = takes_in w; outside = outside_in w }

module _ (d c : World) (one : IsBeside d c) where
  pub ledger_stays : (payloads : List (List ℕ)) → LedgerIs payloads d → LedgerIs payloads c
  ledger_stays payloads l = (l.0, one.ledger ∙ l.1, l.2)

  -- what the files of numbers hold

  contents_same : contents_in c ≡ contents_in d
  contents_same = λ i. record {
    queued = λ number size. bytes_of (one.outs number i);
    received = λ number size. or_else (one.ins number i) (gift_of (in_name number) size (one.gifts i));
    front = λ number len. Rattle.std.specs.Prelude.take len (bytes_of (one.ins number i));
    given = λ number. is_absent (one.ins number i);
  }

  told_same : (given : List ℕ) → told_in c given ≡ told_in d given
  told_same given = λ i. record {
    queued = λ number size. front_of size (bytes_of (one.outs number i));
    received = λ number size. if is_among number given then or_else (one.ins number i) (gift_of (in_name number) size (one.gifts i)) else Some (front_of size (bytes_of (one.ins number i)));
    front = λ number len. front_of len (bytes_of (one.ins number i));
    given = λ number. is_absent (one.ins number i) && is_among number given;
  }

  pub sizes_same : (tells : Bool) (given : List ℕ) → sizes_in tells c given ≡ sizes_in tells d given
  sizes_same tells given = λ i. record {
    queued = λ number size. size;
    received = λ number size. if tells && is_among number given then option_map length (or_else (one.ins number i) (gift_of (in_name number) size (one.gifts i))) else Some size;
    front = λ number len. len;
    given = λ number. (not tells || is_absent (one.ins number i)) && is_among number given;
  }

  pub files_stay : (s : State) → HasFiles s d → HasFiles s c
  files_stay s has = record {
    live = all_by (λ (e : Entry). e.live ≡ true → HasLength (out_name e.number) e.key.size d) (λ (e : Entry). e.live ≡ true → HasLength (out_name e.number) e.key.size c) (λ e h live. let f = h live in (f.0, one.outs e.number ∙ f.1, f.2)) s.queue has.live;
    marked = all_by (λ (m : PartMark). HasFront (in_name m.number) m.len d) (λ (m : PartMark). HasFront (in_name m.number) m.len c) (λ m f. (f.0, one.ins m.number ∙ f.1, f.2)) s.marks has.marked;
    received = all_by (λ (r : Receipt). HasNoOther (in_name r.number) r.key.size d) (λ (r : Receipt). HasNoOther (in_name r.number) r.key.size c) (λ r h b is. h b (sym (one.ins r.number) ∙ is)) s.inbox has.received;
  }

  pub bodies_stay : (m : Memory) → HasBodies m d → HasBodies m c
  bodies_stay m has = record {
    parts = all_by (λ (p : Part). HasLength (in_name p.number) p.have d) (λ (p : Part). HasLength (in_name p.number) p.have c) (λ p f. (f.0, one.ins p.number ∙ f.1, f.2)) m.parts has.parts;
    staged = all_by (λ (p : Put). HasLength (out_name p.number) p.size d) (λ (p : Put). HasLength (out_name p.number) p.size c) (λ p f. (f.0, one.outs p.number ∙ f.1, f.2)) m.staged has.staged;
    given = all_by (λ (n : ℕ). d.own (in_name n) ≡ None) (λ (n : ℕ). c.own (in_name n) ≡ None) (λ n gone. one.ins n ∙ gone) m.given has.given;
  }

  -- what outlives a stop, and what is told

  pub shelf_same : (s : State) → shelf_in c s ≡ shelf_around (around_in c) (shelf_in d s)
  shelf_same s = λ i.
      record { state = durable_by (contents_same i) s; recorded = s.takes; takes = takes_in c; outside = outside_in c; gifts = map gift_told (one.gifts i) }

  pub stored_same : (m : Memory) → stored_in c m ≡ stored_around (around_in c) (stored_in d m)
  stored_same m = λ i.
      record { stock = stock_by (told_same m.given i) m; recorded = m.books.folding.state.takes; takes = takes_in c; outside = outside_in c; gifts = map gift_told (one.gifts i); log = (stored_in d m).log }

-- all but one own file is the same, which is a take, and what was given away
pub record OneTake (own : List ℕ) (d c : World) : Type 0 where
  pub take : ℕ
  pub named : take_number own ≡ Some take
  pub others : (n : List ℕ) → n ≢ own → c.own n ≡ d.own n
  pub gifts : c.gifts ≡ d.gifts

module _ (own : List ℕ) (d c : World) (one : OneTake own d c) where
  -- a name that is none of a take's
  apart : (name : List ℕ) → take_number name ≡ None → c.own name ≡ d.own name
  apart name none = one.others name (λ same. none_some (sym none ∙ ap take_number same ∙ one.named))

  pub beside_take : IsBeside d c
  beside_take = record {
    ledger = apart ledger_name ledger_no_take;
    outs = λ n. apart (out_name n) (out_no_take n);
    ins = λ n. apart (in_name n) (in_no_take n);
    gifts = one.gifts;
  }

  -- the takes
  pub takes_put : (file : Option (List ℕ)) → c.own own ≡ file → takes_in c ≡ put_take own file (takes_in d)
  takes_put file is = λ i name. go name (bytes_eq name own) refl i
    where
      go : (name : List ℕ) (b : Bool) → bytes_eq name own ≡ b → if_take (take_number name) (c.own name) ≡ (if b then file else if_take (take_number name) (d.own name))
      go name true same =
          let e : name ≡ own = (bytes_eq-Decides name own).0 same in
          ap (λ (o : Option ℕ). if_take o (c.own name)) (ap take_number e ∙ one.named) ∙ ap c.own e ∙ is
      go name false other = ap (if_take (take_number name)) (one.others name (λ same. off (sym ((bytes_eq-Decides name own).1 same) ∙ other)))

-- What calls do.

-- an outside file became a take
pub moved_one : (path own : List ℕ) (take : ℕ) → take_number own ≡ Some take → (d c : World) → Moves path own d c → OneTake own d c
moved_one path own take named d c step = record { take = take; named = named; others = step.own.others; gifts = step.gifts }

pub moved_around : (path own : List ℕ) (take : ℕ) (named : take_number own ≡ Some take) (d c : World) → Moves path own d c → around_in c ≡ file_taken path own (around_in d)
moved_around path own take named d c step =
    let bytes : Some step.file.bytes ≡ option_map (λ (f : OutFile). f.bytes) (option_map out_file_of (d.outside path)) = sym (ap (λ (o : Option W.OutFile). option_map (λ (f : OutFile). f.bytes) (option_map out_file_of o)) step.was) in
    let takes = takes_put own d c (moved_one path own take named d c step) (option_map (λ (f : OutFile). f.bytes) (option_map out_file_of (d.outside path))) (step.own.here ∙ bytes) in
    λ i. record { takes = takes i; outside = λ at. go at (bytes_eq at path) refl i }
  where
    go : (at : List ℕ) (b : Bool) → bytes_eq at path ≡ b → option_map out_file_of (c.outside at) ≡ (if b then None else option_map out_file_of (d.outside at))
    go at true same = ap (λ (p : List ℕ). option_map out_file_of (c.outside p)) ((bytes_eq-Decides at path).0 same) ∙ ap (option_map out_file_of) step.gone.here
    go at false other = ap (option_map out_file_of) (step.gone.others at (λ same. off (sym ((bytes_eq-Decides at path).1 same) ∙ other)))

-- a take was removed
pub gone_one : (own : List ℕ) (take : ℕ) → take_number own ≡ Some take → (d c : World) → OnOwn (Puts own None) d c → OneTake own d c
gone_one own take named d c step = record { take = take; named = named; others = step.own.others; gifts = step.gifts }

pub gone_around : (own : List ℕ) (take : ℕ) (named : take_number own ≡ Some take) (d c : World) → OnOwn (Puts own None) d c → around_in c ≡ take_gone own tt (around_in d)
gone_around own take named d c step =
    let takes = takes_put own d c (gone_one own take named d c step) None step.own.here in
    λ i. record { takes = takes i; outside = ap (λ (f : List ℕ → Option W.OutFile). outside_in (record d { outside = f })) step.outside i }

-- nothing changed
pub same_one : (own : List ℕ) (take : ℕ) → take_number own ≡ Some take → (d c : World) → c ≡ d → OneTake own d c
same_one own take named d c same = record { take = take; named = named; others = λ n other. ap (λ (w : World). w.own n) same; gifts = ap (λ (w : World). w.gifts) same }
