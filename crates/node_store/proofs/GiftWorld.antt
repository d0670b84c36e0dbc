-- A world after a gift: an own file is gone, and stands outside.
use Rattle.std.proofs.Common.{◌≡◌, ◌≢◌, inl, inr, ℕ, ◌==◌, ◌<◌, ◌^◌, List, [], ◌∷◌, ◌++◌, length, map, Option, Some, None, Bool, true, false, ◌&&◌, refl, sym, ◌∙◌, ap}
use Rattle.std.specs.Prelude.{option_map, unwrap_or, if◌then◌else◌}
use Rattle.std.specs.List.{AllByRecursion}
use Rattle.std.specs.Str.{bytes_eq}
use Rattle.std.proofs.lemmas.Bool.{cases_eq}
use Rattle.std.proofs.lemmas.Bool.Decides.{Decides-eqb}
use Rattle.std.proofs.lemmas.Slice.Eq.{bytes_eq-Decides}
use Rattle.disk_model.specs.Folders.{path_in}
use Rattle.disk_model.specs.World as W
use Rattle.disk_model.specs.World.{World}
use Rattle.disk_model.specs.Changes.{Gives, Puts}
use Rattle.ledger_file.specs.Ledger.{ledger_name, LedgerIs}
use Rattle.ledger_rec.specs.Fold.{State}
use Rattle.ledger_rec.specs.Items.{Entry, Receipt, PartMark}
use Rattle.node_model.specs.Durable as D
use Rattle.node_model.specs.Outside as N
use Rattle.node_model.specs.Outside.{Gift, OutFiles, put_at}
use Rattle.node_model.specs.StoreStates.{Shelf}
use Rattle.node_model.proofs.Lists.{none_some, off, and_both}
use Rattle.node_store.specs.Contents.{receipt_by, refusal_of, with_given}
use Rattle.node_store.specs.Names.{in_name, out_name, take_number}
use Rattle.node_store.specs.Worlds.{or_else, gift_of, is_absent, contents_in, durable_in, out_file_of, outside_in, receipt_named, gift_told, takes_in, shelf_in, HasNoOther, HasFiles}
use Rattle.node_store.proofs.Alike.{SameFront, all_of, all_by, entries_alike, marks_alike, takes_alike, live_files, marked_files, in_no_take}
use Rattle.node_store.proofs.HexDigits.{eight_read}
use Rattle.node_store.proofs.Mirrors.{map-append, eqb_apart, given_mirrored}
use Rattle.node_store.proofs.NameLaws.{one_in_name, in_not_out, in_not_ledger}

-- the file of a receipt, with its bytes
pub record GaveAway (n : ℕ) (folder name : List ℕ) (time : ℕ) (bytes : List ℕ) (d c : World) : Type 0 where
  pub was : d.own (in_name n) ≡ Some bytes
  pub gone : Puts (in_name n) None d.own c.own
  pub outside : Puts (path_in folder name) (Some (record { bytes = bytes; time = time })) d.outside c.outside
  pub gifts : c.gifts ≡ d.gifts ++ record { own = in_name n; folder = folder; name = name; bytes = bytes } ∷ []

pub gave_away : (n : ℕ) (folder name : List ℕ) (time : ℕ) (d c : World) (g : Gives (in_name n) folder name (path_in folder name) time d c) → GaveAway n folder name time g.bytes d c
gave_away n folder name time d c g = record { was = g.was; gone = g.gone; outside = g.outside; gifts = g.gifts }

-- the last gift

or_none : {A : Type 0} (o : Option A) → or_else o None ≡ o
or_none None = refl
or_none (Some a) = refl

or_assoc : {A : Type 0} (x y z : Option A) → or_else (or_else x y) z ≡ or_else x (or_else y z)
or_assoc None y z = refl
or_assoc (Some a) y z = refl

abbrev this_gift : List ℕ → ℕ → W.Gift → Option (List ℕ)
this_gift own size x = if bytes_eq x.own own && length x.bytes == size then Some x.bytes else None

gift_last : (own : List ℕ) (size : ℕ) (gs : List W.Gift) (x : W.Gift) → gift_of own size (gs ++ x ∷ []) ≡ or_else (this_gift own size x) (gift_of own size gs)
gift_last own size [] x = sym (or_none (this_gift own size x))
gift_last own size (g ∷ gs) x =
    ap (λ (o : Option (List ℕ)). or_else o (this_gift own size g)) (gift_last own size gs x) ∙ or_assoc (this_gift own size x) (gift_of own size gs) (this_gift own size g)

-- the receipt whose own file has that name
pub named_so : (n : ℕ) → n < 2 ^ 32 → receipt_named (in_name n) ≡ n
unfolding in_name
named_so n lt = ap (λ (o : Option ℕ). unwrap_or o 0) (eight_read n lt)

-- what is given of a shelf
abbrev pub gifted : Gift → ℕ → Shelf → Shelf
gifted g time d =
    record { state = D.with_given g.receipt d.state; recorded = d.recorded; takes = d.takes; outside = put_at (N.path_in g.folder g.name) (Some (record { bytes = g.bytes; time = time })) d.outside; gifts = d.gifts ++ g ∷ [] }

module _ (n : ℕ) (folder name : List ℕ) (time : ℕ) (bytes : List ℕ) (d c : World) (g : GaveAway n folder name time bytes d c) where
  -- names

  pub other_in : (k : ℕ) → k ≢ n → c.own (in_name k) ≡ d.own (in_name k)
  other_in k other = g.gone.others (in_name k) (λ same. other (one_in_name k n same))

  pub other_out : (k : ℕ) → c.own (out_name k) ≡ d.own (out_name k)
  other_out k = g.gone.others (out_name k) (λ same. in_not_out n k (sym same))

  pub gone_in : (k : ℕ) → k ≡ n → c.own (in_name k) ≡ None
  gone_in k is = ap (λ (i : ℕ). c.own (in_name i)) is ∙ g.gone.here

  pub was_in : (k : ℕ) → k ≡ n → d.own (in_name k) ≡ Some bytes
  was_in k is = ap (λ (i : ℕ). d.own (in_name i)) is ∙ g.was

  pub ledger_stays : (payloads : List (List ℕ)) → LedgerIs payloads d → LedgerIs payloads c
  ledger_stays payloads l = (l.0, g.gone.others ledger_name (λ same. in_not_ledger n (sym same)) ∙ l.1, l.2)

  -- gifts

  here_own : (k : ℕ) → k ≡ n → bytes_eq (in_name n) (in_name k) ≡ true
  here_own k is = (bytes_eq-Decides (in_name n) (in_name k)).1 (ap in_name (sym is))

  other_own : (k : ℕ) → k ≢ n → bytes_eq (in_name n) (in_name k) ≡ false
  other_own k other = go (bytes_eq (in_name n) (in_name k)) refl
    where
      go : (b : Bool) → bytes_eq (in_name n) (in_name k) ≡ b → bytes_eq (in_name n) (in_name k) ≡ false
      go true e = absurd (other (sym (one_in_name n k ((bytes_eq-Decides (in_name n) (in_name k)).0 e))))
      go false e = e

  pub gift_here : (k size : ℕ) → k ≡ n → length bytes ≡ size → gift_of (in_name k) size c.gifts ≡ Some bytes
  gift_here k size is long =
      ap (gift_of (in_name k) size) g.gifts ∙ gift_last (in_name k) size d.gifts (record { own = in_name n; folder = folder; name = name; bytes = bytes })
      ∙ ap (λ (b : Bool). or_else (if b then Some bytes else None) (gift_of (in_name k) size d.gifts)) (and_both (bytes_eq (in_name n) (in_name k)) (length bytes == size) (here_own k is) ((Decides-eqb (length bytes) size).1 long))

  pub gift_other : (k size : ℕ) → k ≢ n → gift_of (in_name k) size c.gifts ≡ gift_of (in_name k) size d.gifts
  gift_other k size other =
      ap (gift_of (in_name k) size) g.gifts ∙ gift_last (in_name k) size d.gifts (record { own = in_name n; folder = folder; name = name; bytes = bytes })
      ∙ ap (λ (b : Bool). or_else (if b && length bytes == size then Some bytes else None) (gift_of (in_name k) size d.gifts)) (other_own k other)

  -- what else outlives a stop

  pub takes_given : takes_in c ≡ takes_in d
  takes_given = takes_alike d c (λ nm take is. g.gone.others nm (λ same. none_some (sym (in_no_take n) ∙ ap take_number (sym same) ∙ is)))

  pub outside_given : outside_in c ≡ put_at (N.path_in folder name) (Some (record { bytes = bytes; time = time })) (outside_in d)
  outside_given = λ i at. go at (bytes_eq at (path_in folder name)) refl i
    where
      go : (at : List ℕ) (b : Bool) → bytes_eq at (path_in folder name) ≡ b → option_map out_file_of (c.outside at) ≡ (if b then Some (record { bytes = bytes; time = time }) else option_map out_file_of (d.outside at))
      go at true is = ap (λ (p : List ℕ). option_map out_file_of (c.outside p)) ((bytes_eq-Decides at (path_in folder name)).0 is) ∙ ap (option_map out_file_of) g.outside.here
      go at false is = ap (option_map out_file_of) (g.outside.others at (λ same. off (sym ((bytes_eq-Decides at (path_in folder name)).1 same) ∙ is)))

  pub gifts_given : n < 2 ^ 32 → map gift_told c.gifts ≡ map gift_told d.gifts ++ record { receipt = n; folder = folder; name = name; bytes = bytes } ∷ []
  gifts_given lt =
      ap (map gift_told) g.gifts ∙ map-append gift_told d.gifts (record { own = in_name n; folder = folder; name = name; bytes = bytes } ∷ [])
      ∙ ap (λ (k : ℕ). map gift_told d.gifts ++ record { receipt = k; folder = folder; name = name; bytes = bytes } ∷ []) (named_so n lt)

  -- the durable state

  module _ (s : State) (marks : AllByRecursion (λ (m : PartMark). m.number ≢ n) s.marks) (has : HasFiles s d) where
    pub live_same : AllByRecursion (λ (e : Entry). e.live ≡ true → c.own (out_name e.number) ≡ d.own (out_name e.number)) s.queue
    live_same = all_of (λ (e : Entry). e.live ≡ true → c.own (out_name e.number) ≡ d.own (out_name e.number)) (λ e live. other_out e.number) s.queue

    pub marks_same : AllByRecursion (λ (m : PartMark). SameFront (in_name m.number) m.len d c) s.marks
    marks_same = all_by (λ (m : PartMark). m.number ≢ n) (λ (m : PartMark). SameFront (in_name m.number) m.len d c) (λ m other b is long. (b, other_in m.number other ∙ is, refl)) s.marks marks

    pub sized_here : AllByRecursion (λ (r : Receipt). r.number ≡ n → length bytes ≡ r.key.size) s.inbox
    sized_here = all_by (λ (r : Receipt). HasNoOther (in_name r.number) r.key.size d) (λ (r : Receipt). r.number ≡ n → length bytes ≡ r.key.size) (λ r other is. other bytes (was_in r.number is)) s.inbox has.received

    pub files_given : HasFiles s c
    files_given = record {
      live = live_files d c s.queue has.live live_same;
      marked = marked_files d c s.marks has.marked marks_same;
      received = all_by (λ (r : Receipt). HasNoOther (in_name r.number) r.key.size d) (λ (r : Receipt). HasNoOther (in_name r.number) r.key.size c) one s.inbox has.received;
    }
      where
        one : (r : Receipt) → HasNoOther (in_name r.number) r.key.size d → HasNoOther (in_name r.number) r.key.size c
        one r other b is = elim (cases_eq r.number n) [
          | inl same ↦ none_some (sym (gone_in r.number same) ∙ is)
          | inr apart ↦ other b (sym (other_in r.number apart) ∙ is)
        ]

    receipt_given : (r : Receipt) → (r.number ≡ n → length bytes ≡ r.key.size) → receipt_by (contents_in c) r ≡ receipt_by (with_given n (contents_in d)) r
    receipt_given r long = elim (cases_eq r.number n) [
      | inl same ↦
          let received : or_else (c.own (in_name r.number)) (gift_of (in_name r.number) r.key.size c.gifts) ≡ or_else (d.own (in_name r.number)) (gift_of (in_name r.number) r.key.size d.gifts) =
          ap (λ (o : Option (List ℕ)). or_else o (gift_of (in_name r.number) r.key.size c.gifts)) (gone_in r.number same) ∙ gift_here r.number r.key.size same (long same)
          ∙ sym (ap (λ (o : Option (List ℕ)). or_else o (gift_of (in_name r.number) r.key.size d.gifts)) (was_in r.number same)) in
          let given : is_absent (c.own (in_name r.number)) ≡ (if r.number == n then true else is_absent (d.own (in_name r.number))) =
          ap is_absent (gone_in r.number same) ∙ sym (ap (λ (b : Bool). if b then true else is_absent (d.own (in_name r.number))) ((Decides-eqb r.number n).1 same)) in
          λ i. record { number = r.number; from = r.from; key = r.key; bytes = received i; secure = r.secure; answered = r.answered; given = given i }
      | inr apart ↦
          let own = other_in r.number apart in
          let gift = gift_other r.number r.key.size apart in
          let given : is_absent (c.own (in_name r.number)) ≡ (if r.number == n then true else is_absent (d.own (in_name r.number))) =
          ap is_absent own ∙ sym (ap (λ (b : Bool). if b then true else is_absent (d.own (in_name r.number))) (eqb_apart r.number n apart)) in
          λ i. record { number = r.number; from = r.from; key = r.key; bytes = or_else (own i) (gift i); secure = r.secure; answered = r.answered; given = given i }
    ]

    receipts_given : (rs : List Receipt) → AllByRecursion (λ (r : Receipt). r.number ≡ n → length bytes ≡ r.key.size) rs → map (receipt_by (contents_in c)) rs ≡ map (receipt_by (with_given n (contents_in d))) rs
    receipts_given [] all = refl
    receipts_given (r ∷ rs) all = λ i. receipt_given r all.0 i ∷ receipts_given rs all.1 i

    durable_given : durable_in c s ≡ D.with_given n (durable_in d s)
    durable_given =
        (λ i. record {
          queue = entries_alike d c s.queue live_same i;
          inbox = receipts_given s.inbox sized_here i;
          refused = map refusal_of s.refused;
          marks = marks_alike d c s.marks has.marked marks_same i;
        })
        ∙ given_mirrored (contents_in d) n s

    pub shelf_given : n < 2 ^ 32 → shelf_in c s ≡ gifted (record { receipt = n; folder = folder; name = name; bytes = bytes }) time (shelf_in d s)
    shelf_given lt = λ i. record { state = durable_given i; recorded = s.takes; takes = takes_given i; outside = outside_given i; gifts = gifts_given lt i }
