-- A part begins: its file is made ready, and then it is open.
use Rattle.std.proofs.Common.{◌≡◌, ◌≢◌, inl, inr, ℕ, ◌==◌, ◌≤◌, List, [], ◌∷◌, map, Option, Some, None, Result, Ok, Err, Bool, true, false, refl, sym, ◌∙◌, ap, subst, arith, append-nil}
use Rattle.std.specs.Prelude.{find, option_map, if◌then◌else◌, OnErr, OnOk}
use Rattle.std.specs.Result.{is_err}
use Rattle.std.specs.List.{AllByRecursion}
use Rattle.std.proofs.lemmas.Bool.Decides.{Decides-eqb}
use Rattle.ftn_addr.specs.Address.{Address}
use Rattle.ftn_addr.specs.Counts.{Increased, next_count}
use Rattle.ftn_addr.specs.Files.{is_same}
use Rattle.ftn_addr.specs.Key.{Key}
use Rattle.ftn_addr.specs.Limits.{IsAddress, IsKey}
use Rattle.ftn_addr.specs.declared.limits.TheConstants.{MAX_NUMBER}
use Rattle.disk_model.specs.World.{World}
use Rattle.disk_model.specs.Changes.{Every, Follows, Stands}
use Rattle.disk_model.specs.Moments.{Leaves}
use Rattle.ledger_file.specs.Ledger.{ledger_name}
use Rattle.ledger_rec.specs.Fold.{is_known, is_held}
use Rattle.ledger_rec.specs.Items.{PartMark, Hold}
use Rattle.ledger_rec.specs.Limits.{HasTime}
use Rattle.node_model.specs.declared.store.PartAt.{PartAt}
use Rattle.node_model.specs.declared.store.StoreFault.TheVariants.{Disk, Full, NoMemory}
use Rattle.node_model.specs.Calls.{Logs}
use Rattle.node_model.specs.Items.{MarkOf}
use Rattle.node_model.specs.Lists.{Member}
use Rattle.node_model.specs.Stocks.{part_in}
use Rattle.node_model.specs.StoreStates.{Stored, shelf_of}
use Rattle.node_model.specs.Stores.{StoreKept, StoreMade, Part_open, Part_opened, Refuses, StorePasses, Before_it, Stock_before, TellsOn, PartsStay, IsShelf}
use Rattle.node_model.proofs.Lists.{some_inj, none_some, off}
use Rattle.node_store.specs.Beginnings.{Readies, next_number, len_of, has_file}
use Rattle.node_store.specs.Contents.{Contents, durable_by}
use Rattle.node_store.specs.Names.{in_name}
use Rattle.node_store.specs.Stored.{Part, Memory, front_of, told_in, sizes_in, told_parts, part_by, stored_in, state_of, IsPart, IsMemory, IsKept, IsSound}
use Rattle.node_store.specs.Worlds.{bytes_of, shelf_in, HasLength, HasFront, HasFiles}
use Rattle.node_store.proofs.Alike.{AreAlike, alike_shelf, alike_files, all_by}
use Rattle.node_store.proofs.BegunParts.{is_mark_of, at_mark, mark_is, IsBeginning, beginning}
use Rattle.node_store.proofs.Calls.{standing, is_told, kept_opens, settled, still_call}
use Rattle.node_store.proofs.Committed.{memory_broken}
use Rattle.node_store.proofs.NameLaws.{one_in_name, in_not_ledger}
use Rattle.node_store.proofs.PartOpened.{held_books, opened_memory, memory_held, memory_opened, alike_opened, bodies_opened}
use Rattle.node_store.proofs.Openings.{opens_to, opens_weaker}
use Rattle.node_store.proofs.OpenTold.{number_is, full_is, begins_is, stored_opened, opened_told}
use Rattle.node_store.proofs.PartRecord.{broken_sound}
use Rattle.node_store.proofs.Puts.{same_sizes}
use Rattle.node_store.proofs.TellAlike.{shelf_told}
use Rattle.node_store.proofs.GivenFiles.{same_alike}

-- what a call ensures where it succeeded, and where it failed

pub on_err : {T E : Type 0} (r : Result T E) (P : Type 0) → is_err r ≡ true → OnErr r P → P
on_err (Ok x) P e holds = off (sym e)
on_err (Err x) P e holds = holds

pub on_ok : {T E : Type 0} (r : Result T E) (P : Type 0) → is_err r ≡ false → OnOk r P → P
on_ok (Ok x) P e holds = holds
on_ok (Err x) P e holds = off e

-- what such a call is given
pub record IsOpening {D : Type 0} (tells : Bool) (content : D → World) (files : D → World → Type 0) (moment : D → ℕ) (images : D → ℕ → World → Type 0) (old new : D) (m : Memory) (hs : List Hold) (from : Address) (key : Key) (mark : Option PartAt) (n : ℕ) : Type 0 where
  pub sound : IsSound tells content moment images old m
  pub whole : m.broken ≡ None
  pub is_mark : mark ≡ option_map at_mark (find (is_mark_of from key) m.books.folding.state.marks)
  pub next : Some n ≡ next_number mark (find (has_file from key) m.parts) m.drawn
  pub as_read : (d : D) (w : World) → files d w → images d (moment d) w
  pub reads : (d : D) (w : World) → files d w → (tells ≡ true) × (w ≡ content d)
  pub told : tells ≡ true → (d : D) → files d (content d)
  pub read : Follows (Readies (in_name n) (len_of mark)) (files old) (files new)
  pub run : Leaves moment images (Readies (in_name n) (len_of mark)) old new
  pub others : AllByRecursion (λ (p : Part). is_held p.from p.key hs ≡ true) m.parts

-- the held parts
pub parts_held : (m : Memory) → IsMemory m → AllByRecursion (λ (p : Part). is_held p.from p.key m.books.folding.holds ≡ true) m.parts
parts_held m is = all_by (IsPart m.books.folding) (λ (p : Part). is_held p.from p.key m.books.folding.holds ≡ true) (λ p part. part.held) m.parts is.parts

-- the file of a mark stands
pub mark_stands : {D : Type 0} (tells : Bool) (content : D → World) (files : D → World → Type 0) (moment : D → ℕ) (images : D → ℕ → World → Type 0) (old : D) (m : Memory) (from : Address) (key : Key) (mark : Option PartAt) (n : ℕ) → IsSound tells content moment images old m → m.broken ≡ None
    → mark ≡ option_map at_mark (find (is_mark_of from key) m.books.folding.state.marks) → Some n ≡ next_number mark (find (has_file from key) m.parts) m.drawn → ((d : D) (w : World) → files d w → images d (moment d) w) → ((d : D) (w : World) → files d w → (tells ≡ true) × (w ≡ content d))
    → (a : PartAt) → mark ≡ Some a → Every (files old) (Stands (in_name n) a.len)
mark_stands tells content files moment images old m from key mark n sound whole is_mark next as_read reads a is = λ w read.
    let t = (reads old w read).0 in
    let has = (sound.kept whole w (as_read old w read)).files t in
    go w has (find (is_mark_of from key) m.books.folding.state.marks) refl
  where
    go : (w : World) → HasFiles m.books.folding.state w → (f : Option PartMark) → find (is_mark_of from key) m.books.folding.state.marks ≡ f → Stands (in_name n) a.len w
    go w has None none = none_some (sym (is_mark ∙ ap (option_map at_mark) none) ∙ is)
    go w has (Some k) found =
        let at : a ≡ at_mark k = some_inj (sym is ∙ is_mark ∙ ap (option_map at_mark) found) in
        let number : n ≡ k.number = some_inj (next ∙ ap (λ (x : Option PartAt). next_number x (find (has_file from key) m.parts) m.drawn) is ∙ ap (λ (x : PartAt). Some x.part) at) in
        let there = (mark_is (is_mark_of from key) (λ (x : PartMark). HasFront (in_name x.number) x.len w) m.books.folding.state.marks k has.marked found).0 in
        subst (λ (x : ℕ × ℕ). Stands (in_name x.0) x.1 w) (λ i. (sym number i, sym (ap (λ (x : PartAt). x.len) at) i)) there

module _ {D : Type 0} (tells : Bool) (content : D → World) (files : D → World → Type 0) (faults moment : D → ℕ) (images : D → ℕ → World → Type 0) (old new : D) (m : Memory) (hs : List Hold) (from : Address) (key : Key) (mark : Option PartAt) (n : ℕ)
    (p : IsOpening tells content files moment images old new m hs from key mark n) where
  begins : IsBeginning m from key mark n
  begins = beginning m p.sound.memory from key mark n p.is_mark p.next

  step : tells ≡ true → Readies (in_name n) (len_of mark) (content old) (content new)
  step t =
      let was = p.read (content new) (p.told t new) in
      subst (λ (w : World). Readies (in_name n) (len_of mark) w (content new)) (p.reads old was.0 was.1).1 was.2

  files_there : tells ≡ true → HasFiles m.books.folding.state (content old)
  files_there t = (p.sound.kept p.whole (content old) (p.as_read old (content old) (p.told t old))).files t

  alike : (d c : World) → Readies (in_name n) (len_of mark) d c → AreAlike m.books.folding.state d c
  alike = alike_opened m p.sound.memory from key mark n begins

  -- a world that is kept stays so
  stays : (d c : World) → IsKept tells (content old) m d → Readies (in_name n) (len_of mark) d c → IsKept tells (content old) m c
  stays d c kept made = record {
    ledger = (kept.ledger.0, made.others.others ledger_name (λ same. in_not_ledger n (sym same)) ∙ kept.ledger.1, kept.ledger.2);
    files = λ t. alike_files m.books.folding.state d c (kept.files t) (alike d c made);
    same = λ t. alike_shelf m.books.folding.state d c (kept.files t) (alike d c made) ∙ kept.same t;
  }

  kept_each : (k : ℕ) (c : World) → moment old ≤ k → k ≤ moment new → images new k c → IsKept tells (content old) m c
  kept_each k c above below image = let was = p.run.each k c above below image in stays was.0 c (p.sound.kept p.whole was.0 was.1) was.2

  -- at each moment of the call a stop leaves what was told before it, and so it does at its end
  quiet : (m' : Memory) (answer : _) → (tells ≡ true → shelf_of (stored_in (content new) m') ≡ shelf_of (stored_in (content old) m)) → StoreMade (state_of tells (content old) (faults old) m) (Part_open from key) answer (state_of tells (content new) (faults new) m')
      → StoreKept (standing tells content faults moment images old m) (Part_open from key) answer (standing tells content faults moment images new m')
  quiet m' answer same made = record {
    made = made;
    later = p.run.grew.later;
    before = λ k o le left. (left.0, left.1, p.run.grew.before k left.1 le left.2, left.3);
    since = λ k o above below left.
        let now = kept_opens tells left.0 (content old) m p.sound.memory.books.folds left.1 (kept_each k left.1 (omega (arith, above)) below left.2) in
        opens_to (StorePasses (state_of tells (content old) (faults old) m) (Part_open from key)) left.1 (shelf_in left.1 m.books.folding.state) now.0
        (Before_it (is_told tells left.0 (content old) (faults old) m (shelf_in left.1 m.books.folding.state) now.1)) o left.3;
    now = λ whole o left.
        opens_weaker (λ d. d ≡ shelf_of (stored_in (content old) m)) (IsShelf (state_of tells (content new) (faults new) m').content)
        (λ d is. is_told tells left.0 (content new) (faults new) m' d (is ∙ sym (same left.0))) o
        (settled tells content faults moment images new (content old) m p.sound.memory.books.folds (λ w image. kept_each (moment new) w p.run.grew.later (omega arith) image) o left);
  }

  -- the part is open
  module _ (calm : faults new ≡ faults old) (few : n ≤ MAX_NUMBER) where
    abbrev after : Memory
    after = opened_memory m hs from key mark n

    same_shelf : tells ≡ true → shelf_of (stored_in (content new) after) ≡ shelf_of (stored_in (content old) m)
    same_shelf t = ap shelf_of (stored_opened m p.sound.memory from key mark p.is_mark n p.next begins hs tells (content old) (content new) step files_there t)

    pub open_kept : StoreKept (standing tells content faults moment images old m) (Part_open from key) (Part_opened n (len_of mark)) (standing tells content faults moment images new after)
    open_kept =
        let cs = sizes_in tells (content old) m.given in
        quiet after (Part_opened n (len_of mark)) same_shelf (
          sym (number_is m p.sound.memory from key mark p.is_mark cs n p.next),
          sym (begins_is m p.sound.memory from key mark p.is_mark cs 0 n p.next refl),
          few,
          opened_told m p.sound.memory from key mark p.is_mark n p.next begins hs tells (content old) (content new) step files_there (faults old) (faults new) calm,
        )

    pub open_sound : IsAddress from → IsKey key → HasTime key → is_known from key m.books.folding.state ≡ false → is_held from key hs ≡ true → Every (files new) (HasLength (in_name n) (len_of mark)) → IsSound tells content moment images new after
    open_sound address file_key time unknown held ready = record {
      memory = memory_opened m p.sound.memory from key mark n begins hs address file_key time unknown p.others held;
      kept = λ whole w image.
          let k = kept_each (moment new) w p.run.grew.later (omega arith) image in
          record { ledger = k.ledger; files = k.files; same = λ t. k.same t ∙ sym (same_shelf t) };
      bodies = λ whole t. bodies_opened m p.sound.memory from key mark n begins (content old) (content new) (step t) hs (p.sound.bodies p.whole t) (ready (content new) (p.told t new));
    }

  -- the disk failed

  abbrev failed : ℕ → Memory
  failed count = record m { books = held_books m.books hs; broken = Some count }

  -- a part of another file has another number
  other_number : (ps : List Part) → AllByRecursion (λ (x : Part). is_same from key x.from x.key ≡ false → x.number ≢ n) ps → (x : MarkOf ℕ) → Member x (map (part_by (sizes_in tells (content old) m.given)) ps) → is_same from key x.from x.key ≡ false → x.number ≢ n
  other_number [] all x there differs = absurd there
  other_number (y ∷ ps) all x (inl e) differs = subst (λ (z : MarkOf ℕ). is_same from key z.from z.key ≡ false → z.number ≢ n) (sym e) all.0 differs
  other_number (y ∷ ps) all x (inr there) differs = other_number ps all.1 x there differs

  told_others : AllByRecursion (λ (x : Part). is_same from key x.from x.key ≡ false → x.number ≢ n) (told_parts m.drawn m.parts)
  told_others = subst (λ (b : Bool). AllByRecursion (λ (x : Part). is_same from key x.from x.key ≡ false → x.number ≢ n) (if b then m.parts else [])) (sym p.sound.memory.orderly) begins.others

  -- and is found with what it had
  others_found : (t : tells ≡ true) (number : ℕ) → number ≢ n → (ps : List Part) → part_in number (map (part_by (told_in (content new) m.given)) ps) ≡ part_in number (map (part_by (told_in (content old) m.given)) ps)
  others_found t number differs [] = refl
  others_found t number differs (x ∷ ps) = go (x.number == number) refl (others_found t number differs ps)
    where
      same : x.number ≡ number → part_by (told_in (content new) m.given) x ≡ part_by (told_in (content old) m.given) x
      same is = λ i. record { number = x.number; from = x.from; key = x.key; bytes = front_of x.have (bytes_of ((step t).others.others (in_name x.number) (λ e. differs (sym is ∙ one_in_name x.number n e)) i)) }

      go : (b : Bool) → (x.number == number) ≡ b → part_in number (map (part_by (told_in (content new) m.given)) ps) ≡ part_in number (map (part_by (told_in (content old) m.given)) ps)
          → (if b then Some (part_by (told_in (content new) m.given) x) else part_in number (map (part_by (told_in (content new) m.given)) ps)) ≡ (if b then Some (part_by (told_in (content old) m.given) x) else part_in number (map (part_by (told_in (content old) m.given)) ps))
      go true is rest = ap Some (same ((Decides-eqb x.number number).0 is))
      go false is rest = rest

  failed_shelf : (count : ℕ) → tells ≡ true → shelf_of (stored_in (content new) (failed count)) ≡ shelf_of (stored_in (content old) m)
  failed_shelf count t = shelf_told m (content old) (content new) (files_there t) (alike (content old) (content new) (step t))

  sized : sizes_in tells (content new) m.given ≡ sizes_in tells (content old) m.given
  sized = same_sizes tells (content old) (content new) m.given (λ t. (alike (content old) (content new) (step t)).gifts) (λ t. same_alike m.books.folding.state (content old) (content new) m.given p.sound.memory.given (alike (content old) (content new) (step t)))

  abbrev passes : Stored → Stored → Type 0
  passes a b =
      StorePasses (state_of tells (content old) (faults old) m) (Part_open from key) (shelf_of b) × Logs m.seat a.log b.log
      × PartsStay (Part_open from key) (state_of tells (content old) (faults old) m).stock a.stock b.stock

  content_failed : TellsOn passes (state_of tells (content old) (faults old) m).content (state_of tells (content new) (faults new) (failed (faults new))).content
  content_failed = go tells (λ t. (
    Before_it (is_told tells t (content old) (faults old) m (shelf_of (stored_in (content new) (failed (faults new)))) (failed_shelf (faults new) t)),
    record { rest = []; grows = sym (append-nil (stored_in (content old) m).log); own = tt },
    λ x there loses. others_found t x.number (other_number (told_parts m.drawn m.parts) told_others x there loses) (told_parts m.drawn m.parts),
  ))
    where
      go : (b : Bool) → (b ≡ true → passes (stored_in (content old) m) (stored_in (content new) (failed (faults new)))) → TellsOn passes (if b then Some (stored_in (content old) m) else None) (if b then Some (stored_in (content new) (failed (faults new))) else None)
      go true is = is refl
      go false is = tt

  pub open_failed : Increased (faults old) (faults new) → StoreKept (standing tells content faults moment images old m) (Part_open from key) (Refuses Disk) (standing tells content faults moment images new (failed (faults new)))
  open_failed rose =
      quiet (failed (faults new)) (Refuses Disk) (failed_shelf (faults new)) (record {
        touches = tt;
        rose = rose;
        counts = refl;
        stock = Stock_before (ap (λ (c : Contents ℕ). durable_by c m.books.folding.state) sized);
        parts = λ x there loses. ap (λ (c : Contents ℕ). part_in x.number (map (part_by c) (told_parts m.drawn m.parts))) sized;
        content = content_failed;
        seat = refl;
      })

  pub failed_open_sound : (count : ℕ) → IsSound tells content moment images new (failed count)
  failed_open_sound count = broken_sound tells content moment images new (failed count) count refl (memory_broken (record m { books = held_books m.books hs }) count (memory_held m hs p.sound.memory p.others))

-- no number is left
pub open_full : {D : Type 0} (tells : Bool) (content : D → World) (faults moment : D → ℕ) (images : D → ℕ → World → Type 0) (disk : D) (m : Memory) (from : Address) (key : Key) (mark : Option PartAt) → IsSound tells content moment images disk m → m.broken ≡ None
    → mark ≡ option_map at_mark (find (is_mark_of from key) m.books.folding.state.marks) → None ≡ next_number mark (find (has_file from key) m.parts) m.drawn
    → StoreKept (standing tells content faults moment images disk m) (Part_open from key) (Refuses Full) (standing tells content faults moment images disk (record m { fulls = next_count m.fulls }))
open_full tells content faults moment images disk m from key mark sound whole is_mark next =
    still_call tells content faults moment images disk m (record m { fulls = next_count m.fulls }) (Part_open from key) (Refuses Full) sound.memory.books.folds sound.kept refl
    (full_is m sound.memory from key mark is_mark (sizes_in tells (content disk) m.given) next, refl)

-- no memory
pub open_unmade : {D : Type 0} (tells : Bool) (content : D → World) (faults moment : D → ℕ) (images : D → ℕ → World → Type 0) (disk : D) (m : Memory) (from : Address) (key : Key) → IsSound tells content moment images disk m → m.broken ≡ None
    → StoreKept (standing tells content faults moment images disk m) (Part_open from key) (Refuses NoMemory) (standing tells content faults moment images disk m)
open_unmade tells content faults moment images disk m from key sound whole =
    still_call tells content faults moment images disk m m (Part_open from key) (Refuses NoMemory) sound.memory.books.folds sound.kept refl (tt, refl)
