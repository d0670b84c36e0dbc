-- Putting bytes behind those of an open part, whole.
use Rattle.std.proofs.Common.{◌≡◌, ℕ, ◌+◌, ◌^◌, ◌==◌, ◌<◌, ◌≤◌, List, [], ◌∷◌, length, map, take, Option, Some, None, Bool, true, false, refl, sym, ◌∙◌, ap, subst, arith, append-nil}
use Rattle.std.specs.Prelude.{find, option_map, if◌then◌else◌}
use Rattle.std.specs.List.{AllByRecursion}
use Rattle.std.proofs.lemmas.Bool.Decides.{Decides-eqb}
use Rattle.ftn_addr.specs.Counts.{Increased}
use Rattle.disk_model.specs.World.{World}
use Rattle.disk_model.specs.Changes.{Every, Follows, Stands, OnOwn, Rewrites, Holds, Torn}
use Rattle.disk_model.specs.Moments.{Steps}
use Rattle.ledger_file.specs.Ledger.{ledger_name, LedgerIs}
use Rattle.ledger_rec.specs.Fold.{Folding}
use Rattle.node_model.specs.declared.store.StoreFault.TheVariants.{Disk}
use Rattle.node_model.specs.Items.{Mark, MarkOf}
use Rattle.node_model.specs.Calls.{Logs}
use Rattle.node_model.specs.Stocks.{part_in}
use Rattle.node_model.specs.StoreStates.{Stored, shelf_of}
use Rattle.node_model.specs.Stores.{StoreKept, Part_put, Well, Refuses, IsOpen, StorePasses, Before_it, Stock_before, TellsOn, PartsStay}
use Rattle.node_model.proofs.Lists.{some_inj, none_some, off}
use Rattle.node_store.specs.Contents.{Contents, durable_by}
use Rattle.node_store.specs.Names.{in_name}
use Rattle.node_store.specs.Stored.{Part, Memory, front_of, told_in, is_orderly, told_parts, part_by, sizes_in, stored_in, state_of, grown, IsPart, IsMemory, IsKept, HasBodies, IsSound}
use Rattle.node_store.specs.Tied.{orderly_true}
use Rattle.node_store.specs.Worlds.{bytes_of, HasLength, HasFiles}
use Rattle.node_store.proofs.Alike.{AreAlike, put_alike, all_of, all_by}
use Rattle.node_store.proofs.Calls.{standing, is_told}
use Rattle.node_store.proofs.NameLaws.{one_in_name, in_not_ledger}
use Rattle.node_store.proofs.Puts.{stored_put, put_told, same_sizes, one_length}
use Rattle.node_store.proofs.PutSound.{told_holds, memory_put, bodies_put}
use Rattle.node_store.proofs.TellAlike.{front_there, shelf_told}
use Rattle.node_store.proofs.Quiet.{IsQuiet, quiet_kept, quiet_now, quiet_call, retold}
use Rattle.node_store.proofs.GivenFiles.{same_alike}

-- the first part with that number

pub found_of : {B : Type 0} (cs : Contents B) (number : ℕ) (ps : List Part) → part_in number (map (part_by cs) ps) ≡ option_map (part_by cs) (find (λ (p : Part). p.number == number) ps)
found_of cs number [] = refl
found_of cs number (p ∷ ps) = go (p.number == number) (found_of cs number ps)
  where
    go : (b : Bool) → part_in number (map (part_by cs) ps) ≡ option_map (part_by cs) (find (λ (q : Part). q.number == number) ps)
        → (if b then Some (part_by cs p) else part_in number (map (part_by cs) ps)) ≡ option_map (part_by cs) (if b then Some p else find (λ (q : Part). q.number == number) ps)
    go true rest = refl
    go false rest = rest

pub all_found : (P : Part → Type 0) (number : ℕ) (ps : List Part) (q : Part) → AllByRecursion P ps → find (λ (p : Part). p.number == number) ps ≡ Some q → P q × (q.number ≡ number)
all_found P number [] q all is = none_some is
all_found P number (p ∷ ps) q all is = go (p.number == number) refl is (all_found P number ps q all.1)
  where
    go : (b : Bool) → (p.number == number) ≡ b → (if b then Some p else find (λ (x : Part). x.number == number) ps) ≡ Some q → (find (λ (x : Part). x.number == number) ps ≡ Some q → P q × (q.number ≡ number)) → P q × (q.number ≡ number)
    go true same e rest = (subst P (some_inj e) all.0, sym (ap (λ (x : Part). x.number) (some_inj e)) ∙ (Decides-eqb p.number number).0 same)
    go false other e rest = rest e

-- what a call that puts bytes is given
pub record IsPutting {D : Type 0} (tells : Bool) (content : D → World) (files : D → World → Type 0) (moment : D → ℕ) (images : D → ℕ → World → Type 0) (old new : D) (m : Memory) (q : Part) (bytes : List ℕ) : Type 0 where
  pub sound : IsSound tells content moment images old m
  pub whole : m.broken ≡ None
  pub found : find (λ (p : Part). p.number == q.number) m.parts ≡ Some q
  pub as_read : (d : D) (w : World) → files d w → images d (moment d) w
  pub reads : (d : D) (w : World) → files d w → (tells ≡ true) × (w ≡ content d)
  pub told : tells ≡ true → (d : D) → files d (content d)
  pub read : Follows (OnOwn (Rewrites (in_name q.number) (Torn q.have (length bytes)))) (files old) (files new)
  pub stop : Steps moment images (OnOwn (Rewrites (in_name q.number) (Torn q.have (length bytes)))) old new

module _ {D : Type 0} (tells : Bool) (content : D → World) (files : D → World → Type 0) (faults moment : D → ℕ) (images : D → ℕ → World → Type 0) (old new : D) (m : Memory) (q : Part) (bytes : List ℕ)
    (p : IsPutting tells content files moment images old new m q bytes) where
  part_is : IsPart m.books.folding q
  part_is = (all_found (IsPart m.books.folding) q.number m.parts q p.sound.memory.parts p.found).0

  -- of what is read
  step_of : (R : World → World → Type 0) → Follows R (files old) (files new) → tells ≡ true → R (content old) (content new)
  step_of R follows t =
      let was = follows (content new) (p.told t new) in
      subst (λ (w : World). R w (content new)) (p.reads old was.0 was.1).1 was.2

  torn : tells ≡ true → OnOwn (Rewrites (in_name q.number) (Torn q.have (length bytes))) (content old) (content new)
  torn t = step_of (OnOwn (Rewrites (in_name q.number) (Torn q.have (length bytes)))) p.read t

  pub alike : tells ≡ true → AreAlike m.books.folding.state (content old) (content new)
  alike t = put_alike q.number q.have (length bytes) (content old) (content new) (torn t) m.books.folding.state part_is.received part_is.marks

  pub files_there : tells ≡ true → HasFiles m.books.folding.state (content old)
  files_there t = (p.sound.kept p.whole (content old) (p.as_read old (content old) (p.told t old))).files t

  pub has_bodies : tells ≡ true → HasBodies m (content old)
  has_bodies t = p.sound.bodies p.whole t

  pub body_there : tells ≡ true → HasLength (in_name q.number) q.have (content old)
  body_there t = (all_found (λ (x : Part). HasLength (in_name x.number) x.have (content old)) q.number m.parts q (has_bodies t).parts p.found).0

  stays : (d c : World) → IsKept tells (content old) m d → OnOwn (Rewrites (in_name q.number) (Torn q.have (length bytes))) d c → IsKept tells (content old) m c
  stays = quiet_kept tells (content old) m (OnOwn (Rewrites (in_name q.number) (Torn q.have (length bytes)))) ledger quiet
    where
      ledger : (d c : World) → LedgerIs m.books.payloads d → OnOwn (Rewrites (in_name q.number) (Torn q.have (length bytes))) d c → LedgerIs m.books.payloads c
      ledger d c l step = (l.0, step.own.others ledger_name (λ same. in_not_ledger q.number (sym same)) ∙ l.1, l.2)

      quiet : tells ≡ true → IsQuiet (OnOwn (Rewrites (in_name q.number) (Torn q.have (length bytes)))) m.books.payloads m.books.folding.state
      quiet t d c l has step = (ledger d c l step, put_alike q.number q.have (length bytes) d c step m.books.folding.state part_is.received part_is.marks)

  -- the bytes were put
  module _ (written : Follows (OnOwn (Rewrites (in_name q.number) (Holds q.have bytes))) (files old) (files new)) (calm : faults new ≡ faults old) (fits : AllByRecursion (λ (x : Part). x.number ≡ q.number → x.have + length bytes ≤ x.key.size) m.parts) where
    step : tells ≡ true → OnOwn (Rewrites (in_name q.number) (Holds q.have bytes)) (content old) (content new)
    step t = step_of (OnOwn (Rewrites (in_name q.number) (Holds q.have bytes))) written t

    abbrev after : Memory
    after = record m { parts = map (grown q.number (length bytes)) m.parts }

    same_shelf : tells ≡ true → shelf_of (stored_in (content new) after) ≡ shelf_of (stored_in (content old) m)
    same_shelf t = ap shelf_of (stored_put tells (content old) (content new) q.number q.have bytes m body_there has_bodies step files_there alike t)

    pub put_kept : StoreKept (standing tells content faults moment images old m) (Part_put q.number bytes) Well (standing tells content faults moment images new after)
    put_kept =
        quiet_call tells content faults moment images (OnOwn (Rewrites (in_name q.number) (Torn q.have (length bytes)))) old new m after p.sound.memory.books.folds (p.sound.kept p.whole) stays p.stop (Part_put q.number bytes) Well same_shelf
        (put_told tells (content old) (content new) q.number q.have bytes m body_there has_bodies step files_there alike (faults old) (faults new) calm)

    pub put_sound : IsSound tells content moment images new after
    put_sound = record {
      memory = memory_put q.number (length bytes) m fits p.sound.memory;
      kept = λ whole w now. retold tells (content old) (content new) m after refl same_shelf w
          (quiet_now tells content faults moment images (OnOwn (Rewrites (in_name q.number) (Torn q.have (length bytes)))) old new m after p.sound.memory.books.folds (p.sound.kept p.whole) stays p.stop w now);
      bodies = λ whole t. bodies_put q.number q.have bytes (content old) (content new) m (body_there t) (step t) (has_bodies t);
    }

  -- the disk failed
  part_torn : (t : tells ≡ true) (x : Part) → HasLength (in_name x.number) x.have (content old) → part_by (told_in (content new) m.given) x ≡ part_by (told_in (content old) m.given) x
  part_torn t x has = ap (λ (b : List ℕ). record { number = x.number; from = x.from; key = x.key; bytes = b }) (go (x.number == q.number) refl)
    where
      same : x.number ≡ q.number → front_of x.have (bytes_of ((content new).own (in_name x.number))) ≡ front_of x.have (bytes_of ((content old).own (in_name x.number)))
      same is =
          let named : in_name x.number ≡ in_name q.number = ap in_name is in
          let have : x.have ≡ q.have = one_length (in_name q.number) x.have q.have (content old) (subst (λ (k : ℕ). HasLength (in_name k) x.have (content old)) is has) (body_there t) in
          let f = (torn t).own.file has.0 (ap (content old).own (sym named) ∙ has.1) in
          let before : take x.have f.0 ≡ take x.have has.0 = ap (λ (k : ℕ). take k f.0) have ∙ f.2.before ∙ ap (λ (k : ℕ). take k has.0) (sym have) in
          ap (λ (o : Option (List ℕ)). front_of x.have (bytes_of o)) (ap (content new).own named ∙ f.1)
          ∙ front_there x.have f.0 (omega (arith, f.2.no_shorter, has.2)) ∙ before ∙ sym (front_there x.have has.0 (omega (arith, has.2)))
          ∙ sym (ap (λ (o : Option (List ℕ)). front_of x.have (bytes_of o)) has.1)

      go : (b : Bool) → (x.number == q.number) ≡ b → front_of x.have (bytes_of ((content new).own (in_name x.number))) ≡ front_of x.have (bytes_of ((content old).own (in_name x.number)))
      go true is = same ((Decides-eqb x.number q.number).0 is)
      go false other =
          ap (λ (o : Option (List ℕ)). front_of x.have (bytes_of o)) ((torn t).own.others (in_name x.number) (λ e. off (sym ((Decides-eqb x.number q.number).1 (one_in_name x.number q.number e)) ∙ other)))

  parts_torn : (t : tells ≡ true) (xs : List Part) → AllByRecursion (λ (x : Part). HasLength (in_name x.number) x.have (content old)) xs → map (part_by (told_in (content new) m.given)) xs ≡ map (part_by (told_in (content old) m.given)) xs
  parts_torn t [] all = refl
  parts_torn t (x ∷ xs) all = λ i. part_torn t x all.0 i ∷ parts_torn t xs all.1 i

  told_there : (t : tells ≡ true) → AllByRecursion (λ (x : Part). HasLength (in_name x.number) x.have (content old)) (told_parts m.drawn m.parts)
  told_there t = go (is_orderly m.drawn m.parts) (has_bodies t).parts
    where
      go : (b : Bool) → AllByRecursion (λ (x : Part). HasLength (in_name x.number) x.have (content old)) m.parts → AllByRecursion (λ (x : Part). HasLength (in_name x.number) x.have (content old)) (if b then m.parts else [])
      go true all = all
      go false all = tt

  abbrev failed : Memory
  failed = record m { broken = Some (faults new) }

  same_failed : tells ≡ true → shelf_of (stored_in (content new) failed) ≡ shelf_of (stored_in (content old) m)
  same_failed t = shelf_told m (content old) (content new) (files_there t) (alike t)

  sized : sizes_in tells (content new) m.given ≡ sizes_in tells (content old) m.given
  sized = same_sizes tells (content old) (content new) m.given (λ t. (alike t).gifts) (λ t. same_alike m.books.folding.state (content old) (content new) m.given p.sound.memory.given (alike t))

  abbrev passes : Stored → Stored → Type 0
  passes a b =
      StorePasses (state_of tells (content old) (faults old) m) (Part_put q.number bytes) (shelf_of b) × Logs m.seat a.log b.log
      × PartsStay (Part_put q.number bytes) (state_of tells (content old) (faults old) m).stock a.stock b.stock

  content_failed : TellsOn passes (state_of tells (content old) (faults old) m).content (state_of tells (content new) (faults new) failed).content
  content_failed = go tells (λ t. (
    Before_it (is_told tells t (content old) (faults old) m (shelf_of (stored_in (content new) failed)) (same_failed t)),
    record { rest = []; grows = sym (append-nil (stored_in (content old) m).log); own = tt },
    λ x there loses. ap (λ (l : List Mark). part_in x.number l) (parts_torn t (told_parts m.drawn m.parts) (told_there t)),
  ))
    where
      go : (b : Bool) → (b ≡ true → passes (stored_in (content old) m) (stored_in (content new) failed)) → TellsOn passes (if b then Some (stored_in (content old) m) else None) (if b then Some (stored_in (content new) failed) else None)
      go true is = is refl
      go false is = tt

  pub put_failed : Increased (faults old) (faults new) → StoreKept (standing tells content faults moment images old m) (Part_put q.number bytes) (Refuses Disk) (standing tells content faults moment images new failed)
  put_failed rose =
      quiet_call tells content faults moment images (OnOwn (Rewrites (in_name q.number) (Torn q.have (length bytes)))) old new m failed p.sound.memory.books.folds (p.sound.kept p.whole) stays p.stop (Part_put q.number bytes) (Refuses Disk) same_failed
      (record {
        touches = tt;
        rose = rose;
        counts = refl;
        stock = Stock_before (ap (λ (c : Contents ℕ). durable_by c m.books.folding.state) sized);
        parts = λ x there loses. ap (λ (c : Contents ℕ). part_in x.number (map (part_by c) (told_parts m.drawn m.parts))) sized;
        content = content_failed;
        seat = refl;
      })

  pub failed_sound : IsSound tells content moment images new failed
  failed_sound = record {
    memory = record { books = p.sound.memory.books; orderly = p.sound.memory.orderly; parts = p.sound.memory.parts; marked = p.sound.memory.marked; received = p.sound.memory.received; numbers = p.sound.memory.numbers; given = p.sound.memory.given; staged = p.sound.memory.staged; queued = p.sound.memory.queued };
    kept = λ whole. none_some (sym whole);
    bodies = λ whole. none_some (sym whole);
  }

-- the open part of which a caller speaks
pub record IsOpenPart (number n : ℕ) (m : Memory) : Type 0 where
  pub part : Part
  pub found : find (λ (p : Part). p.number == number) m.parts ≡ Some part
  pub numbered : part.number ≡ number
  pub fits : AllByRecursion (λ (p : Part). p.number ≡ number → p.have + n ≤ p.key.size) m.parts

some_of : (cs : Contents ℕ) (o : Option Part) (x : MarkOf ℕ) → option_map (part_by cs) o ≡ Some x → (q : Part) × (o ≡ Some q)
some_of cs None x is = none_some is
some_of cs (Some q) x is = (q, refl)

pub open_part : (tells : Bool) (w : World) (faults : ℕ) (m : Memory) (number n : ℕ) → IsMemory m → IsOpen number n (state_of tells w faults m) → IsOpenPart number n m
open_part tells w faults m number n is o =
    let cs = sizes_in tells w m.given in
    let there : part_in number (map (part_by cs) m.parts) ≡ Some o.part = ap (λ (b : Bool). part_in number (map (part_by cs) (if b then m.parts else []))) (sym is.orderly) ∙ o.is in
    let q = some_of cs (find (λ (p : Part). p.number == number) m.parts) o.part (sym (found_of cs number m.parts) ∙ there) in
    let holds = told_holds cs number m.parts o.part (orderly_true m.drawn m.parts is.orderly).0 there in
    record {
      part = q.0;
      found = q.1;
      numbered = (all_found (λ (p : Part). Unit {0}) number m.parts q.0 (all_of (λ (p : Part). Unit {0}) (λ p. tt) m.parts) q.1).1;
      fits = all_by (λ (p : Part). p.number ≡ number → part_by cs p ≡ o.part) (λ (p : Part). p.number ≡ number → p.have + n ≤ p.key.size)
          (λ p told same. subst (λ (x : MarkOf ℕ). x.bytes + n ≤ x.key.size) (sym (told same)) o.fits) m.parts holds;
    }

-- the file of an open part stands, with what it has
pub stands : {D : Type 0} (tells : Bool) (content : D → World) (files : D → World → Type 0) (moment : D → ℕ) (images : D → ℕ → World → Type 0) (old : D) (m : Memory) (q : Part) → IsSound tells content moment images old m → m.broken ≡ None
    → find (λ (p : Part). p.number == q.number) m.parts ≡ Some q → ((d : D) (w : World) → files d w → (tells ≡ true) × (w ≡ content d)) → Every (files old) (Stands (in_name q.number) q.have)
stands tells content files moment images old m q sound whole found reads = λ w read.
    let r = reads old w read in
    let b = (all_found (λ (x : Part). HasLength (in_name x.number) x.have (content old)) q.number m.parts q (sound.bodies whole r.0).parts found).0 in
    (b.0, ap (λ (v : World). v.own (in_name q.number)) r.1 ∙ b.1, omega (arith, b.2))

-- so many bytes more are no more than a number can have
pub fits_range : (f : Folding) (number n : ℕ) (ps : List Part) → AllByRecursion (IsPart f) ps → AllByRecursion (λ (p : Part). p.number ≡ number → p.have + n ≤ p.key.size) ps → AllByRecursion (λ (p : Part). p.number ≡ number → p.have + n < 2 ^ 64) ps
fits_range f number n [] is fits = tt
fits_range f number n (p ∷ ps) is fits = (λ same. omega (arith, is.0.sizes.0, fits.0 same), fits_range f number n ps is.1 fits.1)
