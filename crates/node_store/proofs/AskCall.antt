-- Calls that only ask the disk: nothing that is kept changes, and where the disk failed the store is broken.
use Rattle.std.proofs.Common.{◌≡◌, ℕ, ◌≤◌, List, length, take, drop, Option, Some, None, Result, Bool, true, false, refl, sym, ◌∙◌, ap, subst, arith}
use Rattle.std.specs.Prelude.{IsSome, option_map}
use Rattle.disk_model.specs.Answers as D
use Rattle.disk_model.specs.World as W
use Rattle.disk_model.specs.World.{World}
use Rattle.disk_model.specs.Changes.{Every, Same}
use Rattle.disk_model.specs.Folders.{ListsFolder}
use Rattle.disk_model.specs.Moments.{Steps, Leaves}
use Rattle.disk_model.proofs.MomentLemmas.{started, goes_on}
use Rattle.ftn_addr.specs.Counts.{Increased}
use Rattle.node_model.specs.declared.store.StoreFault.{StoreFault}
use Rattle.node_model.specs.StoreStates.{IfTold, shelf_of}
use Rattle.node_model.specs.Stores.{IsShelf}
use Rattle.node_model.proofs.Lists.{none_some, off, some_inj}
use Rattle.node_store.specs.Asking.{FailsDisk, AskedSo, Asks, ListsOutside, stat_of}
use Rattle.node_store.specs.Names.{take_number}
use Rattle.node_store.specs.Stored.{Memory, IsKept, HasBodies, IsSound, stored_in, state_of}
use Rattle.node_store.specs.Worlds.{bytes_of, if_take, out_file_of, shelf_in, takes_in}
use Rattle.node_store.proofs.AppendTold.{broken_sound}
use Rattle.node_store.proofs.Calls.{standing, is_told, kept_opens}
use Rattle.node_store.proofs.Openings.{opens_to}
use Rattle.node_store.proofs.ReadCall.{same_state}

-- What the disk says, in the store's words.

pub looked : (o : Option W.OutFile) → option_map D.stat_of o ≡ option_map stat_of (option_map out_file_of o)
looked None = refl
looked (Some f) = refl

-- the names in a folder
pub lists_told : {D : Type 0} (files : D → World → Type 0) (tells : Bool) (content : D → World) → (tells ≡ true → (d : D) → files d (content d)) → (disk : D) (faults : ℕ) (m : Memory) (folder : List ℕ) (names : List (List ℕ))
    → Every (files disk) (λ w. ListsFolder folder w.outside names) → IfTold (state_of tells (content disk) faults m).content (λ s. ListsOutside folder s.outside names)
lists_told files true content told disk faults m folder names lists = record { files = (content disk).outside; are = refl; lists = lists (content disk) (told refl disk) }
lists_told files false content told disk faults m folder names lists = tt

pub own_take : (w : World) (own : List ℕ) → IsSome (take_number own) → takes_in w own ≡ w.own own
own_take w own some = go (take_number own) some
  where
    go : (o : Option ℕ) → IsSome o → if_take o (w.own own) ≡ w.own own
    go None none = off (sym none)
    go (Some n) is = refl

-- what was read of a file of that length
pub came_own : (w : World) (name : List ℕ) (size count at room : ℕ) (out : List ℕ) (stat : Option ℕ) → stat ≡ option_map length (w.own name) → stat ≡ Some size → ((b : List ℕ) → w.own name ≡ Some b → length b ≡ size → take count out ≡ take room (drop at b))
    → take count out ≡ take room (drop at (bytes_of (w.own name)))
came_own w name size count at room out stat told is came = go (w.own name) refl (sym told ∙ is)
  where
    go : (o : Option (List ℕ)) → w.own name ≡ o → option_map length o ≡ Some size → take count out ≡ take room (drop at (bytes_of o))
    go None none clash = none_some clash
    go (Some b) some len = came b some (some_inj len)

-- one such call is a run of them
pub once : {D : Type 0} (moment : D → ℕ) (images : D → ℕ → World → Type 0) (old new : D) → Steps moment images Same old new → Leaves moment images Same old new
once moment images old new call =
    goes_on moment images Same Same old old new (started moment images Same old (λ c now. refl)) call (λ c now. call.now c now)

-- and two
pub twice : {D : Type 0} (moment : D → ℕ) (images : D → ℕ → World → Type 0) (old mid new : D) → Steps moment images Same old mid → Steps moment images Same mid new → Leaves moment images Same old new
twice moment images old mid new first second =
    goes_on moment images Same Same old mid new (once moment images old mid first) second
    (λ c now. let was = second.now c now in let before = first.now was.0 was.1 in (before.0, before.1, was.2 ∙ before.2))

module _ {D : Type 0} (tells : Bool) (content : D → World) (faults moment : D → ℕ) (images : D → ℕ → World → Type 0) (old new : D) (m : Memory)
    (sound : IsSound tells content moment images old m) (whole : m.broken ≡ None) (same : tells ≡ true → content new ≡ content old) (run : Leaves moment images Same old new) where
  kept_at : (k : ℕ) (w : World) → moment old ≤ k → k ≤ moment new → images new k w → IsKept tells (content old) m w
  kept_at k w from to image = let was = run.each k w from to image in subst (IsKept tells (content old) m) (sym was.2) (sound.kept whole was.0 was.1)

  -- what is answered, after a memory that says as much
  pub asks : {T : Type 0} (memory : Bool) (result : Result T StoreFault) (m' : Memory) → AskedSo memory result (state_of tells (content old) (faults old) m) (state_of tells (content new) (faults new) m')
      → Asks memory result (standing tells content faults moment images old m) (standing tells content faults moment images new m')
  asks memory result m' made = record {
    made = made;
    grew = record {
      later = run.grew.later;
      before = λ k o le left. (left.0, left.1, run.grew.before k left.1 le left.2, left.3);
    };
    since = λ k o from to left.
        let now = kept_opens tells left.0 (content old) m sound.memory.books.folds left.1 (kept_at k left.1 from to left.2) in
        opens_to (IsShelf (state_of tells (content old) (faults old) m).content) left.1 (shelf_in left.1 m.books.folding.state) now.0
        (is_told tells left.0 (content old) (faults old) m (shelf_in left.1 m.books.folding.state) now.1) o left.3;
  }

  pub asks_unchanged : faults new ≡ faults old → state_of tells (content new) (faults new) m ≡ state_of tells (content old) (faults old) m
  asks_unchanged calm = same_state tells (content old) (content new) (faults new) m same ∙ ap (λ (n : ℕ). state_of tells (content old) n m) calm

  -- the disk failed
  pub asks_failed : Increased (faults old) (faults new) → FailsDisk (state_of tells (content old) (faults old) m) (state_of tells (content new) (faults new) (record m { broken = Some (faults new) }))
  asks_failed rose = record { rose = rose; same = same_state tells (content old) (content new) (faults new) (record m { broken = Some (faults new) }) same }

  pub asks_sound : IsSound tells content moment images new m
  asks_sound = record {
    memory = sound.memory;
    kept = λ still w image.
        let kept = kept_at (moment new) w run.grew.later (omega arith) image in
        record { ledger = kept.ledger; files = kept.files; same = λ t. kept.same t ∙ ap (λ (v : World). shelf_of (stored_in v m)) (sym (same t)) };
    bodies = λ still t. subst (HasBodies m) (sym (same t)) (sound.bodies whole t);
  }

  pub asks_broken : (count : ℕ) → IsSound tells content moment images new (record m { broken = Some count })
  asks_broken count = broken_sound tells content moment images new m count sound.memory
