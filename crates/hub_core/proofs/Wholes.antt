-- The disk failed while a part that was opened became a receipt.
use Rattle.std.proofs.Common.{◌≡◌, ◌⊎◌, ℕ, Bool, List, [], ◌∷◌, ◌++◌, Option, Some, None, refl, sym, ◌∙◌, ap, subst, inl, inr, ◌≤◌}
use Rattle.ftn_addr.specs.declared.limits.TheConstants.{MAX_NUMBER}
use Rattle.std.proofs.Common.{length, option_map}
use Rattle.std.proofs.lemmas.List.{append-nil}
use Rattle.ftn_addr.specs.Address.{Address}
use Rattle.ftn_addr.specs.Key.{Key}
use Rattle.node_model.specs.declared.store.StoreFault.{StoreFault}
use Rattle.node_model.specs.declared.store.StoreFault.TheVariants as D
use Rattle.node_model.specs.Items.{MarkOf}
use Rattle.node_model.specs.Lists.{Member}
use Rattle.node_model.specs.Calls.{Logs}
use Rattle.node_model.specs.Node.{Logged}
use Rattle.node_model.specs.Durable.{unmarked}
use Rattle.node_model.specs.Stocks.{sizes, part_in, part_number, part_opened}
use Rattle.node_model.specs.Stores.{Shelf, Stored, StoreState, StoreTied, IfTold, TellsOn, IsShelf, shelf_of, StoreAnswer, Commit, Well, Refuses, StoreDoes, StoreMade, StorePasses, Before_it, Source_first, After_it, BreaksStore, PartsStay, Staged_as, Copied_as, Slots, Part_opened, Came, Gave_so, Acted_on, committed, stored_after}
use Rattle.hub_core.specs.Steps.{Broke, RefusedBy, OneMade, MayOpen, Stays, is_file, OpensFull, OpensUnder, OpensWhole, opened_under, received_whole, whole_under}
use Rattle.hub_core.proofs.Finding.{there_left}
use Rattle.hub_core.proofs.OpenParts.{stays_opened, number_apart}

some_same : {A : Type 0} {u v : A} → Some u ≡ Some v → u ≡ v
some_same e = cc

pub member_front : {A : Type 0} (xs ys : List A) (x : A) → Member x xs → Member x (xs ++ ys)
member_front [] ys x m = absurd m
member_front (y ∷ xs) ys x (inl same) = inl same
member_front (y ∷ xs) ys x (inr m) = inr (member_front xs ys x m)

-- a commit does one thing
pub commits : (mid : StoreState) (part session : ℕ) (secure : Bool) (answer : StoreAnswer) (new : StoreState) (p : MarkOf ℕ) → part_in part mid.stock.parts ≡ Some p → StoreDoes mid (Commit part session secure) answer new → new ≡ committed p session secure mid
commits mid part session secure Well new p is does =
    does.2 ∙ ap (λ (q : MarkOf ℕ). committed q session secure mid) (some_same (sym does.1 ∙ is))
commits mid part session secure (Staged_as number) new p is does = absurd does
commits mid part session secure (Slots slots) new p is does = absurd does
commits mid part session secure (Part_opened number len) new p is does = absurd does
commits mid part session secure (Came bytes) new p is does = absurd does
commits mid part session secure (Copied_as staged) new p is does = absurd does
commits mid part session secure (Gave_so gave) new p is does = absurd does
commits mid part session secure (Acted_on number) new p is does = absurd does
commits mid part session secure (Refuses fault) new p is does = absurd does

-- it is not refused but by the disk
pub commit_breaks : (mid new : StoreState) (part session : ℕ) (secure : Bool) (fault : StoreFault) → StoreMade mid (Commit part session secure) (Refuses fault) new → (fault ≡ D.Disk) × BreaksStore (Commit part session secure) mid new
commit_breaks mid new part session secure D.Disk made = (refl, made)
commit_breaks mid new part session secure D.Read made = absurd made.0
commit_breaks mid new part session secure D.Full made = absurd made.0
commit_breaks mid new part session secure D.NoMemory made = absurd made.0

whole_broken' : (old new : StoreState) (from : Address) (key : Key) (session : ℕ) (secure : Bool) → StoreTied old → OpensWhole from key old → MayOpen from key 1 old → BreaksStore (Commit (part_number from key old.drawn old.stock) session secure) (opened_under from key 1 old) new → Broke (OneMade old.content (MayOpen from key 1 old) (received_whole from key session secure old).content) (is_file from key) old new
whole_broken' old new from key session secure tied w may b = record {
  rose = b.rose;
  counts = b.counts;
  content = go old.content tied.sizes new.content b.content (λ d p. passes d p);
  seat = b.seat;
}
  where
    number : ℕ
    number = part_number from key old.drawn old.stock

    mid : StoreState
    mid = opened_under from key 1 old

    passes : (d : Shelf) → StorePasses mid (Commit number session secure) d → IsShelf mid.content d ⊎ IsShelf (received_whole from key session secure old).content d
    passes d (Before_it is) = inl is
    passes d (Source_first first) = absurd first
    passes d (After_it answer last does is) =
        inr (subst (λ (s : StoreState). IsShelf s.content d) (commits mid number session secure answer last (whole_under from key number old) w.found does) is)

    go : (c : Option Stored) → IfTold c (λ a. (old.stock ≡ sizes a.stock) × (old.recorded ≡ a.recorded) × (old.appended ≡ length a.log)) → (e : Option Stored) → TellsOn (λ a b. StorePasses mid (Commit number session secure) (shelf_of b) × Logs old.seat a.log b.log × PartsStay (Commit number session secure) mid.stock a.stock b.stock) (option_map (stored_after (part_opened from key number []) old.seat []) c) e → ((d : Shelf) → StorePasses mid (Commit number session secure) d → IsShelf (option_map (stored_after (part_opened from key number []) old.seat []) c) d ⊎ IsShelf (received_whole from key session secure old).content d) → TellsOn (λ a b. OneMade c (MayOpen from key 1 old) (received_whole from key session secure old).content (shelf_of b) × Logs old.seat a.log b.log × ((p : MarkOf ℕ) → Stays (is_file from key) old p → part_in p.number b.stock.parts ≡ part_in p.number a.stock.parts)) c e
    go None is None on f = tt
    go None is (Some b) on f = absurd on
    go (Some a) is None on f = absurd on
    go (Some a) is (Some b) on f = (
      one_of (f (shelf_of b) on.0),
      record { rest = on.1.rest; grows = on.1.grows ∙ ap (λ (l : List Logged). l ++ on.1.rest) (append-nil a.log); own = on.1.own },
      λ p stays.
          let other = w.apart p stays.0 stays.1 in
          on.2 p (member_front (unmarked from key old.stock.parts) _ p (there_left (is_file from key) old.stock.parts p stays.0 stays.1)) (number_apart p.number number other)
          ∙ stays_opened a old from key number p is.0 tied stays.0 stays.1 other,
    )
      where
        one_of : IsShelf (Some (stored_after (part_opened from key number []) old.seat [] a)) (shelf_of b) ⊎ IsShelf (received_whole from key session secure old).content (shelf_of b) → OneMade (Some a) (MayOpen from key 1 old) (received_whole from key session secure old).content (shelf_of b)
        one_of (inl same) = inl same
        one_of (inr same) = inr (may, same)

-- the store's commit of the part that was opened refused
pub whole_broken : (fault : StoreFault) (old mid new : StoreState) (from : Address) (key : Key) (part len session : ℕ) (secure : Bool) → StoreTied old → OpensWhole from key old → OpensUnder from key 1 part len old mid → StoreMade mid (Commit part session secure) (Refuses fault) new → RefusedBy (OneMade old.content (MayOpen from key 1 old) (received_whole from key session secure old).content) (is_file from key) (OpensFull from key 1 old) fault old new
whole_broken fault old mid new from key part len session secure tied w o made =
    let b = commit_breaks mid new part session secure fault made in
    let b' : BreaksStore (Commit (part_number from key old.drawn old.stock) session secure) (opened_under from key 1 old) new = subst (λ (n : ℕ). BreaksStore (Commit n session secure) (opened_under from key 1 old) new) o.number_is (subst (λ (m : StoreState). BreaksStore (Commit part session secure) m new) o.after b.1) in
    subst (λ (f : StoreFault). RefusedBy (OneMade old.content (MayOpen from key 1 old) (received_whole from key session secure old).content) (is_file from key) (OpensFull from key 1 old) f old new) (sym b.0) (whole_broken' old new from key session secure tied w (record { few = subst (λ (n : ℕ). n ≤ MAX_NUMBER) o.number_is o.few; room = o.room }) b')
