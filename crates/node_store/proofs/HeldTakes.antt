-- The takes of a store stay its takes through its calls.
use Rattle.std.proofs.Common.{◌≡◌, ◌≢◌, ℕ, ◌≤◌, max, ◌||◌, ◌==◌, List, [], ◌∷◌, ◌++◌, map, Option, Some, None, Bool, true, false, refl, sym, ◌∙◌, ap, subst, arith}
use Rattle.std.specs.Prelude.{if◌then◌else◌}
use Rattle.std.specs.List.{AllByRecursion}
use Rattle.disk_model.specs.World.{World}
use Rattle.ledger_rec.specs.Fold.{State, after, acted_on, answered, changed, fold_step, is_among, is_live, may_mark, may_queue, may_receive, may_refuse, settled, waits_for_action, waits_for_answer, with_mark, with_queued, with_receipt, with_refusal}
use Rattle.ledger_rec.specs.Record.{RecordText, Queue, Done, Received, Refused, Mark, Taken, Acted, Answered}
use Rattle.node_model.specs.Giving.{acted, given}
use Rattle.node_model.specs.Items.{EntryOf}
use Rattle.node_model.specs.Outside.{Gift}
use Rattle.node_model.specs.StoreStates.{Stored, StoreState, IfTold}
use Rattle.node_model.specs.Stocks.{NewEntry}
use Rattle.node_model.specs.Stores.{with_all_queued}
use Rattle.node_model.proofs.Lists.{none_some}
use Rattle.node_store.specs.Names.{AreDistinct, take_number}
use Rattle.node_store.specs.Stored.{Memory, state_of}
use Rattle.node_store.specs.Takes.{AreStanding, AreTakesOf, IsLeft, Takes, noted, own_names, with_noted}
use Rattle.node_store.specs.Worlds.{takes_in}
use Rattle.node_store.specs.declared.takes.TakeName.{TakeName}
use Rattle.node_store.proofs.Alike.{IsNoTake, takes_alike}
use Rattle.node_store.proofs.Listed.{all_last}
use Rattle.node_store.proofs.Numbered.{if_may_some, mapped_some, step_is_after}

-- a record that takes nothing
abbrev pub TakesNone : RecordText → Type 0
TakesNone (Taken take) = ⊥
TakesNone r = Unit {0}

takes_after : (s : State) (r : RecordText) (t : State) → TakesNone r → after s r ≡ Some t → t.takes ≡ s.takes
takes_after s (Queue r) t nothing is = let m = if_may_some (may_queue r s.queue) (with_queued r s) t is in sym (ap (λ (u : State). u.takes) m.1)
takes_after s (Done number session) t nothing is = let m = mapped_some (λ queue. record s { queue = queue }) (changed (is_live number) settled s.queue) t is in sym (ap (λ (u : State). u.takes) m.2)
takes_after s (Received r) t nothing is = let m = if_may_some (may_receive r s) (with_receipt r s) t is in sym (ap (λ (u : State). u.takes) m.1)
takes_after s (Refused r) t nothing is = let m = if_may_some (may_refuse r s) (with_refusal r s) t is in sym (ap (λ (u : State). u.takes) m.1)
takes_after s (Mark r) t nothing is = let m = if_may_some (may_mark r s) (with_mark r s) t is in sym (ap (λ (u : State). u.takes) m.1)
takes_after s (Taken take) t nothing is = absurd nothing
takes_after s (Acted number) t nothing is = let m = mapped_some (λ queue. record s { queue = queue }) (changed (waits_for_action number) acted_on s.queue) t is in sym (ap (λ (u : State). u.takes) m.2)
takes_after s (Answered number) t nothing is = let m = mapped_some (λ inbox. record s { inbox = inbox }) (changed (waits_for_answer number) answered s.inbox) t is in sym (ap (λ (u : State). u.takes) m.2)

-- such a record is folded in
pub step_takes : (s : State) (r : RecordText) (t : State) → TakesNone r → fold_step s r ≡ Some t → t.takes ≡ s.takes
step_takes s r t nothing step = takes_after s r t nothing (step_is_after s r t step)

-- only a file that is no take changed
pub other_takes : (name : List ℕ) → IsNoTake name → (d c : World) → ((n : List ℕ) → n ≢ name → c.own n ≡ d.own n) → takes_in c ≡ takes_in d
other_takes name no_take d c others = takes_alike d c (λ n take is. others n (λ same. none_some (sym no_take ∙ ap take_number (sym same) ∙ is)))

module _ (t : Takes) where
  -- the same takes are recorded and stand
  pub same_takes : (tells : Bool) (d c : World) (f g : ℕ) (m : Memory) (new : StoreState) (b : Stored) → new.content ≡ (if tells then Some b else None) → b.takes ≡ takes_in c → new.recorded ≡ m.books.folding.state.takes → (tells ≡ true → takes_in c ≡ takes_in d)
      → AreTakesOf t (state_of tells d f m) → AreTakesOf t new
  same_takes tells d c f g m new b content takes recorded told is = record {
    recorded = subst (AllByRecursion (λ k. k ≤ t.last)) (sym recorded) is.recorded;
    left = subst (λ (r : List ℕ). AllByRecursion (IsLeft t.last r) t.left) (sym recorded) is.left;
    standing = subst (λ (o : Option Stored). IfTold o (λ a. AreDistinct (own_names t.left) × AreStanding (own_names t.left) a.takes)) (sym content) (go tells told is.standing);
  }
    where
      go : (tell : Bool) → (tell ≡ true → takes_in c ≡ takes_in d) → IfTold (state_of tell d f m).content (λ a. AreDistinct (own_names t.left) × AreStanding (own_names t.left) a.takes)
          → IfTold (if tell then Some b else None) (λ a. AreDistinct (own_names t.left) × AreStanding (own_names t.left) a.takes)
      go true same told = (told.0, subst (AreStanding (own_names t.left)) (sym (takes ∙ same refl)) told.1)
      go false same told = tt

  -- a received file was given, or stays for another round; a source was acted on

  pub given_takes : (g : Gift) (time : ℕ) (old new : StoreState) → new ≡ given g time old → AreTakesOf t old → AreTakesOf t new
  given_takes g time old new same is = subst (AreTakesOf t) (sym same) (record { recorded = is.recorded; left = is.left; standing = go old.content is.standing })
    where
      go : (c : Option Stored) → IfTold c (λ a. AreDistinct (own_names t.left) × AreStanding (own_names t.left) a.takes) → IfTold (given g time (record old { content = c })).content (λ a. AreDistinct (own_names t.left) × AreStanding (own_names t.left) a.takes)
      go None told = tt
      go (Some a) told = told

  pub held_takes : (number : ℕ) (old new : StoreState) → new ≡ record old { last_given = number } → AreTakesOf t old → AreTakesOf t new
  held_takes number old new same is = subst (AreTakesOf t) (sym same) (record { recorded = is.recorded; left = is.left; standing = is.standing })

  pub acted_takes : (e : EntryOf ℕ) (time : ℕ) (old new : StoreState) → new ≡ acted e time old → AreTakesOf t old → AreTakesOf t new
  acted_takes e time old new same is = subst (AreTakesOf t) (sym same) (record { recorded = is.recorded; left = is.left; standing = go old.content is.standing })
    where
      go : (c : Option Stored) → IfTold c (λ a. AreDistinct (own_names t.left) × AreStanding (own_names t.left) a.takes) → IfTold (acted e time (record old { content = c })).content (λ a. AreDistinct (own_names t.left) × AreStanding (own_names t.left) a.takes)
      go None told = tt
      go (Some a) told = told

  -- Files were queued, and the take that brought them is recorded.

  among_last : (k n : ℕ) (ns : List ℕ) → is_among k (ns ++ n ∷ []) ≡ (is_among k ns || n == k)
  among_last k n [] = or_alone (n == k)
    where
      or_alone : (b : Bool) → (b || false) ≡ b
      or_alone true = refl
      or_alone false = refl
  among_last k n (m ∷ ns) = ap (λ (b : Bool). m == k || b) (among_last k n ns) ∙ grouped (m == k) (is_among k ns) (n == k)
    where
      grouped : (a b c : Bool) → (a || (b || c)) ≡ ((a || b) || c)
      grouped true b c = refl
      grouped false b c = refl

  numbers_rise : (last more : ℕ) → last ≤ more → (ns : List ℕ) → AllByRecursion (λ n. n ≤ last) ns → AllByRecursion (λ n. n ≤ more) ns
  numbers_rise last more le [] all = tt
  numbers_rise last more le (n ∷ ns) all = (let low = all.0 in omega (arith, low, le), numbers_rise last more le ns all.1)

  left_noted : (take : ℕ) (recorded : List ℕ) (xs : List TakeName) → AllByRecursion (IsLeft t.last recorded) xs → AllByRecursion (IsLeft (max t.last take) (recorded ++ take ∷ [])) (map (noted take) xs)
  left_noted take recorded [] all = tt
  left_noted take recorded (x ∷ xs) all = (
    record {
      named = all.0.named;
      below = (let low = all.0.below in omega (arith, low));
      noted = ap (λ (b : Bool). b || take == x.take) all.0.noted ∙ sym (among_last x.take take recorded);
    },
    left_noted take recorded xs all.1,
  )

  own_noted : (take : ℕ) (xs : List TakeName) → own_names (map (noted take) xs) ≡ own_names xs
  own_noted take [] = refl
  own_noted take (x ∷ xs) = ap (λ (l : List (List ℕ)). x.own ∷ l) (own_noted take xs)

  pub takes_queued : (old new : StoreState) (taken answered : Option ℕ) (files : List NewEntry) → new ≡ with_all_queued taken answered files old → AreTakesOf t old → AreTakesOf (with_noted taken t) new
  takes_queued old new None answered files is takes = subst (AreTakesOf t) (sym is) (record { recorded = takes.recorded; left = takes.left; standing = go old.content takes.standing })
    where
      go : (c : Option Stored) → IfTold c (λ a. AreDistinct (own_names t.left) × AreStanding (own_names t.left) a.takes) → IfTold (with_all_queued None answered files (record old { content = c })).content (λ a. AreDistinct (own_names t.left) × AreStanding (own_names t.left) a.takes)
      go None told = tt
      go (Some a) told = told
  takes_queued old new (Some take) answered files is takes = subst (AreTakesOf (with_noted (Some take) t)) (sym is) (record {
    recorded = all_last (λ n. n ≤ max t.last take) old.recorded take (numbers_rise t.last (max t.last take) (omega arith) old.recorded takes.recorded) (omega arith);
    left = left_noted take old.recorded t.left takes.left;
    standing = go old.content takes.standing;
  })
    where
      go : (c : Option Stored) → IfTold c (λ a. AreDistinct (own_names t.left) × AreStanding (own_names t.left) a.takes) → IfTold (with_all_queued (Some take) answered files (record old { content = c })).content (λ a. AreDistinct (own_names (map (noted take) t.left)) × AreStanding (own_names (map (noted take) t.left)) a.takes)
      go None told = tt
      go (Some a) told = subst (λ (l : List (List ℕ)). AreDistinct l × AreStanding l a.takes) (sym (own_noted take t.left)) told
