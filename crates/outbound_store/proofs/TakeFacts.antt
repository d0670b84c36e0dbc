-- The takes of a whole store, as a take-in sees them.
use Rattle.std.proofs.Common.{◌≡◌, ◌≢◌, inl, inr, ℕ, ◌+◌, ◌<◌, ◌≤◌, ◌==◌, ◌||◌, Bool, true, false, List, [], ◌∷◌, map, length, Option, Some, None, option_map, IsSome, refl, sym, ◌∙◌, ap, subst, arith}
use Rattle.std.specs.Prelude.{count_by, filter, not}
use Rattle.std.specs.List.{AllByRecursion}
use Rattle.std.specs.Str.{bytes_eq}
use Rattle.std.proofs.lemmas.List.{map_push}
use Rattle.std.proofs.lemmas.Bool.Decides.{Decides-eqb}
use Rattle.disk_model.specs.declared.answers.Moved.TheVariants.{Done}
use Rattle.ledger_rec.specs.Fold.{is_among}
use Rattle.node_model.specs.Items.{EntryOf}
use Rattle.node_model.specs.Lists.{Each, Member, some_passes}
use Rattle.node_model.specs.SendRows.{waits_for_action}
use Rattle.node_model.specs.Stocks.{NewEntry, Sizes, StagedOf, sizes, staged_in, staged_map}
use Rattle.node_model.specs.StoreStates.{IfTold, Stored, StoreState, StoreStand}
use Rattle.node_model.specs.StoreWords.{IsNewBatch, WasStaged}
use Rattle.node_model.specs.Stores.{StoreTied}
use Rattle.node_model.proofs.Lists.{Each-member, Each-weaker, both_false, is_false, none_some, off, or_false, some_inj}
use Rattle.node_model.proofs.StockMaps.{first-map, without-map}
use Rattle.node_store.specs.Names.{AreDistinct, is_one, take_number}
use Rattle.node_store.specs.Takes as T
use Rattle.node_store.specs.Takes.{AreStanding, AreTakesOf, IsLeft, IsNext, Takes, own_names, with_moved}
use Rattle.node_store.specs.Taking.{IsRecordedTake, IsStandingTake}
use Rattle.node_store.specs.declared.takes.TakeName.{TakeName}
use Rattle.node_store.proofs.Found.{seen_from}
use Rattle.outbound_model.specs.Outbound.{Outbound, is_recorded}
use Rattle.outbound_model.specs.OwnNames.{number_of}
use Rattle.outbound_take.specs.Calls.{AreNew, Has, Holds, IsStaged, Tied, noted, owns, with_take, without_take}
use Rattle.outbound_take.specs.Stand.{Left}
use Rattle.outbound_store.specs.Held.{drawn_as, left_in, left_of, seen_with}
use Rattle.outbound_store.specs.Seen.{memory_of, staged_at}
use Rattle.outbound_store.proofs.NameFacts.{number_read}
use Rattle.outbound_store.proofs.QueueKept.{Queueing}
use Rattle.outbound_store.proofs.SeenKept.{if_weaker, out_in, out_of}
use Rattle.outbound_store.proofs.Staging.{above_all, size_some}
use Rattle.outbound_store.proofs.TakeKept.{IsNewTake}

-- a fact of what is told and one of the store together
if_and : (o : Option Stored) (P Q R : Stored → Type 0) → ((a : Stored) → P a → Q a → R a) → IfTold o P → IfTold o Q → IfTold o R
if_and None P Q R f p q = tt
if_and (Some a) P Q R f p q = f a p q

-- what is told is the store's
abbrev pub Told : StoreState → Stored → Type 0
Told s a = (s.stock ≡ sizes a.stock) × (s.recorded ≡ a.recorded) × (s.appended ≡ length a.log)

some_bytes : (o : Option (List ℕ)) → IsSome o → (bytes : List ℕ) × (o ≡ Some bytes)
some_bytes None none = off (sym none)
some_bytes (Some bytes) is = (bytes, refl)

none_among : (n : ℕ) (numbers : List ℕ) → is_among n numbers ≡ false → Each (λ k. k ≢ n) numbers
none_among n [] none = tt
none_among n (k ∷ numbers) none =
    let h = or_false (k == n) (is_among n numbers) none in
    (λ same. off (sym ((Decides-eqb k n).1 same) ∙ h.0), none_among n numbers h.1)

module _ (t : Takes) (s : StoreState) (are : AreTakesOf t s) where
  -- each has the number that its name spells
  pub numbered : Each (λ (x : TakeName). number_of x.own ≡ x.take) t.left
  numbered = Each-weaker (IsLeft t.last s.recorded) (λ x. number_of x.own ≡ x.take) (λ x is. (number_read x.own x.take is.named).0) t.left are.left

  pub record IsOne (own : List ℕ) (recorded : Bool) : Type 0 where
    pub take : ℕ
    pub named : take_number own ≡ Some take
    pub below : take ≤ t.last
    pub noted : is_among take s.recorded ≡ recorded
    pub stands : IfTold s.content (λ a. (bytes : List ℕ) × (a.takes own ≡ Some bytes))

  own_there : (x : TakeName) (xs : List TakeName) → Member x xs → Member x.own (own_names xs)
  own_there x [] there = absurd there
  own_there x (y ∷ xs) (inl same) = inl (ap (λ (z : TakeName). z.own) same)
  own_there x (y ∷ xs) (inr later) = inr (own_there x xs later)

  -- a take that stands
  pub one_of : (own : List ℕ) (recorded : Bool) → Has own recorded (map left_of t.left) → IsOne own recorded
  one_of own recorded has =
      let found = seen_from left_of (record { own = own; recorded = recorded }) t.left has in
      let x = found.0 in
      let named : own ≡ x.own = ap (λ (l : Left). l.own) found.2 in
      let is = Each-member (IsLeft t.last s.recorded) x t.left are.left found.1 in
      record {
        take = x.take;
        named = ap take_number named ∙ is.named;
        below = is.below;
        noted = sym (ap (λ (l : Left). l.recorded) found.2 ∙ is.noted);
        stands = if_weaker s.content (λ a. AreDistinct (own_names t.left) × AreStanding (own_names t.left) a.takes) (λ a. (bytes : List ℕ) × (a.takes own ≡ Some bytes))
            (λ a standing. some_bytes (a.takes own) ((standing.1 own).0 (subst (λ (n : List ℕ). Member n (own_names t.left)) (sym named) (own_there x t.left found.1)))) are.standing;
      }

  stands_some : (own : List ℕ) (recorded : Bool) → IsOne own recorded → IfTold s.content (λ a. IsSome (a.takes own))
  stands_some own recorded one = if_weaker s.content (λ a. (bytes : List ℕ) × (a.takes own ≡ Some bytes)) (λ a. IsSome (a.takes own)) (λ a h. subst IsSome (sym h.1) refl) one.stands

  pub is_standing : (own : List ℕ) (recorded : Bool) → IsOne own recorded → IsStandingTake own s
  is_standing own recorded one = record { take = one.take; named = one.named; stands = stands_some own recorded one }

  pub is_recorded_take : (own : List ℕ) → IsOne own true → IsRecordedTake own s
  is_recorded_take own one = record { take = one.take; named = one.named; recorded = one.noted; stands = stands_some own true one }

  -- as its number is recorded where that is told
  pub noted_told : (own : List ℕ) (recorded : Bool) → IsOne own recorded → StoreTied s → IfTold s.content (λ a. is_recorded (number_of own) (out_of a) ≡ recorded)
  noted_told own recorded one tied = if_weaker s.content (Told s) (λ a. is_recorded (number_of own) (out_of a) ≡ recorded)
      (λ a told. ap (λ (n : ℕ). some_passes (λ k. k == n) a.recorded) (number_read own one.take one.named).0 ∙ (ap (is_among one.take) (sym told.1) ∙ one.noted)) tied.sizes

  -- a name with the next number is none's
  none_has : (own : List ℕ) → number_of own ≡ t.last + 1 → (xs : List TakeName) → Each (IsLeft t.last s.recorded) xs → Member own (own_names xs) → ⊥
  none_has own is [] all there = absurd there
  none_has own is (x ∷ xs) all (inl same) =
      let e = (number_read x.own x.take all.0.named).0 in
      let f = ap number_of same in
      let low = all.0.below in
      omega (arith, is, e, f, low)
  none_has own is (x ∷ xs) all (inr later) = none_has own is xs all.1 later

  unrecorded : (ns : List ℕ) → AllByRecursion (λ n. n ≤ t.last) ns → some_passes (λ k. k == t.last + 1) ns ≡ false
  unrecorded [] all = refl
  unrecorded (n ∷ ns) all =
      let low = all.0 in
      both_false (n == t.last + 1) (some_passes (λ k. k == t.last + 1) ns) (is_false (n == t.last + 1) (λ same. let e = (Decides-eqb n (t.last + 1)).0 same in omega (arith, e, low))) (unrecorded ns all.1)

  pub new_take : (own : List ℕ) → number_of own ≡ t.last + 1 → StoreTied s → IfTold s.content (IsNewTake own)
  new_take own is tied = if_and s.content (Told s) (λ a. AreDistinct (own_names t.left) × AreStanding (own_names t.left) a.takes) (IsNewTake own) one tied.sizes are.standing
    where
      one : (a : Stored) → Told s a → AreDistinct (own_names t.left) × AreStanding (own_names t.left) a.takes → IsNewTake own a
      one a told standing = record {
        unrecorded = ap (λ (n : ℕ). some_passes (λ k. k == n) a.recorded) is ∙ (ap (some_passes (λ k. k == t.last + 1)) (sym told.1) ∙ unrecorded s.recorded are.recorded);
        apart = λ name same. free name (same ∙ is) (a.takes name) refl;
      }
        where
          free : (name : List ℕ) → number_of name ≡ t.last + 1 → (o : Option (List ℕ)) → a.takes name ≡ o → a.takes name ≡ None
          free name is None none = none
          free name is (Some bytes) some = absurd (none_has name is t.left are.left ((standing.1 name).1 (subst IsSome (sym some) refl)))

  -- A batch of a take.

  was_staged : (m : List Left) (p : Option ℕ) (f : NewEntry) → IsStaged (memory_of s m p) f → WasStaged s.stock.staged f
  was_staged m p f is = go (staged_in f.number s.stock.staged) refl (size_some s.stock f.number f.key.size is.0).1
    where
      go : (o : Option (StagedOf ℕ)) → staged_in f.number s.stock.staged ≡ o → option_map (λ (x : StagedOf ℕ). x.content) o ≡ Some f.key.size → WasStaged s.stock.staged f
      go None at h = none_some h
      go (Some x) at h = (x, at, some_inj h)

  pub new_batch : (own : List ℕ) (files : List NewEntry) (m : List Left) (p : Option ℕ) (one : IsOne own false) → AreNew files (memory_of s m p) → IsNewBatch (Some one.take) None files s
  new_batch own files m p one new = record {
    limits = new.limits;
    staged = Each-weaker (IsStaged (memory_of s m p)) (WasStaged s.stock.staged) (was_staged m p) files new.staged;
    rise = new.rise;
    above = Each-weaker (IsStaged (memory_of s m p)) (λ f. Each (λ (e : EntryOf ℕ). e.number < f.number) s.stock.state.queue) (λ f is. above_all f.number s.stock.state.queue (size_some s.stock f.number f.key.size is.0).0) files new.staged;
    take = ((number_read own one.take one.named).1, none_among one.take s.recorded one.noted);
    request = tt;
  }

  -- where bytes are told they are told for each
  bytes_staged : (staged : List (StagedOf (List ℕ))) (f : NewEntry) → WasStaged (map (staged_map length) staged) f → (bytes : List ℕ) × (staged_at staged f.number ≡ Some bytes)
  bytes_staged staged f was = go (staged_in f.number staged) refl
    where
      go : (o : Option (StagedOf (List ℕ))) → staged_in f.number staged ≡ o → (bytes : List ℕ) × (staged_at staged f.number ≡ Some bytes)
      go None at = none_some (sym (first-map (staged_map length) (λ (x : StagedOf ℕ). x.number == f.number) staged ∙ ap (option_map (staged_map length)) at) ∙ was.1)
      go (Some x) at = (x.content, ap (option_map (λ (y : StagedOf (List ℕ)). y.content)) at)

  pub queueing : (own : List ℕ) (files : List NewEntry) (m : List Left) (p : Option ℕ) (one : IsOne own false) → AreNew files (memory_of s m p) → StoreTied s → Queueing own one.take files s
  queueing own files m p one new tied = record {
    named = sym (number_read own one.take one.named).0;
    unrecorded = if_weaker s.content (λ a. is_recorded (number_of own) (out_of a) ≡ false) (λ a. is_recorded one.take (out_of a) ≡ false) (λ a h. ap (λ (n : ℕ). is_recorded n (out_of a)) (sym (number_read own one.take one.named).0) ∙ h) (noted_told own false one tied);
    stands = one.stands;
    staged = if_weaker s.content (Told s) (λ a. Each (λ (f : NewEntry). (bytes : List ℕ) × (staged_at a.stock.staged f.number ≡ Some bytes)) files)
        (λ a told. Each-weaker (IsStaged (memory_of s m p)) (λ f. (bytes : List ℕ) × (staged_at a.stock.staged f.number ≡ Some bytes)) (λ f is. bytes_staged a.stock.staged f (subst (λ (x : Sizes). WasStaged x.staged f) told.0 (was_staged m p f is))) files new.staged) tied.sizes;
    outline = if_weaker s.content (Told s) (λ a. s.stock ≡ sizes a.stock) (λ a told. told.0) tied.sizes;
  }

  -- What is in memory behind a call.

  noted_each : (take : ℕ) (own : List ℕ) → number_of own ≡ take → (xs : List TakeName) → Each (IsLeft t.last s.recorded) xs → map left_of (map (T.noted take) xs) ≡ map (noted (number_of own)) (map left_of xs)
  noted_each take own is [] all = refl
  noted_each take own is (x ∷ xs) all =
      let number = (number_read x.own x.take all.0.named).0 in
      λ i. record { own = x.own; recorded = x.recorded || (sym is i == sym number i) } ∷ noted_each take own is xs all.1 i

  pub noted_left : (own : List ℕ) (take : ℕ) → number_of own ≡ take → map left_of (map (T.noted take) t.left) ≡ map (noted (number_of own)) (map left_of t.left)
  noted_left own take is = noted_each take own is t.left are.left

  pub tied_told : StoreTied s → Tied (memory_of s (map left_of t.left) (drawn_as t.drawn t.last)) (out_in s.content)
  tied_told tied = record { left = λ o tells own there. go s.content are.standing o tells own there }
    where
      names : (xs : List TakeName) → own_names xs ≡ owns (map left_of xs)
      names [] = refl
      names (x ∷ xs) = ap (λ (l : List (List ℕ)). x.own ∷ l) (names xs)

      some : (o : Option (List ℕ)) → o ≢ None → IsSome o
      some None other = absurd (other refl)
      some (Some bytes) other = refl

      go : (c : Option Stored) → IfTold c (λ a. AreDistinct (own_names t.left) × AreStanding (own_names t.left) a.takes) → (o : Outbound) → out_in c ≡ Some o → (own : List ℕ) → o.takes own ≢ None → Member own (owns (map left_of t.left))
      go None standing o tells own there = none_some tells
      go (Some a) standing o tells own there =
          subst (Member own) (names t.left) ((standing.1 own).1 (some (a.takes own) (λ none. there (ap (λ (x : Outbound). x.takes own) (sym (some_inj tells)) ∙ none))))

pub without_left : (own : List ℕ) (xs : List TakeName) → map left_of (filter (λ (x : TakeName). not (is_one x.own own)) xs) ≡ without_take own (map left_of xs)
without_left own xs = sym (without-map left_of (λ (l : Left). bytes_eq l.own own) xs)

pub moved_left : (own : List ℕ) (t : Takes) → map left_of (with_moved own Done t).left ≡ with_take own (map left_of t.left)
moved_left own t = map_push left_of t.left (record { take = t.last + 1; own = own; recorded = false })

-- A whole store holds these takes, and this number.
pub holds_with : (new : StoreStand) (u : Takes) (takes : List Left) (number : Option ℕ) (actions : ℕ) → new.state.counts.broken ≡ None → map left_of u.left ≡ takes → drawn_as u.drawn u.last ≡ number → count_by waits_for_action new.state.stock.state.queue ≡ actions → Holds takes number actions (seen_with new u).memory
holds_with new u takes number actions whole left drawn undone = record {
  left = ap (λ (b : Option ℕ). left_in b u.left) whole ∙ left;
  drawn = drawn;
  undone = undone;
  broken = whole;
}

-- the number that was drawn is the one behind the last
pub drawn_next : (t : Takes) (n : ℕ) → drawn_as t.drawn t.last ≡ Some n → (t.drawn ≡ true) × (n ≡ t.last + 1)
drawn_next t n is = go t.drawn refl is
  where
    go : (b : Bool) → t.drawn ≡ b → drawn_as b t.last ≡ Some n → (t.drawn ≡ true) × (n ≡ t.last + 1)
    go true drawn h = (drawn, sym (some_inj h))
    go false drawn h = none_some h

pub is_next : (own : List ℕ) (t : Takes) (n : ℕ) → take_number own ≡ Some n → drawn_as t.drawn t.last ≡ Some (number_of own) → IsNext own t
is_next own t n named drawn =
    let next = drawn_next t (number_of own) drawn in
    record { drawn = next.0; named = named ∙ ap (λ (k : ℕ). Some k) (sym (number_read own n named).0 ∙ next.1) }
