-- What gives out seats, takes them in, opens a gate and closes it keeps its rule.
use Rattle.std.proofs.Common.{◌≡◌, ◌≢◌, ℕ, ◌+◌, ◌<◌, zero, true, false, true≢false, Bool, List, [], ◌∷◌, ◌++◌, length, set, Option, None, Some, All, refl, sym, ap, ◌∙◌, subst, ⊎_elim, inl, inr, slice_get, slice_index_or, ◌⊎◌, Contains, map, arith, suc}
use mathlib.Core.Logic.{dite}
use mathlib.Core.Option as maybe
use mathlib.Core.Option.{some-injective}
use native.Mathlib.Decide.{ℕ_discrete}
use lib.ListN.{get_elem?}
use Rattle.atomic_table.specs.Table.{State, Me, Splits, Joins, Final, Seen}
use Rattle.atomic_table.proofs.Lists.{set_else, at_longer}
use Rattle.turn_gate.specs.declared.view.View.{View}
use Rattle.turn_gate.specs.declared.view.Joined.{Joined}
use Rattle.turn_gate.specs.declared.view.Counted.{Counted}
use Rattle.turn_gate.specs.Turns.{ByOthers}
use Rattle.turn_gate.specs.Rule.{At, FitsIn, IsKept}
use Rattle.turn_gate.specs.Views.{keeper_view, new_view, after_split, after_join, joined_of, ended_view}
use Rattle.turn_gate.proofs.Ends.{Covers, EndsAs}
use Rattle.turn_gate.proofs.Removed.{found}
use Rattle.turn_gate.proofs.Paths.{nowhere, relaxed}
use Rattle.turn_gate.proofs.Views.{set_at, not_first, each}

module _ {T X : Type 0} (state : T → X) (Turns : ℕ → X → X → Type 0) (first : X) (seats : ℕ) where
  abbrev C : Type 0
  C = Counted T

  abbrev St : Type 0
  St = State (Option C) (View X)

  abbrev Rule : St → Type 0
  Rule = IsKept state Turns first seats

  or_else : C → Option C → C
  or_else d (Some y) = y
  or_else d None = d

  at_end : {A : Type 0} (l : List A) (a b : A) (j : ℕ) → get_elem? (l ++ a ∷ []) j ≡ maybe.some b → (get_elem? l j ≡ maybe.some b) ⊎ ((j ≡ length l) × (a ≡ b))
  at_end [] a b zero e = inr (refl, some-injective a b e)
  at_end [] a b (suc j) e = absurd (maybe.some-ne-none b (sym e))
  at_end (x ∷ xs) a b zero e = inl e
  at_end (x ∷ xs) a b (suc j) e = ⊎_elim inl (λ t. inr (ap suc t.0, t.1)) (at_end xs a b j e)

  module _ (s : St) (r : Rule s) (id : ℕ) (v : View X) (at : At s.views id v) (keeps : v.keeper ≡ true) where
    zeroth : id ≡ 0
    zeroth = (r.each_view id v at).keeper_first keeps

    is_keeper : v ≡ r.keeper
    is_keeper = some-injective v r.keeper (sym at ∙ (ap (get_elem? s.views) zeroth ∙ r.keeper_at))

    abbrev k' : View X
    k' = after_split r.keeper

    more : (u : View X) (j : ℕ) → FitsIn Turns r.now r.turn r.count j r.keeper u → FitsIn Turns r.now r.turn r.count j k' u
    more u j f = record { keeper_first = f.keeper_first; named = f.named; taken_state = f.taken_state; taken_number = f.taken_number; spent_at_end = f.spent_at_end; history = f.history; given_out = λ l. (let b = f.given_out l in omega arith); not_joined = f.not_joined }

    -- each view after a seat was given out
    each_more : (F : ℕ → View X → Type 0) → F 0 k' → ((j : ℕ) (u : View X) → j ≢ 0 → At s.views j u → F j u) → F (length (set s.views 0 k')) (new_view r.keeper.left r.keeper.next)
        → (j : ℕ) (u : View X) → At (set s.views 0 k' ++ new_view r.keeper.left r.keeper.next ∷ []) j u → F j u
    each_more F zero_ others new j u a = ⊎_elim (λ b. each F s.views 0 k' zero_ others j u b) (λ (t : (j ≡ length (set s.views 0 k')) × (new_view r.keeper.left r.keeper.next ≡ u)). subst (λ (z : ℕ × View X). F z.0 z.1) (λ i. (sym t.0 i, t.1 i)) new)
        (at_end (set s.views 0 k') (new_view r.keeper.left r.keeper.next) u j a)

    dead : k'.live ≡ true → ⊥
    dead l = true≢false (sym l ∙ r.keeper_idle)

    -- no old seat has the new number
    new_number : (j : ℕ) (u : View X) → At s.views j u → u.live ≡ true → u.seat ≢ r.keeper.next
    new_number j u a l e = let b = (r.each_view j u a).given_out l in omega arith

    gave_out : r.keeper.next < seats → ((o : ℕ) (d : Joined X) → o < length r.keeper.joined → (slice_index_or r.keeper.joined o d).seat ≢ r.keeper.next)
        → Rule record { words = s.words; homes = s.homes; views = set s.views 0 k' ++ new_view r.keeper.left r.keeper.next ∷ [] }
    gave_out room apart_olds = let n : View X = new_view r.keeper.left r.keeper.next in record {
      now = r.now;
      turn = r.turn;
      count = r.count;
      keeper = k';
      words = r.words;
      slot = r.slot;
      keeper_at = at_longer (set s.views 0 k') (n ∷ []) 0 k' (set_at s.views 0 r.keeper k' r.keeper_at);
      keeper_idle = r.keeper_idle;
      opening = r.opening;
      enough = omega (arith, room);
      each_view = each_more (λ j u. FitsIn Turns r.now r.turn r.count j k' u)
          (more k' 0 record { keeper_first = λ _. refl; named = λ l _. absurd (dead l); taken_state = λ l _. absurd (dead l); taken_number = λ l _. absurd (dead l); spent_at_end = (r.each_view 0 r.keeper r.keeper_at).spent_at_end; history = λ l. absurd (dead l); given_out = λ l. absurd (dead l); not_joined = λ l. absurd (dead l) })
          (λ j u ne a. more u j (r.each_view j u a))
          record {
            keeper_first = λ e. absurd (true≢false (sym e));
            named = λ _ e. absurd (true≢false (sym e));
            taken_state = λ _ e. absurd (true≢false (sym e));
            taken_number = λ _ e. absurd (true≢false (sym e));
            spent_at_end = λ e. absurd (true≢false (sym e));
            history = λ _. subst (λ (z : X). ByOthers Turns r.keeper.next z r.now) (sym r.opening) (relaxed Turns (λ k. k < r.keeper.next) (λ k. k ≢ r.keeper.next) (λ k l e. omega arith) first r.now r.history);
            given_out = λ _. omega arith;
            not_joined = λ _. apart_olds;
          };
      apart = λ i j u t a b lu lt e. each_more (λ i u. u.live ≡ true → u.seat ≡ t.seat → i ≡ j)
          (λ l _. absurd (dead l))
          (λ i u ne a' lu' e'. each_more (λ j t. t.live ≡ true → u.seat ≡ t.seat → i ≡ j) (λ l _. absurd (dead l)) (λ j t ne' b' lt' e''. r.apart i j u t a' b' lu' lt' e'') (λ _ e''. absurd (new_number i u a' lu' e'')) j t b lt e')
          (λ _ e'. each_more (λ j t. t.live ≡ true → r.keeper.next ≡ t.seat → length (set s.views 0 k') ≡ j) (λ l _. absurd (dead l)) (λ j t ne' b' lt' e''. absurd (new_number j t b' lt' (sym e''))) (λ _ _. refl) j t b lt e')
          i u a lu e;
      holder = λ taken. let h = r.holder taken in (h.0, h.1, at_longer (set s.views 0 k') (n ∷ []) h.0 h.1 (set_else s.views 0 h.0 k' (not_first s r h.0 h.1 h.2 h.3) ∙ h.2), h.3, h.4);
      history = relaxed Turns (λ k. k < r.keeper.next) (λ k. k < r.keeper.next + 1) (λ k l. omega arith) first r.now r.history;
      joined_history = r.joined_history;
      current = ⊎_elim
          (λ z. inl (z.0, each_more (λ j u. u.live ≡ true → u.turns ≡ 0) (λ l. absurd (dead l)) (λ j u ne a. z.1 j u a) (λ _. refl), z.2))
          (λ z. inr (⊎_elim (λ h. inl (h.0, h.1, at_longer (set s.views 0 k') (n ∷ []) h.0 h.1 (set_else s.views 0 h.0 k' (not_first s r h.0 h.1 h.2 h.3) ∙ h.2), h.3, h.4, h.5)) (λ h. inr h) z))
          r.current;
    }

  -- the keeper gives out a seat
  pub gives_out : (id : ℕ) (v : View X) → v.keeper ≡ true → v.joined ≡ [] → v.next < seats → Splits Rule id v (after_split v) (new_view v.left v.next)
  gives_out id v kp none room s r at = subst (λ (z : ℕ × View X). Rule record { words = s.words; homes = s.homes; views = set s.views z.0 (after_split z.1) ++ new_view z.1.left z.1.next ∷ [] })
      (λ i. (sym (zeroth s r id v at kp) i, sym (is_keeper s r id v at kp) i))
      (gave_out s r id v at kp (subst (λ (z : View X). z.next < seats) (is_keeper s r id v at kp) room)
      (λ o d l. absurd (let e : length r.keeper.joined ≡ 0 = ap (λ (z : View X). length z.joined) (sym (is_keeper s r id v at kp)) ∙ ap length none in omega arith)))

  abbrev filled : {A : Type 0} → Option A → Bool
  filled (Some x) = true
  filled None = false

  all_cons : {A : Type 0} (P : A → Type 0) (x : A) (xs : List A) → P x → All P xs → (k : ℕ) (d : A) → k < length (x ∷ xs) → P (slice_index_or (x ∷ xs) k d)
  all_cons P x xs p h zero d l = p
  all_cons P x xs p h (suc k) d l = h k d (omega arith)

  all_snoc : {A : Type 0} (P : A → Type 0) (xs : List A) (x : A) → All P xs → P x → All P (xs ++ x ∷ [])
  all_snoc P [] x h p = all_cons P x [] p h
  all_snoc P (y ∷ ys) x h p = all_cons P y (ys ++ x ∷ []) (h 0 y (omega arith)) (all_snoc P ys x (λ k d l. h (suc k) d (omega arith)) p)

  get_longer : {A : Type 0} (xs ys : List A) (k : ℕ) (x : A) → slice_get xs k ≡ Some x → slice_get (xs ++ ys) k ≡ Some x
  get_longer [] ys k x e = absurd (true≢false (sym (ap filled e)))
  get_longer (y ∷ xs) ys zero x e = e
  get_longer (y ∷ xs) ys (suc k) x e = get_longer xs ys k x e

  get_last : {A : Type 0} (xs : List A) (x : A) → slice_get (xs ++ x ∷ []) (length xs) ≡ Some x
  get_last [] x = refl
  get_last (y ∷ xs) x = get_last xs x

  module _ (s : St) (r : Rule s) (id : ℕ) (v : View X) (at : At s.views id v) (kp : v.keeper ≡ true) (other : ℕ) (w : View X) (live : w.live ≡ true) (rests : w.holds ≡ false) (ne : other ≢ 0) (there : At s.views other w) (x : X) where
    abbrev g : View X
    g = after_join r.keeper w

    abbrev vs : List (View X)
    vs = set (set s.views 0 g) other (ended_view x)

    -- each view after a pass was taken in
    each_left : (F : ℕ → View X → Type 0) → F 0 g → F other (ended_view x) → ((j : ℕ) (u : View X) → j ≢ 0 → j ≢ other → At s.views j u → F j u) → (j : ℕ) (u : View X) → At vs j u → F j u
    each_left F zero_ gone rest j u a = each F (set s.views 0 g) other (ended_view x) gone (λ j u nt a. each (λ i t. i ≢ other → F i t) s.views 0 g (λ _. zero_) (λ i t n b. λ nt'. rest i t n nt' b) j u a nt) j u a

    idle_g : g.live ≡ true → ⊥
    idle_g l = true≢false (sym l ∙ r.keeper_idle)

    still_there : (j : ℕ) (u : View X) → j ≢ 0 → j ≢ other → At s.views j u → At vs j u
    still_there j u n nt a = set_else (set s.views 0 g) other j (ended_view x) nt ∙ (set_else s.views 0 j g n ∙ a)

    apart_from : (j : ℕ) (u : View X) → j ≢ other → At s.views j u → u.live ≡ true → w.seat ≢ u.seat
    apart_from j u nt a l e = nt (r.apart j other u w a there l live (sym e))

    took_in : Rule record { words = s.words; homes = s.homes; views = vs }
    took_in = record {
      now = r.now;
      turn = r.turn;
      count = r.count;
      keeper = g;
      words = r.words;
      slot = r.slot;
      keeper_at = set_else (set s.views 0 g) other 0 (ended_view x) (λ e. ne (sym e)) ∙ set_at s.views 0 r.keeper g r.keeper_at;
      keeper_idle = r.keeper_idle;
      opening = r.opening;
      enough = r.enough;
      each_view = each_left (λ j u. FitsIn Turns r.now r.turn r.count j g u)
          record { keeper_first = λ _. refl; named = λ l _. absurd (idle_g l); taken_state = λ l _. absurd (idle_g l); taken_number = λ l _. absurd (idle_g l); spent_at_end = (r.each_view 0 r.keeper r.keeper_at).spent_at_end; history = λ l. absurd (idle_g l); given_out = λ l. absurd (idle_g l); not_joined = λ l. absurd (idle_g l) }
          record { keeper_first = λ e. absurd (true≢false (sym e)); named = λ l _. absurd (true≢false (sym l)); taken_state = λ l _. absurd (true≢false (sym l)); taken_number = λ l _. absurd (true≢false (sym l)); spent_at_end = λ e. absurd (true≢false (sym e)); history = λ l. absurd (true≢false (sym l)); given_out = λ l. absurd (true≢false (sym l)); not_joined = λ l. absurd (true≢false (sym l)) }
          (λ j u n nt a. let f = r.each_view j u a in record { keeper_first = f.keeper_first; named = f.named; taken_state = f.taken_state; taken_number = f.taken_number; spent_at_end = f.spent_at_end; history = f.history; given_out = f.given_out; not_joined = λ l. all_snoc (λ o. o.seat ≢ u.seat) r.keeper.joined (joined_of w) (f.not_joined l) (apart_from j u nt a l) });
      apart = λ i j u t a b lu lt e. each_left (λ i u. u.live ≡ true → u.seat ≡ t.seat → i ≡ j) (λ l _. absurd (idle_g l)) (λ l _. absurd (true≢false (sym l)))
          (λ i u n nt a' lu' e'. each_left (λ j t. t.live ≡ true → u.seat ≡ t.seat → i ≡ j) (λ l _. absurd (idle_g l)) (λ l _. absurd (true≢false (sym l))) (λ j t n' nt' b' lt' e''. r.apart i j u t a' b' lu' lt' e'') j t b lt e')
          i u a lu e;
      holder = λ taken. let h = r.holder taken in (
        h.0,
        h.1,
        still_there h.0 h.1 (not_first s r h.0 h.1 h.2 h.3)
            (λ e. true≢false (sym h.4 ∙ (ap (λ (z : View X). z.holds) (some-injective h.1 w (sym h.2 ∙ (ap (get_elem? s.views) e ∙ there))) ∙ rests))) h.2,
        h.3,
        h.4,
      );
      history = r.history;
      joined_history = all_snoc (λ o. ByOthers Turns o.seat o.left r.now) r.keeper.joined (joined_of w) r.joined_history ((r.each_view other w there).history live);
      current = ⊎_elim
          (λ z. inl (z.0, each_left (λ j u. u.live ≡ true → u.turns ≡ 0) (λ l. absurd (idle_g l)) (λ l. absurd (true≢false (sym l))) (λ j u n nt a. z.1 j u a), all_snoc (λ o. o.turns ≡ 0) r.keeper.joined (joined_of w) z.2 (z.1 other w there live)))
          (λ z. inr (⊎_elim
          (λ h. dite (ℕ_discrete h.0 other)
          (λ e. let same : h.1 ≡ w = some-injective h.1 w (sym h.2 ∙ (ap (get_elem? s.views) e ∙ there)) in let t : h.1.turns ≡ w.turns = ap (λ (q : View X). q.turns) same in
          inr (length r.keeper.joined, joined_of w, get_last r.keeper.joined (joined_of w), omega (arith, t, h.4), ap (λ (q : View X). q.left) (sym same) ∙ h.5))
          (λ nt. inl (h.0, h.1, still_there h.0 h.1 (not_first s r h.0 h.1 h.2 h.3) nt h.2, h.3, h.4, h.5)))
          (λ h. inr (h.0, h.1, get_longer r.keeper.joined (joined_of w ∷ []) h.0 h.1 h.2, h.3, h.4)) z))
          r.current;
    }

  -- the keeper takes in a pass that holds no turn
  pub takes_in : (id : ℕ) (v : View X) (other : ℕ) (w : View X) (x : X) → v.keeper ≡ true → w.live ≡ true → w.holds ≡ false → Joins Rule id v other w (after_join v w) (ended_view x)
  takes_in id v other w x kp live rests s r at apart there = let z : id ≡ 0 = zeroth s r id v at kp in let k : v ≡ r.keeper = is_keeper s r id v at kp in
      subst (λ (z : ℕ × View X). Rule record { words = s.words; homes = s.homes; views = set (set s.views z.0 (after_join z.1 w)) other (ended_view x) }) (λ i. (sym z i, sym k i))
      (took_in s r id v at kp other w live rests (λ e. apart (e ∙ sym z)) (sym (set_else s.views id other (after_join v w) apart) ∙ there) x)

  -- a table at the start
  pub opens : (x : C) → state x.value ≡ first → x.count ≡ 0 → Rule record { words = 0 ∷ 0 ∷ []; homes = maybe.some (Some x) ∷ []; views = keeper_view first 0 [] ∷ [] }
  opens x is num = let k : View X = keeper_view first 0 [] in record {
    now = first;
    turn = 0;
    count = 0;
    keeper = k;
    words = refl;
    slot = λ _. (x, refl, is, num);
    keeper_at = refl;
    keeper_idle = refl;
    opening = refl;
    enough = omega arith;
    each_view = λ j u a. only (λ j u. FitsIn Turns first 0 0 j k u) record { keeper_first = λ _. refl; named = λ l _. absurd (true≢false (sym l)); taken_state = λ l _. absurd (true≢false (sym l)); taken_number = λ l _. absurd (true≢false (sym l)); spent_at_end = λ e. absurd (true≢false (sym e)); history = λ l. absurd (true≢false (sym l)); given_out = λ l. absurd (true≢false (sym l)); not_joined = λ l. absurd (true≢false (sym l)) } j u a;
    apart = λ i j u t a b l _ _. only (λ i u. u.live ≡ true → i ≡ j) (λ l. absurd (true≢false (sym l))) i u a l;
    holder = λ n. absurd (n refl);
    history = nowhere Turns (λ k. k < 0) first;
    joined_history = λ i d l. absurd (omega arith);
    current = inl (refl, λ j u a. only (λ j u. u.live ≡ true → u.turns ≡ 0) (λ l. absurd (true≢false (sym l))) j u a, λ i d l. absurd (omega arith));
  }
    where
      only : (F : ℕ → View X → Type 0) → F 0 (keeper_view first 0 []) → (j : ℕ) (u : View X) → At (keeper_view first 0 [] ∷ []) j u → F j u
      only F f zero u a = subst (F 0) (some-injective _ u a) f
      only F f (suc j) u a = absurd (maybe.some-ne-none u (sym a))

  module _ (s : St) (r : Rule s) (id : ℕ) (v : View X) (at : At s.views id v) (kp : v.keeper ≡ true) (all : Covers seats v.joined) where
    same_keeper : v ≡ r.keeper
    same_keeper = is_keeper s r id v at kp

    nobody : (j : ℕ) (u : View X) → At s.views j u → u.live ≡ true → ⊥
    nobody j u a l = let f = r.each_view j u a in let b = f.given_out l in let e = r.enough in
        let c : Contains (map (λ (o : Joined X). o.seat) r.keeper.joined) u.seat = subst (λ (z : View X). Covers seats z.joined) same_keeper all u.seat (omega (arith, b, e)) in
        found (λ (o : Joined X). o.seat) r.keeper.joined u.seat c.0 c.1 c.2 (f.not_joined l)

    free : r.turn ≡ 0
    free = dite (ℕ_discrete r.turn 0) (λ e. e) (λ ne. let h = r.holder ne in absurd (nobody h.0 h.1 h.2 h.3))

    closes : (x : C) × (s.homes ≡ maybe.some (Some x) ∷ []) × EndsAs Turns first (state x.value) v.joined
    closes = let h = r.slot free in let o : v.joined ≡ r.keeper.joined = ap (λ (z : View X). z.joined) same_keeper in (
      h.0,
      h.1,
      subst (λ (z : X × List (Joined X)). EndsAs Turns first z.0 z.1) (λ i. (sym h.2 i, sym o i)) (
        relaxed Turns (λ k. k < r.keeper.next) (λ _. Unit {0}) (λ _ _. tt) first r.now r.history,
        r.joined_history,
        ⊎_elim (λ z. inl (z.0, z.2)) (λ z. ⊎_elim (λ h. absurd (nobody h.0 h.1 h.2 h.3)) (λ h. inr h) z) r.current,
      ),
    )

  closed : (id : ℕ) (v : View X) (ws : List ℕ) (xs : List (Option C)) → v.keeper ≡ true → Covers seats v.joined → Final (Seen Rule id v) ws xs
      → (x : C) × (get_elem? xs 0 ≡ maybe.some (Some x)) × EndsAs Turns first (state x.value) v.joined
  closed id v ws xs kp all f = let c = closes f.0 f.1.0 id v f.1.1 kp all in
      (c.0, f.4 0 (Some c.0) (ap (λ (l : List (maybe.Option (Option C))). get_elem? l 0) c.1), c.2)

  module _ (id : ℕ) (me : Me (Option C) (View X)) (x : X) (n : ℕ) (os : List (Joined X)) (ws : List ℕ) (xs : List (Option C)) (is : me ≡ (keeper_view x n os, [])) (cov : Covers seats os) (f : Final (Seen Rule id me.0) ws xs) where
    closed_as : (y : C) × (get_elem? xs 0 ≡ maybe.some (Some y)) × EndsAs Turns first (state y.value) os
    closed_as = let c = closed id me.0 ws xs (ap (λ (m : Me (Option C) (View X)). m.0.keeper) is) (subst (λ (m : Me (Option C) (View X)). Covers seats m.0.joined) (sym is) cov) f in
        (c.0, c.1, subst (λ (m : Me (Option C) (View X)). EndsAs Turns first (state c.0.value) m.0.joined) is c.2)

    pub closed_value : (z : C) → get_elem? xs 0 ≡ maybe.some (Some z) → EndsAs Turns first (state z.value) os
    unfolding or_else
    closed_value z e = let y : C = closed_as.0 in subst (λ (q : C). EndsAs Turns first (state q.value) os) (ap (or_else y) (some-injective (Some y) (Some z) (sym closed_as.1 ∙ e))) closed_as.2

    pub closed_none : get_elem? xs 0 ≡ maybe.some None → ⊥
    closed_none e = true≢false (ap filled (some-injective (Some closed_as.0) None (sym closed_as.1 ∙ e)))
