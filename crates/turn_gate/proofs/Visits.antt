-- Each step of a visit keeps the rule of the gate.
use Rattle.std.proofs.Common.{◌≡◌, ◌≢◌, ℕ, ◌+◌, ◌<◌, eqb, true, true≢false, List, [], ◌∷◌, length, set, get_or, Option, None, Some, All, refl, sym, ap, ◌∙◌, subst, ⊎_elim, inl, inr, arith}
use mathlib.Core.Logic.{dite}
use mathlib.Core.Option as maybe
use mathlib.Core.Option.{some-injective}
use native.Mathlib.Decide.{ℕ_discrete}
use lib.ListN.{get_elem?}
use prog.Atomic.{either}
use Rattle.atomic_table.specs.Table.{State, Me, Step, step, Act, Valid, carried_after, keeps, takes, gives, stepped, Allows}
use Rattle.atomic_table.proofs.Lists.{set_else, exchanged}
use Rattle.turn_gate.specs.declared.view.View.{View}
use Rattle.turn_gate.specs.declared.view.Joined.{Joined}
use Rattle.turn_gate.specs.declared.view.Counted.{Counted}
use Rattle.turn_gate.specs.Turns.{ByOthers}
use Rattle.turn_gate.specs.Rule.{At, FitsIn, IsKept, IsCurrent, last_number}
use Rattle.turn_gate.specs.Steps.{Acquires, Publishes, FindsSpent, Releases}
use Rattle.turn_gate.specs.Views.{after_acquire, after_busy, after_publish, after_spent, after_release}
use Rattle.turn_gate.proofs.Paths.{nowhere, further}
use Rattle.turn_gate.proofs.Views.{set_at, one_home, not_first, each}

module _ {T X : Type 0} (state : T → X) (Turns : ℕ → X → X → Type 0) (first : X) (seats : ℕ) where
  abbrev C : Type 0
  C = Counted T

  abbrev St : Type 0
  St = State (Option C) (View X)

  abbrev Rule : St → Type 0
  Rule = IsKept state Turns first seats

  later : {a b : X} {k : ℕ} (os : List (Joined X)) → All (λ o. ByOthers Turns o.seat o.left a) os → All (λ o. o.seat ≢ k) os → Turns k a b → All (λ o. ByOthers Turns o.seat o.left b) os
  later {a} {b} {k} os h n t = λ i d l. further Turns _ _ a b k (h i d l) (λ e. n i d l (sym e)) t

  -- no two live passes have one number, after a step that leaves the own
  still_apart : (s : St) (r : Rule s) (id : ℕ) (v w : View X) → At s.views id v → w.live ≡ v.live → w.seat ≡ v.seat
      → (i j : ℕ) (u t : View X) → At (set s.views id w) i u → At (set s.views id w) j t → u.live ≡ true → t.live ≡ true → u.seat ≡ t.seat → i ≡ j
  still_apart s r id v w at live seat i j u t a b lu lt e = each (λ i u. u.live ≡ true → u.seat ≡ t.seat → i ≡ j) s.views id w
      (λ lw es. each (λ j t. t.live ≡ true → w.seat ≡ t.seat → id ≡ j) s.views id w (λ _ _. refl) (λ j t ne at'. λ lt es. r.apart id j v t at at' (sym live ∙ lw) lt (sym seat ∙ es)) j t b lt es)
      (λ i u ne at'. λ lu es. each (λ j t. t.live ≡ true → u.seat ≡ t.seat → i ≡ j) s.views id w (λ lw es'. r.apart i id u v at' at lu (sym live ∙ lw) (es' ∙ seat)) (λ j t ne' at''. λ lt es'. r.apart i j u t at' at'' lu lt es') j t b lt es)
      i u a lu e

  module _ (s : St) (r : Rule s) (id : ℕ) (v : View X) (at : At s.views id v) (live : v.live ≡ true) (long : length s.homes ≡ 1) where
    mine : FitsIn Turns r.now r.turn r.count id r.keeper v
    mine = r.each_view id v at

    first_stays : (w : View X) → At (set s.views id w) 0 r.keeper
    first_stays w = set_else s.views id 0 w (λ e. not_first s r id v at live (sym e)) ∙ r.keeper_at

    -- a step that leaves what was left, and the turns
    same_last : (w : View X) → w.live ≡ v.live → w.turns ≡ v.turns → w.left ≡ v.left → IsCurrent first r.now (set s.views id w) r.keeper.joined
    same_last w li tu le = ⊎_elim
        (λ none. inl (none.0, each (λ j u. u.live ≡ true → u.turns ≡ 0) s.views id w (λ _. tu ∙ none.1 id v at live) (λ j u ne a. none.1 j u a), none.2))
        (λ some_. inr (⊎_elim
        (λ h. dite (ℕ_discrete h.0 id)
        (λ e. let same : h.1 ≡ v = some-injective h.1 v (sym h.2 ∙ (ap (get_elem? s.views) e ∙ at)) in
        let t : h.1.turns ≡ v.turns = ap (λ (z : View X). z.turns) same in inl (id, w, set_at s.views id v w at, li ∙ live, omega (arith, tu, t, h.4), le ∙ (ap (λ (z : View X). z.left) (sym same) ∙ h.5)))
        (λ ne. inl (h.0, h.1, set_else s.views id h.0 w ne ∙ h.2, h.3, h.4, h.5)))
        (λ h. inr h) some_))
        r.current

    took : (x : C) → s.homes ≡ maybe.some (Some x) ∷ [] → state x.value ≡ r.now → x.count ≡ r.count → r.turn ≡ 0
        → Rule record { words = (v.seat + 1) ∷ r.count ∷ []; homes = set s.homes 0 maybe.none; views = set s.views id (after_acquire v (state x.value) x.count) }
    took x home is num free = let w : View X = after_acquire v (state x.value) x.count in record {
      now = r.now;
      turn = v.seat + 1;
      count = r.count;
      keeper = r.keeper;
      words = refl;
      slot = λ z. absurd (omega arith);
      keeper_at = first_stays w;
      keeper_idle = r.keeper_idle;
      opening = r.opening;
      enough = r.enough;
      each_view = each (λ j u. FitsIn Turns r.now (v.seat + 1) r.count j r.keeper u) s.views id w
          record { keeper_first = mine.keeper_first; named = λ _ _. refl; taken_state = λ _ _. is; taken_number = λ _ _. num; spent_at_end = mine.spent_at_end; history = mine.history; given_out = mine.given_out; not_joined = mine.not_joined }
          (λ j u ne a. let f = r.each_view j u a in record { keeper_first = f.keeper_first; named = λ l h. (let n = f.named l h in absurd (omega arith)); taken_state = f.taken_state; taken_number = f.taken_number; spent_at_end = f.spent_at_end; history = f.history; given_out = f.given_out; not_joined = f.not_joined });
      apart = still_apart s r id v w at refl refl;
      holder = λ _. (id, w, set_at s.views id v w at, live, refl);
      history = r.history;
      joined_history = r.joined_history;
      current = same_last w refl refl refl;
    }

    missed : Rule record { words = s.words; homes = s.homes; views = set s.views id (after_busy v) }
    missed = let w : View X = after_busy v in record {
      now = r.now;
      turn = r.turn;
      count = r.count;
      keeper = r.keeper;
      words = r.words;
      slot = r.slot;
      keeper_at = first_stays w;
      keeper_idle = r.keeper_idle;
      opening = r.opening;
      enough = r.enough;
      each_view = each (λ j u. FitsIn Turns r.now r.turn r.count j r.keeper u) s.views id w
          record { keeper_first = mine.keeper_first; named = mine.named; taken_state = mine.taken_state; taken_number = mine.taken_number; spent_at_end = mine.spent_at_end; history = mine.history; given_out = mine.given_out; not_joined = mine.not_joined }
          (λ j u ne a. r.each_view j u a);
      apart = still_apart s r id v w at refl refl;
      holder = λ taken. let h = r.holder taken in dite (ℕ_discrete h.0 id)
          (λ e. let same : h.1 ≡ v = some-injective h.1 v (sym h.2 ∙ (ap (get_elem? s.views) e ∙ at)) in (id, w, set_at s.views id v w at, live, sym (ap (λ (z : View X). z.holds) same) ∙ h.4))
          (λ ne. (h.0, h.1, set_else s.views id h.0 w ne ∙ h.2, h.3, h.4));
      history = r.history;
      joined_history = r.joined_history;
      current = same_last w refl refl refl;
    }

    module _ (holds : v.holds ≡ true) where
      others_rest : (j : ℕ) (u : View X) → j ≢ id → At s.views j u → u.live ≡ true → u.holds ≡ true → ⊥
      others_rest j u ne a l h = ne (r.apart j id u v a at l live (let p = (r.each_view j u a).named l h in let q = mine.named live holds in omega arith))

      its_turn : r.turn ≡ v.seat + 1
      its_turn = mine.named live holds

      own_holder : (w : View X) → w.live ≡ v.live → w.holds ≡ v.holds → r.turn ≢ 0 → (j : ℕ) × (u : View X) × At (set s.views id w) j u × (u.live ≡ true) × (u.holds ≡ true)
      own_holder w li ho _ = (id, w, set_at s.views id v w at, li ∙ live, ho ∙ holds)

      published : (x : X) → v.number < last_number → Turns v.seat v.taken x → Rule record { words = r.turn ∷ (v.number + 1) ∷ []; homes = s.homes; views = set s.views id (after_publish v x) }
      published x low turn = let w : View X = after_publish v x in let step : Turns v.seat r.now x = subst (λ (z : X). Turns v.seat z x) (mine.taken_state live holds) turn in
          let num : v.number ≡ r.count = mine.taken_number live holds in record {
            now = x;
            turn = r.turn;
            count = v.number + 1;
            keeper = r.keeper;
            words = refl;
            slot = λ z. absurd (let t = its_turn in omega arith);
            keeper_at = first_stays w;
            keeper_idle = r.keeper_idle;
            opening = r.opening;
            enough = r.enough;
            each_view = each (λ j u. FitsIn Turns x r.turn (v.number + 1) j r.keeper u) s.views id w
                record { keeper_first = mine.keeper_first; named = mine.named; taken_state = λ _ _. refl; taken_number = λ _ _. refl; spent_at_end = λ e. absurd (let c = mine.spent_at_end e in omega (arith, c, num, low)); history = λ _. nowhere Turns (λ k. k ≢ v.seat) x; given_out = mine.given_out; not_joined = mine.not_joined }
                (λ j u ne a. let f = r.each_view j u a in record {
                  keeper_first = f.keeper_first;
                  named = λ l h. absurd (others_rest j u ne a l h);
                  taken_state = λ l h. absurd (others_rest j u ne a l h);
                  taken_number = λ l h. absurd (others_rest j u ne a l h);
                  spent_at_end = λ e. absurd (let c = f.spent_at_end e in omega (arith, c, num, low));
                  history = λ l. further Turns (λ k. k ≢ u.seat) u.left r.now x v.seat (f.history l) (λ e. ne (r.apart j id u v a at l live (sym e))) step;
                  given_out = f.given_out;
                  not_joined = f.not_joined;
                });
            apart = still_apart s r id v w at refl refl;
            holder = own_holder w refl refl;
            history = further Turns (λ k. k < r.keeper.next) first r.now x v.seat r.history (mine.given_out live) step;
            joined_history = later r.keeper.joined r.joined_history (mine.not_joined live) step;
            current = inr (inl (id, w, set_at s.views id v w at, live, omega arith, refl));
          }

      noted : v.number ≡ last_number → Rule record { words = r.turn ∷ last_number ∷ []; homes = s.homes; views = set s.views id (after_spent v) }
      noted num = let w : View X = after_spent v in let c : r.count ≡ last_number = sym (mine.taken_number live holds) ∙ num in record {
        now = r.now;
        turn = r.turn;
        count = last_number;
        keeper = r.keeper;
        words = refl;
        slot = λ z. absurd (let t = its_turn in omega arith);
        keeper_at = first_stays w;
        keeper_idle = r.keeper_idle;
        opening = r.opening;
        enough = r.enough;
        each_view = each (λ j u. FitsIn Turns r.now r.turn last_number j r.keeper u) s.views id w
            record { keeper_first = mine.keeper_first; named = mine.named; taken_state = mine.taken_state; taken_number = λ _ _. num; spent_at_end = λ _. refl; history = mine.history; given_out = mine.given_out; not_joined = mine.not_joined }
            (λ j u ne a. let f = r.each_view j u a in record { keeper_first = f.keeper_first; named = f.named; taken_state = f.taken_state; taken_number = λ l h. absurd (others_rest j u ne a l h); spent_at_end = λ _. refl; history = f.history; given_out = f.given_out; not_joined = f.not_joined });
        apart = still_apart s r id v w at refl refl;
        holder = own_holder w refl refl;
        history = r.history;
        joined_history = r.joined_history;
        current = same_last w refl refl refl;
      }

      rested : (x : C) → state x.value ≡ v.taken → x.count ≡ v.number → Rule record { words = 0 ∷ r.count ∷ []; homes = maybe.some (Some x) ∷ []; views = set s.views id (after_release v) }
      rested x is num = let w : View X = after_release v in record {
        now = r.now;
        turn = 0;
        count = r.count;
        keeper = r.keeper;
        words = refl;
        slot = λ _. (x, refl, is ∙ mine.taken_state live holds, num ∙ mine.taken_number live holds);
        keeper_at = first_stays w;
        keeper_idle = r.keeper_idle;
        opening = r.opening;
        enough = r.enough;
        each_view = each (λ j u. FitsIn Turns r.now 0 r.count j r.keeper u) s.views id w
            record { keeper_first = mine.keeper_first; named = λ _ h. absurd (true≢false (sym h)); taken_state = λ _ h. absurd (true≢false (sym h)); taken_number = λ _ h. absurd (true≢false (sym h)); spent_at_end = mine.spent_at_end; history = mine.history; given_out = mine.given_out; not_joined = mine.not_joined }
            (λ j u ne a. let f = r.each_view j u a in record { keeper_first = f.keeper_first; named = λ l h. absurd (others_rest j u ne a l h); taken_state = f.taken_state; taken_number = f.taken_number; spent_at_end = f.spent_at_end; history = f.history; given_out = f.given_out; not_joined = f.not_joined });
        apart = still_apart s r id v w at refl refl;
        holder = λ z. absurd (z refl);
        history = r.history;
        joined_history = r.joined_history;
        current = same_last w refl refl refl;
      }

  -- a seat that holds no turn asks for it
  pub acquires : (id : ℕ) (v : View X) (st : Step (Option C)) → v.live ≡ true → Allows Rule 1 id (v, []) 0 (λ n. either (eqb n 0) (v.seat + 1) n) (Acquires state Turns st (v, []))
  acquires id v st live s r long at small =
      let G : ℕ → Type 0 = λ n. (w : View X) × (a : Act (Option C)) × Valid s.homes [] a × Rule (stepped s 0 n id [] w a)
      × Acquires state Turns st (v, []) r.turn (w, carried_after [] a) in
      let found : get_or s.words 0 0 ≡ r.turn = ap (λ (ws : List ℕ). get_or ws 0 0) r.words in
      subst (λ (n : ℕ). (w : View X) × (a : Act (Option C)) × Valid s.homes [] a × Rule (stepped s 0 (either (eqb n 0) (v.seat + 1) n) id [] w a)
      × Acquires state Turns st (v, []) n (w, carried_after [] a)) (sym found)
      (exchanged r.turn 0 (v.seat + 1) G
      (λ free. let h = r.slot free in (
        after_acquire v (state h.0.value) h.0.count,
        takes 0 (Some h.0),
        ap (λ (l : List (maybe.Option (Option C))). get_elem? l 0) h.1,
        subst (λ (ws : List ℕ). Rule record { words = set ws 0 (v.seat + 1); homes = set s.homes 0 maybe.none; views = set s.views id (after_acquire v (state h.0.value) h.0.count) }) (sym r.words) (took s r id v at live long h.0 h.1 h.2 h.3 free),
        ((λ _. (h.0, refl, subst (λ (z : X). ByOthers Turns v.seat v.left z) (sym h.2) ((r.each_view id v at).history live))), (λ other. absurd (other free))),
      ))
      (λ busy. (
        after_busy v,
        keeps,
        tt,
        subst (λ (ws : List ℕ). Rule record { words = ws; homes = s.homes; views = set s.views id (after_busy v) }) (r.words ∙ sym (ap (λ (ws : List ℕ). set ws 0 r.turn) r.words)) (missed s r id v at live long),
        ((λ free. absurd (busy free)), (λ _. refl)),
      )))

  pub acquires_as : (slots id mine : ℕ) (me : Me (Option C) (View X)) (st : Step (Option C)) → slots ≡ 1 → me.1 ≡ [] → mine ≡ me.0.seat + 1 → me.0.live ≡ true
      → Allows Rule slots id me 0 (λ n. either (eqb n 0) mine n) (Acquires state Turns st me)
  acquires_as slots id mine' me st one bare own live = subst (λ (z : ℕ × ℕ × List (ℕ × Option C)). Allows Rule z.0 id (me.0, z.2) 0 (λ n. either (eqb n 0) z.1 n) (Acquires state Turns st (me.0, z.2)))
      (λ i. (sym one i, sym own i, sym bare i)) (acquires id me.0 st live)

  announced : C → maybe.Option (Option C) → C
  announced d (maybe.some (Some y)) = y
  announced d (maybe.some None) = d
  announced d maybe.none = d

  -- the seat that has the turn, and the value out, counts its turn and announces the value
  pub publishes : (slots id old new : ℕ) (me : Me (Option C) (View X)) (x : C) (a b c d : ℕ) → slots ≡ 1 → me.0.live ≡ true → me.0.holds ≡ true → me.0.number ≡ old → new ≡ old + 1 → old < last_number
      → Turns me.0.seat me.0.taken (state x.value) → Allows Rule slots id me 1 (λ n. either (eqb n old) new n) (Publishes state (step a b c d (maybe.some (Some x))) me)
  unfolding announced
  publishes slots id old new me x a b c d one live holds num next low turn = subst (λ (z : ℕ × ℕ). Allows Rule z.0 id me 1 (λ n. either (eqb n old) z.1 n) (Publishes state (step a b c d (maybe.some (Some x))) me)) (λ i. (sym one i, sym next i))
      (λ s r long at small.
      let v : View X = me.0 in
      let w : View X = after_publish v (state x.value) in
      let here : get_or s.words 1 0 ≡ old = ap (λ (ws : List ℕ). get_or ws 1 0) r.words ∙ (sym ((r.each_view id v at).taken_number live holds) ∙ num) in (
        w,
        keeps,
        tt,
        exchanged (get_or s.words 1 0) old (old + 1) (λ n. Rule record { words = set s.words 1 n; homes = s.homes; views = set s.views id w })
            (λ _. subst (λ (z : List ℕ × ℕ). Rule record { words = set z.0 1 (z.1 + 1); homes = s.homes; views = set s.views id w }) (λ i. (sym r.words i, num i))
            (published s r id v at live long holds (state x.value) (subst (λ (n : ℕ). n < last_number) (sym num) low) turn))
            (λ other. absurd (other here)),
        (λ y e. ap (λ (z : C). (after_publish v (state z.value), me.1)) (ap (announced x) e)),
      ))

  -- the seat that has the turn gives it back, with the value
  pub releases : (slots id : ℕ) (me : Me (Option C) (View X)) (v : View X) (x : C) (st : Step (Option C)) → slots ≡ 1 → me ≡ (v, (0, Some x) ∷ []) → v.live ≡ true → v.holds ≡ true
      → state x.value ≡ v.taken → x.count ≡ v.number → Allows Rule slots id me 0 (λ _. 0) (Releases st me)
  releases slots id me v x st one is live holds same num = subst (λ (z : ℕ × Me (Option C) (View X)). Allows Rule z.0 id z.1 0 (λ _. 0) (Releases st z.1)) (λ i. (sym one i, sym is i))
      (λ s r long at small. (
        after_release v,
        gives,
        tt,
        subst (λ (z : List ℕ × List (maybe.Option (Option C))). Rule record { words = z.0; homes = z.1; views = set s.views id (after_release v) })
            (λ i. (sym (ap (λ (ws : List ℕ). set ws 0 0) r.words) i, sym (one_home s.homes (maybe.some (Some x)) long) i)) (rested s r id v at live long holds x same num),
        refl,
      ))

  -- the seat that has the turn notes that the count has ended
  pub finds_spent : (slots id : ℕ) (me : Me (Option C) (View X)) (st : Step (Option C)) (n : ℕ) → slots ≡ 1 → me.0.live ≡ true → me.0.holds ≡ true → n ≡ last_number → me.0.number ≡ last_number → Allows Rule slots id me 1 (λ _. n) (FindsSpent st me)
  finds_spent slots id me st n one live holds num was = subst (λ (z : ℕ × ℕ). Allows Rule z.0 id me 1 (λ _. z.1) (FindsSpent st me)) (λ i. (sym one i, sym num i))
      (λ s r long at small. (
        after_spent me.0,
        keeps,
        tt,
        subst (λ (ws : List ℕ). Rule record { words = ws; homes = s.homes; views = set s.views id (after_spent me.0) }) (sym (ap (λ (ws : List ℕ). set ws 1 last_number) r.words)) (noted s r id me.0 at live long holds was),
        refl,
      ))
