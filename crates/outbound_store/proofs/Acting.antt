-- The next file of an address whose action is to be done.
use Rattle.std.proofs.Common.{◌≡◌, ◌⊎◌, inl, inr, ⊎_elim, ℕ, ◌+◌, ◌<◌, ◌≤◌, ◌==◌, Bool, true, false, cond, List, [], ◌∷◌, refl, sym, ◌∙◌, ap, subst, arith}
use Rattle.std.specs.Prelude.{count_by, if◌then◌else◌}
use Rattle.std.proofs.lemmas.Bool.{cases_Bool, cases_lt}
use Rattle.std.proofs.lemmas.Bool.Decides.{Decides-eqb}
use Rattle.std.proofs.lemmas.List.Sums.{sum_by-cons}
use Rattle.ftn_addr.specs.Address.{Address}
use Rattle.ftn_addr.specs.Files.{is_same}
use Rattle.node_model.specs.Durable.{acted_entry, all_acted}
use Rattle.node_model.specs.Items.{EntryOf}
use Rattle.node_model.specs.Lists.{Member}
use Rattle.node_model.specs.SendRows.{NextActed, waits_for_action}
use Rattle.node_model.proofs.Lists.{is_same_at, is_same_true, off}

module _ {B : Type 0} (dest : Address) where
  abbrev Waits : EntryOf B → Type 0
  Waits e = (e.dest ≡ dest) × (waits_for_action e ≡ true)

  decide_waits : (e : EntryOf B) → Waits e ⊎ (Waits e → ⊥)
  decide_waits e = elim (cases_Bool (is_same dest e.key e.dest e.key)) [
    | inl same ↦ elim (cases_Bool (waits_for_action e)) [
      | inl waits ↦ inl (sym (is_same_true dest e.key e.dest e.key same).0, waits)
      | inr done ↦ inr (λ w. off (sym w.1 ∙ done))
    ]
    | inr other ↦ inr (λ w. off (sym (is_same_at dest e.key e.dest e.key (sym w.0) refl) ∙ other))
  ]

  record Least (queue : List (EntryOf B)) : Type 0 where
    entry : EntryOf B
    there : Member entry queue
    waits : Waits entry
    least : (e : EntryOf B) → Member e queue → Waits e → entry.number ≤ e.number

  abbrev None_waits : List (EntryOf B) → Type 0
  None_waits queue = (e : EntryOf B) → Member e queue → Waits e → ⊥

  decide : (queue : List (EntryOf B)) → Least queue ⊎ None_waits queue
  decide [] = inr (λ e there w. there)
  decide (x ∷ queue) = step (decide_waits x) (decide queue)
    where
      first : Waits x → ((e : EntryOf B) → Member e queue → Waits e → x.number ≤ e.number) → Least (x ∷ queue)
      first w low = record {
        entry = x;
        there = inl refl;
        waits = w;
        least = λ e there v. ⊎_elim (λ (same : e ≡ x). let eq = ap (λ (y : EntryOf B). y.number) same in omega (arith, eq)) (λ (later : Member e queue). low e later v) there;
      }

      later : (l : Least queue) → (Waits x → l.entry.number ≤ x.number) → Least (x ∷ queue)
      later l low = record {
        entry = l.entry;
        there = inr l.there;
        waits = l.waits;
        least = λ e there v. ⊎_elim (λ (same : e ≡ x). let le = low (subst Waits same v) in let eq = ap (λ (y : EntryOf B). y.number) same in omega (arith, le, eq)) (λ (behind : Member e queue). l.least e behind v) there;
      }

      step : Waits x ⊎ (Waits x → ⊥) → Least queue ⊎ None_waits queue → Least (x ∷ queue) ⊎ None_waits (x ∷ queue)
      step (inl w) (inl l) = elim (cases_lt l.entry.number x.number) [
        | inl less ↦ inl (later l (λ v. omega (arith, less)))
        | inr more ↦ inl (first w (λ e there v. let le = l.least e there v in omega (arith, more, le)))
      ]
      step (inl w) (inr none) = inl (first w (λ e there v. absurd (none e there v)))
      step (inr not_so) (inl l) = inl (later l (λ v. absurd (not_so v)))
      step (inr not_so) (inr none) = inr (λ e there v. ⊎_elim (λ (same : e ≡ x). not_so (subst Waits same v)) (λ (behind : Member e queue). none e behind v) there)

  -- there is a next one, or none waits
  pub decide_next : (queue : List (EntryOf B)) → ((number : ℕ) × NextActed dest number queue) ⊎ ((e : EntryOf B) → Member e queue → e.dest ≡ dest → waits_for_action e ≡ true → ⊥)
  decide_next queue = elim (decide queue) [
    | inl l ↦ inl (
      l.entry.number,
      record {
        entry = l.entry;
        there = l.there;
        is = refl;
        addressed = l.waits.0;
        waits = l.waits.1;
        first_one = λ e there to waits. l.least e there (to, waits);
      },
    )
    | inr none ↦ inr (λ e there to waits. none e there (to, waits))
  ]

  -- there is one next at most
  pub one_next : (queue : List (EntryOf B)) (n m : ℕ) → NextActed dest n queue → NextActed dest m queue → n ≡ m
  one_next queue n m x y =
      let a = x.first_one y.entry y.there y.addressed y.waits in
      let b = y.first_one x.entry x.there x.addressed x.waits in
      let c = x.is in
      let d = y.is in
      omega (arith, a, b, c, d)

-- Once it is recorded, one action less is to be done.

module _ {B : Type 0} (n : ℕ) where
  abbrev counted : EntryOf B → ℕ
  counted e = cond (waits_for_action e) 1 0

  less_or_same : (e : EntryOf B) → counted (acted_entry n e) ≤ counted e
  less_or_same e = go (e.number == n)
    where
      go : (b : Bool) → counted (if b then record e { acted = true } else e) ≤ counted e
      go true = omega arith
      go false = omega arith

  acted_none : (e : EntryOf B) → e.number ≡ n → counted (acted_entry n e) ≡ 0
  acted_none e is = ap (λ (b : Bool). counted (if b then record e { acted = true } else e)) ((Decides-eqb e.number n).1 is)

  one_more : (e : EntryOf B) (queue : List (EntryOf B)) → count_by waits_for_action (e ∷ queue) ≡ counted e + count_by waits_for_action queue
  one_more e queue = sum_by-cons counted e queue

  acted_more : (e : EntryOf B) (queue : List (EntryOf B)) → count_by waits_for_action (all_acted n (e ∷ queue)) ≡ counted (acted_entry n e) + count_by waits_for_action (all_acted n queue)
  acted_more e queue = sum_by-cons counted (acted_entry n e) (all_acted n queue)

  at_most : (queue : List (EntryOf B)) → count_by waits_for_action (all_acted n queue) ≤ count_by waits_for_action queue
  at_most [] = omega arith
  at_most (e ∷ queue) = let a = less_or_same e in let b = at_most queue in omega (arith, a, b, one_more e queue, acted_more e queue)

  pub fewer : (queue : List (EntryOf B)) (e : EntryOf B) → Member e queue → e.number ≡ n → waits_for_action e ≡ true → count_by waits_for_action (all_acted n queue) < count_by waits_for_action queue
  fewer [] e there is waits = absurd there
  fewer (x ∷ queue) e (inl same) is waits =
      let none = acted_none x (sym (ap (λ (y : EntryOf B). y.number) same) ∙ is) in
      let one : counted x ≡ 1 = ap (λ (b : Bool). cond b 1 0) (sym (ap waits_for_action same) ∙ waits) in
      let rest = at_most queue in
      omega (arith, none, one, rest, one_more x queue, acted_more x queue)
  fewer (x ∷ queue) e (inr there) is waits =
      let a = less_or_same x in
      let b = fewer queue e there is waits in
      omega (arith, a, b, one_more x queue, acted_more x queue)
