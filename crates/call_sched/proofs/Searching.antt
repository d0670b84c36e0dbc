-- Calls in order, and the last of an address among them.
use Rattle.std.proofs.Common.{◌≡◌, ℕ, ◌+◌, ◌-◌, ◌<◌, ◌≤◌, true, false, List, refl, sym, ap, subst, ◌∙◌, inl, inr, arith}
use Rattle.std.specs.Prelude.{Some, None, slice_get}
use Rattle.std.specs.declared.cmp.Ordering.TheVariants.{Equal}
use Rattle.std.specs.Ordering.{is_gt, nat_cmp}
use Rattle.std.proofs.lemmas.Bool.{cases_Bool, cases_lt, true≢false}
use Rattle.std.proofs.lemmas.Cmp.{tied_itself, upto}
use Rattle.file_index.proofs.Order.{same_address_is}
use Rattle.ftn_addr.specs.Address.{Address, address, same_address}
use Rattle.call_sched.specs.Tries.{Rising, address_order, last_try, try_order}
use Rattle.call_sched.specs.declared.words.Try.{Try}
use Rattle.call_sched.proofs.LastTry.{last_is, some_is, same_where}
use Rattle.call_sched.proofs.Orders.{address_same, address_total, first_not_behind, number_up_to, second_not_behind, tie, try_total}

-- the calls before a place are in order
abbrev pub RisesTo : List Try → ℕ → Type 0
RisesTo tries n = (i k : ℕ) (s t : Try) → i < k → k < n → slice_get tries i ≡ Some s → slice_get tries k ≡ Some t → is_gt (try_order s t) ≡ false

pub rises_more : (tries : List Try) (n : ℕ) (s t : Try) → 1 ≤ n → slice_get tries (n - 1) ≡ Some s → slice_get tries n ≡ Some t → is_gt (try_order s t) ≡ false → RisesTo tries n → RisesTo tries (n + 1)
rises_more tries n s t positive before here up rises i k u v lower within one two =
    elim (cases_lt k n) as (λ _. is_gt (try_order u v) ≡ false) [
      | inl inside ↦ rises i k u v lower inside one two
      | inr past ↦
          let at : k ≡ n = omega arith in
          let last : v ≡ t = some_is (sym two ∙ ap (slice_get tries) at ∙ here) in
          subst (λ (x : Try). is_gt (try_order u x) ≡ false) (sym last) (elim (cases_lt i (n - 1)) as (λ _. is_gt (try_order u t) ≡ false) [
            | inl further ↦ upto try_total u s t (rises i (n - 1) u s further (omega arith) one before) up
            | inr beside ↦
                let place : i ≡ n - 1 = omega arith in
                let next : u ≡ s = some_is (sym one ∙ ap (slice_get tries) place ∙ before) in
                subst (λ (x : Try). is_gt (try_order x t) ≡ false) (sym next) up
          ])
    ]

-- a call's address isn't behind another, or it is
abbrev pub IsUpTo : Address → Try → Type 0
IsUpTo a t = is_gt (address_order (address t.addr) a) ≡ false

abbrev pub IsPast : Address → Try → Type 0
IsPast a t = is_gt (address_order (address t.addr) a) ≡ true

addresses_rise : (tries : List Try) → Rising tries → (i k : ℕ) (s t : Try) → i < k → slice_get tries i ≡ Some s → slice_get tries k ≡ Some t → is_gt (address_order (address s.addr) (address t.addr)) ≡ false
addresses_rise tries rises i k s t lower one two = first_not_behind (address_order (address s.addr) (address t.addr)) (nat_cmp s.at t.at) (rises i k s t lower one two)

pub all_up_to : (tries : List Try) (a : Address) → Rising tries → (middle : ℕ) (m : Try) → slice_get tries middle ≡ Some m → IsUpTo a m → (k : ℕ) (t : Try) → k < middle + 1 → slice_get tries k ≡ Some t → IsUpTo a t
all_up_to tries a rises middle m here up k t within there =
    elim (cases_lt k middle) as (λ _. IsUpTo a t) [
      | inl before ↦ upto address_total (address t.addr) (address m.addr) a (addresses_rise tries rises k middle t m before there here) up
      | inr past ↦
          let at : k ≡ middle = omega arith in
          let same : t ≡ m = some_is (sym there ∙ ap (slice_get tries) at ∙ here) in
          subst (IsUpTo a) (sym same) up
    ]

pub all_past : (tries : List Try) (a : Address) → Rising tries → (middle : ℕ) (m : Try) → slice_get tries middle ≡ Some m → IsPast a m → (k : ℕ) (t : Try) → middle ≤ k → slice_get tries k ≡ Some t → IsPast a t
all_past tries a rises middle m here past k t from there =
    elim (cases_lt middle k) as (λ _. IsPast a t) [
      | inl behind ↦ elim (cases_Bool (is_gt (address_order (address t.addr) a))) as (λ _. IsPast a t) [
        | inl is ↦ is
        | inr not ↦ absurd (true≢false (sym past ∙ upto address_total (address m.addr) (address t.addr) a (addresses_rise tries rises middle k m t behind here there) not))
      ]
      | inr at_it ↦
          let at : k ≡ middle = omega arith in
          let same : t ≡ m = some_is (sym there ∙ ap (slice_get tries) at ∙ here) in
          subst (IsPast a) (sym same) past
    ]

-- a call of the address isn't past it
not_past : (a : Address) (t : Try) → address t.addr ≡ a → IsPast a t → ⊥
not_past a t same past = true≢false (sym past ∙ ap (λ (x : Address). is_gt (address_order x a)) same ∙ ap is_gt (tied_itself address_total a))

-- where all calls are past the address it has none
pub none_at_all : (tries : List Try) (a : Address) → ((k : ℕ) (t : Try) → slice_get tries k ≡ Some t → IsPast a t) → None ≡ last_try tries a
none_at_all tries a past = last_is tries a None (λ k t there same. not_past a t same (past k t there))

-- the call before the first past the address is its last, where it is one of it
pub last_there : (tries : List Try) (a : Address) → Rising tries → (low : ℕ) (m : Try) → 0 < low → slice_get tries (low - 1) ≡ Some m → ((k : ℕ) (t : Try) → low ≤ k → slice_get tries k ≡ Some t → IsPast a t) → same_address (address m.addr) a ≡ true → Some m.at ≡ last_try tries a
last_there tries a rises low m positive here past same = last_is tries a (Some m.at) (record { place = low - 1; made = m; there = here; same = is; moment = refl; latest = latest })
  where
    is : address m.addr ≡ a
    is = same_address_is (address m.addr) a same

    latest : (k : ℕ) (t : Try) → slice_get tries k ≡ Some t → address t.addr ≡ a → t.at ≤ m.at
    latest k t there of = elim (cases_lt k low) as (λ _. t.at ≤ m.at) [
      | inr behind ↦ absurd (not_past a t of (past k t behind there))
      | inl before ↦ elim (cases_lt k (low - 1)) as (λ _. t.at ≤ m.at) [
        | inl further ↦
            let both : address_order (address t.addr) (address m.addr) ≡ Equal = ap (λ (x : Address). address_order x (address m.addr)) (of ∙ sym is) ∙ tied_itself address_total (address m.addr) in
            number_up_to t.at m.at (second_not_behind (address_order (address t.addr) (address m.addr)) (nat_cmp t.at m.at) both (rises k (low - 1) t m further there here))
        | inr beside ↦
            let at : k ≡ low - 1 = omega arith in
            let moment : t.at ≡ m.at = ap (λ (x : Try). x.at) (some_is (sym there ∙ ap (slice_get tries) at ∙ here)) in
            omega arith
      ]
    ]

-- where that call is one of another address it has none
pub none_there : (tries : List Try) (a : Address) → Rising tries → (low : ℕ) (m : Try) → 0 < low → slice_get tries (low - 1) ≡ Some m → IsUpTo a m → ((k : ℕ) (t : Try) → low ≤ k → slice_get tries k ≡ Some t → IsPast a t) → same_address (address m.addr) a ≡ false → None ≡ last_try tries a
none_there tries a rises low m positive here up past other = last_is tries a None go
  where
    go : (k : ℕ) (t : Try) → slice_get tries k ≡ Some t → address t.addr ≡ a → ⊥
    go k t there of = elim (cases_lt k low) as (λ _. ⊥) [
      | inr behind ↦ not_past a t of (past k t behind there)
      | inl before ↦ elim (cases_lt k (low - 1)) as (λ _. ⊥) [
        | inl further ↦
            let lower : is_gt (address_order a (address m.addr)) ≡ false = ap (λ (x : Address). is_gt (address_order x (address m.addr))) (sym of) ∙ addresses_rise tries rises k (low - 1) t m further there here in
            true≢false (sym (tie address_total (address m.addr) a up lower) ∙ address_same (address m.addr) a ∙ other)
        | inr beside ↦
            let at : k ≡ low - 1 = omega arith in
            let one : t ≡ m = some_is (sym there ∙ ap (slice_get tries) at ∙ here) in
            true≢false (sym (same_where (address m.addr) a (ap (λ (x : Try). address x.addr) (sym one) ∙ of)) ∙ other)
      ]
    ]
