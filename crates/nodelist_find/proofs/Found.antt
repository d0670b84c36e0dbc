-- Where an address stands among rising ones.
use Rattle.std.proofs.Common.{◌≡◌, ◌≢◌, ℕ, ◌+◌, ◌<◌, ◌≤◌, eqb, List, [], ◌∷◌, length, get_or, map, Some, None, refl, sym, ap, ◌∙◌, inl, inr, arith}
use Rattle.std.specs.List.{position_or_len}
use Rattle.std.proofs.lemmas.Bool.{cases_Bool, cases_lt, lt-ltb, le-ltb, eq-eqb, ne_eqb}
use Rattle.std.proofs.lemmas.List.{get_or-map, length-map}
use Rattle.std.proofs.lemmas.List.Sums.{position_or_len_is}
use Rattle.nodelist_comp.specs.Node.{ListedNode, place_of}
use Rattle.nodelist_comp.specs.Views.{listed}
use Rattle.nodelist_comp.specs.declared.node.Listed.{Listed}
use Rattle.nodelist_find.specs.Rising.{Rises}
use Rattle.nodelist_find.specs.Route.{found_at}

passed_places : (nodes : List ListedNode) (q : ℕ) → position_or_len (λ n. eqb (place_of n) q) nodes ≡ position_or_len (λ p. eqb p q) (map place_of nodes)
passed_places [] q = refl
passed_places (n ∷ nodes) q =
    elim (cases_Bool (eqb (place_of n) q)) as (λ _. position_or_len (λ m. eqb (place_of m) q) (n ∷ nodes) ≡ position_or_len (λ p. eqb p q) (map place_of (n ∷ nodes))) [
      | inl same ↦ rw same refl
      | inr other ↦ rw other (ap (λ (k : ℕ). 1 + k) (passed_places nodes q))
    ]

pub is_at : (nodes : List ListedNode) (q i : ℕ) → i < length nodes → get_or (map place_of nodes) i 0 ≡ q → ((k : ℕ) → k < i → get_or (map place_of nodes) k 0 ≢ q) → found_at nodes q ≡ Some i
is_at nodes q i within here before =
    let count = length-map nodes place_of in
    let first : position_or_len (λ n. eqb (place_of n) q) nodes ≡ i = passed_places nodes q ∙ position_or_len_is (λ p. eqb p q) (map place_of nodes) i 0 (omega arith) (λ k b. ne_eqb _ _ (before k b)) (λ _. eq-eqb _ _ here) in
    rw (first, lt-ltb i (length nodes) within) refl

pub is_nowhere : (nodes : List ListedNode) (q : ℕ) → ((k : ℕ) → k < length nodes → get_or (map place_of nodes) k 0 ≢ q) → found_at nodes q ≡ None
is_nowhere nodes q none =
    let count = length-map nodes place_of in
    let past : position_or_len (λ n. eqb (place_of n) q) nodes ≡ length nodes = passed_places nodes q ∙ position_or_len_is (λ p. eqb p q) (map place_of nodes) (length nodes) 0 (omega arith) (λ k b. ne_eqb _ _ (none k b)) (λ w. absurd (omega arith)) in
    rw (past, le-ltb (length nodes) (length nodes) (omega arith)) refl

pub place_read : (nodes : List Listed) (i : ℕ) (node : Listed) → i < length nodes → node ≡ get_or nodes i node → get_or (map place_of (map listed nodes)) i 0 ≡ place_of (listed node)
place_read nodes i node within read =
    let count = length-map nodes listed in
    get_or-map place_of (map listed nodes) i (listed node) 0 (omega arith) ∙ ap place_of (get_or-map listed nodes i node (listed node) within ∙ ap listed (sym read))

pub up_to : (ps : List ℕ) (q i : ℕ) → Rises ps → i < length ps → get_or ps i 0 < q → (k : ℕ) → k < i + 1 → get_or ps k 0 < q
up_to ps q i rises within lower k below =
    elim (cases_lt k i) as (λ _. get_or ps k 0 < q) [
      | inl before ↦ (let rise = rises k i before within in omega arith)
      | inr not_before ↦ (let same : get_or ps k 0 ≡ get_or ps i 0 = ap (λ (j : ℕ). get_or ps j 0) (omega arith) in omega arith)
    ]

pub from_on : (ps : List ℕ) (q i : ℕ) → Rises ps → i < length ps → q < get_or ps i 0 → (k : ℕ) → i ≤ k → k < length ps → q < get_or ps k 0
from_on ps q i rises within higher k from inside =
    elim (cases_lt i k) as (λ _. q < get_or ps k 0) [
      | inl behind ↦ (let rise = rises i k behind inside in omega arith)
      | inr not_behind ↦ (let same : get_or ps k 0 ≡ get_or ps i 0 = ap (λ (j : ℕ). get_or ps j 0) (omega arith) in omega arith)
    ]
