-- A map from addresses has its nodes in the order of the index.
use Rattle.std.proofs.Common.{◌≡◌, ℕ, true, false, eqb, ltb, List, [], ◌∷◌, map, refl, sym, ap, ◌∙◌, inl, inr, arith, Bor}
use Rattle.std.specs.Prelude.{is_some}
use Rattle.std.specs.BTreeMap.{is_at, insert_entry}
use Rattle.std.specs.Map.{lookup, values_of}
use Rattle.std.specs.Ordering.{nat_cmp}
use Rattle.std.proofs.lemmas.Bool.{cases_Bool, ne_eqb, eqb-false, or_parts}
use Rattle.std.proofs.lemmas.Bool.Decides.{nat_tests}
use Rattle.std.proofs.lemmas.Map.Entries.{lookup_head, lookup_tail}
use Rattle.nodelist_comp.specs.Index.{insert_node}
use Rattle.nodelist_comp.specs.Keyed.{Keyed, seen}
use Rattle.nodelist_comp.specs.Node.{ListedNode, place_of, has_place}
use Rattle.nodelist_comp.specs.Views.{listed}
use Rattle.nodelist_comp.specs.declared.node.Listed.{Listed}

at_same : (q k : ℕ) → is_at (nat_cmp q) k ≡ eqb k q
at_same q k = grind (arith, nat_tests)

pub has_seen : (entries : List (ℕ × Bor Listed)) (q : ℕ) → Keyed entries → is_some (lookup (is_at (nat_cmp q)) entries) ≡ has_place (seen entries) q
has_seen [] q keyed = refl
has_seen (e ∷ entries) q keyed =
    let here : is_at (nat_cmp q) e.0 ≡ eqb (place_of (listed e.1.now)) q = at_same q e.0 ∙ ap (λ (k : ℕ). eqb k q) keyed.0 in
    let there = has_seen entries q keyed.1 in
    elim (cases_Bool (eqb (place_of (listed e.1.now)) q)) as (λ _. is_some (lookup (is_at (nat_cmp q)) (e ∷ entries)) ≡ has_place (seen (e ∷ entries)) q) [
      | inl same ↦ ap is_some (lookup_head (is_at (nat_cmp q)) e entries (here ∙ same)) ∙ rw same refl
      | inr other ↦ ap is_some (lookup_tail (is_at (nat_cmp q)) e entries (here ∙ other)) ∙ there ∙ rw other refl
    ]

pub seen-insert : (entries : List (ℕ × Bor Listed)) (k : ℕ) (v : Bor Listed) → k ≡ place_of (listed v.now) → Keyed entries → has_place (seen entries) k ≡ false → (seen (insert_entry nat_cmp entries k v) ≡ insert_node (listed v.now) (seen entries)) × Keyed (insert_entry nat_cmp entries k v)
seen-insert [] k v key keyed absent = (refl, (key, tt))
seen-insert (e ∷ entries) k v key keyed absent =
    let m : ℕ = place_of (listed e.1.now) in
    let apart = or_parts (eqb m k) (has_place (seen entries) k) absent in
    let later = seen-insert entries k v key keyed.1 apart.1 in
    elim (cases_Bool (ltb k e.0)) as (λ _. (seen (insert_entry nat_cmp (e ∷ entries) k v) ≡ insert_node (listed v.now) (seen (e ∷ entries))) × Keyed (insert_entry nat_cmp (e ∷ entries) k v)) [
      | inl below ↦ (let first : ltb (place_of (listed v.now)) m ≡ true = ap (λ (p : ℕ). ltb p m) (sym key) ∙ ap (ltb k) (sym keyed.0) ∙ below in
          rw below (rw first refl, (key, keyed)))
      | inr above ↦ (let first : ltb (place_of (listed v.now)) m ≡ false = ap (λ (p : ℕ). ltb p m) (sym key) ∙ ap (ltb k) (sym keyed.0) ∙ above in
          let unequal : eqb k e.0 ≡ false = ne_eqb k e.0 (λ same. eqb-false m k apart.0 (sym (same ∙ keyed.0))) in
          rw (above, unequal) (rw first (ap (λ (ns : List ListedNode). listed e.1.now ∷ ns) later.0), (keyed.0, later.1)))
    ]

pub seen-values : (entries : List (ℕ × Bor Listed)) → map (λ (n : Bor Listed). listed n.now) (values_of entries) ≡ seen entries
seen-values [] = refl
seen-values (e ∷ entries) = ap (λ (ns : List ListedNode). listed e.1.now ∷ ns) (seen-values entries)
