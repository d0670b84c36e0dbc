-- A write that may be in part.
use Rattle.std.proofs.Common.{◌≡◌, ℕ, ◌+◌, ◌-◌, ◌≤◌, List, drop, refl, sym, ◌∙◌, ap, arith, drop-drop}
use Rattle.disk_model.specs.Changes.{Torn}

-- one that wrote nothing
pub torn_same : (at n : ℕ) (b : List ℕ) → Torn at n b b
torn_same at n b = record { before = refl; after = refl; no_shorter = omega arith; no_longer = omega arith }

-- one of fewer bytes
pub torn_within : (at m n : ℕ) (old new : List ℕ) → m ≤ n → Torn at m old new → Torn at n old new
torn_within at m n old new le torn = record {
  before = torn.before;
  after = further new ∙ ap (λ (l : List ℕ). drop (n - m) l) torn.after ∙ sym (further old);
  no_shorter = torn.no_shorter;
  no_longer = omega (arith, torn.no_longer, le);
}
  where
    further : (l : List ℕ) → drop (at + n) l ≡ drop (n - m) (drop (at + m) l)
    further l = grind (arith, drop-drop)
