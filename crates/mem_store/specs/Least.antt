-- The least number of those items that pass a test (own).
use Rattle.std.specs.Prelude.{◌≡◌, ℕ, ◌≤◌, Bool, true, false, List, Option, Some, None, min, nat_lt}
use Rattle.node_model.specs.Lists.{Member}

pub record LeastOf {A : Type 0} (p : A → Bool) (number : A → ℕ) (xs : List A) (n : ℕ) : Type 0 where
  pub item : A
  pub there : Member item xs
  pub passes : p item ≡ true
  pub numbered : number item ≡ n
  pub least : (x : A) → Member x xs → p x ≡ true → n ≤ number x

-- none passes, or that is the least number of those that do
abbrev pub Least : {A : Type 0} → (A → Bool) → (A → ℕ) → List A → Option ℕ → Type 0
Least {A} p number xs None = (x : A) → Member x xs → p x ≡ true → ⊥
Least p number xs (Some n) = LeastOf p number xs n

-- the least so far, and the number of one item more
abbrev pub lesser : Bool → ℕ → Option ℕ → Option ℕ
lesser false n best = best
lesser true n None = Some n
lesser true n (Some m) = Some (min n m)

-- above that one
abbrev pub is_above : Option ℕ → ℕ → Bool
is_above None n = true
is_above (Some last) n = nat_lt last n
