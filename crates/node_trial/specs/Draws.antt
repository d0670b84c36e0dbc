-- The numbers that a trial draws, by the generator's state (own).
use Rattle.std.specs.Prelude.{ℕ, zero, suc, ◌+◌, ◌*◌, ◌/◌, ◌%◌, ◌^◌, List, [], ◌∷◌}

-- the state that follows
unfoldable pub next : ℕ → ℕ
next x = (x * 6364136223846793005 + 1442695040888963407) % 2 ^ 64

-- what is drawn: the upper 31 bits of the state that follows
abbrev pub drawn : ℕ → ℕ
drawn x = next x / 2 ^ 33

-- so many draws, and the state behind them
abbrev pub draws : ℕ → ℕ → List ℕ
draws zero x = []
draws (suc n) x = drawn x ∷ draws n (next x)

abbrev pub behind : ℕ → ℕ → ℕ
behind zero x = x
behind (suc n) x = behind n (next x)
