-- Draws and files one by one: what is left to be drawn loses its first.
use Rattle.std.proofs.Common.{◌≡◌, ℕ, zero, suc, ◌+◌, ◌-◌, ◌*◌, ◌%◌, ◌^◌, ◌<◌, ◌≤◌, List, [], ◌∷◌, ◌++◌, map, length, arith, append_assoc, refl, sym, ◌∙◌, ap}
use native.Mathlib.Nat.{mod-add-mod}
use Rattle.std.proofs.lemmas.List.{length-map}
use Rattle.std.proofs.lemmas.List.Sums.{sum_by-cons}
use Rattle.node_trial.specs.Draws.{behind, drawn, draws, next}
use Rattle.node_trial.specs.Files.{File, behind_file, bytes_in, file_at, files_from}

-- the state that follows, computed at 64 bits
pub next_is : (x : ℕ) → (x * 6364136223846793005 % 2 ^ 64 + 1442695040888963407) % 2 ^ 64 ≡ next x
unfolding next
next_is x = mod-add-mod (x * 6364136223846793005) (2 ^ 64) 1442695040888963407

first_draw : (n x : ℕ) → 0 < n → draws n x ≡ drawn x ∷ draws (n - 1) (next x)
first_draw zero x some = absurd (omega (arith, some))
first_draw (suc n) x some = let same : n ≡ suc n - 1 = omega arith in ap (λ k. drawn x ∷ draws k (next x)) same

first_behind : (n x : ℕ) → 0 < n → behind n x ≡ behind (n - 1) (next x)
first_behind zero x some = absurd (omega (arith, some))
first_behind (suc n) x some = let same : n ≡ suc n - 1 = omega arith in ap (λ k. behind k (next x)) same

abbrev low : ℕ → ℕ
low d = d % 256

one_less : (size place : ℕ) → size - place - 1 ≡ size - (place + 1)
one_less size place = omega arith

-- a byte more was drawn
pub byte_drawn : (size place x : ℕ) (all bytes : List ℕ) → place < size → all ≡ bytes ++ map low (draws (size - place) x) → all ≡ (bytes ++ (drawn x % 256) ∷ []) ++ map low (draws (size - (place + 1)) (next x))
byte_drawn size place x all bytes within is =
    is
    ∙ ap (λ ds. bytes ++ map low ds) (first_draw (size - place) x (omega (arith, within)))
    ∙ ap (λ n. bytes ++ (drawn x % 256) ∷ map low (draws n (next x))) (one_less size place)
    ∙ sym (append_assoc bytes ((drawn x % 256) ∷ []) (map low (draws (size - (place + 1)) (next x))))

pub state_drawn : (size place x last : ℕ) → place < size → last ≡ behind (size - place) x → last ≡ behind (size - (place + 1)) (next x)
state_drawn size place x last within is =
    is ∙ first_behind (size - place) x (omega (arith, within)) ∙ ap (λ n. behind n (next x)) (one_less size place)

-- both, for what the code has by then
pub draws_on : (size place x y : ℕ) (all bytes more : List ℕ) (last : ℕ) → place < size → y ≡ next x → more ≡ bytes ++ (drawn x % 256) ∷ []
    → (all ≡ bytes ++ map low (draws (size - place) x)) × (last ≡ behind (size - place) x)
    → (all ≡ more ++ map low (draws (size - (place + 1)) y)) × (last ≡ behind (size - (place + 1)) y)
draws_on size place x y all bytes more last within state is was = (
  byte_drawn size place x all bytes within was.0
      ∙ ap (λ bs. bs ++ map low (draws (size - (place + 1)) (next x))) (sym is)
      ∙ ap (λ z. more ++ map low (draws (size - (place + 1)) z)) (sym state),
  state_drawn size place x last within was.1 ∙ ap (λ z. behind (size - (place + 1)) z) (sym state),
)

draws_count : (n x : ℕ) → length (draws n x) ≡ n
draws_count zero x = refl
draws_count (suc n) x = ap suc (draws_count n (next x))

-- as many bytes were drawn as were wanted
pub bytes_count : (n x : ℕ) (bytes : List ℕ) → bytes ≡ map low (draws n x) → length bytes ≡ n
bytes_count n x bytes is = ap length is ∙ length-map (draws n x) low ∙ draws_count n x

-- Files.

first_file : (n number x : ℕ) → 0 < n → files_from n number x ≡ file_at number x ∷ files_from (n - 1) (number + 1) (behind_file x)
first_file zero number x some = absurd (omega (arith, some))
first_file (suc n) number x some = let same : n ≡ suc n - 1 = omega arith in ap (λ k. file_at number x ∷ files_from k (number + 1) (behind_file x)) same

abbrev long : File → ℕ
long f = length f.bytes

-- a file more was drawn
pub file_drawn : (count index x all total : ℕ) → index < count → all ≡ total + bytes_in (files_from (count - index) (index + 1) x) → all ≡ total + length (file_at (index + 1) x).bytes + bytes_in (files_from (count - (index + 1)) (index + 1 + 1) (behind_file x))
file_drawn count index x all total within is =
    let split : bytes_in (files_from (count - index) (index + 1) x) ≡ length (file_at (index + 1) x).bytes + bytes_in (files_from (count - (index + 1)) (index + 1 + 1) (behind_file x)) =
    ap bytes_in (first_file (count - index) (index + 1) x (omega (arith, within)))
    ∙ sum_by-cons long (file_at (index + 1) x) (files_from (count - index - 1) (index + 1 + 1) (behind_file x))
    ∙ ap (λ n. length (file_at (index + 1) x).bytes + bytes_in (files_from n (index + 1 + 1) (behind_file x))) (one_less count index)
    in is ∙ omega (arith, split)

pub files_on : (count index x y all total size : ℕ) (f : File) → index < count → y ≡ behind_file x → f ≡ file_at (index + 1) x → size ≡ length f.bytes → size < 10000
    → (all ≡ total + bytes_in (files_from (count - index) (index + 1) x)) × (total ≤ 10000 * index)
    → (all ≡ total + size + bytes_in (files_from (count - (index + 1)) (index + 1 + 1) y)) × (total + size ≤ 10000 * (index + 1))
files_on count index x y all total size f within state is sized small was = (
  file_drawn count index x all total within was.0
      ∙ ap (λ n. total + n + bytes_in (files_from (count - (index + 1)) (index + 1 + 1) (behind_file x))) (sym (sized ∙ ap long is))
      ∙ ap (λ z. total + size + bytes_in (files_from (count - (index + 1)) (index + 1 + 1) z)) (sym state),
  (let few = was.1 in omega (arith, few, small)),
)

pub count_is : (n number x : ℕ) → length (files_from n number x) ≡ n
count_is zero number x = refl
count_is (suc n) number x = ap suc (count_is n (number + 1) (behind_file x))
