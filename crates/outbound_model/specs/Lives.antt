-- Lists of steps, the newest first, what a stop leaves of them, and what they leave of each take number (own).
use Rattle.std.specs.Prelude.{◌≡◌, ◌⊎◌, ℕ, ◌==◌, true, false, List, [], ◌∷◌, ◌++◌, map, Some, None, if◌then◌else◌}
use Rattle.node_model.specs.Items.{Entry}
use Rattle.outbound_model.specs.declared.fate.Fate.{Fate}
use Rattle.outbound_model.specs.declared.fate.Fate.TheVariants as F
use Rattle.outbound_model.specs.Outbound.{Outbound, is_recorded}
use Rattle.outbound_model.specs.OwnNames.{number_of}
use Rattle.outbound_model.specs.Steps.{Step, Moved, Queued, Made}

-- these steps, the newest first, lead from the one to the other
abbrev pub Reaches : Outbound → List Step → Outbound → Type 0
Reaches a [] b = b ≡ a
Reaches a (e ∷ es) b = (mid : Outbound) × Reaches a es mid × Made e mid b

-- what the first of these steps, none or all, lead to: what a stop within them may leave
abbrev pub Along : Outbound → List Step → Outbound → Type 0
Along a [] d = d ≡ a
Along a (e ∷ es) d = Reaches a (e ∷ es) d ⊎ Along a es d

-- an own folder without a take, and nothing queued
pub record IsFresh (s : Outbound) : Type 0 where
  pub queue : s.queue ≡ []
  pub recorded : s.recorded ≡ []
  pub takes : (own : List ℕ) → s.takes own ≡ None

-- the bytes of the files that were moved under a number
abbrev pub moved : ℕ → List Step → List (List ℕ)
moved n [] = []
moved n (Moved path own bytes ∷ es) = if number_of own == n then bytes ∷ moved n es else moved n es
moved n (e ∷ es) = moved n es

-- the bytes of the takes that were queued under a number, with the fates of their lines
abbrev pub queued : ℕ → List Step → List (List ℕ × List Fate)
queued n [] = []
queued n (Queued own bytes dest moment fates ∷ es) = if number_of own == n then (bytes, fates) ∷ queued n es else queued n es
queued n (e ∷ es) = queued n es

-- the numbers that lines got
abbrev pub numbers : List Fate → List ℕ
numbers [] = []
numbers (F.Queued n ∷ fates) = n ∷ numbers fates
numbers (fate ∷ fates) = numbers fates

abbrev pub numbers_along : List Step → List ℕ
numbers_along [] = []
numbers_along (Queued own bytes dest moment fates ∷ es) = numbers_along es ++ numbers fates
numbers_along (e ∷ es) = numbers_along es

-- no file was moved under the number
pub record IsUnused (n : ℕ) (es : List Step) (s : Outbound) : Type 0 where
  pub moved : moved n es ≡ []
  pub queued : queued n es ≡ []
  pub recorded : is_recorded n s ≡ false
  pub takes : (own : List ℕ) → number_of own ≡ n → s.takes own ≡ None

-- one was, and waits with its bytes; no line of it was queued
pub record Waits (n : ℕ) (es : List Step) (s : Outbound) : Type 0 where
  pub own : List ℕ
  pub bytes : List ℕ
  pub is : number_of own ≡ n
  pub moved : moved n es ≡ bytes ∷ []
  pub queued : queued n es ≡ []
  pub recorded : is_recorded n s ≡ false
  pub stands : s.takes own ≡ Some bytes
  pub same : (other b : List ℕ) → number_of other ≡ n → s.takes other ≡ Some b → b ≡ bytes

-- one was, and each of its lines was queued once
pub record IsSettled (n : ℕ) (es : List Step) (s : Outbound) : Type 0 where
  pub bytes : List ℕ
  pub fates : List Fate
  pub moved : moved n es ≡ bytes ∷ []
  pub queued : queued n es ≡ (bytes, fates) ∷ []
  pub recorded : is_recorded n s ≡ true

abbrev pub Stage : ℕ → List Step → Outbound → Type 0
Stage n es s = IsUnused n es s ⊎ (Waits n es s ⊎ IsSettled n es s)

-- Each file that was moved waits, or was queued once, and the queue has what its lines were given, and nothing else.
pub record IsOnce (es : List Step) (s : Outbound) : Type 0 where
  pub each : (n : ℕ) → Stage n es s
  pub queue : map (λ (e : Entry). e.number) s.queue ≡ numbers_along es
