-- How the numbers of a state's files, parts and receipts lie to one another (own).
use Rattle.std.specs.Prelude.{◌≡◌, ◌≢◌, ℕ, true, List, [], ◌∷◌, map}
use Rattle.std.specs.List.{AllByRecursion}
use Rattle.ledger_rec.specs.Fold.{State, is_among}
use Rattle.ledger_rec.specs.Items.{Entry, Receipt, PartMark}

-- no mark has that number
abbrev pub IsApartFrom : ℕ → List PartMark → Type 0
IsApartFrom number marks = AllByRecursion (λ (m : PartMark). m.number ≢ number) marks

-- no two marks have one number
abbrev pub AreApart : List PartMark → Type 0
AreApart [] = Unit {0}
AreApart (m ∷ ms) = IsApartFrom m.number ms × AreApart ms

-- no two of these are the same
abbrev pub AreDifferent : List ℕ → Type 0
AreDifferent [] = Unit {0}
AreDifferent (n ∷ ns) = AllByRecursion (λ k. n ≢ k) ns × AreDifferent ns

-- No two files of the queue have one number. No two marks have one, and none has that of a receipt; all these numbers are used.
pub record IsOrderly (s : State) : Type 0 where
  pub queue : AreDifferent (map (λ (e : Entry). e.number) s.queue)
  pub marks : AllByRecursion (λ (m : PartMark). is_among m.number s.parts ≡ true) s.marks
  pub inbox : AllByRecursion (λ (r : Receipt). is_among r.number s.parts ≡ true) s.inbox
  pub apart : AreApart s.marks
  pub free : AllByRecursion (λ (r : Receipt). IsApartFrom r.number s.marks) s.inbox
