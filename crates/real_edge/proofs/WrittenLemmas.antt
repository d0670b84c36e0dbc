-- A piece after another is written.
use Rattle.std.proofs.Common.{◌≡◌, ℕ, ◌+◌, ◌-◌, List, [], arith, drop, length, take, Option, Some, None, sym, ◌∙◌, refl, subst}
use Rattle.std.proofs.Math.Seq.{take-add}
use Rattle.std.proofs.lemmas.List.{append-nil, length-drop, take_all}
use Rattle.std.specs.Io.KnownBytes.{Appends, Keeps}
use Rattle.binkp_link.specs.declared.link.WriteAnswer.{WriteAnswer}
use Rattle.binkp_link.specs.declared.link.WriteAnswer.TheVariants as W
use Rattle.real_edge.specs.WaitingLines.{HasWritten}
use Rattle.real_edge.proofs.CopyLemmas.{appends_more}

-- none of the bytes was written
pub appends_none : (a b : Option (List ℕ)) → Appends a b [] → Keeps a b
appends_none None b none = tt
appends_none (Some a) None none = absurd none
appends_none (Some a) (Some b) none = none ∙ append-nil a

-- what was written stays
pub appends_keeps : (a b c : Option (List ℕ)) (xs : List ℕ) → Appends a b xs → Keeps b c → Appends a c xs
appends_keeps None b c xs first second = tt
appends_keeps (Some a) None c xs first second = absurd first
appends_keeps (Some a) (Some b) None xs first second = absurd second
appends_keeps (Some a) (Some b) (Some c) xs first second = second ∙ first

-- n bytes, and then m of the rest
pub appends_on : (a b c : Option (List ℕ)) (n m : ℕ) (xs : List ℕ) → Appends a b (take n xs) → Appends b c (take m (drop n xs)) → Appends a c (take (n + m) xs)
appends_on a b c n m xs first second = subst (Appends a c) (sym (take-add n m xs)) (appends_more a b c (take n xs) (take m (drop n xs)) first second)

-- a write that took none of the bytes
pub written_none : (a b c : Option (List ℕ)) (answer : WriteAnswer) (xs ys : List ℕ) → ((n : ℕ) → answer ≡ W.Wrote n → ⊥) → Appends a b xs → HasWritten answer ys b c → Appends a c xs
written_none a b c (W.Wrote n) xs ys not first second = absurd (not n refl)
written_none a b c W.Quiet xs ys not first second = appends_keeps a b c xs first second
written_none a b c W.Failed xs ys not first second = appends_keeps a b c xs first second

-- the rest of a list is a front of itself
pub rest_is : (n : ℕ) (xs : List ℕ) → take (length xs - n) (drop n xs) ≡ drop n xs
rest_is n xs = take_all (length xs - n) (drop n xs) (omega (arith, length-drop n xs))
