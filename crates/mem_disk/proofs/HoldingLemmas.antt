-- A file that takes another name.
use Rattle.std.proofs.Common.{◌≡◌, ◌≢◌, ℕ, List, Option, Some, None, true, false, refl, sym, ◌∙◌, ap, subst}
use Rattle.std.specs.Prelude.{IfSome, IsSome}
use Rattle.mem_disk.specs.Kept.{Kept}
use Rattle.mem_disk.specs.Holding.{Holding, is_named, under, adding, without, with_own, renamed}
use Rattle.mem_disk.specs.EntryLaws.{in_adding, past_adding, past_without, renamed_entries, named_same}

pub renamed_same : (o : Option Kept) (from to : List ℕ) (h : Holding) → is_named from to ≡ true → h ≡ renamed o from to h
renamed_same None from to h same = refl
renamed_same (Some file) from to h same = rw same refl

pub renamed_absent : (o : Option Kept) (from to : List ℕ) (h : Holding) → o ≡ None → h ≡ renamed o from to h
renamed_absent None from to h same = refl
renamed_absent (Some file) from to h same = cc same

pub renamed_done : (o : Option Kept) (from to : List ℕ) (h : Holding) (own : List (List ℕ × Kept)) → is_named from to ≡ false → IsSome o
    → IfSome o (λ file. own ≡ without from (adding to file h.own)) → with_own own h ≡ renamed o from to h
renamed_done None from to h own other some done = cc some
renamed_done (Some file) from to h own other some done = rw other (ap (λ (l : List (List ℕ × Kept)). with_own l h) done)

apart : (from to : List ℕ) → is_named from to ≡ false → from ≢ to
apart from to other same = cc (ap (is_named from) (sym same), named_same from, other)

-- after the new name was added, the file still stands under the old one
pub still_there : (from to : List ℕ) (w : Kept) (es added : List (List ℕ × Kept)) (file : Kept) → is_named from to ≡ false → added ≡ adding to w es → Some file ≡ under from added
    → under from es ≡ Some file
still_there from to w es added file other is found = sym (found ∙ ap (under from) is ∙ past_adding from to w es (apart from to other))

pub filled : (from to : List ℕ) (w file : Kept) (es added left new : List (List ℕ × Kept)) → is_named from to ≡ false → added ≡ adding to w es → left ≡ without from added
    → Some file ≡ under from added → new ≡ adding to file left → IfSome (under from es) (λ f. new ≡ without from (adding to f es))
filled from to w file es added left new other is gone found put =
    subst (λ (o : Option Kept). IfSome o (λ f. new ≡ without from (adding to f es))) (sym (still_there from to w es added file other is found))
    (put ∙ ap (adding to file) (gone ∙ ap (without from) is) ∙ renamed_entries from to file w es other)

-- and the new name keeps its place
pub keeps_place : (from to : List ℕ) (w : Kept) (es added left : List (List ℕ × Kept)) → is_named from to ≡ false → added ≡ adding to w es → left ≡ without from added → under to left ≡ None → ⊥
keeps_place from to w es added left other is gone none =
    cc (sym none ∙ ap (under to) (gone ∙ ap (without from) is) ∙ past_without to from (adding to w es) (λ same. apart from to other (sym same)) ∙ in_adding to w es)
