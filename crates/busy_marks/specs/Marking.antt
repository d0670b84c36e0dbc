-- Making a mark and its note (own). The note of a mark is the own file `own`; it is whole where it holds the path of the mark
-- and nothing else.
use Rattle.std.specs.Prelude.{◌≡◌, ◌⊎◌, ℕ, List, Option, Some, None, Result, IfOk}
use Rattle.disk_model.specs.Changes.{Follows, Only, OnOwn, Puts}
use Rattle.disk_model.specs.Moments.{Leaves}
use Rattle.disk_model.specs.World.{World}
use Rattle.disk_model.specs.declared.answers.Marking.{Marking}
use Rattle.disk_model.specs.declared.answers.Marking.TheVariants.{Made, Exists}
use Rattle.busy_marks.specs.Ends.{EndsAs}

-- the note is whole, the mark stands with the text and that time, and nothing else changed
pub record IsMarked (own path text : List ℕ) (time : ℕ) (old new : World) : Type 0 where
  pub noted : Puts own (Some path) old.own new.own
  pub marked : Puts path (Some (record { bytes = text; time = time })) old.outside new.outside
  pub gifts : new.gifts ≡ old.gifts

-- On the way: the note alone may differ, in any way, or it is whole and the mark stands.
abbrev pub MarksInPart : (own path text : List ℕ) → ℕ → World → World → Type 0
MarksInPart own path text time old new = Only own old new ⊎ IsMarked own path text time old new

-- At the end: both stand. Where a file stood at the path there is no note. Where it failed without a mark, the note alone may
-- differ.
abbrev pub MarksSo : (own path text : List ℕ) → ℕ → Option Marking → World → World → Type 0
MarksSo own path text time (Some Made) old new = IsMarked own path text time old new
MarksSo own path text time (Some Exists) old new = OnOwn (Puts own None) old new
MarksSo own path text time None old new = Only own old new

-- At every moment what stands of both, and at the end what was made: at Ok what is answered.
pub record MakesMark {D E : Type 0} (files : D → World → Type 0) (moment : D → ℕ) (images : D → ℕ → World → Type 0) (result : Result Marking E) (own path text : List ℕ) (time : ℕ) (old new : D) : Type 0 where
  pub stop : Leaves moment images (MarksInPart own path text time) old new
  pub ends : EndsAs files moment images (λ made. IfOk result (λ marking. made ≡ Some marking)) (MarksSo own path text time) old new

-- The note alone may differ, in what is read and in what a stop leaves at any moment.
pub record NotesAlone {D : Type 0} (files : D → World → Type 0) (moment : D → ℕ) (images : D → ℕ → World → Type 0) (own : List ℕ) (old new : D) : Type 0 where
  pub read : Follows (Only own) (files old) (files new)
  pub stop : Leaves moment images (Only own) old new
