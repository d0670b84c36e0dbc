-- Undoing a mark and its note (own). The mark goes first, and only where it holds the text; then the note goes. `stood` is what
-- the note held, or None where none stood.
use Rattle.std.specs.Prelude.{◌≡◌, ◌≢◌, ◌⊎◌, ℕ, List, [], Option, Some, None, Result, OnOk, unwrap_or}
use Rattle.disk_model.specs.Answers.{Removes, UnmarkOf}
use Rattle.disk_model.specs.Changes.{Follows, Same, OnOwn, Puts}
use Rattle.disk_model.specs.Moments.{Leaves, Now}
use Rattle.disk_model.specs.World.{Files, OutFile, World}
use Rattle.disk_model.specs.declared.answers.Hit.{Hit}
use Rattle.disk_model.specs.declared.answers.Hit.TheVariants.{Done, Other}
use Rattle.busy_marks.specs.Ends.{EndsAs}

-- a mark goes where the file at its path is the one that is meant
abbrev pub MarkGoes : Hit → List ℕ → (List ℕ → Option OutFile) → (List ℕ → Option OutFile) → Type 0
MarkGoes Done path old new = Puts path None old new
MarkGoes Other path old new = new ≡ old

-- a note goes where it stood
abbrev pub NoteGoes : Option (List ℕ) → List ℕ → Files → Files → Type 0
NoteGoes (Some bytes) own old new = Puts own None old new
NoteGoes None own old new = new ≡ old

-- both went, as far as they stood, and nothing else changed
pub record IsUndone (stood : Option (List ℕ)) (hit : Hit) (own path : List ℕ) (old new : World) : Type 0 where
  pub note_gone : NoteGoes stood own old.own new.own
  pub mark_gone : MarkGoes hit path old.outside new.outside
  pub gifts : new.gifts ≡ old.gifts

-- On the way: nothing yet, or the mark alone, or both.
abbrev pub UndoesInPart : Option (List ℕ) → Hit → (own path : List ℕ) → World → World → Type 0
UndoesInPart stood hit own path old new = Same old new ⊎ Removes path hit old new ⊎ IsUndone stood hit own path old new

-- whatever stood there
abbrev pub MayUndo : (own path : List ℕ) → World → World → Type 0
MayUndo own path old new = (stood : Option (List ℕ)) × (hit : Hit) × UndoesInPart stood hit own path old new

-- what was undone
pub data Undone : Type 0 where
  Neither : Undone
  MarkAtLeast : Undone
  Both : Undone

abbrev pub UndoesSo : Option (List ℕ) → Hit → (own path : List ℕ) → Undone → World → World → Type 0
UndoesSo stood hit own path Neither old new = Same old new
UndoesSo stood hit own path MarkAtLeast old new = Removes path hit old new ⊎ IsUndone stood hit own path old new
UndoesSo stood hit own path Both old new = IsUndone stood hit own path old new

-- At every moment what stands of both, and at the end what was undone: at Ok both.
pub record Undoes {D E : Type 0} (files : D → World → Type 0) (moment : D → ℕ) (images : D → ℕ → World → Type 0) (result : Result (Unit {0}) E) (stood : Option (List ℕ)) (hit : Hit) (own path : List ℕ) (old new : D) : Type 0 where
  pub stop : Leaves moment images (UndoesInPart stood hit own path) old new
  pub ends : EndsAs files moment images (λ made. OnOk result (made ≡ Both)) (UndoesSo stood hit own path) old new

-- the path that a note holds; that of an empty note, and of none, is empty
abbrev pub noted_path : List ℕ → World → List ℕ
noted_path own w = unwrap_or (w.own own) []

-- whether the file at that path is a mark with this text; an empty path has none
abbrev pub ClearsAs : Hit → (path text : List ℕ) → World → Type 0
ClearsAs Done path text w = (path ≢ []) × UnmarkOf Done text (w.outside path)
ClearsAs Other path text w = (path ≡ []) ⊎ UnmarkOf Other text (w.outside path)

-- A note alone is removed.

-- it was, or wasn't
abbrev pub NoteMayGo : Option (List ℕ) → List ℕ → World → World → Type 0
NoteMayGo stood own old new = Same old new ⊎ OnOwn (NoteGoes stood own) old new

-- whatever stood there
abbrev pub MayRemoveNote : List ℕ → World → World → Type 0
MayRemoveNote own old new = (stood : Option (List ℕ)) × NoteMayGo stood own old new

-- at any moment it may be gone, and at Ok it is
pub record RemovesNote {D E : Type 0} (files : D → World → Type 0) (moment : D → ℕ) (images : D → ℕ → World → Type 0) (result : Result (Unit {0}) E) (stood : Option (List ℕ)) (own : List ℕ) (old new : D) : Type 0 where
  pub stop : Leaves moment images (NoteMayGo stood own) old new
  pub read : Follows (NoteMayGo stood own) (files old) (files new)
  pub gone : OnOk result (Follows (OnOwn (NoteGoes stood own)) (files old) (files new))
  pub lasts : OnOk result (Follows (OnOwn (NoteGoes stood own)) (Now moment images old) (Now moment images new))
