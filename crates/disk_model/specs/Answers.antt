-- What each answer of a disk says of the world before the call, and what it does (own).
use Rattle.std.specs.Prelude.{◌≡◌, ◌≢◌, ℕ, ◌<◌, ◌≤◌, List, [], length, Option, Some, None, Result, Ok, Err, option_map}
use Rattle.ftn_addr.specs.declared.refusals.Failed.{Failed}
use Rattle.disk_model.specs.World.{OutFile, World}
use Rattle.disk_model.specs.Changes.{Same, Stands, IsFree, OnOwn, OnOutside, Puts, PutsPart, Moves, Gives}
use Rattle.disk_model.specs.Folders.{path_in, IsInUse}
use Rattle.disk_model.specs.declared.answers.Made.{Made}
use Rattle.disk_model.specs.declared.answers.Made.TheVariants.{New, Exists}
use Rattle.disk_model.specs.declared.answers.OutStat.{OutStat}
use Rattle.disk_model.specs.declared.answers.Moved.{Moved}
use Rattle.disk_model.specs.declared.answers.Moved.TheVariants.{Done, Absent}
use Rattle.disk_model.specs.declared.answers.Copied.{Copied}
use Rattle.disk_model.specs.declared.answers.Copied.TheVariants.{Copied as CopiedAll, Absent as NoSource, Over}
use Rattle.disk_model.specs.declared.answers.Hit.{Hit}
use Rattle.disk_model.specs.declared.answers.Hit.TheVariants.{Done as HitDone, Other}
use Rattle.disk_model.specs.declared.answers.Marking.{Marking}
use Rattle.disk_model.specs.declared.answers.Marking.TheVariants.{Made as MarkMade, Exists as MarkExists}
use Rattle.disk_model.specs.declared.answers.Giving.{Giving}
use Rattle.disk_model.specs.declared.answers.Giving.TheVariants.{Given, Taken}

-- the size and the time of an outside file
abbrev pub stat_of : OutFile → OutStat
stat_of file = record { size = length file.bytes; time = file.time }

-- create: New where the name was free
abbrev pub MadeOf : Made → List ℕ → World → Type 0
MadeOf New name w = IsFree name w
MadeOf Exists name w = Stands name 0 w

abbrev pub Creates : List ℕ → Made → World → World → Type 0
Creates name New old new = OnOwn (Puts name (Some [])) old new
Creates name Exists old new = Same old new

-- take: Done where the outside file stood
abbrev pub MovedOf : Moved → Option OutFile → Type 0
MovedOf Done file = (f : OutFile) × (file ≡ Some f)
MovedOf Absent file = file ≡ None

abbrev pub Takes : List ℕ → List ℕ → Moved → World → World → Type 0
Takes path own Done old new = Moves path own old new
Takes path own Absent old new = Same old new

-- copy: whether the outside file stood, and had at most so many bytes
abbrev pub CopiedOf : Copied → ℕ → Option OutFile → Type 0
CopiedOf (CopiedAll stat) most file = (f : OutFile) × (file ≡ Some f) × (stat ≡ stat_of f) × (length f.bytes ≤ most)
CopiedOf NoSource most file = file ≡ None
CopiedOf Over most file = (f : OutFile) × (file ≡ Some f) × (most < length f.bytes)

-- As a read gives it: the own file is the outside file's copy. At Over no own file is left.
abbrev pub CopySays : List ℕ → List ℕ → Copied → World → World → Type 0
CopySays path own (CopiedAll stat) old new = (f : OutFile) × (old.outside path ≡ Some f) × OnOwn (Puts own (Some f.bytes)) old new
CopySays path own NoSource old new = Same old new
CopySays path own Over old new = OnOwn (Puts own None) old new

-- As a stop may leave it: until a sync, the own file has any bytes, at most those copied, or isn't there.
abbrev pub CopyLeaves : List ℕ → ℕ → Copied → World → World → Type 0
CopyLeaves own most (CopiedAll stat) old new = OnOwn (PutsPart own stat.size) old new
CopyLeaves own most NoSource old new = Same old new
CopyLeaves own most Over old new = OnOwn (PutsPart own most) old new

abbrev pub Copies : Result Copied Failed → List ℕ → List ℕ → ℕ → World → World → Type 0
Copies (Ok copied) path own most old new = CopySays path own copied old new
Copies (Err e) path own most old new = OnOwn (PutsPart own most) old new

abbrev pub CopiesInPart : Result Copied Failed → List ℕ → ℕ → World → World → Type 0
CopiesInPart (Ok copied) own most old new = CopyLeaves own most copied old new
CopiesInPart (Err e) own most old new = OnOwn (PutsPart own most) old new

-- remove_if, cut_if: Done where size and time are those given
abbrev pub HitOf : Hit → OutStat → Option OutFile → Type 0
HitOf HitDone was file = option_map stat_of file ≡ Some was
HitOf Other was file = option_map stat_of file ≢ Some was

abbrev pub Removes : List ℕ → Hit → World → World → Type 0
Removes path HitDone old new = OnOutside (Puts path None) old new
Removes path Other old new = Same old new

-- the empty file has that time
abbrev pub Empties : List ℕ → ℕ → Hit → World → World → Type 0
Empties path time HitDone old new = OnOutside (Puts path (Some (record { bytes = []; time = time }))) old new
Empties path time Other old new = Same old new

-- mark: Made where no file stood under the path
abbrev pub MarkingOf : Marking → Option OutFile → Type 0
MarkingOf MarkMade file = file ≡ None
MarkingOf MarkExists file = (f : OutFile) × (file ≡ Some f)

abbrev pub Marks : (path text : List ℕ) → ℕ → Marking → World → World → Type 0
Marks path text time MarkMade old new = OnOutside (Puts path (Some (record { bytes = text; time = time }))) old new
Marks path text time MarkExists old new = Same old new

-- unmark: Done where the file holds that text
abbrev pub UnmarkOf : Hit → List ℕ → Option OutFile → Type 0
UnmarkOf HitDone text file = option_map (λ f. f.bytes) file ≡ Some text
UnmarkOf Other text file = option_map (λ f. f.bytes) file ≢ Some text

-- give: Taken where the name is in use in the folder
abbrev pub GivingOf : Giving → List ℕ → World → Type 0
GivingOf Given path w = IsInUse path w.outside → ⊥
GivingOf Taken path w = IsInUse path w.outside

abbrev pub GivesTo : List ℕ → List ℕ → List ℕ → ℕ → Giving → World → World → Type 0
GivesTo own folder name time Given old new = Gives own folder name (path_in folder name) time old new
GivesTo own folder name time Taken old new = Same old new
