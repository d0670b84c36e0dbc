-- Marks in the outbound: files of this mailer among those of other programs (own; FTS-5005).
use Rattle.std.specs.Prelude.{◌≡◌, ℕ, Bool, false, List, Option, Some, None, is_none, if◌then◌else◌, IsSome}
use Rattle.std.specs.Str.{bytes_eq}
use Rattle.disk_model.specs.declared.answers.Marking.{Marking}
use Rattle.disk_model.specs.declared.answers.Marking.TheVariants.{Made, Exists}
use Rattle.node_model.specs.Outside.{OutFile, put_at}
use Rattle.node_store.specs.Taking.{Around}

-- whether a file stood at the path
abbrev pub HasMarked : Marking → Option OutFile → Type 0
HasMarked Made file = file ≡ None
HasMarked Exists file = IsSome file

-- a mark is made where no file stands
abbrev pub mark_made : (path text : List ℕ) → ℕ → Around → Around
mark_made path text time a =
    if is_none (a.outside path) then record { takes = a.takes; outside = put_at path (Some (record { bytes = text; time = time })) a.outside } else a

-- what each answer says
abbrev pub marked_so : (path text : List ℕ) → ℕ → Marking → Around → Around
marked_so path text time Made a = mark_made path text time a
marked_so path text time Exists a = a

-- whether it holds exactly the text
abbrev pub has_text : List ℕ → Option OutFile → Bool
has_text text None = false
has_text text (Some f) = bytes_eq f.bytes text

-- a file goes that holds exactly the text
abbrev pub mark_gone : (path text : List ℕ) → Unit {0} → Around → Around
mark_gone path text done a =
    if has_text text (a.outside path) then record { takes = a.takes; outside = put_at path None a.outside } else a
