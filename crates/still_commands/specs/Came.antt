-- What a command came to, before anything is printed (own).
use Rattle.std.specs.Prelude.{◌≡◌, ◌⊎◌, ℕ, List, [], Option, Some, None, Result, Ok, Err}
use Rattle.ftn_addr.specs.Address.{Address}
use Rattle.ledger_rec.specs.Fold.{State}
use Rattle.nodelist_comp.specs.Node.{ListedNode}
use Rattle.nodelist_files.specs.declared.fault.CompileFault.{CompileFault}
use Rattle.outbound_lines.specs.Listing.{list_text}
use Rattle.outbound_round.specs.Round.{RoundTold}
use Rattle.outbound_round.specs.declared.words.RoundFault.{RoundFault}
use Rattle.outbound_round.specs.declared.words.RoundFault.TheVariants as RF
use Rattle.still_lines.specs.Lists.{lookup_text, nodes_text}
use Rattle.command_base.specs.Statuses.{Status, DiskFault, Done, LedgerFull, Marked, NoFile, NoMemory, NotFound, status_text, status_uncompiled}
use Rattle.still_commands.specs.declared.came.Came.{Came}

-- its lines and its status
pub record Told : Type 0 where
  pub lines : List ℕ
  pub status : Status

abbrev pub told_of : Came → Told
told_of came = record { lines = came.lines.list; status = status_text came.status }

-- nothing but that status
abbrev pub only : Status → Told
only status = record { lines = []; status = status }

-- this is told, or that there was no memory for it
abbrev pub IsTold : Told → Told → Type 0
IsTold wanted told = (told ≡ wanted) ⊎ (told ≡ only NoMemory)

-- the line of a node, or that it isn't listed
abbrev pub told_line : Option (List ℕ) → Told
told_line None = only NotFound
told_line (Some line) = record { lines = line; status = Done }

-- what a look-up comes to by an index, or without one
abbrev pub looked : Option (List ListedNode) → Address → Told
looked None a = only NoFile
looked (Some nodes) a = told_line (lookup_text nodes a)

-- what a compiling comes to, where the disk's count of faults is that
abbrev pub told_compiled : Result ℕ CompileFault → (faults : ℕ) → Told
told_compiled (Ok count) faults = record { lines = nodes_text count; status = Done }
told_compiled (Err fault) faults = only (status_uncompiled fault faults)

-- what a store keeps, told
abbrev pub told_listed : State → Told
told_listed s = record { lines = list_text s; status = Done }

-- the status of a round: of what ended it, or by the first mark of another program that it met
abbrev pub round_status : Option (List ℕ) → Option RoundFault → (faults : ℕ) → Status
round_status marked (Some RF.Disk) faults = DiskFault faults
round_status marked (Some RF.Full) faults = LedgerFull
round_status marked (Some RF.NoMemory) faults = NoMemory
round_status (Some name) None faults = Marked name
round_status None None faults = Done

-- what a round over an outbound comes to, told
abbrev pub told_taken : RoundTold → (faults : ℕ) → Told
told_taken round faults = record { lines = round.lines; status = round_status round.marked round.fault faults }
