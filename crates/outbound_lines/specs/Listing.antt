-- The lines of `list` (own).
use Rattle.std.specs.Prelude.{ℕ, ◌==◌, List, [], ◌∷◌, ◌++◌, codes, count_by, length, if◌then◌else◌}
use Rattle.std.specs.Fmt.{decimal}
use Rattle.std.specs.List.{flat_map}
use Rattle.binkp_args.specs.Escape.{escaped}
use Rattle.ftn_addr.specs.Writing.{canonical}
use Rattle.ledger_rec.specs.Fold.{State}
use Rattle.ledger_rec.specs.Items.{Entry, PartMark}

-- the flavour of a rank (FTS-5005)
abbrev pub flavour_word : ℕ → List ℕ
flavour_word rank = if rank == 0 then codes "immediate" else if rank == 1 then codes "crash" else if rank == 2 then codes "direct" else if rank == 3 then codes "normal" else codes "hold"

-- `N ADDR FLAVOUR SIZE TIME NAME` and LF
abbrev pub entry_line : Entry → List ℕ
entry_line e = decimal e.number ++ codes " " ++ canonical e.dest ++ codes " " ++ flavour_word e.flavour ++ codes " " ++ decimal e.key.size ++ codes " " ++ decimal e.key.time ++ codes " " ++ escaped e.key.name ++ 10 ∷ []

-- of a file that is done there is none
abbrev pub live_line : Entry → List ℕ
live_line e = if e.live then entry_line e else []

-- `part N ADDR LEN SIZE NAME` and LF
abbrev pub part_line : PartMark → List ℕ
part_line m = codes "part " ++ decimal m.number ++ codes " " ++ canonical m.from ++ codes " " ++ decimal m.len ++ codes " " ++ decimal m.key.size ++ codes " " ++ escaped m.key.name ++ 10 ∷ []

-- `live L parts P received R refused F` and LF
abbrev pub counts_line : State → List ℕ
counts_line s = codes "live " ++ decimal (count_by (λ (e : Entry). e.live) s.queue) ++ codes " parts " ++ decimal (length s.marks) ++ codes " received " ++ decimal (length s.inbox) ++ codes " refused " ++ decimal (length s.refused) ++ 10 ∷ []

-- the live entries by number, then the marks by part, then the counts
abbrev pub list_text : State → List ℕ
list_text s = flat_map live_line s.queue ++ flat_map part_line s.marks ++ counts_line s
