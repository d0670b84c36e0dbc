-- When an entry comes, and where it stands (own).
use Rattle.std.specs.Prelude.{ℕ}
use Rattle.file_index.specs.declared.turns.Turn.{Turn}
use Rattle.node_model.specs.declared.words.Flavour.{Flavour}
use Rattle.node_model.specs.SendRows.{rank}
use Rattle.node_store.specs.Logs.{flavour_of}

abbrev pub turn_of : Flavour × ℕ → Turn
turn_of at = record { rank = rank at.0; number = at.1 }

abbrev pub place_of : Turn → Flavour × ℕ
place_of t = (flavour_of t.rank, t.number)
