-- What a source of lines in memory tells (own).
use Rattle.std.specs.Prelude.{ℕ, List, [], Option, Some, None, map, option_map}
use Rattle.binkp_link.specs.Lines.{LineState}
use Rattle.binkp_link.specs.LineSources.{LinesState, Dialling}
use Rattle.binkp_link.specs.MemLines.{mem_state}
use Rattle.binkp_link.specs.declared.mem_line_source.Place.{Place}
use Rattle.binkp_link.specs.declared.mem_line_source.Call.{Call}
use Rattle.binkp_link.specs.declared.mem_line_source.MemLines.{MemLines}

abbrev pub call_of : Call → Dialling
call_of call = record { host = call.host.list; port = call.port }

abbrev pub handed_of : Place → Option LineState
handed_of place = option_map mem_state place.handed

abbrev pub coming_at : Place → List ℕ
coming_at place = place.coming.list

-- the line that was handed back at a place that may have none
abbrev pub line_handed : Option (Option LineState) → Option LineState
line_handed None = None
line_handed (Some line) = line

-- a source with nothing told and nothing counted
abbrev pub new_lines : LinesState
new_lines =
    record {
      counts = record { faults = 0; misses = 0; nothings = 0; stops = 0; given = 0 };
      told = Some (record { coming = []; handed = []; ports = []; dialled = [] });
    }

abbrev pub lines_state : MemLines → LinesState
lines_state lines =
    record {
      counts = lines.counts;
      told = Some (record {
        coming = map coming_at lines.places.items;
        handed = map handed_of lines.places.items;
        ports = lines.ports.items;
        dialled = map call_of lines.calls.items;
      });
    }
