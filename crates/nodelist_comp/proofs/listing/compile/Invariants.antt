use Rattle.std.proofs.Common.{◌≡◌, length, map, option_map}
use Rattle.std.specs.Str.Lines.{lines}
use Rattle.nodelist_comp.specs.Fields.{area}
use Rattle.nodelist_comp.specs.List.{compiled, with_lines}
use Rattle.nodelist_comp.specs.Tracks.{Tracks}
use Rattle.nodelist_comp.specs.Views.{listed}
use Rattle.nodelist_comp.proofs.listing.compile.Given as goal

abbrev pub invariant-loop-line : goal.invariant-loop-line
invariant-loop-line l = record {
  nodes : with_lines (map listed l.nodes.items) (option_map area l.above) l.number (lines l.rest) ≡ compiled l.text;
  tracks : Tracks l.nodes.items l.places;
}

abbrev pub decreases-loop-line : goal.decreases-loop-line
decreases-loop-line l = length l.rest
