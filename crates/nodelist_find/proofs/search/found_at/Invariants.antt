use Rattle.std.proofs.Common.{ℕ, ◌-◌, ◌<◌, ◌≤◌, length, get_or, map}
use Rattle.nodelist_comp.specs.Node.{place_of}
use Rattle.nodelist_comp.specs.Views.{listed}
use Rattle.nodelist_find.proofs.search.found_at.Given as goal

abbrev pub invariant-loop-low : goal.invariant-loop-low
invariant-loop-low l = record {
  below : (k : ℕ) → k < l.low → get_or (map place_of (map listed l.nodes)) k 0 < l.place;
  above : (k : ℕ) → l.high ≤ k → k < length l.nodes → l.place < get_or (map place_of (map listed l.nodes)) k 0;
  order : l.low ≤ l.high;
  within : l.high ≤ length l.nodes;
}

abbrev pub decreases-loop-low : goal.decreases-loop-low
decreases-loop-low l = l.high - l.low
