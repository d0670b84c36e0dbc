use Rattle.std.proofs.Common.{◌≡◌, ℕ, ◌+◌, ◌≤◌, [], Some, length, map, replicate, slice_get, vec_len}
use Rattle.turn_gate.specs.Passes.{opening, view}
use Rattle.session_threads.specs.Held.{IsHomeAt}
use Rattle.session_threads.specs.Kept.{SlotsKeep, whereabouts}
use Rattle.session_threads.specs.Slots.{Rests_here}
use Rattle.session_threads.proofs.slots.Slots.new.Given as goal

abbrev pub invariant-loop-pass : goal.invariant-loop-pass
invariant-loop-pass g l =
    let s = g.V.Roams.sight in
    let x = opening g.V.Grows.state l.gate in
    record {
      all : vec_len l.slots + length l.pass-iterator.rest.items ≡ vec_len l.fn.passes;
      fits : vec_len l.fn.passes ≤ l.slots.cap;
      room : vec_len l.fn.passes ≤ l.home.cap;
      none : l.home.items ≡ [];
      rest : (k : ℕ) (p : _) → slice_get l.pass-iterator.rest.items k ≡ Some p → IsHomeAt s g.G.GateName.table (vec_len l.slots + k) p × ((view p).left ≡ x);
      keeps : SlotsKeep g.L.Line.state s g.G.GateName.table l.slots.items;
      seen : map (whereabouts g.L.Line.state) l.slots.items ≡ replicate (vec_len l.slots) (Rests_here x);
    }
