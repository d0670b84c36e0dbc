use Rattle.std.proofs.Common.{◌≡◌, ℕ, ◌+◌, ◌≤◌, Some, length, slice_get, vec_len}
use Rattle.session_threads.specs.Kept.{SlotKeeps, whereabouts}
use Rattle.session_threads.specs.Lent.{IsPassHere}
use Rattle.session_threads.proofs.closing.take_home.Given as goal

abbrev pub invariant-loop-slot : goal.invariant-loop-slot
invariant-loop-slot g l =
    let s = g.V.Roams.sight in
    record {
      all : vec_len l.home + length l.slot-iterator.rest.items ≡ length l.fn.slots;
      fits : length l.fn.slots ≤ l.home.cap;
      rest : (k : ℕ) (slot : _) → slice_get l.slot-iterator.rest.items k ≡ Some slot → SlotKeeps g.L.Line.state s g.G.GateName.table (vec_len l.home + k) slot × (slice_get l.fn.slots (vec_len l.home + k) ≡ Some (whereabouts g.L.Line.state slot));
      passes : (k : ℕ) (p : _) → slice_get l.home.items k ≡ Some p → IsPassHere s g.G.GateName.table l.fn.slots k p;
    }
