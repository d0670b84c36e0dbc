use Rattle.std.proofs.Common.{length, take, ◌-◌, ◌≡◌, ◌≤◌}
use Rattle.std.specs.Io.KnownBytes.{Appends}
use Rattle.real_edge.proofs.waiting_line.WaitingLine.write_out.Given as goal

abbrev pub invariant-loop-sent : goal.invariant-loop-sent
invariant-loop-sent g l =
    (l.sent ≤ length l.bytes) × (l.self.input ≡ l.initial.self.input) × (l.self.tally ≡ l.initial.self.tally)
    × Appends (g.O.Write.contents l.initial.self.output) (g.O.Write.contents l.self.output) (take l.sent l.bytes)

abbrev pub decreases-loop-sent : goal.decreases-loop-sent
decreases-loop-sent g l = length l.bytes - l.sent
