use Rattle.std.proofs.Common.{◌≡◌, ◌+◌, ◌≤◌, ◌++◌, replicate, vec_len, vec_capacity}
use Rattle.node_store.proofs.batches.note_all.Given as goal

abbrev pub invariant-loop : goal.invariant-loop
invariant-loop l =
    (l.seats.items ≡ l.fn.seats.items ++ replicate l.counter l.seat) × (vec_len l.seats ≡ vec_len l.fn.seats + l.counter) × (vec_capacity l.fn.seats ≤ vec_capacity l.seats)
