use Rattle.std.proofs.Common.{◌≡◌, ◌≤◌, vec_len}
use Rattle.mem_store.proofs.place.make_places.Given as goal

abbrev pub invariant-loop : goal.invariant-loop
invariant-loop l = (vec_len l.places ≡ l.counter) × (vec_len l.fn.places ≤ vec_len l.places)
