-- A node at rest, one step behind another.
use Rattle.std.proofs.Common.{◌≡◌, ℕ, refl, ◌∙◌, subst}
use Rattle.disk_model.specs.World.{World}
use Rattle.ftn_addr.specs.Address.{Address}
use Rattle.node_model.specs.Calls.{Knows}
use Rattle.std.specs.Prelude.{Bool}
use Rattle.binkp_serve.specs.Rests.{IsAtRest, Reached, Rest, StaysAtRest, standing, told_at}
use Rattle.binkp_serve.proofs.Reaching.{Rows, rows_none, rows_then}
use Rattle.binkp_serve.proofs.Staying.{stays_none, stays_then}

module _ {D : Type 0} (tells : Bool) (content : D → World) (faults : D → ℕ) (moment : D → ℕ) (images : D → ℕ → World → Type 0) where
  abbrev At : Address → Rest D → Type 0
  At = IsAtRest tells content faults moment images

  abbrev On : Address → Rest D → Rest D → Type 0
  On = StaysAtRest tells content faults moment images

  abbrev Told : Rest D → Knows
  Told = told_at tells content faults moment images

  reached_then : (a b c : Rest D) → Reached tells content faults moment images a b → Reached tells content faults moment images b c → Reached tells content faults moment images a c
  reached_then a b c first second =
      let r = rows_then a.seat (Told a) (Told b) (Told c) (first.events, first.rows) (subst (λ (seat : ℕ). Rows seat (Told b) (Told c)) first.seat (second.events, second.rows)) in
      record { events = r.0; rows = r.1; seat = second.seat ∙ first.seat }

  -- nothing was done
  pub rests_none : (home : Address) (r : Rest D) → At home r → On home r r
  rests_none home r at = record {
    at_rest = at;
    reached = record { events = (rows_none r.seat (Told r)).0; rows = (rows_none r.seat (Told r)).1; seat = refl };
    stays = stays_none (standing tells content faults moment images r);
  }

  pub rests_then : (home home' : Address) (a b c : Rest D) → On home a b → On home' b c → On home' a c
  rests_then home home' a b c first second = record {
    at_rest = second.at_rest;
    reached = reached_then a b c first.reached second.reached;
    stays = stays_then (standing tells content faults moment images a) (standing tells content faults moment images b) (standing tells content faults moment images c) first.stays second.stays;
  }
