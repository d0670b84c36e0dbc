-- The two seats of a new hub, and their passes.
use Rattle.std.proofs.Common.{◌≡◌, ◌<◌, ℕ, zero, suc, List, All, Some, length, slice_index_or, sym, ◌∙◌, ap, subst, refl, arith}
use Rattle.ftn_addr.specs.Address.{Address}
use Rattle.node_model.specs.Node.{Settings}
use Rattle.node_model.specs.Stores.{StoreStand}
use Rattle.hub_core.specs.Hubs.{HubState, IsReady, seat_part}
use Rattle.hub_core.specs.Opening.{no_seats, with_seat}
use Rattle.turn_gate.specs.declared.gate.Gate.{Gate}
use Rattle.turn_gate.specs.declared.grows.Grows.{Ghosts}
use Rattle.turn_gate.specs.declared.pass.Pass.{Pass}
use Rattle.turn_gate.specs.declared.view.View.{View}
use Rattle.turn_gate.specs.Passes.{IsFree, IsNew, opening, view}
use Rattle.turn_gate.specs.Views.{new_view}
use Rattle.shared_desk.specs.Seen.{Sight}
use Rattle.outbound_desk.specs.Lines.{IsDeskReady}
use Rattle.outbound_desk.specs.Roaming.{sight_by}
use Rattle.test_roaming.specs.Resting.{IsFresh, Rests, nobody}

part_of_two : (settings : Settings) (k : ℕ) → k < 2 → seat_part (with_seat (with_seat (no_seats settings))) k ≡ nobody
part_of_two settings zero l = refl
part_of_two settings (suc zero) l = refl
part_of_two settings (suc (suc k)) l = absurd (omega (arith, l))

pub two_rest : {X : Type 0} (st : X → StoreStand) (hs : X → HubState) (home : X → Address) (x : X) (settings : Settings) (j : ℕ) → hs x ≡ with_seat (with_seat (no_seats settings)) → IsDeskReady (st x) (hs x) j (home x) → (k : ℕ) → k < 2 → Rests (sight_by st hs home) k (Some x)
two_rest st hs home x settings j is ready k l = record {
  ready = record {
    ready = record { given = subst (λ (h : HubState). k < length h.chairs) (sym is) l; fitted = ready.ready.fitted; settled = ready.ready.settled };
    home_within = ready.home_within;
  };
  free = ap (λ (h : HubState). seat_part h k) is ∙ part_of_two settings k l;
}

module _ {T X E P : Type 0} {g : Ghosts T X E P} where
  fresh : (s : Sight X) (gate : Gate T X E P) (p : Pass T X E P g) (x : X) (k : ℕ) → IsFree gate p → view p ≡ new_view x k → Rests s k x → IsFresh s gate p
  fresh s gate p x k free is rests = record {
    free = free;
    rests = subst (λ (v : View X). Rests s v.seat v.left) (sym is) rests;
    turns = ap (λ (v : View X). v.turns) is;
  }

  -- of two passes that a gate was made with
  pub all_fresh : (s : Sight X) (gate : Gate T X E P) (ps : List (Pass T X E P g)) (x : X) → opening g.state gate ≡ x → ((k : ℕ) → k < 2 → Rests s k x) → length ps ≡ 2
      → ((k : ℕ) (d : Pass T X E P g) → k < 2 → IsNew gate k (slice_index_or ps k d)) → All (IsFresh s gate) ps
  all_fresh s gate ps x first rests two new k d l =
      let below : k < 2 = omega (arith, two, l) in
      fresh s gate (slice_index_or ps k d) (opening g.state gate) k (new k d below).0 (new k d below).1 (subst (λ y. Rests s k y) (sym first) (rests k below))
