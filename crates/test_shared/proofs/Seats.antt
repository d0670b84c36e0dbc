-- The two seats of a new hub, and their passes.
use Rattle.std.proofs.Common.{◌≡◌, ◌<◌, ℕ, zero, suc, Some, length, refl, sym, ◌∙◌, ap, subst, arith}
use Rattle.node_model.specs.Node.{Settings}
use Rattle.node_model.specs.Stores.{StoreStand}
use Rattle.hub_core.specs.Hubs.{HubState, IsReady, seat_part}
use Rattle.hub_core.specs.Opening.{no_seats, with_seat}
use Rattle.turn_gate.specs.declared.gate.Gate.{Gate}
use Rattle.turn_gate.specs.declared.grows.Grows.{Ghosts}
use Rattle.turn_gate.specs.declared.pass.Pass.{Pass}
use Rattle.turn_gate.specs.declared.view.View.{View}
use Rattle.turn_gate.specs.Passes.{IsFree, view}
use Rattle.turn_gate.specs.Views.{new_view}
use Rattle.shared_desk.specs.Seen.{Sight}
use Rattle.test_shared.specs.Resting.{IsFresh, Rests, nobody}
use Rattle.mem_shared.specs.Sights.{sight_by}

part_of_two : (settings : Settings) (k : ℕ) → k < 2 → seat_part (with_seat (with_seat (no_seats settings))) k ≡ nobody
part_of_two settings zero l = refl
part_of_two settings (suc zero) l = refl
part_of_two settings (suc (suc k)) l = absurd (omega (arith, l))

pub two_rest : {X : Type 0} (st : X → StoreStand) (hs : X → HubState) (x : X) (settings : Settings) (j : ℕ) → hs x ≡ with_seat (with_seat (no_seats settings)) → IsReady (st x) (hs x) j → (k : ℕ) → k < 2 → Rests (sight_by st hs) k (Some x)
two_rest st hs x settings j is ready k l = record {
  ready = record { given = subst (λ (h : HubState). k < length h.chairs) (sym is) l; fitted = ready.fitted; settled = ready.settled };
  free = ap (λ (h : HubState). seat_part h k) is ∙ part_of_two settings k l;
}

module _ {T X E P : Type 0} {g : Ghosts T X E P} where
  pub fresh : (s : Sight X) (gate : Gate T X E P) (p : Pass T X E P g) (x : X) (k : ℕ) → IsFree gate p → view p ≡ new_view x k → Rests s k x → IsFresh s gate p
  fresh s gate p x k free is rests = record {
    free = free;
    rests = subst (λ (v : View X). Rests s v.seat v.left) (sym is) rests;
    turns = ap (λ (v : View X). v.turns) is;
  }
