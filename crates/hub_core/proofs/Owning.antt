-- A call changes its own seat alone.
use Rattle.std.proofs.Common.{◌≡◌, ℕ, ◌<◌, Option, length, refl, sym, ◌∙◌}
use Rattle.node_model.specs.Stores.{StoreStand}
use Rattle.hub_core.specs.Hubs.{Sitting, Chair, HubState, chair_in, put_chair, with_sitting}
use Rattle.hub_core.specs.HubCalls.{OwnCall}
use Rattle.hub_core.proofs.Nodes.{chair_apart}
use Rattle.hub_core.proofs.Sittings.{chairs_put, puts_alike}

pub own_same : (seat : ℕ) (h : HubState) (w : StoreStand) → w.state.seat ≡ seat → OwnCall seat h w h
own_same seat h w turn = record { settings = refl; seats = refl; others = λ k apart. refl; turn = turn }

-- something else at the seat, and so many sessions began
pub own_chair : (seat : ℕ) (c : Chair) (h : HubState) (w : StoreStand) (begun : ℕ) → seat < length h.chairs → w.state.seat ≡ seat → OwnCall seat h w (record h { chairs = put_chair seat c h.chairs; begun = begun })
own_chair seat c h w begun given turn =
    record { settings = refl; seats = chairs_put seat c h.chairs given; others = λ k apart. chair_apart seat c h.chairs k apart; turn = turn }

-- another session there
pub own_sits : (seat : ℕ) (o : Option Sitting) (h : HubState) (w : StoreStand) → seat < length h.chairs → w.state.seat ≡ seat → OwnCall seat h w (with_sitting seat o h)
own_sits seat o h w given turn = own_chair seat (record (chair_in h.chairs seat) { sitting = o }) h w h.begun given turn

-- another session, where one was out of its seat
pub own_again : (seat : ℕ) (o p : Option Sitting) (h : HubState) (w : StoreStand) → w.state.seat ≡ seat → OwnCall seat (with_sitting seat o h) w (with_sitting seat p h)
own_again seat o p h w turn =
    let was = record (chair_in h.chairs seat) { sitting = o } in
    let is = record (chair_in h.chairs seat) { sitting = p } in
    record {
      settings = refl;
      seats = puts_alike seat is was h.chairs;
      others = λ k apart. chair_apart seat is h.chairs k apart ∙ sym (chair_apart seat was h.chairs k apart);
      turn = turn;
    }
