-- The invariant holds after every run.
use Rattle.std.proofs.Common.{ℕ, zero, suc, List, sym, subst}
use Rattle.ftn_addr.specs.Address.{Address}
use Rattle.node_model.specs.Node.{Opening}
use Rattle.world_pair.specs.World.{new_place, World, Step, At_x, At_y, Reaches, Begins}
use Rattle.world_pair.specs.Law.{KeysAgree}
use Rattle.node_model.proofs.Lists.{off, none_some}
use Rattle.world_pair.specs.Invariant.{Carries, Invariant}
use Rattle.world_pair.proofs.Later.{later, agree_before}
use Rattle.world_pair.proofs.Events.{both, event_keeps}

first_half : (first other : Address) (others more : List Address) (o p : Opening) → Carries (new_place first others o) (new_place other more p)
first_half first other others more o p =
    record {
      outbound = record { sizes = tt; listed = λ e m. absurd m; live = λ e bytes m b. absurd m; numbers = λ e f m k same. absurd m };
      peers = λ k v has. none_some has;
      inbound = record { once = tt; items = tt; marks = tt; each_hold = λ k h e. none_some e; apart = λ j k g h a b same. none_some a };
      settled = tt;
      lines = λ k. record { claims = λ t g a. none_some a; ended = λ t a. none_some a; offered = λ t a. none_some a; finished = tt; gots = tt; flow = tt; taken = λ h t _. off (sym t) };
    }

pub run_keeps : (n : ℕ) (w v : World) → Begins w → Reaches n w v → KeysAgree v.x v.y → KeysAgree v.y v.x → Invariant v.x v.y
run_keeps zero w v opens reached agree back =
    subst (λ (u : World). Invariant u.x u.y) (sym reached) (both opens.at_x opens.at_y (record {
      out = first_half w.x.first w.y.first w.x.others w.y.others opens.x_opening opens.y_opening;
      back = first_half w.y.first w.x.first w.y.others w.x.others opens.y_opening opens.x_opening;
      sits = record { open_there = λ line seat e. none_some e; apart = λ j k seat a b. none_some a };
      sits_there = record { open_there = λ line seat e. none_some e; apart = λ j k seat a b. none_some a };
    }))
run_keeps (suc n) w v opens (mid, before, step) agree back = go step (run_keeps n w mid opens before)
  where
    go : Step mid v → (KeysAgree mid.x mid.y → KeysAgree mid.y mid.x → Invariant mid.x mid.y) → Invariant v.x v.y
    go (At_x e) known =
        let l = later mid.x mid.y v.x v.y e in
        let one = agree_before mid.x v.x mid.y v.y l.0 l.1 agree in
        let other = agree_before mid.y v.y mid.x v.x l.1 l.0 back in
        event_keeps mid.x mid.y v.x v.y e one other (known one other)
    go (At_y e) known =
        let l = later mid.y mid.x v.y v.x e in
        let one = agree_before mid.x v.x mid.y v.y l.1 l.0 agree in
        let other = agree_before mid.y v.y mid.x v.x l.0 l.1 back in
        let h = known one other in
        let after = event_keeps mid.y mid.x v.y v.x e other one (record { out = h.back; back = h.out; sits = h.sits_there; sits_there = h.sits }) in
        record { out = after.back; back = after.out; sits = after.sits_there; sits_there = after.sits }
