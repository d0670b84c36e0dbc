-- The call that received a request, with the answer behind it, as a call of the desk.
use Rattle.std.proofs.Common.{◌≡◌, ℕ, ◌<◌, true, sym, ◌∙◌, ap, subst, inl, inr}
use Rattle.node_model.specs.Calls.{Answer, Call, IsMade}
use Rattle.node_model.specs.Desks.{part_after}
use Rattle.node_model.specs.Images.{Kept}
use Rattle.node_model.specs.Stores.{StoreStand}
use Rattle.hub_core.specs.Anew.{anew, chair_anew}
use Rattle.hub_core.specs.HubCalls.{Does}
use Rattle.hub_core.specs.Hubs.{HubState, IsReady, hub_stand, seat_part}
use Rattle.hub_core.proofs.Anew.{length_anew, part_anew}
use Rattle.hub_core.proofs.Turning.{kept_does}
use Rattle.outbound_desk.specs.Answering.{Answered}
use Rattle.outbound_desk.specs.Lines.{AnswersBehind, OwnTurn}
use Rattle.outbound_desk.proofs.AnswerKept.{MayReceive, answered_behind}
use Rattle.outbound_desk.proofs.Own.{other_anew, own_turn}

module _ {S : Type 0} (stand : S → StoreStand) (v : StoreStand) (h g : HubState) (seat : ℕ) (mid : S) (call : Call) (answer : Answer) (does : Does v h seat call answer (stand mid) g) where
  -- what the desk tells
  pub kept_behind : (f : HubState) (at last : ℕ) (new : S) → MayReceive call → IsMade answer → at ≡ seat → last ≡ at → AnswersBehind stand g at mid new f → Kept true (hub_stand v h seat) call answer (hub_stand (stand new) f last)
  kept_behind f at last new may made here stays (inl (same, hub)) =
      subst (λ (x : HubState). Kept true (hub_stand v h seat) call answer (hub_stand (stand new) x last)) (sym hub)
      (subst (λ (s : S). Kept true (hub_stand v h seat) call answer (hub_stand (stand s) g last)) (sym same) (kept_does v (stand mid) h g seat last call answer (stays ∙ here) does))
  kept_behind f at last new may made here stays (inr (hub, looks, x)) =
      subst (λ (y : HubState). Kept true (hub_stand v h seat) call answer (hub_stand (stand new) y last)) (sym hub)
      (answered_behind v (stand mid) (stand new) h g seat last call answer may made (stays ∙ here) does x.0 (subst (λ (k : ℕ). Answered (anew g) k (stand mid) (stand new) x.0) here x.1))

  -- its part
  pub part_behind : (f : HubState) (at last : ℕ) (new : S) → at ≡ seat → last ≡ at → AnswersBehind stand g at mid new f → seat_part f last ≡ part_after (seat_part h seat) call answer
  part_behind f at last new here stays (inl (same, hub)) =
      ap (λ (x : HubState). seat_part x last) hub ∙ (ap (seat_part g) (stays ∙ here) ∙ does.part)
  part_behind f at last new here stays (inr (hub, looks, x)) =
      ap (λ (y : HubState). seat_part y last) hub ∙ (ap (seat_part (anew g)) (stays ∙ here) ∙ (part_anew g seat ∙ does.part))

  -- it is ready
  pub ready_behind : (f : HubState) (at last : ℕ) (new : S) → at ≡ seat → last ≡ at → AnswersBehind stand g at mid new f → IsReady (stand new) f last
  ready_behind f at last new here stays (inl (same, hub)) =
      subst (λ (y : HubState). IsReady (stand new) y last) (sym hub)
      (subst (λ (s : S). IsReady (stand s) g last) (sym same) (subst (λ (k : ℕ). IsReady (stand mid) g k) (sym (stays ∙ here)) does.ready))
  ready_behind f at last new here stays (inr (hub, looks, x)) =
      subst (λ (y : HubState). IsReady (stand new) y last) (sym hub)
      (subst (λ (k : ℕ). IsReady (stand new) (anew g) k) (sym (stays ∙ here))
      (record { given = subst (λ (n : ℕ). seat < n) (sym (length_anew g.chairs)) does.ready.given; fitted = x.1.fitted; settled = x.1.settled }))

  -- and it is its seat's own
  pub own_of_behind : (f : HubState) (at : ℕ) (new : S) → at ≡ seat → AnswersBehind stand g at mid new f → OwnTurn seat h (stand new) f
  own_of_behind f at new here (inl (same, hub)) =
      subst (λ (y : HubState). OwnTurn seat h (stand new) y) (sym hub) (subst (λ (s : S). OwnTurn seat h (stand s) g) (sym same) (own_turn seat h (stand mid) g does.own))
  own_of_behind f at new here (inr (hub, looks, x)) =
      subst (λ (y : HubState). OwnTurn seat h (stand new) y) (sym hub) (record {
        settings = does.own.settings;
        seats = length_anew g.chairs ∙ does.own.seats;
        others = λ k apart. other_anew g k ∙ ap chair_anew (does.own.others k apart);
        turn = x.1.turn ∙ here;
      })
