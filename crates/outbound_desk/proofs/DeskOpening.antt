-- The opening of a session at a desk that takes in before it.
use Rattle.std.proofs.Common.{◌≡◌, ◌∙◌, ℕ, Bool, true, List, None, subst, sym}
use Rattle.ftn_addr.specs.Address.{Address}
use Rattle.node_model.specs.declared.desk.DeskFault.{DeskFault}
use Rattle.node_model.specs.declared.words.Role.{Role}
use Rattle.node_model.specs.Calls.{Answer, Knows, Open_call, Refused}
use Rattle.node_model.specs.Desks.{fault_of}
use Rattle.node_model.specs.Images.{Kept}
use Rattle.node_model.specs.Stores.{StoreStand}
use Rattle.hub_core.specs.Anew.{anew}
use Rattle.hub_core.specs.Hubs.{HubState, hub_stand, seen}
use Rattle.hub_core.proofs.Anew.{knows_anew}
use Rattle.outbound_desk.specs.Lines.{Refuses}
use Rattle.outbound_desk.specs.TakenIn.{TakenIn}
use Rattle.outbound_desk.proofs.OpeningRows.{begins_behind, refused_behind}

module _ (role : Role) (peers : List Address) (secure : Bool) (moment : ℕ) where
  -- behind rows that were all made, where the take-in left hub and seat as they were
  pub opens_behind : (h h' g : HubState) (seat seat' last : ℕ) (v w u : StoreStand) (answer : Answer) → h' ≡ h → seat' ≡ seat → last ≡ seat' → w.state.counts.broken ≡ None → TakenIn h seat v w None
      → Kept true (hub_stand w h' seat') (Open_call role peers secure moment) answer (hub_stand u g last) → Kept true (hub_stand v h seat) (Open_call role peers secure moment) answer (hub_stand u g last)
  opens_behind h h' g seat seat' last v w u answer hub same still whole taken kept =
      let at_end = subst (λ (k : ℕ). Kept true (hub_stand w h' seat') (Open_call role peers secure moment) answer (hub_stand u g k)) (still ∙ same) kept in
      let at_seat = subst (λ (k : ℕ). Kept true (hub_stand w h' k) (Open_call role peers secure moment) answer (hub_stand u g seat)) same at_end in
      let at_hub = subst (λ (k : HubState). Kept true (hub_stand w k seat) (Open_call role peers secure moment) answer (hub_stand u g seat)) hub at_seat in
      subst (λ (k : ℕ). Kept true (hub_stand v h seat) (Open_call role peers secure moment) answer (hub_stand u g k)) (sym (still ∙ same)) (begins_behind role peers secure moment h g seat v w u answer whole taken at_hub)

  -- behind a row that was refused
  pub refuses_behind : (h h' : HubState) (seat seat' : ℕ) (v w : StoreStand) (fault : DeskFault) → h' ≡ h → seat' ≡ seat → Refuses h seat v fault w
      → Kept true (hub_stand v h seat) (Open_call role peers secure moment) (Refused (fault_of fault)) (hub_stand w h' seat')
  refuses_behind h h' seat seat' v w fault hub same refuses =
      subst (λ (k : HubState). Kept true (hub_stand v h seat) (Open_call role peers secure moment) (Refused (fault_of fault)) (hub_stand w k seat')) (sym hub)
      (subst (λ (k : ℕ). Kept true (hub_stand v h seat) (Open_call role peers secure moment) (Refused (fault_of fault)) (hub_stand w h k)) (sym same)
      (refused_behind role peers secure moment h seat v w refuses.now (fault_of fault) refuses.taken refuses.refused))

  -- searches that begin anew before it change nothing that is told
  pub anew_before : {S : Type 0} (stand : S → StoreStand) (h h' g : HubState) (seat last : ℕ) (old new : S) (u : StoreStand) (answer : Answer) → h' ≡ anew h → new ≡ old
      → Kept true (hub_stand (stand new) h' seat) (Open_call role peers secure moment) answer (hub_stand u g last) → Kept true (hub_stand (stand old) h seat) (Open_call role peers secure moment) answer (hub_stand u g last)
  anew_before {S} stand h h' g seat last old new u answer hub same kept =
      let v = stand old in
      subst (λ (k : Knows). Kept true (record { state = record { seat = seat; knows = k }; moment = v.moment; images = seen v.images }) (Open_call role peers secure moment) answer (hub_stand u g last)) (knows_anew v.state.content v.state h seat)
      (subst (λ (k : HubState). Kept true (hub_stand v k seat) (Open_call role peers secure moment) answer (hub_stand u g last)) hub
      (subst (λ (s : S). Kept true (hub_stand (stand s) h' seat) (Open_call role peers secure moment) answer (hub_stand u g last)) same kept))
