-- What the store's calls want for a file that was judged.
use Rattle.std.proofs.Common.{◌≡◌, ◌≢◌, ℕ, Some, sym, subst, arith}
use Rattle.ftn_addr.specs.Key.{Key}
use Rattle.ftn_addr.specs.Limits.{IsAddress}
use Rattle.node_model.specs.declared.desk.FileIn.{FileIn}
use Rattle.node_model.specs.declared.desk.FileIn.TheVariants as F
use Rattle.node_model.specs.Stores.{StoreState, StoreStand}
use Rattle.hub_core.specs.Hubs.{Sitting, HubState, with_sitting, session_over}
use Rattle.hub_core.specs.HubCalls.{HasTurn}
use Rattle.hub_core.specs.Steps.{IfHolds, MayAnswer, OpensWhole, ended, mark_len}
use Rattle.hub_core.proofs.Ends.{unheld_sitting, ended_stored}
use Rattle.hub_core.proofs.FileDoes.{Offers, offered, judged_ended}
use Rattle.hub_core.proofs.FileSteps.{ended_hub, taken_free}
use Rattle.hub_core.proofs.JudgeSteps.{store_new, mark_fits}
use Rattle.hub_core.proofs.Marking.{ended_fits}
use Rattle.hub_core.proofs.Nodes.{session_is, sits_at}
use Rattle.hub_core.proofs.Ready.{sits_hold}
use Rattle.hub_core.proofs.Receiving.{opens_whole}
use Rattle.hub_core.proofs.Telling.{mark_len_is}
use Rattle.hub_core.proofs.Turning.{fitted_now}

pub may_answer : (v v1 : StoreStand) (k : HubState) (seat : ℕ) (x : Sitting) (key : Key) (offset : ℕ) (word : FileIn) → Offers v v1 k seat x key offset word → MayAnswer word key offset (unheld_sitting x) v1.state
may_answer v v1 k seat x key offset F.Have o = tt
may_answer v v1 k seat x key offset F.Elsewhere o = tt
may_answer v v1 k seat x key offset F.Late o = tt
may_answer v v1 k seat x key offset F.Refuse o = store_new _ o.judged.0
may_answer v v1 k seat x key offset F.Go o = (store_new _ o.judged.0.unknown, o.judged.1)
may_answer v v1 k seat x key offset (F.From place) o = (store_new _ o.judged.0.unknown, o.judged.1)
may_answer v v1 k seat x key offset F.Whole o =
    let a = (fitted_now v (with_sitting seat (Some x) k) seat o.turn).keeps in
    let off = offered v v1 k seat x key offset F.Whole o in
    let j = judged_ended v v1 k seat x key offset F.Whole o in
    let f = ended_fits a v.state (with_sitting seat (Some x) k) seat x off.sits in
    let is = mark_len_is (ended_stored x.first x.hold v.state a) (ended x.first x.hold v.state) x.first key f.stock in
    let fits = mark_fits (ended_stored x.first x.hold v.state a).stock.state x.first key f.sound.inbox in
    let at = j.1 in
    let far = j.2 in
    let whole : mark_len x.first key (ended x.first x.hold v.state) ≡ key.size = omega (arith, is, fits, at, far) in
    (store_new _ o.judged.0.unknown, subst (λ (s : StoreState). mark_len x.first key s ≡ key.size) (sym o.ends) whole, subst (λ (s : StoreState). OpensWhole x.first key s) (sym o.ends) (opens_whole (ended_stored x.first x.hold v.state a) (ended x.first x.hold v.state) (ended_hub k seat x) seat (unheld_sitting x) key (taken_free a v.state k seat x key off j.0)))

pub turn_holds : (v : StoreStand) (k : HubState) (seat : ℕ) (x : Sitting) → HasTurn v (with_sitting seat (Some x) k) seat → IfHolds v.state x.first x.hold
turn_holds v k seat x b =
    let f = fitted_now v (with_sitting seat (Some x) k) seat b in
    sits_hold f.keeps v.state (with_sitting seat (Some x) k) seat x f.fits (sits_at k seat (Some x))

pub turn_address : (v : StoreStand) (k : HubState) (seat : ℕ) (x : Sitting) → HasTurn v (with_sitting seat (Some x) k) seat → IsAddress x.first
turn_address v k seat x b = ((fitted_now v (with_sitting seat (Some x) k) seat b).fits.sittings seat x (sits_at k seat (Some x))).first

pub turn_number : (v : StoreStand) (k : HubState) (seat : ℕ) (x : Sitting) → HasTurn v (with_sitting seat (Some x) k) seat → x.number ≢ 0
turn_number v k seat x b =
    let f = fitted_now v (with_sitting seat (Some x) k) seat b in
    let some = (f.fits.sound.sessions.numbers seat (session_over f.keeps.stock x) (session_is f.keeps v.state (with_sitting seat (Some x) k) seat x (sits_at k seat (Some x)))).0 in
    λ none. absurd (omega (arith, some, none))
