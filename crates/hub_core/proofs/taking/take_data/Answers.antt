use Rattle.std.proofs.Common.{◌≡◌, cond, None, ◌+◌, ◌-◌, ◌<◌, ℕ, Bool, Option, Some, true, false, length, option_map, refl, sym, ◌∙◌, ap, subst, arith}
use Rattle.node_model.specs.Calls.{Data_call, Refused, Fault}
use Rattle.hub_core.specs.Hubs.{Sitting, Taking, hub_state, sitting_of, taking_of, with_sitting}
use Rattle.node_model.specs.Desks.{fault_of}
use Rattle.hub_core.specs.HubCalls.{Does}
use Rattle.hub_core.proofs.DataSteps.{grown_sitting}
use Rattle.hub_core.proofs.Ends.{unheld_sitting}
use Rattle.hub_core.proofs.DataNeeds.{data_holds, fits_taking, more_exact, whole_exact}
use Rattle.hub_core.proofs.FileNeeds.{turn_number}
use Rattle.hub_core.proofs.LastDoes.{last_does, last_broken}
use Rattle.hub_core.proofs.MoreDoes.{more_does, more_broken}
use Rattle.hub_core.specs.Holders.{holder}
use Rattle.hub_core.specs.Steps.{sits_on}
use Rattle.hub_core.proofs.HoldSteps.{alike_here, released_here}
use Rattle.hub_core.proofs.taking.take_data.Goals as goal

pub overflow_sub-left : goal.overflow_sub-left
overflow_sub-left g c =
    (data_holds (g.S.Store.stand c.args.store.now) (hub_state c.args.seats.now) c.args.seat (sitting_of c.args.session.now) (taking_of c.in-Some.taken) c.requires.turn (ap (option_map taking_of) c.in-Some.is)).fits

pub put_more-requires-clause-holds : goal.put_more-requires-clause-holds
put_more-requires-clause-holds g c =
    data_holds (g.S.Store.stand c.args.store.now) (hub_state c.args.seats.now) c.args.seat (sitting_of c.args.session.now) (taking_of c.in-Some.taken) c.requires.turn (ap (option_map taking_of) c.in-Some.is)

pub overflow_sub-taken : goal.overflow_sub-taken
overflow_sub-taken g c =
    (data_holds (g.S.Store.stand c.args.store.now) (hub_state c.args.seats.now) c.args.seat (sitting_of c.args.session.now) (taking_of c.in-Some.taken) c.requires.turn (ap (option_map taking_of) c.in-Some.is)).place

pub put_last-requires-clause-holds : goal.put_last-requires-clause-holds
put_last-requires-clause-holds g c =
    data_holds (g.S.Store.stand c.args.store.now) (hub_state c.args.seats.now) c.args.seat (sitting_of c.args.session.now) (taking_of c.in-Some.taken) c.requires.turn (ap (option_map taking_of) c.in-Some.is)

pub put_last-requires-clause-all : goal.put_last-requires-clause-all
put_last-requires-clause-all g c =
    let t = taking_of c.in-Some.taken in
    let holds = ap (option_map taking_of) c.in-Some.is in
    let within = (data_holds (g.S.Store.stand c.args.store.now) (hub_state c.args.seats.now) c.args.seat (sitting_of c.args.session.now) t c.requires.turn holds).fits in
    let fits = (fits_taking (sitting_of c.args.session.now) t (length c.args.bytes.now) holds c.requires.fits).fits in
    omega (arith, within, fits, c.if-came-left.false)

pub put_last-requires-clause-session : goal.put_last-requires-clause-session
put_last-requires-clause-session g c =
    turn_number (g.S.Store.stand c.args.store.now) (hub_state c.args.seats.now) c.args.seat (sitting_of c.args.session.now) c.requires.turn

less_none : (n : ℕ) → n ≡ n - 0
less_none n = omega arith

pub returns-then-reached-clause-does : goal.returns-then-reached-clause-does
returns-then-reached-clause-does g c =
    let v = g.S.Store.stand c.args.store.now in
    let w = g.S.Store.stand c.put_more.new.store in
    let k = hub_state c.args.seats.now in
    let x = sitting_of c.args.session.now in
    let t = taking_of c.in-Some.taken in
    let n = length c.args.bytes.now in
    let holds = ap (option_map taking_of) c.in-Some.is in
    let short : t.have + n < t.key.size = omega (arith, c.if-came-left.true) in
    more_does v w k c.args.seat x (grown_sitting true n t x) t c.args.bytes.now c.requires.turn (g.met.S.Store.tied c.args.store.now) holds (fits_taking x t n holds c.requires.fits).taking short c.in-Ok.ensures.ok (ap (λ (b : Bool). grown_sitting b n t x) (sym c.if-reached.true ∙ c.in-Ok.ensures.reached)) c.put_more.ensures.leaves c.put_more.ensures.settled

pub returns-else-reached-clause-does : goal.returns-else-reached-clause-does
returns-else-reached-clause-does g c =
    let v = g.S.Store.stand c.args.store.now in
    let w = g.S.Store.stand c.put_more.new.store in
    let k = hub_state c.args.seats.now in
    let x = sitting_of c.args.session.now in
    let t = taking_of c.in-Some.taken in
    let n = length c.args.bytes.now in
    let holds = ap (option_map taking_of) c.in-Some.is in
    let short : t.have + n < t.key.size = omega (arith, c.if-came-left.true) in
    let y = record x { hold = Some (record t { have = t.have + n }) } in
    let same : y ≡ grown_sitting false n t x = ap (λ (m : ℕ). record x { hold = Some (record t { have = t.have + n; places = m }) }) (less_none t.places) in
    more_does v w k c.args.seat x y t c.args.bytes.now c.requires.turn (g.met.S.Store.tied c.args.store.now) holds (fits_taking x t n holds c.requires.fits).taking short c.in-Ok.ensures.ok (same ∙ ap (λ (b : Bool). grown_sitting b n t x) (sym c.if-reached.false ∙ c.in-Ok.ensures.reached)) c.put_more.ensures.leaves c.put_more.ensures.settled

pub returns-in-Err-clause-does : goal.returns-in-Err-clause-does
returns-in-Err-clause-does g c =
    let v = g.S.Store.stand c.args.store.now in
    let w = g.S.Store.stand c.put_more.new.store in
    let k = hub_state c.args.seats.now in
    let x = sitting_of c.args.session.now in
    let t = taking_of c.in-Some.taken in
    let holds = ap (option_map taking_of) c.in-Some.is in
    let h = with_sitting c.args.seat (Some x) k in
    let short : t.have + length c.args.bytes.now < t.key.size = omega (arith, c.if-came-left.true) in
    let same : x ≡ record x { hold = Some t } = ap (λ (o : Option Taking). record x { hold = o }) holds in
    subst (λ (y : Sitting). Does v h c.args.seat (Data_call c.args.bytes.now) (Refused (fault_of c.refusal.result)) w (with_sitting c.args.seat (Some y) k)) same
    (subst (λ (f : Fault). Does v h c.args.seat (Data_call c.args.bytes.now) (Refused f) w h) (sym c.refusal.ensures)
    (more_broken v w k c.args.seat x t c.args.bytes.now c.in-Err.fault c.requires.turn (g.met.S.Store.tied c.args.store.now) holds (fits_taking x t (length c.args.bytes.now) holds c.requires.fits).taking short c.in-Err.ensures.err c.put_more.ensures.leaves))

pub returns-in-Ok-put_last-clause-does : goal.returns-in-Ok-put_last-clause-does
returns-in-Ok-put_last-clause-does g c =
    let v = g.S.Store.stand c.args.store.now in
    let w = g.S.Store.stand c.put_last.new.store in
    let k = hub_state c.args.seats.now in
    let x = sitting_of c.args.session.now in
    let t = taking_of c.in-Some.taken in
    let holds = ap (option_map taking_of) c.in-Some.is in
    let within = (data_holds v k c.args.seat x t c.requires.turn holds).fits in
    let f = fits_taking x t (length c.args.bytes.now) holds c.requires.fits in
    let fits = f.fits in
    let all : t.have + length c.args.bytes.now ≡ t.key.size = omega (arith, within, fits, c.if-came-left.false) in
    last_does v w k c.args.seat x (unheld_sitting x) t c.args.bytes.now c.requires.turn (g.met.S.Store.tied c.args.store.now) holds f.taking all c.in-Ok-put_last.ensures.ok refl c.put_last.ensures.leaves c.put_last.ensures.settled

pub returns-in-Err-put_last-clause-does : goal.returns-in-Err-put_last-clause-does
returns-in-Err-put_last-clause-does g c =
    let v = g.S.Store.stand c.args.store.now in
    let w = g.S.Store.stand c.put_last.new.store in
    let k = hub_state c.args.seats.now in
    let x = sitting_of c.args.session.now in
    let t = taking_of c.in-Some.taken in
    let holds = ap (option_map taking_of) c.in-Some.is in
    let h = with_sitting c.args.seat (Some x) k in
    let within = (data_holds v k c.args.seat x t c.requires.turn holds).fits in
    let f = fits_taking x t (length c.args.bytes.now) holds c.requires.fits in
    let fits = f.fits in
    let all : t.have + length c.args.bytes.now ≡ t.key.size = omega (arith, within, fits, c.if-came-left.false) in
    let same : x ≡ record x { hold = Some t } = ap (λ (o : Option Taking). record x { hold = o }) holds in
    subst (λ (y : Sitting). Does v h c.args.seat (Data_call c.args.bytes.now) (Refused (fault_of c.refusal-in-Err-put_last.result)) w (with_sitting c.args.seat (Some y) k)) same
    (subst (λ (z : Fault). Does v h c.args.seat (Data_call c.args.bytes.now) (Refused z) w h) (sym c.refusal-in-Err-put_last.ensures)
    (last_broken v w k c.args.seat x t c.args.bytes.now c.in-Err-put_last.fault c.requires.turn (g.met.S.Store.tied c.args.store.now) holds f.taking all c.in-Err-put_last.ensures.err c.put_last.ensures.leaves))

pub returns-then-reached-clause-exact : goal.returns-then-reached-clause-exact
returns-then-reached-clause-exact g c =
    more_exact (sitting_of c.args.session.now) (taking_of c.in-Some.taken) (length c.args.bytes.now) (ap (option_map taking_of) c.in-Some.is) (omega (arith, c.if-came-left.true))

pub returns-else-reached-clause-exact : goal.returns-else-reached-clause-exact
returns-else-reached-clause-exact g c =
    more_exact (sitting_of c.args.session.now) (taking_of c.in-Some.taken) (length c.args.bytes.now) (ap (option_map taking_of) c.in-Some.is) (omega (arith, c.if-came-left.true))

pub returns-in-Ok-put_last-clause-exact : goal.returns-in-Ok-put_last-clause-exact
returns-in-Ok-put_last-clause-exact g c =
    let x = sitting_of c.args.session.now in
    let t = taking_of c.in-Some.taken in
    let holds = ap (option_map taking_of) c.in-Some.is in
    let fits = (fits_taking x t (length c.args.bytes.now) holds c.requires.fits).fits in
    whole_exact x t (length c.args.bytes.now) holds (omega (arith, fits, c.if-came-left.false))

pub returns-then-reached-clause-finds : goal.returns-then-reached-clause-finds
returns-then-reached-clause-finds g c =
    let k = hub_state c.args.seats.now in
    let x = sitting_of c.args.session.now in
    let t = taking_of c.in-Some.taken in
    let holds = ap (option_map taking_of) c.in-Some.is in
    let index = c.args.holds.now in
    alike_here index index k c.args.seat x (record x { hold = Some (record t { have = t.have + length c.args.bytes.now; places = t.places - 1 }) }) c.requires.finds (λ a f. refl) (λ a f. ap (λ (o : Option Taking). sits_on a f x.first o) (sym holds))

pub returns-else-reached-clause-finds : goal.returns-else-reached-clause-finds
returns-else-reached-clause-finds g c =
    let k = hub_state c.args.seats.now in
    let x = sitting_of c.args.session.now in
    let t = taking_of c.in-Some.taken in
    let holds = ap (option_map taking_of) c.in-Some.is in
    let index = c.args.holds.now in
    alike_here index index k c.args.seat x (record x { hold = Some (record t { have = t.have + length c.args.bytes.now }) }) c.requires.finds (λ a f. refl) (λ a f. ap (λ (o : Option Taking). sits_on a f x.first o) (sym holds))

pub returns-in-Err-clause-finds : goal.returns-in-Err-clause-finds
returns-in-Err-clause-finds g c =
    let k = hub_state c.args.seats.now in
    let x = sitting_of c.args.session.now in
    let t = taking_of c.in-Some.taken in
    let holds = ap (option_map taking_of) c.in-Some.is in
    let index = c.args.holds.now in
    alike_here index index k c.args.seat x (record x { hold = Some t }) c.requires.finds (λ a f. refl) (λ a f. ap (λ (o : Option Taking). sits_on a f x.first o) (sym holds))

pub returns-in-Err-put_last-clause-finds : goal.returns-in-Err-put_last-clause-finds
returns-in-Err-put_last-clause-finds g c =
    let k = hub_state c.args.seats.now in
    let x = sitting_of c.args.session.now in
    let t = taking_of c.in-Some.taken in
    let holds = ap (option_map taking_of) c.in-Some.is in
    let index = c.args.holds.now in
    alike_here index index k c.args.seat x (record x { hold = Some t }) c.requires.finds (λ a f. refl) (λ a f. ap (λ (o : Option Taking). sits_on a f x.first o) (sym holds))

pub returns-in-Ok-put_last-clause-finds : goal.returns-in-Ok-put_last-clause-finds
returns-in-Ok-put_last-clause-finds g c =
    let k = hub_state c.args.seats.now in
    let x = sitting_of c.args.session.now in
    let t = taking_of c.in-Some.taken in
    let holds = ap (option_map taking_of) c.in-Some.is in
    let index = c.args.holds.now in
    released_here index c.release.new.self k c.args.seat x (unheld_sitting x) c.requires.finds
    (λ a f. c.release.ensures a f ∙ ap (λ (o : Option Taking). cond (sits_on a f x.first o) None (holder index a f)) (sym holds)) refl
