use Rattle.std.proofs.Common.{sym, subst, refl, ap, ◌∙◌, ◌&&◌, cond, None}
use Rattle.ftn_addr.specs.Key.{key_of}
use Rattle.node_model.specs.Calls.{File_call, Refused, Fault}
use Rattle.hub_core.specs.Hubs.{Sitting, hub_state, sitting_of, with_sitting}
use Rattle.hub_core.specs.HubCalls.{Does}
use Rattle.std.proofs.Common.{Some}
use Rattle.hub_core.proofs.Ends.{unheld_sitting}
use Rattle.hub_core.proofs.FileDoes.{Offers, file_does}
use Rattle.hub_core.proofs.FileFails.{file_refused, end_broken}
use Rattle.hub_core.proofs.FileNeeds.{may_answer, turn_address, turn_holds, turn_number}
use Rattle.hub_core.proofs.Nodes.{sits_at}
use Rattle.hub_core.proofs.Turning.{sits_now}
use Rattle.node_model.specs.declared.store.StoreFault.TheVariants.{NoMemory}
use Rattle.ftn_addr.specs.Files.{is_same}
use Rattle.hub_core.specs.Holders.{holder, takes}
use Rattle.hub_core.specs.Steps.{sits_on}
use Rattle.hub_core.proofs.HoldSteps.{alike_here, leaves_same, released_here, taken_here, untaken}
use Rattle.hub_core.proofs.files.offer_file.Goals as goal

pub end_held-ended-requires-clause-holds : goal.end_held-ended-requires-clause-holds
end_held-ended-requires-clause-holds g c =
    turn_holds (g.S.Store.stand c.args.store.now) (hub_state c.args.seats.now) c.args.seat (sitting_of c.args.session.now) c.requires.turn

pub answer-requires-clause-first : goal.answer-requires-clause-first
answer-requires-clause-first g c =
    turn_address (g.S.Store.stand c.args.store.now) (hub_state c.args.seats.now) c.args.seat (sitting_of c.args.session.now) c.requires.turn

pub answer-requires-clause-number : goal.answer-requires-clause-number
answer-requires-clause-number g c =
    turn_number (g.S.Store.stand c.args.store.now) (hub_state c.args.seats.now) c.args.seat (sitting_of c.args.session.now) c.requires.turn

pub answer-requires-clause-may : goal.answer-requires-clause-may
answer-requires-clause-may g c =
    let v = g.S.Store.stand c.args.store.now in
    let v1 = g.S.Store.stand c.end_held-ended.new.store in
    let k = hub_state c.args.seats.now in
    let x = sitting_of c.args.session.now in
    let key = key_of c.args.key.now in
    let o : Offers v v1 k c.args.seat x key c.args.offset c.judge-word.result = record { turn = c.requires.turn; tied = g.met.S.Store.tied c.args.store.now; tied_on = g.met.S.Store.tied c.end_held-ended.new.store; ends = c.in_default.ensures.ok; leaves = c.end_held-ended.ensures.leaves; settled = c.end_held-ended.ensures.settled; judged = c.judge-word.ensures.judged } in
    may_answer v v1 k c.args.seat x key c.args.offset c.judge-word.result o

pub returns-in-Ok-clause-does : goal.returns-in-Ok-clause-does
returns-in-Ok-clause-does g c =
    let v = g.S.Store.stand c.args.store.now in
    let v1 = g.S.Store.stand c.end_held-ended.new.store in
    let w = g.S.Store.stand c.answer.new.store in
    let k = hub_state c.args.seats.now in
    let x = sitting_of c.args.session.now in
    let y = sitting_of c.answer.new.session in
    let key = key_of c.args.key.now in
    let o : Offers v v1 k c.args.seat x key c.args.offset c.judge-word.result = record { turn = c.requires.turn; tied = g.met.S.Store.tied c.args.store.now; tied_on = g.met.S.Store.tied c.end_held-ended.new.store; ends = c.in_default.ensures.ok; leaves = c.end_held-ended.ensures.leaves; settled = c.end_held-ended.ensures.settled; judged = c.judge-word.ensures.judged } in
    file_does v v1 w k c.args.seat x y key c.args.offset c.judge-word.result o c.in-Ok.ensures.ok c.answer.ensures.leaves c.answer.ensures.settled

pub returns-in-Err-clause-does : goal.returns-in-Err-clause-does
returns-in-Err-clause-does g c =
    let v = g.S.Store.stand c.args.store.now in
    let w = g.S.Store.stand c.end_held-ended.new.store in
    let k = hub_state c.args.seats.now in
    let x = sitting_of c.args.session.now in
    let key = key_of c.args.key.now in
    let h = with_sitting c.args.seat (Some x) k in
    let g' = with_sitting c.args.seat (Some (unheld_sitting x)) k in
    subst (λ (f : Fault). Does v h c.args.seat (File_call key c.args.offset) (Refused f) w g') (sym c.refusal.ensures)
    (end_broken v w k c.args.seat x key c.args.offset c.in-Err.fault c.requires.turn (sits_now v h c.args.seat x c.requires.turn (g.met.S.Store.tied c.args.store.now) (sits_at k c.args.seat (Some x))) c.in-Err.ensures.err c.end_held-ended.ensures.leaves)

pub returns-in-Err-answer-clause-does : goal.returns-in-Err-answer-clause-does
returns-in-Err-answer-clause-does g c =
    let v = g.S.Store.stand c.args.store.now in
    let v1 = g.S.Store.stand c.end_held-ended.new.store in
    let w = g.S.Store.stand c.answer.new.store in
    let k = hub_state c.args.seats.now in
    let x = sitting_of c.args.session.now in
    let y = sitting_of c.answer.new.session in
    let key = key_of c.args.key.now in
    let h = with_sitting c.args.seat (Some x) k in
    let g' = with_sitting c.args.seat (Some y) k in
    let o : Offers v v1 k c.args.seat x key c.args.offset c.judge-word.result = record { turn = c.requires.turn; tied = g.met.S.Store.tied c.args.store.now; tied_on = g.met.S.Store.tied c.end_held-ended.new.store; ends = c.in_default.ensures.ok; leaves = c.end_held-ended.ensures.leaves; settled = c.end_held-ended.ensures.settled; judged = c.judge-word.ensures.judged } in
    subst (λ (f : Fault). Does v h c.args.seat (File_call key c.args.offset) (Refused f) w g') (sym c.refusal-in-Err-answer.ensures)
    (file_refused v v1 w k c.args.seat x y key c.args.offset c.judge-word.result c.in-Err-answer.fault o c.in-Err-answer.ensures.err c.in-Err-answer.ensures.asks c.in-Err-answer.ensures.same c.answer.ensures.leaves c.answer.ensures.settled)

pub judge-word-requires-clause-finds : goal.judge-word-requires-clause-finds
judge-word-requires-clause-finds g c =
    released_here c.args.holds.now c.release.new.self (hub_state c.args.seats.now) c.args.seat (sitting_of c.args.session.now) (unheld_sitting (sitting_of c.args.session.now)) c.requires.finds c.release.ensures refl

pub returns-in-Err-clause-finds : goal.returns-in-Err-clause-finds
returns-in-Err-clause-finds g c =
    released_here c.args.holds.now c.release.new.self (hub_state c.args.seats.now) c.args.seat (sitting_of c.args.session.now) (unheld_sitting (sitting_of c.args.session.now)) c.requires.finds c.release.ensures refl

pub returns-in-Err-take_up-clause-finds : goal.returns-in-Err-take_up-clause-finds
returns-in-Err-take_up-clause-finds g c =
    let k = hub_state c.args.seats.now in
    let x = unheld_sitting (sitting_of c.args.session.now) in
    alike_here c.release.new.self c.take_up.new.self k c.args.seat x x (released_here c.args.holds.now c.release.new.self (hub_state c.args.seats.now) c.args.seat (sitting_of c.args.session.now) (unheld_sitting (sitting_of c.args.session.now)) c.requires.finds c.release.ensures refl) c.in-Err-take_up.ensures.kept (λ a f. refl)

pub returns-in-Err-take_up-clause-does : goal.returns-in-Err-take_up-clause-does
returns-in-Err-take_up-clause-does g c =
    let v = g.S.Store.stand c.args.store.now in
    let v1 = g.S.Store.stand c.end_held-ended.new.store in
    let k = hub_state c.args.seats.now in
    let x = sitting_of c.args.session.now in
    let key = key_of c.args.key.now in
    let o : Offers v v1 k c.args.seat x key c.args.offset c.judge-word.result = record { turn = c.requires.turn; tied = g.met.S.Store.tied c.args.store.now; tied_on = g.met.S.Store.tied c.end_held-ended.new.store; ends = c.in_default.ensures.ok; leaves = c.end_held-ended.ensures.leaves; settled = c.end_held-ended.ensures.settled; judged = c.judge-word.ensures.judged } in
    file_refused v v1 v1 k c.args.seat x (unheld_sitting x) key c.args.offset c.judge-word.result NoMemory o refl c.in-Err-take_up.ensures.asks refl (leaves_same _ v1) (λ settled whole. settled)

pub returns-in-Ok-clause-finds : goal.returns-in-Ok-clause-finds
returns-in-Ok-clause-finds g c =
    let v1 = g.S.Store.stand c.end_held-ended.new.store in
    let w = g.S.Store.stand c.answer.new.store in
    let k = hub_state c.args.seats.now in
    let x = unheld_sitting (sitting_of c.args.session.now) in
    let y = sitting_of c.answer.new.session in
    taken_here c.release.new.self c.take_up.new.self k c.args.seat x y c.judge-word.result (key_of c.args.key.now) _ v1.state w.state refl (released_here c.args.holds.now c.release.new.self (hub_state c.args.seats.now) c.args.seat (sitting_of c.args.session.now) (unheld_sitting (sitting_of c.args.session.now)) c.requires.finds c.release.ensures refl) c.judge-word.ensures.none c.in_default-take_up.ensures.noted c.in-Ok.ensures.ok

pub returns-in-Err-answer-clause-finds : goal.returns-in-Err-answer-clause-finds
returns-in-Err-answer-clause-finds g c =
    let k = hub_state c.args.seats.now in
    let x = unheld_sitting (sitting_of c.args.session.now) in
    let y = sitting_of c.answer.new.session in
    alike_here c.release.new.self c.give_up.new.self k c.args.seat x y (released_here c.args.holds.now c.release.new.self (hub_state c.args.seats.now) c.args.seat (sitting_of c.args.session.now) (unheld_sitting (sitting_of c.args.session.now)) c.requires.finds c.release.ensures refl)
    (untaken c.release.new.self c.take_up.new.self c.give_up.new.self c.judge-word.result x.first (key_of c.args.key.now) c.args.seat c.judge-word.ensures.none c.in_default-take_up.ensures.noted
    (λ a f. c.give_up.ensures a f ∙ ap (λ (z : Sitting). cond (takes c.judge-word.result && is_same a f z.first (key_of c.args.key.now)) None (holder c.take_up.new.self a f)) c.in-Err-answer.ensures.same))
    (λ a f. ap (λ (z : Sitting). sits_on a f z.first z.hold) c.in-Err-answer.ensures.same)
