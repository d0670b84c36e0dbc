use Rattle.std.proofs.Common.{sym, ◌∙◌}
use Rattle.std.proofs.lemmas.Result.{on_ok_weaker}
use Rattle.outbound_places.proofs.Added.{adds_none, adds_one, grows_added}
use Rattle.outbound_places.proofs.Spelled.{one_spelled}
use Rattle.outbound_addresses.specs.Own.{IsTakeOf}
use Rattle.outbound_addresses.proofs.own.note_take.Goals as goal

pub returns-in-None-clause-adds : goal.returns-in-None-clause-adds
returns-in-None-clause-adds c = adds_none (IsTakeOf c.args.taken.now) c.args.found.now c.in-None.ensures

pub returns-in-Some-clause-grows : goal.returns-in-Some-clause-grows
returns-in-Some-clause-grows c = on_ok_weaker c.note.result (grows_added c.args.found.now c.note.new.found c.in-Some.place c.in-Some.ensures.0) c.note.ensures.added

pub returns-in-Some-clause-adds : goal.returns-in-Some-clause-adds
returns-in-Some-clause-adds c =
    on_ok_weaker c.note.result
    (adds_one (IsTakeOf c.args.taken.now) c.args.found.now c.note.new.found c.in-Some.place c.in-Some.ensures.0 c.in-Some.ensures.1 (λ p fits is. one_spelled p c.in-Some.place fits c.in-Some.ensures.0 (sym is ∙ c.in-Some.ensures.1))) c.note.ensures.added
