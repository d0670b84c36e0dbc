use Rattle.ledger_rec.proofs.steps.add_mark.Goals as goal

pub returns-clause-used : goal.returns-clause-used
returns-clause-used c = λ n room. c.put_mark.ensures.room n (c.in_ok-make_room.ensures.kept n room)
