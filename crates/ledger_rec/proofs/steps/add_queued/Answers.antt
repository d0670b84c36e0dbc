use Rattle.ledger_rec.proofs.steps.add_queued.Goals as goal

pub returns-clause-used : goal.returns-clause-used
returns-clause-used c = λ n room. c.put_queued.ensures.room n (c.in_ok-make_room.ensures.kept n room)
