use Rattle.ledger_rec.proofs.steps.add_received.Goals as goal

pub returns-clause-used : goal.returns-clause-used
returns-clause-used c = λ n room. c.put_receipt.ensures.room n (c.in_ok-make_room.ensures.kept n room)
