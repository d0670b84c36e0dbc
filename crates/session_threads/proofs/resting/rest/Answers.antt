use Rattle.session_threads.proofs.resting.rest.Goals as goal

pub leave-answer-requires : goal.leave-answer-requires
leave-answer-requires g c = rw (c.new-desk.ensures.gate, c.new-desk.ensures.pass) (c.requires.home c.args.gate.now c.requires.named)
