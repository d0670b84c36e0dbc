use Rattle.binkp_args.proofs.Readable.{one_more}
use Rattle.binkp_args.proofs.addresses.addresses_of.Goals as goal

pub loop-word-preserved : goal.loop-word-preserved
loop-word-preserved c = one_more _ _ c.args.words.now c.loop-word.word-index _ _ _ c.loop-word-test.true c.loop-word.invariant c.in_ok-push_readable.ensures
