use Rattle.binkp_args.proofs.Written.{written-read}
use Rattle.binkp_args.proofs.writing.reads_what_is_written.Goals as goal

pub returns : goal.returns
returns c = written-read
