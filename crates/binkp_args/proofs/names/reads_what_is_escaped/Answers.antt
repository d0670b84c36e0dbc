use Rattle.binkp_args.proofs.Escaping.{unescaped-escaped}
use Rattle.binkp_args.proofs.names.reads_what_is_escaped.Goals as goal

pub returns : goal.returns
returns c = unescaped-escaped
