use Rattle.binkp_args.proofs.ReadLimits.{file_within, addresses_within}
use Rattle.binkp_args.proofs.reading.read_command.Goals as goal

pub returns-clause-files : goal.returns-clause-files
returns-clause-files c = file_within _ _ _ _ c.command_of.ensures

pub returns-clause-addresses : goal.returns-clause-addresses
returns-clause-addresses c = addresses_within _ _ _ _ c.command_of.ensures
