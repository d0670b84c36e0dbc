use Rattle.std.proofs.Common.{refl}
use Rattle.binkp_serve.specs.Serving.{No_clients, No_list}
use Rattle.binkp_serve.proofs.Rested.{rests_none}
use Rattle.binkp_serve.proofs.serving.call_next.Goals as goal

pub returns-then-conf-eq0-clause-calls : goal.returns-then-conf-eq0-clause-calls
returns-then-conf-eq0-clause-calls g c = No_clients c.if-conf-eq0.true refl

pub returns-then-conf-eq0-clause-rests : goal.returns-then-conf-eq0-clause-rests
returns-then-conf-eq0-clause-rests g c = rests_none g.D.Disk.tells g.D.Disk.content g.D.Disk.fault_count g.D.Disk.moment g.D.Disk.images _ _ c.requires.at_rest

pub returns-in-Err-clause-calls : goal.returns-in-Err-clause-calls
returns-in-Err-clause-calls g c = No_list refl

pub returns-in-Err-clause-rests : goal.returns-in-Err-clause-rests
returns-in-Err-clause-rests g c = rests_none g.D.Disk.tells g.D.Disk.content g.D.Disk.fault_count g.D.Disk.moment g.D.Disk.images _ _ c.requires.at_rest
