use Rattle.std.proofs.Common.{refl, ap, List}
use Rattle.call_hosts.specs.Hosts.{host_text}
use Rattle.call_sched.specs.declared.words.Try.{Try}
use Rattle.binkp_serve.specs.Serving.{Is_called, No_room}
use Rattle.binkp_serve.proofs.Rested.{rests_none, rests_then}
use Rattle.binkp_serve.proofs.serving.call_at.Goals as goal

pub returns-in-Ok-clause-calls : goal.returns-in-Ok-clause-calls
returns-in-Ok-clause-calls g c = Is_called (host_text c.args.host.now) c.requires.host c.note_try.new.tries.items c.in-Ok.ensures.ok _ c.dial.ensures.dials (c.give.ensures.gives (g.N.Lines.state c.dial.new.lines) (g.O.Sink.state c.dial.new.out) c.dial.new.watch)

pub returns-in-Ok-clause-rests : goal.returns-in-Ok-clause-rests
returns-in-Ok-clause-rests g c = rests_then g.D.Disk.tells g.D.Disk.content g.D.Disk.fault_count g.D.Disk.moment g.D.Disk.images _ _ _ _ _ c.dial.ensures.rests c.give.ensures.rests

pub returns-in-Err-clause-rests : goal.returns-in-Err-clause-rests
returns-in-Err-clause-rests g c = rests_none g.D.Disk.tells g.D.Disk.content g.D.Disk.fault_count g.D.Disk.moment g.D.Disk.images _ _ c.requires.at_rest
