use Rattle.std.proofs.Common.{◌≡◌, Option, Some, None, refl, sym, ◌∙◌, ap, true, false}
use Rattle.std.specs.Prelude.{is_some, option_map}
use Rattle.call_hosts.specs.Hosts.{host_text}
use Rattle.binkp_serve.specs.Serving.{No_room}
use Rattle.binkp_serve.proofs.Rested.{rests_none}
use Rattle.binkp_serve.proofs.serving.call.Goals as goal

pub call_at-requires-clause-host : goal.call_at-requires-clause-host
call_at-requires-clause-host g c = λ ks outlives. sym c.in-Ok-Some.ensures ∙ ap (option_map host_text) c.in-Ok-Some.field-0-is

pub returns-in-Err-clause-calls : goal.returns-in-Err-clause-calls
returns-in-Err-clause-calls g c = No_room refl

pub returns-in-Err-clause-rests : goal.returns-in-Err-clause-rests
returns-in-Err-clause-rests g c = rests_none g.D.Disk.tells g.D.Disk.content g.D.Disk.fault_count g.D.Disk.moment g.D.Disk.images _ _ c.requires.at_rest
