use Rattle.std.proofs.Common.{◌≡◌, map, take}
use Rattle.binkp_link.specs.Scripts.{act_of, script_bytes}
use Rattle.binkp_link.proofs.read_script.ReadScript.all_bytes.Given as goal

abbrev pub invariant-loop-act : goal.invariant-loop-act
invariant-loop-act l = l.all.list ≡ script_bytes (map act_of (take l.act-index l.act-items))
