-- What stands next in a script of reads (own).
use Rattle.std.specs.Prelude.{Option, Some, None}
use Rattle.binkp_link.specs.Scripts.{Act, Bytes, Not_yet, Quiet, Failed}
use Rattle.binkp_link.specs.declared.read_script.Front.{Front}
use Rattle.binkp_link.specs.declared.read_script.Front.TheVariants as F

abbrev pub front_act : Front → Option Act
front_act F.End = None
front_act (F.Bytes bytes) = Some (Bytes bytes.now)
front_act F.NotYet = Some Not_yet
front_act F.Quiet = Some Quiet
front_act F.Failed = Some Failed
