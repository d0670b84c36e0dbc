use Rattle.std.proofs.Common.{length, ap, arith}
use Rattle.std.proofs.lemmas.List.{length-append, length-take}
use Rattle.session_auth.proofs.greeting.say_setting.Goals as goal

pub say_text-requires : goal.say_text-requires
say_text-requires c =
    omega (arith, ap length c.in_ok-push_slice.ensures.ok, ap length c.in_ok-line.ensures, ap length c.cut.ensures, length-append c.in_ok-line.line.list c.cut.result.now, length-take 1024 c.as_slice.result.now)
