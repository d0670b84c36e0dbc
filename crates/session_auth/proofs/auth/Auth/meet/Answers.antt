use Rattle.std.proofs.Common.{length, ap, arith}
use Rattle.cram_md5.specs.Views.{offered}
use Rattle.session_auth.proofs.Shorts.{spoken_short}
use Rattle.session_auth.proofs.auth.Auth.meet.Goals as goal

pub say_password-requires : goal.say_password-requires
say_password-requires c =
    omega (arith, ap length c.in_ok-text-in-Calls.ensures, spoken_short c.password_for-password.result.now (offered c.args.offer))
