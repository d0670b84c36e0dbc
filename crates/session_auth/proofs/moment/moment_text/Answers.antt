use Rattle.std.proofs.Common.{◌≡◌, ◌≤◌, length, ap, arith}
use Rattle.httpdate.specs.Date.{date_text}
use Rattle.session_auth.specs.Moment.{moment_text}
use Rattle.session_auth.proofs.Moments.{written_is}
use Rattle.session_auth.proofs.moment.moment_text.Goals as goal

text : (c : goal.In_ok-push_slice-2) → (c.push_slice-2.new.self.list ≡ moment_text c.args.now) × (length c.push_slice-2.new.self.list ≤ 32)
text c =
    let d = c.in-Ok.date in
    let long : length (date_text d) ≡ 29 = omega (arith, ap length c.to_bytes-bytes.ensures) in
    written_is d c.args.now c.to_bytes-bytes.result c.front.result.now c.new-text.result.list c.push_slice.new.self.list c.push_slice-2.new.self.list c.in-Ok.ensures.value long c.to_bytes-bytes.ensures c.front.ensures c.new-text.ensures c.in_ok-push_slice.ensures.ok c.in_ok-push_slice-2.ensures.ok

pub returns-clause-text : goal.returns-clause-text
returns-clause-text c = (text c).0

pub returns-clause-length : goal.returns-clause-length
returns-clause-length c = (text c).1
