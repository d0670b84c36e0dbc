use Rattle.std.proofs.Common.{◌≤◌, ◌+◌, length, ap, arith}
use Rattle.std.proofs.lemmas.List.{length-drop}
use Rattle.session_run.proofs.unsent.Unsent.drop_front.Goals as goal

pub overflow_add-start : goal.overflow_add-start
overflow_add-start c =
    let within : c.self.inside.start + c.args.n ≤ c.len-len.result = omega (arith, ap length c.self.view_is, length-drop c.self.inside.start c.self.inside.bytes.list) in
    omega arith
