use Rattle.std.proofs.Common.{◌∙◌, ◌++◌, ap, take}
use Rattle.std.proofs.Math.Seq.{take-add}
use Rattle.binkp_link.specs.Streams.{Passing}
use Rattle.binkp_link.proofs.stream.Stream.pass.Goals as goal

pub returns-clause-past : goal.returns-clause-past
returns-clause-past c =
    take-add c.self.inside.place c.args.n c.self.inside.bytes.list ∙ ap (λ (s : Passing). s.past ++ take c.args.n s.ahead) c.self.view_is
