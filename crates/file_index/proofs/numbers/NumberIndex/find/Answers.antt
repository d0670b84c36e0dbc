use Rattle.std.proofs.Common.{◌∙◌, ap}
use Rattle.std.specs.Prelude.{is_some}
use Rattle.file_index.proofs.Places.{first-any}
use Rattle.file_index.proofs.numbers.NumberIndex.find.Goals as goal

pub returns-then-self : goal.returns-then-self
returns-then-self c = λ numbers has. c.contains_key.ensures ∙ ap is_some (has c.if-self.true c.args.number) ∙ first-any c.args.number numbers
