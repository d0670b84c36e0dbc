use Rattle.std.proofs.Common.{Bool, ◌∙◌, ap, ◌==◌}
use Rattle.std.specs.Prelude.{◌||◌}
use Rattle.file_index.proofs.Members.{noted_at}
use Rattle.file_index.proofs.sets.NumberSet.note.Goals as goal

pub returns-in-Ok : goal.returns-in-Ok
returns-in-Ok c = λ p has whole n.
    noted_at c.args.self.now.numbers c.insert.new.self c.args.number c.in-Ok.ensures.updates.0 n
    ∙ ap (λ (b : Bool). b || n == c.args.number) (has whole n)
