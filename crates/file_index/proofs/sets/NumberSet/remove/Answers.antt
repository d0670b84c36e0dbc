use Rattle.std.proofs.Common.{Bool, ◌∙◌, ap, ◌==◌, ◌&&◌, not}
use Rattle.file_index.proofs.Members.{removed_at}
use Rattle.file_index.proofs.sets.NumberSet.remove.Goals as goal

pub returns : goal.returns
returns c = λ p has whole n.
    removed_at c.args.self.now.numbers c.remove.new.self c.args.number c.remove.ensures.updates.0 n
    ∙ ap (λ (b : Bool). b && not (n == c.args.number)) (has whole n)
