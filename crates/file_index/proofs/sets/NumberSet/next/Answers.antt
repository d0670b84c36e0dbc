use Rattle.file_index.proofs.Members.{has_number, next_alike}
use Rattle.file_index.proofs.sets.NumberSet.next.Goals as goal

pub returns-then-self : goal.returns-then-self
returns-then-self c = λ p has. next_alike (has_number c.args.self.now.numbers) p c.args.after _ (has c.if-self.true) c.least_above.ensures
