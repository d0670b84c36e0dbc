use Rattle.std.proofs.Common.{◌∙◌, ap}
use Rattle.file_index.proofs.Filing.{get-has, is_in}
use Rattle.file_index.proofs.files.FileIndex.has.Goals as goal

pub returns-in-Some : goal.returns-in-Some
returns-in-Some c = c.contains.ensures ∙ ap (λ found. is_in found c.args.from.now) c.in-Some.ensures.value ∙ get-has c.args.self.now.senders c.args.key.now c.args.from.now

pub returns-in-None : goal.returns-in-None
returns-in-None c = ap (λ found. is_in found c.args.from.now) c.in-None.ensures.value ∙ get-has c.args.self.now.senders c.args.key.now c.args.from.now
