use Rattle.std.proofs.Common.{rules, ◌≡◌, true}
use Rattle.mem_disk.specs.Holding.{is_named, under}
use Rattle.mem_disk.proofs.HoldingLemmas.{renamed_same}
use Rattle.mem_disk.proofs.holdings.Holdings.rename.Goals as goal

pub returns-then-is_same-clause-ok : goal.returns-then-is_same-clause-ok
returns-then-is_same-clause-ok c =
    let same : is_named c.args.from.now c.args.to.now ≡ true = search rules in
    renamed_same (under c.args.from.now c.args.self.now.own) c.args.from.now c.args.to.now c.args.self.now same
