use Rattle.std.proofs.Common.{◌∙◌, ap, arith}
use Rattle.mem_disk.specs.Holding.{Holding}
use Rattle.mem_disk.specs.Picks.{touched}
use Rattle.mem_disk.proofs.CountLaws.{changed_play}
use Rattle.mem_disk.proofs.holdings.Holdings.play_counting.Goals as goal

pub overflow_sub-result : goal.overflow_sub-result
overflow_sub-result c =
    let x = c.args.call.now in
    let h = c.args.self.now in
    let after = c.changed_by.ensures.exact ∙ ap (λ (k : Holding). touched x k.own) c.in_ok-play.ensures.ok in
    omega (arith, changed_play x h c.changed_by-before.ensures.ordered, c.requires, c.changed_by-before.ensures.exact, after)
