use Rattle.std.proofs.Common.{◌∙◌, ap}
use Rattle.mem_disk.specs.Holding.{Holding, under, with_own, shown}
use Rattle.mem_disk.specs.Picks.{stopped_files}
use Rattle.mem_disk.proofs.PickLaws.{stopped_shown}
use Rattle.mem_disk.proofs.holdings.Holdings.stopped.Goals as goal

pub returns-clause-world : goal.returns-clause-world
returns-clause-world c =
    let own = c.in_ok-own.own.entries in
    ap (λ (h : Holding). shown (with_own own h)) c.self.view_is
    ∙ stopped_shown c.args.pick c.args.self own (λ q. c.in_ok-own.ensures.chosen q ∙ ap (λ (h : Holding). under q (stopped_files c.args.pick h.own)) c.self.view_is)
