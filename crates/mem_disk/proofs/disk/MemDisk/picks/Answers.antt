use Rattle.std.proofs.Common.{◌∙◌, ℕ, List, take, ap, sym, arith}
use Rattle.mem_disk.specs.Holding.{replay}
use Rattle.mem_disk.specs.Picks.{changed_in, picks_of}
use Rattle.mem_disk.proofs.PickLaws.{first_calls_front}
use Rattle.mem_disk.proofs.CountLaws.{length_first_calls}
use Rattle.mem_disk.specs.declared.call.Call.{Call}
use Rattle.mem_disk.proofs.disk.MemDisk.picks.Goals as goal

pub changed_behind-requires : goal.changed_behind-requires
changed_behind-requires c = omega (arith, c.place_after.ensures, length_first_calls c.args.after c.args.self.now.log.items)

pub returns : goal.returns
returns c =
    let d = c.args.self.now in
    let log = d.log.items in
    c.picks_of.ensures ∙ ap picks_of (c.changed_behind.ensures
    ∙ ap (λ (k : ℕ). changed_in (replay d.first (take k log)).own) c.place_after.ensures
    ∙ ap (λ (l : List Call). changed_in (replay d.first l).own) (sym (first_calls_front c.args.after log)))
