use Rattle.std.proofs.Common.{◌≡◌, ◌∙◌, ℕ, ◌-◌, ◌<◌, List, length, take, get_or, suc, ap, sym, arith}
use Rattle.std.proofs.lemmas.Option.{get_or_from_slice_get}
use Rattle.mem_disk.specs.Holding.{Holding, replay}
use Rattle.mem_disk.specs.Picks.{changed_in, counts_along}
use Rattle.mem_disk.proofs.CountLaws.{length_counts, count_at, changed_calm}
use Rattle.mem_disk.proofs.disk.MemDisk.changed_behind.Goals as goal

pub index-requires : goal.index-requires
index-requires c =
    let d = c.args.self.now in
    omega (arith, ap length d.changes, length_counts d.first d.log.items, c.requires, c.if-place-gt0.true)

pub returns-else-place-gt0 : goal.returns-else-place-gt0
returns-else-place-gt0 c =
    let d = c.args.self.now in
    let none : c.args.place ≡ 0 = omega (arith, c.if-place-gt0.false) in
    sym (ap (λ (h : Holding). changed_in h.own) (ap (λ (k : ℕ). replay d.first (take k d.log.items)) none ∙ d.synced) ∙ changed_calm d.first)

pub returns-then-place-gt0 : goal.returns-then-place-gt0
returns-then-place-gt0 c =
    let d = c.args.self.now in
    let log = d.log.items in
    let last = c.args.place - 1 in
    let within : last < length log = omega (arith, c.requires, c.if-place-gt0.true) in
    let same : suc last ≡ c.args.place = omega (arith, c.if-place-gt0.true) in
    c.index.ensures
    ∙ ap (λ (l : List ℕ). get_or l last c.index.result.now) d.changes
    ∙ get_or_from_slice_get (counts_along d.first log) last (changed_in (replay d.first (take (suc last) log)).own) c.index.result.now (count_at d.first log last within)
    ∙ ap (λ (k : ℕ). changed_in (replay d.first (take k log)).own) same
