use Rattle.std.proofs.Common.{◌≡◌, ◌+◌, ◌-◌, ◌<◌, ◌∙◌, ℕ, length, take, ap, sym, rules, arith}
use Rattle.mem_disk.specs.Undo.{all_taken_back}
use Rattle.mem_disk.proofs.UndoLemmas.{taken_back_last}
use Rattle.mem_disk.proofs.file.all_taken_back.Goals as goal

pub loop-left-preserved : goal.loop-left-preserved
loop-left-preserved c =
    let cs = c.args.changes.now in
    let n = c.loop-left.left - 1 in
    let change = c.index-changes-left.result in
    let some : 0 < c.loop-left.left = search rules in
    let lt : n < length cs = omega (arith, c.loop-left.invariant.within, some) in
    let one : n + 1 ≡ c.loop-left.left = omega (arith, some) in
    record {
      within = omega (arith, c.loop-left.invariant.within);
      same = ap (all_taken_back (take n cs)) c.in_ok-take_back.ensures ∙ sym (taken_back_last cs n change c.loop-left.bytes.items lt c.index-changes-left.is)
          ∙ ap (λ (k : ℕ). all_taken_back (take k cs) c.loop-left.bytes.items) one ∙ c.loop-left.invariant.same;
    }
