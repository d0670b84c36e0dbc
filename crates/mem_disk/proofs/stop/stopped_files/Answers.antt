use Rattle.std.proofs.Common.{◌∙◌, ℕ, List, map, ap, sym, refl}
use Rattle.mem_disk.specs.Kept.{Kept, settled, chosen}
use Rattle.mem_disk.specs.Holding.{under, adding}
use Rattle.mem_disk.specs.Picks.{digit_for, stopped_files, either}
use Rattle.mem_disk.proofs.PickLaws.{one_chosen, calm_adding}
use Rattle.mem_disk.proofs.stop.stopped_files.Goals as goal

pub loop-entry-preserved : goal.loop-entry-preserved
loop-entry-preserved c =
    let name = c.in-Some.entry.0 in
    let file = c.in-Some.entry.1 in
    let pick = c.loop-entry.pick in
    let left = settled (chosen (digit_for pick file) file) in
    let files = c.loop-entry.files.entries in
    let rest = c.pop_first.new.self.entries in
    record {
      chosen = λ q. c.loop-entry.invariant.chosen q
          ∙ one_chosen q name pick file rest files c.loop-entry.own.entries left c.in-Some.ensures.removal c.in-Some.ensures.updates.1 refl
          ∙ ap (λ (p : ℕ). either (under q (stopped_files p rest)) (under q (adding name left files))) (sym c.in_ok-pick.ensures.rest)
          ∙ ap (λ (es : List (List ℕ × Kept)). either (under q (stopped_files c.in_ok-pick.pick rest)) (under q es)) (sym c.in_ok-pick.ensures.added);
      calm = ap (λ (es : List (List ℕ × Kept)). map (λ (e : List ℕ × Kept). (e.0, settled e.1.written)) es) c.in_ok-pick.ensures.added
          ∙ calm_adding name (chosen (digit_for pick file) file) files c.loop-entry.invariant.calm ∙ sym c.in_ok-pick.ensures.added;
    }
