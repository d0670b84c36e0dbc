use Rattle.std.proofs.Common.{◌≡◌, ◌+◌, [], ◌∷◌, ◌++◌, take, sym, ◌∙◌, ap}
use Rattle.std.proofs.lemmas.List.{take_more}
use Rattle.node_model.specs.Items.{Entry}
use Rattle.mem_store.specs.Offers.{is_before}
use Rattle.mem_store.proofs.Offering.{next-unoffered, next-behind, next-best}
use Rattle.mem_store.proofs.queued.next_of.Goals as goal
use Rattle.mem_store.proofs.queued.next_of.Goals.{then-is_offered+then-is_before, else-is_offered, else-is_offered-via-then-is_offered+else-is_before, else-is_offered-via-else-is_offered}

pub loop-file-preserved : goal.loop-file-preserved
loop-file-preserved c =
    let queue = c.args.queue.now in
    let i = c.loop-file.file-index in
    let e = c.file-item.result in
    let longer : take (i + 1) queue ≡ take i queue ++ e ∷ [] = take_more queue i e c.loop-file-test.true ∙ ap (λ (x : Entry). take i queue ++ x ∷ []) (sym c.file-item.is) in
    rw longer (elim c.if-is_offered.branch [
      | then-is_offered+then-is_before w ↦
          rw (w.best-is, w.place-then-is_before.ensures) (next-best _ _ _ _ c.loop-file.best (sym c.is_offered.ensures ∙ w.if-is_offered.true) (ap (λ at. is_before at c.loop-file.best) (sym w.place.ensures) ∙ sym w.is_before.ensures ∙ w.if-is_before.true) c.loop-file.invariant)
      | else-is_offered w ↦
          rw w.best-is (elim w.else-is_offered.branch [
            | else-is_offered-via-then-is_offered+else-is_before u ↦
                next-behind _ _ _ _ c.loop-file.best (ap (λ at. is_before at c.loop-file.best) (sym u.place.ensures) ∙ sym u.is_before.ensures ∙ u.if-is_before.false) c.loop-file.invariant
            | else-is_offered-via-else-is_offered u ↦
                next-unoffered _ _ _ _ c.loop-file.best (sym c.is_offered.ensures ∙ u.if-is_offered.false) c.loop-file.invariant
          ])
    ])
