use Rattle.std.proofs.Common.{◌≡◌, ◌∙◌, ℕ, List, map, None, sym, ap, subst, arith}
use Rattle.file_index.specs.Sets.{Kept}
use Rattle.ledger_rec.specs.Fold.{Folding}
use Rattle.ledger_rec.specs.Items.{Entry, Receipt, receipt}
use Rattle.node_store.specs.Giving.{is_kept}
use Rattle.node_store.specs.Opening.{greatest, opened_memory}
use Rattle.node_store.specs.Stored.{IsSound, Memory}
use Rattle.node_store.proofs.OpenSound.{opened_sound, opened_takes}
use Rattle.node_store.proofs.opening.of_found.Goals as goal

pub invariant_of-result : goal.invariant_of-result
invariant_of-result g c =
    let b = c.args.found.books in
    let drawn : c.greatest-drawn.result ≡ greatest b.folding.state.parts = c.greatest-drawn.ensures ∙ ap greatest (c.parts.ensures ∙ ap (λ (f : Folding). f.state.parts) c.folded.ensures) in
    let last : c.greatest_queued-last_staged.result ≡ greatest (map (λ (e : Entry). e.number) b.folding.state.queue) =
    c.greatest_queued-last_staged.ensures ∙ ap (λ (es : List Entry). greatest (map (λ (e : Entry). e.number) es)) (c.queue.ensures ∙ ap (λ (f : Folding). f.state.queue) c.folded-2.ensures) in
    let m : Memory = record { books = b; given = c.args.found.given.items; parts = c.new.result.items; staged = c.new-2.result.items; drawn = c.greatest-drawn.result; last_staged = c.greatest_queued-last_staged.result; seat = 0; last_given = 0; fulls = 0; broken = None } in
    let is : m ≡ opened_memory b c.args.found.given.items = λ i.
    record { books = b; given = c.args.found.given.items; parts = c.new.ensures.items i; staged = c.new-2.ensures.items i; drawn = drawn i; last_staged = last i; seat = 0; last_given = 0; fulls = 0; broken = None } in (
      subst (λ (x : Memory). IsSound g.D.Disk.tells g.D.Disk.content g.D.Disk.moment g.D.Disk.images c.args.disk x) (sym is)
          (opened_sound g.D.Disk.files g.D.Disk.moment g.D.Disk.images g.D.Disk.tells g.D.Disk.content g.met.D.Disk.told c.args.disk b c.args.found.given.items c.requires.books c.requires.tended c.requires.given c.requires.receipts),
      omega (arith, c.requires.room),
      subst (λ (l : List Receipt). Kept c.kept-kept.result (is_kept c.args.found.given.items l)) (c.inbox.ensures ∙ ap (λ (f : Folding). f.state.inbox) c.folded-3.ensures)
          (subst (λ (ns : List ℕ). Kept c.kept-kept.result (is_kept ns (map receipt c.inbox.result.now))) c.as_slice.ensures.value c.kept-kept.ensures),
      λ still. opened_takes g.D.Disk.files g.D.Disk.tells g.D.Disk.content g.met.D.Disk.told c.args.disk m (g.D.Disk.fault_count c.args.disk) c.args.found.takes c.requires.standing,
    )
