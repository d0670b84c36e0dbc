use Rattle.std.proofs.Common.{◌≡◌, List, ℕ, sym, ◌∙◌, ap, subst}
use Rattle.disk_model.specs.World.{World}
use Rattle.ledger_rec.specs.Fold.{Folding}
use Rattle.node_store.specs.Standing.{found_takes}
use Rattle.node_store.specs.Tending.{HasRest}
use Rattle.node_store.proofs.ListedItems.{rest_listed}
use Rattle.node_store.proofs.Recovering.{leaves-then, leaves-same}
use Rattle.node_store.proofs.Standing.{takes_stand, tidied_reads, tidied_stop, untouched_tended}
use Rattle.node_store.proofs.Untouched.{untouched-then}
use Rattle.node_store.proofs.opening.tidying.tidy.Goals as goal

pub returns-in-Err-list_names-clause-stop : goal.returns-in-Err-list_names-clause-stop
returns-in-Err-list_names-clause-stop g c =
    leaves-then g.D.Disk.moment g.D.Disk.images c.args.disk.now c.cut_parts.new.disk c.list_names.new.disk c.cut_parts.ensures.stop (leaves-same g.D.Disk.moment g.D.Disk.images c.cut_parts.new.disk c.list_names.new.disk c.list_names.ensures.untouched.stop)

pub returns-in-Err-keep_takes-clause-stop : goal.returns-in-Err-keep_takes-clause-stop
returns-in-Err-keep_takes-clause-stop g c =
    let u = untouched-then g.D.Disk.files g.D.Disk.moment g.D.Disk.images c.cut_parts.new.disk c.list_names.new.disk c.keep_takes.new.disk c.list_names.ensures.untouched c.keep_takes.ensures.untouched in
    leaves-then g.D.Disk.moment g.D.Disk.images c.args.disk.now c.cut_parts.new.disk c.keep_takes.new.disk c.cut_parts.ensures.stop (leaves-same g.D.Disk.moment g.D.Disk.images c.cut_parts.new.disk c.keep_takes.new.disk u.stop)

pub remove_strays-requires-clause-listed : goal.remove_strays-requires-clause-listed
remove_strays-requires-clause-listed g c = λ w read.
    subst (λ (l : List (List ℕ)). HasRest c.args.books.now.folding.state l w) (sym c.as_slice-2.ensures.value)
    (rest_listed c.args.books.now.folding.state c.in-Ok-list_names.names.items w (c.in-Ok-list_names.ensures.listed w (c.keep_takes.ensures.untouched.read w read)))

pub returns-in-Ok-remove_strays-clause-takes : goal.returns-in-Ok-remove_strays-clause-takes
returns-in-Ok-remove_strays-clause-takes g c =
    let s = c.args.books.now.folding.state in
    let names = c.in-Ok-list_names.names.items in
    let u = untouched-then g.D.Disk.files g.D.Disk.moment g.D.Disk.images c.cut_parts.new.disk c.list_names.new.disk c.keep_takes.new.disk c.list_names.ensures.untouched c.keep_takes.ensures.untouched in
    let mid = untouched_tended g.D.Disk.files g.D.Disk.moment g.D.Disk.images c.args.books.now.payloads s c.cut_parts.new.disk c.keep_takes.new.disk u c.in-Ok.ensures.tended in
    let listed = λ (w : World) (read : g.D.Disk.files c.keep_takes.new.disk w). c.in-Ok-list_names.ensures.listed w (c.keep_takes.ensures.untouched.read w read) in
    let recorded : c.takes-recorded.result.now ≡ s.takes = c.takes-recorded.ensures ∙ ap (λ (f : Folding). f.state.takes) c.folded.ensures in
    let found : c.in-Ok-keep_takes.takes ≡ found_takes s.takes names = c.in-Ok-keep_takes.ensures.takes ∙ (λ i. found_takes (recorded i) (c.as_slice.ensures.value i)) in
    takes_stand g.D.Disk.files g.D.Disk.moment g.D.Disk.images g.D.Disk.tells g.D.Disk.content g.met.D.Disk.as_read c.args.books.now.payloads s names c.keep_takes.new.disk c.remove_strays.new.disk mid c.in-Ok-remove_strays.ensures.tended
    c.in-Ok-keep_takes.takes found listed c.remove_strays.ensures.read c.in-Ok-remove_strays.ensures.none

pub returns-in-Ok-remove_strays-clause-stop : goal.returns-in-Ok-remove_strays-clause-stop
returns-in-Ok-remove_strays-clause-stop g c = tidied_stop g.D.Disk.files g.D.Disk.moment g.D.Disk.images c.args.disk.now c.cut_parts.new.disk c.list_names.new.disk c.keep_takes.new.disk c.remove_strays.new.disk c.list_names.ensures.untouched c.keep_takes.ensures.untouched c.cut_parts.ensures.stop c.remove_strays.ensures.stop

pub returns-in-Ok-remove_strays-clause-read : goal.returns-in-Ok-remove_strays-clause-read
returns-in-Ok-remove_strays-clause-read g c = tidied_reads g.D.Disk.files g.D.Disk.moment g.D.Disk.images c.args.disk.now c.cut_parts.new.disk c.list_names.new.disk c.keep_takes.new.disk c.remove_strays.new.disk c.list_names.ensures.untouched c.keep_takes.ensures.untouched c.cut_parts.ensures.read c.remove_strays.ensures.read

pub returns-clause-stop : goal.returns-clause-stop
returns-clause-stop g c = tidied_stop g.D.Disk.files g.D.Disk.moment g.D.Disk.images c.args.disk.now c.cut_parts.new.disk c.list_names.new.disk c.keep_takes.new.disk c.remove_strays.new.disk c.list_names.ensures.untouched c.keep_takes.ensures.untouched c.cut_parts.ensures.stop c.remove_strays.ensures.stop

pub returns-clause-read : goal.returns-clause-read
returns-clause-read g c = tidied_reads g.D.Disk.files g.D.Disk.moment g.D.Disk.images c.args.disk.now c.cut_parts.new.disk c.list_names.new.disk c.keep_takes.new.disk c.remove_strays.new.disk c.list_names.ensures.untouched c.keep_takes.ensures.untouched c.cut_parts.ensures.read c.remove_strays.ensures.read
