use Rattle.std.proofs.Common.{reverse, subst}
use Rattle.std.specs.Prelude.{option_copied}
use Rattle.ftn_addr.specs.Address.{address}
use Rattle.hub_core.proofs.Walking.{walk_begins, walk_on, walk_shorter, Walks}
use Rattle.hub_core.specs.Indices.{KeptIf}
use Rattle.hub_core.proofs.sending.next_free.Goals as goal

pub loop-at-init : goal.loop-at-init
loop-at-init g c =
    let queue = (g.S.Store.stand c.args.store.now).state.stock.state.queue in
    walk_begins (address c.args.dest.now) (option_copied c.args.claims) (reverse c.args.skips.now.list.items) queue c.args.passed c.next_live-at.result c.requires c.next_live-at.ensures

pub loop-at-smaller : goal.loop-at-smaller
loop-at-smaller g c =
    let queue = (g.S.Store.stand c.args.store.now).state.stock.state.queue in
    rw c.in-Some.is (walk_shorter (address c.args.dest.now) queue c.in-Some.place c.next_live-at-in-Some.result c.next_live-at-in-Some.ensures)

pub loop-at-preserved : goal.loop-at-preserved
loop-at-preserved g c =
    let queue = (g.S.Store.stand c.args.store.now).state.stock.state.queue in
    let back = KeptIf (option_copied c.args.claims) (reverse c.args.skips.now.list.items) in
    let w = subst (Walks (address c.args.dest.now) back queue) c.in-Some.is c.loop-at.invariant in
    walk_on (address c.args.dest.now) back queue c.in-Some.place c.next_live-at-in-Some.result w (c.is_kept_back.ensures.back c.if-not-is_kept_back.false) c.next_live-at-in-Some.ensures
