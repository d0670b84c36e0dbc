use Rattle.std.proofs.Common.{refl}
use Rattle.call_sched.specs.declared.words.Next.TheVariants.{Call, Nothing, WaitUntil}
use Rattle.mail_conf.specs.ConfView.{conf_text}
use Rattle.node_store.specs.Stored.{stand_of}
use Rattle.binkp_serve.specs.Calling.{queue_of}
use Rattle.binkp_serve.specs.Serving.{Nobody, Somebody}
use Rattle.binkp_serve.proofs.Items.{item_has_host}
use Rattle.binkp_serve.proofs.Next.{next_may, next_of, next_there}
use Rattle.binkp_serve.proofs.Rested.{rests_none}
use Rattle.binkp_serve.proofs.serving.call_first.Goals as goal

pub returns-in-WaitUntil-clause-calls : goal.returns-in-WaitUntil-clause-calls
returns-in-WaitUntil-clause-calls g c = Nobody c.args.wanted.items c.requires.wanted (WaitUntil _) (next_of _ _ _ _ _ (WaitUntil _) c.as_slice.ensures.value c.as_slice-2.ensures.value c.in-WaitUntil.ensures) (tt {0}) refl

pub returns-in-Nothing-clause-calls : goal.returns-in-Nothing-clause-calls
returns-in-Nothing-clause-calls g c = Nobody c.args.wanted.items c.requires.wanted Nothing (next_of c.args.now _ _ _ _ Nothing c.as_slice.ensures.value c.as_slice-2.ensures.value c.in-Nothing.ensures) (tt {0}) refl

pub returns-in-WaitUntil-clause-rests : goal.returns-in-WaitUntil-clause-rests
returns-in-WaitUntil-clause-rests g c = rests_none g.D.Disk.tells g.D.Disk.content g.D.Disk.fault_count g.D.Disk.moment g.D.Disk.images _ _ c.requires.at_rest

pub returns-in-Nothing-clause-rests : goal.returns-in-Nothing-clause-rests
returns-in-Nothing-clause-rests g c = rests_none g.D.Disk.tells g.D.Disk.content g.D.Disk.fault_count g.D.Disk.moment g.D.Disk.images _ _ c.requires.at_rest

pub call-requires-clause-host : goal.call-requires-clause-host
call-requires-clause-host g c = λ ks outlives.
    let item = c.swap_remove-item.result in
    let next = next_of _ _ c.args.wanted.items _ _ (Call c.in-Call.place) c.as_slice.ensures.value c.as_slice-2.ensures.value c.in-Call.ensures in
    let there = next_there _ _ _ c.in-Call.place item next c.swap_remove-item.ensures.value in
    item_has_host (conf_text c.args.conf.now) c.args.index.now (queue_of (stand_of g.D.Disk.tells g.D.Disk.content g.D.Disk.fault_count g.D.Disk.moment g.D.Disk.images c.args.desk.now.desk.hub.store.store)) c.args.wanted.items c.in-Call.place item c.requires.wanted there (next_may _ _ _ c.in-Call.place item next there)

pub returns-in-Call-clause-calls : goal.returns-in-Call-clause-calls
returns-in-Call-clause-calls g c =
    let next = next_of _ _ c.args.wanted.items _ _ (Call c.in-Call.place) c.as_slice.ensures.value c.as_slice-2.ensures.value c.in-Call.ensures in
    Somebody c.args.wanted.items c.requires.wanted c.in-Call.place next c.swap_remove-item.result (next_there _ _ _ c.in-Call.place c.swap_remove-item.result next c.swap_remove-item.ensures.value) c.call.ensures.calls
