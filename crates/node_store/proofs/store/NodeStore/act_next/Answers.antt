use Rattle.std.proofs.Common.{◌≡◌, ℕ, Some, None, Ok, Err, map, refl, sym, ◌∙◌, ap, subst, rules}
use Rattle.std.specs.Prelude.{IsSome}
use Rattle.ftn_addr.specs.Address.{address}
use Rattle.ftn_addr.specs.Counts.{next_count}
use Rattle.file_index.specs.Turns.{NextTurn}
use Rattle.ledger_file.specs.Ledger.{ledger_name}
use Rattle.ledger_rec.specs.Acting.{acting_turn, is_acting}
use Rattle.ledger_rec.specs.Fold.{State, Folding, fold_step}
use Rattle.ledger_rec.specs.Items.{entry}
use Rattle.ledger_rec.specs.Payloads.{record_in}
use Rattle.ledger_rec.specs.Record.{Acted}
use Rattle.node_model.specs.declared.store.StoreFault.TheVariants.{Disk, Full, NoMemory}
use Rattle.node_model.specs.StoreStates.{shelf_of}
use Rattle.node_model.specs.Stores.{Act_next, Acted_on, StoreKept, Refuses}
use Rattle.node_store.specs.Books.{Books, AreSame}
use Rattle.node_store.specs.Recording.{IsRecorded}
use Rattle.node_store.specs.Stored.{Holding, Memory, stand_of, state_of, sizes_in}
use Rattle.node_store.proofs.ActCall.{acted_follows, act_failed, act_unrecorded, act_kept, act_sound}
use Rattle.node_store.proofs.ActingNext.{none_acts, next_there, next_is, next_found, next_acted, some_action}
use Rattle.node_store.proofs.AppendTold.{broken_sound}
use Rattle.node_store.proofs.Calls.{still_call}
use Rattle.node_store.proofs.Known.{none_queued}
use Rattle.node_store.proofs.Numbered.{numbered_fold}
use Rattle.node_store.proofs.OneRecord.{only_content}
use Rattle.node_store.proofs.Places.{places_told, same_stored, same-then, sound_same}
use Rattle.node_store.proofs.StillKept.{kept_in, kept_step}
use Rattle.node_store.proofs.HeldTakes.{acted_takes, same_takes}
use Rattle.node_model.proofs.Lists.{none_some}
use Rattle.node_store.proofs.store.NodeStore.act_next.Goals as goal

pub returns-in_default-clause-kept : goal.returns-in_default-clause-kept
returns-in_default-clause-kept g c =
    let s = c.self.inside in
    let m : Memory = record { books = s.books; given = s.given.items; parts = s.parts.items; staged = s.staged.items; drawn = s.drawn; last_staged = s.last_staged; seat = s.seat; last_given = s.last_given; fulls = s.fulls; broken = s.broken } in
    let dest = address c.args.dest.now in
    let next : NextTurn (is_acting s.books.folding.state.queue dest) None None = subst (λ (f : Folding). NextTurn (is_acting f.state.queue dest) None None) c.folded.ensures c.in_default.ensures in
    subst (λ (x : Holding g.row.D.Denot). StoreKept (stand_of g.D.Disk.tells g.D.Disk.content g.D.Disk.fault_count g.D.Disk.moment g.D.Disk.images x) (Act_next dest) (Acted_on None) (stand_of g.D.Disk.tells g.D.Disk.content g.D.Disk.fault_count g.D.Disk.moment g.D.Disk.images x)) c.self.view_is
    (still_call g.D.Disk.tells g.D.Disk.content g.D.Disk.fault_count g.D.Disk.moment g.D.Disk.images s.disk m m (Act_next dest) (Acted_on None) c.self.invariant.0.memory.books.folds c.self.invariant.0.kept refl
    (none_acts s.books.folding.state.queue dest (sizes_in g.D.Disk.tells (g.D.Disk.content s.disk) s.given.items) next, refl))

pub invariant_of-self : goal.invariant_of-self
invariant_of-self g c =
    let s = c.self.inside in
    let m : Memory = record { books = s.books; given = s.given.items; parts = s.parts.items; staged = s.staged.items; drawn = s.drawn; last_staged = s.last_staged; seat = s.seat; last_given = s.last_given; fulls = s.fulls; broken = s.broken } in
    (sound_same g.D.Disk.tells g.D.Disk.content g.D.Disk.moment g.D.Disk.images s.disk m c.reserve.new.self c.reserve.ensures.same c.reserve.ensures.books c.self.invariant.0, c.self.invariant.1, kept_in s.kept s.given.items s.books c.reserve.new.self c.reserve.ensures.same.state c.self.invariant.2, λ still. same_takes s.takes g.D.Disk.tells (g.D.Disk.content s.disk) (g.D.Disk.content s.disk) (g.D.Disk.fault_count s.disk) (g.D.Disk.fault_count s.disk) m _ _ refl refl (ap (λ (x : State). x.takes) c.reserve.ensures.same.state) (λ t. refl) (c.self.invariant.3 still))

pub returns-in-Err-NoMemory-clause-kept : goal.returns-in-Err-NoMemory-clause-kept
returns-in-Err-NoMemory-clause-kept g c =
    let s = c.self.inside in
    let m : Memory = record { books = s.books; given = s.given.items; parts = s.parts.items; staged = s.staged.items; drawn = s.drawn; last_staged = s.last_staged; seat = s.seat; last_given = s.last_given; fulls = s.fulls; broken = s.broken } in
    let dest = address c.args.dest.now in
    let m' : Memory = record { books = c.reserve.new.self; given = s.given.items; parts = s.parts.items; staged = s.staged.items; drawn = s.drawn; last_staged = s.last_staged; seat = s.seat; last_given = s.last_given; fulls = s.fulls; broken = s.broken } in
    subst (λ (x : Holding g.row.D.Denot). StoreKept (stand_of g.D.Disk.tells g.D.Disk.content g.D.Disk.fault_count g.D.Disk.moment g.D.Disk.images x) (Act_next dest) (Refuses NoMemory) (stand_of g.D.Disk.tells g.D.Disk.content g.D.Disk.fault_count g.D.Disk.moment g.D.Disk.images (record { disk = s.disk; takes = s.takes; memory = m' }))) c.self.view_is
    (still_call g.D.Disk.tells g.D.Disk.content g.D.Disk.fault_count g.D.Disk.moment g.D.Disk.images s.disk m m' (Act_next dest) (Refuses NoMemory) c.self.invariant.0.memory.books.folds c.self.invariant.0.kept (ap shelf_of (same_stored (g.D.Disk.content s.disk) m c.reserve.new.self c.reserve.ensures.same))
    (tt, places_told g.D.Disk.tells (g.D.Disk.content s.disk) (g.D.Disk.fault_count s.disk) m c.reserve.new.self s.books.reserved c.reserve.ensures.same c.in-Err-NoMemory.ensures.unreserved))

pub invariant_of-self-in-Err-Full : goal.invariant_of-self-in-Err-Full
invariant_of-self-in-Err-Full g c =
    let s = c.self.inside in
    let m : Memory = record { books = s.books; given = s.given.items; parts = s.parts.items; staged = s.staged.items; drawn = s.drawn; last_staged = s.last_staged; seat = s.seat; last_given = s.last_given; fulls = s.fulls; broken = s.broken } in
    let h = sound_same g.D.Disk.tells g.D.Disk.content g.D.Disk.moment g.D.Disk.images s.disk m c.reserve.new.self c.reserve.ensures.same c.reserve.ensures.books c.self.invariant.0 in
    (record { memory = record { books = h.memory.books; orderly = h.memory.orderly; parts = h.memory.parts; marked = h.memory.marked; received = h.memory.received; numbers = h.memory.numbers; given = h.memory.given; staged = h.memory.staged; queued = h.memory.queued }; kept = λ whole w now. let k = h.kept whole w now in record { ledger = k.ledger; files = k.files; same = k.same }; bodies = λ whole t. let b = h.bodies whole t in record { parts = b.parts; staged = b.staged; given = b.given } }, c.self.invariant.1, kept_in s.kept s.given.items s.books c.reserve.new.self c.reserve.ensures.same.state c.self.invariant.2, λ still. same_takes s.takes g.D.Disk.tells (g.D.Disk.content s.disk) (g.D.Disk.content s.disk) (g.D.Disk.fault_count s.disk) (g.D.Disk.fault_count s.disk) m _ _ refl refl (ap (λ (x : State). x.takes) c.reserve.ensures.same.state) (λ t. refl) (c.self.invariant.3 still))

pub returns-in-Err-Full-clause-kept : goal.returns-in-Err-Full-clause-kept
returns-in-Err-Full-clause-kept g c =
    let s = c.self.inside in
    let m : Memory = record { books = s.books; given = s.given.items; parts = s.parts.items; staged = s.staged.items; drawn = s.drawn; last_staged = s.last_staged; seat = s.seat; last_given = s.last_given; fulls = s.fulls; broken = s.broken } in
    let dest = address c.args.dest.now in
    let m' : Memory = record { books = c.reserve.new.self; given = s.given.items; parts = s.parts.items; staged = s.staged.items; drawn = s.drawn; last_staged = s.last_staged; seat = s.seat; last_given = s.last_given; fulls = c.saturating_add-self-inside.result; broken = s.broken } in
    let count : c.saturating_add-self-inside.result ≡ next_count s.fulls = search rules in
    let next : NextTurn (is_acting s.books.folding.state.queue dest) None (Some (acting_turn c.in-Some.number)) = subst (λ (f : Folding). NextTurn (is_acting f.state.queue dest) None (Some (acting_turn c.in-Some.number))) c.folded.ensures c.in-Some.ensures in
    let e = next_is s.books.folding.state.queue dest c.in-Some.number next in
    subst (λ (x : Holding g.row.D.Denot). StoreKept (stand_of g.D.Disk.tells g.D.Disk.content g.D.Disk.fault_count g.D.Disk.moment g.D.Disk.images x) (Act_next dest) (Refuses Full) (stand_of g.D.Disk.tells g.D.Disk.content g.D.Disk.fault_count g.D.Disk.moment g.D.Disk.images (record { disk = s.disk; takes = s.takes; memory = m' }))) c.self.view_is
    (still_call g.D.Disk.tells g.D.Disk.content g.D.Disk.fault_count g.D.Disk.moment g.D.Disk.images s.disk m m' (Act_next dest) (Refuses Full) c.self.invariant.0.memory.books.folds c.self.invariant.0.kept (ap shelf_of (same_stored (g.D.Disk.content s.disk) m c.reserve.new.self c.reserve.ensures.same)) (
      ((e.0.number, next_acted (sizes_in g.D.Disk.tells (g.D.Disk.content s.disk) s.given.items) s.books.folding.state.queue dest e.0 e.1), c.reserve.ensures.full.0 (c.in-Err-Full.is ∙ ap Err c.in-Err-Full.field-0-is)),
      places_told g.D.Disk.tells (g.D.Disk.content s.disk) (g.D.Disk.fault_count s.disk) (record m { fulls = c.saturating_add-self-inside.result }) c.reserve.new.self s.books.reserved c.reserve.ensures.same c.in-Err-Full.ensures.unreserved
          ∙ ap (λ (n : ℕ). record (state_of g.D.Disk.tells (g.D.Disk.content s.disk) (g.D.Disk.fault_count s.disk) m) { counts = record { faults = g.D.Disk.fault_count s.disk; fulls = n; broken = s.broken } }) count,
    ))

pub entry_of-item-requires-clause-none : goal.entry_of-item-requires-clause-none
entry_of-item-requires-clause-none g c = none_queued c.in-Some.number c.queue_start.result c.queue.result.now c.folded-folded.result.now.state.queue c.queue.ensures c.queue_start.ensures.none

pub entry_of-item-requires-clause-there : goal.entry_of-item-requires-clause-there
entry_of-item-requires-clause-there g c =
    let s = c.self.inside in
    let dest = address c.args.dest.now in
    let next : NextTurn (is_acting s.books.folding.state.queue dest) None (Some (acting_turn c.in-Some.number)) = subst (λ (f : Folding). NextTurn (is_acting f.state.queue dest) None (Some (acting_turn c.in-Some.number))) c.folded.ensures c.in-Some.ensures in
    let items : map entry c.queue.result.now ≡ s.books.folding.state.queue = c.queue.ensures ∙ ap (λ (f : Folding). f.state.queue) c.folded-folded.ensures ∙ ap (λ (t : State). t.queue) c.reserve.ensures.same.state in
    next_there s.books.folding.state.queue dest c.in-Some.number next c.queue.result.now items

pub act_on-requires-clause-action : goal.act_on-requires-clause-action
act_on-requires-clause-action g c =
    let s = c.self.inside in
    let dest = address c.args.dest.now in
    let next : NextTurn (is_acting s.books.folding.state.queue dest) None (Some (acting_turn c.in-Some.number)) = subst (λ (f : Folding). NextTurn (is_acting f.state.queue dest) None (Some (acting_turn c.in-Some.number))) c.folded.ensures c.in-Some.ensures in
    let items : map entry c.queue.result.now ≡ s.books.folding.state.queue = c.queue.ensures ∙ ap (λ (f : Folding). f.state.queue) c.folded-folded.ensures ∙ ap (λ (t : State). t.queue) c.reserve.ensures.same.state in
    let item = c.entry_of-item.result.now in
    let different = (numbered_fold s.books.payloads s.books.folding.state c.self.invariant.0.memory.books.folds).queue in
    let found = next_found s.books.folding.state.queue dest c.in-Some.number next different c.queue.result.now items item c.entry_of-item.ensures in
    some_action (entry item) found.0.acts

pub invariant_of-self-in-Err : goal.invariant_of-self-in-Err
invariant_of-self-in-Err g c =
    let s = c.self.inside in
    let m : Memory = record { books = s.books; given = s.given.items; parts = s.parts.items; staged = s.staged.items; drawn = s.drawn; last_staged = s.last_staged; seat = s.seat; last_given = s.last_given; fulls = s.fulls; broken = s.broken } in
    let same = same-then s.books c.reserve.new.self c.release.new.self c.reserve.ensures.same c.release.ensures.same in
    let sound = sound_same g.D.Disk.tells g.D.Disk.content g.D.Disk.moment g.D.Disk.images s.disk m c.release.new.self same c.release.ensures.books c.self.invariant.0 in
    (broken_sound g.D.Disk.tells g.D.Disk.content g.D.Disk.moment g.D.Disk.images c.act_on.new.disk (record m { books = c.release.new.self }) c.faults.result sound.memory, c.self.invariant.1, kept_in s.kept s.given.items s.books c.release.new.self same.state c.self.invariant.2, λ still. none_some (sym still))

pub returns-in-Err-clause-kept : goal.returns-in-Err-clause-kept
returns-in-Err-clause-kept g c =
    let s = c.self.inside in
    let m : Memory = record { books = s.books; given = s.given.items; parts = s.parts.items; staged = s.staged.items; drawn = s.drawn; last_staged = s.last_staged; seat = s.seat; last_given = s.last_given; fulls = s.fulls; broken = s.broken } in
    let dest = address c.args.dest.now in
    let whole : s.broken ≡ None = ap (λ (x : Holding g.row.D.Denot). x.memory.broken) c.self.view_is ∙ c.requires in
    let next : NextTurn (is_acting s.books.folding.state.queue dest) None (Some (acting_turn c.in-Some.number)) = subst (λ (f : Folding). NextTurn (is_acting f.state.queue dest) None (Some (acting_turn c.in-Some.number))) c.folded.ensures c.in-Some.ensures in
    let items : map entry c.queue.result.now ≡ s.books.folding.state.queue = c.queue.ensures ∙ ap (λ (f : Folding). f.state.queue) c.folded-folded.ensures ∙ ap (λ (t : State). t.queue) c.reserve.ensures.same.state in
    let item = c.entry_of-item.result.now in
    let different = (numbered_fold s.books.payloads s.books.folding.state c.self.invariant.0.memory.books.folds).queue in
    let found = next_found s.books.folding.state.queue dest c.in-Some.number next different c.queue.result.now items item c.entry_of-item.ensures in
    let mid = c.act_on.new.disk in
    let made = c.in-Err.ensures in
    let same = same-then s.books c.reserve.new.self c.release.new.self c.reserve.ensures.same c.release.ensures.same in
    let m' : (ℕ → Memory) = λ k. record { books = c.release.new.self; given = s.given.items; parts = s.parts.items; staged = s.staged.items; drawn = s.drawn; last_staged = s.last_staged; seat = s.seat; last_given = s.last_given; fulls = s.fulls; broken = Some k } in
    let failed = act_failed g.D.Disk.tells g.D.Disk.content g.D.Disk.files g.D.Disk.fault_count g.D.Disk.moment g.D.Disk.images g.met.D.Disk.reads g.met.D.Disk.told s.disk mid m c.self.invariant.0 whole dest (entry item) found.0 made.both.0 (Err c.in-Err.field-0) made.both.1 c.release.new.self same made.cause.failed in
    let counted = subst (λ (k : ℕ). StoreKept (stand_of g.D.Disk.tells g.D.Disk.content g.D.Disk.fault_count g.D.Disk.moment g.D.Disk.images (record { disk = s.disk; takes = s.takes; memory = m })) (Act_next dest) (Refuses Disk) (stand_of g.D.Disk.tells g.D.Disk.content g.D.Disk.fault_count g.D.Disk.moment g.D.Disk.images (record { disk = mid; takes = s.takes; memory = m' k }))) (sym c.faults.ensures) failed in
    subst (λ (x : Holding g.row.D.Denot). StoreKept (stand_of g.D.Disk.tells g.D.Disk.content g.D.Disk.fault_count g.D.Disk.moment g.D.Disk.images x) (Act_next dest) (Refuses Disk) (stand_of g.D.Disk.tells g.D.Disk.content g.D.Disk.fault_count g.D.Disk.moment g.D.Disk.images (record { disk = mid; takes = s.takes; memory = m' c.faults.result }))) c.self.view_is counted

pub append_record-requires-clause-follows : goal.append_record-requires-clause-follows
append_record-requires-clause-follows g c =
    let s = c.self.inside in
    let dest = address c.args.dest.now in
    let next : NextTurn (is_acting s.books.folding.state.queue dest) None (Some (acting_turn c.in-Some.number)) = subst (λ (f : Folding). NextTurn (is_acting f.state.queue dest) None (Some (acting_turn c.in-Some.number))) c.folded.ensures c.in-Some.ensures in
    let items : map entry c.queue.result.now ≡ s.books.folding.state.queue = c.queue.ensures ∙ ap (λ (f : Folding). f.state.queue) c.folded-folded.ensures ∙ ap (λ (t : State). t.queue) c.reserve.ensures.same.state in
    let item = c.entry_of-item.result.now in
    let different = (numbered_fold s.books.payloads s.books.folding.state c.self.invariant.0.memory.books.folds).queue in
    let found = next_found s.books.folding.state.queue dest c.in-Some.number next different c.queue.result.now items item c.entry_of-item.ensures in
    let step = acted_follows dest s.books.payloads s.books.folding.state (entry item) c.self.invariant.0.memory.books.folds found.0 in
    let here : fold_step c.reserve.new.self.folding.state (Acted c.in-Some.number) ≡ Some step.0 = ap (λ (t : State). fold_step t (Acted c.in-Some.number)) c.reserve.ensures.same.state ∙ ap (λ (n : ℕ). fold_step s.books.folding.state (Acted n)) (sym found.1) ∙ step.1 in
    subst IsSome (sym here) refl

pub invariant_of-self-in-Ok-append_record : goal.invariant_of-self-in-Ok-append_record
invariant_of-self-in-Ok-append_record g c =
    let s = c.self.inside in
    let m : Memory = record { books = s.books; given = s.given.items; parts = s.parts.items; staged = s.staged.items; drawn = s.drawn; last_staged = s.last_staged; seat = s.seat; last_given = s.last_given; fulls = s.fulls; broken = s.broken } in
    let dest = address c.args.dest.now in
    let whole : s.broken ≡ None = ap (λ (x : Holding g.row.D.Denot). x.memory.broken) c.self.view_is ∙ c.requires in
    let next : NextTurn (is_acting s.books.folding.state.queue dest) None (Some (acting_turn c.in-Some.number)) = subst (λ (f : Folding). NextTurn (is_acting f.state.queue dest) None (Some (acting_turn c.in-Some.number))) c.folded.ensures c.in-Some.ensures in
    let items : map entry c.queue.result.now ≡ s.books.folding.state.queue = c.queue.ensures ∙ ap (λ (f : Folding). f.state.queue) c.folded-folded.ensures ∙ ap (λ (t : State). t.queue) c.reserve.ensures.same.state in
    let item = c.entry_of-item.result.now in
    let different = (numbered_fold s.books.payloads s.books.folding.state c.self.invariant.0.memory.books.folds).queue in
    let found = next_found s.books.folding.state.queue dest c.in-Some.number next different c.queue.result.now items item c.entry_of-item.ensures in
    let mid = c.act_on.new.disk in
    let new = c.append_record.new.disk in
    let b = c.reserve.new.self in
    let acted = c.in-Ok-act_on.ensures in
    let payload = c.as_slice.result.now in
    let spells : record_in payload ≡ Ok (Acted item.number) = ap record_in c.as_slice.ensures ∙ c.spell.ensures.spells ∙ ap (λ (n : ℕ). Ok (Acted n)) (sym found.1) in
    let only = only_content g.D.Disk.tells g.D.Disk.content g.D.Disk.files ledger_name mid new g.met.D.Disk.reads g.met.D.Disk.told c.append_record.ensures.read in
    let done = c.in-Ok-append_record.ensures in
    let recorded = subst (λ (n : ℕ). IsRecorded payload (Acted n) s.seat b c.append_record.new.self) (sym found.1) done.recorded in
    (act_sound g.D.Disk.tells g.D.Disk.content g.D.Disk.files g.D.Disk.fault_count g.D.Disk.moment g.D.Disk.images g.met.D.Disk.reads g.met.D.Disk.told s.disk mid m c.self.invariant.0 whole dest (entry item) found.0 acted.both.0 (Ok tt) acted.both.1 acted.both.1.answered acted.cause.calm b c.reserve.ensures.same c.reserve.ensures.books c.in-Ok.ensures.reserved c.in-Ok.ensures.room new payload spells c.append_record.ensures.stop only c.append_record.new.self c.append_record.ensures.books recorded done.durable done.cause.calm, c.spell.ensures.room, kept_step s.kept s.given.items b.folding.state (Acted c.in-Some.number) c.append_record.new.self.folding.state tt done.recorded.folded (kept_in s.kept s.given.items s.books b c.reserve.ensures.same.state c.self.invariant.2), λ still. let k = (act_kept g.D.Disk.tells g.D.Disk.content g.D.Disk.files g.D.Disk.fault_count g.D.Disk.moment g.D.Disk.images g.met.D.Disk.reads g.met.D.Disk.told s.disk mid m c.self.invariant.0 whole dest (entry item) found.0 acted.both.0 (Ok tt) acted.both.1 acted.both.1.answered acted.cause.calm b c.reserve.ensures.same c.reserve.ensures.books c.in-Ok.ensures.reserved c.in-Ok.ensures.room new payload spells c.append_record.ensures.stop only c.append_record.new.self c.append_record.ensures.books recorded done.durable done.cause.calm) in acted_takes s.takes k.made.next.entry k.made.time (state_of g.D.Disk.tells (g.D.Disk.content s.disk) (g.D.Disk.fault_count s.disk) m) _ k.made.after (c.self.invariant.3 still))

pub returns-in-Ok-append_record-clause-kept : goal.returns-in-Ok-append_record-clause-kept
returns-in-Ok-append_record-clause-kept g c =
    let s = c.self.inside in
    let m : Memory = record { books = s.books; given = s.given.items; parts = s.parts.items; staged = s.staged.items; drawn = s.drawn; last_staged = s.last_staged; seat = s.seat; last_given = s.last_given; fulls = s.fulls; broken = s.broken } in
    let dest = address c.args.dest.now in
    let whole : s.broken ≡ None = ap (λ (x : Holding g.row.D.Denot). x.memory.broken) c.self.view_is ∙ c.requires in
    let next : NextTurn (is_acting s.books.folding.state.queue dest) None (Some (acting_turn c.in-Some.number)) = subst (λ (f : Folding). NextTurn (is_acting f.state.queue dest) None (Some (acting_turn c.in-Some.number))) c.folded.ensures c.in-Some.ensures in
    let items : map entry c.queue.result.now ≡ s.books.folding.state.queue = c.queue.ensures ∙ ap (λ (f : Folding). f.state.queue) c.folded-folded.ensures ∙ ap (λ (t : State). t.queue) c.reserve.ensures.same.state in
    let item = c.entry_of-item.result.now in
    let different = (numbered_fold s.books.payloads s.books.folding.state c.self.invariant.0.memory.books.folds).queue in
    let found = next_found s.books.folding.state.queue dest c.in-Some.number next different c.queue.result.now items item c.entry_of-item.ensures in
    let mid = c.act_on.new.disk in
    let new = c.append_record.new.disk in
    let b = c.reserve.new.self in
    let acted = c.in-Ok-act_on.ensures in
    let payload = c.as_slice.result.now in
    let spells : record_in payload ≡ Ok (Acted item.number) = ap record_in c.as_slice.ensures ∙ c.spell.ensures.spells ∙ ap (λ (n : ℕ). Ok (Acted n)) (sym found.1) in
    let only = only_content g.D.Disk.tells g.D.Disk.content g.D.Disk.files ledger_name mid new g.met.D.Disk.reads g.met.D.Disk.told c.append_record.ensures.read in
    let done = c.in-Ok-append_record.ensures in
    let recorded = subst (λ (n : ℕ). IsRecorded payload (Acted n) s.seat b c.append_record.new.self) (sym found.1) done.recorded in
    let m' : Memory = record { books = c.append_record.new.self; given = s.given.items; parts = s.parts.items; staged = s.staged.items; drawn = s.drawn; last_staged = s.last_staged; seat = s.seat; last_given = s.last_given; fulls = s.fulls; broken = s.broken } in
    let kept = act_kept g.D.Disk.tells g.D.Disk.content g.D.Disk.files g.D.Disk.fault_count g.D.Disk.moment g.D.Disk.images g.met.D.Disk.reads g.met.D.Disk.told s.disk mid m c.self.invariant.0 whole dest (entry item) found.0 acted.both.0 (Ok tt) acted.both.1 acted.both.1.answered acted.cause.calm b c.reserve.ensures.same c.reserve.ensures.books c.in-Ok.ensures.reserved c.in-Ok.ensures.room new payload spells c.append_record.ensures.stop only c.append_record.new.self c.append_record.ensures.books recorded done.durable done.cause.calm in
    let named = subst (λ (n : ℕ). StoreKept (stand_of g.D.Disk.tells g.D.Disk.content g.D.Disk.fault_count g.D.Disk.moment g.D.Disk.images (record { disk = s.disk; takes = s.takes; memory = m })) (Act_next dest) (Acted_on (Some n)) (stand_of g.D.Disk.tells g.D.Disk.content g.D.Disk.fault_count g.D.Disk.moment g.D.Disk.images (record { disk = new; takes = s.takes; memory = m' }))) found.1 kept in
    subst (λ (x : Holding g.row.D.Denot). StoreKept (stand_of g.D.Disk.tells g.D.Disk.content g.D.Disk.fault_count g.D.Disk.moment g.D.Disk.images x) (Act_next dest) (Acted_on (Some c.in-Some.number)) (stand_of g.D.Disk.tells g.D.Disk.content g.D.Disk.fault_count g.D.Disk.moment g.D.Disk.images (record { disk = new; takes = s.takes; memory = m' }))) c.self.view_is named

pub invariant_of-self-in-Err-append_record : goal.invariant_of-self-in-Err-append_record
invariant_of-self-in-Err-append_record g c =
    let s = c.self.inside in
    let m : Memory = record { books = s.books; given = s.given.items; parts = s.parts.items; staged = s.staged.items; drawn = s.drawn; last_staged = s.last_staged; seat = s.seat; last_given = s.last_given; fulls = s.fulls; broken = s.broken } in
    let last = c.release-in-Err-append_record.new.self in
    let released = subst (λ (k : Books). AreSame k last) c.in-Err-append_record.ensures.same c.release-in-Err-append_record.ensures.same in
    let same = same-then s.books c.reserve.new.self last c.reserve.ensures.same released in
    let sound = sound_same g.D.Disk.tells g.D.Disk.content g.D.Disk.moment g.D.Disk.images s.disk m last same c.release-in-Err-append_record.ensures.books c.self.invariant.0 in
    (broken_sound g.D.Disk.tells g.D.Disk.content g.D.Disk.moment g.D.Disk.images c.append_record.new.disk (record m { books = last }) c.faults-in-Err-append_record.result sound.memory, c.spell.ensures.room, kept_in s.kept s.given.items s.books last same.state c.self.invariant.2, λ still. none_some (sym still))

pub returns-in-Err-append_record-clause-kept : goal.returns-in-Err-append_record-clause-kept
returns-in-Err-append_record-clause-kept g c =
    let s = c.self.inside in
    let m : Memory = record { books = s.books; given = s.given.items; parts = s.parts.items; staged = s.staged.items; drawn = s.drawn; last_staged = s.last_staged; seat = s.seat; last_given = s.last_given; fulls = s.fulls; broken = s.broken } in
    let dest = address c.args.dest.now in
    let whole : s.broken ≡ None = ap (λ (x : Holding g.row.D.Denot). x.memory.broken) c.self.view_is ∙ c.requires in
    let next : NextTurn (is_acting s.books.folding.state.queue dest) None (Some (acting_turn c.in-Some.number)) = subst (λ (f : Folding). NextTurn (is_acting f.state.queue dest) None (Some (acting_turn c.in-Some.number))) c.folded.ensures c.in-Some.ensures in
    let items : map entry c.queue.result.now ≡ s.books.folding.state.queue = c.queue.ensures ∙ ap (λ (f : Folding). f.state.queue) c.folded-folded.ensures ∙ ap (λ (t : State). t.queue) c.reserve.ensures.same.state in
    let item = c.entry_of-item.result.now in
    let different = (numbered_fold s.books.payloads s.books.folding.state c.self.invariant.0.memory.books.folds).queue in
    let found = next_found s.books.folding.state.queue dest c.in-Some.number next different c.queue.result.now items item c.entry_of-item.ensures in
    let mid = c.act_on.new.disk in
    let new = c.append_record.new.disk in
    let b = c.reserve.new.self in
    let acted = c.in-Ok-act_on.ensures in
    let payload = c.as_slice.result.now in
    let spells : record_in payload ≡ Ok (Acted item.number) = ap record_in c.as_slice.ensures ∙ c.spell.ensures.spells ∙ ap (λ (n : ℕ). Ok (Acted n)) (sym found.1) in
    let only = only_content g.D.Disk.tells g.D.Disk.content g.D.Disk.files ledger_name mid new g.met.D.Disk.reads g.met.D.Disk.told c.append_record.ensures.read in
    let last = c.release-in-Err-append_record.new.self in
    let released = subst (λ (k : Books). AreSame k last) c.in-Err-append_record.ensures.same c.release-in-Err-append_record.ensures.same in
    let same = same-then s.books b last c.reserve.ensures.same released in
    let step = acted_follows dest s.books.payloads s.books.folding.state (entry item) c.self.invariant.0.memory.books.folds found.0 in
    let here : fold_step b.folding.state (Acted item.number) ≡ Some step.0 = ap (λ (t : State). fold_step t (Acted item.number)) c.reserve.ensures.same.state ∙ step.1 in
    let m' : (ℕ → Memory) = λ k. record { books = last; given = s.given.items; parts = s.parts.items; staged = s.staged.items; drawn = s.drawn; last_staged = s.last_staged; seat = s.seat; last_given = s.last_given; fulls = s.fulls; broken = Some k } in
    let failed = act_unrecorded g.D.Disk.tells g.D.Disk.content g.D.Disk.files g.D.Disk.fault_count g.D.Disk.moment g.D.Disk.images g.met.D.Disk.reads g.met.D.Disk.told s.disk mid m c.self.invariant.0 whole dest (entry item) found.0 acted.both.0 (Ok tt) acted.both.1 acted.both.1.answered acted.cause.calm b c.reserve.ensures.same c.reserve.ensures.books c.in-Ok.ensures.reserved c.in-Ok.ensures.room new payload spells c.append_record.ensures.stop only last same step.0 here c.in-Err-append_record.ensures.cause.failed in
    let counted = subst (λ (k : ℕ). StoreKept (stand_of g.D.Disk.tells g.D.Disk.content g.D.Disk.fault_count g.D.Disk.moment g.D.Disk.images (record { disk = s.disk; takes = s.takes; memory = m })) (Act_next dest) (Refuses Disk) (stand_of g.D.Disk.tells g.D.Disk.content g.D.Disk.fault_count g.D.Disk.moment g.D.Disk.images (record { disk = new; takes = s.takes; memory = m' k }))) (sym c.faults-in-Err-append_record.ensures) failed in
    subst (λ (x : Holding g.row.D.Denot). StoreKept (stand_of g.D.Disk.tells g.D.Disk.content g.D.Disk.fault_count g.D.Disk.moment g.D.Disk.images x) (Act_next dest) (Refuses Disk) (stand_of g.D.Disk.tells g.D.Disk.content g.D.Disk.fault_count g.D.Disk.moment g.D.Disk.images (record { disk = new; takes = s.takes; memory = m' c.faults-in-Err-append_record.result }))) c.self.view_is counted
