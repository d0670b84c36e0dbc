use Rattle.std.proofs.Common.{◌≡◌, ◌+◌, ◌<◌, ◌≤◌, ℕ, List, ◌++◌, length, map, Some, None, Err, refl, sym, ◌∙◌, ap, subst, ⊎_elim, rules, arith}
use Rattle.std.specs.Prelude.{IsSome}
use Rattle.std.proofs.lemmas.List.{length-map}
use Rattle.disk_model.specs.Changes.{Every}
use Rattle.disk_model.specs.Moments.{Now, Leaves}
use Rattle.ftn_addr.specs.Counts.{next_count}
use Rattle.ledger_file.specs.Ledger.{ledger_name}
use Rattle.ledger_file.specs.Text.{lists}
use Rattle.ledger_file.specs.declared.fault.AppendFault.TheVariants.{Disk as DiskFault, Full as FullFault, NoMemory as MemoryFault}
use Rattle.ledger_rec.specs.Batch.{queue_records, taken_records, answered_records}
use Rattle.ledger_rec.specs.Fold.{fold_all}
use Rattle.ledger_rec.specs.Record.{NewFileText, RecordText, new_file}
use Rattle.ledger_rec.specs.Spelling.{AreRecords, spelling}
use Rattle.node_model.specs.declared.store.StoreFault.TheVariants.{Disk, Full, NoMemory}
use Rattle.node_model.specs.declared.words.TheConstants.{MOST_RECORDS}
use Rattle.node_model.specs.StoreStates.{StoreState, shelf_of}
use Rattle.node_model.specs.Stores.{StoreKept, Queue_all, Slots, Refuses}
use Rattle.node_model.specs.StoreWords.{IsNewBatch, entry_of, slot_of}
use Rattle.node_store.specs.Planned.{Adds, AllStand, AllSynced, IsBatched, fresh_in, slots_in}
use Rattle.node_store.specs.Stored.{Holding, Memory, Put, IsSound, stand_of, state_of, left_of}
use Rattle.node_store.proofs.AppendTold.{broken_sound}
use Rattle.node_store.proofs.Calls.{still_call}
use Rattle.node_store.proofs.OneRecord.{only_content}
use Rattle.node_store.proofs.Places.{places_told, same_stored, sound_same}
use Rattle.node_store.proofs.QueueCall.{asked, count_is, queue_failed, queue_kept, queue_sound}
use Rattle.node_store.proofs.QueueKeeps.{new_there, new_stand}
use Rattle.node_store.proofs.QueueTold.{batch_of, unstaged}
use Rattle.node_store.proofs.StillKept.{kept_batch, kept_in}
use Rattle.node_store.proofs.HeldTakes.{same_takes, takes_queued}
use Rattle.node_model.proofs.Lists.{none_some}
use Rattle.node_store.specs.Worlds.{takes_in}
use Rattle.ledger_rec.specs.Fold.{State}
use Rattle.node_store.specs.Takes.{AreTakesOf, Takes, with_noted}
use Rattle.node_store.proofs.store.NodeStore.queue_all.Goals as goal

pub plan_batch-requires : goal.plan_batch-requires
plan_batch-requires g c = c.requires.batch.limits

pub returns-in_default-clause-kept : goal.returns-in_default-clause-kept
returns-in_default-clause-kept g c =
    let s = c.self.inside in
    let m : Memory = record { books = s.books; given = s.given.items; parts = s.parts.items; staged = s.staged.items; drawn = s.drawn; last_staged = s.last_staged; seat = s.seat; last_given = s.last_given; fulls = s.fulls; broken = s.broken } in
    let fs = map entry_of c.args.files.now in
    let take = c.args.take in
    let request = c.args.answered in
    let whole : s.broken ≡ None = ap (λ (x : Holding g.row.D.Denot). x.memory.broken) c.self.view_is ∙ c.requires.whole in
    let is_new : IsNewBatch take request fs (state_of g.D.Disk.tells (g.D.Disk.content s.disk) (g.D.Disk.fault_count s.disk) m) = subst (λ (x : Holding g.row.D.Denot). IsNewBatch take request fs (stand_of g.D.Disk.tells g.D.Disk.content g.D.Disk.fault_count g.D.Disk.moment g.D.Disk.images x).state) (sym c.self.view_is) c.requires.batch in
    let ask = asked g.D.Disk.tells (g.D.Disk.content s.disk) (g.D.Disk.fault_count s.disk) m take request fs c.self.invariant.0.memory is_new in
    let q = s.books.folding.state.queue in
    let kept = still_call g.D.Disk.tells g.D.Disk.content g.D.Disk.fault_count g.D.Disk.moment g.D.Disk.images s.disk m m (Queue_all take request fs) (Refuses NoMemory) c.self.invariant.0.memory.books.folds c.self.invariant.0.kept refl (tt, refl) in
    subst (λ (x : Holding g.row.D.Denot). StoreKept (stand_of g.D.Disk.tells g.D.Disk.content g.D.Disk.fault_count g.D.Disk.moment g.D.Disk.images x) (Queue_all take request fs) (Refuses NoMemory) (stand_of g.D.Disk.tells g.D.Disk.content g.D.Disk.fault_count g.D.Disk.moment g.D.Disk.images x)) c.self.view_is kept

pub append_batch-requires-clause-follows : goal.append_batch-requires-clause-follows
append_batch-requires-clause-follows g c =
    let s = c.self.inside in
    let m : Memory = record { books = s.books; given = s.given.items; parts = s.parts.items; staged = s.staged.items; drawn = s.drawn; last_staged = s.last_staged; seat = s.seat; last_given = s.last_given; fulls = s.fulls; broken = s.broken } in
    let fs = map entry_of c.args.files.now in
    let take = c.args.take in
    let request = c.args.answered in
    let whole : s.broken ≡ None = ap (λ (x : Holding g.row.D.Denot). x.memory.broken) c.self.view_is ∙ c.requires.whole in
    let is_new : IsNewBatch take request fs (state_of g.D.Disk.tells (g.D.Disk.content s.disk) (g.D.Disk.fault_count s.disk) m) = subst (λ (x : Holding g.row.D.Denot). IsNewBatch take request fs (stand_of g.D.Disk.tells g.D.Disk.content g.D.Disk.fault_count g.D.Disk.moment g.D.Disk.images x).state) (sym c.self.view_is) c.requires.batch in
    let ask = asked g.D.Disk.tells (g.D.Disk.content s.disk) (g.D.Disk.fault_count s.disk) m take request fs c.self.invariant.0.memory is_new in
    let q = s.books.folding.state.queue in
    let queue : c.folded.result.now.state.queue ≡ q = ap (λ f. f.state.queue) c.folded.ensures in
    let files = map new_file c.in-Ok.plan.fresh.items in
    let fresh : files ≡ fresh_in fs q = c.in-Ok.ensures.fresh ∙ ap (fresh_in fs) queue in
    let rs = batch_of take request fs q in
    let same_records : queue_records files ++ taken_records take ++ answered_records request ≡ rs = ap (λ l. queue_records l ++ taken_records take ++ answered_records request) fresh in
    subst (λ (l : List RecordText). IsSome (fold_all s.books.folding.state l)) (sym same_records) (subst IsSome (sym ask.folds) refl)

pub append_batch-requires-clause-stand : goal.append_batch-requires-clause-stand
append_batch-requires-clause-stand g c = λ w read.
    let s = c.self.inside in
    let m : Memory = record { books = s.books; given = s.given.items; parts = s.parts.items; staged = s.staged.items; drawn = s.drawn; last_staged = s.last_staged; seat = s.seat; last_given = s.last_given; fulls = s.fulls; broken = s.broken } in
    let fs = map entry_of c.args.files.now in
    let take = c.args.take in
    let request = c.args.answered in
    let whole : s.broken ≡ None = ap (λ (x : Holding g.row.D.Denot). x.memory.broken) c.self.view_is ∙ c.requires.whole in
    let is_new : IsNewBatch take request fs (state_of g.D.Disk.tells (g.D.Disk.content s.disk) (g.D.Disk.fault_count s.disk) m) = subst (λ (x : Holding g.row.D.Denot). IsNewBatch take request fs (stand_of g.D.Disk.tells g.D.Disk.content g.D.Disk.fault_count g.D.Disk.moment g.D.Disk.images x).state) (sym c.self.view_is) c.requires.batch in
    let ask = asked g.D.Disk.tells (g.D.Disk.content s.disk) (g.D.Disk.fault_count s.disk) m take request fs c.self.invariant.0.memory is_new in
    let q = s.books.folding.state.queue in
    let queue : c.folded.result.now.state.queue ≡ q = ap (λ f. f.state.queue) c.folded.ensures in
    let files = map new_file c.in-Ok.plan.fresh.items in
    let fresh : files ≡ fresh_in fs q = c.in-Ok.ensures.fresh ∙ ap (fresh_in fs) queue in
    let rs = batch_of take request fs q in
    let same_records : queue_records files ++ taken_records take ++ answered_records request ≡ rs = ap (λ l. queue_records l ++ taken_records take ++ answered_records request) fresh in
    let t = (g.met.D.Disk.reads s.disk w read).0 in
    subst (λ (l : List NewFileText). AllStand l w) (sym fresh)
    (new_stand (g.D.Disk.files s.disk) (g.D.Disk.content s.disk) (fresh_in fs q) (new_there s.staged.items fs q (g.D.Disk.content s.disk) ask.put (c.self.invariant.0.bodies whole t).staged) (λ v r. (g.met.D.Disk.reads s.disk v r).1) w read)

pub invariant_of-self : goal.invariant_of-self
invariant_of-self g c =
    let s = c.self.inside in
    let m : Memory = record { books = s.books; given = s.given.items; parts = s.parts.items; staged = s.staged.items; drawn = s.drawn; last_staged = s.last_staged; seat = s.seat; last_given = s.last_given; fulls = s.fulls; broken = s.broken } in
    let fs = map entry_of c.args.files.now in
    let take = c.args.take in
    let request = c.args.answered in
    let whole : s.broken ≡ None = ap (λ (x : Holding g.row.D.Denot). x.memory.broken) c.self.view_is ∙ c.requires.whole in
    let is_new : IsNewBatch take request fs (state_of g.D.Disk.tells (g.D.Disk.content s.disk) (g.D.Disk.fault_count s.disk) m) = subst (λ (x : Holding g.row.D.Denot). IsNewBatch take request fs (stand_of g.D.Disk.tells g.D.Disk.content g.D.Disk.fault_count g.D.Disk.moment g.D.Disk.images x).state) (sym c.self.view_is) c.requires.batch in
    let ask = asked g.D.Disk.tells (g.D.Disk.content s.disk) (g.D.Disk.fault_count s.disk) m take request fs c.self.invariant.0.memory is_new in
    let q = s.books.folding.state.queue in
    let queue : c.folded.result.now.state.queue ≡ q = ap (λ f. f.state.queue) c.folded.ensures in
    let files = map new_file c.in-Ok.plan.fresh.items in
    let fresh : files ≡ fresh_in fs q = c.in-Ok.ensures.fresh ∙ ap (fresh_in fs) queue in
    let rs = batch_of take request fs q in
    let same_records : queue_records files ++ taken_records take ++ answered_records request ≡ rs = ap (λ l. queue_records l ++ taken_records take ++ answered_records request) fresh in
    let new = c.append_batch.new.disk in
    let b = c.append_batch.new.self in
    let payloads = lists c.as_slice.result.now in
    let text : payloads ≡ map spelling rs = ap lists c.as_slice.ensures.value ∙ c.in-Ok.ensures.payloads ∙ ap (map spelling) same_records in
    let count : length c.as_slice.result.now ≡ length (map spelling rs) = sym (length-map c.as_slice.result.now (λ x. x.list)) ∙ ap length text in
    let records = subst AreRecords same_records c.in-Ok.ensures.numbers in
    let only = only_content g.D.Disk.tells g.D.Disk.content g.D.Disk.files ledger_name s.disk new g.met.D.Disk.reads g.met.D.Disk.told c.append_batch.ensures.read in
    let run = subst (λ (l : List NewFileText). Leaves g.D.Disk.moment g.D.Disk.images (Adds (AllSynced (g.D.Disk.files s.disk) l) s.books.payloads (map spelling rs)) s.disk new) fresh
    (subst (λ (l : List (List ℕ)). Leaves g.D.Disk.moment g.D.Disk.images (Adds (AllSynced (g.D.Disk.files s.disk) files) s.books.payloads l) s.disk new) text c.append_batch.ensures.stop) in
    let made = c.in-Ok-append_batch.ensures in
    let room : length s.books.payloads + s.books.reserved + length (map spelling rs) ≤ MOST_RECORDS = (let r = made.room in omega (arith, r, count)) in
    let batched = subst (λ (l : List RecordText). IsBatched (map spelling rs) l s.seat s.books b) same_records (subst (λ (l : List (List ℕ)). IsBatched l (queue_records files ++ taken_records take ++ answered_records request) s.seat s.books b) text made.batched) in
    let synced = subst (λ (l : List NewFileText). Every (Now g.D.Disk.moment g.D.Disk.images new) (AllSynced (g.D.Disk.files s.disk) l)) fresh made.synced in
    let staged : unstaged fs s.staged.items ≡ c.unstage.new.staged.items = sym c.unstage.ensures in (
      subst (λ (l : List Put). IsSound g.D.Disk.tells g.D.Disk.content g.D.Disk.moment g.D.Disk.images new (record m { books = b; staged = l })) staged
          (queue_sound g.D.Disk.tells g.D.Disk.content g.D.Disk.files g.D.Disk.fault_count g.D.Disk.moment g.D.Disk.images s.disk new m take request fs c.self.invariant.0 whole g.met.D.Disk.reads ask records c.more_records_fold_on.ensures run only room b c.append_batch.ensures.books batched made.durable synced made.calm),
      c.self.invariant.1,
      kept_batch s.kept s.given.items s.books.folding.state (map new_file c.in-Ok.plan.fresh.items) take request b.folding.state made.batched.folded c.self.invariant.2,
      λ still. subst (λ (t : Takes). AreTakesOf t (state_of g.D.Disk.tells (g.D.Disk.content new) (g.D.Disk.fault_count new) (record { books = b; given = s.given.items; parts = s.parts.items; staged = c.unstage.new.staged.items; drawn = s.drawn; last_staged = s.last_staged; seat = s.seat; last_given = s.last_given; fulls = s.fulls; broken = s.broken }))) (sym c.note.ensures) (same_takes (with_noted take s.takes) g.D.Disk.tells (g.D.Disk.content new) (g.D.Disk.content new) (g.D.Disk.fault_count new) (g.D.Disk.fault_count new) (record m { books = b; staged = unstaged fs s.staged.items }) _ _ refl refl refl (λ t. refl) (takes_queued s.takes (state_of g.D.Disk.tells (g.D.Disk.content s.disk) (g.D.Disk.fault_count s.disk) (m)) (state_of g.D.Disk.tells (g.D.Disk.content new) (g.D.Disk.fault_count new) (record m { books = b; staged = unstaged fs s.staged.items })) take request fs (queue_kept g.D.Disk.tells g.D.Disk.content g.D.Disk.files g.D.Disk.fault_count g.D.Disk.moment g.D.Disk.images s.disk new m take request fs c.self.invariant.0 whole g.met.D.Disk.reads ask records c.more_records_fold_on.ensures run only room b c.append_batch.ensures.books batched made.durable synced made.calm).made.2 (c.self.invariant.3 still))),
    )

pub returns-in-Ok-append_batch-clause-kept : goal.returns-in-Ok-append_batch-clause-kept
returns-in-Ok-append_batch-clause-kept g c =
    let s = c.self.inside in
    let m : Memory = record { books = s.books; given = s.given.items; parts = s.parts.items; staged = s.staged.items; drawn = s.drawn; last_staged = s.last_staged; seat = s.seat; last_given = s.last_given; fulls = s.fulls; broken = s.broken } in
    let fs = map entry_of c.args.files.now in
    let take = c.args.take in
    let request = c.args.answered in
    let whole : s.broken ≡ None = ap (λ (x : Holding g.row.D.Denot). x.memory.broken) c.self.view_is ∙ c.requires.whole in
    let is_new : IsNewBatch take request fs (state_of g.D.Disk.tells (g.D.Disk.content s.disk) (g.D.Disk.fault_count s.disk) m) = subst (λ (x : Holding g.row.D.Denot). IsNewBatch take request fs (stand_of g.D.Disk.tells g.D.Disk.content g.D.Disk.fault_count g.D.Disk.moment g.D.Disk.images x).state) (sym c.self.view_is) c.requires.batch in
    let ask = asked g.D.Disk.tells (g.D.Disk.content s.disk) (g.D.Disk.fault_count s.disk) m take request fs c.self.invariant.0.memory is_new in
    let q = s.books.folding.state.queue in
    let queue : c.folded.result.now.state.queue ≡ q = ap (λ f. f.state.queue) c.folded.ensures in
    let files = map new_file c.in-Ok.plan.fresh.items in
    let fresh : files ≡ fresh_in fs q = c.in-Ok.ensures.fresh ∙ ap (fresh_in fs) queue in
    let rs = batch_of take request fs q in
    let same_records : queue_records files ++ taken_records take ++ answered_records request ≡ rs = ap (λ l. queue_records l ++ taken_records take ++ answered_records request) fresh in
    let new = c.append_batch.new.disk in
    let b = c.append_batch.new.self in
    let payloads = lists c.as_slice.result.now in
    let text : payloads ≡ map spelling rs = ap lists c.as_slice.ensures.value ∙ c.in-Ok.ensures.payloads ∙ ap (map spelling) same_records in
    let count : length c.as_slice.result.now ≡ length (map spelling rs) = sym (length-map c.as_slice.result.now (λ x. x.list)) ∙ ap length text in
    let records = subst AreRecords same_records c.in-Ok.ensures.numbers in
    let only = only_content g.D.Disk.tells g.D.Disk.content g.D.Disk.files ledger_name s.disk new g.met.D.Disk.reads g.met.D.Disk.told c.append_batch.ensures.read in
    let run = subst (λ (l : List NewFileText). Leaves g.D.Disk.moment g.D.Disk.images (Adds (AllSynced (g.D.Disk.files s.disk) l) s.books.payloads (map spelling rs)) s.disk new) fresh
    (subst (λ (l : List (List ℕ)). Leaves g.D.Disk.moment g.D.Disk.images (Adds (AllSynced (g.D.Disk.files s.disk) files) s.books.payloads l) s.disk new) text c.append_batch.ensures.stop) in
    let made = c.in-Ok-append_batch.ensures in
    let room : length s.books.payloads + s.books.reserved + length (map spelling rs) ≤ MOST_RECORDS = (let r = made.room in omega (arith, r, count)) in
    let batched = subst (λ (l : List RecordText). IsBatched (map spelling rs) l s.seat s.books b) same_records (subst (λ (l : List (List ℕ)). IsBatched l (queue_records files ++ taken_records take ++ answered_records request) s.seat s.books b) text made.batched) in
    let synced = subst (λ (l : List NewFileText). Every (Now g.D.Disk.moment g.D.Disk.images new) (AllSynced (g.D.Disk.files s.disk) l)) fresh made.synced in
    let staged : unstaged fs s.staged.items ≡ c.unstage.new.staged.items = sym c.unstage.ensures in
    let slots : map slot_of c.in-Ok.plan.slots.items ≡ slots_in fs q = c.in-Ok.ensures.slots ∙ ap (slots_in fs) queue in
    let kept = queue_kept g.D.Disk.tells g.D.Disk.content g.D.Disk.files g.D.Disk.fault_count g.D.Disk.moment g.D.Disk.images s.disk new m take request fs c.self.invariant.0 whole g.met.D.Disk.reads ask records c.more_records_fold_on.ensures run only room b c.append_batch.ensures.books batched made.durable synced made.calm in
    let left = subst (λ (l : List Put). StoreKept (stand_of g.D.Disk.tells g.D.Disk.content g.D.Disk.fault_count g.D.Disk.moment g.D.Disk.images (record { disk = s.disk; takes = s.takes; memory = m })) (Queue_all take request fs) (Slots (slots_in fs q)) (stand_of g.D.Disk.tells g.D.Disk.content g.D.Disk.fault_count g.D.Disk.moment g.D.Disk.images (record { disk = new; takes = s.takes; memory = record m { books = b; staged = l } }))) staged kept in
    let slotted = subst (λ l. StoreKept (stand_of g.D.Disk.tells g.D.Disk.content g.D.Disk.fault_count g.D.Disk.moment g.D.Disk.images (record { disk = s.disk; takes = s.takes; memory = m })) (Queue_all take request fs) (Slots l) (stand_of g.D.Disk.tells g.D.Disk.content g.D.Disk.fault_count g.D.Disk.moment g.D.Disk.images (record { disk = new; takes = s.takes; memory = record { books = b; given = s.given.items; parts = s.parts.items; staged = c.unstage.new.staged.items; drawn = s.drawn; last_staged = s.last_staged; seat = s.seat; last_given = s.last_given; fulls = s.fulls; broken = s.broken } }))) (sym slots) left in
    subst (λ (x : Holding g.row.D.Denot). StoreKept (stand_of g.D.Disk.tells g.D.Disk.content g.D.Disk.fault_count g.D.Disk.moment g.D.Disk.images x) (Queue_all take request fs) (Slots (map slot_of c.in-Ok.plan.slots.items)) (stand_of g.D.Disk.tells g.D.Disk.content g.D.Disk.fault_count g.D.Disk.moment g.D.Disk.images (record { disk = new; takes = s.takes; memory = record { books = b; given = s.given.items; parts = s.parts.items; staged = c.unstage.new.staged.items; drawn = s.drawn; last_staged = s.last_staged; seat = s.seat; last_given = s.last_given; fulls = s.fulls; broken = s.broken } }))) c.self.view_is slotted

pub invariant_of-self-in-Err-NoMemory : goal.invariant_of-self-in-Err-NoMemory
invariant_of-self-in-Err-NoMemory g c =
    let s = c.self.inside in
    let m : Memory = record { books = s.books; given = s.given.items; parts = s.parts.items; staged = s.staged.items; drawn = s.drawn; last_staged = s.last_staged; seat = s.seat; last_given = s.last_given; fulls = s.fulls; broken = s.broken } in
    let fs = map entry_of c.args.files.now in
    let take = c.args.take in
    let request = c.args.answered in
    let whole : s.broken ≡ None = ap (λ (x : Holding g.row.D.Denot). x.memory.broken) c.self.view_is ∙ c.requires.whole in
    let is_new : IsNewBatch take request fs (state_of g.D.Disk.tells (g.D.Disk.content s.disk) (g.D.Disk.fault_count s.disk) m) = subst (λ (x : Holding g.row.D.Denot). IsNewBatch take request fs (stand_of g.D.Disk.tells g.D.Disk.content g.D.Disk.fault_count g.D.Disk.moment g.D.Disk.images x).state) (sym c.self.view_is) c.requires.batch in
    let ask = asked g.D.Disk.tells (g.D.Disk.content s.disk) (g.D.Disk.fault_count s.disk) m take request fs c.self.invariant.0.memory is_new in
    let q = s.books.folding.state.queue in
    let new = c.append_batch.new.disk in
    let b = c.append_batch.new.self in
    let new_disk : new ≡ s.disk = ⊎_elim (λ (e : c.in-Err-NoMemory.field-0 ≡ DiskFault). absurd (let clash : MemoryFault ≡ DiskFault = sym c.in-Err-NoMemory.field-0-is ∙ e in cc)) (λ e. e) c.in-Err-NoMemory.ensures.untouched in
    (subst (λ d. IsSound g.D.Disk.tells g.D.Disk.content g.D.Disk.moment g.D.Disk.images d (record m { books = b })) (sym new_disk) (sound_same g.D.Disk.tells g.D.Disk.content g.D.Disk.moment g.D.Disk.images s.disk m b c.in-Err-NoMemory.ensures.same c.append_batch.ensures.books c.self.invariant.0), c.self.invariant.1, kept_in s.kept s.given.items s.books b c.in-Err-NoMemory.ensures.same.state c.self.invariant.2, λ still. same_takes s.takes g.D.Disk.tells (g.D.Disk.content s.disk) (g.D.Disk.content new) (g.D.Disk.fault_count s.disk) (g.D.Disk.fault_count new) m _ _ refl refl (ap (λ (x : State). x.takes) c.in-Err-NoMemory.ensures.same.state) (λ t. ap (λ (d : g.row.D.Denot). takes_in (g.D.Disk.content d)) new_disk) (c.self.invariant.3 still))

pub returns-in-Err-NoMemory-clause-kept : goal.returns-in-Err-NoMemory-clause-kept
returns-in-Err-NoMemory-clause-kept g c =
    let s = c.self.inside in
    let m : Memory = record { books = s.books; given = s.given.items; parts = s.parts.items; staged = s.staged.items; drawn = s.drawn; last_staged = s.last_staged; seat = s.seat; last_given = s.last_given; fulls = s.fulls; broken = s.broken } in
    let fs = map entry_of c.args.files.now in
    let take = c.args.take in
    let request = c.args.answered in
    let whole : s.broken ≡ None = ap (λ (x : Holding g.row.D.Denot). x.memory.broken) c.self.view_is ∙ c.requires.whole in
    let is_new : IsNewBatch take request fs (state_of g.D.Disk.tells (g.D.Disk.content s.disk) (g.D.Disk.fault_count s.disk) m) = subst (λ (x : Holding g.row.D.Denot). IsNewBatch take request fs (stand_of g.D.Disk.tells g.D.Disk.content g.D.Disk.fault_count g.D.Disk.moment g.D.Disk.images x).state) (sym c.self.view_is) c.requires.batch in
    let ask = asked g.D.Disk.tells (g.D.Disk.content s.disk) (g.D.Disk.fault_count s.disk) m take request fs c.self.invariant.0.memory is_new in
    let q = s.books.folding.state.queue in
    let new = c.append_batch.new.disk in
    let b = c.append_batch.new.self in
    let new_disk : new ≡ s.disk = ⊎_elim (λ (e : c.in-Err-NoMemory.field-0 ≡ DiskFault). absurd (let clash : MemoryFault ≡ DiskFault = sym c.in-Err-NoMemory.field-0-is ∙ e in cc)) (λ e. e) c.in-Err-NoMemory.ensures.untouched in
    let kept = still_call g.D.Disk.tells g.D.Disk.content g.D.Disk.fault_count g.D.Disk.moment g.D.Disk.images s.disk m (record m { books = b }) (Queue_all take request fs) (Refuses NoMemory) c.self.invariant.0.memory.books.folds c.self.invariant.0.kept (ap shelf_of (same_stored (g.D.Disk.content s.disk) m b c.in-Err-NoMemory.ensures.same))
    (tt, places_told g.D.Disk.tells (g.D.Disk.content s.disk) (g.D.Disk.fault_count s.disk) m b s.books.reserved c.in-Err-NoMemory.ensures.same c.in-Err-NoMemory.ensures.unreserved) in
    let there = subst (λ d. StoreKept (stand_of g.D.Disk.tells g.D.Disk.content g.D.Disk.fault_count g.D.Disk.moment g.D.Disk.images (record { disk = s.disk; takes = s.takes; memory = m })) (Queue_all take request fs) (Refuses NoMemory) (stand_of g.D.Disk.tells g.D.Disk.content g.D.Disk.fault_count g.D.Disk.moment g.D.Disk.images (record { disk = d; takes = s.takes; memory = record m { books = b } }))) (sym new_disk) kept in
    subst (λ (x : Holding g.row.D.Denot). StoreKept (stand_of g.D.Disk.tells g.D.Disk.content g.D.Disk.fault_count g.D.Disk.moment g.D.Disk.images x) (Queue_all take request fs) (Refuses NoMemory) (stand_of g.D.Disk.tells g.D.Disk.content g.D.Disk.fault_count g.D.Disk.moment g.D.Disk.images (record { disk = new; takes = s.takes; memory = record m { books = b } }))) c.self.view_is there

pub invariant_of-self-in-Err-Full : goal.invariant_of-self-in-Err-Full
invariant_of-self-in-Err-Full g c =
    let s = c.self.inside in
    let m : Memory = record { books = s.books; given = s.given.items; parts = s.parts.items; staged = s.staged.items; drawn = s.drawn; last_staged = s.last_staged; seat = s.seat; last_given = s.last_given; fulls = s.fulls; broken = s.broken } in
    let fs = map entry_of c.args.files.now in
    let take = c.args.take in
    let request = c.args.answered in
    let whole : s.broken ≡ None = ap (λ (x : Holding g.row.D.Denot). x.memory.broken) c.self.view_is ∙ c.requires.whole in
    let is_new : IsNewBatch take request fs (state_of g.D.Disk.tells (g.D.Disk.content s.disk) (g.D.Disk.fault_count s.disk) m) = subst (λ (x : Holding g.row.D.Denot). IsNewBatch take request fs (stand_of g.D.Disk.tells g.D.Disk.content g.D.Disk.fault_count g.D.Disk.moment g.D.Disk.images x).state) (sym c.self.view_is) c.requires.batch in
    let ask = asked g.D.Disk.tells (g.D.Disk.content s.disk) (g.D.Disk.fault_count s.disk) m take request fs c.self.invariant.0.memory is_new in
    let q = s.books.folding.state.queue in
    let new = c.append_batch.new.disk in
    let b = c.append_batch.new.self in
    let new_disk : new ≡ s.disk = ⊎_elim (λ (e : c.in-Err-Full.field-0 ≡ DiskFault). absurd (let clash : FullFault ≡ DiskFault = sym c.in-Err-Full.field-0-is ∙ e in cc)) (λ e. e) c.in-Err-Full.ensures.untouched in
    let h = sound_same g.D.Disk.tells g.D.Disk.content g.D.Disk.moment g.D.Disk.images s.disk m b c.in-Err-Full.ensures.same c.append_batch.ensures.books c.self.invariant.0 in
    let counted : IsSound g.D.Disk.tells g.D.Disk.content g.D.Disk.moment g.D.Disk.images s.disk (record m { books = b; fulls = c.saturating_add-self-inside.result }) = record { memory = record { books = h.memory.books; orderly = h.memory.orderly; parts = h.memory.parts; marked = h.memory.marked; received = h.memory.received; numbers = h.memory.numbers; given = h.memory.given; staged = h.memory.staged; queued = h.memory.queued }; kept = λ still w now. let k = h.kept still w now in record { ledger = k.ledger; files = k.files; same = k.same }; bodies = λ still t. let x = h.bodies still t in record { parts = x.parts; staged = x.staged; given = x.given } } in
    (subst (λ d. IsSound g.D.Disk.tells g.D.Disk.content g.D.Disk.moment g.D.Disk.images d (record m { books = b; fulls = c.saturating_add-self-inside.result })) (sym new_disk) counted, c.self.invariant.1, kept_in s.kept s.given.items s.books b c.in-Err-Full.ensures.same.state c.self.invariant.2, λ still. same_takes s.takes g.D.Disk.tells (g.D.Disk.content s.disk) (g.D.Disk.content new) (g.D.Disk.fault_count s.disk) (g.D.Disk.fault_count new) m _ _ refl refl (ap (λ (x : State). x.takes) c.in-Err-Full.ensures.same.state) (λ t. ap (λ (d : g.row.D.Denot). takes_in (g.D.Disk.content d)) new_disk) (c.self.invariant.3 still))

pub returns-in-Err-Full-clause-kept : goal.returns-in-Err-Full-clause-kept
returns-in-Err-Full-clause-kept g c =
    let s = c.self.inside in
    let m : Memory = record { books = s.books; given = s.given.items; parts = s.parts.items; staged = s.staged.items; drawn = s.drawn; last_staged = s.last_staged; seat = s.seat; last_given = s.last_given; fulls = s.fulls; broken = s.broken } in
    let fs = map entry_of c.args.files.now in
    let take = c.args.take in
    let request = c.args.answered in
    let whole : s.broken ≡ None = ap (λ (x : Holding g.row.D.Denot). x.memory.broken) c.self.view_is ∙ c.requires.whole in
    let is_new : IsNewBatch take request fs (state_of g.D.Disk.tells (g.D.Disk.content s.disk) (g.D.Disk.fault_count s.disk) m) = subst (λ (x : Holding g.row.D.Denot). IsNewBatch take request fs (stand_of g.D.Disk.tells g.D.Disk.content g.D.Disk.fault_count g.D.Disk.moment g.D.Disk.images x).state) (sym c.self.view_is) c.requires.batch in
    let ask = asked g.D.Disk.tells (g.D.Disk.content s.disk) (g.D.Disk.fault_count s.disk) m take request fs c.self.invariant.0.memory is_new in
    let q = s.books.folding.state.queue in
    let queue : c.folded.result.now.state.queue ≡ q = ap (λ f. f.state.queue) c.folded.ensures in
    let files = map new_file c.in-Ok.plan.fresh.items in
    let fresh : files ≡ fresh_in fs q = c.in-Ok.ensures.fresh ∙ ap (fresh_in fs) queue in
    let rs = batch_of take request fs q in
    let same_records : queue_records files ++ taken_records take ++ answered_records request ≡ rs = ap (λ l. queue_records l ++ taken_records take ++ answered_records request) fresh in
    let new = c.append_batch.new.disk in
    let b = c.append_batch.new.self in
    let payloads = lists c.as_slice.result.now in
    let text : payloads ≡ map spelling rs = ap lists c.as_slice.ensures.value ∙ c.in-Ok.ensures.payloads ∙ ap (map spelling) same_records in
    let count : length c.as_slice.result.now ≡ length (map spelling rs) = sym (length-map c.as_slice.result.now (λ x. x.list)) ∙ ap length text in
    let new_disk : new ≡ s.disk = ⊎_elim (λ (e : c.in-Err-Full.field-0 ≡ DiskFault). absurd (let clash : FullFault ≡ DiskFault = sym c.in-Err-Full.field-0-is ∙ e in cc)) (λ e. e) c.in-Err-Full.ensures.untouched in
    let fulls : c.saturating_add-self-inside.result ≡ next_count s.fulls = search rules in
    let over = c.append_batch.ensures.full.0 (c.in-Err-Full.is ∙ ap Err c.in-Err-Full.field-0-is) in
    let wanted = count_is g.D.Disk.tells (g.D.Disk.content s.disk) (g.D.Disk.fault_count s.disk) m take request fs ask.put in
    let m' : Memory = record m { books = b; fulls = c.saturating_add-self-inside.result } in
    let kept = still_call g.D.Disk.tells g.D.Disk.content g.D.Disk.fault_count g.D.Disk.moment g.D.Disk.images s.disk m m' (Queue_all take request fs) (Refuses Full) c.self.invariant.0.memory.books.folds c.self.invariant.0.kept (ap shelf_of (same_stored (g.D.Disk.content s.disk) m b c.in-Err-Full.ensures.same)) (
      omega (arith, over, wanted, count),
      places_told g.D.Disk.tells (g.D.Disk.content s.disk) (g.D.Disk.fault_count s.disk) (record m { fulls = c.saturating_add-self-inside.result }) b s.books.reserved c.in-Err-Full.ensures.same c.in-Err-Full.ensures.unreserved
          ∙ ap (λ (n : ℕ). record (state_of g.D.Disk.tells (g.D.Disk.content s.disk) (g.D.Disk.fault_count s.disk) m) { counts = record { faults = g.D.Disk.fault_count s.disk; fulls = n; broken = s.broken } }) fulls,
    ) in
    let there = subst (λ d. StoreKept (stand_of g.D.Disk.tells g.D.Disk.content g.D.Disk.fault_count g.D.Disk.moment g.D.Disk.images (record { disk = s.disk; takes = s.takes; memory = m })) (Queue_all take request fs) (Refuses Full) (stand_of g.D.Disk.tells g.D.Disk.content g.D.Disk.fault_count g.D.Disk.moment g.D.Disk.images (record { disk = d; takes = s.takes; memory = m' }))) (sym new_disk) kept in
    subst (λ (x : Holding g.row.D.Denot). StoreKept (stand_of g.D.Disk.tells g.D.Disk.content g.D.Disk.fault_count g.D.Disk.moment g.D.Disk.images x) (Queue_all take request fs) (Refuses Full) (stand_of g.D.Disk.tells g.D.Disk.content g.D.Disk.fault_count g.D.Disk.moment g.D.Disk.images (record { disk = new; takes = s.takes; memory = m' }))) c.self.view_is there

pub invariant_of-self-in-Err-Disk : goal.invariant_of-self-in-Err-Disk
invariant_of-self-in-Err-Disk g c =
    let s = c.self.inside in
    let m : Memory = record { books = s.books; given = s.given.items; parts = s.parts.items; staged = s.staged.items; drawn = s.drawn; last_staged = s.last_staged; seat = s.seat; last_given = s.last_given; fulls = s.fulls; broken = s.broken } in
    let fs = map entry_of c.args.files.now in
    let take = c.args.take in
    let request = c.args.answered in
    let whole : s.broken ≡ None = ap (λ (x : Holding g.row.D.Denot). x.memory.broken) c.self.view_is ∙ c.requires.whole in
    let is_new : IsNewBatch take request fs (state_of g.D.Disk.tells (g.D.Disk.content s.disk) (g.D.Disk.fault_count s.disk) m) = subst (λ (x : Holding g.row.D.Denot). IsNewBatch take request fs (stand_of g.D.Disk.tells g.D.Disk.content g.D.Disk.fault_count g.D.Disk.moment g.D.Disk.images x).state) (sym c.self.view_is) c.requires.batch in
    let ask = asked g.D.Disk.tells (g.D.Disk.content s.disk) (g.D.Disk.fault_count s.disk) m take request fs c.self.invariant.0.memory is_new in
    let q = s.books.folding.state.queue in
    let new = c.append_batch.new.disk in
    let b = c.append_batch.new.self in
    let h = sound_same g.D.Disk.tells g.D.Disk.content g.D.Disk.moment g.D.Disk.images s.disk m b c.in-Err-Disk.ensures.same c.append_batch.ensures.books c.self.invariant.0 in
    (broken_sound g.D.Disk.tells g.D.Disk.content g.D.Disk.moment g.D.Disk.images new (record m { books = b }) c.faults.result h.memory, c.self.invariant.1, kept_in s.kept s.given.items s.books b c.in-Err-Disk.ensures.same.state c.self.invariant.2, λ still. none_some (sym still))

pub returns-clause-kept : goal.returns-clause-kept
returns-clause-kept g c =
    let s = c.self.inside in
    let m : Memory = record { books = s.books; given = s.given.items; parts = s.parts.items; staged = s.staged.items; drawn = s.drawn; last_staged = s.last_staged; seat = s.seat; last_given = s.last_given; fulls = s.fulls; broken = s.broken } in
    let fs = map entry_of c.args.files.now in
    let take = c.args.take in
    let request = c.args.answered in
    let whole : s.broken ≡ None = ap (λ (x : Holding g.row.D.Denot). x.memory.broken) c.self.view_is ∙ c.requires.whole in
    let is_new : IsNewBatch take request fs (state_of g.D.Disk.tells (g.D.Disk.content s.disk) (g.D.Disk.fault_count s.disk) m) = subst (λ (x : Holding g.row.D.Denot). IsNewBatch take request fs (stand_of g.D.Disk.tells g.D.Disk.content g.D.Disk.fault_count g.D.Disk.moment g.D.Disk.images x).state) (sym c.self.view_is) c.requires.batch in
    let ask = asked g.D.Disk.tells (g.D.Disk.content s.disk) (g.D.Disk.fault_count s.disk) m take request fs c.self.invariant.0.memory is_new in
    let q = s.books.folding.state.queue in
    let queue : c.folded.result.now.state.queue ≡ q = ap (λ f. f.state.queue) c.folded.ensures in
    let files = map new_file c.in-Ok.plan.fresh.items in
    let fresh : files ≡ fresh_in fs q = c.in-Ok.ensures.fresh ∙ ap (fresh_in fs) queue in
    let rs = batch_of take request fs q in
    let same_records : queue_records files ++ taken_records take ++ answered_records request ≡ rs = ap (λ l. queue_records l ++ taken_records take ++ answered_records request) fresh in
    let new = c.append_batch.new.disk in
    let b = c.append_batch.new.self in
    let payloads = lists c.as_slice.result.now in
    let text : payloads ≡ map spelling rs = ap lists c.as_slice.ensures.value ∙ c.in-Ok.ensures.payloads ∙ ap (map spelling) same_records in
    let count : length c.as_slice.result.now ≡ length (map spelling rs) = sym (length-map c.as_slice.result.now (λ x. x.list)) ∙ ap length text in
    let records = subst AreRecords same_records c.in-Ok.ensures.numbers in
    let only = only_content g.D.Disk.tells g.D.Disk.content g.D.Disk.files ledger_name s.disk new g.met.D.Disk.reads g.met.D.Disk.told c.append_batch.ensures.read in
    let run = subst (λ (l : List NewFileText). Leaves g.D.Disk.moment g.D.Disk.images (Adds (AllSynced (g.D.Disk.files s.disk) l) s.books.payloads (map spelling rs)) s.disk new) fresh
    (subst (λ (l : List (List ℕ)). Leaves g.D.Disk.moment g.D.Disk.images (Adds (AllSynced (g.D.Disk.files s.disk) files) s.books.payloads l) s.disk new) text c.append_batch.ensures.stop) in
    let few : length s.books.payloads + s.books.reserved + length c.as_slice.result.now ≤ 262144 = (let no : ((262144 < length s.books.payloads + s.books.reserved + length c.as_slice.result.now) → ⊥) = λ over. (let clash : Err DiskFault ≡ Err FullFault = sym (c.in-Err-Disk.is ∙ ap Err c.in-Err-Disk.field-0-is) ∙ c.append_batch.ensures.full.1 over in cc clash) in omega (arith, no)) in
    let room : length s.books.payloads + s.books.reserved + length (map spelling rs) ≤ MOST_RECORDS = omega (arith, few, count) in
    let failed = queue_failed g.D.Disk.tells g.D.Disk.content g.D.Disk.files g.D.Disk.fault_count g.D.Disk.moment g.D.Disk.images s.disk new m take request fs c.self.invariant.0 whole g.met.D.Disk.reads ask records c.more_records_fold_on.ensures run only room (c.append_batch.ensures.failed (c.in-Err-Disk.is ∙ ap Err c.in-Err-Disk.field-0-is)) in
    let m' : (ℕ → Memory) = λ k. record m { broken = Some k } in
    let booked = subst (λ (st : StoreState). StoreKept (stand_of g.D.Disk.tells g.D.Disk.content g.D.Disk.fault_count g.D.Disk.moment g.D.Disk.images (record { disk = s.disk; takes = s.takes; memory = m })) (Queue_all take request fs) (Refuses Disk) (record { state = st; moment = g.D.Disk.moment new; images = left_of g.D.Disk.tells (g.D.Disk.images new) }))
    (sym (places_told g.D.Disk.tells (g.D.Disk.content new) (g.D.Disk.fault_count new) (m' (g.D.Disk.fault_count new)) b s.books.reserved c.in-Err-Disk.ensures.same c.in-Err-Disk.ensures.unreserved)) failed in
    let counted = subst (λ (k : ℕ). StoreKept (stand_of g.D.Disk.tells g.D.Disk.content g.D.Disk.fault_count g.D.Disk.moment g.D.Disk.images (record { disk = s.disk; takes = s.takes; memory = m })) (Queue_all take request fs) (Refuses Disk) (stand_of g.D.Disk.tells g.D.Disk.content g.D.Disk.fault_count g.D.Disk.moment g.D.Disk.images (record { disk = new; takes = s.takes; memory = record m { books = b; broken = Some k } }))) (sym c.faults.ensures) booked in
    subst (λ (x : Holding g.row.D.Denot). StoreKept (stand_of g.D.Disk.tells g.D.Disk.content g.D.Disk.fault_count g.D.Disk.moment g.D.Disk.images x) (Queue_all take request fs) (Refuses Disk) (stand_of g.D.Disk.tells g.D.Disk.content g.D.Disk.fault_count g.D.Disk.moment g.D.Disk.images (record { disk = new; takes = s.takes; memory = record m { books = b; broken = Some c.faults.result } }))) c.self.view_is counted
