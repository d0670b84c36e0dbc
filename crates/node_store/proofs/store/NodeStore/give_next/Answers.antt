use Rattle.std.proofs.Common.{◌≡◌, ◌<◌, ◌^◌, ℕ, List, [], ◌∷◌, ◌++◌, Some, None, Ok, Err, map, refl, sym, ◌∙◌, ap, subst, rules}
use Rattle.disk_model.specs.Changes.{Every, Stands}
use Rattle.file_index.specs.Sets.{Kept}
use Rattle.ledger_rec.specs.Fold.{is_among}
use Rattle.ledger_rec.specs.Items.{receipt}
use Rattle.node_model.specs.declared.store.Gave.TheVariants as G
use Rattle.node_model.specs.declared.store.StoreFault.TheVariants.{Disk, NoMemory}
use Rattle.node_model.specs.Outside.{inbound_for, plain_name, numbered_name}
use Rattle.node_model.specs.SendRows.{NextGiven}
use Rattle.node_model.specs.Stores.{StoreKept, Give_next, Gave_so, Refuses}
use Rattle.node_store.specs.Contents.{Contents, receipt_by}
use Rattle.node_store.specs.Gifts.{GivesAs}
use Rattle.node_store.specs.Giving.{NextToGive, is_kept}
use Rattle.node_store.specs.Names.{in_name}
use Rattle.node_store.specs.Stored.{Holding, Memory, IsSound, sizes_in, stand_of}
use Rattle.node_store.proofs.Calls.{still_call}
use Rattle.node_store.proofs.GiveAs.{gives_by}
use Rattle.node_store.proofs.GiveCall.{IsNext, stands_next, next_found, found_there}
use Rattle.node_store.proofs.GivenFiles.{flags_listed}
use Rattle.node_store.proofs.GivenKept.{kept_given}
use Rattle.node_store.proofs.HeldCall.{given_answer, held_answer, give_failed, failed_sound}
use Rattle.node_store.proofs.Known.{none_received}
use Rattle.node_model.proofs.Lists.{none_some}
use Rattle.node_store.proofs.HeldTakes.{given_takes, held_takes, same_takes}
use Rattle.node_store.specs.Stored.{state_of}
use Rattle.node_store.proofs.store.NodeStore.give_next.Goals as goal

pub returns-in_default : goal.returns-in_default
returns-in_default g c =
    let s = c.self.inside in
    let m : Memory = record { books = s.books; given = s.given.items; parts = s.parts.items; staged = s.staged.items; drawn = s.drawn; last_staged = s.last_staged; seat = s.seat; last_given = s.last_given; fulls = s.fulls; broken = s.broken } in
    let whole : s.broken ≡ None = ap (λ (x : Holding g.row.D.Denot). x.memory.broken) c.self.view_is ∙ c.requires in
    let inbound = c.args.inbound.now.list in
    let nonsecure = c.args.nonsecure.now.list in
    let cs = sizes_in g.D.Disk.tells (g.D.Disk.content s.disk) s.given.items in
    let listed = flags_listed g.D.Disk.tells (g.D.Disk.content s.disk) s.given.items (λ t. (c.self.invariant.0.bodies whole t).given) in
    let none = subst (λ (x : Holding g.row.D.Denot). (c' : Contents ℕ) → c'.given ≡ (λ k. is_among k x.memory.given) → NextToGive x.memory.last_given (map (receipt_by c') x.memory.books.folding.state.inbox) None) (sym c.self.view_is) c.in_default.ensures cs listed in
    let still = still_call g.D.Disk.tells g.D.Disk.content g.D.Disk.fault_count g.D.Disk.moment g.D.Disk.images s.disk m m (Give_next inbound nonsecure) (Gave_so G.Nothing) c.self.invariant.0.memory.books.folds c.self.invariant.0.kept refl (none, refl) in
    subst (λ (x : Holding g.row.D.Denot). StoreKept (stand_of g.D.Disk.tells g.D.Disk.content g.D.Disk.fault_count g.D.Disk.moment g.D.Disk.images x) (Give_next inbound nonsecure) (Gave_so G.Nothing) (stand_of g.D.Disk.tells g.D.Disk.content g.D.Disk.fault_count g.D.Disk.moment g.D.Disk.images x)) c.self.view_is still

pub receipt_of-item-requires-clause-none : goal.receipt_of-item-requires-clause-none
receipt_of-item-requires-clause-none g c = none_received c.in-Some.number c.inbox_start.result c.inbox.result.now c.folded-folded.result.now.state.inbox c.inbox.ensures c.inbox_start.ensures.none

pub receipt_of-item-requires-clause-there : goal.receipt_of-item-requires-clause-there
receipt_of-item-requires-clause-there g c =
    let s = c.self.inside in
    let m : Memory = record { books = s.books; given = s.given.items; parts = s.parts.items; staged = s.staged.items; drawn = s.drawn; last_staged = s.last_staged; seat = s.seat; last_given = s.last_given; fulls = s.fulls; broken = s.broken } in
    let whole : s.broken ≡ None = ap (λ (x : Holding g.row.D.Denot). x.memory.broken) c.self.view_is ∙ c.requires in
    let inbound = c.args.inbound.now.list in
    let nonsecure = c.args.nonsecure.now.list in
    let cs = sizes_in g.D.Disk.tells (g.D.Disk.content s.disk) s.given.items in
    let listed = flags_listed g.D.Disk.tells (g.D.Disk.content s.disk) s.given.items (λ t. (c.self.invariant.0.bodies whole t).given) in
    let n = c.in-Some.number in
    let next : NextGiven n s.last_given (map (receipt_by cs) s.books.folding.state.inbox) =
    subst (λ (x : Holding g.row.D.Denot). (c' : Contents ℕ) → c'.given ≡ (λ k. is_among k x.memory.given) → NextToGive x.memory.last_given (map (receipt_by c') x.memory.books.folding.state.inbox) (Some n)) (sym c.self.view_is) c.in-Some.ensures cs listed in
    let items : map receipt c.inbox.result.now ≡ s.books.folding.state.inbox = c.inbox.ensures ∙ ap (λ f. f.state.inbox) c.folded-folded.ensures in
    next_found cs n s.last_given c.inbox.result.now s.books.folding.state.inbox items next

pub returns-in_default-make_ready : goal.returns-in_default-make_ready
returns-in_default-make_ready g c =
    let s = c.self.inside in
    let m : Memory = record { books = s.books; given = s.given.items; parts = s.parts.items; staged = s.staged.items; drawn = s.drawn; last_staged = s.last_staged; seat = s.seat; last_given = s.last_given; fulls = s.fulls; broken = s.broken } in
    let whole : s.broken ≡ None = ap (λ (x : Holding g.row.D.Denot). x.memory.broken) c.self.view_is ∙ c.requires in
    let inbound = c.args.inbound.now.list in
    let nonsecure = c.args.nonsecure.now.list in
    let cs = sizes_in g.D.Disk.tells (g.D.Disk.content s.disk) s.given.items in
    let listed = flags_listed g.D.Disk.tells (g.D.Disk.content s.disk) s.given.items (λ t. (c.self.invariant.0.bodies whole t).given) in
    let still = still_call g.D.Disk.tells g.D.Disk.content g.D.Disk.fault_count g.D.Disk.moment g.D.Disk.images s.disk m m (Give_next inbound nonsecure) (Refuses NoMemory) c.self.invariant.0.memory.books.folds c.self.invariant.0.kept refl (tt, refl) in
    subst (λ (x : Holding g.row.D.Denot). StoreKept (stand_of g.D.Disk.tells g.D.Disk.content g.D.Disk.fault_count g.D.Disk.moment g.D.Disk.images x) (Give_next inbound nonsecure) (Refuses NoMemory) (stand_of g.D.Disk.tells g.D.Disk.content g.D.Disk.fault_count g.D.Disk.moment g.D.Disk.images (record { disk = s.disk; takes = s.takes; memory = record { books = s.books; given = c.make_ready.new.given.items; parts = s.parts.items; staged = s.staged.items; drawn = s.drawn; last_staged = s.last_staged; seat = s.seat; last_given = s.last_given; fulls = s.fulls; broken = s.broken } }))) c.self.view_is
    (subst (λ (l : List ℕ). StoreKept (stand_of g.D.Disk.tells g.D.Disk.content g.D.Disk.fault_count g.D.Disk.moment g.D.Disk.images (record { disk = s.disk; takes = s.takes; memory = m })) (Give_next inbound nonsecure) (Refuses NoMemory) (stand_of g.D.Disk.tells g.D.Disk.content g.D.Disk.fault_count g.D.Disk.moment g.D.Disk.images (record { disk = s.disk; takes = s.takes; memory = record m { given = l } }))) (sym c.make_ready.ensures.same) still)

pub give_as-requires : goal.give_as-requires
give_as-requires g c =
    let s = c.self.inside in
    let m : Memory = record { books = s.books; given = s.given.items; parts = s.parts.items; staged = s.staged.items; drawn = s.drawn; last_staged = s.last_staged; seat = s.seat; last_given = s.last_given; fulls = s.fulls; broken = s.broken } in
    let whole : s.broken ≡ None = ap (λ (x : Holding g.row.D.Denot). x.memory.broken) c.self.view_is ∙ c.requires in
    let inbound = c.args.inbound.now.list in
    let nonsecure = c.args.nonsecure.now.list in
    let cs = sizes_in g.D.Disk.tells (g.D.Disk.content s.disk) s.given.items in
    let listed = flags_listed g.D.Disk.tells (g.D.Disk.content s.disk) s.given.items (λ t. (c.self.invariant.0.bodies whole t).given) in
    let n = c.in-Some.number in
    let next : NextGiven n s.last_given (map (receipt_by cs) s.books.folding.state.inbox) =
    subst (λ (x : Holding g.row.D.Denot). (c' : Contents ℕ) → c'.given ≡ (λ k. is_among k x.memory.given) → NextToGive x.memory.last_given (map (receipt_by c') x.memory.books.folding.state.inbox) (Some n)) (sym c.self.view_is) c.in-Some.ensures cs listed in
    let items : map receipt c.inbox.result.now ≡ s.books.folding.state.inbox = c.inbox.ensures ∙ ap (λ f. f.state.inbox) c.folded-folded.ensures in
    let item = c.receipt_of-item.result.now in
    let there = found_there n item c.inbox.result.now s.books.folding.state.inbox items c.receipt_of-item.ensures in
    let small : n < 2 ^ 32 = search rules in
    let p : IsNext g.D.Disk.tells g.D.Disk.content g.D.Disk.files g.D.Disk.moment g.D.Disk.images s.disk m n (receipt item) =
    record { sound = c.self.invariant.0; whole = whole; as_read = g.met.D.Disk.as_read; reads = g.met.D.Disk.reads; told = g.met.D.Disk.told; next = next; small = small; there = there.0; numbered = there.1 } in
    subst (λ (k : List ℕ). Every (g.D.Disk.files s.disk) (Stands k 0)) (sym c.in_file.ensures) (stands_next g.D.Disk.tells g.D.Disk.content g.D.Disk.files g.D.Disk.moment g.D.Disk.images s.disk m n (receipt item) p)

pub invariant_of-self-in-Ok-Given : goal.invariant_of-self-in-Ok-Given
invariant_of-self-in-Ok-Given g c =
    let s = c.self.inside in
    let m : Memory = record { books = s.books; given = s.given.items; parts = s.parts.items; staged = s.staged.items; drawn = s.drawn; last_staged = s.last_staged; seat = s.seat; last_given = s.last_given; fulls = s.fulls; broken = s.broken } in
    let whole : s.broken ≡ None = ap (λ (x : Holding g.row.D.Denot). x.memory.broken) c.self.view_is ∙ c.requires in
    let inbound = c.args.inbound.now.list in
    let nonsecure = c.args.nonsecure.now.list in
    let cs = sizes_in g.D.Disk.tells (g.D.Disk.content s.disk) s.given.items in
    let listed = flags_listed g.D.Disk.tells (g.D.Disk.content s.disk) s.given.items (λ t. (c.self.invariant.0.bodies whole t).given) in
    let n = c.in-Some.number in
    let next : NextGiven n s.last_given (map (receipt_by cs) s.books.folding.state.inbox) =
    subst (λ (x : Holding g.row.D.Denot). (c' : Contents ℕ) → c'.given ≡ (λ k. is_among k x.memory.given) → NextToGive x.memory.last_given (map (receipt_by c') x.memory.books.folding.state.inbox) (Some n)) (sym c.self.view_is) c.in-Some.ensures cs listed in
    let items : map receipt c.inbox.result.now ≡ s.books.folding.state.inbox = c.inbox.ensures ∙ ap (λ f. f.state.inbox) c.folded-folded.ensures in
    let item = c.receipt_of-item.result.now in
    let there = found_there n item c.inbox.result.now s.books.folding.state.inbox items c.receipt_of-item.ensures in
    let small : n < 2 ^ 32 = search rules in
    let p : IsNext g.D.Disk.tells g.D.Disk.content g.D.Disk.files g.D.Disk.moment g.D.Disk.images s.disk m n (receipt item) =
    record { sound = c.self.invariant.0; whole = whole; as_read = g.met.D.Disk.as_read; reads = g.met.D.Disk.reads; told = g.met.D.Disk.told; next = next; small = small; there = there.0; numbered = there.1 } in
    let new = c.give_as.new.disk in
    let named = c.as_slice.ensures in
    let gives : GivesAs g.D.Disk.files g.D.Disk.moment g.D.Disk.images (Ok c.in-Ok-Given.field-0) (in_name n) (inbound_for item.secure inbound nonsecure) (plain_name item.key.name.list) (numbered_name n item.key.name.list) s.disk new =
    gives_by g.D.Disk.files g.D.Disk.moment g.D.Disk.images (Ok c.in-Ok-Given.field-0) s.disk new c.in_file.result (in_name n) c.folder_for-folder.result.now.list (inbound_for item.secure inbound nonsecure) c.in-Ok.names.plain.list (plain_name item.key.name.list) c.in-Ok.names.numbered.list (numbered_name n item.key.name.list)
    c.in_file.ensures c.folder_for-folder.ensures (c.in-Ok.ensures.plain ∙ ap plain_name named) (c.in-Ok.ensures.numbered ∙ ap (numbered_name n) named) c.in-Ok-Given.ensures.gives in
    let noted : s.given.items ++ n ∷ [] ≡ c.note_given.new.given.items = ap (λ (l : List ℕ). l ++ n ∷ []) (sym c.make_ready.ensures.same) ∙ sym c.note_given.ensures.given in
    let kept = subst (λ (l : List ℕ). Kept c.note_given.new.kept (is_kept l s.books.folding.state.inbox)) noted (kept_given c.note_given.new.kept s.given.items s.books.folding.state.inbox n (c.note_given.ensures.kept (is_kept s.given.items s.books.folding.state.inbox) c.self.invariant.2)) in
    let answer = given_answer g.D.Disk.tells g.D.Disk.content g.D.Disk.files g.D.Disk.fault_count g.D.Disk.moment g.D.Disk.images s.disk new m n (receipt item) inbound nonsecure (Ok c.in-Ok-Given.field-0) p gives (ap Ok c.in-Ok-Given.field-0-is) c.in-Ok-Given.ensures.cause.calm in
    (subst (λ (l : List ℕ). IsSound g.D.Disk.tells g.D.Disk.content g.D.Disk.moment g.D.Disk.images new (record m { given = l; last_given = n })) noted answer.1, c.self.invariant.1, kept, λ still. same_takes s.takes g.D.Disk.tells (g.D.Disk.content new) (g.D.Disk.content new) (g.D.Disk.fault_count new) (g.D.Disk.fault_count new) (record m { given = s.given.items ++ n ∷ []; last_given = n }) _ _ refl refl refl (λ t. refl) (given_takes s.takes answer.0.made.gift answer.0.made.time (state_of g.D.Disk.tells (g.D.Disk.content s.disk) (g.D.Disk.fault_count s.disk) (m)) (state_of g.D.Disk.tells (g.D.Disk.content new) (g.D.Disk.fault_count new) (record m { given = s.given.items ++ n ∷ []; last_given = n })) answer.0.made.after (c.self.invariant.3 still)))

pub returns-in-Ok-Given : goal.returns-in-Ok-Given
returns-in-Ok-Given g c =
    let s = c.self.inside in
    let m : Memory = record { books = s.books; given = s.given.items; parts = s.parts.items; staged = s.staged.items; drawn = s.drawn; last_staged = s.last_staged; seat = s.seat; last_given = s.last_given; fulls = s.fulls; broken = s.broken } in
    let whole : s.broken ≡ None = ap (λ (x : Holding g.row.D.Denot). x.memory.broken) c.self.view_is ∙ c.requires in
    let inbound = c.args.inbound.now.list in
    let nonsecure = c.args.nonsecure.now.list in
    let cs = sizes_in g.D.Disk.tells (g.D.Disk.content s.disk) s.given.items in
    let listed = flags_listed g.D.Disk.tells (g.D.Disk.content s.disk) s.given.items (λ t. (c.self.invariant.0.bodies whole t).given) in
    let n = c.in-Some.number in
    let next : NextGiven n s.last_given (map (receipt_by cs) s.books.folding.state.inbox) =
    subst (λ (x : Holding g.row.D.Denot). (c' : Contents ℕ) → c'.given ≡ (λ k. is_among k x.memory.given) → NextToGive x.memory.last_given (map (receipt_by c') x.memory.books.folding.state.inbox) (Some n)) (sym c.self.view_is) c.in-Some.ensures cs listed in
    let items : map receipt c.inbox.result.now ≡ s.books.folding.state.inbox = c.inbox.ensures ∙ ap (λ f. f.state.inbox) c.folded-folded.ensures in
    let item = c.receipt_of-item.result.now in
    let there = found_there n item c.inbox.result.now s.books.folding.state.inbox items c.receipt_of-item.ensures in
    let small : n < 2 ^ 32 = search rules in
    let p : IsNext g.D.Disk.tells g.D.Disk.content g.D.Disk.files g.D.Disk.moment g.D.Disk.images s.disk m n (receipt item) =
    record { sound = c.self.invariant.0; whole = whole; as_read = g.met.D.Disk.as_read; reads = g.met.D.Disk.reads; told = g.met.D.Disk.told; next = next; small = small; there = there.0; numbered = there.1 } in
    let new = c.give_as.new.disk in
    let named = c.as_slice.ensures in
    let gives : GivesAs g.D.Disk.files g.D.Disk.moment g.D.Disk.images (Ok c.in-Ok-Given.field-0) (in_name n) (inbound_for item.secure inbound nonsecure) (plain_name item.key.name.list) (numbered_name n item.key.name.list) s.disk new =
    gives_by g.D.Disk.files g.D.Disk.moment g.D.Disk.images (Ok c.in-Ok-Given.field-0) s.disk new c.in_file.result (in_name n) c.folder_for-folder.result.now.list (inbound_for item.secure inbound nonsecure) c.in-Ok.names.plain.list (plain_name item.key.name.list) c.in-Ok.names.numbered.list (numbered_name n item.key.name.list)
    c.in_file.ensures c.folder_for-folder.ensures (c.in-Ok.ensures.plain ∙ ap plain_name named) (c.in-Ok.ensures.numbered ∙ ap (numbered_name n) named) c.in-Ok-Given.ensures.gives in
    let noted : s.given.items ++ n ∷ [] ≡ c.note_given.new.given.items = ap (λ (l : List ℕ). l ++ n ∷ []) (sym c.make_ready.ensures.same) ∙ sym c.note_given.ensures.given in
    let kept = subst (λ (l : List ℕ). Kept c.note_given.new.kept (is_kept l s.books.folding.state.inbox)) noted (kept_given c.note_given.new.kept s.given.items s.books.folding.state.inbox n (c.note_given.ensures.kept (is_kept s.given.items s.books.folding.state.inbox) c.self.invariant.2)) in
    let answer = given_answer g.D.Disk.tells g.D.Disk.content g.D.Disk.files g.D.Disk.fault_count g.D.Disk.moment g.D.Disk.images s.disk new m n (receipt item) inbound nonsecure (Ok c.in-Ok-Given.field-0) p gives (ap Ok c.in-Ok-Given.field-0-is) c.in-Ok-Given.ensures.cause.calm in
    subst (λ (x : Holding g.row.D.Denot). StoreKept (stand_of g.D.Disk.tells g.D.Disk.content g.D.Disk.fault_count g.D.Disk.moment g.D.Disk.images x) (Give_next inbound nonsecure) (Gave_so (G.Given n)) (stand_of g.D.Disk.tells g.D.Disk.content g.D.Disk.fault_count g.D.Disk.moment g.D.Disk.images (record { disk = new; takes = s.takes; memory = record { books = s.books; given = c.note_given.new.given.items; parts = s.parts.items; staged = s.staged.items; drawn = s.drawn; last_staged = s.last_staged; seat = s.seat; last_given = n; fulls = s.fulls; broken = s.broken } }))) c.self.view_is
    (subst (λ (l : List ℕ). StoreKept (stand_of g.D.Disk.tells g.D.Disk.content g.D.Disk.fault_count g.D.Disk.moment g.D.Disk.images (record { disk = s.disk; takes = s.takes; memory = m })) (Give_next inbound nonsecure) (Gave_so (G.Given n)) (stand_of g.D.Disk.tells g.D.Disk.content g.D.Disk.fault_count g.D.Disk.moment g.D.Disk.images (record { disk = new; takes = s.takes; memory = record m { given = l; last_given = n } }))) noted answer.0)

pub invariant_of-self-in-Ok-Taken : goal.invariant_of-self-in-Ok-Taken
invariant_of-self-in-Ok-Taken g c =
    let s = c.self.inside in
    let m : Memory = record { books = s.books; given = s.given.items; parts = s.parts.items; staged = s.staged.items; drawn = s.drawn; last_staged = s.last_staged; seat = s.seat; last_given = s.last_given; fulls = s.fulls; broken = s.broken } in
    let whole : s.broken ≡ None = ap (λ (x : Holding g.row.D.Denot). x.memory.broken) c.self.view_is ∙ c.requires in
    let inbound = c.args.inbound.now.list in
    let nonsecure = c.args.nonsecure.now.list in
    let cs = sizes_in g.D.Disk.tells (g.D.Disk.content s.disk) s.given.items in
    let listed = flags_listed g.D.Disk.tells (g.D.Disk.content s.disk) s.given.items (λ t. (c.self.invariant.0.bodies whole t).given) in
    let n = c.in-Some.number in
    let next : NextGiven n s.last_given (map (receipt_by cs) s.books.folding.state.inbox) =
    subst (λ (x : Holding g.row.D.Denot). (c' : Contents ℕ) → c'.given ≡ (λ k. is_among k x.memory.given) → NextToGive x.memory.last_given (map (receipt_by c') x.memory.books.folding.state.inbox) (Some n)) (sym c.self.view_is) c.in-Some.ensures cs listed in
    let items : map receipt c.inbox.result.now ≡ s.books.folding.state.inbox = c.inbox.ensures ∙ ap (λ f. f.state.inbox) c.folded-folded.ensures in
    let item = c.receipt_of-item.result.now in
    let there = found_there n item c.inbox.result.now s.books.folding.state.inbox items c.receipt_of-item.ensures in
    let small : n < 2 ^ 32 = search rules in
    let p : IsNext g.D.Disk.tells g.D.Disk.content g.D.Disk.files g.D.Disk.moment g.D.Disk.images s.disk m n (receipt item) =
    record { sound = c.self.invariant.0; whole = whole; as_read = g.met.D.Disk.as_read; reads = g.met.D.Disk.reads; told = g.met.D.Disk.told; next = next; small = small; there = there.0; numbered = there.1 } in
    let new = c.give_as.new.disk in
    let named = c.as_slice.ensures in
    let gives : GivesAs g.D.Disk.files g.D.Disk.moment g.D.Disk.images (Ok c.in-Ok-Taken.field-0) (in_name n) (inbound_for item.secure inbound nonsecure) (plain_name item.key.name.list) (numbered_name n item.key.name.list) s.disk new =
    gives_by g.D.Disk.files g.D.Disk.moment g.D.Disk.images (Ok c.in-Ok-Taken.field-0) s.disk new c.in_file.result (in_name n) c.folder_for-folder.result.now.list (inbound_for item.secure inbound nonsecure) c.in-Ok.names.plain.list (plain_name item.key.name.list) c.in-Ok.names.numbered.list (numbered_name n item.key.name.list)
    c.in_file.ensures c.folder_for-folder.ensures (c.in-Ok.ensures.plain ∙ ap plain_name named) (c.in-Ok.ensures.numbered ∙ ap (numbered_name n) named) c.in-Ok-Taken.ensures.gives in
    let answer = held_answer g.D.Disk.tells g.D.Disk.content g.D.Disk.files g.D.Disk.fault_count g.D.Disk.moment g.D.Disk.images s.disk new m n (receipt item) inbound nonsecure (Ok c.in-Ok-Taken.field-0) p gives (ap Ok c.in-Ok-Taken.field-0-is) c.in-Ok-Taken.ensures.cause.calm in
    (subst (λ (l : List ℕ). IsSound g.D.Disk.tells g.D.Disk.content g.D.Disk.moment g.D.Disk.images new (record m { given = l; last_given = n })) (sym c.make_ready.ensures.same) answer.1, c.self.invariant.1, subst (λ (l : List ℕ). Kept s.kept (is_kept l s.books.folding.state.inbox)) (sym c.make_ready.ensures.same) c.self.invariant.2, λ still. same_takes s.takes g.D.Disk.tells (g.D.Disk.content new) (g.D.Disk.content new) (g.D.Disk.fault_count new) (g.D.Disk.fault_count new) (record m { last_given = n }) _ _ refl refl refl (λ t. refl) (held_takes s.takes n (state_of g.D.Disk.tells (g.D.Disk.content s.disk) (g.D.Disk.fault_count s.disk) (m)) (state_of g.D.Disk.tells (g.D.Disk.content new) (g.D.Disk.fault_count new) (record m { last_given = n })) answer.0.made.after (c.self.invariant.3 still)))

pub returns-in-Ok-Taken : goal.returns-in-Ok-Taken
returns-in-Ok-Taken g c =
    let s = c.self.inside in
    let m : Memory = record { books = s.books; given = s.given.items; parts = s.parts.items; staged = s.staged.items; drawn = s.drawn; last_staged = s.last_staged; seat = s.seat; last_given = s.last_given; fulls = s.fulls; broken = s.broken } in
    let whole : s.broken ≡ None = ap (λ (x : Holding g.row.D.Denot). x.memory.broken) c.self.view_is ∙ c.requires in
    let inbound = c.args.inbound.now.list in
    let nonsecure = c.args.nonsecure.now.list in
    let cs = sizes_in g.D.Disk.tells (g.D.Disk.content s.disk) s.given.items in
    let listed = flags_listed g.D.Disk.tells (g.D.Disk.content s.disk) s.given.items (λ t. (c.self.invariant.0.bodies whole t).given) in
    let n = c.in-Some.number in
    let next : NextGiven n s.last_given (map (receipt_by cs) s.books.folding.state.inbox) =
    subst (λ (x : Holding g.row.D.Denot). (c' : Contents ℕ) → c'.given ≡ (λ k. is_among k x.memory.given) → NextToGive x.memory.last_given (map (receipt_by c') x.memory.books.folding.state.inbox) (Some n)) (sym c.self.view_is) c.in-Some.ensures cs listed in
    let items : map receipt c.inbox.result.now ≡ s.books.folding.state.inbox = c.inbox.ensures ∙ ap (λ f. f.state.inbox) c.folded-folded.ensures in
    let item = c.receipt_of-item.result.now in
    let there = found_there n item c.inbox.result.now s.books.folding.state.inbox items c.receipt_of-item.ensures in
    let small : n < 2 ^ 32 = search rules in
    let p : IsNext g.D.Disk.tells g.D.Disk.content g.D.Disk.files g.D.Disk.moment g.D.Disk.images s.disk m n (receipt item) =
    record { sound = c.self.invariant.0; whole = whole; as_read = g.met.D.Disk.as_read; reads = g.met.D.Disk.reads; told = g.met.D.Disk.told; next = next; small = small; there = there.0; numbered = there.1 } in
    let new = c.give_as.new.disk in
    let named = c.as_slice.ensures in
    let gives : GivesAs g.D.Disk.files g.D.Disk.moment g.D.Disk.images (Ok c.in-Ok-Taken.field-0) (in_name n) (inbound_for item.secure inbound nonsecure) (plain_name item.key.name.list) (numbered_name n item.key.name.list) s.disk new =
    gives_by g.D.Disk.files g.D.Disk.moment g.D.Disk.images (Ok c.in-Ok-Taken.field-0) s.disk new c.in_file.result (in_name n) c.folder_for-folder.result.now.list (inbound_for item.secure inbound nonsecure) c.in-Ok.names.plain.list (plain_name item.key.name.list) c.in-Ok.names.numbered.list (numbered_name n item.key.name.list)
    c.in_file.ensures c.folder_for-folder.ensures (c.in-Ok.ensures.plain ∙ ap plain_name named) (c.in-Ok.ensures.numbered ∙ ap (numbered_name n) named) c.in-Ok-Taken.ensures.gives in
    let answer = held_answer g.D.Disk.tells g.D.Disk.content g.D.Disk.files g.D.Disk.fault_count g.D.Disk.moment g.D.Disk.images s.disk new m n (receipt item) inbound nonsecure (Ok c.in-Ok-Taken.field-0) p gives (ap Ok c.in-Ok-Taken.field-0-is) c.in-Ok-Taken.ensures.cause.calm in
    subst (λ (x : Holding g.row.D.Denot). StoreKept (stand_of g.D.Disk.tells g.D.Disk.content g.D.Disk.fault_count g.D.Disk.moment g.D.Disk.images x) (Give_next inbound nonsecure) (Gave_so (G.Held n)) (stand_of g.D.Disk.tells g.D.Disk.content g.D.Disk.fault_count g.D.Disk.moment g.D.Disk.images (record { disk = new; takes = s.takes; memory = record { books = s.books; given = c.make_ready.new.given.items; parts = s.parts.items; staged = s.staged.items; drawn = s.drawn; last_staged = s.last_staged; seat = s.seat; last_given = n; fulls = s.fulls; broken = s.broken } }))) c.self.view_is
    (subst (λ (l : List ℕ). StoreKept (stand_of g.D.Disk.tells g.D.Disk.content g.D.Disk.fault_count g.D.Disk.moment g.D.Disk.images (record { disk = s.disk; takes = s.takes; memory = m })) (Give_next inbound nonsecure) (Gave_so (G.Held n)) (stand_of g.D.Disk.tells g.D.Disk.content g.D.Disk.fault_count g.D.Disk.moment g.D.Disk.images (record { disk = new; takes = s.takes; memory = record m { given = l; last_given = n } }))) (sym c.make_ready.ensures.same) answer.0)

pub invariant_of-self-in-Err : goal.invariant_of-self-in-Err
invariant_of-self-in-Err g c =
    let s = c.self.inside in
    let m : Memory = record { books = s.books; given = s.given.items; parts = s.parts.items; staged = s.staged.items; drawn = s.drawn; last_staged = s.last_staged; seat = s.seat; last_given = s.last_given; fulls = s.fulls; broken = s.broken } in
    let whole : s.broken ≡ None = ap (λ (x : Holding g.row.D.Denot). x.memory.broken) c.self.view_is ∙ c.requires in
    let inbound = c.args.inbound.now.list in
    let nonsecure = c.args.nonsecure.now.list in
    let cs = sizes_in g.D.Disk.tells (g.D.Disk.content s.disk) s.given.items in
    let listed = flags_listed g.D.Disk.tells (g.D.Disk.content s.disk) s.given.items (λ t. (c.self.invariant.0.bodies whole t).given) in
    let n = c.in-Some.number in
    let next : NextGiven n s.last_given (map (receipt_by cs) s.books.folding.state.inbox) =
    subst (λ (x : Holding g.row.D.Denot). (c' : Contents ℕ) → c'.given ≡ (λ k. is_among k x.memory.given) → NextToGive x.memory.last_given (map (receipt_by c') x.memory.books.folding.state.inbox) (Some n)) (sym c.self.view_is) c.in-Some.ensures cs listed in
    let items : map receipt c.inbox.result.now ≡ s.books.folding.state.inbox = c.inbox.ensures ∙ ap (λ f. f.state.inbox) c.folded-folded.ensures in
    let item = c.receipt_of-item.result.now in
    let there = found_there n item c.inbox.result.now s.books.folding.state.inbox items c.receipt_of-item.ensures in
    let small : n < 2 ^ 32 = search rules in
    let p : IsNext g.D.Disk.tells g.D.Disk.content g.D.Disk.files g.D.Disk.moment g.D.Disk.images s.disk m n (receipt item) =
    record { sound = c.self.invariant.0; whole = whole; as_read = g.met.D.Disk.as_read; reads = g.met.D.Disk.reads; told = g.met.D.Disk.told; next = next; small = small; there = there.0; numbered = there.1 } in
    let new = c.give_as.new.disk in
    let named = c.as_slice.ensures in
    let gives : GivesAs g.D.Disk.files g.D.Disk.moment g.D.Disk.images (Err c.in-Err.field-0) (in_name n) (inbound_for item.secure inbound nonsecure) (plain_name item.key.name.list) (numbered_name n item.key.name.list) s.disk new =
    gives_by g.D.Disk.files g.D.Disk.moment g.D.Disk.images (Err c.in-Err.field-0) s.disk new c.in_file.result (in_name n) c.folder_for-folder.result.now.list (inbound_for item.secure inbound nonsecure) c.in-Ok.names.plain.list (plain_name item.key.name.list) c.in-Ok.names.numbered.list (numbered_name n item.key.name.list)
    c.in_file.ensures c.folder_for-folder.ensures (c.in-Ok.ensures.plain ∙ ap plain_name named) (c.in-Ok.ensures.numbered ∙ ap (numbered_name n) named) c.in-Err.ensures.gives in
    let noted : s.given.items ++ n ∷ [] ≡ c.note_given-in-Err.new.given.items = ap (λ (l : List ℕ). l ++ n ∷ []) (sym c.make_ready.ensures.same) ∙ sym c.note_given-in-Err.ensures.given in
    let kept = subst (λ (l : List ℕ). Kept c.note_given-in-Err.new.kept (is_kept l s.books.folding.state.inbox)) noted (kept_given c.note_given-in-Err.new.kept s.given.items s.books.folding.state.inbox n (c.note_given-in-Err.ensures.kept (is_kept s.given.items s.books.folding.state.inbox) c.self.invariant.2)) in
    let sound = failed_sound g.D.Disk.tells g.D.Disk.content g.D.Disk.files g.D.Disk.fault_count g.D.Disk.moment g.D.Disk.images s.disk new m n (receipt item) inbound nonsecure (Err c.in-Err.field-0) p gives in
    let counted = subst (λ (k : ℕ). IsSound g.D.Disk.tells g.D.Disk.content g.D.Disk.moment g.D.Disk.images new (record m { given = s.given.items ++ n ∷ []; broken = Some k })) (sym c.faults.ensures) sound in
    (subst (λ (l : List ℕ). IsSound g.D.Disk.tells g.D.Disk.content g.D.Disk.moment g.D.Disk.images new (record m { given = l; broken = Some c.faults.result })) noted counted, c.self.invariant.1, kept, λ still. none_some (sym still))

pub returns : goal.returns
returns g c =
    let s = c.self.inside in
    let m : Memory = record { books = s.books; given = s.given.items; parts = s.parts.items; staged = s.staged.items; drawn = s.drawn; last_staged = s.last_staged; seat = s.seat; last_given = s.last_given; fulls = s.fulls; broken = s.broken } in
    let whole : s.broken ≡ None = ap (λ (x : Holding g.row.D.Denot). x.memory.broken) c.self.view_is ∙ c.requires in
    let inbound = c.args.inbound.now.list in
    let nonsecure = c.args.nonsecure.now.list in
    let cs = sizes_in g.D.Disk.tells (g.D.Disk.content s.disk) s.given.items in
    let listed = flags_listed g.D.Disk.tells (g.D.Disk.content s.disk) s.given.items (λ t. (c.self.invariant.0.bodies whole t).given) in
    let n = c.in-Some.number in
    let next : NextGiven n s.last_given (map (receipt_by cs) s.books.folding.state.inbox) =
    subst (λ (x : Holding g.row.D.Denot). (c' : Contents ℕ) → c'.given ≡ (λ k. is_among k x.memory.given) → NextToGive x.memory.last_given (map (receipt_by c') x.memory.books.folding.state.inbox) (Some n)) (sym c.self.view_is) c.in-Some.ensures cs listed in
    let items : map receipt c.inbox.result.now ≡ s.books.folding.state.inbox = c.inbox.ensures ∙ ap (λ f. f.state.inbox) c.folded-folded.ensures in
    let item = c.receipt_of-item.result.now in
    let there = found_there n item c.inbox.result.now s.books.folding.state.inbox items c.receipt_of-item.ensures in
    let small : n < 2 ^ 32 = search rules in
    let p : IsNext g.D.Disk.tells g.D.Disk.content g.D.Disk.files g.D.Disk.moment g.D.Disk.images s.disk m n (receipt item) =
    record { sound = c.self.invariant.0; whole = whole; as_read = g.met.D.Disk.as_read; reads = g.met.D.Disk.reads; told = g.met.D.Disk.told; next = next; small = small; there = there.0; numbered = there.1 } in
    let new = c.give_as.new.disk in
    let named = c.as_slice.ensures in
    let gives : GivesAs g.D.Disk.files g.D.Disk.moment g.D.Disk.images (Err c.in-Err.field-0) (in_name n) (inbound_for item.secure inbound nonsecure) (plain_name item.key.name.list) (numbered_name n item.key.name.list) s.disk new =
    gives_by g.D.Disk.files g.D.Disk.moment g.D.Disk.images (Err c.in-Err.field-0) s.disk new c.in_file.result (in_name n) c.folder_for-folder.result.now.list (inbound_for item.secure inbound nonsecure) c.in-Ok.names.plain.list (plain_name item.key.name.list) c.in-Ok.names.numbered.list (numbered_name n item.key.name.list)
    c.in_file.ensures c.folder_for-folder.ensures (c.in-Ok.ensures.plain ∙ ap plain_name named) (c.in-Ok.ensures.numbered ∙ ap (numbered_name n) named) c.in-Err.ensures.gives in
    let noted : s.given.items ++ n ∷ [] ≡ c.note_given-in-Err.new.given.items = ap (λ (l : List ℕ). l ++ n ∷ []) (sym c.make_ready.ensures.same) ∙ sym c.note_given-in-Err.ensures.given in
    let kept = subst (λ (l : List ℕ). Kept c.note_given-in-Err.new.kept (is_kept l s.books.folding.state.inbox)) noted (kept_given c.note_given-in-Err.new.kept s.given.items s.books.folding.state.inbox n (c.note_given-in-Err.ensures.kept (is_kept s.given.items s.books.folding.state.inbox) c.self.invariant.2)) in
    let failed = give_failed g.D.Disk.tells g.D.Disk.content g.D.Disk.files g.D.Disk.fault_count g.D.Disk.moment g.D.Disk.images s.disk new m n (receipt item) inbound nonsecure (Err c.in-Err.field-0) p gives c.in-Err.ensures.cause.failed in
    let counted = subst (λ (k : ℕ). StoreKept (stand_of g.D.Disk.tells g.D.Disk.content g.D.Disk.fault_count g.D.Disk.moment g.D.Disk.images (record { disk = s.disk; takes = s.takes; memory = m })) (Give_next inbound nonsecure) (Refuses Disk) (stand_of g.D.Disk.tells g.D.Disk.content g.D.Disk.fault_count g.D.Disk.moment g.D.Disk.images (record { disk = new; takes = s.takes; memory = record m { given = s.given.items ++ n ∷ []; broken = Some k } }))) (sym c.faults.ensures) failed in
    subst (λ (x : Holding g.row.D.Denot). StoreKept (stand_of g.D.Disk.tells g.D.Disk.content g.D.Disk.fault_count g.D.Disk.moment g.D.Disk.images x) (Give_next inbound nonsecure) (Refuses Disk) (stand_of g.D.Disk.tells g.D.Disk.content g.D.Disk.fault_count g.D.Disk.moment g.D.Disk.images (record { disk = new; takes = s.takes; memory = record { books = s.books; given = c.note_given-in-Err.new.given.items; parts = s.parts.items; staged = s.staged.items; drawn = s.drawn; last_staged = s.last_staged; seat = s.seat; last_given = s.last_given; fulls = s.fulls; broken = Some c.faults.result } }))) c.self.view_is
    (subst (λ (l : List ℕ). StoreKept (stand_of g.D.Disk.tells g.D.Disk.content g.D.Disk.fault_count g.D.Disk.moment g.D.Disk.images (record { disk = s.disk; takes = s.takes; memory = m })) (Give_next inbound nonsecure) (Refuses Disk) (stand_of g.D.Disk.tells g.D.Disk.content g.D.Disk.fault_count g.D.Disk.moment g.D.Disk.images (record { disk = new; takes = s.takes; memory = record m { given = l; broken = Some c.faults.result } }))) noted counted)
