use Rattle.std.proofs.Common.{◌≡◌, ◌-◌, ℕ, List, Some, None, map, min, length, take, drop, sym, ◌∙◌, ap, subst}
use Rattle.disk_model.specs.Changes.{Every, Stands}
use Rattle.ledger_rec.specs.Items.{receipt}
use Rattle.node_model.specs.declared.store.StoreFault.TheVariants.{Disk}
use Rattle.node_model.specs.StoreStates.{shelf_of}
use Rattle.node_model.specs.StoreWords.{size_of_receipt}
use Rattle.node_model.specs.Stores.{IsKept, Read_part, Came, Refuses, StoreKept}
use Rattle.node_store.specs.Stored.{Holding, Memory, stand_of, state_of, stored_in, sizes_in}
use Rattle.node_store.proofs.ReadCall.{read_again, same_call, same_sound, same_failed, unchanged, told_files, told_shelf, receipt_found, receipt_kept, receipt_size, stands_kept, came_part}
use Rattle.node_store.proofs.Known.{none_received}
use Rattle.node_store.proofs.HeldTakes.{same_takes}
use Rattle.std.proofs.Common.{refl}
use Rattle.node_store.specs.Worlds.{takes_in}
use Rattle.node_store.proofs.store.NodeStore.part_read.Goals as goal

pub receipt_of-requires-clause-none : goal.receipt_of-requires-clause-none
receipt_of-requires-clause-none g c = none_received c.args.receipt c.inbox_start.result c.inbox.result.now c.folded-folded.result.now.state.inbox c.inbox.ensures c.inbox_start.ensures.none

pub receipt_of-requires-clause-there : goal.receipt_of-requires-clause-there
receipt_of-requires-clause-there g c =
    let s = c.self.inside in
    let m : Memory = record { books = s.books; given = s.given.items; parts = s.parts.items; staged = s.staged.items; drawn = s.drawn; last_staged = s.last_staged; seat = s.seat; last_given = s.last_given; fulls = s.fulls; broken = s.broken } in
    let whole : s.broken ≡ None = ap (λ (x : Holding g.row.D.Denot). x.memory.broken) c.self.view_is ∙ c.requires.whole in
    let is : IsKept c.args.receipt (state_of g.D.Disk.tells (g.D.Disk.content s.disk) (g.D.Disk.fault_count s.disk) m) = subst (λ (x : Holding g.row.D.Denot). IsKept c.args.receipt (stand_of g.D.Disk.tells g.D.Disk.content g.D.Disk.fault_count g.D.Disk.moment g.D.Disk.images x).state) (sym c.self.view_is) c.requires.kept in
    let items : map receipt c.inbox.result.now ≡ s.books.folding.state.inbox = c.inbox.ensures ∙ ap (λ f. f.state.inbox) c.folded-folded.ensures in
    receipt_found g.D.Disk.tells (g.D.Disk.content s.disk) (g.D.Disk.fault_count s.disk) m c.args.receipt is c.inbox.result.now items

pub read_some-requires : goal.read_some-requires
read_some-requires g c =
    let s = c.self.inside in
    let m : Memory = record { books = s.books; given = s.given.items; parts = s.parts.items; staged = s.staged.items; drawn = s.drawn; last_staged = s.last_staged; seat = s.seat; last_given = s.last_given; fulls = s.fulls; broken = s.broken } in
    let whole : s.broken ≡ None = ap (λ (x : Holding g.row.D.Denot). x.memory.broken) c.self.view_is ∙ c.requires.whole in
    let is : IsKept c.args.receipt (state_of g.D.Disk.tells (g.D.Disk.content s.disk) (g.D.Disk.fault_count s.disk) m) = subst (λ (x : Holding g.row.D.Denot). IsKept c.args.receipt (stand_of g.D.Disk.tells g.D.Disk.content g.D.Disk.fault_count g.D.Disk.moment g.D.Disk.images x).state) (sym c.self.view_is) c.requires.kept in
    let items : map receipt c.inbox.result.now ≡ s.books.folding.state.inbox = c.inbox.ensures ∙ ap (λ f. f.state.inbox) c.folded-folded.ensures in
    let x = c.receipt_of.result.now in
    let size = receipt_kept g.D.Disk.tells (g.D.Disk.content s.disk) (g.D.Disk.fault_count s.disk) m c.args.receipt is c.inbox.result.now items x c.self.invariant.0.memory.books.folds c.receipt_of.ensures in
    let has_files = told_files g.D.Disk.tells g.D.Disk.content g.D.Disk.files g.D.Disk.moment g.D.Disk.images s.disk m c.self.invariant.0 whole g.met.D.Disk.as_read g.met.D.Disk.told in
    let same_shelf = told_shelf g.D.Disk.tells g.D.Disk.content g.D.Disk.files g.D.Disk.moment g.D.Disk.images s.disk m c.self.invariant.0 whole g.met.D.Disk.as_read g.met.D.Disk.told in
    record { stands = subst (λ (k : List ℕ). Every (g.D.Disk.files s.disk) (Stands k x.key.size)) (sym c.in_file.ensures) (stands_kept g.D.Disk.tells g.D.Disk.content g.D.Disk.files g.D.Disk.fault_count s.disk m c.args.receipt g.met.D.Disk.reads g.met.D.Disk.told has_files is same_shelf x.key.size size) }

pub invariant_of-self : goal.invariant_of-self
invariant_of-self g c =
    let s = c.self.inside in
    let m : Memory = record { books = s.books; given = s.given.items; parts = s.parts.items; staged = s.staged.items; drawn = s.drawn; last_staged = s.last_staged; seat = s.seat; last_given = s.last_given; fulls = s.fulls; broken = s.broken } in
    let whole : s.broken ≡ None = ap (λ (x : Holding g.row.D.Denot). x.memory.broken) c.self.view_is ∙ c.requires.whole in
    let is : IsKept c.args.receipt (state_of g.D.Disk.tells (g.D.Disk.content s.disk) (g.D.Disk.fault_count s.disk) m) = subst (λ (x : Holding g.row.D.Denot). IsKept c.args.receipt (stand_of g.D.Disk.tells g.D.Disk.content g.D.Disk.fault_count g.D.Disk.moment g.D.Disk.images x).state) (sym c.self.view_is) c.requires.kept in
    let items : map receipt c.inbox.result.now ≡ s.books.folding.state.inbox = c.inbox.ensures ∙ ap (λ f. f.state.inbox) c.folded-folded.ensures in
    let x = c.receipt_of.result.now in
    let size = receipt_kept g.D.Disk.tells (g.D.Disk.content s.disk) (g.D.Disk.fault_count s.disk) m c.args.receipt is c.inbox.result.now items x c.self.invariant.0.memory.books.folds c.receipt_of.ensures in
    let has_files = told_files g.D.Disk.tells g.D.Disk.content g.D.Disk.files g.D.Disk.moment g.D.Disk.images s.disk m c.self.invariant.0 whole g.met.D.Disk.as_read g.met.D.Disk.told in
    let same_shelf = told_shelf g.D.Disk.tells g.D.Disk.content g.D.Disk.files g.D.Disk.moment g.D.Disk.images s.disk m c.self.invariant.0 whole g.met.D.Disk.as_read g.met.D.Disk.told in
    let new = c.read_some.new.disk in
    let out = c.read_some.new.out in
    let room = length c.args.out.now in
    let same = read_again g.D.Disk.tells g.D.Disk.content g.D.Disk.files s.disk new g.met.D.Disk.reads g.met.D.Disk.told c.read_some.ensures.read in
    let stop = c.read_some.ensures.stop in
    (same_sound g.D.Disk.tells g.D.Disk.content g.D.Disk.fault_count g.D.Disk.moment g.D.Disk.images s.disk new m c.self.invariant.0 whole same stop, c.self.invariant.1, c.self.invariant.2, λ still. same_takes s.takes g.D.Disk.tells (g.D.Disk.content s.disk) (g.D.Disk.content new) (g.D.Disk.fault_count s.disk) (g.D.Disk.fault_count new) m _ _ refl refl refl (λ t. ap takes_in (same t)) (c.self.invariant.3 still))

pub returns-in-Ok-clause-kept : goal.returns-in-Ok-clause-kept
returns-in-Ok-clause-kept g c =
    let s = c.self.inside in
    let m : Memory = record { books = s.books; given = s.given.items; parts = s.parts.items; staged = s.staged.items; drawn = s.drawn; last_staged = s.last_staged; seat = s.seat; last_given = s.last_given; fulls = s.fulls; broken = s.broken } in
    let whole : s.broken ≡ None = ap (λ (x : Holding g.row.D.Denot). x.memory.broken) c.self.view_is ∙ c.requires.whole in
    let is : IsKept c.args.receipt (state_of g.D.Disk.tells (g.D.Disk.content s.disk) (g.D.Disk.fault_count s.disk) m) = subst (λ (x : Holding g.row.D.Denot). IsKept c.args.receipt (stand_of g.D.Disk.tells g.D.Disk.content g.D.Disk.fault_count g.D.Disk.moment g.D.Disk.images x).state) (sym c.self.view_is) c.requires.kept in
    let items : map receipt c.inbox.result.now ≡ s.books.folding.state.inbox = c.inbox.ensures ∙ ap (λ f. f.state.inbox) c.folded-folded.ensures in
    let x = c.receipt_of.result.now in
    let size = receipt_kept g.D.Disk.tells (g.D.Disk.content s.disk) (g.D.Disk.fault_count s.disk) m c.args.receipt is c.inbox.result.now items x c.self.invariant.0.memory.books.folds c.receipt_of.ensures in
    let has_files = told_files g.D.Disk.tells g.D.Disk.content g.D.Disk.files g.D.Disk.moment g.D.Disk.images s.disk m c.self.invariant.0 whole g.met.D.Disk.as_read g.met.D.Disk.told in
    let same_shelf = told_shelf g.D.Disk.tells g.D.Disk.content g.D.Disk.files g.D.Disk.moment g.D.Disk.images s.disk m c.self.invariant.0 whole g.met.D.Disk.as_read g.met.D.Disk.told in
    let new = c.read_some.new.disk in
    let out = c.read_some.new.out in
    let room = length c.args.out.now in
    let same = read_again g.D.Disk.tells g.D.Disk.content g.D.Disk.files s.disk new g.met.D.Disk.reads g.met.D.Disk.told c.read_some.ensures.read in
    let stop = c.read_some.ensures.stop in
    let count = c.in-Ok.count in
    let came = subst (λ (n : List ℕ). Every (g.D.Disk.files s.disk) (λ w. (b : List ℕ) → w.own n ≡ Some b → length b ≡ x.key.size → take count out ≡ take room (drop c.args.at b))) c.in_file.ensures c.in-Ok.ensures.told in
    subst (λ (y : Holding g.row.D.Denot). StoreKept (stand_of g.D.Disk.tells g.D.Disk.content g.D.Disk.fault_count g.D.Disk.moment g.D.Disk.images y) (Read_part c.args.receipt c.args.at room) (Came (take count out)) (stand_of g.D.Disk.tells g.D.Disk.content g.D.Disk.fault_count g.D.Disk.moment g.D.Disk.images (record { disk = new; takes = s.takes; memory = m }))) c.self.view_is
    (same_call g.D.Disk.tells g.D.Disk.content g.D.Disk.fault_count g.D.Disk.moment g.D.Disk.images s.disk new m c.self.invariant.0 whole same stop (Read_part c.args.receipt c.args.at room) (Came (take count out)) m (λ t. ap (λ w. shelf_of (stored_in w m)) (same t)) (came_part g.D.Disk.tells g.D.Disk.content g.D.Disk.files g.D.Disk.fault_count s.disk m c.args.receipt g.met.D.Disk.reads g.met.D.Disk.told has_files is same_shelf x.key.size count c.args.at room out size came, unchanged g.D.Disk.tells (g.D.Disk.content s.disk) (g.D.Disk.content new) (g.D.Disk.fault_count s.disk) (g.D.Disk.fault_count new) m same c.in-Ok.ensures.cause.calm))

pub returns-in-Ok-clause-length : goal.returns-in-Ok-clause-length
returns-in-Ok-clause-length g c =
    let s = c.self.inside in
    let m : Memory = record { books = s.books; given = s.given.items; parts = s.parts.items; staged = s.staged.items; drawn = s.drawn; last_staged = s.last_staged; seat = s.seat; last_given = s.last_given; fulls = s.fulls; broken = s.broken } in
    let whole : s.broken ≡ None = ap (λ (x : Holding g.row.D.Denot). x.memory.broken) c.self.view_is ∙ c.requires.whole in
    let is : IsKept c.args.receipt (state_of g.D.Disk.tells (g.D.Disk.content s.disk) (g.D.Disk.fault_count s.disk) m) = subst (λ (x : Holding g.row.D.Denot). IsKept c.args.receipt (stand_of g.D.Disk.tells g.D.Disk.content g.D.Disk.fault_count g.D.Disk.moment g.D.Disk.images x).state) (sym c.self.view_is) c.requires.kept in
    let items : map receipt c.inbox.result.now ≡ s.books.folding.state.inbox = c.inbox.ensures ∙ ap (λ f. f.state.inbox) c.folded-folded.ensures in
    let x = c.receipt_of.result.now in
    let size = receipt_kept g.D.Disk.tells (g.D.Disk.content s.disk) (g.D.Disk.fault_count s.disk) m c.args.receipt is c.inbox.result.now items x c.self.invariant.0.memory.books.folds c.receipt_of.ensures in
    let has_files = told_files g.D.Disk.tells g.D.Disk.content g.D.Disk.files g.D.Disk.moment g.D.Disk.images s.disk m c.self.invariant.0 whole g.met.D.Disk.as_read g.met.D.Disk.told in
    let same_shelf = told_shelf g.D.Disk.tells g.D.Disk.content g.D.Disk.files g.D.Disk.moment g.D.Disk.images s.disk m c.self.invariant.0 whole g.met.D.Disk.as_read g.met.D.Disk.told in
    let new = c.read_some.new.disk in
    let out = c.read_some.new.out in
    let room = length c.args.out.now in
    let same = read_again g.D.Disk.tells g.D.Disk.content g.D.Disk.files s.disk new g.met.D.Disk.reads g.met.D.Disk.told c.read_some.ensures.read in
    let stop = c.read_some.ensures.stop in
    let view = ap (λ (y : Holding g.row.D.Denot). size_of_receipt c.args.receipt (stand_of g.D.Disk.tells g.D.Disk.content g.D.Disk.fault_count g.D.Disk.moment g.D.Disk.images y).state.stock.state.inbox) c.self.view_is in
    let told = receipt_size (sizes_in g.D.Disk.tells (g.D.Disk.content s.disk) s.given.items) c.args.receipt c.inbox.result.now s.books.folding.state.inbox x items c.receipt_of.ensures in
    c.in-Ok.ensures.length ∙ ap (λ (k : ℕ). min room (k - c.args.at)) (sym told ∙ view)

pub returns-in-Err-clause-kept : goal.returns-in-Err-clause-kept
returns-in-Err-clause-kept g c =
    let s = c.self.inside in
    let m : Memory = record { books = s.books; given = s.given.items; parts = s.parts.items; staged = s.staged.items; drawn = s.drawn; last_staged = s.last_staged; seat = s.seat; last_given = s.last_given; fulls = s.fulls; broken = s.broken } in
    let whole : s.broken ≡ None = ap (λ (x : Holding g.row.D.Denot). x.memory.broken) c.self.view_is ∙ c.requires.whole in
    let is : IsKept c.args.receipt (state_of g.D.Disk.tells (g.D.Disk.content s.disk) (g.D.Disk.fault_count s.disk) m) = subst (λ (x : Holding g.row.D.Denot). IsKept c.args.receipt (stand_of g.D.Disk.tells g.D.Disk.content g.D.Disk.fault_count g.D.Disk.moment g.D.Disk.images x).state) (sym c.self.view_is) c.requires.kept in
    let items : map receipt c.inbox.result.now ≡ s.books.folding.state.inbox = c.inbox.ensures ∙ ap (λ f. f.state.inbox) c.folded-folded.ensures in
    let x = c.receipt_of.result.now in
    let size = receipt_kept g.D.Disk.tells (g.D.Disk.content s.disk) (g.D.Disk.fault_count s.disk) m c.args.receipt is c.inbox.result.now items x c.self.invariant.0.memory.books.folds c.receipt_of.ensures in
    let has_files = told_files g.D.Disk.tells g.D.Disk.content g.D.Disk.files g.D.Disk.moment g.D.Disk.images s.disk m c.self.invariant.0 whole g.met.D.Disk.as_read g.met.D.Disk.told in
    let same_shelf = told_shelf g.D.Disk.tells g.D.Disk.content g.D.Disk.files g.D.Disk.moment g.D.Disk.images s.disk m c.self.invariant.0 whole g.met.D.Disk.as_read g.met.D.Disk.told in
    let new = c.read_some.new.disk in
    let out = c.read_some.new.out in
    let room = length c.args.out.now in
    let same = read_again g.D.Disk.tells g.D.Disk.content g.D.Disk.files s.disk new g.met.D.Disk.reads g.met.D.Disk.told c.read_some.ensures.read in
    let stop = c.read_some.ensures.stop in
    let failed = same_failed g.D.Disk.tells g.D.Disk.content g.D.Disk.fault_count g.D.Disk.moment g.D.Disk.images s.disk new m c.self.invariant.0 whole same stop (Read_part c.args.receipt c.args.at room) tt c.in-Err.ensures.cause.failed in
    let counted = subst (λ (k : ℕ). StoreKept (stand_of g.D.Disk.tells g.D.Disk.content g.D.Disk.fault_count g.D.Disk.moment g.D.Disk.images (record { disk = s.disk; takes = s.takes; memory = m })) (Read_part c.args.receipt c.args.at room) (Refuses Disk) (stand_of g.D.Disk.tells g.D.Disk.content g.D.Disk.fault_count g.D.Disk.moment g.D.Disk.images (record { disk = new; takes = s.takes; memory = record m { broken = Some k } }))) (sym c.faults.ensures) failed in
    subst (λ (y : Holding g.row.D.Denot). StoreKept (stand_of g.D.Disk.tells g.D.Disk.content g.D.Disk.fault_count g.D.Disk.moment g.D.Disk.images y) (Read_part c.args.receipt c.args.at room) (Refuses Disk) (stand_of g.D.Disk.tells g.D.Disk.content g.D.Disk.fault_count g.D.Disk.moment g.D.Disk.images (record { disk = new; takes = s.takes; memory = record m { broken = Some c.faults.result } }))) c.self.view_is counted
