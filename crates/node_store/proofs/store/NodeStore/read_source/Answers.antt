use Rattle.std.proofs.Common.{◌≡◌, ◌-◌, ℕ, List, Some, None, map, min, length, take, drop, sym, ◌∙◌, ap, subst}
use Rattle.disk_model.specs.Changes.{Every, Stands}
use Rattle.ledger_rec.specs.Items.{entry}
use Rattle.node_model.specs.declared.store.StoreFault.TheVariants.{Read}
use Rattle.node_model.specs.StoreStates.{shelf_of}
use Rattle.node_model.specs.StoreWords.{size_of_entry}
use Rattle.node_model.specs.Stores.{IsLive, Read_source, Came, Refuses, StoreKept}
use Rattle.node_store.specs.Stored.{Holding, Memory, stand_of, state_of, stored_in, sizes_in}
use Rattle.node_store.proofs.ReadCall.{read_again, same_call, same_sound, unchanged, counted, told_files, told_shelf, entry_found, entry_live, entry_size, stands_live, came_source}
use Rattle.node_store.proofs.Known.{none_queued}
use Rattle.node_store.proofs.store.NodeStore.read_source.Goals as goal
use Rattle.node_store.proofs.HeldTakes.{same_takes}
use Rattle.std.proofs.Common.{refl}
use Rattle.node_store.specs.Worlds.{takes_in}
use Rattle.node_store.proofs.store.NodeStore.read_source.Goals.{in-Ok, in-Err}

pub entry_of-requires-clause-none : goal.entry_of-requires-clause-none
entry_of-requires-clause-none g c = none_queued c.args.number c.queue_start.result c.queue.result.now c.folded-folded.result.now.state.queue c.queue.ensures c.queue_start.ensures.none

pub entry_of-requires-clause-there : goal.entry_of-requires-clause-there
entry_of-requires-clause-there g c =
    let s = c.self.inside in
    let m : Memory = record { books = s.books; given = s.given.items; parts = s.parts.items; staged = s.staged.items; drawn = s.drawn; last_staged = s.last_staged; seat = s.seat; last_given = s.last_given; fulls = s.fulls; broken = s.broken } in
    let whole : s.broken ≡ None = ap (λ (x : Holding g.row.D.Denot). x.memory.broken) c.self.view_is ∙ c.requires.whole in
    let is : IsLive c.args.number (state_of g.D.Disk.tells (g.D.Disk.content s.disk) (g.D.Disk.fault_count s.disk) m) = subst (λ (x : Holding g.row.D.Denot). IsLive c.args.number (stand_of g.D.Disk.tells g.D.Disk.content g.D.Disk.fault_count g.D.Disk.moment g.D.Disk.images x).state) (sym c.self.view_is) c.requires.live in
    let items : map entry c.queue.result.now ≡ s.books.folding.state.queue = c.queue.ensures ∙ ap (λ f. f.state.queue) c.folded-folded.ensures in
    entry_found g.D.Disk.tells (g.D.Disk.content s.disk) (g.D.Disk.fault_count s.disk) m c.args.number is c.queue.result.now items

pub read_some-requires : goal.read_some-requires
read_some-requires g c =
    let s = c.self.inside in
    let m : Memory = record { books = s.books; given = s.given.items; parts = s.parts.items; staged = s.staged.items; drawn = s.drawn; last_staged = s.last_staged; seat = s.seat; last_given = s.last_given; fulls = s.fulls; broken = s.broken } in
    let whole : s.broken ≡ None = ap (λ (x : Holding g.row.D.Denot). x.memory.broken) c.self.view_is ∙ c.requires.whole in
    let is : IsLive c.args.number (state_of g.D.Disk.tells (g.D.Disk.content s.disk) (g.D.Disk.fault_count s.disk) m) = subst (λ (x : Holding g.row.D.Denot). IsLive c.args.number (stand_of g.D.Disk.tells g.D.Disk.content g.D.Disk.fault_count g.D.Disk.moment g.D.Disk.images x).state) (sym c.self.view_is) c.requires.live in
    let items : map entry c.queue.result.now ≡ s.books.folding.state.queue = c.queue.ensures ∙ ap (λ f. f.state.queue) c.folded-folded.ensures in
    let x = c.entry_of.result.now in
    let size = entry_live g.D.Disk.tells (g.D.Disk.content s.disk) (g.D.Disk.fault_count s.disk) m c.args.number is c.queue.result.now items x c.self.invariant.0.memory.books.folds c.entry_of.ensures in
    let has_files = told_files g.D.Disk.tells g.D.Disk.content g.D.Disk.files g.D.Disk.moment g.D.Disk.images s.disk m c.self.invariant.0 whole g.met.D.Disk.as_read g.met.D.Disk.told in
    let same_shelf = told_shelf g.D.Disk.tells g.D.Disk.content g.D.Disk.files g.D.Disk.moment g.D.Disk.images s.disk m c.self.invariant.0 whole g.met.D.Disk.as_read g.met.D.Disk.told in
    record { stands = subst (λ (k : List ℕ). Every (g.D.Disk.files s.disk) (Stands k x.key.size)) (sym c.out_file.ensures) (stands_live g.D.Disk.tells g.D.Disk.content g.D.Disk.files g.D.Disk.fault_count s.disk m c.args.number g.met.D.Disk.reads g.met.D.Disk.told has_files is x.key.size size) }

pub invariant_of-self : goal.invariant_of-self
invariant_of-self g c =
    let s = c.self.inside in
    let m : Memory = record { books = s.books; given = s.given.items; parts = s.parts.items; staged = s.staged.items; drawn = s.drawn; last_staged = s.last_staged; seat = s.seat; last_given = s.last_given; fulls = s.fulls; broken = s.broken } in
    let whole : s.broken ≡ None = ap (λ (x : Holding g.row.D.Denot). x.memory.broken) c.self.view_is ∙ c.requires.whole in
    let is : IsLive c.args.number (state_of g.D.Disk.tells (g.D.Disk.content s.disk) (g.D.Disk.fault_count s.disk) m) = subst (λ (x : Holding g.row.D.Denot). IsLive c.args.number (stand_of g.D.Disk.tells g.D.Disk.content g.D.Disk.fault_count g.D.Disk.moment g.D.Disk.images x).state) (sym c.self.view_is) c.requires.live in
    let items : map entry c.queue.result.now ≡ s.books.folding.state.queue = c.queue.ensures ∙ ap (λ f. f.state.queue) c.folded-folded.ensures in
    let x = c.entry_of.result.now in
    let size = entry_live g.D.Disk.tells (g.D.Disk.content s.disk) (g.D.Disk.fault_count s.disk) m c.args.number is c.queue.result.now items x c.self.invariant.0.memory.books.folds c.entry_of.ensures in
    let has_files = told_files g.D.Disk.tells g.D.Disk.content g.D.Disk.files g.D.Disk.moment g.D.Disk.images s.disk m c.self.invariant.0 whole g.met.D.Disk.as_read g.met.D.Disk.told in
    let same_shelf = told_shelf g.D.Disk.tells g.D.Disk.content g.D.Disk.files g.D.Disk.moment g.D.Disk.images s.disk m c.self.invariant.0 whole g.met.D.Disk.as_read g.met.D.Disk.told in
    let new = c.read_some.new.disk in
    let out = c.read_some.new.out in
    let room = length c.args.out.now in
    let same = read_again g.D.Disk.tells g.D.Disk.content g.D.Disk.files s.disk new g.met.D.Disk.reads g.met.D.Disk.told c.read_some.ensures.read in
    let stop = c.read_some.ensures.stop in
    (same_sound g.D.Disk.tells g.D.Disk.content g.D.Disk.fault_count g.D.Disk.moment g.D.Disk.images s.disk new m c.self.invariant.0 whole same stop, c.self.invariant.1, c.self.invariant.2, λ still. same_takes s.takes g.D.Disk.tells (g.D.Disk.content s.disk) (g.D.Disk.content new) (g.D.Disk.fault_count s.disk) (g.D.Disk.fault_count new) m _ _ refl refl refl (λ t. ap takes_in (same t)) (c.self.invariant.3 still))

pub returns-clause-kept : goal.returns-clause-kept
returns-clause-kept g c =
    let s = c.self.inside in
    let m : Memory = record { books = s.books; given = s.given.items; parts = s.parts.items; staged = s.staged.items; drawn = s.drawn; last_staged = s.last_staged; seat = s.seat; last_given = s.last_given; fulls = s.fulls; broken = s.broken } in
    let whole : s.broken ≡ None = ap (λ (x : Holding g.row.D.Denot). x.memory.broken) c.self.view_is ∙ c.requires.whole in
    let is : IsLive c.args.number (state_of g.D.Disk.tells (g.D.Disk.content s.disk) (g.D.Disk.fault_count s.disk) m) = subst (λ (x : Holding g.row.D.Denot). IsLive c.args.number (stand_of g.D.Disk.tells g.D.Disk.content g.D.Disk.fault_count g.D.Disk.moment g.D.Disk.images x).state) (sym c.self.view_is) c.requires.live in
    let items : map entry c.queue.result.now ≡ s.books.folding.state.queue = c.queue.ensures ∙ ap (λ f. f.state.queue) c.folded-folded.ensures in
    let x = c.entry_of.result.now in
    let size = entry_live g.D.Disk.tells (g.D.Disk.content s.disk) (g.D.Disk.fault_count s.disk) m c.args.number is c.queue.result.now items x c.self.invariant.0.memory.books.folds c.entry_of.ensures in
    let has_files = told_files g.D.Disk.tells g.D.Disk.content g.D.Disk.files g.D.Disk.moment g.D.Disk.images s.disk m c.self.invariant.0 whole g.met.D.Disk.as_read g.met.D.Disk.told in
    let same_shelf = told_shelf g.D.Disk.tells g.D.Disk.content g.D.Disk.files g.D.Disk.moment g.D.Disk.images s.disk m c.self.invariant.0 whole g.met.D.Disk.as_read g.met.D.Disk.told in
    let new = c.read_some.new.disk in
    let out = c.read_some.new.out in
    let room = length c.args.out.now in
    let same = read_again g.D.Disk.tells g.D.Disk.content g.D.Disk.files s.disk new g.met.D.Disk.reads g.met.D.Disk.told c.read_some.ensures.read in
    let stop = c.read_some.ensures.stop in
    elim c.match-read_some.branch [
      | in-Ok w ↦ rw w.result-is (
          let count = w.in-Ok.count in
          let came = subst (λ (n : List ℕ). Every (g.D.Disk.files s.disk) (λ w. (b : List ℕ) → w.own n ≡ Some b → length b ≡ x.key.size → take count out ≡ take room (drop c.args.at b))) c.out_file.ensures w.in-Ok.ensures.told in
          subst (λ (y : Holding g.row.D.Denot). StoreKept (stand_of g.D.Disk.tells g.D.Disk.content g.D.Disk.fault_count g.D.Disk.moment g.D.Disk.images y) (Read_source c.args.number c.args.at room) (Came (take count out)) (stand_of g.D.Disk.tells g.D.Disk.content g.D.Disk.fault_count g.D.Disk.moment g.D.Disk.images (record { disk = new; takes = s.takes; memory = m }))) c.self.view_is
          (same_call g.D.Disk.tells g.D.Disk.content g.D.Disk.fault_count g.D.Disk.moment g.D.Disk.images s.disk new m c.self.invariant.0 whole same stop (Read_source c.args.number c.args.at room) (Came (take count out)) m (λ t. ap (λ w. shelf_of (stored_in w m)) (same t)) (came_source g.D.Disk.tells g.D.Disk.content g.D.Disk.files g.D.Disk.fault_count s.disk m c.args.number g.met.D.Disk.reads g.met.D.Disk.told has_files is x.key.size count c.args.at room out size came, unchanged g.D.Disk.tells (g.D.Disk.content s.disk) (g.D.Disk.content new) (g.D.Disk.fault_count s.disk) (g.D.Disk.fault_count new) m same w.in-Ok.ensures.cause.calm)))
      | in-Err w ↦ rw w.result-is (
          subst (λ (y : Holding g.row.D.Denot). StoreKept (stand_of g.D.Disk.tells g.D.Disk.content g.D.Disk.fault_count g.D.Disk.moment g.D.Disk.images y) (Read_source c.args.number c.args.at room) (Refuses Read) (stand_of g.D.Disk.tells g.D.Disk.content g.D.Disk.fault_count g.D.Disk.moment g.D.Disk.images (record { disk = new; takes = s.takes; memory = m }))) c.self.view_is
          (same_call g.D.Disk.tells g.D.Disk.content g.D.Disk.fault_count g.D.Disk.moment g.D.Disk.images s.disk new m c.self.invariant.0 whole same stop (Read_source c.args.number c.args.at room) (Refuses Read) m (λ t. ap (λ w. shelf_of (stored_in w m)) (same t))
          (tt, w.in-Err.ensures.cause.failed, counted g.D.Disk.tells (g.D.Disk.content s.disk) (g.D.Disk.content new) (g.D.Disk.fault_count s.disk) (g.D.Disk.fault_count new) m same)))
    ]

pub returns-clause-length : goal.returns-clause-length
returns-clause-length g c =
    let s = c.self.inside in
    let m : Memory = record { books = s.books; given = s.given.items; parts = s.parts.items; staged = s.staged.items; drawn = s.drawn; last_staged = s.last_staged; seat = s.seat; last_given = s.last_given; fulls = s.fulls; broken = s.broken } in
    let whole : s.broken ≡ None = ap (λ (x : Holding g.row.D.Denot). x.memory.broken) c.self.view_is ∙ c.requires.whole in
    let is : IsLive c.args.number (state_of g.D.Disk.tells (g.D.Disk.content s.disk) (g.D.Disk.fault_count s.disk) m) = subst (λ (x : Holding g.row.D.Denot). IsLive c.args.number (stand_of g.D.Disk.tells g.D.Disk.content g.D.Disk.fault_count g.D.Disk.moment g.D.Disk.images x).state) (sym c.self.view_is) c.requires.live in
    let items : map entry c.queue.result.now ≡ s.books.folding.state.queue = c.queue.ensures ∙ ap (λ f. f.state.queue) c.folded-folded.ensures in
    let x = c.entry_of.result.now in
    let size = entry_live g.D.Disk.tells (g.D.Disk.content s.disk) (g.D.Disk.fault_count s.disk) m c.args.number is c.queue.result.now items x c.self.invariant.0.memory.books.folds c.entry_of.ensures in
    let has_files = told_files g.D.Disk.tells g.D.Disk.content g.D.Disk.files g.D.Disk.moment g.D.Disk.images s.disk m c.self.invariant.0 whole g.met.D.Disk.as_read g.met.D.Disk.told in
    let same_shelf = told_shelf g.D.Disk.tells g.D.Disk.content g.D.Disk.files g.D.Disk.moment g.D.Disk.images s.disk m c.self.invariant.0 whole g.met.D.Disk.as_read g.met.D.Disk.told in
    let new = c.read_some.new.disk in
    let out = c.read_some.new.out in
    let room = length c.args.out.now in
    let same = read_again g.D.Disk.tells g.D.Disk.content g.D.Disk.files s.disk new g.met.D.Disk.reads g.met.D.Disk.told c.read_some.ensures.read in
    let stop = c.read_some.ensures.stop in
    let view = ap (λ (y : Holding g.row.D.Denot). size_of_entry c.args.number (stand_of g.D.Disk.tells g.D.Disk.content g.D.Disk.fault_count g.D.Disk.moment g.D.Disk.images y).state.stock.state.queue) c.self.view_is in
    let told = entry_size (sizes_in g.D.Disk.tells (g.D.Disk.content s.disk) s.given.items) c.args.number c.queue.result.now s.books.folding.state.queue x items c.entry_of.ensures in
    elim c.match-read_some.branch [
      | in-Ok w ↦ rw w.result-is (w.in-Ok.ensures.length ∙ ap (λ (k : ℕ). min room (k - c.args.at)) (sym told ∙ view))
      | in-Err w ↦ rw w.result-is tt
    ]
