use Rattle.std.proofs.Common.{◌≡◌, ℕ, None, Some, Ok, Err, map, refl, sym, ◌∙◌, ap, subst}
use Rattle.std.specs.Prelude.{true}
use Rattle.node_model.specs.declared.store.StoreFault.TheVariants.{Disk, NoMemory}
use Rattle.node_model.specs.StoreStates.{IfTold}
use Rattle.node_store.specs.Asking.{Asks, ListsOutside}
use Rattle.node_store.specs.Stored.{Holding, Memory, stand_of}
use Rattle.node_store.proofs.AskCall.{lists_told, once, asks, asks_unchanged, asks_failed, asks_sound, asks_broken}
use Rattle.node_store.proofs.ReadCall.{read_again}
use Rattle.disk_model.specs.Changes.{Every}
use Rattle.disk_model.specs.Folders.{ListsFolder}
use Rattle.node_store.proofs.HeldTakes.{same_takes}
use Rattle.node_model.proofs.Lists.{none_some}
use Rattle.node_store.specs.Worlds.{takes_in}
use Rattle.node_store.proofs.store.NodeStore.names.Goals as goal

pub invariant_of-self : goal.invariant_of-self
invariant_of-self g c =
    let s = c.self.inside in
    let m : Memory = record { books = s.books; given = s.given.items; parts = s.parts.items; staged = s.staged.items; drawn = s.drawn; last_staged = s.last_staged; seat = s.seat; last_given = s.last_given; fulls = s.fulls; broken = s.broken } in
    let whole : s.broken ≡ None = ap (λ (x : Holding g.row.D.Denot). x.memory.broken) c.self.view_is ∙ c.requires in
    let new = c.names.new.self in
    let same = read_again g.D.Disk.tells g.D.Disk.content g.D.Disk.files s.disk new g.met.D.Disk.reads g.met.D.Disk.told c.names.ensures.read in
    let run = once g.D.Disk.moment g.D.Disk.images s.disk new c.names.ensures.stop in
    (asks_sound g.D.Disk.tells g.D.Disk.content g.D.Disk.fault_count g.D.Disk.moment g.D.Disk.images s.disk new m c.self.invariant.0 whole same run, c.self.invariant.1, c.self.invariant.2, λ still. same_takes s.takes g.D.Disk.tells (g.D.Disk.content s.disk) (g.D.Disk.content new) (g.D.Disk.fault_count s.disk) (g.D.Disk.fault_count new) m _ _ refl refl refl (λ t. ap takes_in (same t)) (c.self.invariant.3 still))

pub invariant_of-self-in-Err-Failed : goal.invariant_of-self-in-Err-Failed
invariant_of-self-in-Err-Failed g c =
    let s = c.self.inside in
    let m : Memory = record { books = s.books; given = s.given.items; parts = s.parts.items; staged = s.staged.items; drawn = s.drawn; last_staged = s.last_staged; seat = s.seat; last_given = s.last_given; fulls = s.fulls; broken = s.broken } in
    let whole : s.broken ≡ None = ap (λ (x : Holding g.row.D.Denot). x.memory.broken) c.self.view_is ∙ c.requires in
    let new = c.names.new.self in
    let same = read_again g.D.Disk.tells g.D.Disk.content g.D.Disk.files s.disk new g.met.D.Disk.reads g.met.D.Disk.told c.names.ensures.read in
    let run = once g.D.Disk.moment g.D.Disk.images s.disk new c.names.ensures.stop in
    (asks_broken g.D.Disk.tells g.D.Disk.content g.D.Disk.fault_count g.D.Disk.moment g.D.Disk.images s.disk new m c.self.invariant.0 whole same run c.faults.result, c.self.invariant.1, c.self.invariant.2, λ still. none_some (sym still))

pub returns-in-Ok-clause-asks : goal.returns-in-Ok-clause-asks
returns-in-Ok-clause-asks g c =
    let s = c.self.inside in
    let m : Memory = record { books = s.books; given = s.given.items; parts = s.parts.items; staged = s.staged.items; drawn = s.drawn; last_staged = s.last_staged; seat = s.seat; last_given = s.last_given; fulls = s.fulls; broken = s.broken } in
    let whole : s.broken ≡ None = ap (λ (x : Holding g.row.D.Denot). x.memory.broken) c.self.view_is ∙ c.requires in
    let new = c.names.new.self in
    let same = read_again g.D.Disk.tells g.D.Disk.content g.D.Disk.files s.disk new g.met.D.Disk.reads g.met.D.Disk.told c.names.ensures.read in
    let run = once g.D.Disk.moment g.D.Disk.images s.disk new c.names.ensures.stop in
    subst (λ (x : Holding g.row.D.Denot). Asks true (Ok c.in-Ok.names) (stand_of g.D.Disk.tells g.D.Disk.content g.D.Disk.fault_count g.D.Disk.moment g.D.Disk.images x) (stand_of g.D.Disk.tells g.D.Disk.content g.D.Disk.fault_count g.D.Disk.moment g.D.Disk.images (record { disk = new; takes = s.takes; memory = m }))) c.self.view_is
    (asks g.D.Disk.tells g.D.Disk.content g.D.Disk.fault_count g.D.Disk.moment g.D.Disk.images s.disk new m c.self.invariant.0 whole same run true (Ok c.in-Ok.names) m (asks_unchanged g.D.Disk.tells g.D.Disk.content g.D.Disk.fault_count g.D.Disk.moment g.D.Disk.images s.disk new m c.self.invariant.0 whole same run c.in-Ok.ensures.cause.calm))

pub returns-in-Err-Failed-clause-asks : goal.returns-in-Err-Failed-clause-asks
returns-in-Err-Failed-clause-asks g c =
    let s = c.self.inside in
    let m : Memory = record { books = s.books; given = s.given.items; parts = s.parts.items; staged = s.staged.items; drawn = s.drawn; last_staged = s.last_staged; seat = s.seat; last_given = s.last_given; fulls = s.fulls; broken = s.broken } in
    let whole : s.broken ≡ None = ap (λ (x : Holding g.row.D.Denot). x.memory.broken) c.self.view_is ∙ c.requires in
    let new = c.names.new.self in
    let same = read_again g.D.Disk.tells g.D.Disk.content g.D.Disk.files s.disk new g.met.D.Disk.reads g.met.D.Disk.told c.names.ensures.read in
    let run = once g.D.Disk.moment g.D.Disk.images s.disk new c.names.ensures.stop in
    let failed = asks g.D.Disk.tells g.D.Disk.content g.D.Disk.fault_count g.D.Disk.moment g.D.Disk.images s.disk new m c.self.invariant.0 whole same run true (Err Disk) (record m { broken = Some (g.D.Disk.fault_count new) }) (asks_failed g.D.Disk.tells g.D.Disk.content g.D.Disk.fault_count g.D.Disk.moment g.D.Disk.images s.disk new m c.self.invariant.0 whole same run (c.in-Err-Failed.ensures.cause.failed c.in-Err-Failed.field-0-is)) in
    let counted = subst (λ (k : ℕ). Asks true (Err Disk) (stand_of g.D.Disk.tells g.D.Disk.content g.D.Disk.fault_count g.D.Disk.moment g.D.Disk.images (record { disk = s.disk; takes = s.takes; memory = m })) (stand_of g.D.Disk.tells g.D.Disk.content g.D.Disk.fault_count g.D.Disk.moment g.D.Disk.images (record { disk = new; takes = s.takes; memory = record m { broken = Some k } }))) (sym c.faults.ensures) failed in
    subst (λ (x : Holding g.row.D.Denot). Asks true (Err Disk) (stand_of g.D.Disk.tells g.D.Disk.content g.D.Disk.fault_count g.D.Disk.moment g.D.Disk.images x) (stand_of g.D.Disk.tells g.D.Disk.content g.D.Disk.fault_count g.D.Disk.moment g.D.Disk.images (record { disk = new; takes = s.takes; memory = record { books = s.books; given = s.given.items; parts = s.parts.items; staged = s.staged.items; drawn = s.drawn; last_staged = s.last_staged; seat = s.seat; last_given = s.last_given; fulls = s.fulls; broken = Some c.faults.result } }))) c.self.view_is counted

pub returns-in-Err-NoMemory-clause-asks : goal.returns-in-Err-NoMemory-clause-asks
returns-in-Err-NoMemory-clause-asks g c =
    let s = c.self.inside in
    let m : Memory = record { books = s.books; given = s.given.items; parts = s.parts.items; staged = s.staged.items; drawn = s.drawn; last_staged = s.last_staged; seat = s.seat; last_given = s.last_given; fulls = s.fulls; broken = s.broken } in
    let whole : s.broken ≡ None = ap (λ (x : Holding g.row.D.Denot). x.memory.broken) c.self.view_is ∙ c.requires in
    let new = c.names.new.self in
    let same = read_again g.D.Disk.tells g.D.Disk.content g.D.Disk.files s.disk new g.met.D.Disk.reads g.met.D.Disk.told c.names.ensures.read in
    let run = once g.D.Disk.moment g.D.Disk.images s.disk new c.names.ensures.stop in
    subst (λ (x : Holding g.row.D.Denot). Asks true (Err NoMemory) (stand_of g.D.Disk.tells g.D.Disk.content g.D.Disk.fault_count g.D.Disk.moment g.D.Disk.images x) (stand_of g.D.Disk.tells g.D.Disk.content g.D.Disk.fault_count g.D.Disk.moment g.D.Disk.images (record { disk = new; takes = s.takes; memory = m }))) c.self.view_is
    (asks g.D.Disk.tells g.D.Disk.content g.D.Disk.fault_count g.D.Disk.moment g.D.Disk.images s.disk new m c.self.invariant.0 whole same run true (Err NoMemory) m (refl, asks_unchanged g.D.Disk.tells g.D.Disk.content g.D.Disk.fault_count g.D.Disk.moment g.D.Disk.images s.disk new m c.self.invariant.0 whole same run (c.in-Err-NoMemory.ensures.cause.no_memory c.in-Err-NoMemory.field-0-is)))

pub returns-in-Ok-clause-told : goal.returns-in-Ok-clause-told
returns-in-Ok-clause-told g c =
    subst (λ (x : Holding g.row.D.Denot). Every (g.D.Disk.files x.disk) (λ w. ListsFolder c.args.folder.now.list w.outside (map (λ name. name.list) c.in-Ok.names.items))) c.self.view_is c.in-Ok.ensures.told

pub returns-in-Ok-clause-listed : goal.returns-in-Ok-clause-listed
returns-in-Ok-clause-listed g c =
    let s = c.self.inside in
    let m : Memory = record { books = s.books; given = s.given.items; parts = s.parts.items; staged = s.staged.items; drawn = s.drawn; last_staged = s.last_staged; seat = s.seat; last_given = s.last_given; fulls = s.fulls; broken = s.broken } in
    subst (λ (x : Holding g.row.D.Denot). IfTold (stand_of g.D.Disk.tells g.D.Disk.content g.D.Disk.fault_count g.D.Disk.moment g.D.Disk.images x).state.content (λ a. ListsOutside c.args.folder.now.list a.outside (map (λ name. name.list) c.in-Ok.names.items))) c.self.view_is
    (lists_told g.D.Disk.files g.D.Disk.tells g.D.Disk.content g.met.D.Disk.told s.disk (g.D.Disk.fault_count s.disk) m c.args.folder.now.list (map (λ name. name.list) c.in-Ok.names.items) c.in-Ok.ensures.told)
