use Rattle.std.proofs.Common.{◌≡◌, ◌-◌, ℕ, List, None, Some, Ok, Err, length, min, take, drop, sym, ◌∙◌, ap, subst}
use Rattle.std.specs.Prelude.{false}
use Rattle.node_model.specs.declared.store.StoreFault.TheVariants.{Disk}
use Rattle.node_store.specs.Asking.{Asks}
use Rattle.node_store.specs.Stored.{Holding, Memory, stand_of, stored_in}
use Rattle.node_store.proofs.AskCall.{asks, asks_unchanged, asks_failed, asks_sound, asks_broken}
use Rattle.node_store.proofs.ReadCall.{read_again, if_told}
use Rattle.std.proofs.Common.{Option}
use Rattle.node_model.specs.StoreStates.{IfTold}
use Rattle.node_store.specs.Worlds.{bytes_of}
use Rattle.node_store.proofs.AskCall.{own_take}
use Rattle.node_store.proofs.HeldTakes.{same_takes}
use Rattle.node_model.proofs.Lists.{none_some}
use Rattle.std.proofs.Common.{refl}
use Rattle.node_store.specs.Worlds.{takes_in}
use Rattle.node_store.proofs.store.NodeStore.read_take.Goals as goal

pub invariant_of-self : goal.invariant_of-self
invariant_of-self g c =
    let s = c.self.inside in
    let m : Memory = record { books = s.books; given = s.given.items; parts = s.parts.items; staged = s.staged.items; drawn = s.drawn; last_staged = s.last_staged; seat = s.seat; last_given = s.last_given; fulls = s.fulls; broken = s.broken } in
    let whole : s.broken ≡ None = ap (λ (x : Holding g.row.D.Denot). x.memory.broken) c.self.view_is ∙ c.requires.whole in
    let new = c.read_own.new.disk in
    let same = read_again g.D.Disk.tells g.D.Disk.content g.D.Disk.files s.disk new g.met.D.Disk.reads g.met.D.Disk.told c.read_own.ensures.read in
    let run = c.read_own.ensures.stop in
    (asks_sound g.D.Disk.tells g.D.Disk.content g.D.Disk.fault_count g.D.Disk.moment g.D.Disk.images s.disk new m c.self.invariant.0 whole same run, c.self.invariant.1, c.self.invariant.2, λ still. same_takes s.takes g.D.Disk.tells (g.D.Disk.content s.disk) (g.D.Disk.content new) (g.D.Disk.fault_count s.disk) (g.D.Disk.fault_count new) m _ _ refl refl refl (λ t. ap takes_in (same t)) (c.self.invariant.3 still))

pub invariant_of-self-in-Err : goal.invariant_of-self-in-Err
invariant_of-self-in-Err g c =
    let s = c.self.inside in
    let m : Memory = record { books = s.books; given = s.given.items; parts = s.parts.items; staged = s.staged.items; drawn = s.drawn; last_staged = s.last_staged; seat = s.seat; last_given = s.last_given; fulls = s.fulls; broken = s.broken } in
    let whole : s.broken ≡ None = ap (λ (x : Holding g.row.D.Denot). x.memory.broken) c.self.view_is ∙ c.requires.whole in
    let new = c.read_own.new.disk in
    let same = read_again g.D.Disk.tells g.D.Disk.content g.D.Disk.files s.disk new g.met.D.Disk.reads g.met.D.Disk.told c.read_own.ensures.read in
    let run = c.read_own.ensures.stop in
    (asks_broken g.D.Disk.tells g.D.Disk.content g.D.Disk.fault_count g.D.Disk.moment g.D.Disk.images s.disk new m c.self.invariant.0 whole same run c.faults.result, c.self.invariant.1, c.self.invariant.2, λ still. none_some (sym still))

pub returns-in-Ok-clause-asks : goal.returns-in-Ok-clause-asks
returns-in-Ok-clause-asks g c =
    let s = c.self.inside in
    let m : Memory = record { books = s.books; given = s.given.items; parts = s.parts.items; staged = s.staged.items; drawn = s.drawn; last_staged = s.last_staged; seat = s.seat; last_given = s.last_given; fulls = s.fulls; broken = s.broken } in
    let whole : s.broken ≡ None = ap (λ (x : Holding g.row.D.Denot). x.memory.broken) c.self.view_is ∙ c.requires.whole in
    let new = c.read_own.new.disk in
    let same = read_again g.D.Disk.tells g.D.Disk.content g.D.Disk.files s.disk new g.met.D.Disk.reads g.met.D.Disk.told c.read_own.ensures.read in
    let run = c.read_own.ensures.stop in
    subst (λ (x : Holding g.row.D.Denot). Asks false (Ok c.in-Ok.count) (stand_of g.D.Disk.tells g.D.Disk.content g.D.Disk.fault_count g.D.Disk.moment g.D.Disk.images x) (stand_of g.D.Disk.tells g.D.Disk.content g.D.Disk.fault_count g.D.Disk.moment g.D.Disk.images (record { disk = new; takes = s.takes; memory = m }))) c.self.view_is
    (asks g.D.Disk.tells g.D.Disk.content g.D.Disk.fault_count g.D.Disk.moment g.D.Disk.images s.disk new m c.self.invariant.0 whole same run false (Ok c.in-Ok.count) m (asks_unchanged g.D.Disk.tells g.D.Disk.content g.D.Disk.fault_count g.D.Disk.moment g.D.Disk.images s.disk new m c.self.invariant.0 whole same run c.in-Ok.ensures.cause.calm))

pub returns-in-Err-clause-asks : goal.returns-in-Err-clause-asks
returns-in-Err-clause-asks g c =
    let s = c.self.inside in
    let m : Memory = record { books = s.books; given = s.given.items; parts = s.parts.items; staged = s.staged.items; drawn = s.drawn; last_staged = s.last_staged; seat = s.seat; last_given = s.last_given; fulls = s.fulls; broken = s.broken } in
    let whole : s.broken ≡ None = ap (λ (x : Holding g.row.D.Denot). x.memory.broken) c.self.view_is ∙ c.requires.whole in
    let new = c.read_own.new.disk in
    let same = read_again g.D.Disk.tells g.D.Disk.content g.D.Disk.files s.disk new g.met.D.Disk.reads g.met.D.Disk.told c.read_own.ensures.read in
    let run = c.read_own.ensures.stop in
    let failed = asks g.D.Disk.tells g.D.Disk.content g.D.Disk.fault_count g.D.Disk.moment g.D.Disk.images s.disk new m c.self.invariant.0 whole same run false (Err Disk) (record m { broken = Some (g.D.Disk.fault_count new) }) (asks_failed g.D.Disk.tells g.D.Disk.content g.D.Disk.fault_count g.D.Disk.moment g.D.Disk.images s.disk new m c.self.invariant.0 whole same run c.in-Err.ensures.cause.failed) in
    let counted = subst (λ (k : ℕ). Asks false (Err Disk) (stand_of g.D.Disk.tells g.D.Disk.content g.D.Disk.fault_count g.D.Disk.moment g.D.Disk.images (record { disk = s.disk; takes = s.takes; memory = m })) (stand_of g.D.Disk.tells g.D.Disk.content g.D.Disk.fault_count g.D.Disk.moment g.D.Disk.images (record { disk = new; takes = s.takes; memory = record m { broken = Some k } }))) (sym c.faults.ensures) failed in
    subst (λ (x : Holding g.row.D.Denot). Asks false (Err Disk) (stand_of g.D.Disk.tells g.D.Disk.content g.D.Disk.fault_count g.D.Disk.moment g.D.Disk.images x) (stand_of g.D.Disk.tells g.D.Disk.content g.D.Disk.fault_count g.D.Disk.moment g.D.Disk.images (record { disk = new; takes = s.takes; memory = record { books = s.books; given = s.given.items; parts = s.parts.items; staged = s.staged.items; drawn = s.drawn; last_staged = s.last_staged; seat = s.seat; last_given = s.last_given; fulls = s.fulls; broken = Some c.faults.result } }))) c.self.view_is counted

pub returns-in-Ok-clause-length : goal.returns-in-Ok-clause-length
returns-in-Ok-clause-length g c =
    let s = c.self.inside in
    let m : Memory = record { books = s.books; given = s.given.items; parts = s.parts.items; staged = s.staged.items; drawn = s.drawn; last_staged = s.last_staged; seat = s.seat; last_given = s.last_given; fulls = s.fulls; broken = s.broken } in
    let whole : s.broken ≡ None = ap (λ (x : Holding g.row.D.Denot). x.memory.broken) c.self.view_is ∙ c.requires.whole in
    let new = c.read_own.new.disk in
    let same = read_again g.D.Disk.tells g.D.Disk.content g.D.Disk.files s.disk new g.met.D.Disk.reads g.met.D.Disk.told c.read_own.ensures.read in
    let run = c.read_own.ensures.stop in
    let room = length c.args.out.now in
    let out = c.read_own.new.out in
    subst (λ (x : Holding g.row.D.Denot). IfTold (stand_of g.D.Disk.tells g.D.Disk.content g.D.Disk.fault_count g.D.Disk.moment g.D.Disk.images x).state.content (λ a. c.in-Ok.count ≡ min room (length (bytes_of (a.takes c.args.own.now)) - c.args.at))) c.self.view_is
    (if_told g.D.Disk.tells (stored_in (g.D.Disk.content s.disk) m) (λ a. c.in-Ok.count ≡ min room (length (bytes_of (a.takes c.args.own.now)) - c.args.at))
    (λ t. c.in-Ok.ensures.length (g.D.Disk.content s.disk) (g.met.D.Disk.told t s.disk) ∙ ap (λ (f : Option (List ℕ)). min room (length (bytes_of f) - c.args.at)) (sym (own_take (g.D.Disk.content s.disk) c.args.own.now c.requires.take))))

pub returns-in-Ok-clause-told : goal.returns-in-Ok-clause-told
returns-in-Ok-clause-told g c =
    let s = c.self.inside in
    let m : Memory = record { books = s.books; given = s.given.items; parts = s.parts.items; staged = s.staged.items; drawn = s.drawn; last_staged = s.last_staged; seat = s.seat; last_given = s.last_given; fulls = s.fulls; broken = s.broken } in
    let whole : s.broken ≡ None = ap (λ (x : Holding g.row.D.Denot). x.memory.broken) c.self.view_is ∙ c.requires.whole in
    let new = c.read_own.new.disk in
    let same = read_again g.D.Disk.tells g.D.Disk.content g.D.Disk.files s.disk new g.met.D.Disk.reads g.met.D.Disk.told c.read_own.ensures.read in
    let run = c.read_own.ensures.stop in
    let room = length c.args.out.now in
    let out = c.read_own.new.out in
    subst (λ (x : Holding g.row.D.Denot). IfTold (stand_of g.D.Disk.tells g.D.Disk.content g.D.Disk.fault_count g.D.Disk.moment g.D.Disk.images x).state.content (λ a. take c.in-Ok.count out ≡ take room (drop c.args.at (bytes_of (a.takes c.args.own.now))))) c.self.view_is
    (if_told g.D.Disk.tells (stored_in (g.D.Disk.content s.disk) m) (λ a. take c.in-Ok.count out ≡ take room (drop c.args.at (bytes_of (a.takes c.args.own.now))))
    (λ t. c.in-Ok.ensures.told (g.D.Disk.content s.disk) (g.met.D.Disk.told t s.disk) ∙ ap (λ (f : Option (List ℕ)). take room (drop c.args.at (bytes_of f))) (sym (own_take (g.D.Disk.content s.disk) c.args.own.now c.requires.take))))
