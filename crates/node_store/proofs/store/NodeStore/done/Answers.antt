use Rattle.std.proofs.Common.{◌≡◌, ℕ, Some, None, Ok, refl, sym, ◌∙◌, ap, subst}
use Rattle.std.specs.Prelude.{IsSome}
use Rattle.ledger_file.specs.Ledger.{ledger_name}
use Rattle.ledger_rec.specs.Payloads.{record_in}
use Rattle.ledger_rec.specs.Record.{Done}
use Rattle.node_model.specs.declared.store.StoreFault.TheVariants.{Disk}
use Rattle.node_model.specs.Stores.{IsLive, Settle, StoreKept, Well, Refuses}
use Rattle.node_store.specs.Books.{Books}
use Rattle.node_store.specs.Stored.{Holding, Memory, IsSound, stand_of, state_of}
use Rattle.node_store.proofs.AppendTold.{broken_sound}
use Rattle.node_store.proofs.SettleCall.{done_follows, live_entry, settle_kept, settle_sound, settle_failed}
use Rattle.node_store.proofs.OneRecord.{only_content}
use Rattle.node_store.proofs.StillKept.{kept_in, kept_step}
use Rattle.node_store.proofs.HeldTakes.{other_takes, same_takes, step_takes}
use Rattle.node_model.proofs.Lists.{none_some}
use Rattle.node_store.proofs.Alike.{ledger_no_take}
use Rattle.node_store.proofs.store.NodeStore.done.Goals as goal

pub append_record-requires-clause-follows : goal.append_record-requires-clause-follows
append_record-requires-clause-follows g c =
    let s = c.self.inside in
    let m : Memory = record { books = s.books; given = s.given.items; parts = s.parts.items; staged = s.staged.items; drawn = s.drawn; last_staged = s.last_staged; seat = s.seat; last_given = s.last_given; fulls = s.fulls; broken = s.broken } in
    let is_live : IsLive c.args.number (state_of g.D.Disk.tells (g.D.Disk.content s.disk) (g.D.Disk.fault_count s.disk) m) = subst (λ (x : Holding g.row.D.Denot). IsLive c.args.number (stand_of g.D.Disk.tells g.D.Disk.content g.D.Disk.fault_count g.D.Disk.moment g.D.Disk.images x).state) (sym c.self.view_is) c.requires.live in
    let step = done_follows s.books.payloads s.books.folding.state c.args.number c.args.session is_live.entry.key.size c.self.invariant.0.memory.books.folds (live_entry g.D.Disk.tells (g.D.Disk.content s.disk) (g.D.Disk.fault_count s.disk) m c.args.number is_live) c.requires.session in
    subst IsSome (sym step.1) refl

pub invariant_of-self : goal.invariant_of-self
invariant_of-self g c =
    let s = c.self.inside in
    let m : Memory = record { books = s.books; given = s.given.items; parts = s.parts.items; staged = s.staged.items; drawn = s.drawn; last_staged = s.last_staged; seat = s.seat; last_given = s.last_given; fulls = s.fulls; broken = s.broken } in
    let whole : s.broken ≡ None = ap (λ (x : Holding g.row.D.Denot). x.memory.broken) c.self.view_is ∙ c.requires.whole in
    let new = c.append_record.new.disk in
    let b = c.append_record.new.self in
    let payload = c.as_slice.result.now in
    let spells : record_in payload ≡ Ok (Done c.args.number c.args.session) = ap record_in c.as_slice.ensures ∙ c.spell.ensures.spells in
    let only = only_content g.D.Disk.tells g.D.Disk.content g.D.Disk.files ledger_name s.disk new g.met.D.Disk.reads g.met.D.Disk.told c.append_record.ensures.read in
    let made = c.in-Ok.ensures in (
      settle_sound g.D.Disk.tells g.D.Disk.content g.D.Disk.fault_count g.D.Disk.moment g.D.Disk.images s.disk new m c.args.number c.args.session payload c.self.invariant.0 whole spells c.append_record.ensures.stop only b c.append_record.ensures.books made.recorded made.durable made.cause.calm,
      c.spell.ensures.room,
      kept_step s.kept s.given.items s.books.folding.state (Done c.args.number c.args.session) b.folding.state tt made.recorded.folded c.self.invariant.2,
      λ still. same_takes s.takes g.D.Disk.tells (g.D.Disk.content s.disk) (g.D.Disk.content new) (g.D.Disk.fault_count s.disk) (g.D.Disk.fault_count new) m _ _ refl refl (step_takes s.books.folding.state (Done c.args.number c.args.session) b.folding.state tt made.recorded.folded) (λ t. other_takes ledger_name ledger_no_take (g.D.Disk.content s.disk) (g.D.Disk.content new) (only t).others) (c.self.invariant.3 still),
    )

pub returns-in-Ok : goal.returns-in-Ok
returns-in-Ok g c =
    let s = c.self.inside in
    let m : Memory = record { books = s.books; given = s.given.items; parts = s.parts.items; staged = s.staged.items; drawn = s.drawn; last_staged = s.last_staged; seat = s.seat; last_given = s.last_given; fulls = s.fulls; broken = s.broken } in
    let whole : s.broken ≡ None = ap (λ (x : Holding g.row.D.Denot). x.memory.broken) c.self.view_is ∙ c.requires.whole in
    let new = c.append_record.new.disk in
    let b = c.append_record.new.self in
    let payload = c.as_slice.result.now in
    let spells : record_in payload ≡ Ok (Done c.args.number c.args.session) = ap record_in c.as_slice.ensures ∙ c.spell.ensures.spells in
    let only = only_content g.D.Disk.tells g.D.Disk.content g.D.Disk.files ledger_name s.disk new g.met.D.Disk.reads g.met.D.Disk.told c.append_record.ensures.read in
    let made = c.in-Ok.ensures in
    let m' : Memory = record { books = b; given = s.given.items; parts = s.parts.items; staged = s.staged.items; drawn = s.drawn; last_staged = s.last_staged; seat = s.seat; last_given = s.last_given; fulls = s.fulls; broken = s.broken } in
    subst (λ (x : Holding g.row.D.Denot). StoreKept (stand_of g.D.Disk.tells g.D.Disk.content g.D.Disk.fault_count g.D.Disk.moment g.D.Disk.images x) (Settle c.args.number c.args.session) Well (stand_of g.D.Disk.tells g.D.Disk.content g.D.Disk.fault_count g.D.Disk.moment g.D.Disk.images (record { disk = new; takes = s.takes; memory = m' }))) c.self.view_is
    (settle_kept g.D.Disk.tells g.D.Disk.content g.D.Disk.fault_count g.D.Disk.moment g.D.Disk.images s.disk new m c.args.number c.args.session payload c.self.invariant.0 whole spells c.append_record.ensures.stop only b c.append_record.ensures.books made.recorded made.durable made.cause.calm)

pub returns-in-Err : goal.returns-in-Err
returns-in-Err g c =
    let s = c.self.inside in
    let m : Memory = record { books = s.books; given = s.given.items; parts = s.parts.items; staged = s.staged.items; drawn = s.drawn; last_staged = s.last_staged; seat = s.seat; last_given = s.last_given; fulls = s.fulls; broken = s.broken } in
    let whole : s.broken ≡ None = ap (λ (x : Holding g.row.D.Denot). x.memory.broken) c.self.view_is ∙ c.requires.whole in
    let new = c.append_record.new.disk in
    let b = c.append_record.new.self in
    let payload = c.as_slice.result.now in
    let spells : record_in payload ≡ Ok (Done c.args.number c.args.session) = ap record_in c.as_slice.ensures ∙ c.spell.ensures.spells in
    let only = only_content g.D.Disk.tells g.D.Disk.content g.D.Disk.files ledger_name s.disk new g.met.D.Disk.reads g.met.D.Disk.told c.append_record.ensures.read in
    let is_live : IsLive c.args.number (state_of g.D.Disk.tells (g.D.Disk.content s.disk) (g.D.Disk.fault_count s.disk) m) = subst (λ (x : Holding g.row.D.Denot). IsLive c.args.number (stand_of g.D.Disk.tells g.D.Disk.content g.D.Disk.fault_count g.D.Disk.moment g.D.Disk.images x).state) (sym c.self.view_is) c.requires.live in
    let step = done_follows s.books.payloads s.books.folding.state c.args.number c.args.session is_live.entry.key.size c.self.invariant.0.memory.books.folds (live_entry g.D.Disk.tells (g.D.Disk.content s.disk) (g.D.Disk.fault_count s.disk) m c.args.number is_live) c.requires.session in
    let m' : (Books → ℕ → Memory) = λ b k. record { books = b; given = s.given.items; parts = s.parts.items; staged = s.staged.items; drawn = s.drawn; last_staged = s.last_staged; seat = s.seat; last_given = s.last_given; fulls = s.fulls; broken = Some k } in
    let failed = settle_failed g.D.Disk.tells g.D.Disk.content g.D.Disk.fault_count g.D.Disk.moment g.D.Disk.images s.disk new m c.args.number c.args.session payload c.self.invariant.0 whole spells c.append_record.ensures.stop only step.0 step.1 c.in-Err.ensures.cause.failed in
    let counted = subst (λ (k : ℕ). StoreKept (stand_of g.D.Disk.tells g.D.Disk.content g.D.Disk.fault_count g.D.Disk.moment g.D.Disk.images (record { disk = s.disk; takes = s.takes; memory = m })) (Settle c.args.number c.args.session) (Refuses Disk) (stand_of g.D.Disk.tells g.D.Disk.content g.D.Disk.fault_count g.D.Disk.moment g.D.Disk.images (record { disk = new; takes = s.takes; memory = m' s.books k }))) (sym c.faults.ensures) failed in
    let same = subst (λ (b : Books). StoreKept (stand_of g.D.Disk.tells g.D.Disk.content g.D.Disk.fault_count g.D.Disk.moment g.D.Disk.images (record { disk = s.disk; takes = s.takes; memory = m })) (Settle c.args.number c.args.session) (Refuses Disk) (stand_of g.D.Disk.tells g.D.Disk.content g.D.Disk.fault_count g.D.Disk.moment g.D.Disk.images (record { disk = new; takes = s.takes; memory = m' b c.faults.result }))) (sym c.in-Err.ensures.same) counted in
    subst (λ (x : Holding g.row.D.Denot). StoreKept (stand_of g.D.Disk.tells g.D.Disk.content g.D.Disk.fault_count g.D.Disk.moment g.D.Disk.images x) (Settle c.args.number c.args.session) (Refuses Disk) (stand_of g.D.Disk.tells g.D.Disk.content g.D.Disk.fault_count g.D.Disk.moment g.D.Disk.images (record { disk = new; takes = s.takes; memory = m' b c.faults.result }))) c.self.view_is same

pub invariant_of-self-in-Err : goal.invariant_of-self-in-Err
invariant_of-self-in-Err g c =
    let s = c.self.inside in
    let m : Memory = record { books = s.books; given = s.given.items; parts = s.parts.items; staged = s.staged.items; drawn = s.drawn; last_staged = s.last_staged; seat = s.seat; last_given = s.last_given; fulls = s.fulls; broken = s.broken } in
    let same : s.books ≡ c.append_record.new.self = sym c.in-Err.ensures.same in
    let sound = broken_sound g.D.Disk.tells g.D.Disk.content g.D.Disk.moment g.D.Disk.images c.append_record.new.disk m c.faults.result c.self.invariant.0.memory in
    (subst (λ (b : Books). IsSound g.D.Disk.tells g.D.Disk.content g.D.Disk.moment g.D.Disk.images c.append_record.new.disk (record m { books = b; broken = Some c.faults.result })) same sound, c.spell.ensures.room, kept_in s.kept s.given.items s.books c.append_record.new.self (ap (λ (x : Books). x.folding.state) c.in-Err.ensures.same) c.self.invariant.2, λ still. none_some (sym still))
