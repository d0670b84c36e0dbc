use Rattle.std.proofs.Common.{◌≡◌, ℕ, ◌-◌, List, [], ◌∷◌, ◌++◌, Option, Some, None, Ok, true, refl, sym, ◌∙◌, ap, subst}
use Rattle.std.specs.Prelude.{IsSome}
use Rattle.std.specs.List.{AllByRecursion}
use Rattle.ftn_addr.specs.Address.{address}
use Rattle.ftn_addr.specs.Key.{key_of}
use Rattle.disk_model.specs.Changes.{Every}
use Rattle.disk_model.specs.Moments.{Now}
use Rattle.ledger_file.specs.Ledger.{LedgerIs}
use Rattle.ledger_rec.specs.Fold.{State, fold_step, is_held, with_refusal}
use Rattle.ledger_rec.specs.Items.{Hold}
use Rattle.ledger_rec.specs.Limits.{Fits}
use Rattle.ledger_rec.specs.Payloads.{record_in}
use Rattle.ledger_rec.specs.Record.{RecordText, RefusedText, Refused}
use Rattle.node_model.specs.declared.store.StoreFault.TheVariants.{Disk, NoMemory}
use Rattle.node_model.specs.declared.words.Known.TheVariants.{New}
use Rattle.node_model.specs.Stocks.{known_in}
use Rattle.node_model.specs.Stores.{StoreKept, Refuse_file, Well, Refuses}
use Rattle.node_model.proofs.Lists.{some_inj}
use Rattle.node_store.specs.Beginnings.{without_file}
use Rattle.node_store.specs.Books.{Books, IsBooks}
use Rattle.node_store.specs.Recording.{IsRecorded}
use Rattle.node_store.specs.Stored.{Holding, Memory, Part, IsSound, sizes_in, stand_of}
use Rattle.node_store.specs.Tied.{orderly_true}
use Rattle.node_store.proofs.Calls.{still_call}
use Rattle.node_store.proofs.Committed.{memory_broken}
use Rattle.node_store.proofs.OpenCall.{parts_held}
use Rattle.node_store.proofs.OpenTold.{unknown_folded}
use Rattle.node_store.proofs.PartRecord.{broken_sound}
use Rattle.node_store.proofs.RefuseCall.{IsRefusing, refused_step, reason_fits, refuse_failed, refuse_kept, refuse_sound}
use Rattle.node_store.proofs.StillKept.{kept_in, kept_same}
use Rattle.node_store.proofs.HeldTakes.{other_takes, same_takes}
use Rattle.node_model.proofs.Lists.{none_some}
use Rattle.node_store.proofs.Alike.{ledger_no_take}
use Rattle.ledger_file.specs.Ledger.{ledger_name}
use Rattle.node_store.proofs.OneRecord.{only_content}
use Rattle.node_store.proofs.store.NodeStore.refuse.Goals as goal

pub returns-in_default : goal.returns-in_default
returns-in_default g c =
    let s = c.self.inside in
    let m : Memory = record { books = s.books; given = s.given.items; parts = s.parts.items; staged = s.staged.items; drawn = s.drawn; last_staged = s.last_staged; seat = s.seat; last_given = s.last_given; fulls = s.fulls; broken = s.broken } in
    let is = c.self.invariant.0.memory in
    let from = address c.args.from.now in
    let key = key_of c.args.key.now in
    let r : RefusedText = record { from = from; key = key; session = c.args.session; reason = c.args.reason } in
    let whole : s.broken ≡ None = ap (λ (x : Holding g.row.D.Denot). x.memory.broken) c.self.view_is ∙ c.requires.whole in
    let kept = still_call g.D.Disk.tells g.D.Disk.content g.D.Disk.fault_count g.D.Disk.moment g.D.Disk.images s.disk m m (Refuse_file from key c.args.session c.args.reason) (Refuses NoMemory) is.books.folds c.self.invariant.0.kept refl (tt, refl) in
    subst (λ (x : Holding g.row.D.Denot). StoreKept (stand_of g.D.Disk.tells g.D.Disk.content g.D.Disk.fault_count g.D.Disk.moment g.D.Disk.images x) (Refuse_file from key c.args.session c.args.reason) (Refuses NoMemory) (stand_of g.D.Disk.tells g.D.Disk.content g.D.Disk.fault_count g.D.Disk.moment g.D.Disk.images x)) c.self.view_is kept

pub spell-requires-clause-fits : goal.spell-requires-clause-fits
spell-requires-clause-fits g c =
    subst Fits (sym c.in-Ok.ensures) (reason_fits (record { from = address c.args.from.now; key = key_of c.args.key.now; session = c.args.session; reason = c.args.reason }) c.requires.address_limits c.requires.key_limits c.requires.reason)

pub append_record-requires-clause-follows : goal.append_record-requires-clause-follows
append_record-requires-clause-follows g c =
    let s = c.self.inside in
    let m : Memory = record { books = s.books; given = s.given.items; parts = s.parts.items; staged = s.staged.items; drawn = s.drawn; last_staged = s.last_staged; seat = s.seat; last_given = s.last_given; fulls = s.fulls; broken = s.broken } in
    let is = c.self.invariant.0.memory in
    let from = address c.args.from.now in
    let key = key_of c.args.key.now in
    let r : RefusedText = record { from = from; key = key; session = c.args.session; reason = c.args.reason } in
    let unknown = unknown_folded (sizes_in g.D.Disk.tells (g.D.Disk.content s.disk) s.given.items) from key s.books.folding.state (subst (λ (x : Holding g.row.D.Denot). known_in from key (stand_of g.D.Disk.tells g.D.Disk.content g.D.Disk.fault_count g.D.Disk.moment g.D.Disk.images x).state.stock.state ≡ New) (sym c.self.view_is) c.requires.unknown) in
    let follows = ap (fold_step s.books.folding.state) c.in-Ok.ensures ∙ refused_step s.books.folding.state r c.requires.session unknown in
    subst (λ (x : Option State). IsSome x) (sym follows) refl

pub append_record-requires-clause-ready : goal.append_record-requires-clause-ready
append_record-requires-clause-ready g c =
    let s = c.self.inside in
    let whole : s.broken ≡ None = ap (λ (x : Holding g.row.D.Denot). x.memory.broken) c.self.view_is ∙ c.requires.whole in
    λ w now. (c.self.invariant.0.kept whole w now).ledger

pub close_file-requires-clause-apart : goal.close_file-requires-clause-apart
close_file-requires-clause-apart g c =
    (orderly_true c.self.inside.drawn c.self.inside.parts.items c.self.invariant.0.memory.orderly).0

pub close_file-requires-clause-held : goal.close_file-requires-clause-held
close_file-requires-clause-held g c =
    let s = c.self.inside in
    let m : Memory = record { books = s.books; given = s.given.items; parts = s.parts.items; staged = s.staged.items; drawn = s.drawn; last_staged = s.last_staged; seat = s.seat; last_given = s.last_given; fulls = s.fulls; broken = s.broken } in
    let is = c.self.invariant.0.memory in
    subst (λ (hs : List Hold). AllByRecursion (λ (x : Part). is_held x.from x.key hs ≡ true) s.parts.items) (sym c.in-Ok-append_record.ensures.recorded.holds) (parts_held m is)

pub invariant_of-self : goal.invariant_of-self
invariant_of-self g c =
    let s = c.self.inside in
    let m : Memory = record { books = s.books; given = s.given.items; parts = s.parts.items; staged = s.staged.items; drawn = s.drawn; last_staged = s.last_staged; seat = s.seat; last_given = s.last_given; fulls = s.fulls; broken = s.broken } in
    let is = c.self.invariant.0.memory in
    let from = address c.args.from.now in
    let key = key_of c.args.key.now in
    let r : RefusedText = record { from = from; key = key; session = c.args.session; reason = c.args.reason } in
    let whole : s.broken ≡ None = ap (λ (x : Holding g.row.D.Denot). x.memory.broken) c.self.view_is ∙ c.requires.whole in
    let unknown = unknown_folded (sizes_in g.D.Disk.tells (g.D.Disk.content s.disk) s.given.items) from key s.books.folding.state (subst (λ (x : Holding g.row.D.Denot). known_in from key (stand_of g.D.Disk.tells g.D.Disk.content g.D.Disk.fault_count g.D.Disk.moment g.D.Disk.images x).state.stock.state ≡ New) (sym c.self.view_is) c.requires.unknown) in
    let payload = c.as_slice.result.now in
    let new = c.append_record.new.disk in
    let spells : record_in payload ≡ Ok (Refused r) = ap record_in c.as_slice.ensures ∙ c.spell.ensures.spells ∙ ap Ok c.in-Ok.ensures in
    let p : IsRefusing g.D.Disk.tells g.D.Disk.content g.D.Disk.files g.D.Disk.moment g.D.Disk.images s.disk new m r payload =
    record { sound = c.self.invariant.0; whole = whole; in_session = c.requires.session; unknown = unknown; reads = g.met.D.Disk.reads; told = g.met.D.Disk.told; read = c.append_record.ensures.read; run = c.append_record.ensures.stop; spells = spells } in
    let b = c.close_file.new.books in
    let mid = c.append_record.new.self in
    let recorded = subst (λ (x : RecordText). IsRecorded payload x s.seat s.books mid) c.in-Ok.ensures c.in-Ok-append_record.ensures.recorded in
    let same = c.close_file.ensures.same in
    let payloads : b.payloads ≡ s.books.payloads ++ payload ∷ [] = ap (λ (x : Books). x.payloads) same ∙ recorded.payloads in
    let places : b.reserved ≡ s.books.reserved - 1 = ap (λ (x : Books). x.reserved) same ∙ recorded.places in
    let opened : b.opened ≡ s.books.opened = ap (λ (x : Books). x.opened) same ∙ recorded.opened in
    let seats : b.seats ≡ s.books.seats ++ s.seat ∷ [] = ap (λ (x : Books). x.seats) same ∙ recorded.seats in
    let folded : b.folding.state ≡ with_refusal r s.books.folding.state = ap (λ (x : Books). x.folding.state) same ∙ some_inj (sym recorded.folded ∙ refused_step s.books.folding.state r c.requires.session unknown) in
    let durable = subst (λ (l : List (List ℕ)). Every (Now g.D.Disk.moment g.D.Disk.images new) (LedgerIs l)) (sym (ap (λ (x : Books). x.payloads) same)) c.in-Ok-append_record.ensures.durable in
    let parts : without_file from key s.parts.items ≡ c.close_file.new.parts.items = sym c.close_file.ensures.parts in
    let books : IsBooks b = subst IsBooks (sym same) (let mid_books = c.append_record.ensures.books in record { folds = mid_books.folds; room = mid_books.room; since = mid_books.since }) in
    let held = subst (λ (ps : List Part). AllByRecursion (λ (x : Part). is_held x.from x.key b.folding.holds ≡ true) ps) (sym parts) c.close_file.ensures.held in
    let sound = refuse_sound g.D.Disk.tells g.D.Disk.content g.D.Disk.files g.D.Disk.fault_count g.D.Disk.moment g.D.Disk.images s.disk new m r payload p b payloads places opened seats folded c.in-Ok-append_record.ensures.cause.calm durable books held in
    (subst (λ (ps : List Part). IsSound g.D.Disk.tells g.D.Disk.content g.D.Disk.moment g.D.Disk.images new (record m { books = b; parts = ps })) parts sound, c.spell.ensures.room, kept_same s.kept s.given.items s.books.folding.state.inbox b.folding.state.inbox (ap (λ (x : State). x.inbox) folded) c.self.invariant.2, λ still. same_takes s.takes g.D.Disk.tells (g.D.Disk.content s.disk) (g.D.Disk.content new) (g.D.Disk.fault_count s.disk) (g.D.Disk.fault_count new) m _ _ refl refl (ap (λ (x : State). x.takes) folded) (λ t. other_takes ledger_name ledger_no_take (g.D.Disk.content s.disk) (g.D.Disk.content new) (only_content g.D.Disk.tells g.D.Disk.content g.D.Disk.files ledger_name s.disk new g.met.D.Disk.reads g.met.D.Disk.told c.append_record.ensures.read t).others) (c.self.invariant.3 still))

pub invariant_of-self-in-Err : goal.invariant_of-self-in-Err
invariant_of-self-in-Err g c =
    let s = c.self.inside in
    let m : Memory = record { books = s.books; given = s.given.items; parts = s.parts.items; staged = s.staged.items; drawn = s.drawn; last_staged = s.last_staged; seat = s.seat; last_given = s.last_given; fulls = s.fulls; broken = s.broken } in
    let is = c.self.invariant.0.memory in
    let sound = broken_sound g.D.Disk.tells g.D.Disk.content g.D.Disk.moment g.D.Disk.images c.append_record.new.disk (record m { broken = Some c.faults.result }) c.faults.result refl (memory_broken m c.faults.result is) in
    (subst (λ (b : Books). IsSound g.D.Disk.tells g.D.Disk.content g.D.Disk.moment g.D.Disk.images c.append_record.new.disk (record m { books = b; broken = Some c.faults.result })) (sym c.in-Err.ensures.same) sound, c.spell.ensures.room, kept_in s.kept s.given.items s.books c.append_record.new.self (ap (λ (x : Books). x.folding.state) c.in-Err.ensures.same) c.self.invariant.2, λ still. none_some (sym still))

pub returns-in-Ok-append_record : goal.returns-in-Ok-append_record
returns-in-Ok-append_record g c =
    let s = c.self.inside in
    let m : Memory = record { books = s.books; given = s.given.items; parts = s.parts.items; staged = s.staged.items; drawn = s.drawn; last_staged = s.last_staged; seat = s.seat; last_given = s.last_given; fulls = s.fulls; broken = s.broken } in
    let is = c.self.invariant.0.memory in
    let from = address c.args.from.now in
    let key = key_of c.args.key.now in
    let r : RefusedText = record { from = from; key = key; session = c.args.session; reason = c.args.reason } in
    let whole : s.broken ≡ None = ap (λ (x : Holding g.row.D.Denot). x.memory.broken) c.self.view_is ∙ c.requires.whole in
    let unknown = unknown_folded (sizes_in g.D.Disk.tells (g.D.Disk.content s.disk) s.given.items) from key s.books.folding.state (subst (λ (x : Holding g.row.D.Denot). known_in from key (stand_of g.D.Disk.tells g.D.Disk.content g.D.Disk.fault_count g.D.Disk.moment g.D.Disk.images x).state.stock.state ≡ New) (sym c.self.view_is) c.requires.unknown) in
    let payload = c.as_slice.result.now in
    let new = c.append_record.new.disk in
    let spells : record_in payload ≡ Ok (Refused r) = ap record_in c.as_slice.ensures ∙ c.spell.ensures.spells ∙ ap Ok c.in-Ok.ensures in
    let p : IsRefusing g.D.Disk.tells g.D.Disk.content g.D.Disk.files g.D.Disk.moment g.D.Disk.images s.disk new m r payload =
    record { sound = c.self.invariant.0; whole = whole; in_session = c.requires.session; unknown = unknown; reads = g.met.D.Disk.reads; told = g.met.D.Disk.told; read = c.append_record.ensures.read; run = c.append_record.ensures.stop; spells = spells } in
    let b = c.close_file.new.books in
    let mid = c.append_record.new.self in
    let recorded = subst (λ (x : RecordText). IsRecorded payload x s.seat s.books mid) c.in-Ok.ensures c.in-Ok-append_record.ensures.recorded in
    let same = c.close_file.ensures.same in
    let payloads : b.payloads ≡ s.books.payloads ++ payload ∷ [] = ap (λ (x : Books). x.payloads) same ∙ recorded.payloads in
    let places : b.reserved ≡ s.books.reserved - 1 = ap (λ (x : Books). x.reserved) same ∙ recorded.places in
    let opened : b.opened ≡ s.books.opened = ap (λ (x : Books). x.opened) same ∙ recorded.opened in
    let seats : b.seats ≡ s.books.seats ++ s.seat ∷ [] = ap (λ (x : Books). x.seats) same ∙ recorded.seats in
    let folded : b.folding.state ≡ with_refusal r s.books.folding.state = ap (λ (x : Books). x.folding.state) same ∙ some_inj (sym recorded.folded ∙ refused_step s.books.folding.state r c.requires.session unknown) in
    let durable = subst (λ (l : List (List ℕ)). Every (Now g.D.Disk.moment g.D.Disk.images new) (LedgerIs l)) (sym (ap (λ (x : Books). x.payloads) same)) c.in-Ok-append_record.ensures.durable in
    let parts : without_file from key s.parts.items ≡ c.close_file.new.parts.items = sym c.close_file.ensures.parts in
    let kept = refuse_kept g.D.Disk.tells g.D.Disk.content g.D.Disk.files g.D.Disk.fault_count g.D.Disk.moment g.D.Disk.images s.disk new m r payload p b payloads places opened seats folded c.in-Ok-append_record.ensures.cause.calm durable in
    let moved = subst (λ (ps : List Part). StoreKept (stand_of g.D.Disk.tells g.D.Disk.content g.D.Disk.fault_count g.D.Disk.moment g.D.Disk.images (record { disk = s.disk; takes = s.takes; memory = m })) (Refuse_file from key c.args.session c.args.reason) Well (stand_of g.D.Disk.tells g.D.Disk.content g.D.Disk.fault_count g.D.Disk.moment g.D.Disk.images (record { disk = new; takes = s.takes; memory = record m { books = b; parts = ps } }))) parts kept in
    subst (λ (x : Holding g.row.D.Denot). StoreKept (stand_of g.D.Disk.tells g.D.Disk.content g.D.Disk.fault_count g.D.Disk.moment g.D.Disk.images x) (Refuse_file from key c.args.session c.args.reason) Well (stand_of g.D.Disk.tells g.D.Disk.content g.D.Disk.fault_count g.D.Disk.moment g.D.Disk.images (record { disk = new; takes = s.takes; memory = record m { books = b; parts = c.close_file.new.parts.items } }))) c.self.view_is moved

pub returns-in-Err : goal.returns-in-Err
returns-in-Err g c =
    let s = c.self.inside in
    let m : Memory = record { books = s.books; given = s.given.items; parts = s.parts.items; staged = s.staged.items; drawn = s.drawn; last_staged = s.last_staged; seat = s.seat; last_given = s.last_given; fulls = s.fulls; broken = s.broken } in
    let is = c.self.invariant.0.memory in
    let from = address c.args.from.now in
    let key = key_of c.args.key.now in
    let r : RefusedText = record { from = from; key = key; session = c.args.session; reason = c.args.reason } in
    let whole : s.broken ≡ None = ap (λ (x : Holding g.row.D.Denot). x.memory.broken) c.self.view_is ∙ c.requires.whole in
    let unknown = unknown_folded (sizes_in g.D.Disk.tells (g.D.Disk.content s.disk) s.given.items) from key s.books.folding.state (subst (λ (x : Holding g.row.D.Denot). known_in from key (stand_of g.D.Disk.tells g.D.Disk.content g.D.Disk.fault_count g.D.Disk.moment g.D.Disk.images x).state.stock.state ≡ New) (sym c.self.view_is) c.requires.unknown) in
    let payload = c.as_slice.result.now in
    let new = c.append_record.new.disk in
    let spells : record_in payload ≡ Ok (Refused r) = ap record_in c.as_slice.ensures ∙ c.spell.ensures.spells ∙ ap Ok c.in-Ok.ensures in
    let p : IsRefusing g.D.Disk.tells g.D.Disk.content g.D.Disk.files g.D.Disk.moment g.D.Disk.images s.disk new m r payload =
    record { sound = c.self.invariant.0; whole = whole; in_session = c.requires.session; unknown = unknown; reads = g.met.D.Disk.reads; told = g.met.D.Disk.told; read = c.append_record.ensures.read; run = c.append_record.ensures.stop; spells = spells } in
    let failed = subst (λ (k : ℕ). StoreKept (stand_of g.D.Disk.tells g.D.Disk.content g.D.Disk.fault_count g.D.Disk.moment g.D.Disk.images (record { disk = s.disk; takes = s.takes; memory = m })) (Refuse_file from key c.args.session c.args.reason) (Refuses Disk) (stand_of g.D.Disk.tells g.D.Disk.content g.D.Disk.fault_count g.D.Disk.moment g.D.Disk.images (record { disk = new; takes = s.takes; memory = record m { broken = Some k } }))) (sym c.faults.ensures) (refuse_failed g.D.Disk.tells g.D.Disk.content g.D.Disk.files g.D.Disk.fault_count g.D.Disk.moment g.D.Disk.images s.disk new m r payload p c.in-Err.ensures.cause.failed) in
    let booked = subst (λ (b : Books). StoreKept (stand_of g.D.Disk.tells g.D.Disk.content g.D.Disk.fault_count g.D.Disk.moment g.D.Disk.images (record { disk = s.disk; takes = s.takes; memory = m })) (Refuse_file from key c.args.session c.args.reason) (Refuses Disk) (stand_of g.D.Disk.tells g.D.Disk.content g.D.Disk.fault_count g.D.Disk.moment g.D.Disk.images (record { disk = new; takes = s.takes; memory = record m { books = b; broken = Some c.faults.result } }))) (sym c.in-Err.ensures.same) failed in
    subst (λ (x : Holding g.row.D.Denot). StoreKept (stand_of g.D.Disk.tells g.D.Disk.content g.D.Disk.fault_count g.D.Disk.moment g.D.Disk.images x) (Refuse_file from key c.args.session c.args.reason) (Refuses Disk) (stand_of g.D.Disk.tells g.D.Disk.content g.D.Disk.fault_count g.D.Disk.moment g.D.Disk.images (record { disk = new; takes = s.takes; memory = record m { books = c.append_record.new.self; broken = Some c.faults.result } }))) c.self.view_is booked
