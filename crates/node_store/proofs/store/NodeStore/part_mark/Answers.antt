use Rattle.std.proofs.Common.{◌≡◌, ℕ, nat_lt, List, [], ◌∷◌, set, Option, Some, None, Ok, refl, sym, ◌∙◌, ap, subst, arith}
use Rattle.std.specs.Prelude.{find, position, IsSome}
use Rattle.disk_model.specs.Changes.{Every}
use Rattle.disk_model.specs.Moments.{Leaves, Now}
use Rattle.ledger_rec.specs.Fold.{Folding}
use Rattle.ledger_rec.specs.Payloads.{record_in}
use Rattle.ledger_rec.specs.Record.{Mark}
use Rattle.node_model.specs.declared.store.StoreFault.TheVariants.{Disk}
use Rattle.node_model.specs.Durable.{mark_of}
use Rattle.node_model.specs.Stocks.{begins_with}
use Rattle.node_model.specs.Stores.{StoreKept, Part_mark, IsOpen, Well, Refuses}
use Rattle.node_model.proofs.Lists.{some_inj}
use Rattle.node_store.specs.Books.{Books}
use Rattle.node_store.specs.Contents.{durable_by}
use Rattle.node_store.specs.Names.{in_name}
use Rattle.node_store.specs.Recording.{IsRecorded, IsSynced, Records}
use Rattle.node_store.specs.Stored.{Holding, Memory, Part, IsMarking, IsPart, IsSound, all_marked, mark_text, marks_all, sizes_in, stand_of, state_of}
use Rattle.node_store.proofs.Calls.{still_call}
use Rattle.node_store.proofs.ClosedParts.{has_number, found_at, somewhere}
use Rattle.node_store.proofs.MarkCall.{IsMarkCall, marking, mark_stays, mark_kept, mark_sound, mark_failed, failed_mark_sound}
use Rattle.node_store.proofs.PutCall.{all_found, open_part, stands}
use Rattle.node_store.proofs.ReplacedParts.{replaced, set_at}
use Rattle.node_store.proofs.StillKept.{kept_in, kept_step}
use Rattle.node_store.proofs.HeldTakes.{other_takes, same_takes, step_takes}
use Rattle.node_model.proofs.Lists.{none_some}
use Rattle.node_store.proofs.Alike.{ledger_no_take}
use Rattle.ledger_file.specs.Ledger.{ledger_name}
use Rattle.node_store.proofs.OneRecord.{only_content}
use Rattle.node_store.proofs.store.NodeStore.part_mark.Goals as goal

pub unreachable-requires : goal.unreachable-requires
unreachable-requires g c =
    let s = c.self.inside in
    let m : Memory = record { books = s.books; given = s.given.items; parts = s.parts.items; staged = s.staged.items; drawn = s.drawn; last_staged = s.last_staged; seat = s.seat; last_given = s.last_given; fulls = s.fulls; broken = s.broken } in
    let is = c.self.invariant.0.memory in
    let is_open : IsOpen c.args.part 0 (state_of g.D.Disk.tells (g.D.Disk.content s.disk) (g.D.Disk.fault_count s.disk) m) = subst (λ (x : Holding g.row.D.Denot). IsOpen c.args.part 0 (stand_of g.D.Disk.tells g.D.Disk.content g.D.Disk.fault_count g.D.Disk.moment g.D.Disk.images x).state) (sym c.self.view_is) c.requires.is_open in
    let o = open_part g.D.Disk.tells (g.D.Disk.content s.disk) (g.D.Disk.fault_count s.disk) m c.args.part 0 is is_open in
    let none : position (has_number c.args.part) s.parts.items ≡ None = ap (position (has_number c.args.part)) (sym c.as_slice.ensures.value) ∙ sym c.place_of.ensures ∙ c.in_default.is in
    somewhere c.args.part s.parts.items (subst (λ (x : Option Part). IsSome x) (sym o.found) refl) none

pub returns-then-not-is_ahead : goal.returns-then-not-is_ahead
returns-then-not-is_ahead g c =
    let s = c.self.inside in
    let m : Memory = record { books = s.books; given = s.given.items; parts = s.parts.items; staged = s.staged.items; drawn = s.drawn; last_staged = s.last_staged; seat = s.seat; last_given = s.last_given; fulls = s.fulls; broken = s.broken } in
    let is = c.self.invariant.0.memory in
    let q = c.index.result.now in
    let place = c.in-Some.place in
    let at : position (has_number c.args.part) s.parts.items ≡ Some place = ap (position (has_number c.args.part)) (sym c.as_slice.ensures.value) ∙ sym c.place_of.ensures ∙ c.in-Some.is in
    let first : find (has_number c.args.part) s.parts.items ≡ Some q = found_at c.args.part s.parts.items place q at ∙ ap Some (sym c.index.ensures) in
    let numbered = (all_found (IsPart s.books.folding) c.args.part s.parts.items q is.parts first).1 in
    let found : find (has_number q.number) s.parts.items ≡ Some q = ap (λ (k : ℕ). find (has_number k) s.parts.items) numbered ∙ first in
    let ahead : c.is_ahead.result ≡ nat_lt (begins_with 0 (mark_of q.from q.key (durable_by (sizes_in g.D.Disk.tells (g.D.Disk.content s.disk) s.given.items) s.books.folding.state))) q.have =
    c.is_ahead.ensures g.D.Disk.tells (g.D.Disk.content s.disk) s.given.items ∙ ap (λ (f : Folding). nat_lt (begins_with 0 (mark_of q.from q.key (durable_by (sizes_in g.D.Disk.tells (g.D.Disk.content s.disk) s.given.items) f.state))) q.have) c.folded.ensures in
    let no_more = sym ahead ∙ c.if-not-is_ahead.true in
    let kept = still_call g.D.Disk.tells g.D.Disk.content g.D.Disk.fault_count g.D.Disk.moment g.D.Disk.images s.disk m m (Part_mark q.number) Well is.books.folds c.self.invariant.0.kept refl (mark_stays g.D.Disk.tells (g.D.Disk.content s.disk) (g.D.Disk.fault_count s.disk) m q is found no_more) in
    let numbered_so = subst (λ (k : ℕ). StoreKept (stand_of g.D.Disk.tells g.D.Disk.content g.D.Disk.fault_count g.D.Disk.moment g.D.Disk.images (record { disk = s.disk; takes = s.takes; memory = m })) (Part_mark k) Well (stand_of g.D.Disk.tells g.D.Disk.content g.D.Disk.fault_count g.D.Disk.moment g.D.Disk.images (record { disk = s.disk; takes = s.takes; memory = m }))) numbered kept in
    subst (λ (x : Holding g.row.D.Denot). StoreKept (stand_of g.D.Disk.tells g.D.Disk.content g.D.Disk.fault_count g.D.Disk.moment g.D.Disk.images x) (Part_mark c.args.part) Well (stand_of g.D.Disk.tells g.D.Disk.content g.D.Disk.fault_count g.D.Disk.moment g.D.Disk.images x)) c.self.view_is numbered_so

pub mark_part-requires-clause-marking : goal.mark_part-requires-clause-marking
mark_part-requires-clause-marking g c =
    let s = c.self.inside in
    let m : Memory = record { books = s.books; given = s.given.items; parts = s.parts.items; staged = s.staged.items; drawn = s.drawn; last_staged = s.last_staged; seat = s.seat; last_given = s.last_given; fulls = s.fulls; broken = s.broken } in
    let is = c.self.invariant.0.memory in
    let q = c.index.result.now in
    let place = c.in-Some.place in
    let at : position (has_number c.args.part) s.parts.items ≡ Some place = ap (position (has_number c.args.part)) (sym c.as_slice.ensures.value) ∙ sym c.place_of.ensures ∙ c.in-Some.is in
    let first : find (has_number c.args.part) s.parts.items ≡ Some q = found_at c.args.part s.parts.items place q at ∙ ap Some (sym c.index.ensures) in
    let numbered = (all_found (IsPart s.books.folding) c.args.part s.parts.items q is.parts first).1 in
    let found : find (has_number q.number) s.parts.items ≡ Some q = ap (λ (k : ℕ). find (has_number k) s.parts.items) numbered ∙ first in
    let ahead : c.is_ahead.result ≡ nat_lt (begins_with 0 (mark_of q.from q.key (durable_by (sizes_in g.D.Disk.tells (g.D.Disk.content s.disk) s.given.items) s.books.folding.state))) q.have =
    c.is_ahead.ensures g.D.Disk.tells (g.D.Disk.content s.disk) s.given.items ∙ ap (λ (f : Folding). nat_lt (begins_with 0 (mark_of q.from q.key (durable_by (sizes_in g.D.Disk.tells (g.D.Disk.content s.disk) s.given.items) f.state))) q.have) c.folded.ensures in
    let item : c.index_mut.result.now ≡ q = c.index_mut.ensures.value ∙ some_inj (sym (found_at c.args.part s.parts.items place c.index_mut.result.now at) ∙ first) in
    let more = sym ahead ∙ c.if-not-is_ahead.false in
    subst (IsMarking s.books.folding.state) (sym item) (marking g.D.Disk.tells (g.D.Disk.content s.disk) (g.D.Disk.fault_count s.disk) m q is found more)

pub mark_part-requires-clause-stands : goal.mark_part-requires-clause-stands
mark_part-requires-clause-stands g c =
    let s = c.self.inside in
    let m : Memory = record { books = s.books; given = s.given.items; parts = s.parts.items; staged = s.staged.items; drawn = s.drawn; last_staged = s.last_staged; seat = s.seat; last_given = s.last_given; fulls = s.fulls; broken = s.broken } in
    let is = c.self.invariant.0.memory in
    let q = c.index.result.now in
    let place = c.in-Some.place in
    let at : position (has_number c.args.part) s.parts.items ≡ Some place = ap (position (has_number c.args.part)) (sym c.as_slice.ensures.value) ∙ sym c.place_of.ensures ∙ c.in-Some.is in
    let first : find (has_number c.args.part) s.parts.items ≡ Some q = found_at c.args.part s.parts.items place q at ∙ ap Some (sym c.index.ensures) in
    let numbered = (all_found (IsPart s.books.folding) c.args.part s.parts.items q is.parts first).1 in
    let found : find (has_number q.number) s.parts.items ≡ Some q = ap (λ (k : ℕ). find (has_number k) s.parts.items) numbered ∙ first in
    let ahead : c.is_ahead.result ≡ nat_lt (begins_with 0 (mark_of q.from q.key (durable_by (sizes_in g.D.Disk.tells (g.D.Disk.content s.disk) s.given.items) s.books.folding.state))) q.have =
    c.is_ahead.ensures g.D.Disk.tells (g.D.Disk.content s.disk) s.given.items ∙ ap (λ (f : Folding). nat_lt (begins_with 0 (mark_of q.from q.key (durable_by (sizes_in g.D.Disk.tells (g.D.Disk.content s.disk) s.given.items) f.state))) q.have) c.folded.ensures in
    let item : c.index_mut.result.now ≡ q = c.index_mut.ensures.value ∙ some_inj (sym (found_at c.args.part s.parts.items place c.index_mut.result.now at) ∙ first) in
    let more = sym ahead ∙ c.if-not-is_ahead.false in
    let whole : s.broken ≡ None = ap (λ (x : Holding g.row.D.Denot). x.memory.broken) c.self.view_is ∙ c.requires.whole in
    λ w read.
    let there = stands g.D.Disk.tells g.D.Disk.content g.D.Disk.files g.D.Disk.moment g.D.Disk.images s.disk m q c.self.invariant.0 whole found g.met.D.Disk.reads w read in
    (there.0, ap (λ (x : Part). w.own (in_name x.number)) item ∙ there.1, omega arith)

pub invariant_of-self : goal.invariant_of-self
invariant_of-self g c =
    let s = c.self.inside in
    let m : Memory = record { books = s.books; given = s.given.items; parts = s.parts.items; staged = s.staged.items; drawn = s.drawn; last_staged = s.last_staged; seat = s.seat; last_given = s.last_given; fulls = s.fulls; broken = s.broken } in
    let is = c.self.invariant.0.memory in
    let q = c.index.result.now in
    let place = c.in-Some.place in
    let at : position (has_number c.args.part) s.parts.items ≡ Some place = ap (position (has_number c.args.part)) (sym c.as_slice.ensures.value) ∙ sym c.place_of.ensures ∙ c.in-Some.is in
    let first : find (has_number c.args.part) s.parts.items ≡ Some q = found_at c.args.part s.parts.items place q at ∙ ap Some (sym c.index.ensures) in
    let numbered = (all_found (IsPart s.books.folding) c.args.part s.parts.items q is.parts first).1 in
    let found : find (has_number q.number) s.parts.items ≡ Some q = ap (λ (k : ℕ). find (has_number k) s.parts.items) numbered ∙ first in
    let ahead : c.is_ahead.result ≡ nat_lt (begins_with 0 (mark_of q.from q.key (durable_by (sizes_in g.D.Disk.tells (g.D.Disk.content s.disk) s.given.items) s.books.folding.state))) q.have =
    c.is_ahead.ensures g.D.Disk.tells (g.D.Disk.content s.disk) s.given.items ∙ ap (λ (f : Folding). nat_lt (begins_with 0 (mark_of q.from q.key (durable_by (sizes_in g.D.Disk.tells (g.D.Disk.content s.disk) s.given.items) f.state))) q.have) c.folded.ensures in
    let item : c.index_mut.result.now ≡ q = c.index_mut.ensures.value ∙ some_inj (sym (found_at c.args.part s.parts.items place c.index_mut.result.now at) ∙ first) in
    let more = sym ahead ∙ c.if-not-is_ahead.false in
    let whole : s.broken ≡ None = ap (λ (x : Holding g.row.D.Denot). x.memory.broken) c.self.view_is ∙ c.requires.whole in
    let payload = c.mark_part.new.text.list in
    let new = c.mark_part.new.disk in
    let spells = subst (λ (x : Part). record_in payload ≡ Ok (Mark (mark_text x x.have))) item c.mark_part.ensures.spells in
    let run = subst (λ (x : Part). Leaves g.D.Disk.moment g.D.Disk.images (Records (g.D.Disk.files s.disk) (in_name x.number) s.books.payloads (payload ∷ [])) s.disk new) item c.mark_part.ensures.stop in
    let p : IsMarkCall g.D.Disk.tells g.D.Disk.content g.D.Disk.files g.D.Disk.moment g.D.Disk.images s.disk new m q payload =
    record { sound = c.self.invariant.0; whole = whole; found = found; more = more; reads = g.met.D.Disk.reads; told = g.met.D.Disk.told; read = c.mark_part.ensures.read; run = run; spells = spells } in
    let b = c.mark_part.new.books in
    let recorded = subst (λ (x : Part). IsRecorded payload (Mark (mark_text x x.have)) s.seat s.books b) item c.in-Ok.ensures.recorded in
    let synced = subst (λ (x : Part). Every (Now g.D.Disk.moment g.D.Disk.images new) (IsSynced (g.D.Disk.files s.disk) (in_name x.number))) item c.in-Ok.ensures.synced in
    let parts : replaced q.number (all_marked q) s.parts.items ≡ set s.parts.items place c.mark_part.new.part =
    ap (λ (k : ℕ). replaced k (all_marked q) s.parts.items) numbered ∙ sym (set_at c.args.part (all_marked q) s.parts.items place q at) ∙ ap (set s.parts.items place) (sym (c.in-Ok.ensures.marked ∙ ap all_marked item)) in
    let sound = mark_sound g.D.Disk.tells g.D.Disk.content g.D.Disk.files g.D.Disk.fault_count g.D.Disk.moment g.D.Disk.images s.disk new m q payload p b recorded c.in-Ok.ensures.cause.calm c.in-Ok.ensures.durable synced c.mark_part.ensures.books in
    (subst (λ (ps : List Part). IsSound g.D.Disk.tells g.D.Disk.content g.D.Disk.moment g.D.Disk.images new (record m { books = b; parts = ps })) parts sound, c.mark_part.ensures.text, kept_step s.kept s.given.items s.books.folding.state (Mark (mark_text q q.have)) b.folding.state tt recorded.folded c.self.invariant.2, λ still. same_takes s.takes g.D.Disk.tells (g.D.Disk.content s.disk) (g.D.Disk.content new) (g.D.Disk.fault_count s.disk) (g.D.Disk.fault_count new) m _ _ refl refl (step_takes s.books.folding.state (Mark (mark_text q q.have)) b.folding.state tt recorded.folded) (λ t. other_takes ledger_name ledger_no_take (g.D.Disk.content s.disk) (g.D.Disk.content new) (only_content g.D.Disk.tells g.D.Disk.content g.D.Disk.files ledger_name s.disk new g.met.D.Disk.reads g.met.D.Disk.told c.mark_part.ensures.read t).others) (c.self.invariant.3 still))

pub invariant_of-self-in-Err : goal.invariant_of-self-in-Err
invariant_of-self-in-Err g c =
    let s = c.self.inside in
    let m : Memory = record { books = s.books; given = s.given.items; parts = s.parts.items; staged = s.staged.items; drawn = s.drawn; last_staged = s.last_staged; seat = s.seat; last_given = s.last_given; fulls = s.fulls; broken = s.broken } in
    let is = c.self.invariant.0.memory in
    let q = c.index.result.now in
    let place = c.in-Some.place in
    let at : position (has_number c.args.part) s.parts.items ≡ Some place = ap (position (has_number c.args.part)) (sym c.as_slice.ensures.value) ∙ sym c.place_of.ensures ∙ c.in-Some.is in
    let first : find (has_number c.args.part) s.parts.items ≡ Some q = found_at c.args.part s.parts.items place q at ∙ ap Some (sym c.index.ensures) in
    let numbered = (all_found (IsPart s.books.folding) c.args.part s.parts.items q is.parts first).1 in
    let found : find (has_number q.number) s.parts.items ≡ Some q = ap (λ (k : ℕ). find (has_number k) s.parts.items) numbered ∙ first in
    let ahead : c.is_ahead.result ≡ nat_lt (begins_with 0 (mark_of q.from q.key (durable_by (sizes_in g.D.Disk.tells (g.D.Disk.content s.disk) s.given.items) s.books.folding.state))) q.have =
    c.is_ahead.ensures g.D.Disk.tells (g.D.Disk.content s.disk) s.given.items ∙ ap (λ (f : Folding). nat_lt (begins_with 0 (mark_of q.from q.key (durable_by (sizes_in g.D.Disk.tells (g.D.Disk.content s.disk) s.given.items) f.state))) q.have) c.folded.ensures in
    let item : c.index_mut.result.now ≡ q = c.index_mut.ensures.value ∙ some_inj (sym (found_at c.args.part s.parts.items place c.index_mut.result.now at) ∙ first) in
    let more = sym ahead ∙ c.if-not-is_ahead.false in
    let whole : s.broken ≡ None = ap (λ (x : Holding g.row.D.Denot). x.memory.broken) c.self.view_is ∙ c.requires.whole in
    let payload = c.mark_part.new.text.list in
    let new = c.mark_part.new.disk in
    let spells = subst (λ (x : Part). record_in payload ≡ Ok (Mark (mark_text x x.have))) item c.mark_part.ensures.spells in
    let run = subst (λ (x : Part). Leaves g.D.Disk.moment g.D.Disk.images (Records (g.D.Disk.files s.disk) (in_name x.number) s.books.payloads (payload ∷ [])) s.disk new) item c.mark_part.ensures.stop in
    let p : IsMarkCall g.D.Disk.tells g.D.Disk.content g.D.Disk.files g.D.Disk.moment g.D.Disk.images s.disk new m q payload =
    record { sound = c.self.invariant.0; whole = whole; found = found; more = more; reads = g.met.D.Disk.reads; told = g.met.D.Disk.told; read = c.mark_part.ensures.read; run = run; spells = spells } in
    let same : s.books ≡ c.mark_part.new.books = sym c.in-Err.ensures.same in
    let parts : replaced q.number (marks_all q) s.parts.items ≡ set s.parts.items place c.mark_part.new.part =
    ap (λ (k : ℕ). replaced k (marks_all q) s.parts.items) numbered ∙ sym (set_at c.args.part (marks_all q) s.parts.items place q at) ∙ ap (set s.parts.items place) (sym (c.in-Err.ensures.unmarked ∙ ap marks_all item)) in
    let sound = failed_mark_sound g.D.Disk.tells g.D.Disk.content g.D.Disk.files g.D.Disk.fault_count g.D.Disk.moment g.D.Disk.images s.disk new m q payload p c.faults.result in
    let moved = subst (λ (ps : List Part). IsSound g.D.Disk.tells g.D.Disk.content g.D.Disk.moment g.D.Disk.images new (record m { parts = ps; broken = Some c.faults.result })) parts sound in
    (subst (λ (b : Books). IsSound g.D.Disk.tells g.D.Disk.content g.D.Disk.moment g.D.Disk.images new (record m { books = b; parts = set s.parts.items place c.mark_part.new.part; broken = Some c.faults.result })) same moved, c.mark_part.ensures.text, kept_in s.kept s.given.items s.books c.mark_part.new.books (ap (λ (x : Books). x.folding.state) c.in-Err.ensures.same) c.self.invariant.2, λ still. none_some (sym still))

pub returns-in-Ok : goal.returns-in-Ok
returns-in-Ok g c =
    let s = c.self.inside in
    let m : Memory = record { books = s.books; given = s.given.items; parts = s.parts.items; staged = s.staged.items; drawn = s.drawn; last_staged = s.last_staged; seat = s.seat; last_given = s.last_given; fulls = s.fulls; broken = s.broken } in
    let is = c.self.invariant.0.memory in
    let q = c.index.result.now in
    let place = c.in-Some.place in
    let at : position (has_number c.args.part) s.parts.items ≡ Some place = ap (position (has_number c.args.part)) (sym c.as_slice.ensures.value) ∙ sym c.place_of.ensures ∙ c.in-Some.is in
    let first : find (has_number c.args.part) s.parts.items ≡ Some q = found_at c.args.part s.parts.items place q at ∙ ap Some (sym c.index.ensures) in
    let numbered = (all_found (IsPart s.books.folding) c.args.part s.parts.items q is.parts first).1 in
    let found : find (has_number q.number) s.parts.items ≡ Some q = ap (λ (k : ℕ). find (has_number k) s.parts.items) numbered ∙ first in
    let ahead : c.is_ahead.result ≡ nat_lt (begins_with 0 (mark_of q.from q.key (durable_by (sizes_in g.D.Disk.tells (g.D.Disk.content s.disk) s.given.items) s.books.folding.state))) q.have =
    c.is_ahead.ensures g.D.Disk.tells (g.D.Disk.content s.disk) s.given.items ∙ ap (λ (f : Folding). nat_lt (begins_with 0 (mark_of q.from q.key (durable_by (sizes_in g.D.Disk.tells (g.D.Disk.content s.disk) s.given.items) f.state))) q.have) c.folded.ensures in
    let item : c.index_mut.result.now ≡ q = c.index_mut.ensures.value ∙ some_inj (sym (found_at c.args.part s.parts.items place c.index_mut.result.now at) ∙ first) in
    let more = sym ahead ∙ c.if-not-is_ahead.false in
    let whole : s.broken ≡ None = ap (λ (x : Holding g.row.D.Denot). x.memory.broken) c.self.view_is ∙ c.requires.whole in
    let payload = c.mark_part.new.text.list in
    let new = c.mark_part.new.disk in
    let spells = subst (λ (x : Part). record_in payload ≡ Ok (Mark (mark_text x x.have))) item c.mark_part.ensures.spells in
    let run = subst (λ (x : Part). Leaves g.D.Disk.moment g.D.Disk.images (Records (g.D.Disk.files s.disk) (in_name x.number) s.books.payloads (payload ∷ [])) s.disk new) item c.mark_part.ensures.stop in
    let p : IsMarkCall g.D.Disk.tells g.D.Disk.content g.D.Disk.files g.D.Disk.moment g.D.Disk.images s.disk new m q payload =
    record { sound = c.self.invariant.0; whole = whole; found = found; more = more; reads = g.met.D.Disk.reads; told = g.met.D.Disk.told; read = c.mark_part.ensures.read; run = run; spells = spells } in
    let b = c.mark_part.new.books in
    let recorded = subst (λ (x : Part). IsRecorded payload (Mark (mark_text x x.have)) s.seat s.books b) item c.in-Ok.ensures.recorded in
    let synced = subst (λ (x : Part). Every (Now g.D.Disk.moment g.D.Disk.images new) (IsSynced (g.D.Disk.files s.disk) (in_name x.number))) item c.in-Ok.ensures.synced in
    let parts : replaced q.number (all_marked q) s.parts.items ≡ set s.parts.items place c.mark_part.new.part =
    ap (λ (k : ℕ). replaced k (all_marked q) s.parts.items) numbered ∙ sym (set_at c.args.part (all_marked q) s.parts.items place q at) ∙ ap (set s.parts.items place) (sym (c.in-Ok.ensures.marked ∙ ap all_marked item)) in
    let kept = mark_kept g.D.Disk.tells g.D.Disk.content g.D.Disk.files g.D.Disk.fault_count g.D.Disk.moment g.D.Disk.images s.disk new m q payload p b recorded c.in-Ok.ensures.cause.calm c.in-Ok.ensures.durable synced in
    let moved = subst (λ (ps : List Part). StoreKept (stand_of g.D.Disk.tells g.D.Disk.content g.D.Disk.fault_count g.D.Disk.moment g.D.Disk.images (record { disk = s.disk; takes = s.takes; memory = m })) (Part_mark q.number) Well (stand_of g.D.Disk.tells g.D.Disk.content g.D.Disk.fault_count g.D.Disk.moment g.D.Disk.images (record { disk = new; takes = s.takes; memory = record m { books = b; parts = ps } }))) parts kept in
    let numbered_so = subst (λ (k : ℕ). StoreKept (stand_of g.D.Disk.tells g.D.Disk.content g.D.Disk.fault_count g.D.Disk.moment g.D.Disk.images (record { disk = s.disk; takes = s.takes; memory = m })) (Part_mark k) Well (stand_of g.D.Disk.tells g.D.Disk.content g.D.Disk.fault_count g.D.Disk.moment g.D.Disk.images (record { disk = new; takes = s.takes; memory = record m { books = b; parts = set s.parts.items place c.mark_part.new.part } }))) numbered moved in
    subst (λ (x : Holding g.row.D.Denot). StoreKept (stand_of g.D.Disk.tells g.D.Disk.content g.D.Disk.fault_count g.D.Disk.moment g.D.Disk.images x) (Part_mark c.args.part) Well (stand_of g.D.Disk.tells g.D.Disk.content g.D.Disk.fault_count g.D.Disk.moment g.D.Disk.images (record { disk = new; takes = s.takes; memory = record m { books = b; parts = set s.parts.items place c.mark_part.new.part } }))) c.self.view_is numbered_so

pub returns-in-Err : goal.returns-in-Err
returns-in-Err g c =
    let s = c.self.inside in
    let m : Memory = record { books = s.books; given = s.given.items; parts = s.parts.items; staged = s.staged.items; drawn = s.drawn; last_staged = s.last_staged; seat = s.seat; last_given = s.last_given; fulls = s.fulls; broken = s.broken } in
    let is = c.self.invariant.0.memory in
    let q = c.index.result.now in
    let place = c.in-Some.place in
    let at : position (has_number c.args.part) s.parts.items ≡ Some place = ap (position (has_number c.args.part)) (sym c.as_slice.ensures.value) ∙ sym c.place_of.ensures ∙ c.in-Some.is in
    let first : find (has_number c.args.part) s.parts.items ≡ Some q = found_at c.args.part s.parts.items place q at ∙ ap Some (sym c.index.ensures) in
    let numbered = (all_found (IsPart s.books.folding) c.args.part s.parts.items q is.parts first).1 in
    let found : find (has_number q.number) s.parts.items ≡ Some q = ap (λ (k : ℕ). find (has_number k) s.parts.items) numbered ∙ first in
    let ahead : c.is_ahead.result ≡ nat_lt (begins_with 0 (mark_of q.from q.key (durable_by (sizes_in g.D.Disk.tells (g.D.Disk.content s.disk) s.given.items) s.books.folding.state))) q.have =
    c.is_ahead.ensures g.D.Disk.tells (g.D.Disk.content s.disk) s.given.items ∙ ap (λ (f : Folding). nat_lt (begins_with 0 (mark_of q.from q.key (durable_by (sizes_in g.D.Disk.tells (g.D.Disk.content s.disk) s.given.items) f.state))) q.have) c.folded.ensures in
    let item : c.index_mut.result.now ≡ q = c.index_mut.ensures.value ∙ some_inj (sym (found_at c.args.part s.parts.items place c.index_mut.result.now at) ∙ first) in
    let more = sym ahead ∙ c.if-not-is_ahead.false in
    let whole : s.broken ≡ None = ap (λ (x : Holding g.row.D.Denot). x.memory.broken) c.self.view_is ∙ c.requires.whole in
    let payload = c.mark_part.new.text.list in
    let new = c.mark_part.new.disk in
    let spells = subst (λ (x : Part). record_in payload ≡ Ok (Mark (mark_text x x.have))) item c.mark_part.ensures.spells in
    let run = subst (λ (x : Part). Leaves g.D.Disk.moment g.D.Disk.images (Records (g.D.Disk.files s.disk) (in_name x.number) s.books.payloads (payload ∷ [])) s.disk new) item c.mark_part.ensures.stop in
    let p : IsMarkCall g.D.Disk.tells g.D.Disk.content g.D.Disk.files g.D.Disk.moment g.D.Disk.images s.disk new m q payload =
    record { sound = c.self.invariant.0; whole = whole; found = found; more = more; reads = g.met.D.Disk.reads; told = g.met.D.Disk.told; read = c.mark_part.ensures.read; run = run; spells = spells } in
    let same : s.books ≡ c.mark_part.new.books = sym c.in-Err.ensures.same in
    let parts : replaced q.number (marks_all q) s.parts.items ≡ set s.parts.items place c.mark_part.new.part =
    ap (λ (k : ℕ). replaced k (marks_all q) s.parts.items) numbered ∙ sym (set_at c.args.part (marks_all q) s.parts.items place q at) ∙ ap (set s.parts.items place) (sym (c.in-Err.ensures.unmarked ∙ ap marks_all item)) in
    let failed = subst (λ (k : ℕ). StoreKept (stand_of g.D.Disk.tells g.D.Disk.content g.D.Disk.fault_count g.D.Disk.moment g.D.Disk.images (record { disk = s.disk; takes = s.takes; memory = m })) (Part_mark q.number) (Refuses Disk) (stand_of g.D.Disk.tells g.D.Disk.content g.D.Disk.fault_count g.D.Disk.moment g.D.Disk.images (record { disk = new; takes = s.takes; memory = record m { parts = replaced q.number (marks_all q) s.parts.items; broken = Some k } }))) (sym c.faults.ensures)
    (mark_failed g.D.Disk.tells g.D.Disk.content g.D.Disk.files g.D.Disk.fault_count g.D.Disk.moment g.D.Disk.images s.disk new m q payload p c.in-Err.ensures.cause.failed) in
    let booked = subst (λ (b : Books). StoreKept (stand_of g.D.Disk.tells g.D.Disk.content g.D.Disk.fault_count g.D.Disk.moment g.D.Disk.images (record { disk = s.disk; takes = s.takes; memory = m })) (Part_mark q.number) (Refuses Disk) (stand_of g.D.Disk.tells g.D.Disk.content g.D.Disk.fault_count g.D.Disk.moment g.D.Disk.images (record { disk = new; takes = s.takes; memory = record m { books = b; parts = replaced q.number (marks_all q) s.parts.items; broken = Some c.faults.result } }))) same failed in
    let kept = booked in
    let moved = subst (λ (ps : List Part). StoreKept (stand_of g.D.Disk.tells g.D.Disk.content g.D.Disk.fault_count g.D.Disk.moment g.D.Disk.images (record { disk = s.disk; takes = s.takes; memory = m })) (Part_mark q.number) (Refuses Disk) (stand_of g.D.Disk.tells g.D.Disk.content g.D.Disk.fault_count g.D.Disk.moment g.D.Disk.images (record { disk = new; takes = s.takes; memory = record m { books = c.mark_part.new.books; parts = ps; broken = Some c.faults.result } }))) parts kept in
    let numbered_so = subst (λ (k : ℕ). StoreKept (stand_of g.D.Disk.tells g.D.Disk.content g.D.Disk.fault_count g.D.Disk.moment g.D.Disk.images (record { disk = s.disk; takes = s.takes; memory = m })) (Part_mark k) (Refuses Disk) (stand_of g.D.Disk.tells g.D.Disk.content g.D.Disk.fault_count g.D.Disk.moment g.D.Disk.images (record { disk = new; takes = s.takes; memory = record m { books = c.mark_part.new.books; parts = set s.parts.items place c.mark_part.new.part; broken = Some c.faults.result } }))) numbered moved in
    subst (λ (x : Holding g.row.D.Denot). StoreKept (stand_of g.D.Disk.tells g.D.Disk.content g.D.Disk.fault_count g.D.Disk.moment g.D.Disk.images x) (Part_mark c.args.part) (Refuses Disk) (stand_of g.D.Disk.tells g.D.Disk.content g.D.Disk.fault_count g.D.Disk.moment g.D.Disk.images (record { disk = new; takes = s.takes; memory = record m { books = c.mark_part.new.books; parts = set s.parts.items place c.mark_part.new.part; broken = Some c.faults.result } }))) c.self.view_is numbered_so
