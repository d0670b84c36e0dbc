use Rattle.std.proofs.Common.{◌≡◌, ◌==◌, ℕ, List, [], ◌∷◌, Option, Some, None, Ok, refl, sym, ◌∙◌, ap, subst, arith}
use Rattle.std.specs.Prelude.{◌||◌, find, IsSome}
use Rattle.file_index.specs.Sets.{Kept}
use Rattle.disk_model.specs.Changes.{Every}
use Rattle.disk_model.specs.Moments.{Leaves, Now}
use Rattle.ledger_file.specs.Ledger.{LedgerIs}
use Rattle.ledger_rec.specs.Fold.{State, fold_step, new_receipt, without_hold}
use Rattle.ledger_rec.specs.Limits.{Fits}
use Rattle.ledger_rec.specs.Payloads.{record_in}
use Rattle.ledger_rec.specs.Record.{RecordText, Received, record_of}
use Rattle.node_model.specs.declared.store.StoreFault.TheVariants.{Disk}
use Rattle.node_model.specs.Stores.{StoreKept, Commit, IsWhole, Well, Refuses}
use Rattle.node_store.specs.Books.{Books}
use Rattle.node_store.specs.Giving.{is_kept}
use Rattle.node_store.specs.Names.{in_name}
use Rattle.node_store.specs.Recording.{IsRecorded, IsSynced, Records}
use Rattle.node_store.specs.Stored.{Holding, Memory, Part, Closed, IsSound, received_text, stand_of, state_of, without_part}
use Rattle.node_store.proofs.ClosedParts.{has_number}
use Rattle.node_store.proofs.CommitCall.{IsCommitting, part_ungiven, whole_part, receipt_follows, closed_receipt, receipt_fits, receipted, commit_kept, commit_sound, commit_failed, failed_commit_sound}
use Rattle.node_store.proofs.NameLaws.{in_not_ledger}
use Rattle.node_store.proofs.PutCall.{stands}
use Rattle.node_store.proofs.StillKept.{kept_in, kept_received}
use Rattle.node_store.proofs.HeldTakes.{other_takes, same_takes}
use Rattle.node_model.proofs.Lists.{none_some}
use Rattle.node_store.proofs.Alike.{ledger_no_take}
use Rattle.ledger_file.specs.Ledger.{ledger_name}
use Rattle.node_store.proofs.OneRecord.{only_content}
use Rattle.node_store.proofs.store.NodeStore.commit.Goals as goal

pub close-requires : goal.close-requires
close-requires g c =
    let s = c.self.inside in
    let m : Memory = record { books = s.books; given = s.given.items; parts = s.parts.items; staged = s.staged.items; drawn = s.drawn; last_staged = s.last_staged; seat = s.seat; last_given = s.last_given; fulls = s.fulls; broken = s.broken } in
    let is = c.self.invariant.0.memory in
    let all : IsWhole c.args.part (state_of g.D.Disk.tells (g.D.Disk.content s.disk) (g.D.Disk.fault_count s.disk) m) = subst (λ (x : Holding g.row.D.Denot). IsWhole c.args.part (stand_of g.D.Disk.tells g.D.Disk.content g.D.Disk.fault_count g.D.Disk.moment g.D.Disk.images x).state) (sym c.self.view_is) c.requires.all in
    let o = whole_part g.D.Disk.tells (g.D.Disk.content s.disk) (g.D.Disk.fault_count s.disk) m c.args.part is all in
    let q = o.part in
    subst (λ (x : Option Part). IsSome x) (sym o.found) refl

pub spell-requires-clause-fits : goal.spell-requires-clause-fits
spell-requires-clause-fits g c =
    let s = c.self.inside in
    let m : Memory = record { books = s.books; given = s.given.items; parts = s.parts.items; staged = s.staged.items; drawn = s.drawn; last_staged = s.last_staged; seat = s.seat; last_given = s.last_given; fulls = s.fulls; broken = s.broken } in
    let is = c.self.invariant.0.memory in
    let all : IsWhole c.args.part (state_of g.D.Disk.tells (g.D.Disk.content s.disk) (g.D.Disk.fault_count s.disk) m) = subst (λ (x : Holding g.row.D.Denot). IsWhole c.args.part (stand_of g.D.Disk.tells g.D.Disk.content g.D.Disk.fault_count g.D.Disk.moment g.D.Disk.images x).state) (sym c.self.view_is) c.requires.all in
    let o = whole_part g.D.Disk.tells (g.D.Disk.content s.disk) (g.D.Disk.fault_count s.disk) m c.args.part is all in
    let q = o.part in
    let found : find (has_number q.number) s.parts.items ≡ Some q = ap (λ (k : ℕ). find (has_number k) s.parts.items) o.numbered ∙ o.found in
    let closed : record_of c.from.inside.receipt ≡ Received (received_text q c.args.session c.args.secure) = ap (λ (x : Closed). x.receipt) (c.from.view_is ∙ c.close.ensures.closed q o.found) ∙ closed_receipt m q c.args.session c.args.secure is found in
    subst Fits (sym closed) (receipt_fits m q c.args.session c.args.secure is found)

pub record_file-requires-clause-follows : goal.record_file-requires-clause-follows
record_file-requires-clause-follows g c =
    let s = c.self.inside in
    let m : Memory = record { books = s.books; given = s.given.items; parts = s.parts.items; staged = s.staged.items; drawn = s.drawn; last_staged = s.last_staged; seat = s.seat; last_given = s.last_given; fulls = s.fulls; broken = s.broken } in
    let is = c.self.invariant.0.memory in
    let all : IsWhole c.args.part (state_of g.D.Disk.tells (g.D.Disk.content s.disk) (g.D.Disk.fault_count s.disk) m) = subst (λ (x : Holding g.row.D.Denot). IsWhole c.args.part (stand_of g.D.Disk.tells g.D.Disk.content g.D.Disk.fault_count g.D.Disk.moment g.D.Disk.images x).state) (sym c.self.view_is) c.requires.all in
    let o = whole_part g.D.Disk.tells (g.D.Disk.content s.disk) (g.D.Disk.fault_count s.disk) m c.args.part is all in
    let q = o.part in
    let found : find (has_number q.number) s.parts.items ≡ Some q = ap (λ (k : ℕ). find (has_number k) s.parts.items) o.numbered ∙ o.found in
    let closed : record_of c.from.inside.receipt ≡ Received (received_text q c.args.session c.args.secure) = ap (λ (x : Closed). x.receipt) (c.from.view_is ∙ c.close.ensures.closed q o.found) ∙ closed_receipt m q c.args.session c.args.secure is found in
    let follows = ap (fold_step s.books.folding.state) closed ∙ receipt_follows m q c.args.session c.args.secure is found c.requires.session in
    subst (λ (x : Option State). IsSome x) (sym follows) refl

pub record_file-requires-clause-own : goal.record_file-requires-clause-own
record_file-requires-clause-own g c =
    λ same. in_not_ledger c.args.part (sym c.in_file-name.ensures ∙ same)

pub record_file-requires-clause-stands : goal.record_file-requires-clause-stands
record_file-requires-clause-stands g c =
    let s = c.self.inside in
    let m : Memory = record { books = s.books; given = s.given.items; parts = s.parts.items; staged = s.staged.items; drawn = s.drawn; last_staged = s.last_staged; seat = s.seat; last_given = s.last_given; fulls = s.fulls; broken = s.broken } in
    let is = c.self.invariant.0.memory in
    let all : IsWhole c.args.part (state_of g.D.Disk.tells (g.D.Disk.content s.disk) (g.D.Disk.fault_count s.disk) m) = subst (λ (x : Holding g.row.D.Denot). IsWhole c.args.part (stand_of g.D.Disk.tells g.D.Disk.content g.D.Disk.fault_count g.D.Disk.moment g.D.Disk.images x).state) (sym c.self.view_is) c.requires.all in
    let o = whole_part g.D.Disk.tells (g.D.Disk.content s.disk) (g.D.Disk.fault_count s.disk) m c.args.part is all in
    let q = o.part in
    let found : find (has_number q.number) s.parts.items ≡ Some q = ap (λ (k : ℕ). find (has_number k) s.parts.items) o.numbered ∙ o.found in
    let name : c.in_file-name.result ≡ in_name q.number = c.in_file-name.ensures ∙ ap in_name (sym o.numbered) in
    let whole : s.broken ≡ None = ap (λ (x : Holding g.row.D.Denot). x.memory.broken) c.self.view_is ∙ c.requires.whole in
    λ w read.
    let there = stands g.D.Disk.tells g.D.Disk.content g.D.Disk.files g.D.Disk.moment g.D.Disk.images s.disk m q c.self.invariant.0 whole found g.met.D.Disk.reads w read in
    (there.0, ap w.own name ∙ there.1, omega arith)

pub invariant_of-self : goal.invariant_of-self
invariant_of-self g c =
    let s = c.self.inside in
    let m : Memory = record { books = s.books; given = s.given.items; parts = s.parts.items; staged = s.staged.items; drawn = s.drawn; last_staged = s.last_staged; seat = s.seat; last_given = s.last_given; fulls = s.fulls; broken = s.broken } in
    let is = c.self.invariant.0.memory in
    let all : IsWhole c.args.part (state_of g.D.Disk.tells (g.D.Disk.content s.disk) (g.D.Disk.fault_count s.disk) m) = subst (λ (x : Holding g.row.D.Denot). IsWhole c.args.part (stand_of g.D.Disk.tells g.D.Disk.content g.D.Disk.fault_count g.D.Disk.moment g.D.Disk.images x).state) (sym c.self.view_is) c.requires.all in
    let o = whole_part g.D.Disk.tells (g.D.Disk.content s.disk) (g.D.Disk.fault_count s.disk) m c.args.part is all in
    let q = o.part in
    let found : find (has_number q.number) s.parts.items ≡ Some q = ap (λ (k : ℕ). find (has_number k) s.parts.items) o.numbered ∙ o.found in
    let closed : record_of c.from.inside.receipt ≡ Received (received_text q c.args.session c.args.secure) = ap (λ (x : Closed). x.receipt) (c.from.view_is ∙ c.close.ensures.closed q o.found) ∙ closed_receipt m q c.args.session c.args.secure is found in
    let name : c.in_file-name.result ≡ in_name q.number = c.in_file-name.ensures ∙ ap in_name (sym o.numbered) in
    let whole : s.broken ≡ None = ap (λ (x : Holding g.row.D.Denot). x.memory.broken) c.self.view_is ∙ c.requires.whole in
    let payload = c.as_slice.result.now in
    let new = c.record_file.new.disk in
    let spells : record_in payload ≡ Ok (Received (received_text q c.args.session c.args.secure)) = ap record_in c.as_slice.ensures ∙ c.spell.ensures.spells ∙ ap Ok closed in
    let run = subst (λ (k : List ℕ). Leaves g.D.Disk.moment g.D.Disk.images (Records (g.D.Disk.files s.disk) k s.books.payloads (payload ∷ [])) s.disk new) name c.record_file.ensures.stop in
    let p : IsCommitting g.D.Disk.tells g.D.Disk.content g.D.Disk.files g.D.Disk.moment g.D.Disk.images s.disk new m q c.args.session c.args.secure payload =
    record { sound = c.self.invariant.0; whole = whole; found = found; all = o.all; in_session = c.requires.session; reads = g.met.D.Disk.reads; told = g.met.D.Disk.told; read = c.record_file.ensures.read; run = run; spells = spells } in
    let others : without_part q.number s.parts.items ≡ c.close.new.parts.items = ap (λ (k : ℕ). without_part k s.parts.items) o.numbered ∙ sym c.close.ensures.others in
    let b = c.unhold.new.self in
    let whose = c.from.view_is ∙ c.close.ensures.closed q o.found in
    let recorded = subst (λ (r : RecordText). IsRecorded payload r s.seat s.books c.record_file.new.self) closed c.in-Ok.ensures.recorded in
    let mid = c.record_file.new.self in
    let unheld : b ≡ record mid { folding = record mid.folding { holds = without_hold q.from q.key mid.folding.holds } } =
    c.unhold.ensures.unheld ∙ ap (λ (x : Closed). record mid { folding = record mid.folding { holds = without_hold x.from x.key mid.folding.holds } }) whose in
    let more = receipted payload q c.args.session c.args.secure s.seat s.books mid b (receipt_follows m q c.args.session c.args.secure is found c.requires.session) recorded unheld in
    let same : mid.payloads ≡ b.payloads = sym (ap (λ (x : Books). x.payloads) unheld) in
    let durable = subst (λ (l : List (List ℕ)). Every (Now g.D.Disk.moment g.D.Disk.images new) (LedgerIs l)) same c.in-Ok.ensures.durable in
    let synced = subst (λ (k : List ℕ). Every (Now g.D.Disk.moment g.D.Disk.images new) (IsSynced (g.D.Disk.files s.disk) k)) name c.in-Ok.ensures.synced in
    let sound = commit_sound g.D.Disk.tells g.D.Disk.content g.D.Disk.files g.D.Disk.fault_count g.D.Disk.moment g.D.Disk.images s.disk new m q c.args.session c.args.secure payload p b more.0 c.in-Ok.ensures.cause.calm durable synced c.unhold.ensures.books more.1 in
    let noted = subst (λ (k : ℕ). Kept c.note.new.self (λ n. is_kept s.given.items s.books.folding.state.inbox n || n == k)) (sym o.numbered) (c.note.ensures (is_kept s.given.items s.books.folding.state.inbox) c.self.invariant.2) in
    (subst (λ (ps : List Part). IsSound g.D.Disk.tells g.D.Disk.content g.D.Disk.moment g.D.Disk.images new (record m { books = b; parts = ps })) others sound, c.spell.ensures.room, kept_received c.note.new.self s.given.items s.books.folding.state b.folding.state (new_receipt (received_text q c.args.session c.args.secure)) (ap (λ (x : State). x.inbox) more.0.folded) (part_ungiven m q is found) noted, λ still. same_takes s.takes g.D.Disk.tells (g.D.Disk.content s.disk) (g.D.Disk.content new) (g.D.Disk.fault_count s.disk) (g.D.Disk.fault_count new) m _ _ refl refl (ap (λ (x : State). x.takes) more.0.folded) (λ t. other_takes ledger_name ledger_no_take (g.D.Disk.content s.disk) (g.D.Disk.content new) (only_content g.D.Disk.tells g.D.Disk.content g.D.Disk.files ledger_name s.disk new g.met.D.Disk.reads g.met.D.Disk.told c.record_file.ensures.read t).others) (c.self.invariant.3 still))

pub returns-in-Ok : goal.returns-in-Ok
returns-in-Ok g c =
    let s = c.self.inside in
    let m : Memory = record { books = s.books; given = s.given.items; parts = s.parts.items; staged = s.staged.items; drawn = s.drawn; last_staged = s.last_staged; seat = s.seat; last_given = s.last_given; fulls = s.fulls; broken = s.broken } in
    let is = c.self.invariant.0.memory in
    let all : IsWhole c.args.part (state_of g.D.Disk.tells (g.D.Disk.content s.disk) (g.D.Disk.fault_count s.disk) m) = subst (λ (x : Holding g.row.D.Denot). IsWhole c.args.part (stand_of g.D.Disk.tells g.D.Disk.content g.D.Disk.fault_count g.D.Disk.moment g.D.Disk.images x).state) (sym c.self.view_is) c.requires.all in
    let o = whole_part g.D.Disk.tells (g.D.Disk.content s.disk) (g.D.Disk.fault_count s.disk) m c.args.part is all in
    let q = o.part in
    let found : find (has_number q.number) s.parts.items ≡ Some q = ap (λ (k : ℕ). find (has_number k) s.parts.items) o.numbered ∙ o.found in
    let closed : record_of c.from.inside.receipt ≡ Received (received_text q c.args.session c.args.secure) = ap (λ (x : Closed). x.receipt) (c.from.view_is ∙ c.close.ensures.closed q o.found) ∙ closed_receipt m q c.args.session c.args.secure is found in
    let name : c.in_file-name.result ≡ in_name q.number = c.in_file-name.ensures ∙ ap in_name (sym o.numbered) in
    let whole : s.broken ≡ None = ap (λ (x : Holding g.row.D.Denot). x.memory.broken) c.self.view_is ∙ c.requires.whole in
    let payload = c.as_slice.result.now in
    let new = c.record_file.new.disk in
    let spells : record_in payload ≡ Ok (Received (received_text q c.args.session c.args.secure)) = ap record_in c.as_slice.ensures ∙ c.spell.ensures.spells ∙ ap Ok closed in
    let run = subst (λ (k : List ℕ). Leaves g.D.Disk.moment g.D.Disk.images (Records (g.D.Disk.files s.disk) k s.books.payloads (payload ∷ [])) s.disk new) name c.record_file.ensures.stop in
    let p : IsCommitting g.D.Disk.tells g.D.Disk.content g.D.Disk.files g.D.Disk.moment g.D.Disk.images s.disk new m q c.args.session c.args.secure payload =
    record { sound = c.self.invariant.0; whole = whole; found = found; all = o.all; in_session = c.requires.session; reads = g.met.D.Disk.reads; told = g.met.D.Disk.told; read = c.record_file.ensures.read; run = run; spells = spells } in
    let others : without_part q.number s.parts.items ≡ c.close.new.parts.items = ap (λ (k : ℕ). without_part k s.parts.items) o.numbered ∙ sym c.close.ensures.others in
    let b = c.unhold.new.self in
    let whose = c.from.view_is ∙ c.close.ensures.closed q o.found in
    let recorded = subst (λ (r : RecordText). IsRecorded payload r s.seat s.books c.record_file.new.self) closed c.in-Ok.ensures.recorded in
    let mid = c.record_file.new.self in
    let unheld : b ≡ record mid { folding = record mid.folding { holds = without_hold q.from q.key mid.folding.holds } } =
    c.unhold.ensures.unheld ∙ ap (λ (x : Closed). record mid { folding = record mid.folding { holds = without_hold x.from x.key mid.folding.holds } }) whose in
    let more = receipted payload q c.args.session c.args.secure s.seat s.books mid b (receipt_follows m q c.args.session c.args.secure is found c.requires.session) recorded unheld in
    let same : mid.payloads ≡ b.payloads = sym (ap (λ (x : Books). x.payloads) unheld) in
    let durable = subst (λ (l : List (List ℕ)). Every (Now g.D.Disk.moment g.D.Disk.images new) (LedgerIs l)) same c.in-Ok.ensures.durable in
    let synced = subst (λ (k : List ℕ). Every (Now g.D.Disk.moment g.D.Disk.images new) (IsSynced (g.D.Disk.files s.disk) k)) name c.in-Ok.ensures.synced in
    let kept = commit_kept g.D.Disk.tells g.D.Disk.content g.D.Disk.files g.D.Disk.fault_count g.D.Disk.moment g.D.Disk.images s.disk new m q c.args.session c.args.secure payload p b more.0 c.in-Ok.ensures.cause.calm durable synced in
    let moved = subst (λ (ps : List Part). StoreKept (stand_of g.D.Disk.tells g.D.Disk.content g.D.Disk.fault_count g.D.Disk.moment g.D.Disk.images (record { disk = s.disk; takes = s.takes; memory = m })) (Commit q.number c.args.session c.args.secure) Well (stand_of g.D.Disk.tells g.D.Disk.content g.D.Disk.fault_count g.D.Disk.moment g.D.Disk.images (record { disk = new; takes = s.takes; memory = record m { books = b; parts = ps } }))) others kept in
    let numbered = subst (λ (k : ℕ). StoreKept (stand_of g.D.Disk.tells g.D.Disk.content g.D.Disk.fault_count g.D.Disk.moment g.D.Disk.images (record { disk = s.disk; takes = s.takes; memory = m })) (Commit k c.args.session c.args.secure) Well (stand_of g.D.Disk.tells g.D.Disk.content g.D.Disk.fault_count g.D.Disk.moment g.D.Disk.images (record { disk = new; takes = s.takes; memory = record m { books = b; parts = c.close.new.parts.items } }))) o.numbered moved in
    subst (λ (x : Holding g.row.D.Denot). StoreKept (stand_of g.D.Disk.tells g.D.Disk.content g.D.Disk.fault_count g.D.Disk.moment g.D.Disk.images x) (Commit c.args.part c.args.session c.args.secure) Well (stand_of g.D.Disk.tells g.D.Disk.content g.D.Disk.fault_count g.D.Disk.moment g.D.Disk.images (record { disk = new; takes = s.takes; memory = record m { books = b; parts = c.close.new.parts.items } }))) c.self.view_is numbered

pub invariant_of-self-in-Err : goal.invariant_of-self-in-Err
invariant_of-self-in-Err g c =
    let s = c.self.inside in
    let m : Memory = record { books = s.books; given = s.given.items; parts = s.parts.items; staged = s.staged.items; drawn = s.drawn; last_staged = s.last_staged; seat = s.seat; last_given = s.last_given; fulls = s.fulls; broken = s.broken } in
    let is = c.self.invariant.0.memory in
    let all : IsWhole c.args.part (state_of g.D.Disk.tells (g.D.Disk.content s.disk) (g.D.Disk.fault_count s.disk) m) = subst (λ (x : Holding g.row.D.Denot). IsWhole c.args.part (stand_of g.D.Disk.tells g.D.Disk.content g.D.Disk.fault_count g.D.Disk.moment g.D.Disk.images x).state) (sym c.self.view_is) c.requires.all in
    let o = whole_part g.D.Disk.tells (g.D.Disk.content s.disk) (g.D.Disk.fault_count s.disk) m c.args.part is all in
    let q = o.part in
    let found : find (has_number q.number) s.parts.items ≡ Some q = ap (λ (k : ℕ). find (has_number k) s.parts.items) o.numbered ∙ o.found in
    let closed : record_of c.from.inside.receipt ≡ Received (received_text q c.args.session c.args.secure) = ap (λ (x : Closed). x.receipt) (c.from.view_is ∙ c.close.ensures.closed q o.found) ∙ closed_receipt m q c.args.session c.args.secure is found in
    let name : c.in_file-name.result ≡ in_name q.number = c.in_file-name.ensures ∙ ap in_name (sym o.numbered) in
    let whole : s.broken ≡ None = ap (λ (x : Holding g.row.D.Denot). x.memory.broken) c.self.view_is ∙ c.requires.whole in
    let payload = c.as_slice.result.now in
    let new = c.record_file.new.disk in
    let spells : record_in payload ≡ Ok (Received (received_text q c.args.session c.args.secure)) = ap record_in c.as_slice.ensures ∙ c.spell.ensures.spells ∙ ap Ok closed in
    let run = subst (λ (k : List ℕ). Leaves g.D.Disk.moment g.D.Disk.images (Records (g.D.Disk.files s.disk) k s.books.payloads (payload ∷ [])) s.disk new) name c.record_file.ensures.stop in
    let p : IsCommitting g.D.Disk.tells g.D.Disk.content g.D.Disk.files g.D.Disk.moment g.D.Disk.images s.disk new m q c.args.session c.args.secure payload =
    record { sound = c.self.invariant.0; whole = whole; found = found; all = o.all; in_session = c.requires.session; reads = g.met.D.Disk.reads; told = g.met.D.Disk.told; read = c.record_file.ensures.read; run = run; spells = spells } in
    let others : without_part q.number s.parts.items ≡ c.close.new.parts.items = ap (λ (k : ℕ). without_part k s.parts.items) o.numbered ∙ sym c.close.ensures.others in
    let same : s.books ≡ c.record_file.new.self = sym c.in-Err.ensures.same in
    let sound = failed_commit_sound g.D.Disk.tells g.D.Disk.content g.D.Disk.files g.D.Disk.fault_count g.D.Disk.moment g.D.Disk.images s.disk new m q c.args.session c.args.secure payload p c.faults.result in
    let moved = subst (λ (ps : List Part). IsSound g.D.Disk.tells g.D.Disk.content g.D.Disk.moment g.D.Disk.images new (record m { parts = ps; broken = Some c.faults.result })) others sound in
    (subst (λ (b : Books). IsSound g.D.Disk.tells g.D.Disk.content g.D.Disk.moment g.D.Disk.images new (record m { books = b; parts = c.close.new.parts.items; broken = Some c.faults.result })) same moved, c.spell.ensures.room, kept_in s.kept s.given.items s.books c.record_file.new.self (ap (λ (x : Books). x.folding.state) c.in-Err.ensures.same) c.self.invariant.2, λ still. none_some (sym still))

pub returns : goal.returns
returns g c =
    let s = c.self.inside in
    let m : Memory = record { books = s.books; given = s.given.items; parts = s.parts.items; staged = s.staged.items; drawn = s.drawn; last_staged = s.last_staged; seat = s.seat; last_given = s.last_given; fulls = s.fulls; broken = s.broken } in
    let is = c.self.invariant.0.memory in
    let all : IsWhole c.args.part (state_of g.D.Disk.tells (g.D.Disk.content s.disk) (g.D.Disk.fault_count s.disk) m) = subst (λ (x : Holding g.row.D.Denot). IsWhole c.args.part (stand_of g.D.Disk.tells g.D.Disk.content g.D.Disk.fault_count g.D.Disk.moment g.D.Disk.images x).state) (sym c.self.view_is) c.requires.all in
    let o = whole_part g.D.Disk.tells (g.D.Disk.content s.disk) (g.D.Disk.fault_count s.disk) m c.args.part is all in
    let q = o.part in
    let found : find (has_number q.number) s.parts.items ≡ Some q = ap (λ (k : ℕ). find (has_number k) s.parts.items) o.numbered ∙ o.found in
    let closed : record_of c.from.inside.receipt ≡ Received (received_text q c.args.session c.args.secure) = ap (λ (x : Closed). x.receipt) (c.from.view_is ∙ c.close.ensures.closed q o.found) ∙ closed_receipt m q c.args.session c.args.secure is found in
    let name : c.in_file-name.result ≡ in_name q.number = c.in_file-name.ensures ∙ ap in_name (sym o.numbered) in
    let whole : s.broken ≡ None = ap (λ (x : Holding g.row.D.Denot). x.memory.broken) c.self.view_is ∙ c.requires.whole in
    let payload = c.as_slice.result.now in
    let new = c.record_file.new.disk in
    let spells : record_in payload ≡ Ok (Received (received_text q c.args.session c.args.secure)) = ap record_in c.as_slice.ensures ∙ c.spell.ensures.spells ∙ ap Ok closed in
    let run = subst (λ (k : List ℕ). Leaves g.D.Disk.moment g.D.Disk.images (Records (g.D.Disk.files s.disk) k s.books.payloads (payload ∷ [])) s.disk new) name c.record_file.ensures.stop in
    let p : IsCommitting g.D.Disk.tells g.D.Disk.content g.D.Disk.files g.D.Disk.moment g.D.Disk.images s.disk new m q c.args.session c.args.secure payload =
    record { sound = c.self.invariant.0; whole = whole; found = found; all = o.all; in_session = c.requires.session; reads = g.met.D.Disk.reads; told = g.met.D.Disk.told; read = c.record_file.ensures.read; run = run; spells = spells } in
    let others : without_part q.number s.parts.items ≡ c.close.new.parts.items = ap (λ (k : ℕ). without_part k s.parts.items) o.numbered ∙ sym c.close.ensures.others in
    let same : s.books ≡ c.record_file.new.self = sym c.in-Err.ensures.same in
    let failed = subst (λ (k : ℕ). StoreKept (stand_of g.D.Disk.tells g.D.Disk.content g.D.Disk.fault_count g.D.Disk.moment g.D.Disk.images (record { disk = s.disk; takes = s.takes; memory = m })) (Commit q.number c.args.session c.args.secure) (Refuses Disk) (stand_of g.D.Disk.tells g.D.Disk.content g.D.Disk.fault_count g.D.Disk.moment g.D.Disk.images (record { disk = new; takes = s.takes; memory = record m { parts = without_part q.number s.parts.items; broken = Some k } }))) (sym c.faults.ensures)
    (commit_failed g.D.Disk.tells g.D.Disk.content g.D.Disk.files g.D.Disk.fault_count g.D.Disk.moment g.D.Disk.images s.disk new m q c.args.session c.args.secure payload p c.in-Err.ensures.cause.failed) in
    let booked = subst (λ (b : Books). StoreKept (stand_of g.D.Disk.tells g.D.Disk.content g.D.Disk.fault_count g.D.Disk.moment g.D.Disk.images (record { disk = s.disk; takes = s.takes; memory = m })) (Commit q.number c.args.session c.args.secure) (Refuses Disk) (stand_of g.D.Disk.tells g.D.Disk.content g.D.Disk.fault_count g.D.Disk.moment g.D.Disk.images (record { disk = new; takes = s.takes; memory = record m { books = b; parts = without_part q.number s.parts.items; broken = Some c.faults.result } }))) same failed in
    let kept = booked in
    let moved = subst (λ (ps : List Part). StoreKept (stand_of g.D.Disk.tells g.D.Disk.content g.D.Disk.fault_count g.D.Disk.moment g.D.Disk.images (record { disk = s.disk; takes = s.takes; memory = m })) (Commit q.number c.args.session c.args.secure) (Refuses Disk) (stand_of g.D.Disk.tells g.D.Disk.content g.D.Disk.fault_count g.D.Disk.moment g.D.Disk.images (record { disk = new; takes = s.takes; memory = record m { books = c.record_file.new.self; parts = ps; broken = Some c.faults.result } }))) others kept in
    let numbered = subst (λ (k : ℕ). StoreKept (stand_of g.D.Disk.tells g.D.Disk.content g.D.Disk.fault_count g.D.Disk.moment g.D.Disk.images (record { disk = s.disk; takes = s.takes; memory = m })) (Commit k c.args.session c.args.secure) (Refuses Disk) (stand_of g.D.Disk.tells g.D.Disk.content g.D.Disk.fault_count g.D.Disk.moment g.D.Disk.images (record { disk = new; takes = s.takes; memory = record m { books = c.record_file.new.self; parts = c.close.new.parts.items; broken = Some c.faults.result } }))) o.numbered moved in
    subst (λ (x : Holding g.row.D.Denot). StoreKept (stand_of g.D.Disk.tells g.D.Disk.content g.D.Disk.fault_count g.D.Disk.moment g.D.Disk.images x) (Commit c.args.part c.args.session c.args.secure) (Refuses Disk) (stand_of g.D.Disk.tells g.D.Disk.content g.D.Disk.fault_count g.D.Disk.moment g.D.Disk.images (record { disk = new; takes = s.takes; memory = record m { books = c.record_file.new.self; parts = c.close.new.parts.items; broken = Some c.faults.result } }))) c.self.view_is numbered
