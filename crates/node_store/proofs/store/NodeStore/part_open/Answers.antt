use Rattle.std.proofs.Common.{◌≡◌, ℕ, ◌≤◌, List, [], ◌∷◌, ◌++◌, Some, None, true, sym, ◌∙◌, ap, subst, arith, rules}
use Rattle.std.specs.Prelude.{find, max, option_map}
use Rattle.ftn_addr.specs.Address.{address}
use Rattle.ftn_addr.specs.Counts.{next_count}
use Rattle.ftn_addr.specs.Key.{key_of}
use Rattle.ftn_addr.specs.declared.limits.TheConstants.{MAX_NUMBER}
use Rattle.disk_model.specs.Changes.{Every, Follows, Stands}
use Rattle.disk_model.specs.Moments.{Leaves}
use Rattle.ledger_rec.specs.Fold.{Folding, is_held}
use Rattle.node_model.specs.declared.store.StoreFault.TheVariants.{Disk, Full, NoMemory}
use Rattle.node_model.specs.declared.words.Known.TheVariants.{New}
use Rattle.node_model.specs.Durable.{mark_of}
use Rattle.node_model.specs.Stocks.{known_in}
use Rattle.node_model.specs.Stores.{StoreKept, Part_open, Part_opened, Refuses}
use Rattle.node_model.specs.StoreWords.{part_at}
use Rattle.node_store.specs.Beginnings.{Readies, begun, has_file, len_of, next_number, without_file}
use Rattle.node_store.specs.Books.{Books}
use Rattle.node_store.specs.Contents.{durable_by}
use Rattle.node_store.specs.Names.{in_name}
use Rattle.node_store.specs.Stored.{Holding, Memory, Part, IsSound, sizes_in, stand_of}
use Rattle.node_store.specs.Worlds.{HasLength}
use Rattle.node_store.proofs.BegunParts.{at_mark, is_mark_of}
use Rattle.node_store.proofs.OpenCall.{on_err, on_ok, IsOpening, parts_held, mark_stands, open_full, open_unmade, open_kept, open_sound, open_failed, failed_open_sound}
use Rattle.node_store.proofs.PartOpened.{held_books}
use Rattle.node_store.proofs.OpenTold.{mark_at, unknown_folded}
use Rattle.node_store.proofs.StillKept.{kept_in}
use Rattle.node_store.proofs.HeldTakes.{other_takes, same_takes}
use Rattle.node_model.proofs.Lists.{none_some}
use Rattle.node_store.specs.Worlds.{takes_in}
use Rattle.node_store.proofs.Alike.{in_no_take}
use Rattle.ledger_rec.specs.Fold.{State}
use Rattle.disk_model.specs.World.{World}
use Rattle.std.proofs.Common.{refl}
use Rattle.node_store.proofs.store.NodeStore.part_open.Goals as goal

pub returns-in_default : goal.returns-in_default
returns-in_default g c =
    let s = c.self.inside in
    let m : Memory = record { books = s.books; given = s.given.items; parts = s.parts.items; staged = s.staged.items; drawn = s.drawn; last_staged = s.last_staged; seat = s.seat; last_given = s.last_given; fulls = s.fulls; broken = s.broken } in
    let is = c.self.invariant.0.memory in
    let from = address c.args.from.now in
    let key = key_of c.args.key.now in
    let mark = c.mark_of-mark.result in
    let whole : s.broken ≡ None = ap (λ (x : Holding g.row.D.Denot). x.memory.broken) c.self.view_is ∙ c.requires.whole in
    let sizes = sizes_in g.D.Disk.tells (g.D.Disk.content s.disk) s.given.items in
    let is_mark : mark ≡ option_map at_mark (find (is_mark_of from key) s.books.folding.state.marks) = mark_at g.D.Disk.tells (g.D.Disk.content s.disk) s.given.items from key s.books.folding.state mark
    (c.mark_of-mark.ensures g.D.Disk.tells (g.D.Disk.content s.disk) s.given.items ∙ ap (λ (f : Folding). option_map part_at (mark_of from key (durable_by sizes f.state))) c.folded.ensures) in
    let numbered : c.number_of.result ≡ next_number mark (find (has_file from key) s.parts.items) s.drawn = c.number_of.ensures ∙ ap (λ (ps : List Part). next_number mark (find (has_file from key) ps) s.drawn) c.as_slice.ensures.value in
    let count : c.saturating_add-self-inside.result ≡ next_count s.fulls = search rules in
    let full = open_full g.D.Disk.tells g.D.Disk.content g.D.Disk.fault_count g.D.Disk.moment g.D.Disk.images s.disk m from key mark c.self.invariant.0 whole is_mark (sym c.in_default.is ∙ numbered) in
    let counted = subst (λ (k : ℕ). StoreKept (stand_of g.D.Disk.tells g.D.Disk.content g.D.Disk.fault_count g.D.Disk.moment g.D.Disk.images (record { disk = s.disk; takes = s.takes; memory = m })) (Part_open from key) (Refuses Full) (stand_of g.D.Disk.tells g.D.Disk.content g.D.Disk.fault_count g.D.Disk.moment g.D.Disk.images (record { disk = s.disk; takes = s.takes; memory = record m { fulls = k } }))) (sym count) full in
    subst (λ (x : Holding g.row.D.Denot). StoreKept (stand_of g.D.Disk.tells g.D.Disk.content g.D.Disk.fault_count g.D.Disk.moment g.D.Disk.images x) (Part_open from key) (Refuses Full) (stand_of g.D.Disk.tells g.D.Disk.content g.D.Disk.fault_count g.D.Disk.moment g.D.Disk.images (record { disk = s.disk; takes = s.takes; memory = record m { fulls = c.saturating_add-self-inside.result } }))) c.self.view_is counted

pub returns-in_default-begin : goal.returns-in_default-begin
returns-in_default-begin g c =
    let s = c.self.inside in
    let m : Memory = record { books = s.books; given = s.given.items; parts = s.parts.items; staged = s.staged.items; drawn = s.drawn; last_staged = s.last_staged; seat = s.seat; last_given = s.last_given; fulls = s.fulls; broken = s.broken } in
    let is = c.self.invariant.0.memory in
    let from = address c.args.from.now in
    let key = key_of c.args.key.now in
    let whole : s.broken ≡ None = ap (λ (x : Holding g.row.D.Denot). x.memory.broken) c.self.view_is ∙ c.requires.whole in
    subst (λ (x : Holding g.row.D.Denot). StoreKept (stand_of g.D.Disk.tells g.D.Disk.content g.D.Disk.fault_count g.D.Disk.moment g.D.Disk.images x) (Part_open from key) (Refuses NoMemory) (stand_of g.D.Disk.tells g.D.Disk.content g.D.Disk.fault_count g.D.Disk.moment g.D.Disk.images x)) c.self.view_is (open_unmade g.D.Disk.tells g.D.Disk.content g.D.Disk.fault_count g.D.Disk.moment g.D.Disk.images s.disk m from key c.self.invariant.0 whole)

pub make_room-requires : goal.make_room-requires
make_room-requires g c =
    let s = c.self.inside in
    let m : Memory = record { books = s.books; given = s.given.items; parts = s.parts.items; staged = s.staged.items; drawn = s.drawn; last_staged = s.last_staged; seat = s.seat; last_given = s.last_given; fulls = s.fulls; broken = s.broken } in
    let is = c.self.invariant.0.memory in
    record { held = parts_held m is }

pub returns-then-is_err : goal.returns-then-is_err
returns-then-is_err g c =
    let s = c.self.inside in
    let m : Memory = record { books = s.books; given = s.given.items; parts = s.parts.items; staged = s.staged.items; drawn = s.drawn; last_staged = s.last_staged; seat = s.seat; last_given = s.last_given; fulls = s.fulls; broken = s.broken } in
    let is = c.self.invariant.0.memory in
    let from = address c.args.from.now in
    let key = key_of c.args.key.now in
    let whole : s.broken ≡ None = ap (λ (x : Holding g.row.D.Denot). x.memory.broken) c.self.view_is ∙ c.requires.whole in
    let unmade = open_unmade g.D.Disk.tells g.D.Disk.content g.D.Disk.fault_count g.D.Disk.moment g.D.Disk.images s.disk m from key c.self.invariant.0 whole in
    let same : s.books ≡ c.make_room.new.books = sym (on_err c.make_room.result (c.make_room.new.books ≡ s.books) (sym c.if-is_err.ensures.value) c.make_room.ensures.unheld) in
    let booked = subst (λ (b : Books). StoreKept (stand_of g.D.Disk.tells g.D.Disk.content g.D.Disk.fault_count g.D.Disk.moment g.D.Disk.images (record { disk = s.disk; takes = s.takes; memory = m })) (Part_open from key) (Refuses NoMemory) (stand_of g.D.Disk.tells g.D.Disk.content g.D.Disk.fault_count g.D.Disk.moment g.D.Disk.images (record { disk = s.disk; takes = s.takes; memory = record m { books = b } }))) same unmade in
    let moved = subst (λ (ps : List Part). StoreKept (stand_of g.D.Disk.tells g.D.Disk.content g.D.Disk.fault_count g.D.Disk.moment g.D.Disk.images (record { disk = s.disk; takes = s.takes; memory = m })) (Part_open from key) (Refuses NoMemory) (stand_of g.D.Disk.tells g.D.Disk.content g.D.Disk.fault_count g.D.Disk.moment g.D.Disk.images (record { disk = s.disk; takes = s.takes; memory = record m { books = c.make_room.new.books; parts = ps } }))) (sym c.make_room.ensures.parts) booked in
    subst (λ (x : Holding g.row.D.Denot). StoreKept (stand_of g.D.Disk.tells g.D.Disk.content g.D.Disk.fault_count g.D.Disk.moment g.D.Disk.images x) (Part_open from key) (Refuses NoMemory) (stand_of g.D.Disk.tells g.D.Disk.content g.D.Disk.fault_count g.D.Disk.moment g.D.Disk.images (record { disk = s.disk; takes = s.takes; memory = record m { books = c.make_room.new.books; parts = c.make_room.new.parts.items } }))) c.self.view_is moved

pub make_ready-requires : goal.make_ready-requires
make_ready-requires g c =
    let s = c.self.inside in
    let m : Memory = record { books = s.books; given = s.given.items; parts = s.parts.items; staged = s.staged.items; drawn = s.drawn; last_staged = s.last_staged; seat = s.seat; last_given = s.last_given; fulls = s.fulls; broken = s.broken } in
    let is = c.self.invariant.0.memory in
    let from = address c.args.from.now in
    let key = key_of c.args.key.now in
    let mark = c.mark_of-mark.result in
    let whole : s.broken ≡ None = ap (λ (x : Holding g.row.D.Denot). x.memory.broken) c.self.view_is ∙ c.requires.whole in
    let sizes = sizes_in g.D.Disk.tells (g.D.Disk.content s.disk) s.given.items in
    let is_mark : mark ≡ option_map at_mark (find (is_mark_of from key) s.books.folding.state.marks) = mark_at g.D.Disk.tells (g.D.Disk.content s.disk) s.given.items from key s.books.folding.state mark
    (c.mark_of-mark.ensures g.D.Disk.tells (g.D.Disk.content s.disk) s.given.items ∙ ap (λ (f : Folding). option_map part_at (mark_of from key (durable_by sizes f.state))) c.folded.ensures) in
    let numbered : c.number_of.result ≡ next_number mark (find (has_file from key) s.parts.items) s.drawn = c.number_of.ensures ∙ ap (λ (ps : List Part). next_number mark (find (has_file from key) ps) s.drawn) c.as_slice.ensures.value in
    let n = c.in-Some.number in
    let next : Some n ≡ next_number mark (find (has_file from key) s.parts.items) s.drawn = sym c.in-Some.is ∙ numbered in
    λ a at. subst (λ (k : List ℕ). Every (g.D.Disk.files s.disk) (Stands k a.len)) (sym c.in_file-name.ensures)
    (mark_stands g.D.Disk.tells g.D.Disk.content g.D.Disk.files g.D.Disk.moment g.D.Disk.images s.disk m from key mark n c.self.invariant.0 whole is_mark next g.met.D.Disk.as_read g.met.D.Disk.reads a at)

pub invariant_of-self-in-Ok-make_ready : goal.invariant_of-self-in-Ok-make_ready
invariant_of-self-in-Ok-make_ready g c =
    let s = c.self.inside in
    let m : Memory = record { books = s.books; given = s.given.items; parts = s.parts.items; staged = s.staged.items; drawn = s.drawn; last_staged = s.last_staged; seat = s.seat; last_given = s.last_given; fulls = s.fulls; broken = s.broken } in
    let is = c.self.invariant.0.memory in
    let from = address c.args.from.now in
    let key = key_of c.args.key.now in
    let mark = c.mark_of-mark.result in
    let whole : s.broken ≡ None = ap (λ (x : Holding g.row.D.Denot). x.memory.broken) c.self.view_is ∙ c.requires.whole in
    let sizes = sizes_in g.D.Disk.tells (g.D.Disk.content s.disk) s.given.items in
    let is_mark : mark ≡ option_map at_mark (find (is_mark_of from key) s.books.folding.state.marks) = mark_at g.D.Disk.tells (g.D.Disk.content s.disk) s.given.items from key s.books.folding.state mark
    (c.mark_of-mark.ensures g.D.Disk.tells (g.D.Disk.content s.disk) s.given.items ∙ ap (λ (f : Folding). option_map part_at (mark_of from key (durable_by sizes f.state))) c.folded.ensures) in
    let numbered : c.number_of.result ≡ next_number mark (find (has_file from key) s.parts.items) s.drawn = c.number_of.ensures ∙ ap (λ (ps : List Part). next_number mark (find (has_file from key) ps) s.drawn) c.as_slice.ensures.value in
    let n = c.in-Some.number in
    let next : Some n ≡ next_number mark (find (has_file from key) s.parts.items) s.drawn = sym c.in-Some.is ∙ numbered in
    let new = c.make_ready.new.disk in
    let hs = c.make_room.new.books.folding.holds in
    let name : c.in_file-name.result ≡ in_name n = c.in_file-name.ensures in
    let read = subst (λ (k : List ℕ). Follows (Readies k (len_of mark)) (g.D.Disk.files s.disk) (g.D.Disk.files new)) name c.make_ready.ensures.read in
    let run = subst (λ (k : List ℕ). Leaves g.D.Disk.moment g.D.Disk.images (Readies k (len_of mark)) s.disk new) name c.make_ready.ensures.stop in
    let p : IsOpening g.D.Disk.tells g.D.Disk.content g.D.Disk.files g.D.Disk.moment g.D.Disk.images s.disk new m hs from key mark n =
    record { sound = c.self.invariant.0; whole = whole; is_mark = is_mark; next = next; as_read = g.met.D.Disk.as_read; reads = g.met.D.Disk.reads; told = g.met.D.Disk.told; read = read; run = run; others = c.make_room.ensures.others } in
    let books : held_books s.books hs ≡ c.make_room.new.books = sym c.make_room.ensures.same in
    let part : c.in-Ok.part ≡ begun n from key mark = c.in-Ok.ensures.part in
    let parts : without_file from key s.parts.items ++ begun n from key mark ∷ [] ≡ c.put_in_place.new.parts.items =
    sym (c.put_in_place.ensures ∙ (λ i. without_file (part i).from (part i).key (c.make_room.ensures.parts i) ++ part i ∷ [])) in
    let drawn : max s.drawn n ≡ c.max-self-inside.result = sym c.max-self-inside.ensures in
    let few : n ≤ MAX_NUMBER = omega arith in
    let unknown = unknown_folded sizes from key s.books.folding.state (subst (λ (x : Holding g.row.D.Denot). known_in from key (stand_of g.D.Disk.tells g.D.Disk.content g.D.Disk.fault_count g.D.Disk.moment g.D.Disk.images x).state.stock.state ≡ New) (sym c.self.view_is) c.requires.unknown) in
    let ready = subst (λ (k : List ℕ). Every (g.D.Disk.files new) (HasLength k (len_of mark))) name c.in-Ok-make_ready.ensures.ready in
    let sound = open_sound g.D.Disk.tells g.D.Disk.content g.D.Disk.files g.D.Disk.fault_count g.D.Disk.moment g.D.Disk.images s.disk new m hs from key mark n p c.in-Ok-make_ready.ensures.cause.calm few c.requires.address_limits c.requires.key_limits c.begin.ensures.time unknown (on_ok c.make_room.result (is_held from key hs ≡ true) (sym c.if-is_err.ensures.value) c.make_room.ensures.held) ready in
    let booked = subst (λ (b : Books). IsSound g.D.Disk.tells g.D.Disk.content g.D.Disk.moment g.D.Disk.images new (record m { books = b; parts = without_file from key s.parts.items ++ begun n from key mark ∷ []; drawn = max s.drawn n })) books sound in
    let placed = subst (λ (ps : List Part). IsSound g.D.Disk.tells g.D.Disk.content g.D.Disk.moment g.D.Disk.images new (record m { books = c.make_room.new.books; parts = ps; drawn = max s.drawn n })) parts booked in
    (subst (λ (k : ℕ). IsSound g.D.Disk.tells g.D.Disk.content g.D.Disk.moment g.D.Disk.images new (record m { books = c.make_room.new.books; parts = c.put_in_place.new.parts.items; drawn = k })) drawn placed, c.self.invariant.1, kept_in s.kept s.given.items s.books c.make_room.new.books (ap (λ (x : Books). x.folding.state) c.make_room.ensures.same) c.self.invariant.2, λ still. same_takes s.takes g.D.Disk.tells (g.D.Disk.content s.disk) (g.D.Disk.content new) (g.D.Disk.fault_count s.disk) (g.D.Disk.fault_count new) m _ _ refl refl (ap (λ (x : State). x.takes) (ap (λ (x : Books). x.folding.state) c.make_room.ensures.same)) (λ t. let r = read (g.D.Disk.content new) (g.met.D.Disk.told t new) in subst (λ (w : World). takes_in (g.D.Disk.content new) ≡ takes_in w) (g.met.D.Disk.reads s.disk r.0 r.1).1 (other_takes (in_name n) (in_no_take n) r.0 (g.D.Disk.content new) r.2.others.others)) (c.self.invariant.3 still))

pub invariant_of-self-in-Err : goal.invariant_of-self-in-Err
invariant_of-self-in-Err g c =
    let s = c.self.inside in
    let m : Memory = record { books = s.books; given = s.given.items; parts = s.parts.items; staged = s.staged.items; drawn = s.drawn; last_staged = s.last_staged; seat = s.seat; last_given = s.last_given; fulls = s.fulls; broken = s.broken } in
    let is = c.self.invariant.0.memory in
    let from = address c.args.from.now in
    let key = key_of c.args.key.now in
    let mark = c.mark_of-mark.result in
    let whole : s.broken ≡ None = ap (λ (x : Holding g.row.D.Denot). x.memory.broken) c.self.view_is ∙ c.requires.whole in
    let sizes = sizes_in g.D.Disk.tells (g.D.Disk.content s.disk) s.given.items in
    let is_mark : mark ≡ option_map at_mark (find (is_mark_of from key) s.books.folding.state.marks) = mark_at g.D.Disk.tells (g.D.Disk.content s.disk) s.given.items from key s.books.folding.state mark
    (c.mark_of-mark.ensures g.D.Disk.tells (g.D.Disk.content s.disk) s.given.items ∙ ap (λ (f : Folding). option_map part_at (mark_of from key (durable_by sizes f.state))) c.folded.ensures) in
    let numbered : c.number_of.result ≡ next_number mark (find (has_file from key) s.parts.items) s.drawn = c.number_of.ensures ∙ ap (λ (ps : List Part). next_number mark (find (has_file from key) ps) s.drawn) c.as_slice.ensures.value in
    let n = c.in-Some.number in
    let next : Some n ≡ next_number mark (find (has_file from key) s.parts.items) s.drawn = sym c.in-Some.is ∙ numbered in
    let new = c.make_ready.new.disk in
    let hs = c.make_room.new.books.folding.holds in
    let name : c.in_file-name.result ≡ in_name n = c.in_file-name.ensures in
    let read = subst (λ (k : List ℕ). Follows (Readies k (len_of mark)) (g.D.Disk.files s.disk) (g.D.Disk.files new)) name c.make_ready.ensures.read in
    let run = subst (λ (k : List ℕ). Leaves g.D.Disk.moment g.D.Disk.images (Readies k (len_of mark)) s.disk new) name c.make_ready.ensures.stop in
    let p : IsOpening g.D.Disk.tells g.D.Disk.content g.D.Disk.files g.D.Disk.moment g.D.Disk.images s.disk new m hs from key mark n =
    record { sound = c.self.invariant.0; whole = whole; is_mark = is_mark; next = next; as_read = g.met.D.Disk.as_read; reads = g.met.D.Disk.reads; told = g.met.D.Disk.told; read = read; run = run; others = c.make_room.ensures.others } in
    let books : held_books s.books hs ≡ c.make_room.new.books = sym c.make_room.ensures.same in
    let sound = failed_open_sound g.D.Disk.tells g.D.Disk.content g.D.Disk.files g.D.Disk.fault_count g.D.Disk.moment g.D.Disk.images s.disk new m hs from key mark n p c.faults.result in
    let booked = subst (λ (b : Books). IsSound g.D.Disk.tells g.D.Disk.content g.D.Disk.moment g.D.Disk.images new (record m { books = b; broken = Some c.faults.result })) books sound in
    (subst (λ (ps : List Part). IsSound g.D.Disk.tells g.D.Disk.content g.D.Disk.moment g.D.Disk.images new (record m { books = c.make_room.new.books; parts = ps; broken = Some c.faults.result })) (sym c.make_room.ensures.parts) booked, c.self.invariant.1, kept_in s.kept s.given.items s.books c.make_room.new.books (ap (λ (x : Books). x.folding.state) c.make_room.ensures.same) c.self.invariant.2, λ still. none_some (sym still))

pub returns-in-Ok-make_ready : goal.returns-in-Ok-make_ready
returns-in-Ok-make_ready g c =
    let s = c.self.inside in
    let m : Memory = record { books = s.books; given = s.given.items; parts = s.parts.items; staged = s.staged.items; drawn = s.drawn; last_staged = s.last_staged; seat = s.seat; last_given = s.last_given; fulls = s.fulls; broken = s.broken } in
    let is = c.self.invariant.0.memory in
    let from = address c.args.from.now in
    let key = key_of c.args.key.now in
    let mark = c.mark_of-mark.result in
    let whole : s.broken ≡ None = ap (λ (x : Holding g.row.D.Denot). x.memory.broken) c.self.view_is ∙ c.requires.whole in
    let sizes = sizes_in g.D.Disk.tells (g.D.Disk.content s.disk) s.given.items in
    let is_mark : mark ≡ option_map at_mark (find (is_mark_of from key) s.books.folding.state.marks) = mark_at g.D.Disk.tells (g.D.Disk.content s.disk) s.given.items from key s.books.folding.state mark
    (c.mark_of-mark.ensures g.D.Disk.tells (g.D.Disk.content s.disk) s.given.items ∙ ap (λ (f : Folding). option_map part_at (mark_of from key (durable_by sizes f.state))) c.folded.ensures) in
    let numbered : c.number_of.result ≡ next_number mark (find (has_file from key) s.parts.items) s.drawn = c.number_of.ensures ∙ ap (λ (ps : List Part). next_number mark (find (has_file from key) ps) s.drawn) c.as_slice.ensures.value in
    let n = c.in-Some.number in
    let next : Some n ≡ next_number mark (find (has_file from key) s.parts.items) s.drawn = sym c.in-Some.is ∙ numbered in
    let new = c.make_ready.new.disk in
    let hs = c.make_room.new.books.folding.holds in
    let name : c.in_file-name.result ≡ in_name n = c.in_file-name.ensures in
    let read = subst (λ (k : List ℕ). Follows (Readies k (len_of mark)) (g.D.Disk.files s.disk) (g.D.Disk.files new)) name c.make_ready.ensures.read in
    let run = subst (λ (k : List ℕ). Leaves g.D.Disk.moment g.D.Disk.images (Readies k (len_of mark)) s.disk new) name c.make_ready.ensures.stop in
    let p : IsOpening g.D.Disk.tells g.D.Disk.content g.D.Disk.files g.D.Disk.moment g.D.Disk.images s.disk new m hs from key mark n =
    record { sound = c.self.invariant.0; whole = whole; is_mark = is_mark; next = next; as_read = g.met.D.Disk.as_read; reads = g.met.D.Disk.reads; told = g.met.D.Disk.told; read = read; run = run; others = c.make_room.ensures.others } in
    let books : held_books s.books hs ≡ c.make_room.new.books = sym c.make_room.ensures.same in
    let part : c.in-Ok.part ≡ begun n from key mark = c.in-Ok.ensures.part in
    let parts : without_file from key s.parts.items ++ begun n from key mark ∷ [] ≡ c.put_in_place.new.parts.items =
    sym (c.put_in_place.ensures ∙ (λ i. without_file (part i).from (part i).key (c.make_room.ensures.parts i) ++ part i ∷ [])) in
    let drawn : max s.drawn n ≡ c.max-self-inside.result = sym c.max-self-inside.ensures in
    let few : n ≤ MAX_NUMBER = omega arith in
    let kept = open_kept g.D.Disk.tells g.D.Disk.content g.D.Disk.files g.D.Disk.fault_count g.D.Disk.moment g.D.Disk.images s.disk new m hs from key mark n p c.in-Ok-make_ready.ensures.cause.calm few in
    let booked = subst (λ (b : Books). StoreKept (stand_of g.D.Disk.tells g.D.Disk.content g.D.Disk.fault_count g.D.Disk.moment g.D.Disk.images (record { disk = s.disk; takes = s.takes; memory = m })) (Part_open from key) (Part_opened n (len_of mark)) (stand_of g.D.Disk.tells g.D.Disk.content g.D.Disk.fault_count g.D.Disk.moment g.D.Disk.images (record { disk = new; takes = s.takes; memory = record m { books = b; parts = without_file from key s.parts.items ++ begun n from key mark ∷ []; drawn = max s.drawn n } }))) books kept in
    let placed = subst (λ (ps : List Part). StoreKept (stand_of g.D.Disk.tells g.D.Disk.content g.D.Disk.fault_count g.D.Disk.moment g.D.Disk.images (record { disk = s.disk; takes = s.takes; memory = m })) (Part_open from key) (Part_opened n (len_of mark)) (stand_of g.D.Disk.tells g.D.Disk.content g.D.Disk.fault_count g.D.Disk.moment g.D.Disk.images (record { disk = new; takes = s.takes; memory = record m { books = c.make_room.new.books; parts = ps; drawn = max s.drawn n } }))) parts booked in
    let raised = subst (λ (k : ℕ). StoreKept (stand_of g.D.Disk.tells g.D.Disk.content g.D.Disk.fault_count g.D.Disk.moment g.D.Disk.images (record { disk = s.disk; takes = s.takes; memory = m })) (Part_open from key) (Part_opened n (len_of mark)) (stand_of g.D.Disk.tells g.D.Disk.content g.D.Disk.fault_count g.D.Disk.moment g.D.Disk.images (record { disk = new; takes = s.takes; memory = record m { books = c.make_room.new.books; parts = c.put_in_place.new.parts.items; drawn = k } }))) drawn placed in
    let sized = subst (λ (k : ℕ). StoreKept (stand_of g.D.Disk.tells g.D.Disk.content g.D.Disk.fault_count g.D.Disk.moment g.D.Disk.images (record { disk = s.disk; takes = s.takes; memory = m })) (Part_open from key) (Part_opened n k) (stand_of g.D.Disk.tells g.D.Disk.content g.D.Disk.fault_count g.D.Disk.moment g.D.Disk.images (record { disk = new; takes = s.takes; memory = record m { books = c.make_room.new.books; parts = c.put_in_place.new.parts.items; drawn = c.max-self-inside.result } }))) (sym c.len_of.ensures) raised in
    subst (λ (x : Holding g.row.D.Denot). StoreKept (stand_of g.D.Disk.tells g.D.Disk.content g.D.Disk.fault_count g.D.Disk.moment g.D.Disk.images x) (Part_open from key) (Part_opened n c.len_of.result) (stand_of g.D.Disk.tells g.D.Disk.content g.D.Disk.fault_count g.D.Disk.moment g.D.Disk.images (record { disk = new; takes = s.takes; memory = record m { books = c.make_room.new.books; parts = c.put_in_place.new.parts.items; drawn = c.max-self-inside.result } }))) c.self.view_is sized

pub returns-in-Err : goal.returns-in-Err
returns-in-Err g c =
    let s = c.self.inside in
    let m : Memory = record { books = s.books; given = s.given.items; parts = s.parts.items; staged = s.staged.items; drawn = s.drawn; last_staged = s.last_staged; seat = s.seat; last_given = s.last_given; fulls = s.fulls; broken = s.broken } in
    let is = c.self.invariant.0.memory in
    let from = address c.args.from.now in
    let key = key_of c.args.key.now in
    let mark = c.mark_of-mark.result in
    let whole : s.broken ≡ None = ap (λ (x : Holding g.row.D.Denot). x.memory.broken) c.self.view_is ∙ c.requires.whole in
    let sizes = sizes_in g.D.Disk.tells (g.D.Disk.content s.disk) s.given.items in
    let is_mark : mark ≡ option_map at_mark (find (is_mark_of from key) s.books.folding.state.marks) = mark_at g.D.Disk.tells (g.D.Disk.content s.disk) s.given.items from key s.books.folding.state mark
    (c.mark_of-mark.ensures g.D.Disk.tells (g.D.Disk.content s.disk) s.given.items ∙ ap (λ (f : Folding). option_map part_at (mark_of from key (durable_by sizes f.state))) c.folded.ensures) in
    let numbered : c.number_of.result ≡ next_number mark (find (has_file from key) s.parts.items) s.drawn = c.number_of.ensures ∙ ap (λ (ps : List Part). next_number mark (find (has_file from key) ps) s.drawn) c.as_slice.ensures.value in
    let n = c.in-Some.number in
    let next : Some n ≡ next_number mark (find (has_file from key) s.parts.items) s.drawn = sym c.in-Some.is ∙ numbered in
    let new = c.make_ready.new.disk in
    let hs = c.make_room.new.books.folding.holds in
    let name : c.in_file-name.result ≡ in_name n = c.in_file-name.ensures in
    let read = subst (λ (k : List ℕ). Follows (Readies k (len_of mark)) (g.D.Disk.files s.disk) (g.D.Disk.files new)) name c.make_ready.ensures.read in
    let run = subst (λ (k : List ℕ). Leaves g.D.Disk.moment g.D.Disk.images (Readies k (len_of mark)) s.disk new) name c.make_ready.ensures.stop in
    let p : IsOpening g.D.Disk.tells g.D.Disk.content g.D.Disk.files g.D.Disk.moment g.D.Disk.images s.disk new m hs from key mark n =
    record { sound = c.self.invariant.0; whole = whole; is_mark = is_mark; next = next; as_read = g.met.D.Disk.as_read; reads = g.met.D.Disk.reads; told = g.met.D.Disk.told; read = read; run = run; others = c.make_room.ensures.others } in
    let books : held_books s.books hs ≡ c.make_room.new.books = sym c.make_room.ensures.same in
    let failed = subst (λ (k : ℕ). StoreKept (stand_of g.D.Disk.tells g.D.Disk.content g.D.Disk.fault_count g.D.Disk.moment g.D.Disk.images (record { disk = s.disk; takes = s.takes; memory = m })) (Part_open from key) (Refuses Disk) (stand_of g.D.Disk.tells g.D.Disk.content g.D.Disk.fault_count g.D.Disk.moment g.D.Disk.images (record { disk = new; takes = s.takes; memory = record m { books = held_books s.books hs; broken = Some k } }))) (sym c.faults.ensures)
    (open_failed g.D.Disk.tells g.D.Disk.content g.D.Disk.files g.D.Disk.fault_count g.D.Disk.moment g.D.Disk.images s.disk new m hs from key mark n p c.in-Err.ensures.cause.failed) in
    let booked = subst (λ (b : Books). StoreKept (stand_of g.D.Disk.tells g.D.Disk.content g.D.Disk.fault_count g.D.Disk.moment g.D.Disk.images (record { disk = s.disk; takes = s.takes; memory = m })) (Part_open from key) (Refuses Disk) (stand_of g.D.Disk.tells g.D.Disk.content g.D.Disk.fault_count g.D.Disk.moment g.D.Disk.images (record { disk = new; takes = s.takes; memory = record m { books = b; broken = Some c.faults.result } }))) books failed in
    let moved = subst (λ (ps : List Part). StoreKept (stand_of g.D.Disk.tells g.D.Disk.content g.D.Disk.fault_count g.D.Disk.moment g.D.Disk.images (record { disk = s.disk; takes = s.takes; memory = m })) (Part_open from key) (Refuses Disk) (stand_of g.D.Disk.tells g.D.Disk.content g.D.Disk.fault_count g.D.Disk.moment g.D.Disk.images (record { disk = new; takes = s.takes; memory = record m { books = c.make_room.new.books; parts = ps; broken = Some c.faults.result } }))) (sym c.make_room.ensures.parts) booked in
    subst (λ (x : Holding g.row.D.Denot). StoreKept (stand_of g.D.Disk.tells g.D.Disk.content g.D.Disk.fault_count g.D.Disk.moment g.D.Disk.images x) (Part_open from key) (Refuses Disk) (stand_of g.D.Disk.tells g.D.Disk.content g.D.Disk.fault_count g.D.Disk.moment g.D.Disk.images (record { disk = new; takes = s.takes; memory = record m { books = c.make_room.new.books; parts = c.make_room.new.parts.items; broken = Some c.faults.result } }))) c.self.view_is moved
