use Rattle.std.proofs.Common.{◌≡◌, ◌+◌, ◌<◌, ◌≤◌, ℕ, List, [], ◌∷◌, ◌++◌, Some, None, Result, Ok, refl, sym, ◌∙◌, ap, subst, rules}
use Rattle.disk_model.specs.Answers.{CopiedOf, Copies, CopiesInPart}
use Rattle.disk_model.specs.Changes.{Every, Follows}
use Rattle.disk_model.specs.Moments.{Steps}
use Rattle.disk_model.specs.declared.answers.Copied.{Copied}
use Rattle.ftn_addr.specs.Counts.{next_count}
use Rattle.ftn_addr.specs.declared.limits.TheConstants.{MAX_NUMBER, MAX_SIZE}
use Rattle.ftn_addr.specs.declared.refusals.Failed.{Failed}
use Rattle.node_model.specs.declared.store.Staged.TheVariants as N
use Rattle.node_model.specs.declared.store.StoreFault.TheVariants.{Disk, Full, NoMemory}
use Rattle.node_model.specs.Stores.{StoreKept, Stage_copy, Copied_as, Refuses}
use Rattle.node_store.specs.Names.{out_name}
use Rattle.node_store.specs.Stored.{Holding, Memory, Put, IsSound, stand_of, state_of}
use Rattle.node_store.proofs.Calls.{still_call}
use Rattle.node_store.proofs.CopyCall.{copy_reads, copy_leaves, copied, is_copied, is_absent, is_over, is_untold}
use Rattle.node_store.proofs.OneRecord.{only_content}
use Rattle.node_store.proofs.ReadCall.{told_files}
use Rattle.node_store.proofs.StageCall.{IsStaging, stage_failed, stage_none, none_told, none_sound, staged_told, stage_kept, stage_sound}
use Rattle.node_store.proofs.HeldTakes.{other_takes, same_takes}
use Rattle.node_store.proofs.Alike.{out_no_take}
use Rattle.node_store.proofs.store.NodeStore.stage_copy.Goals as goal

pub returns-then-self-clause-kept : goal.returns-then-self-clause-kept
returns-then-self-clause-kept g c =
    let s = c.self.inside in
    let m : Memory = record { books = s.books; given = s.given.items; parts = s.parts.items; staged = s.staged.items; drawn = s.drawn; last_staged = s.last_staged; seat = s.seat; last_given = s.last_given; fulls = s.fulls; broken = s.broken } in
    let whole : s.broken ≡ None = ap (λ (x : Holding g.row.D.Denot). x.memory.broken) c.self.view_is ∙ c.requires in
    let path = c.args.path.now.list in
    let m' : Memory = record { books = s.books; given = s.given.items; parts = s.parts.items; staged = s.staged.items; drawn = s.drawn; last_staged = s.last_staged; seat = s.seat; last_given = s.last_given; fulls = c.saturating_add-self-inside.result; broken = s.broken } in
    let count : c.saturating_add-self-inside.result ≡ next_count s.fulls = search rules in
    subst (λ (x : Holding g.row.D.Denot). StoreKept (stand_of g.D.Disk.tells g.D.Disk.content g.D.Disk.fault_count g.D.Disk.moment g.D.Disk.images x) (Stage_copy path) (Refuses Full) (stand_of g.D.Disk.tells g.D.Disk.content g.D.Disk.fault_count g.D.Disk.moment g.D.Disk.images (record { disk = s.disk; takes = s.takes; memory = m' }))) c.self.view_is
    (still_call g.D.Disk.tells g.D.Disk.content g.D.Disk.fault_count g.D.Disk.moment g.D.Disk.images s.disk m m' (Stage_copy path) (Refuses Full) c.self.invariant.0.memory.books.folds c.self.invariant.0.kept refl (
      c.if-self.true,
      ap (λ (n : ℕ). record (state_of g.D.Disk.tells (g.D.Disk.content s.disk) (g.D.Disk.fault_count s.disk) m) { counts = record { faults = g.D.Disk.fault_count s.disk; fulls = n; broken = s.broken } }) count,
    ))

pub returns-then-is_err-clause-kept : goal.returns-then-is_err-clause-kept
returns-then-is_err-clause-kept g c =
    let s = c.self.inside in
    let m : Memory = record { books = s.books; given = s.given.items; parts = s.parts.items; staged = s.staged.items; drawn = s.drawn; last_staged = s.last_staged; seat = s.seat; last_given = s.last_given; fulls = s.fulls; broken = s.broken } in
    let whole : s.broken ≡ None = ap (λ (x : Holding g.row.D.Denot). x.memory.broken) c.self.view_is ∙ c.requires in
    let path = c.args.path.now.list in
    let kept = still_call g.D.Disk.tells g.D.Disk.content g.D.Disk.fault_count g.D.Disk.moment g.D.Disk.images s.disk m m (Stage_copy path) (Refuses NoMemory) c.self.invariant.0.memory.books.folds c.self.invariant.0.kept refl (tt, refl) in
    subst (λ (x : Holding g.row.D.Denot). StoreKept (stand_of g.D.Disk.tells g.D.Disk.content g.D.Disk.fault_count g.D.Disk.moment g.D.Disk.images x) (Stage_copy path) (Refuses NoMemory) (stand_of g.D.Disk.tells g.D.Disk.content g.D.Disk.fault_count g.D.Disk.moment g.D.Disk.images (record { disk = s.disk; takes = s.takes; memory = record { books = s.books; given = s.given.items; parts = s.parts.items; staged = c.make_room.new.staged.items; drawn = s.drawn; last_staged = s.last_staged; seat = s.seat; last_given = s.last_given; fulls = s.fulls; broken = s.broken } }))) c.self.view_is
    (subst (λ (l : List Put). StoreKept (stand_of g.D.Disk.tells g.D.Disk.content g.D.Disk.fault_count g.D.Disk.moment g.D.Disk.images (record { disk = s.disk; takes = s.takes; memory = m })) (Stage_copy path) (Refuses NoMemory) (stand_of g.D.Disk.tells g.D.Disk.content g.D.Disk.fault_count g.D.Disk.moment g.D.Disk.images (record { disk = s.disk; takes = s.takes; memory = record m { staged = l } }))) (sym c.make_room.ensures.same) kept)

pub invariant_of-self-then-stat-gt-MAX_SIZE : goal.invariant_of-self-then-stat-gt-MAX_SIZE
invariant_of-self-then-stat-gt-MAX_SIZE g c =
    let s = c.self.inside in
    let m : Memory = record { books = s.books; given = s.given.items; parts = s.parts.items; staged = s.staged.items; drawn = s.drawn; last_staged = s.last_staged; seat = s.seat; last_given = s.last_given; fulls = s.fulls; broken = s.broken } in
    let whole : s.broken ≡ None = ap (λ (x : Holding g.row.D.Denot). x.memory.broken) c.self.view_is ∙ c.requires in
    let path = c.args.path.now.list in
    let new = c.copy.new.self in
    let number = s.last_staged + 1 in
    let name : c.out_file.result ≡ out_name number = c.out_file.ensures in
    let read = copy_reads c.copy.result path (out_name number) MAX_SIZE (g.D.Disk.files s.disk) (g.D.Disk.files new) (subst (λ (k : List ℕ). Follows (Copies c.copy.result path k MAX_SIZE) (g.D.Disk.files s.disk) (g.D.Disk.files new)) name c.copy.ensures.read) in
    let p : IsStaging g.D.Disk.tells g.D.Disk.content g.D.Disk.moment g.D.Disk.images s.disk new m number = record {
      sound = c.self.invariant.0;
      whole = whole;
      next = refl;
      files = told_files g.D.Disk.tells g.D.Disk.content g.D.Disk.files g.D.Disk.moment g.D.Disk.images s.disk m c.self.invariant.0 whole g.met.D.Disk.as_read g.met.D.Disk.told;
      only = only_content g.D.Disk.tells g.D.Disk.content g.D.Disk.files (out_name number) s.disk new g.met.D.Disk.reads g.met.D.Disk.told read;
      run = copy_leaves g.D.Disk.moment g.D.Disk.images c.copy.result (out_name number) MAX_SIZE s.disk new (subst (λ (k : List ℕ). Steps g.D.Disk.moment g.D.Disk.images (CopiesInPart c.copy.result k MAX_SIZE) s.disk new) name c.copy.ensures.stop);
    } in
    (subst (λ (l : List Put). IsSound g.D.Disk.tells g.D.Disk.content g.D.Disk.moment g.D.Disk.images new (record m { staged = l })) (sym c.make_room.ensures.same) (none_sound g.D.Disk.tells g.D.Disk.content g.D.Disk.fault_count g.D.Disk.moment g.D.Disk.images s.disk new m number p), c.self.invariant.1, c.self.invariant.2, λ still. same_takes s.takes g.D.Disk.tells (g.D.Disk.content s.disk) (g.D.Disk.content new) (g.D.Disk.fault_count s.disk) (g.D.Disk.fault_count new) m _ _ refl refl refl (λ t. other_takes (out_name number) (out_no_take number) (g.D.Disk.content s.disk) (g.D.Disk.content new) (p.only t).others) (c.self.invariant.3 still))

pub returns-then-stat-gt-MAX_SIZE-clause-kept : goal.returns-then-stat-gt-MAX_SIZE-clause-kept
returns-then-stat-gt-MAX_SIZE-clause-kept g c =
    let s = c.self.inside in
    let m : Memory = record { books = s.books; given = s.given.items; parts = s.parts.items; staged = s.staged.items; drawn = s.drawn; last_staged = s.last_staged; seat = s.seat; last_given = s.last_given; fulls = s.fulls; broken = s.broken } in
    let whole : s.broken ≡ None = ap (λ (x : Holding g.row.D.Denot). x.memory.broken) c.self.view_is ∙ c.requires in
    let path = c.args.path.now.list in
    let new = c.copy.new.self in
    let number = s.last_staged + 1 in
    let name : c.out_file.result ≡ out_name number = c.out_file.ensures in
    let read = copy_reads c.copy.result path (out_name number) MAX_SIZE (g.D.Disk.files s.disk) (g.D.Disk.files new) (subst (λ (k : List ℕ). Follows (Copies c.copy.result path k MAX_SIZE) (g.D.Disk.files s.disk) (g.D.Disk.files new)) name c.copy.ensures.read) in
    let p : IsStaging g.D.Disk.tells g.D.Disk.content g.D.Disk.moment g.D.Disk.images s.disk new m number = record {
      sound = c.self.invariant.0;
      whole = whole;
      next = refl;
      files = told_files g.D.Disk.tells g.D.Disk.content g.D.Disk.files g.D.Disk.moment g.D.Disk.images s.disk m c.self.invariant.0 whole g.met.D.Disk.as_read g.met.D.Disk.told;
      only = only_content g.D.Disk.tells g.D.Disk.content g.D.Disk.files (out_name number) s.disk new g.met.D.Disk.reads g.met.D.Disk.told read;
      run = copy_leaves g.D.Disk.moment g.D.Disk.images c.copy.result (out_name number) MAX_SIZE s.disk new (subst (λ (k : List ℕ). Steps g.D.Disk.moment g.D.Disk.images (CopiesInPart c.copy.result k MAX_SIZE) s.disk new) name c.copy.ensures.stop);
    } in
    let of = subst (λ (x : Copied). Every (g.D.Disk.files s.disk) (λ w. CopiedOf x MAX_SIZE (w.outside path))) c.in-Ok-Copied.field-0-is c.in-Ok-Copied.ensures.told in
    let calm = c.in-Ok-Copied.ensures.cause.calm in
    let low : s.last_staged < MAX_NUMBER = search (rules, c.if-self.false) in
    let kept = stage_none g.D.Disk.tells g.D.Disk.content g.D.Disk.fault_count g.D.Disk.moment g.D.Disk.images s.disk new m number p (Stage_copy path) (Copied_as N.Over) (low, is_untold g.D.Disk.tells g.D.Disk.content g.D.Disk.files g.D.Disk.fault_count s.disk new m path (out_name number) g.met.D.Disk.reads g.met.D.Disk.told c.in-Ok-Copied.stat c.if-stat-gt-MAX_SIZE.true of, none_told g.D.Disk.tells g.D.Disk.content g.D.Disk.fault_count g.D.Disk.moment g.D.Disk.images s.disk new m number p calm) in
    subst (λ (x : Holding g.row.D.Denot). StoreKept (stand_of g.D.Disk.tells g.D.Disk.content g.D.Disk.fault_count g.D.Disk.moment g.D.Disk.images x) (Stage_copy path) (Copied_as N.Over) (stand_of g.D.Disk.tells g.D.Disk.content g.D.Disk.fault_count g.D.Disk.moment g.D.Disk.images (record { disk = new; takes = s.takes; memory = record { books = s.books; given = s.given.items; parts = s.parts.items; staged = c.make_room.new.staged.items; drawn = s.drawn; last_staged = s.last_staged; seat = s.seat; last_given = s.last_given; fulls = s.fulls; broken = s.broken } }))) c.self.view_is
    (subst (λ (l : List Put). StoreKept (stand_of g.D.Disk.tells g.D.Disk.content g.D.Disk.fault_count g.D.Disk.moment g.D.Disk.images (record { disk = s.disk; takes = s.takes; memory = m })) (Stage_copy path) (Copied_as N.Over) (stand_of g.D.Disk.tells g.D.Disk.content g.D.Disk.fault_count g.D.Disk.moment g.D.Disk.images (record { disk = new; takes = s.takes; memory = record m { staged = l } }))) (sym c.make_room.ensures.same) kept)

pub invariant_of-self-in-Ok-Copied : goal.invariant_of-self-in-Ok-Copied
invariant_of-self-in-Ok-Copied g c =
    let s = c.self.inside in
    let m : Memory = record { books = s.books; given = s.given.items; parts = s.parts.items; staged = s.staged.items; drawn = s.drawn; last_staged = s.last_staged; seat = s.seat; last_given = s.last_given; fulls = s.fulls; broken = s.broken } in
    let whole : s.broken ≡ None = ap (λ (x : Holding g.row.D.Denot). x.memory.broken) c.self.view_is ∙ c.requires in
    let path = c.args.path.now.list in
    let new = c.copy.new.self in
    let number = s.last_staged + 1 in
    let name : c.out_file.result ≡ out_name number = c.out_file.ensures in
    let read = copy_reads c.copy.result path (out_name number) MAX_SIZE (g.D.Disk.files s.disk) (g.D.Disk.files new) (subst (λ (k : List ℕ). Follows (Copies c.copy.result path k MAX_SIZE) (g.D.Disk.files s.disk) (g.D.Disk.files new)) name c.copy.ensures.read) in
    let p : IsStaging g.D.Disk.tells g.D.Disk.content g.D.Disk.moment g.D.Disk.images s.disk new m number = record {
      sound = c.self.invariant.0;
      whole = whole;
      next = refl;
      files = told_files g.D.Disk.tells g.D.Disk.content g.D.Disk.files g.D.Disk.moment g.D.Disk.images s.disk m c.self.invariant.0 whole g.met.D.Disk.as_read g.met.D.Disk.told;
      only = only_content g.D.Disk.tells g.D.Disk.content g.D.Disk.files (out_name number) s.disk new g.met.D.Disk.reads g.met.D.Disk.told read;
      run = copy_leaves g.D.Disk.moment g.D.Disk.images c.copy.result (out_name number) MAX_SIZE s.disk new (subst (λ (k : List ℕ). Steps g.D.Disk.moment g.D.Disk.images (CopiesInPart c.copy.result k MAX_SIZE) s.disk new) name c.copy.ensures.stop);
    } in
    let of = subst (λ (x : Copied). Every (g.D.Disk.files s.disk) (λ w. CopiedOf x MAX_SIZE (w.outside path))) c.in-Ok-Copied.field-0-is c.in-Ok-Copied.ensures.told in
    let calm = c.in-Ok-Copied.ensures.cause.calm in
    let stat = c.in-Ok-Copied.stat in
    let from = subst (λ (k : List ℕ). Follows (Copies c.copy.result path k MAX_SIZE) (g.D.Disk.files s.disk) (g.D.Disk.files new)) name c.copy.ensures.read in
    let follows = subst (λ (r : Result Copied Failed). Follows (Copies r path (out_name number) MAX_SIZE) (g.D.Disk.files s.disk) (g.D.Disk.files new)) (c.in-Ok-Copied.is ∙ ap Ok c.in-Ok-Copied.field-0-is) from in
    let copy = copied g.D.Disk.tells g.D.Disk.content g.D.Disk.files g.D.Disk.fault_count s.disk new m path (out_name number) g.met.D.Disk.reads g.met.D.Disk.told stat of follows in
    let bytes = copy.bytes in
    let staged : s.staged.items ++ record { number = number; size = stat.size } ∷ [] ≡ c.note_staged.new.staged.items = ap (λ (l : List Put). l ++ record { number = number; size = stat.size } ∷ []) (sym c.make_room.ensures.same) ∙ sym c.note_staged.ensures in (
      subst (λ (l : List Put). IsSound g.D.Disk.tells g.D.Disk.content g.D.Disk.moment g.D.Disk.images new (record m { staged = l; last_staged = number })) staged
          (stage_sound g.D.Disk.tells g.D.Disk.content g.D.Disk.fault_count g.D.Disk.moment g.D.Disk.images s.disk new m number p bytes stat.size copy.size copy.written calm),
      c.self.invariant.1,
      c.self.invariant.2,
      λ still. same_takes s.takes g.D.Disk.tells (g.D.Disk.content s.disk) (g.D.Disk.content new) (g.D.Disk.fault_count s.disk) (g.D.Disk.fault_count new) m _ _ refl refl refl (λ t. other_takes (out_name number) (out_no_take number) (g.D.Disk.content s.disk) (g.D.Disk.content new) (p.only t).others) (c.self.invariant.3 still),
    )

pub returns-else-stat-gt-MAX_SIZE-clause-kept : goal.returns-else-stat-gt-MAX_SIZE-clause-kept
returns-else-stat-gt-MAX_SIZE-clause-kept g c =
    let s = c.self.inside in
    let m : Memory = record { books = s.books; given = s.given.items; parts = s.parts.items; staged = s.staged.items; drawn = s.drawn; last_staged = s.last_staged; seat = s.seat; last_given = s.last_given; fulls = s.fulls; broken = s.broken } in
    let whole : s.broken ≡ None = ap (λ (x : Holding g.row.D.Denot). x.memory.broken) c.self.view_is ∙ c.requires in
    let path = c.args.path.now.list in
    let new = c.copy.new.self in
    let number = s.last_staged + 1 in
    let name : c.out_file.result ≡ out_name number = c.out_file.ensures in
    let read = copy_reads c.copy.result path (out_name number) MAX_SIZE (g.D.Disk.files s.disk) (g.D.Disk.files new) (subst (λ (k : List ℕ). Follows (Copies c.copy.result path k MAX_SIZE) (g.D.Disk.files s.disk) (g.D.Disk.files new)) name c.copy.ensures.read) in
    let p : IsStaging g.D.Disk.tells g.D.Disk.content g.D.Disk.moment g.D.Disk.images s.disk new m number = record {
      sound = c.self.invariant.0;
      whole = whole;
      next = refl;
      files = told_files g.D.Disk.tells g.D.Disk.content g.D.Disk.files g.D.Disk.moment g.D.Disk.images s.disk m c.self.invariant.0 whole g.met.D.Disk.as_read g.met.D.Disk.told;
      only = only_content g.D.Disk.tells g.D.Disk.content g.D.Disk.files (out_name number) s.disk new g.met.D.Disk.reads g.met.D.Disk.told read;
      run = copy_leaves g.D.Disk.moment g.D.Disk.images c.copy.result (out_name number) MAX_SIZE s.disk new (subst (λ (k : List ℕ). Steps g.D.Disk.moment g.D.Disk.images (CopiesInPart c.copy.result k MAX_SIZE) s.disk new) name c.copy.ensures.stop);
    } in
    let of = subst (λ (x : Copied). Every (g.D.Disk.files s.disk) (λ w. CopiedOf x MAX_SIZE (w.outside path))) c.in-Ok-Copied.field-0-is c.in-Ok-Copied.ensures.told in
    let calm = c.in-Ok-Copied.ensures.cause.calm in
    let stat = c.in-Ok-Copied.stat in
    let from = subst (λ (k : List ℕ). Follows (Copies c.copy.result path k MAX_SIZE) (g.D.Disk.files s.disk) (g.D.Disk.files new)) name c.copy.ensures.read in
    let follows = subst (λ (r : Result Copied Failed). Follows (Copies r path (out_name number) MAX_SIZE) (g.D.Disk.files s.disk) (g.D.Disk.files new)) (c.in-Ok-Copied.is ∙ ap Ok c.in-Ok-Copied.field-0-is) from in
    let copy = copied g.D.Disk.tells g.D.Disk.content g.D.Disk.files g.D.Disk.fault_count s.disk new m path (out_name number) g.met.D.Disk.reads g.met.D.Disk.told stat of follows in
    let bytes = copy.bytes in
    let staged : s.staged.items ++ record { number = number; size = stat.size } ∷ [] ≡ c.note_staged.new.staged.items = ap (λ (l : List Put). l ++ record { number = number; size = stat.size } ∷ []) (sym c.make_room.ensures.same) ∙ sym c.note_staged.ensures in
    let left : number ≤ MAX_NUMBER = search (rules, c.if-self.false) in
    let answer = N.Copied number (record { size = stat.size; time = stat.time }) in
    let kept = stage_kept g.D.Disk.tells g.D.Disk.content g.D.Disk.fault_count g.D.Disk.moment g.D.Disk.images s.disk new m number p bytes stat.size copy.size copy.written calm (Stage_copy path) (Copied_as answer) (refl, left, (bytes, is_copied g.D.Disk.tells g.D.Disk.content g.D.Disk.files g.D.Disk.fault_count s.disk new m path (out_name number) g.met.D.Disk.reads g.met.D.Disk.told stat copy c.if-stat-gt-MAX_SIZE.false, staged_told g.D.Disk.tells g.D.Disk.content g.D.Disk.fault_count g.D.Disk.moment g.D.Disk.images s.disk new m number p bytes stat.size copy.size copy.written calm)) in
    subst (λ (x : Holding g.row.D.Denot). StoreKept (stand_of g.D.Disk.tells g.D.Disk.content g.D.Disk.fault_count g.D.Disk.moment g.D.Disk.images x) (Stage_copy path) (Copied_as answer) (stand_of g.D.Disk.tells g.D.Disk.content g.D.Disk.fault_count g.D.Disk.moment g.D.Disk.images (record { disk = new; takes = s.takes; memory = record { books = s.books; given = s.given.items; parts = s.parts.items; staged = c.note_staged.new.staged.items; drawn = s.drawn; last_staged = number; seat = s.seat; last_given = s.last_given; fulls = s.fulls; broken = s.broken } }))) c.self.view_is
    (subst (λ (l : List Put). StoreKept (stand_of g.D.Disk.tells g.D.Disk.content g.D.Disk.fault_count g.D.Disk.moment g.D.Disk.images (record { disk = s.disk; takes = s.takes; memory = m })) (Stage_copy path) (Copied_as answer) (stand_of g.D.Disk.tells g.D.Disk.content g.D.Disk.fault_count g.D.Disk.moment g.D.Disk.images (record { disk = new; takes = s.takes; memory = record m { staged = l; last_staged = number } }))) staged kept)

pub invariant_of-self-in-Ok-Over : goal.invariant_of-self-in-Ok-Over
invariant_of-self-in-Ok-Over g c =
    let s = c.self.inside in
    let m : Memory = record { books = s.books; given = s.given.items; parts = s.parts.items; staged = s.staged.items; drawn = s.drawn; last_staged = s.last_staged; seat = s.seat; last_given = s.last_given; fulls = s.fulls; broken = s.broken } in
    let whole : s.broken ≡ None = ap (λ (x : Holding g.row.D.Denot). x.memory.broken) c.self.view_is ∙ c.requires in
    let path = c.args.path.now.list in
    let new = c.copy.new.self in
    let number = s.last_staged + 1 in
    let name : c.out_file.result ≡ out_name number = c.out_file.ensures in
    let read = copy_reads c.copy.result path (out_name number) MAX_SIZE (g.D.Disk.files s.disk) (g.D.Disk.files new) (subst (λ (k : List ℕ). Follows (Copies c.copy.result path k MAX_SIZE) (g.D.Disk.files s.disk) (g.D.Disk.files new)) name c.copy.ensures.read) in
    let p : IsStaging g.D.Disk.tells g.D.Disk.content g.D.Disk.moment g.D.Disk.images s.disk new m number = record {
      sound = c.self.invariant.0;
      whole = whole;
      next = refl;
      files = told_files g.D.Disk.tells g.D.Disk.content g.D.Disk.files g.D.Disk.moment g.D.Disk.images s.disk m c.self.invariant.0 whole g.met.D.Disk.as_read g.met.D.Disk.told;
      only = only_content g.D.Disk.tells g.D.Disk.content g.D.Disk.files (out_name number) s.disk new g.met.D.Disk.reads g.met.D.Disk.told read;
      run = copy_leaves g.D.Disk.moment g.D.Disk.images c.copy.result (out_name number) MAX_SIZE s.disk new (subst (λ (k : List ℕ). Steps g.D.Disk.moment g.D.Disk.images (CopiesInPart c.copy.result k MAX_SIZE) s.disk new) name c.copy.ensures.stop);
    } in
    (subst (λ (l : List Put). IsSound g.D.Disk.tells g.D.Disk.content g.D.Disk.moment g.D.Disk.images new (record m { staged = l })) (sym c.make_room.ensures.same) (none_sound g.D.Disk.tells g.D.Disk.content g.D.Disk.fault_count g.D.Disk.moment g.D.Disk.images s.disk new m number p), c.self.invariant.1, c.self.invariant.2, λ still. same_takes s.takes g.D.Disk.tells (g.D.Disk.content s.disk) (g.D.Disk.content new) (g.D.Disk.fault_count s.disk) (g.D.Disk.fault_count new) m _ _ refl refl refl (λ t. other_takes (out_name number) (out_no_take number) (g.D.Disk.content s.disk) (g.D.Disk.content new) (p.only t).others) (c.self.invariant.3 still))

pub returns-in-Ok-Over-clause-kept : goal.returns-in-Ok-Over-clause-kept
returns-in-Ok-Over-clause-kept g c =
    let s = c.self.inside in
    let m : Memory = record { books = s.books; given = s.given.items; parts = s.parts.items; staged = s.staged.items; drawn = s.drawn; last_staged = s.last_staged; seat = s.seat; last_given = s.last_given; fulls = s.fulls; broken = s.broken } in
    let whole : s.broken ≡ None = ap (λ (x : Holding g.row.D.Denot). x.memory.broken) c.self.view_is ∙ c.requires in
    let path = c.args.path.now.list in
    let new = c.copy.new.self in
    let number = s.last_staged + 1 in
    let name : c.out_file.result ≡ out_name number = c.out_file.ensures in
    let read = copy_reads c.copy.result path (out_name number) MAX_SIZE (g.D.Disk.files s.disk) (g.D.Disk.files new) (subst (λ (k : List ℕ). Follows (Copies c.copy.result path k MAX_SIZE) (g.D.Disk.files s.disk) (g.D.Disk.files new)) name c.copy.ensures.read) in
    let p : IsStaging g.D.Disk.tells g.D.Disk.content g.D.Disk.moment g.D.Disk.images s.disk new m number = record {
      sound = c.self.invariant.0;
      whole = whole;
      next = refl;
      files = told_files g.D.Disk.tells g.D.Disk.content g.D.Disk.files g.D.Disk.moment g.D.Disk.images s.disk m c.self.invariant.0 whole g.met.D.Disk.as_read g.met.D.Disk.told;
      only = only_content g.D.Disk.tells g.D.Disk.content g.D.Disk.files (out_name number) s.disk new g.met.D.Disk.reads g.met.D.Disk.told read;
      run = copy_leaves g.D.Disk.moment g.D.Disk.images c.copy.result (out_name number) MAX_SIZE s.disk new (subst (λ (k : List ℕ). Steps g.D.Disk.moment g.D.Disk.images (CopiesInPart c.copy.result k MAX_SIZE) s.disk new) name c.copy.ensures.stop);
    } in
    let of = subst (λ (x : Copied). Every (g.D.Disk.files s.disk) (λ w. CopiedOf x MAX_SIZE (w.outside path))) c.in-Ok-Over.field-0-is c.in-Ok-Over.ensures.told in
    let calm = c.in-Ok-Over.ensures.cause.calm in
    let low : s.last_staged < MAX_NUMBER = search (rules, c.if-self.false) in
    let kept = stage_none g.D.Disk.tells g.D.Disk.content g.D.Disk.fault_count g.D.Disk.moment g.D.Disk.images s.disk new m number p (Stage_copy path) (Copied_as N.Over) (low, is_over g.D.Disk.tells g.D.Disk.content g.D.Disk.files g.D.Disk.fault_count s.disk new m path (out_name number) g.met.D.Disk.reads g.met.D.Disk.told of, none_told g.D.Disk.tells g.D.Disk.content g.D.Disk.fault_count g.D.Disk.moment g.D.Disk.images s.disk new m number p calm) in
    subst (λ (x : Holding g.row.D.Denot). StoreKept (stand_of g.D.Disk.tells g.D.Disk.content g.D.Disk.fault_count g.D.Disk.moment g.D.Disk.images x) (Stage_copy path) (Copied_as N.Over) (stand_of g.D.Disk.tells g.D.Disk.content g.D.Disk.fault_count g.D.Disk.moment g.D.Disk.images (record { disk = new; takes = s.takes; memory = record { books = s.books; given = s.given.items; parts = s.parts.items; staged = c.make_room.new.staged.items; drawn = s.drawn; last_staged = s.last_staged; seat = s.seat; last_given = s.last_given; fulls = s.fulls; broken = s.broken } }))) c.self.view_is
    (subst (λ (l : List Put). StoreKept (stand_of g.D.Disk.tells g.D.Disk.content g.D.Disk.fault_count g.D.Disk.moment g.D.Disk.images (record { disk = s.disk; takes = s.takes; memory = m })) (Stage_copy path) (Copied_as N.Over) (stand_of g.D.Disk.tells g.D.Disk.content g.D.Disk.fault_count g.D.Disk.moment g.D.Disk.images (record { disk = new; takes = s.takes; memory = record m { staged = l } }))) (sym c.make_room.ensures.same) kept)

pub returns-in-Ok-Absent-clause-kept : goal.returns-in-Ok-Absent-clause-kept
returns-in-Ok-Absent-clause-kept g c =
    let s = c.self.inside in
    let m : Memory = record { books = s.books; given = s.given.items; parts = s.parts.items; staged = s.staged.items; drawn = s.drawn; last_staged = s.last_staged; seat = s.seat; last_given = s.last_given; fulls = s.fulls; broken = s.broken } in
    let whole : s.broken ≡ None = ap (λ (x : Holding g.row.D.Denot). x.memory.broken) c.self.view_is ∙ c.requires in
    let path = c.args.path.now.list in
    let new = c.copy.new.self in
    let number = s.last_staged + 1 in
    let name : c.out_file.result ≡ out_name number = c.out_file.ensures in
    let read = copy_reads c.copy.result path (out_name number) MAX_SIZE (g.D.Disk.files s.disk) (g.D.Disk.files new) (subst (λ (k : List ℕ). Follows (Copies c.copy.result path k MAX_SIZE) (g.D.Disk.files s.disk) (g.D.Disk.files new)) name c.copy.ensures.read) in
    let p : IsStaging g.D.Disk.tells g.D.Disk.content g.D.Disk.moment g.D.Disk.images s.disk new m number = record {
      sound = c.self.invariant.0;
      whole = whole;
      next = refl;
      files = told_files g.D.Disk.tells g.D.Disk.content g.D.Disk.files g.D.Disk.moment g.D.Disk.images s.disk m c.self.invariant.0 whole g.met.D.Disk.as_read g.met.D.Disk.told;
      only = only_content g.D.Disk.tells g.D.Disk.content g.D.Disk.files (out_name number) s.disk new g.met.D.Disk.reads g.met.D.Disk.told read;
      run = copy_leaves g.D.Disk.moment g.D.Disk.images c.copy.result (out_name number) MAX_SIZE s.disk new (subst (λ (k : List ℕ). Steps g.D.Disk.moment g.D.Disk.images (CopiesInPart c.copy.result k MAX_SIZE) s.disk new) name c.copy.ensures.stop);
    } in
    let of = subst (λ (x : Copied). Every (g.D.Disk.files s.disk) (λ w. CopiedOf x MAX_SIZE (w.outside path))) c.in-Ok-Absent.field-0-is c.in-Ok-Absent.ensures.told in
    let calm = c.in-Ok-Absent.ensures.cause.calm in
    let low : s.last_staged < MAX_NUMBER = search (rules, c.if-self.false) in
    let kept = stage_none g.D.Disk.tells g.D.Disk.content g.D.Disk.fault_count g.D.Disk.moment g.D.Disk.images s.disk new m number p (Stage_copy path) (Copied_as N.Absent) (low, is_absent g.D.Disk.tells g.D.Disk.content g.D.Disk.files g.D.Disk.fault_count s.disk new m path (out_name number) g.met.D.Disk.reads g.met.D.Disk.told of, none_told g.D.Disk.tells g.D.Disk.content g.D.Disk.fault_count g.D.Disk.moment g.D.Disk.images s.disk new m number p calm) in
    subst (λ (x : Holding g.row.D.Denot). StoreKept (stand_of g.D.Disk.tells g.D.Disk.content g.D.Disk.fault_count g.D.Disk.moment g.D.Disk.images x) (Stage_copy path) (Copied_as N.Absent) (stand_of g.D.Disk.tells g.D.Disk.content g.D.Disk.fault_count g.D.Disk.moment g.D.Disk.images (record { disk = new; takes = s.takes; memory = record { books = s.books; given = s.given.items; parts = s.parts.items; staged = c.make_room.new.staged.items; drawn = s.drawn; last_staged = s.last_staged; seat = s.seat; last_given = s.last_given; fulls = s.fulls; broken = s.broken } }))) c.self.view_is
    (subst (λ (l : List Put). StoreKept (stand_of g.D.Disk.tells g.D.Disk.content g.D.Disk.fault_count g.D.Disk.moment g.D.Disk.images (record { disk = s.disk; takes = s.takes; memory = m })) (Stage_copy path) (Copied_as N.Absent) (stand_of g.D.Disk.tells g.D.Disk.content g.D.Disk.fault_count g.D.Disk.moment g.D.Disk.images (record { disk = new; takes = s.takes; memory = record m { staged = l } }))) (sym c.make_room.ensures.same) kept)

pub returns-in-Err-clause-kept : goal.returns-in-Err-clause-kept
returns-in-Err-clause-kept g c =
    let s = c.self.inside in
    let m : Memory = record { books = s.books; given = s.given.items; parts = s.parts.items; staged = s.staged.items; drawn = s.drawn; last_staged = s.last_staged; seat = s.seat; last_given = s.last_given; fulls = s.fulls; broken = s.broken } in
    let whole : s.broken ≡ None = ap (λ (x : Holding g.row.D.Denot). x.memory.broken) c.self.view_is ∙ c.requires in
    let path = c.args.path.now.list in
    let new = c.copy.new.self in
    let number = s.last_staged + 1 in
    let name : c.out_file.result ≡ out_name number = c.out_file.ensures in
    let read = copy_reads c.copy.result path (out_name number) MAX_SIZE (g.D.Disk.files s.disk) (g.D.Disk.files new) (subst (λ (k : List ℕ). Follows (Copies c.copy.result path k MAX_SIZE) (g.D.Disk.files s.disk) (g.D.Disk.files new)) name c.copy.ensures.read) in
    let p : IsStaging g.D.Disk.tells g.D.Disk.content g.D.Disk.moment g.D.Disk.images s.disk new m number = record {
      sound = c.self.invariant.0;
      whole = whole;
      next = refl;
      files = told_files g.D.Disk.tells g.D.Disk.content g.D.Disk.files g.D.Disk.moment g.D.Disk.images s.disk m c.self.invariant.0 whole g.met.D.Disk.as_read g.met.D.Disk.told;
      only = only_content g.D.Disk.tells g.D.Disk.content g.D.Disk.files (out_name number) s.disk new g.met.D.Disk.reads g.met.D.Disk.told read;
      run = copy_leaves g.D.Disk.moment g.D.Disk.images c.copy.result (out_name number) MAX_SIZE s.disk new (subst (λ (k : List ℕ). Steps g.D.Disk.moment g.D.Disk.images (CopiesInPart c.copy.result k MAX_SIZE) s.disk new) name c.copy.ensures.stop);
    } in
    let failed = stage_failed g.D.Disk.tells g.D.Disk.content g.D.Disk.fault_count g.D.Disk.moment g.D.Disk.images s.disk new m number p (Stage_copy path) tt c.in-Err.ensures.cause.failed in
    let counted = subst (λ (k : ℕ). StoreKept (stand_of g.D.Disk.tells g.D.Disk.content g.D.Disk.fault_count g.D.Disk.moment g.D.Disk.images (record { disk = s.disk; takes = s.takes; memory = m })) (Stage_copy path) (Refuses Disk) (stand_of g.D.Disk.tells g.D.Disk.content g.D.Disk.fault_count g.D.Disk.moment g.D.Disk.images (record { disk = new; takes = s.takes; memory = record m { broken = Some k } }))) (sym c.faults.ensures) failed in
    let same = subst (λ (l : List Put). StoreKept (stand_of g.D.Disk.tells g.D.Disk.content g.D.Disk.fault_count g.D.Disk.moment g.D.Disk.images (record { disk = s.disk; takes = s.takes; memory = m })) (Stage_copy path) (Refuses Disk) (stand_of g.D.Disk.tells g.D.Disk.content g.D.Disk.fault_count g.D.Disk.moment g.D.Disk.images (record { disk = new; takes = s.takes; memory = record m { staged = l; broken = Some c.faults.result } }))) (sym c.make_room.ensures.same) counted in
    subst (λ (x : Holding g.row.D.Denot). StoreKept (stand_of g.D.Disk.tells g.D.Disk.content g.D.Disk.fault_count g.D.Disk.moment g.D.Disk.images x) (Stage_copy path) (Refuses Disk) (stand_of g.D.Disk.tells g.D.Disk.content g.D.Disk.fault_count g.D.Disk.moment g.D.Disk.images (record { disk = new; takes = s.takes; memory = record { books = s.books; given = s.given.items; parts = s.parts.items; staged = c.make_room.new.staged.items; drawn = s.drawn; last_staged = s.last_staged; seat = s.seat; last_given = s.last_given; fulls = s.fulls; broken = Some c.faults.result } }))) c.self.view_is same
