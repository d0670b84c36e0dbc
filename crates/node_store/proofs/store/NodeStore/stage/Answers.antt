use Rattle.std.proofs.Common.{◌≡◌, ◌+◌, ◌≤◌, ℕ, List, [], ◌∷◌, ◌++◌, length, Some, None, true, refl, sym, ◌∙◌, ap, subst, rules}
use Rattle.disk_model.specs.Changes.{Follows, Only}
use Rattle.disk_model.specs.Moments.{Leaves}
use Rattle.ftn_addr.specs.Counts.{next_count}
use Rattle.ftn_addr.specs.declared.limits.TheConstants.{MAX_NUMBER}
use Rattle.node_model.specs.declared.store.StoreFault.TheVariants.{Disk, Full, NoMemory}
use Rattle.node_model.specs.Stores.{StoreKept, Stage, Staged_as, Refuses}
use Rattle.node_store.specs.Names.{out_name}
use Rattle.node_store.specs.Stored.{Holding, Memory, Put, IsSound, stand_of, state_of}
use Rattle.node_store.proofs.Calls.{still_call}
use Rattle.node_store.proofs.OneRecord.{only_content}
use Rattle.node_store.proofs.ReadCall.{told_files}
use Rattle.node_store.proofs.StageCall.{IsStaging, stage_failed, staged_told, stage_kept, stage_sound}
use Rattle.node_store.proofs.HeldTakes.{other_takes, same_takes}
use Rattle.node_store.proofs.Alike.{out_no_take}
use Rattle.node_store.proofs.store.NodeStore.stage.Goals as goal

pub returns-then-self : goal.returns-then-self
returns-then-self g c =
    let s = c.self.inside in
    let m : Memory = record { books = s.books; given = s.given.items; parts = s.parts.items; staged = s.staged.items; drawn = s.drawn; last_staged = s.last_staged; seat = s.seat; last_given = s.last_given; fulls = s.fulls; broken = s.broken } in
    let whole : s.broken ≡ None = ap (λ (x : Holding g.row.D.Denot). x.memory.broken) c.self.view_is ∙ c.requires in
    let m' : Memory = record { books = s.books; given = s.given.items; parts = s.parts.items; staged = s.staged.items; drawn = s.drawn; last_staged = s.last_staged; seat = s.seat; last_given = s.last_given; fulls = c.saturating_add-self-inside.result; broken = s.broken } in
    let count : c.saturating_add-self-inside.result ≡ next_count s.fulls = search rules in
    subst (λ (x : Holding g.row.D.Denot). StoreKept (stand_of g.D.Disk.tells g.D.Disk.content g.D.Disk.fault_count g.D.Disk.moment g.D.Disk.images x) (Stage c.args.bytes.now) (Refuses Full) (stand_of g.D.Disk.tells g.D.Disk.content g.D.Disk.fault_count g.D.Disk.moment g.D.Disk.images (record { disk = s.disk; takes = s.takes; memory = m' }))) c.self.view_is
    (still_call g.D.Disk.tells g.D.Disk.content g.D.Disk.fault_count g.D.Disk.moment g.D.Disk.images s.disk m m' (Stage c.args.bytes.now) (Refuses Full) c.self.invariant.0.memory.books.folds c.self.invariant.0.kept refl (
      c.if-self.true,
      ap (λ (n : ℕ). record (state_of g.D.Disk.tells (g.D.Disk.content s.disk) (g.D.Disk.fault_count s.disk) m) { counts = record { faults = g.D.Disk.fault_count s.disk; fulls = n; broken = s.broken } }) count,
    ))

pub returns-then-is_err : goal.returns-then-is_err
returns-then-is_err g c =
    let s = c.self.inside in
    let m : Memory = record { books = s.books; given = s.given.items; parts = s.parts.items; staged = s.staged.items; drawn = s.drawn; last_staged = s.last_staged; seat = s.seat; last_given = s.last_given; fulls = s.fulls; broken = s.broken } in
    let whole : s.broken ≡ None = ap (λ (x : Holding g.row.D.Denot). x.memory.broken) c.self.view_is ∙ c.requires in
    let kept = still_call g.D.Disk.tells g.D.Disk.content g.D.Disk.fault_count g.D.Disk.moment g.D.Disk.images s.disk m m (Stage c.args.bytes.now) (Refuses NoMemory) c.self.invariant.0.memory.books.folds c.self.invariant.0.kept refl (tt, refl) in
    subst (λ (x : Holding g.row.D.Denot). StoreKept (stand_of g.D.Disk.tells g.D.Disk.content g.D.Disk.fault_count g.D.Disk.moment g.D.Disk.images x) (Stage c.args.bytes.now) (Refuses NoMemory) (stand_of g.D.Disk.tells g.D.Disk.content g.D.Disk.fault_count g.D.Disk.moment g.D.Disk.images (record { disk = s.disk; takes = s.takes; memory = record { books = s.books; given = s.given.items; parts = s.parts.items; staged = c.make_room.new.staged.items; drawn = s.drawn; last_staged = s.last_staged; seat = s.seat; last_given = s.last_given; fulls = s.fulls; broken = s.broken } }))) c.self.view_is
    (subst (λ (l : List Put). StoreKept (stand_of g.D.Disk.tells g.D.Disk.content g.D.Disk.fault_count g.D.Disk.moment g.D.Disk.images (record { disk = s.disk; takes = s.takes; memory = m })) (Stage c.args.bytes.now) (Refuses NoMemory) (stand_of g.D.Disk.tells g.D.Disk.content g.D.Disk.fault_count g.D.Disk.moment g.D.Disk.images (record { disk = s.disk; takes = s.takes; memory = record m { staged = l } }))) (sym c.make_room.ensures.same) kept)

pub invariant_of-self-in-Ok : goal.invariant_of-self-in-Ok
invariant_of-self-in-Ok g c =
    let s = c.self.inside in
    let m : Memory = record { books = s.books; given = s.given.items; parts = s.parts.items; staged = s.staged.items; drawn = s.drawn; last_staged = s.last_staged; seat = s.seat; last_given = s.last_given; fulls = s.fulls; broken = s.broken } in
    let whole : s.broken ≡ None = ap (λ (x : Holding g.row.D.Denot). x.memory.broken) c.self.view_is ∙ c.requires in
    let new = c.put_file.new.disk in
    let number = s.last_staged + 1 in
    let name : c.out_file.result ≡ out_name number = c.out_file.ensures in
    let read = subst (λ (k : List ℕ). Follows (Only k) (g.D.Disk.files s.disk) (g.D.Disk.files new)) name c.put_file.ensures.read in
    let p : IsStaging g.D.Disk.tells g.D.Disk.content g.D.Disk.moment g.D.Disk.images s.disk new m number = record {
      sound = c.self.invariant.0;
      whole = whole;
      next = refl;
      files = told_files g.D.Disk.tells g.D.Disk.content g.D.Disk.files g.D.Disk.moment g.D.Disk.images s.disk m c.self.invariant.0 whole g.met.D.Disk.as_read g.met.D.Disk.told;
      only = only_content g.D.Disk.tells g.D.Disk.content g.D.Disk.files (out_name number) s.disk new g.met.D.Disk.reads g.met.D.Disk.told read;
      run = subst (λ (k : List ℕ). Leaves g.D.Disk.moment g.D.Disk.images (Only k) s.disk new) name c.put_file.ensures.stop;
    } in
    let bytes = c.args.bytes.now in
    let written : (g.D.Disk.tells ≡ true → (g.D.Disk.content new).own (out_name number) ≡ Some bytes) = λ t. ap (g.D.Disk.content new).own (sym name) ∙ c.in-Ok.ensures.durable (g.D.Disk.content new) (g.met.D.Disk.as_read new (g.D.Disk.content new) (g.met.D.Disk.told t new)) in
    let staged : s.staged.items ++ record { number = number; size = length bytes } ∷ [] ≡ c.note_staged.new.staged.items = ap (λ (l : List Put). l ++ record { number = number; size = length bytes } ∷ []) (sym c.make_room.ensures.same) ∙ sym c.note_staged.ensures in (
      subst (λ (l : List Put). IsSound g.D.Disk.tells g.D.Disk.content g.D.Disk.moment g.D.Disk.images new (record m { staged = l; last_staged = number })) staged
          (stage_sound g.D.Disk.tells g.D.Disk.content g.D.Disk.fault_count g.D.Disk.moment g.D.Disk.images s.disk new m number p bytes (length bytes) refl written c.in-Ok.ensures.cause.calm),
      c.self.invariant.1,
      c.self.invariant.2,
      λ still. same_takes s.takes g.D.Disk.tells (g.D.Disk.content s.disk) (g.D.Disk.content new) (g.D.Disk.fault_count s.disk) (g.D.Disk.fault_count new) m _ _ refl refl refl (λ t. other_takes (out_name number) (out_no_take number) (g.D.Disk.content s.disk) (g.D.Disk.content new) (p.only t).others) (c.self.invariant.3 still),
    )

pub returns-in-Ok : goal.returns-in-Ok
returns-in-Ok g c =
    let s = c.self.inside in
    let m : Memory = record { books = s.books; given = s.given.items; parts = s.parts.items; staged = s.staged.items; drawn = s.drawn; last_staged = s.last_staged; seat = s.seat; last_given = s.last_given; fulls = s.fulls; broken = s.broken } in
    let whole : s.broken ≡ None = ap (λ (x : Holding g.row.D.Denot). x.memory.broken) c.self.view_is ∙ c.requires in
    let new = c.put_file.new.disk in
    let number = s.last_staged + 1 in
    let name : c.out_file.result ≡ out_name number = c.out_file.ensures in
    let read = subst (λ (k : List ℕ). Follows (Only k) (g.D.Disk.files s.disk) (g.D.Disk.files new)) name c.put_file.ensures.read in
    let p : IsStaging g.D.Disk.tells g.D.Disk.content g.D.Disk.moment g.D.Disk.images s.disk new m number = record {
      sound = c.self.invariant.0;
      whole = whole;
      next = refl;
      files = told_files g.D.Disk.tells g.D.Disk.content g.D.Disk.files g.D.Disk.moment g.D.Disk.images s.disk m c.self.invariant.0 whole g.met.D.Disk.as_read g.met.D.Disk.told;
      only = only_content g.D.Disk.tells g.D.Disk.content g.D.Disk.files (out_name number) s.disk new g.met.D.Disk.reads g.met.D.Disk.told read;
      run = subst (λ (k : List ℕ). Leaves g.D.Disk.moment g.D.Disk.images (Only k) s.disk new) name c.put_file.ensures.stop;
    } in
    let bytes = c.args.bytes.now in
    let written : (g.D.Disk.tells ≡ true → (g.D.Disk.content new).own (out_name number) ≡ Some bytes) = λ t. ap (g.D.Disk.content new).own (sym name) ∙ c.in-Ok.ensures.durable (g.D.Disk.content new) (g.met.D.Disk.as_read new (g.D.Disk.content new) (g.met.D.Disk.told t new)) in
    let staged : s.staged.items ++ record { number = number; size = length bytes } ∷ [] ≡ c.note_staged.new.staged.items = ap (λ (l : List Put). l ++ record { number = number; size = length bytes } ∷ []) (sym c.make_room.ensures.same) ∙ sym c.note_staged.ensures in
    let left : number ≤ MAX_NUMBER = search (rules, c.if-self.false) in
    let kept = stage_kept g.D.Disk.tells g.D.Disk.content g.D.Disk.fault_count g.D.Disk.moment g.D.Disk.images s.disk new m number p bytes (length bytes) refl written c.in-Ok.ensures.cause.calm (Stage bytes) (Staged_as number) (refl, left, staged_told g.D.Disk.tells g.D.Disk.content g.D.Disk.fault_count g.D.Disk.moment g.D.Disk.images s.disk new m number p bytes (length bytes) refl written c.in-Ok.ensures.cause.calm) in
    subst (λ (x : Holding g.row.D.Denot). StoreKept (stand_of g.D.Disk.tells g.D.Disk.content g.D.Disk.fault_count g.D.Disk.moment g.D.Disk.images x) (Stage c.args.bytes.now) (Staged_as number) (stand_of g.D.Disk.tells g.D.Disk.content g.D.Disk.fault_count g.D.Disk.moment g.D.Disk.images (record { disk = new; takes = s.takes; memory = record { books = s.books; given = s.given.items; parts = s.parts.items; staged = c.note_staged.new.staged.items; drawn = s.drawn; last_staged = number; seat = s.seat; last_given = s.last_given; fulls = s.fulls; broken = s.broken } }))) c.self.view_is
    (subst (λ (l : List Put). StoreKept (stand_of g.D.Disk.tells g.D.Disk.content g.D.Disk.fault_count g.D.Disk.moment g.D.Disk.images (record { disk = s.disk; takes = s.takes; memory = m })) (Stage c.args.bytes.now) (Staged_as number) (stand_of g.D.Disk.tells g.D.Disk.content g.D.Disk.fault_count g.D.Disk.moment g.D.Disk.images (record { disk = new; takes = s.takes; memory = record m { staged = l; last_staged = number } }))) staged kept)

pub returns-in-Err : goal.returns-in-Err
returns-in-Err g c =
    let s = c.self.inside in
    let m : Memory = record { books = s.books; given = s.given.items; parts = s.parts.items; staged = s.staged.items; drawn = s.drawn; last_staged = s.last_staged; seat = s.seat; last_given = s.last_given; fulls = s.fulls; broken = s.broken } in
    let whole : s.broken ≡ None = ap (λ (x : Holding g.row.D.Denot). x.memory.broken) c.self.view_is ∙ c.requires in
    let new = c.put_file.new.disk in
    let number = s.last_staged + 1 in
    let name : c.out_file.result ≡ out_name number = c.out_file.ensures in
    let read = subst (λ (k : List ℕ). Follows (Only k) (g.D.Disk.files s.disk) (g.D.Disk.files new)) name c.put_file.ensures.read in
    let p : IsStaging g.D.Disk.tells g.D.Disk.content g.D.Disk.moment g.D.Disk.images s.disk new m number = record {
      sound = c.self.invariant.0;
      whole = whole;
      next = refl;
      files = told_files g.D.Disk.tells g.D.Disk.content g.D.Disk.files g.D.Disk.moment g.D.Disk.images s.disk m c.self.invariant.0 whole g.met.D.Disk.as_read g.met.D.Disk.told;
      only = only_content g.D.Disk.tells g.D.Disk.content g.D.Disk.files (out_name number) s.disk new g.met.D.Disk.reads g.met.D.Disk.told read;
      run = subst (λ (k : List ℕ). Leaves g.D.Disk.moment g.D.Disk.images (Only k) s.disk new) name c.put_file.ensures.stop;
    } in
    let failed = stage_failed g.D.Disk.tells g.D.Disk.content g.D.Disk.fault_count g.D.Disk.moment g.D.Disk.images s.disk new m number p (Stage c.args.bytes.now) tt c.in-Err.ensures.cause.failed in
    let counted = subst (λ (k : ℕ). StoreKept (stand_of g.D.Disk.tells g.D.Disk.content g.D.Disk.fault_count g.D.Disk.moment g.D.Disk.images (record { disk = s.disk; takes = s.takes; memory = m })) (Stage c.args.bytes.now) (Refuses Disk) (stand_of g.D.Disk.tells g.D.Disk.content g.D.Disk.fault_count g.D.Disk.moment g.D.Disk.images (record { disk = new; takes = s.takes; memory = record m { broken = Some k } }))) (sym c.faults.ensures) failed in
    let same = subst (λ (l : List Put). StoreKept (stand_of g.D.Disk.tells g.D.Disk.content g.D.Disk.fault_count g.D.Disk.moment g.D.Disk.images (record { disk = s.disk; takes = s.takes; memory = m })) (Stage c.args.bytes.now) (Refuses Disk) (stand_of g.D.Disk.tells g.D.Disk.content g.D.Disk.fault_count g.D.Disk.moment g.D.Disk.images (record { disk = new; takes = s.takes; memory = record m { staged = l; broken = Some c.faults.result } }))) (sym c.make_room.ensures.same) counted in
    subst (λ (x : Holding g.row.D.Denot). StoreKept (stand_of g.D.Disk.tells g.D.Disk.content g.D.Disk.fault_count g.D.Disk.moment g.D.Disk.images x) (Stage c.args.bytes.now) (Refuses Disk) (stand_of g.D.Disk.tells g.D.Disk.content g.D.Disk.fault_count g.D.Disk.moment g.D.Disk.images (record { disk = new; takes = s.takes; memory = record { books = s.books; given = s.given.items; parts = s.parts.items; staged = c.make_room.new.staged.items; drawn = s.drawn; last_staged = s.last_staged; seat = s.seat; last_given = s.last_given; fulls = s.fulls; broken = Some c.faults.result } }))) c.self.view_is same
