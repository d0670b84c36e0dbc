use Rattle.std.proofs.Common.{◌≡◌, ◌+◌, ◌≤◌, ℕ, List, [], ◌∷◌, ◌++◌, Some, None, true, refl, sym, ◌∙◌, ap, subst, rules}
use Rattle.disk_model.specs.Changes.{Follows, Only}
use Rattle.disk_model.specs.Moments.{Leaves}
use Rattle.ftn_addr.specs.Counts.{next_count}
use Rattle.ftn_addr.specs.declared.limits.TheConstants.{MAX_NUMBER}
use Rattle.node_model.specs.declared.store.StoreFault.TheVariants.{Disk, Full, NoMemory}
use Rattle.node_model.specs.Stores.{StoreKept, Stage, Staged_as, Refuses}
use Rattle.node_store.specs.Names.{out_name}
use Rattle.node_store.specs.Stored.{Holding, Memory, Put, IsSound, stand_of, state_of}
use Rattle.node_store.proofs.Calls.{still_call}
use Rattle.node_store.proofs.OneRecord.{only_content}
use Rattle.node_store.proofs.ReadCall.{told_files}
use Rattle.node_store.proofs.StageCall.{IsStaging, stage_failed, staged_told, stage_kept, stage_sound}
use Rattle.node_store.proofs.HeldTakes.{other_takes, same_takes}
use Rattle.node_store.proofs.Alike.{out_no_take}
use Rattle.node_model.specs.StoreStates.{IfTold}
use Rattle.node_store.specs.Taking.{IsStandingTake}
use Rattle.node_store.proofs.StagedTakes.{standing_bytes, take_copied, told_before}
use Rattle.node_store.specs.Names.{take_number}
use Rattle.node_model.proofs.Lists.{none_some}
use Rattle.node_store.proofs.StagedTakes.{take_stands}
use Rattle.node_store.proofs.store.NodeStore.stage_own.Goals as goal

pub copy_take-requires-clause-apart : goal.copy_take-requires-clause-apart
copy_take-requires-clause-apart g c = λ same. none_some (sym (out_no_take (c.self.inside.last_staged + 1)) ∙ ap take_number (sym c.out_file.ensures) ∙ ap take_number (sym same) ∙ c.requires.stands.named)

pub copy_take-requires-clause-stands : goal.copy_take-requires-clause-stands
copy_take-requires-clause-stands g c =
    let s = c.self.inside in
    let m : Memory = record { books = s.books; given = s.given.items; parts = s.parts.items; staged = s.staged.items; drawn = s.drawn; last_staged = s.last_staged; seat = s.seat; last_given = s.last_given; fulls = s.fulls; broken = s.broken } in
    take_stands g.D.Disk.tells g.D.Disk.content g.D.Disk.files g.met.D.Disk.reads g.met.D.Disk.told s.disk (g.D.Disk.fault_count s.disk) m c.args.own.now (subst (λ (x : Holding g.row.D.Denot). IsStandingTake c.args.own.now (stand_of g.D.Disk.tells g.D.Disk.content g.D.Disk.fault_count g.D.Disk.moment g.D.Disk.images x).state) (sym c.self.view_is) c.requires.stands)

pub returns-then-self-clause-stages : goal.returns-then-self-clause-stages
returns-then-self-clause-stages g c =
    let s = c.self.inside in
    let m : Memory = record { books = s.books; given = s.given.items; parts = s.parts.items; staged = s.staged.items; drawn = s.drawn; last_staged = s.last_staged; seat = s.seat; last_given = s.last_given; fulls = s.fulls; broken = s.broken } in
    let whole : s.broken ≡ None = ap (λ (x : Holding g.row.D.Denot). x.memory.broken) c.self.view_is ∙ c.requires.whole in
    let source = standing_bytes g.D.Disk.tells g.D.Disk.content s.disk (g.D.Disk.fault_count s.disk) m c.args.own.now (subst (λ (x : Holding g.row.D.Denot). IsStandingTake c.args.own.now (stand_of g.D.Disk.tells g.D.Disk.content g.D.Disk.fault_count g.D.Disk.moment g.D.Disk.images x).state) (sym c.self.view_is) c.requires.stands) in
    let m' : Memory = record { books = s.books; given = s.given.items; parts = s.parts.items; staged = s.staged.items; drawn = s.drawn; last_staged = s.last_staged; seat = s.seat; last_given = s.last_given; fulls = c.saturating_add-self-inside.result; broken = s.broken } in
    let count : c.saturating_add-self-inside.result ≡ next_count s.fulls = search rules in (
      source.0,
      subst (λ (x : Holding g.row.D.Denot). IfTold (stand_of g.D.Disk.tells g.D.Disk.content g.D.Disk.fault_count g.D.Disk.moment g.D.Disk.images x).state.content (λ a. a.takes c.args.own.now ≡ Some source.0)) c.self.view_is source.1,
      subst (λ (x : Holding g.row.D.Denot). StoreKept (stand_of g.D.Disk.tells g.D.Disk.content g.D.Disk.fault_count g.D.Disk.moment g.D.Disk.images x) (Stage source.0) (Refuses Full) (stand_of g.D.Disk.tells g.D.Disk.content g.D.Disk.fault_count g.D.Disk.moment g.D.Disk.images (record { disk = s.disk; takes = s.takes; memory = m' }))) c.self.view_is
          (still_call g.D.Disk.tells g.D.Disk.content g.D.Disk.fault_count g.D.Disk.moment g.D.Disk.images s.disk m m' (Stage source.0) (Refuses Full) c.self.invariant.0.memory.books.folds c.self.invariant.0.kept refl (
            c.if-self.true,
            ap (λ (n : ℕ). record (state_of g.D.Disk.tells (g.D.Disk.content s.disk) (g.D.Disk.fault_count s.disk) m) { counts = record { faults = g.D.Disk.fault_count s.disk; fulls = n; broken = s.broken } }) count,
          )),
    )

pub returns-then-is_err-clause-stages : goal.returns-then-is_err-clause-stages
returns-then-is_err-clause-stages g c =
    let s = c.self.inside in
    let m : Memory = record { books = s.books; given = s.given.items; parts = s.parts.items; staged = s.staged.items; drawn = s.drawn; last_staged = s.last_staged; seat = s.seat; last_given = s.last_given; fulls = s.fulls; broken = s.broken } in
    let whole : s.broken ≡ None = ap (λ (x : Holding g.row.D.Denot). x.memory.broken) c.self.view_is ∙ c.requires.whole in
    let source = standing_bytes g.D.Disk.tells g.D.Disk.content s.disk (g.D.Disk.fault_count s.disk) m c.args.own.now (subst (λ (x : Holding g.row.D.Denot). IsStandingTake c.args.own.now (stand_of g.D.Disk.tells g.D.Disk.content g.D.Disk.fault_count g.D.Disk.moment g.D.Disk.images x).state) (sym c.self.view_is) c.requires.stands) in
    let kept = still_call g.D.Disk.tells g.D.Disk.content g.D.Disk.fault_count g.D.Disk.moment g.D.Disk.images s.disk m m (Stage source.0) (Refuses NoMemory) c.self.invariant.0.memory.books.folds c.self.invariant.0.kept refl (tt, refl) in (
      source.0,
      subst (λ (x : Holding g.row.D.Denot). IfTold (stand_of g.D.Disk.tells g.D.Disk.content g.D.Disk.fault_count g.D.Disk.moment g.D.Disk.images x).state.content (λ a. a.takes c.args.own.now ≡ Some source.0)) c.self.view_is source.1,
      subst (λ (x : Holding g.row.D.Denot). StoreKept (stand_of g.D.Disk.tells g.D.Disk.content g.D.Disk.fault_count g.D.Disk.moment g.D.Disk.images x) (Stage source.0) (Refuses NoMemory) (stand_of g.D.Disk.tells g.D.Disk.content g.D.Disk.fault_count g.D.Disk.moment g.D.Disk.images (record { disk = s.disk; takes = s.takes; memory = record { books = s.books; given = s.given.items; parts = s.parts.items; staged = c.make_room.new.staged.items; drawn = s.drawn; last_staged = s.last_staged; seat = s.seat; last_given = s.last_given; fulls = s.fulls; broken = s.broken } }))) c.self.view_is
          (subst (λ (l : List Put). StoreKept (stand_of g.D.Disk.tells g.D.Disk.content g.D.Disk.fault_count g.D.Disk.moment g.D.Disk.images (record { disk = s.disk; takes = s.takes; memory = m })) (Stage source.0) (Refuses NoMemory) (stand_of g.D.Disk.tells g.D.Disk.content g.D.Disk.fault_count g.D.Disk.moment g.D.Disk.images (record { disk = s.disk; takes = s.takes; memory = record m { staged = l } }))) (sym c.make_room.ensures.same) kept),
    )

pub invariant_of-self-in-Ok : goal.invariant_of-self-in-Ok
invariant_of-self-in-Ok g c =
    let s = c.self.inside in
    let m : Memory = record { books = s.books; given = s.given.items; parts = s.parts.items; staged = s.staged.items; drawn = s.drawn; last_staged = s.last_staged; seat = s.seat; last_given = s.last_given; fulls = s.fulls; broken = s.broken } in
    let whole : s.broken ≡ None = ap (λ (x : Holding g.row.D.Denot). x.memory.broken) c.self.view_is ∙ c.requires.whole in
    let source = standing_bytes g.D.Disk.tells g.D.Disk.content s.disk (g.D.Disk.fault_count s.disk) m c.args.own.now (subst (λ (x : Holding g.row.D.Denot). IsStandingTake c.args.own.now (stand_of g.D.Disk.tells g.D.Disk.content g.D.Disk.fault_count g.D.Disk.moment g.D.Disk.images x).state) (sym c.self.view_is) c.requires.stands) in
    let new = c.copy_take.new.disk in
    let number = s.last_staged + 1 in
    let name : c.out_file.result ≡ out_name number = c.out_file.ensures in
    let read = subst (λ (k : List ℕ). Follows (Only k) (g.D.Disk.files s.disk) (g.D.Disk.files new)) name c.copy_take.ensures.read in
    let p : IsStaging g.D.Disk.tells g.D.Disk.content g.D.Disk.moment g.D.Disk.images s.disk new m number = record {
      sound = c.self.invariant.0;
      whole = whole;
      next = refl;
      files = told_files g.D.Disk.tells g.D.Disk.content g.D.Disk.files g.D.Disk.moment g.D.Disk.images s.disk m c.self.invariant.0 whole g.met.D.Disk.as_read g.met.D.Disk.told;
      only = only_content g.D.Disk.tells g.D.Disk.content g.D.Disk.files (out_name number) s.disk new g.met.D.Disk.reads g.met.D.Disk.told read;
      run = subst (λ (k : List ℕ). Leaves g.D.Disk.moment g.D.Disk.images (Only k) s.disk new) name c.copy_take.ensures.stop;
    } in
    let copied = take_copied g.D.Disk.tells g.D.Disk.content g.D.Disk.files g.met.D.Disk.reads g.met.D.Disk.told s.disk new (g.D.Disk.fault_count s.disk) m c.args.own.now c.out_file.result c.in-Ok.size source (c.requires.stands.take, c.requires.stands.named) c.in-Ok.ensures.copied in
    let bytes = copied.0 in
    let written : (g.D.Disk.tells ≡ true → (g.D.Disk.content new).own (out_name number) ≡ Some bytes) = λ t. ap (g.D.Disk.content new).own (sym name) ∙ copied.3 t in
    let staged : s.staged.items ++ record { number = number; size = c.in-Ok.size } ∷ [] ≡ c.note_staged.new.staged.items = ap (λ (l : List Put). l ++ record { number = number; size = c.in-Ok.size } ∷ []) (sym c.make_room.ensures.same) ∙ sym c.note_staged.ensures in (
      subst (λ (l : List Put). IsSound g.D.Disk.tells g.D.Disk.content g.D.Disk.moment g.D.Disk.images new (record m { staged = l; last_staged = number })) staged
          (stage_sound g.D.Disk.tells g.D.Disk.content g.D.Disk.fault_count g.D.Disk.moment g.D.Disk.images s.disk new m number p bytes c.in-Ok.size copied.1 written c.in-Ok.ensures.cause.calm),
      c.self.invariant.1,
      c.self.invariant.2,
      λ still. same_takes s.takes g.D.Disk.tells (g.D.Disk.content s.disk) (g.D.Disk.content new) (g.D.Disk.fault_count s.disk) (g.D.Disk.fault_count new) m _ _ refl refl refl (λ t. other_takes (out_name number) (out_no_take number) (g.D.Disk.content s.disk) (g.D.Disk.content new) (p.only t).others) (c.self.invariant.3 still),
    )

pub returns-in-Ok-clause-stages : goal.returns-in-Ok-clause-stages
returns-in-Ok-clause-stages g c =
    let s = c.self.inside in
    let m : Memory = record { books = s.books; given = s.given.items; parts = s.parts.items; staged = s.staged.items; drawn = s.drawn; last_staged = s.last_staged; seat = s.seat; last_given = s.last_given; fulls = s.fulls; broken = s.broken } in
    let whole : s.broken ≡ None = ap (λ (x : Holding g.row.D.Denot). x.memory.broken) c.self.view_is ∙ c.requires.whole in
    let source = standing_bytes g.D.Disk.tells g.D.Disk.content s.disk (g.D.Disk.fault_count s.disk) m c.args.own.now (subst (λ (x : Holding g.row.D.Denot). IsStandingTake c.args.own.now (stand_of g.D.Disk.tells g.D.Disk.content g.D.Disk.fault_count g.D.Disk.moment g.D.Disk.images x).state) (sym c.self.view_is) c.requires.stands) in
    let new = c.copy_take.new.disk in
    let number = s.last_staged + 1 in
    let name : c.out_file.result ≡ out_name number = c.out_file.ensures in
    let read = subst (λ (k : List ℕ). Follows (Only k) (g.D.Disk.files s.disk) (g.D.Disk.files new)) name c.copy_take.ensures.read in
    let p : IsStaging g.D.Disk.tells g.D.Disk.content g.D.Disk.moment g.D.Disk.images s.disk new m number = record {
      sound = c.self.invariant.0;
      whole = whole;
      next = refl;
      files = told_files g.D.Disk.tells g.D.Disk.content g.D.Disk.files g.D.Disk.moment g.D.Disk.images s.disk m c.self.invariant.0 whole g.met.D.Disk.as_read g.met.D.Disk.told;
      only = only_content g.D.Disk.tells g.D.Disk.content g.D.Disk.files (out_name number) s.disk new g.met.D.Disk.reads g.met.D.Disk.told read;
      run = subst (λ (k : List ℕ). Leaves g.D.Disk.moment g.D.Disk.images (Only k) s.disk new) name c.copy_take.ensures.stop;
    } in
    let copied = take_copied g.D.Disk.tells g.D.Disk.content g.D.Disk.files g.met.D.Disk.reads g.met.D.Disk.told s.disk new (g.D.Disk.fault_count s.disk) m c.args.own.now c.out_file.result c.in-Ok.size source (c.requires.stands.take, c.requires.stands.named) c.in-Ok.ensures.copied in
    let bytes = copied.0 in
    let written : (g.D.Disk.tells ≡ true → (g.D.Disk.content new).own (out_name number) ≡ Some bytes) = λ t. ap (g.D.Disk.content new).own (sym name) ∙ copied.3 t in
    let staged : s.staged.items ++ record { number = number; size = c.in-Ok.size } ∷ [] ≡ c.note_staged.new.staged.items = ap (λ (l : List Put). l ++ record { number = number; size = c.in-Ok.size } ∷ []) (sym c.make_room.ensures.same) ∙ sym c.note_staged.ensures in
    let left : number ≤ MAX_NUMBER = search (rules, c.if-self.false) in
    let kept = stage_kept g.D.Disk.tells g.D.Disk.content g.D.Disk.fault_count g.D.Disk.moment g.D.Disk.images s.disk new m number p bytes c.in-Ok.size copied.1 written c.in-Ok.ensures.cause.calm (Stage bytes) (Staged_as number) (refl, left, staged_told g.D.Disk.tells g.D.Disk.content g.D.Disk.fault_count g.D.Disk.moment g.D.Disk.images s.disk new m number p bytes c.in-Ok.size copied.1 written c.in-Ok.ensures.cause.calm) in
    let told = told_before g.D.Disk.tells g.D.Disk.content s.disk (g.D.Disk.fault_count s.disk) m c.args.own.now bytes copied.2 in (
      bytes,
      sym copied.1,
      subst (λ (x : Holding g.row.D.Denot). IfTold (stand_of g.D.Disk.tells g.D.Disk.content g.D.Disk.fault_count g.D.Disk.moment g.D.Disk.images x).state.content (λ a. a.takes c.args.own.now ≡ Some bytes)) c.self.view_is told,
      subst (λ (x : Holding g.row.D.Denot). StoreKept (stand_of g.D.Disk.tells g.D.Disk.content g.D.Disk.fault_count g.D.Disk.moment g.D.Disk.images x) (Stage bytes) (Staged_as number) (stand_of g.D.Disk.tells g.D.Disk.content g.D.Disk.fault_count g.D.Disk.moment g.D.Disk.images (record { disk = new; takes = s.takes; memory = record { books = s.books; given = s.given.items; parts = s.parts.items; staged = c.note_staged.new.staged.items; drawn = s.drawn; last_staged = number; seat = s.seat; last_given = s.last_given; fulls = s.fulls; broken = s.broken } }))) c.self.view_is
          (subst (λ (l : List Put). StoreKept (stand_of g.D.Disk.tells g.D.Disk.content g.D.Disk.fault_count g.D.Disk.moment g.D.Disk.images (record { disk = s.disk; takes = s.takes; memory = m })) (Stage bytes) (Staged_as number) (stand_of g.D.Disk.tells g.D.Disk.content g.D.Disk.fault_count g.D.Disk.moment g.D.Disk.images (record { disk = new; takes = s.takes; memory = record m { staged = l; last_staged = number } }))) staged kept),
    )

pub returns-in-Err-clause-stages : goal.returns-in-Err-clause-stages
returns-in-Err-clause-stages g c =
    let s = c.self.inside in
    let m : Memory = record { books = s.books; given = s.given.items; parts = s.parts.items; staged = s.staged.items; drawn = s.drawn; last_staged = s.last_staged; seat = s.seat; last_given = s.last_given; fulls = s.fulls; broken = s.broken } in
    let whole : s.broken ≡ None = ap (λ (x : Holding g.row.D.Denot). x.memory.broken) c.self.view_is ∙ c.requires.whole in
    let source = standing_bytes g.D.Disk.tells g.D.Disk.content s.disk (g.D.Disk.fault_count s.disk) m c.args.own.now (subst (λ (x : Holding g.row.D.Denot). IsStandingTake c.args.own.now (stand_of g.D.Disk.tells g.D.Disk.content g.D.Disk.fault_count g.D.Disk.moment g.D.Disk.images x).state) (sym c.self.view_is) c.requires.stands) in
    let new = c.copy_take.new.disk in
    let number = s.last_staged + 1 in
    let name : c.out_file.result ≡ out_name number = c.out_file.ensures in
    let read = subst (λ (k : List ℕ). Follows (Only k) (g.D.Disk.files s.disk) (g.D.Disk.files new)) name c.copy_take.ensures.read in
    let p : IsStaging g.D.Disk.tells g.D.Disk.content g.D.Disk.moment g.D.Disk.images s.disk new m number = record {
      sound = c.self.invariant.0;
      whole = whole;
      next = refl;
      files = told_files g.D.Disk.tells g.D.Disk.content g.D.Disk.files g.D.Disk.moment g.D.Disk.images s.disk m c.self.invariant.0 whole g.met.D.Disk.as_read g.met.D.Disk.told;
      only = only_content g.D.Disk.tells g.D.Disk.content g.D.Disk.files (out_name number) s.disk new g.met.D.Disk.reads g.met.D.Disk.told read;
      run = subst (λ (k : List ℕ). Leaves g.D.Disk.moment g.D.Disk.images (Only k) s.disk new) name c.copy_take.ensures.stop;
    } in
    let failed = stage_failed g.D.Disk.tells g.D.Disk.content g.D.Disk.fault_count g.D.Disk.moment g.D.Disk.images s.disk new m number p (Stage source.0) tt c.in-Err.ensures.cause.failed in
    let counted = subst (λ (k : ℕ). StoreKept (stand_of g.D.Disk.tells g.D.Disk.content g.D.Disk.fault_count g.D.Disk.moment g.D.Disk.images (record { disk = s.disk; takes = s.takes; memory = m })) (Stage source.0) (Refuses Disk) (stand_of g.D.Disk.tells g.D.Disk.content g.D.Disk.fault_count g.D.Disk.moment g.D.Disk.images (record { disk = new; takes = s.takes; memory = record m { broken = Some k } }))) (sym c.faults.ensures) failed in
    let same = subst (λ (l : List Put). StoreKept (stand_of g.D.Disk.tells g.D.Disk.content g.D.Disk.fault_count g.D.Disk.moment g.D.Disk.images (record { disk = s.disk; takes = s.takes; memory = m })) (Stage source.0) (Refuses Disk) (stand_of g.D.Disk.tells g.D.Disk.content g.D.Disk.fault_count g.D.Disk.moment g.D.Disk.images (record { disk = new; takes = s.takes; memory = record m { staged = l; broken = Some c.faults.result } }))) (sym c.make_room.ensures.same) counted in (
      source.0,
      subst (λ (x : Holding g.row.D.Denot). IfTold (stand_of g.D.Disk.tells g.D.Disk.content g.D.Disk.fault_count g.D.Disk.moment g.D.Disk.images x).state.content (λ a. a.takes c.args.own.now ≡ Some source.0)) c.self.view_is source.1,
      subst (λ (x : Holding g.row.D.Denot). StoreKept (stand_of g.D.Disk.tells g.D.Disk.content g.D.Disk.fault_count g.D.Disk.moment g.D.Disk.images x) (Stage source.0) (Refuses Disk) (stand_of g.D.Disk.tells g.D.Disk.content g.D.Disk.fault_count g.D.Disk.moment g.D.Disk.images (record { disk = new; takes = s.takes; memory = record { books = s.books; given = s.given.items; parts = s.parts.items; staged = c.make_room.new.staged.items; drawn = s.drawn; last_staged = s.last_staged; seat = s.seat; last_given = s.last_given; fulls = s.fulls; broken = Some c.faults.result } }))) c.self.view_is same,
    )
