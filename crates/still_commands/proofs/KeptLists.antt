-- What stays of a disk while a command without a session runs.
use Rattle.std.proofs.Common.{◌≡◌, ◌≢◌, ◌⊎◌, ◌∙◌, ℕ, Bool, true, false, List, get_or, Option, Some, None, Result, Ok, Err, refl, sym, ap, subst, inl, inr, arith}
use Rattle.std.specs.Prelude.{IfErr, option_map}
use Rattle.disk_model.specs.Changes.{Every, Follows, Only, Same}
use Rattle.disk_model.specs.Moments.{Leaves}
use Rattle.disk_model.specs.World as W
use Rattle.disk_model.specs.World.{World}
use Rattle.disk_model.proofs.MomentLemmas.{runs_on, weakened}
use Rattle.ledger_file.specs.Ledger.{ledger_name}
use Rattle.node_model.specs.Outside.{OutFile}
use Rattle.node_model.specs.StoreStates.{Shelf}
use Rattle.node_model.proofs.Lists.{none_some}
use Rattle.nodelist_comp.specs.declared.fault.ListTextFault.{ListTextFault}
use Rattle.nodelist_files.specs.Compiling.{Clears, Compiles, NewList, OldPair, OnLists, text_at}
use Rattle.nodelist_files.specs.Files.{index_name, list_name, new_name}
use Rattle.nodelist_files.specs.declared.fault.CompileFault.{CompileFault}
use Rattle.nodelist_files.specs.declared.fault.CompileFault.TheVariants as M
use Rattle.node_store.specs.Aside.{IsAside, SameAside}
use Rattle.node_store.specs.Finding.{IsOpened}
use Rattle.node_store.specs.Names.{in_name, is_note, out_name, take_number}
use Rattle.node_store.specs.Opening.{Recovers}
use Rattle.node_store.specs.Stored.{Holding, Memory}
use Rattle.node_store.specs.Strays.{IsWork}
use Rattle.node_store.specs.Worlds.{out_file_of, takes_in}
use Rattle.node_store.specs.declared.opening.fault.StoreOpenFault.{StoreOpenFault}
use Rattle.node_store.proofs.Alike.{takes_alike}
use Rattle.node_store.proofs.OtherFiles.{other_recovers}
use Rattle.node_store.proofs.Recovering.{recovers-refl, recovers-then}
use Rattle.node_store.proofs.TakeWorld.{IsBeside}
use Rattle.binkp_link.specs.Lines.{SinkState}
use Rattle.command_base.specs.Opening.{HasOpened, HasRefused}
use Rattle.command_base.specs.Printing.{PrintsLines, all_put, lines_put, no_room, put_failed}
use Rattle.command_base.specs.Settings.{OnlyRead}
use Rattle.command_base.specs.Statuses as S
use Rattle.command_base.specs.Statuses.{Status}
use Rattle.command_words.specs.Forms.{Command, Compile, Taking}
use Rattle.still_commands.specs.Came.{IsTold, Told, round_status, told_compiled}
use Rattle.still_commands.specs.Lists.{IsListRefused, ListsSo, Throughout}
use Rattle.outbound_round.specs.declared.words.RoundFault.{RoundFault}
use Rattle.outbound_round.specs.declared.words.RoundFault.TheVariants as RF
use Rattle.still_commands.specs.Still.{Bad_index, Before_takes, Compiled, CompilesFile, Listed, Looked_up, No_address, No_index, Not_opened, Not_set, Over_still, Runs_still, Taken_in}

-- List, index and the file in which they are made are none of a store's files. All three names begin with `n`.

-- the byte at a place
abbrev at : ℕ → List ℕ → ℕ
at place name = get_or name place 0

abbrev first : List ℕ → ℕ
first name = at 0 name

no_ledger : (name : List ℕ) → first name ≡ 110 → name ≢ ledger_name
no_ledger name n same = let e : first name ≡ 108 = ap first same in omega (arith, n, e)

no_out : (name : List ℕ) → first name ≡ 110 → (number : ℕ) → name ≢ out_name number
unfolding out_name
no_out name n number same = let e : first name ≡ 111 = ap first same in omega (arith, n, e)

no_in : (name : List ℕ) → first name ≡ 110 → (number : ℕ) → name ≢ in_name number
unfolding in_name
no_in name n number same = let e : first name ≡ 105 = ap first same in omega (arith, n, e)

list_no_take : take_number list_name ≡ None
unfolding take_number
list_no_take = refl

index_no_take : take_number index_name ≡ None
unfolding take_number
index_no_take = refl

new_no_take : take_number new_name ≡ None
unfolding take_number
new_no_take = refl

list_no_note : is_note list_name ≡ false
unfolding is_note
list_no_note = refl

index_no_note : is_note index_name ≡ false
unfolding is_note
index_no_note = refl

list_no_work : IsWork list_name → ⊥
list_no_work (inl same) = let e : 110 ≡ 108 = ap (at 0) same in omega (arith, e)
list_no_work (inr same) = let e : 116 ≡ 110 = ap (at 9) same in omega (arith, e)

index_no_work : IsWork index_name → ⊥
index_no_work (inl same) = let e : 110 ≡ 108 = ap (at 0) same in omega (arith, e)
index_no_work (inr same) = let e : 105 ≡ 110 = ap (at 9) same in omega (arith, e)

list_aside : IsAside list_name
list_aside = record { ledger = no_ledger list_name refl; work = list_no_work; queued = no_out list_name refl; received = no_in list_name refl; taken = list_no_take; note = list_no_note }

index_aside : IsAside index_name
index_aside = record { ledger = no_ledger index_name refl; work = index_no_work; queued = no_out index_name refl; received = no_in index_name refl; taken = index_no_take; note = index_no_note }

-- Where they changed alone, a disk opens to the same.
module _ (pair : World → World → Type 0) (d c : World) (on : OnLists pair d c) where
  -- another name than these three
  other : (name : List ℕ) → ((n : List ℕ) → first n ≡ 110 → n ≢ name) → c.own name ≡ d.own name
  other name apart = on.others name (λ same. apart list_name refl (sym same)) (λ same. apart index_name refl (sym same)) (λ same. apart new_name refl (sym same))

  lists_beside : IsBeside d c
  lists_beside = record {
    ledger = other ledger_name no_ledger;
    outs = λ number. other (out_name number) (λ n is. no_out n is number);
    ins = λ number. other (in_name number) (λ n is. no_in n is number);
    gifts = on.gifts;
  }

  no_take : (name n : List ℕ) (take : ℕ) → take_number name ≡ Some take → take_number n ≡ None → name ≢ n
  no_take name n take is none same = none_some (sym none ∙ sym (ap take_number same) ∙ is)

  lists_takes : takes_in c ≡ takes_in d
  lists_takes = takes_alike d c (λ name take is. on.others name (no_take name list_name take is list_no_take) (no_take name index_name take is index_no_take) (no_take name new_name take is new_no_take))

  lists_recovers : Recovers d c
  lists_recovers = other_recovers d c lists_beside lists_takes on.outside

-- List and index from one world to the next.

pair_refl : (d : World) → OldPair d d
pair_refl d = record { list = refl; index = refl }

pair_aside : (d c : World) → SameAside d c → OldPair d c
pair_aside d c same = record { list = same list_name list_aside; index = same index_name index_aside }

pair_only : (d c : World) → Only new_name d c → OldPair d c
pair_only d c changed = record { list = changed.others list_name list_not_new; index = changed.others index_name index_not_new }
  where
    list_not_new : list_name ≢ new_name
    list_not_new same = let e : 116 ≡ 110 = ap (at 9) same in omega (arith, e)

    index_not_new : index_name ≢ new_name
    index_not_new same = let e : 105 ≡ 110 = ap (at 9) same in omega (arith, e)

pair_then : (d e c : World) → OldPair d e → OldPair e c → OldPair d c
pair_then d e c first second = record { list = second.list ∙ first.list; index = second.index ∙ first.index }

-- a file that stands behind an opening stood before it, with the same bytes
text_before : (path text : List ℕ) (before now : World) (m : Memory) → IsOpened before now m → text_at path now ≡ Some text → text_at path before ≡ Some text
text_before path text before now m opened is = go (opened.tidied.outside path)
  where
    seen : (o : Option W.OutFile) → option_map (λ (f : W.OutFile). f.bytes) o ≡ option_map (λ (f : OutFile). f.bytes) (option_map out_file_of o)
    seen None = refl
    seen (Some f) = refl

    was : opened.shelf.outside path ≡ option_map out_file_of (before.outside path)
    was = ap (λ (s : Shelf). s.outside path) opened.opens.is

    go : (option_map out_file_of (now.outside path) ≡ opened.shelf.outside path) ⊎ (option_map out_file_of (now.outside path) ≡ None) → text_at path before ≡ Some text
    go (inl same) = seen (before.outside path) ∙ ap (option_map (λ (f : OutFile). f.bytes)) (sym was ∙ sym same) ∙ sym (seen (now.outside path)) ∙ is
    go (inr none) = none_some (sym (ap (option_map (λ (f : OutFile). f.bytes)) none) ∙ sym (seen (now.outside path)) ∙ is)

-- a list of the file that then stood is a list of the file that stood before
new_before : (old files : World → Type 0) (path : List ℕ) (d e c : World) → ((text : List ℕ) → Every files (λ w. text_at path w ≡ Some text) → Every old (λ w. text_at path w ≡ Some text)) → OldPair d e → NewList files path e c → NewList old path d c
new_before old files path d e c stood same new = record {
  text = new.text;
  nodes = new.nodes;
  has = record { file = stood new.text new.has.file; spells = new.has.spells };
  list = new.list;
  index = index_before new.index;
}
  where
    index_before : {A : Type 0} → (c.own index_name ≡ e.own index_name) ⊎ A → (c.own index_name ≡ d.own index_name) ⊎ A
    index_before (inl is) = inl (is ∙ same.index)
    index_before (inr is) = inr is

-- A status that tells that the file is refused.

not_refused : (had : Status) → (had ≡ S.NoFile → ⊥) → ((fault : ListTextFault) → had ≡ S.ListBad fault → ⊥) → IsListRefused had → ⊥
not_refused had file list (inl is) = file is
not_refused had file list (inr is) = list is.0 is.1

no_memory_refused : IsListRefused S.NoMemory → ⊥
no_memory_refused = not_refused S.NoMemory (λ is. cc is) (λ fault is. cc is)

out_refused : IsListRefused S.OutFault → ⊥
out_refused = not_refused S.OutFault (λ is. cc is) (λ fault is. cc is)

-- what holds then unless the disk failed
refused_so : {A : Type 0} (result : Result ℕ CompileFault) (faults : ℕ) → IsListRefused (told_compiled result faults).status → IfErr result (λ fault. (fault ≡ M.Disk) ⊎ A) → A
refused_so (Ok count) faults refused so = absurd (not_refused S.Done (λ is. cc is) (λ fault is. cc is) refused)
refused_so (Err M.Disk) faults refused so = absurd (not_refused (S.DiskFault faults) (λ is. cc is) (λ fault is. cc is) refused)
refused_so (Err M.NoFile) faults refused (inl is) = absurd (let clash : M.NoFile ≡ M.Disk = is in cc)
refused_so (Err M.NoFile) faults refused (inr a) = a
refused_so (Err (M.ListBad fault)) faults refused (inl is) = absurd (let clash : M.ListBad fault ≡ M.Disk = is in cc)
refused_so (Err (M.ListBad fault)) faults refused (inr a) = a
refused_so (Err M.NoMemory) faults refused so = absurd (no_memory_refused refused)

told_refused : (wanted told : Told) → IsTold wanted told → IsListRefused told.status → IsListRefused wanted.status
told_refused wanted told (inl is) refused = subst (λ (t : Told). IsListRefused t.status) is refused
told_refused wanted told (inr is) refused = absurd (no_memory_refused (subst (λ (t : Told). IsListRefused t.status) is refused))

pub printed_refused : (lines : List ℕ) (had status : Status) (out out' : SinkState) → PrintsLines lines had status out out' → IsListRefused status → IsListRefused had
printed_refused lines had status out out' (lines_put (all_put is puts)) refused = subst IsListRefused is refused
printed_refused lines had status out out' (lines_put (put_failed is puts)) refused = absurd (out_refused (subst IsListRefused is refused))
printed_refused lines had status out out' (no_room (all_put is puts)) refused = absurd (no_memory_refused (subst IsListRefused is refused))
printed_refused lines had status out out' (no_room (put_failed is puts)) refused = absurd (out_refused (subst IsListRefused is refused))

module _ {D : Type 0} (files : D → World → Type 0) (tells : Bool) (content : D → World) (faults : D → ℕ) (moment : D → ℕ) (images : D → ℕ → World → Type 0) (command : Command) (disk : D) (told : Told) where
  -- what holds of the disk that is left, by what was done over it
  over_so : (P : D → Type 0) → ((d : D) → OnlyRead tells content faults moment images disk d → P d) → ((fault : StoreOpenFault) (d : D) → HasRefused tells content faults moment images fault disk d → P d)
      → ((opened : Holding D) → HasOpened tells content faults moment images disk opened → P opened.disk)
      → ((path : List ℕ) (opened : Holding D) (result : Result ℕ CompileFault) (d : D) → command ≡ Compile path → HasOpened tells content faults moment images disk opened → CompilesFile files faults moment images path result opened.disk d → IsTold (told_compiled result (faults d)) told → P d)
      → (disk' : D) → Over_still files tells content faults moment images command disk told disk' → P disk'
  over_so P read refused opening compile disk' (Not_set are had is why more) = read disk' more
  over_so P read refused opening compile disk' (No_address conf settings text form none more) = read disk' more
  over_so P read refused opening compile disk' (No_index conf settings asks had is why more) = read disk' more
  over_so P read refused opening compile disk' (Not_opened conf settings asks fault is h) = refused fault disk' h
  over_so P read refused opening compile disk' (Bad_index conf settings text a form reads opened h disk_is bad is) = subst P (sym disk_is) (opening opened h)
  over_so P read refused opening compile disk' (Looked_up conf settings text a form reads opened h disk_is index at is) = subst P (sym disk_is) (opening opened h)
  over_so P read refused opening compile disk' (Compiled conf settings path form opened h result does is) = compile path opened result disk' form h does is
  over_so P read refused opening compile disk' (Listed conf settings form opened h disk_is is) = subst P (sym disk_is) (opening opened h)

  abbrev Stays : (World → World → Type 0) → D → Type 0
  Stays step d = Throughout content moment images step disk d

  -- a disk that was read only
  read_so : (step : World → World → Type 0) → ((w : World) → step w w) → tells ≡ true → (d : D) → OnlyRead tells content faults moment images disk d → Stays step d
  read_so step same t d more = record {
    stop = weakened moment images Same step disk d (λ w c now is. subst (step w) (sym is) (same w)) more.stop;
    read = subst (step (content disk)) (sym (more.same t)) (same (content disk));
  }

  weaker : (R T : World → World → Type 0) → ((w c : World) → R w c → T w c) → (d : D) → Leaves moment images R disk d → R (content disk) (content d) → Stays T d
  weaker R T leads d stop read = record { stop = weakened moment images R T disk d (λ w c now. leads w c) stop; read = leads (content disk) (content d) read }

  module _ (reads : (d : D) (w : World) → files d w → (tells ≡ true) × (w ≡ content d)) (tell : tells ≡ true → (d : D) → files d (content d)) (t : tells ≡ true) where
    -- one run of calls, and then another, of which a read is told by its worlds
    then_so : (R S T : World → World → Type 0) → ((w c : World) → R w c → T w c) → ((w e c : World) → R w e → S e c → T w c) → (mid d : D)
        → Leaves moment images R disk mid → R (content disk) (content mid) → Leaves moment images S mid d → Follows S (files mid) (files d) → Stays T d
    then_so R S T stays steps mid d stop read then_stop then_read = record {
      stop = runs_on moment images R S T disk mid d stop then_stop (λ w c now. stays w c) (λ w e c now left. steps w e c);
      read =
          let p = then_read (content d) (tell t d) in
          steps (content disk) (content mid) (content d) read (subst (λ (w : World). S w (content d)) (reads mid p.0 p.1).1 p.2);
    }

    pub still_recovers : (disk' : D) → Over_still files tells content faults moment images command disk told disk' → Stays Recovers disk'
    still_recovers = over_so (Stays Recovers) (read_so Recovers recovers-refl t)
        (λ fault d h. record { stop = h.stop t; read = h.read t })
        (λ opened h. record { stop = h.stop t; read = h.read t })
        (λ path opened result d form h does is. then_so Recovers (Compiles (files opened.disk) path) Recovers (λ w c r. r) (λ w e c r on. recovers-then w e c r (lists_recovers _ e c on)) opened.disk d (h.stop t) (h.read t) does.stop does.read)

    pub still_lists : (disk' : D) → Over_still files tells content faults moment images command disk told disk' → Stays (ListsSo (files disk) command) disk'
    still_lists = over_so (Stays (ListsSo (files disk) command)) (read_so (ListsSo (files disk) command) (λ w. inl (pair_refl w)) t)
        (λ fault d h. weaker SameAside (ListsSo (files disk) command) (λ w c same. inl (pair_aside w c same)) d (h.aside_stop t) (h.aside_read t))
        (λ opened h. weaker SameAside (ListsSo (files disk) command) (λ w c same. inl (pair_aside w c same)) opened.disk (h.aside_stop t) (h.aside_read t))
        (λ path opened result d form h does is. then_so SameAside (Compiles (files opened.disk) path) (ListsSo (files disk) command) (λ w c same. inl (pair_aside w c same)) (compiles_so path opened form h) opened.disk d (h.aside_stop t) (h.aside_read t) does.stop does.read)
      where
        compiles_so : (path : List ℕ) (opened : Holding D) → command ≡ Compile path → HasOpened tells content faults moment images disk opened → (w e c : World) → SameAside w e → Compiles (files opened.disk) path e c → ListsSo (files disk) command w c
        compiles_so path opened form h w e c same on = go on.both
          where
            stood : (text : List ℕ) → Every (files opened.disk) (λ v. text_at path v ≡ Some text) → Every (files disk) (λ v. text_at path v ≡ Some text)
            stood text stands v is = subst (λ (x : World). text_at path x ≡ Some text) (sym (reads disk v is).1) (text_before path text (content disk) (content opened.disk) opened.memory (h.told t) (stands (content opened.disk) (tell t opened.disk)))

            go : OldPair e c ⊎ NewList (files opened.disk) path e c → ListsSo (files disk) command w c
            go (inl old) = inl (pair_then w e c (pair_aside w e same) old)
            go (inr new) = inr (path, form, new_before (files disk) (files opened.disk) path w e c stood (pair_aside w e same) new)

    pub still_refused : IsListRefused told.status → (disk' : D) → Over_still files tells content faults moment images command disk told disk' → Stays OldPair disk'
    still_refused refused = over_so (Stays OldPair) (read_so OldPair pair_refl t)
        (λ fault d h. weaker SameAside OldPair pair_aside d (h.aside_stop t) (h.aside_read t))
        (λ opened h. weaker SameAside OldPair pair_aside opened.disk (h.aside_stop t) (h.aside_read t))
        (λ path opened result d form h does is.
        let so = told_refused (told_compiled result (faults d)) told is refused in
        then_so SameAside (Only new_name) OldPair pair_aside (λ w e c same changed. pair_then w e c (pair_aside w e same) (pair_only e c changed)) opened.disk d (h.aside_stop t) (h.aside_read t)
        (refused_so result (faults d) so does.kept) (cleared_only opened.disk d (refused_so result (faults d) so does.cleared)))
      where
        cleared_only : (mid d : D) → Follows Clears (files mid) (files d) → Follows (Only new_name) (files mid) (files d)
        cleared_only mid d follows w is = let p = follows w is in (p.0, p.1, p.2.only)

-- Beside a take-in.

-- the statuses that tell no refused list
abbrev IsNoRefusal : Status → Type 0
IsNoRefusal S.NoFile = ⊥
IsNoRefusal (S.ListBad fault) = ⊥
IsNoRefusal status = Unit {0}

no_refusal : {had : Status} → IsListRefused had → IsNoRefusal had → ⊥
no_refusal (inl is) none = subst IsNoRefusal is none
no_refusal (inr (fault, is)) none = subst IsNoRefusal is none

-- no round is told as a refused list
round_refused : (marked : Option (List ℕ)) (fault : Option RoundFault) (faults : ℕ) → IsListRefused (round_status marked fault faults) → ⊥
round_refused marked (Some RF.Disk) faults refused = no_refusal refused tt
round_refused marked (Some RF.Full) faults refused = no_refusal refused tt
round_refused marked (Some RF.NoMemory) faults refused = no_refusal refused tt
round_refused (Some name) None faults refused = no_refusal refused tt
round_refused None None faults refused = no_refusal refused tt

module _ {D : Type 0} (files : D → World → Type 0) (tells : Bool) (content : D → World) (faults : D → ℕ) (moment : D → ℕ) (images : D → ℕ → World → Type 0) (command : Command) (now : ℕ) (disk : D) (told : Told) (disk' : D) where
  pub over_unless_take : (command ≡ Taking → ⊥) → Runs_still files tells content faults moment images command now disk told disk' → Over_still files tells content faults moment images command disk told disk'
  over_unless_take other (Before_takes over) = over
  over_unless_take other (Taken_in conf settings form opened h takes) = absurd (other form)

  pub refused_over : IsListRefused told.status → Runs_still files tells content faults moment images command now disk told disk' → Over_still files tells content faults moment images command disk told disk'
  refused_over refused (Before_takes over) = over
  refused_over refused (Taken_in conf settings form opened h takes) =
      absurd (round_refused takes.round.marked takes.round.fault (faults disk') (subst (λ (t : Told). IsListRefused t.status) takes.told_is refused))
