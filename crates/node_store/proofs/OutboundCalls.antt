-- The calls on marks, in the store's words.
use Rattle.std.proofs.Common.{◌≡◌, inl, inr, ℕ, List, Option, Some, None, Result, Ok, Err, Bool, true, false, refl, sym, ◌∙◌, ap, subst, arith}
use Rattle.std.specs.Prelude.{IfOk, OnOk, IsSome, option_map}
use Rattle.std.specs.Str.{bytes_eq}
use Rattle.std.proofs.lemmas.Slice.Eq.{bytes_eq-Decides}
use Rattle.busy_marks.specs.Marking.{MakesMark, MarksInPart, MarksSo, NotesAlone}
use Rattle.busy_marks.specs.Undoing.{Both, MarkAtLeast, MayUndo, Neither, Undoes, UndoesInPart, UndoesSo, Undone}
use Rattle.ftn_addr.specs.declared.refusals.Failed.{Failed}
use Rattle.disk_model.specs.Answers.{MarkingOf, UnmarkOf}
use Rattle.disk_model.specs.Changes.{Every, Only}
use Rattle.disk_model.specs.Moments.{Leaves, Now}
use Rattle.disk_model.specs.World as W
use Rattle.disk_model.specs.World.{World}
use Rattle.disk_model.specs.declared.answers.Hit.{Hit}
use Rattle.disk_model.specs.declared.answers.Hit.TheVariants.{Done, Other}
use Rattle.disk_model.specs.declared.answers.Marking.{Marking}
use Rattle.disk_model.specs.declared.answers.Marking.TheVariants.{Made, Exists}
use Rattle.node_model.specs.declared.store.StoreFault.{StoreFault}
use Rattle.node_model.specs.declared.store.StoreFault.TheVariants.{Disk}
use Rattle.node_model.specs.Outside.{OutFiles}
use Rattle.node_model.specs.StoreStates.{IfTold, Shelf}
use Rattle.node_model.proofs.Lists.{none_some, off, some_inj}
use Rattle.node_store.specs.Names.{is_note}
use Rattle.node_store.specs.OutboundMarks.{HasMarked, has_text, mark_gone, marked_so}
use Rattle.node_store.specs.Stored.{IsSound, Memory, state_of}
use Rattle.node_store.specs.Taking.{Around, MadeOf, made_so}
use Rattle.node_store.specs.Worlds.{out_file_of, outside_in, takes_in}
use Rattle.node_store.proofs.AroundCall.{MakesAround}
use Rattle.node_store.proofs.NoteNames.{note_beside, note_takes}
use Rattle.node_store.proofs.OutboundSteps.{is_done, marked_one, marked_takes, only_one, removed_mark, text_told, undone_mark, undone_takes}
use Rattle.node_store.proofs.TakeCall.{TakesOne, nothing, unchanged}
use Rattle.node_store.proofs.TakeWorld.{IsBeside}

-- as the store tells it
abbrev pub told_as : {T : Type 0} → Result T Failed → Result T StoreFault
told_as (Ok answer) = Ok answer
told_as (Err e) = Err Disk

answer_told : {T : Type 0} (P : T → Type 0) (r : Result T Failed) → IfOk r P → IfOk (told_as r) P
answer_told P (Ok answer) is = is
answer_told P (Err e) is = tt

-- what was answered, if anything
abbrev made_by : {T : Type 0} → Result T Failed → Option T
made_by (Ok answer) = Some answer
made_by (Err e) = None

answered_by : {T : Type 0} (r : Result T Failed) → IfOk (told_as r) (λ answer. made_by r ≡ Some answer)
answered_by (Ok answer) = refl
answered_by (Err e) = tt

-- what is outside is the same in what a sound store reads and in what a stop leaves of it
pub outside_agrees : {D : Type 0} (tells : Bool) (content : D → World) (moment : D → ℕ) (images : D → ℕ → World → Type 0) (disk : D) (m : Memory) → IsSound tells content moment images disk m → m.broken ≡ None
    → tells ≡ true → (w : World) → Now moment images disk w → outside_in w ≡ outside_in (content disk)
outside_agrees tells content moment images disk m sound whole t w now = ap (λ (d : Shelf). d.outside) ((sound.kept whole w now).same t)

-- whether a file stood at the path
pub has_marked : {D : Type 0} (tells : Bool) (content : D → World) (files : D → World → Type 0) → (tells ≡ true → (d : D) → files d (content d)) → (disk : D) (faults : ℕ) (m : Memory) (path : List ℕ) (marking : Marking) → Every (files disk) (λ w. MarkingOf marking (w.outside path))
    → IfTold (state_of tells (content disk) faults m).content (λ a. HasMarked marking (a.outside path))
has_marked tells content files told disk faults m path marking says = go tells (λ t. says (content disk) (told t disk))
  where
    stood : (v : Marking) (file : Option W.OutFile) → MarkingOf v file → HasMarked v (option_map out_file_of file)
    stood Made file is = ap (option_map out_file_of) is
    stood Exists file is = subst IsSome (sym (ap (option_map out_file_of) is.1)) refl

    go : (b : Bool) → (b ≡ true → MarkingOf marking ((content disk).outside path)) → IfTold (state_of b (content disk) faults m).content (λ a. HasMarked marking (a.outside path))
    go true is = stood marking ((content disk).outside path) (is refl)
    go false is = tt

-- of a disk that doesn't tell nothing is said of what is around
untold_one : (tells : Bool) → tells ≡ false → (f : Around → Around) (d c : World) → IsBeside d c → TakesOne tells f d c
untold_one tells f does d c one = record { one = one; is = λ t. off (sym t ∙ f) }

module _ {D : Type 0} (tells : Bool) (content : D → World) (files : D → World → Type 0) (moment : D → ℕ) (images : D → ℕ → World → Type 0) (reads : (d : D) (w : World) → files d w → (tells ≡ true) × (w ≡ content d)) (told : tells ≡ true → (d : D) → files d (content d))
    (own path text : List ℕ) (note : is_note own ≡ true) (old new : D) (agree : tells ≡ true → (w : World) → Now moment images old w → outside_in w ≡ outside_in (content old)) where
  -- A mark is made.
  module _ (time : ℕ) (r : Result Marking Failed) (marks : MakesMark files moment images r own path text time old new) (says : IfOk r (λ marking. Every (files old) (λ w. MarkingOf marking (w.outside path))))
      (exists : Every (files old) (λ w. MarkingOf Exists (w.outside path) → NotesAlone files moment images own old new)) where
    abbrev does : Marking → Around → Around
    does = marked_so path text time

    so_one : (made : Option Marking) (d c : World) → (tells ≡ true → outside_in d path ≡ None) → MarksSo own path text time made d c → TakesOne tells (made_so does made) d c
    so_one None d c free only = only_one tells own note d c only
    so_one (Some Made) d c free marked = marked_one tells own note path text time d c free marked
    so_one (Some Exists) d c free gone = only_one tells own note d c (record { others = gone.own.others; outside = gone.outside; gifts = gone.gifts })

    only_takes : (d c : World) → Only own d c → takes_in c ≡ takes_in d
    only_takes d c only = note_takes own note d c only.others

    so_takes : (made : Option Marking) (d c : World) → MarksSo own path text time made d c → takes_in c ≡ takes_in d
    so_takes None d c only = only_takes d c only
    so_takes (Some Made) d c marked = marked_takes tells own note path text time d c marked
    so_takes (Some Exists) d c gone = note_takes own note d c gone.own.others

    -- no file stands at the path
    module _ (t : tells ≡ true) (free : (content old).outside path ≡ None) where
      at_old : outside_in (content old) path ≡ None
      at_old = ap (option_map out_file_of) free

      at_image : (d : World) → Now moment images old d → outside_in d path ≡ None
      at_image d now = ap (λ (f : OutFiles). f path) (agree t d now) ∙ at_old

      made_allowed : (q : Result Marking Failed) → IfOk q (λ marking. Every (files old) (λ w. MarkingOf marking (w.outside path))) → MadeOf (told_as q) (Some Made)
      made_allowed (Ok Made) is = refl
      made_allowed (Ok Exists) is = none_some (sym free ∙ (is (content old) (told t old)).1)
      made_allowed (Err e) is = tt

      part_one : (d c : World) → Now moment images old d → MarksInPart own path text time d c → (o : Option Marking) × MadeOf (told_as r) o × TakesOne tells (made_so does o) d c
      part_one d c now (inl only) = (None, nothing (told_as r), only_one tells own note d c only)
      part_one d c now (inr marked) = (Some Made, made_allowed r says, marked_one tells own note path text time d c (λ _. at_image d now) marked)

      mark_free : MakesAround tells content moment images does (told_as r) old new
      mark_free = record {
        made = marks.ends.made;
        answered = answer_told (λ marking. marks.ends.made ≡ Some marking) r marks.ends.answered;
        read = λ _.
            let was = marks.ends.read (content new) (told t new) in
            so_one marks.ends.made (content old) (content new) (λ _. at_old) (subst (λ (w : World). MarksSo own path text time marks.ends.made w (content new)) (reads old was.0 was.1).1 was.2);
        takes = λ _.
            let was = marks.ends.read (content new) (told t new) in
            so_takes marks.ends.made (content old) (content new) (subst (λ (w : World). MarksSo own path text time marks.ends.made w (content new)) (reads old was.0 was.1).1 was.2);
        left = λ c image. let was = marks.ends.left c image in (was.0, was.1, so_one marks.ends.made was.0 c (λ _. at_image was.0 was.1) was.2);
        grew = marks.stop.grew;
        each = λ k c from to image. let was = marks.stop.each k c from to image in (was.0, was.1, part_one was.0 c was.1 was.2);
      }

    -- a file stands there
    module _ (t : tells ≡ true) (file : W.OutFile) (is : (content old).outside path ≡ Some file) where
      alone : NotesAlone files moment images own old new
      alone = exists (content old) (told t old) (file, is)

      stood_one : (q : Result Marking Failed) → IfOk q (λ marking. Every (files old) (λ w. MarkingOf marking (w.outside path))) → (d c : World) → Only own d c → TakesOne tells (made_so does (made_by q)) d c
      stood_one (Ok Made) says d c only = none_some (sym (says (content old) (told t old)) ∙ is)
      stood_one (Ok Exists) says d c only = only_one tells own note d c only
      stood_one (Err e) says d c only = only_one tells own note d c only

      mark_stood : MakesAround tells content moment images does (told_as r) old new
      mark_stood = record {
        made = made_by r;
        answered = answered_by r;
        read = λ _.
            let was = alone.read (content new) (told t new) in
            stood_one r says (content old) (content new) (subst (λ (w : World). Only own w (content new)) (reads old was.0 was.1).1 was.2);
        takes = λ _.
            let was = alone.read (content new) (told t new) in
            only_takes (content old) (content new) (subst (λ (w : World). Only own w (content new)) (reads old was.0 was.1).1 was.2);
        left = λ c image. let was = alone.stop.each (moment new) c alone.stop.grew.later (omega arith) image in (was.0, was.1, stood_one r says was.0 c was.2);
        grew = alone.stop.grew;
        each = λ k c from to image. let was = alone.stop.each k c from to image in (was.0, was.1, (None, nothing (told_as r), only_one tells own note was.0 c was.2));
      }

    module _ (f : tells ≡ false) where
      mark_beside : (d c : World) → MarksInPart own path text time d c → IsBeside d c
      mark_beside d c (inl only) = note_beside own note d c only.others only.gifts
      mark_beside d c (inr marked) = note_beside own note d c marked.noted.others marked.gifts

      mark_untold : MakesAround tells content moment images does (told_as r) old new
      mark_untold = record {
        made = made_by r;
        answered = answered_by r;
        read = λ t. off (sym t ∙ f);
        takes = λ t. off (sym t ∙ f);
        left = λ c image.
            let was = marks.stop.each (moment new) c marks.stop.grew.later (omega arith) image in
            (was.0, was.1, untold_one tells f (made_so does (made_by r)) was.0 c (mark_beside was.0 c was.2));
        grew = marks.stop.grew;
        each = λ k c from to image. let was = marks.stop.each k c from to image in (was.0, was.1, (None, nothing (told_as r), untold_one tells f (λ a. a) was.0 c (mark_beside was.0 c was.2)));
      }

    pub mark_around : MakesAround tells content moment images does (told_as r) old new
    mark_around = go tells refl
      where
        here : tells ≡ true → (file : Option W.OutFile) → (content old).outside path ≡ file → MakesAround tells content moment images does (told_as r) old new
        here t None free = mark_free t free
        here t (Some file) is = mark_stood t file is

        go : (b : Bool) → tells ≡ b → MakesAround tells content moment images does (told_as r) old new
        go true t = here t ((content old).outside path) refl
        go false f = mark_untold f

  -- A mark is taken away.
  module _ (r : Result (Unit {0}) Failed) (undoes : Every (files old) (λ w. (hit : Hit) → UnmarkOf hit text (w.outside path) → Undoes files moment images r (w.own own) hit own path old new)) (stop : Leaves moment images (MayUndo own path) old new) where
    abbrev goes : Unit {0} → Around → Around
    goes = mark_gone path text

    gone_allowed : (q : Result (Unit {0}) Failed) → MadeOf (told_as q) (Some tt)
    gone_allowed (Ok done) = refl
    gone_allowed (Err e) = tt

    -- whether the file holds the text
    either : (file : Option W.OutFile) → (hit : Hit) × UnmarkOf hit text file
    either None = (Other, λ is. none_some is)
    either (Some f) = go (bytes_eq f.bytes text) refl
      where
        go : (b : Bool) → bytes_eq f.bytes text ≡ b → (hit : Hit) × UnmarkOf hit text (Some f)
        go true same = (Done, ap Some ((bytes_eq-Decides f.bytes text).0 same))
        go false other = (Other, λ is. off (sym ((bytes_eq-Decides f.bytes text).1 (some_inj is)) ∙ other))

    abbrev gone_by : Undone → Option (Unit {0})
    gone_by Neither = None
    gone_by MarkAtLeast = Some tt
    gone_by Both = Some tt

    gone_answered : (q : Result (Unit {0}) Failed) (made : Undone) → OnOk q (made ≡ Both) → IfOk (told_as q) (λ done. gone_by made ≡ Some done)
    gone_answered (Ok done) made is = ap gone_by is
    gone_answered (Err e) made is = tt

    module _ (t : tells ≡ true) (hit : Hit) (is : UnmarkOf hit text ((content old).outside path)) where
      undone : Undoes files moment images r ((content old).own own) hit own path old new
      undone = undoes (content old) (told t old) hit is

      has : has_text text (outside_in (content old) path) ≡ is_done hit
      has = text_told hit text ((content old).outside path) is

      has_image : (d : World) → Now moment images old d → has_text text (outside_in d path) ≡ is_done hit
      has_image d now = ap (λ (f : OutFiles). has_text text (f path)) (agree t d now) ∙ has

      same_one : (d c : World) → c ≡ d → TakesOne tells (λ a. a) d c
      same_one d c same = subst (λ (w : World). TakesOne tells (λ a. a) d w) (sym same) (unchanged tells d)

      undone_one : (made : Undone) (d c : World) → has_text text (outside_in d path) ≡ is_done hit → UndoesSo ((content old).own own) hit own path made d c → TakesOne tells (made_so goes (gone_by made)) d c
      undone_one Neither d c says same = same_one d c same
      undone_one MarkAtLeast d c says (inl step) = removed_mark tells own note path text hit d c (λ _. says) step
      undone_one MarkAtLeast d c says (inr step) = undone_mark tells own note path text hit d c (λ _. says) ((content old).own own) step
      undone_one Both d c says step = undone_mark tells own note path text hit d c (λ _. says) ((content old).own own) step

      in_part : (made : Undone) (d c : World) → UndoesSo ((content old).own own) hit own path made d c → UndoesInPart ((content old).own own) hit own path d c
      in_part Neither d c same = inl same
      in_part MarkAtLeast d c step = inr step
      in_part Both d c step = inr (inr step)

      gone_part : (d c : World) → Now moment images old d → UndoesInPart ((content old).own own) hit own path d c → (o : Option (Unit {0})) × MadeOf (told_as r) o × TakesOne tells (made_so goes o) d c
      gone_part d c now (inl same) = (None, nothing (told_as r), same_one d c same)
      gone_part d c now (inr (inl step)) = (Some tt, gone_allowed r, removed_mark tells own note path text hit d c (λ _. has_image d now) step)
      gone_part d c now (inr (inr step)) = (Some tt, gone_allowed r, undone_mark tells own note path text hit d c (λ _. has_image d now) ((content old).own own) step)

      unmark_told : MakesAround tells content moment images goes (told_as r) old new
      unmark_told = record {
        made = gone_by undone.ends.made;
        answered = gone_answered r undone.ends.made undone.ends.answered;
        read = λ _.
            let was = undone.ends.read (content new) (told t new) in
            undone_one undone.ends.made (content old) (content new) has (subst (λ (w : World). UndoesSo ((content old).own own) hit own path undone.ends.made w (content new)) (reads old was.0 was.1).1 was.2);
        takes = λ _.
            let was = undone.ends.read (content new) (told t new) in
            undone_takes tells own note path text hit ((content old).own own) (content old) (content new)
            (in_part undone.ends.made (content old) (content new) (subst (λ (w : World). UndoesSo ((content old).own own) hit own path undone.ends.made w (content new)) (reads old was.0 was.1).1 was.2));
        left = λ c image. let was = undone.ends.left c image in (was.0, was.1, undone_one undone.ends.made was.0 c (has_image was.0 was.1) was.2);
        grew = undone.stop.grew;
        each = λ k c from to image. let was = undone.stop.each k c from to image in (was.0, was.1, gone_part was.0 c was.1 was.2);
      }

    module _ (f : tells ≡ false) where
      undone_beside : (d c : World) → MayUndo own path d c → IsBeside d c
      undone_beside d c (stood, hit, inl same) = subst (λ (w : World). IsBeside d w) (sym same) (unchanged tells d).one
      undone_beside d c (stood, hit, inr (inl step)) = (removed_mark tells own note path text hit d c (λ t. off (sym t ∙ f)) step).one
      undone_beside d c (stood, hit, inr (inr step)) = (undone_mark tells own note path text hit d c (λ t. off (sym t ∙ f)) stood step).one

      unmark_untold : MakesAround tells content moment images goes (told_as r) old new
      unmark_untold = record {
        made = made_by r;
        answered = answered_by r;
        read = λ t. off (sym t ∙ f);
        takes = λ t. off (sym t ∙ f);
        left = λ c image.
            let was = stop.each (moment new) c stop.grew.later (omega arith) image in
            (was.0, was.1, untold_one tells f (made_so goes (made_by r)) was.0 c (undone_beside was.0 c was.2));
        grew = stop.grew;
        each = λ k c from to image. let was = stop.each k c from to image in (was.0, was.1, (None, nothing (told_as r), untold_one tells f (λ a. a) was.0 c (undone_beside was.0 c was.2)));
      }

    pub unmark_around : MakesAround tells content moment images goes (told_as r) old new
    unmark_around = go tells refl
      where
        go : (b : Bool) → tells ≡ b → MakesAround tells content moment images goes (told_as r) old new
        go true t = let h = either ((content old).outside path) in unmark_told t h.0 h.1
        go false f = unmark_untold f
