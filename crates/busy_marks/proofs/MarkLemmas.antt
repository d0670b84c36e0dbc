-- A mark behind its note, from the calls of the disk.
use Rattle.std.proofs.Common.{◌≡◌, inl, inr, ℕ, List, Option, Some, None, Bool, true, Result, Ok, Err, refl, sym, ◌∙◌, ap, subst, arith}
use Rattle.std.specs.Prelude.{IfOk}
use Rattle.disk_model.specs.World.{OutFile, World}
use Rattle.disk_model.specs.Answers.{MarkingOf, Marks}
use Rattle.disk_model.specs.Changes.{AtOnce, Every, Follows, Same, Stands, OnOutside, OnOwn, Only, Puts}
use Rattle.disk_model.specs.Moments.{Now, Leaves, MakesNothing, Steps, StepOf, Together}
use Rattle.disk_model.specs.declared.answers.Marking.{Marking}
use Rattle.disk_model.specs.declared.answers.Marking.TheVariants.{Made, Exists}
use Rattle.disk_model.proofs.MomentLemmas.{started, goes_on, weakened}
use Rattle.busy_marks.specs.Ends.{EndsAs}
use Rattle.busy_marks.specs.Marking.{IsMarked, MarksInPart, MarksSo, NotesAlone}
use Rattle.busy_marks.proofs.Runs.{only_same, only_then, forward, runs_after, at_end, end_then}

-- What is made where the note is whole.
module _ (own path text : List ℕ) (time : ℕ) where
  so_marked : (d c : World) → d.own own ≡ Some path → OnOutside (Puts path (Some (record { bytes = text; time = time }))) d c → IsMarked own path text time d c
  so_marked d c noted step = record {
    noted = record { here = ap (λ (f : List ℕ → Option (List ℕ)). f own) step.own ∙ noted; others = λ n other. ap (λ (f : List ℕ → Option (List ℕ)). f n) step.own };
    marked = step.outside;
    gifts = step.gifts;
  }

  in_part : (made : Option Marking) (d c : World) → d.own own ≡ Some path → StepOf (Marks path text time) made d c → MarksInPart own path text time d c
  in_part None d c noted same = inl (only_same own d c same)
  in_part (Some Exists) d c noted same = inl (only_same own d c same)
  in_part (Some Made) d c noted step = inr (so_marked d c noted step)

  -- what a call made that failed
  abbrev settled : Option Marking → Option Marking
  settled None = None
  settled (Some Exists) = None
  settled (Some Made) = Some Made

  so_failed : (made : Option Marking) (d c : World) → d.own own ≡ Some path → StepOf (Marks path text time) made d c → MarksSo own path text time (settled made) d c
  so_failed None d c noted same = only_same own d c same
  so_failed (Some Exists) d c noted same = only_same own d c same
  so_failed (Some Made) d c noted step = so_marked d c noted step

  -- behind another change of the note
  part_then : (d e c : World) → Only own d e → MarksInPart own path text time e c → MarksInPart own path text time d c
  part_then d e c first (inl only) = inl (only_then own d e c first only)
  part_then d e c first (inr marked) = inr (marked_then d e c first marked)
    where
      marked_then : (d e c : World) → Only own d e → IsMarked own path text time e c → IsMarked own path text time d c
      marked_then d e c first marked = record {
        noted = record { here = marked.noted.here; others = λ n other. marked.noted.others n other ∙ first.others n other };
        marked = record { here = marked.marked.here; others = λ n other. marked.marked.others n other ∙ ap (λ (f : List ℕ → Option OutFile). f n) first.outside };
        gifts = marked.gifts ∙ first.gifts;
      }

  so_then : (made : Option Marking) (d e c : World) → Only own d e → MarksSo own path text time made e c → MarksSo own path text time made d c
  so_then None d e c first only = only_then own d e c first only
  so_then (Some Exists) d e c first gone = record {
    own = record { here = gone.own.here; others = λ n other. gone.own.others n other ∙ first.others n other };
    outside = gone.outside ∙ first.outside;
    gifts = gone.gifts ∙ first.gifts;
  }
  so_then (Some Made) d e c first marked = record {
    noted = record { here = marked.noted.here; others = λ n other. marked.noted.others n other ∙ first.others n other };
    marked = record { here = marked.marked.here; others = λ n other. marked.marked.others n other ∙ ap (λ (f : List ℕ → Option OutFile). f n) first.outside };
    gifts = marked.gifts ∙ first.gifts;
  }

-- the note is removed
only_gone : (own : List ℕ) (d c : World) → OnOwn (Puts own None) d c → Only own d c
only_gone own d c gone = record { others = gone.own.others; outside = gone.outside; gifts = gone.gifts }

only_removed : {T E : Type 0} (result : Result T E) (own : List ℕ) (d c : World) → AtOnce result (λ _. OnOwn (Puts own None)) d c → Only own d c
only_removed (Ok v) own d c gone = only_gone own d c gone
only_removed (Err e) own d c (inl same) = only_same own d c same
only_removed (Err e) own d c (inr gone) = only_gone own d c gone.1

module _ {D : Type 0} (files : D → World → Type 0) (moment : D → ℕ) (images : D → ℕ → World → Type 0) (as_read : (d : D) (w : World) → files d w → images d (moment d) w) (own path text : List ℕ) (time : ℕ) (d0 d1 : D) where
  pub alone_nothing : MakesNothing files moment images d0 d1 → NotesAlone files moment images own d0 d1
  alone_nothing nothing = record {
    read = λ c now. (c, nothing.read c now, only_same own c c refl);
    stop = goes_on moment images Same (Only own) d0 d0 d1 (started moment images (Only own) d0 (λ c now. only_same own c c refl)) nothing.stop
        (λ c now. let was = nothing.stop.now c now in (was.0, was.1, only_same own was.0 c was.2));
  }

  -- the mark's call
  module _ {E : Type 0} (noted : Every (Now moment images d0) (λ w. w.own own ≡ Some path)) (result : Result Marking E) (both : Together files moment images result (Marks path text time) d0 d1) where
    pub marks_stop : Leaves moment images (MarksInPart own path text time) d0 d1
    marks_stop = goes_on moment images (StepOf (Marks path text time) both.made) (MarksInPart own path text time) d0 d0 d1
        (started moment images (MarksInPart own path text time) d0 (λ c now. inl (only_same own c c refl))) both.stop
        (λ c now. let was = both.stop.now c now in (was.0, was.1, in_part own path text time both.made was.0 c (noted was.0 was.1) was.2))

    pub marks_failed : {T : Type 0} (e : T) → EndsAs files moment images (λ made. IfOk {T = Marking} {E = T} (Err e) (λ marking. made ≡ Some marking)) (MarksSo own path text time) d0 d1
    marks_failed e = record {
      made = settled own path text time both.made;
      answered = tt;
      read = λ c now. let was = both.read c now in (was.0, was.1, so_failed own path text time both.made was.0 c (noted was.0 (as_read d0 was.0 was.1)) was.2);
      left = λ c now. let was = both.stop.now c now in (was.0, was.1, so_failed own path text time both.made was.0 c (noted was.0 was.1) was.2);
    }

    module _ (made_is : both.made ≡ Some Made) where
      so_made : (d c : World) → d.own own ≡ Some path → StepOf (Marks path text time) both.made d c → IsMarked own path text time d c
      so_made d c there step = so_marked own path text time d c there (subst (λ (m : Option Marking). StepOf (Marks path text time) m d c) made_is step)

      pub marks_made : (T : Type 0) → EndsAs files moment images (λ made. IfOk {T = Marking} {E = T} (Ok Made) (λ marking. made ≡ Some marking)) (MarksSo own path text time) d0 d1
      marks_made T = record {
        made = Some Made;
        answered = refl;
        read = λ c now. let was = both.read c now in (was.0, was.1, so_made was.0 c (noted was.0 (as_read d0 was.0 was.1)) was.2);
        left = λ c now. let was = both.stop.now c now in (was.0, was.1, so_made was.0 c (noted was.0 was.1) was.2);
      }

    -- A file stood there, and the note is removed.
    module _ (made_is : both.made ≡ Some Exists) where
      stood : (d c : World) → StepOf (Marks path text time) both.made d c → Same d c
      stood d c step = subst (λ (m : Option Marking). StepOf (Marks path text time) m d c) made_is step

      pub still_noted : Every (files d1) (Stands own 0)
      still_noted w read =
          let was = both.read w read in
          let there : was.0.own own ≡ Some path = noted was.0 (as_read d0 was.0 was.1) in
          (path, ap (λ (v : World). v.own own) (stood was.0 w was.2) ∙ there, omega arith)

      module _ {F : Type 0} (d2 : D) (removed : Result Marking F) (read : Follows (AtOnce removed (λ _. OnOwn (Puts own None))) (files d1) (files d2)) (stop : Steps moment images (AtOnce removed (λ _. OnOwn (Puts own None))) d1 d2) where
        read_before : Follows (AtOnce removed (λ _. OnOwn (Puts own None))) (files d0) (files d2)
        read_before c now =
            let was = read c now in
            let before = both.read was.0 was.1 in
            (before.0, before.1, subst (λ (w : World). AtOnce removed (λ _. OnOwn (Puts own None)) w c) (stood before.0 was.0 before.2) was.2)

        left_before : Follows (AtOnce removed (λ _. OnOwn (Puts own None))) (Now moment images d0) (Now moment images d2)
        left_before c now =
            let was = stop.now c now in
            let before = both.stop.now was.0 was.1 in
            (before.0, before.1, subst (λ (w : World). AtOnce removed (λ _. OnOwn (Puts own None)) w c) (stood before.0 was.0 before.2) was.2)

        first_leaves : Leaves moment images (Only own) d0 d1
        first_leaves = goes_on moment images (StepOf (Marks path text time) both.made) (Only own) d0 d0 d1 (started moment images (Only own) d0 (λ c now. only_same own c c refl)) both.stop
            (λ c now. let was = both.stop.now c now in (was.0, was.1, only_same own was.0 c (stood was.0 c was.2)))

        pub alone_removed : NotesAlone files moment images own d0 d2
        alone_removed = record {
          read = λ c now. let was = read_before c now in (was.0, was.1, only_removed removed own was.0 c was.2);
          stop = goes_on moment images (AtOnce removed (λ _. OnOwn (Puts own None))) (Only own) d0 d1 d2 first_leaves stop
              (λ c now. let was = left_before c now in (was.0, was.1, only_removed removed own was.0 c was.2));
        }

        pub exists_stop : Leaves moment images (MarksInPart own path text time) d0 d2
        exists_stop = weakened moment images (Only own) (MarksInPart own path text time) d0 d2 (λ d c now only. inl only) alone_removed.stop

        pub exists_ends : IfOk removed (λ marking. marking ≡ Exists) → EndsAs files moment images (λ made. IfOk removed (λ marking. made ≡ Some marking)) (MarksSo own path text time) d0 d2
        exists_ends is = so removed is read_before left_before
          where
            so : (r : Result Marking F) → IfOk r (λ marking. marking ≡ Exists) → Follows (AtOnce r (λ _. OnOwn (Puts own None))) (files d0) (files d2) → Follows (AtOnce r (λ _. OnOwn (Puts own None))) (Now moment images d0) (Now moment images d2)
                → EndsAs files moment images (λ made. IfOk r (λ marking. made ≡ Some marking)) (MarksSo own path text time) d0 d2
            so (Ok marking) is reads leaves = record { made = Some Exists; answered = ap Some (sym is); read = reads; left = leaves }
            so (Err e) is reads leaves = record { made = None; answered = tt; read = alone_removed.read; left = at_end moment images (Only own) d0 d2 alone_removed.stop }

-- what was told of the file that stood there
pub told_exists : {F : Type 0} (files : World → Type 0) (path : List ℕ) (answer : Marking) (result : Result Marking F) → answer ≡ Exists → Every files (λ w. MarkingOf answer (w.outside path)) → IfOk result (λ marking. marking ≡ Exists)
    → IfOk result (λ marking. Every files (λ w. MarkingOf marking (w.outside path)))
told_exists files path answer (Ok marking) is told same = subst (λ (m : Marking). Every files (λ w. MarkingOf m (w.outside path))) (is ∙ sym same) told
told_exists files path answer (Err e) is told same = tt

-- The note was put before.
module _ {D : Type 0} (files : D → World → Type 0) (moment : D → ℕ) (images : D → ℕ → World → Type 0) (own path text : List ℕ) (time : ℕ) (d0 d1 : D)
    (put_read : Follows (Only own) (files d0) (files d1)) (put_stop : Leaves moment images (Only own) d0 d1) where
  pub put_failed_stop : Leaves moment images (MarksInPart own path text time) d0 d1
  put_failed_stop = weakened moment images (Only own) (MarksInPart own path text time) d0 d1 (λ d c now only. inl only) put_stop

  pub put_failed : {T : Type 0} (e : T) → EndsAs files moment images (λ made. IfOk {T = Marking} {E = T} (Err e) (λ marking. made ≡ Some marking)) (MarksSo own path text time) d0 d1
  put_failed e = record { made = None; answered = tt; read = put_read; left = at_end moment images (Only own) d0 d1 put_stop }

  pub put_alone : NotesAlone files moment images own d0 d1
  put_alone = record { read = put_read; stop = put_stop }

  module _ (d2 : D) where
    pub marked_stop : Leaves moment images (MarksInPart own path text time) d1 d2 → Leaves moment images (MarksInPart own path text time) d0 d2
    marked_stop run = runs_after moment images (Only own) (Only own) (MarksInPart own path text time) (MarksInPart own path text time) d0 d1 d2 put_stop (at_end moment images (Only own) d0 d1 put_stop) run
        (λ d c only. inl only) (part_then own path text time)

    pub marked_ends : {T : Type 0} (result : Result Marking T) → EndsAs files moment images (λ made. IfOk result (λ marking. made ≡ Some marking)) (MarksSo own path text time) d1 d2
        → EndsAs files moment images (λ made. IfOk result (λ marking. made ≡ Some marking)) (MarksSo own path text time) d0 d2
    marked_ends result ends = record {
      made = ends.made;
      answered = ends.answered;
      read = end_then moment images (Only own) (MarksSo own path text time ends.made) (MarksSo own path text time ends.made) (files d0) (files d1) (files d2) put_read ends.read (so_then own path text time ends.made);
      left = end_then moment images (Only own) (MarksSo own path text time ends.made) (MarksSo own path text time ends.made) (Now moment images d0) (Now moment images d1) (Now moment images d2) (at_end moment images (Only own) d0 d1 put_stop) ends.left (so_then own path text time ends.made);
    }

    alone_then : NotesAlone files moment images own d1 d2 → NotesAlone files moment images own d0 d2
    alone_then alone = record {
      read = end_then moment images (Only own) (Only own) (Only own) (files d0) (files d1) (files d2) put_read alone.read (only_then own);
      stop = runs_after moment images (Only own) (Only own) (Only own) (Only own) d0 d1 d2 put_stop (at_end moment images (Only own) d0 d1 put_stop) alone.stop (λ d c only. only) (only_then own);
    }

    -- what stood outside before the note stands there behind it
    module _ (tells : Bool) (content : D → World) (reads : (d : D) (w : World) → files d w → (tells ≡ true) × (w ≡ content d)) (told : tells ≡ true → (d : D) → files d (content d)) where
      outside_then : (w : World) → files d0 w → (v : World) × files d1 v × (v.outside ≡ w.outside)
      outside_then w read = let on = forward tells content files reads told (Only own) d0 d1 put_read w read in (on.0, on.1, on.2.outside)

      pub told_before : {T : Type 0} (result : Result Marking T) → IfOk result (λ marking. Every (files d1) (λ w. MarkingOf marking (w.outside path))) → IfOk result (λ marking. Every (files d0) (λ w. MarkingOf marking (w.outside path)))
      told_before (Ok marking) says = λ w read.
          let on = outside_then w read in
          subst (λ (o : List ℕ → Option OutFile). MarkingOf marking (o path)) on.2 (says on.0 on.1)
      told_before (Err e) says = tt

      pub exists_before : Every (files d1) (λ w. MarkingOf Exists (w.outside path) → NotesAlone files moment images own d1 d2) → Every (files d0) (λ w. MarkingOf Exists (w.outside path) → NotesAlone files moment images own d0 d2)
      exists_before says w read stands =
          let on = outside_then w read in
          alone_then (says on.0 on.1 (subst (λ (o : List ℕ → Option OutFile). MarkingOf Exists (o path)) (sym on.2) stands))
