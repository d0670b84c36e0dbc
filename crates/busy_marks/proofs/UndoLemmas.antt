-- A mark goes, and then its note.
use Rattle.std.proofs.Common.{◌≡◌, inl, inr, ℕ, List, Option, Some, None, Bool, true, Result, Ok, Err, refl, sym, ◌∙◌, ap, subst}
use Rattle.std.specs.Prelude.{OnOk}
use Rattle.disk_model.specs.World.{Files, World}
use Rattle.disk_model.specs.Answers.{Removes, UnmarkOf}
use Rattle.disk_model.specs.Changes.{Every, Follows, Same, OnOwn}
use Rattle.disk_model.specs.Moments.{Now, Leaves, MakesNothing, Steps, StepOf, Together}
use Rattle.disk_model.specs.declared.answers.Hit.{Hit}
use Rattle.disk_model.specs.declared.answers.Hit.TheVariants.{Done, Other}
use Rattle.disk_model.proofs.MomentLemmas.{started, goes_on, weakened}
use Rattle.busy_marks.specs.Ends.{EndsAs}
use Rattle.busy_marks.specs.Undoing.{MarkGoes, NoteGoes, IsUndone, UndoesInPart, UndoesSo, MayUndo, Neither, MarkAtLeast, Both, Undoes, NoteMayGo, MayRemoveNote, RemovesNote}
use Rattle.busy_marks.proofs.Runs.{forward, runs_after, at_end, end_then}

-- a file holds the text or not
one_answer : (a b : Hit) (text : List ℕ) (w : World) (path : List ℕ) → UnmarkOf a text (w.outside path) → UnmarkOf b text (w.outside path) → a ≡ b
one_answer Done Done text w path x y = refl
one_answer Done Other text w path x y = absurd (y x)
one_answer Other Done text w path x y = absurd (x y)
one_answer Other Other text w path x y = refl

-- the mark's going leaves the note
own_stays : (hit : Hit) (path : List ℕ) (d e : World) → Removes path hit d e → e.own ≡ d.own
own_stays Done path d e step = step.own
own_stays Other path d e same = ap (λ (w : World). w.own) same

mark_went : (hit : Hit) (path : List ℕ) (d e : World) → Removes path hit d e → MarkGoes hit path d.outside e.outside
mark_went Done path d e step = step.outside
mark_went Other path d e same = ap (λ (w : World). w.outside) same

gifts_stay : (hit : Hit) (path : List ℕ) (d e : World) → Removes path hit d e → e.gifts ≡ d.gifts
gifts_stay Done path d e step = step.gifts
gifts_stay Other path d e same = ap (λ (w : World). w.gifts) same

module _ (stood : Option (List ℕ)) (hit : Hit) (own path : List ℕ) where
  then_note : (d e c : World) → Removes path hit d e → OnOwn (NoteGoes stood own) e c → IsUndone stood hit own path d c
  then_note d e c mark gone = record {
    note_gone = subst (λ (f : Files). NoteGoes stood own f c.own) (own_stays hit path d e mark) gone.own;
    mark_gone = subst (λ o. MarkGoes hit path d.outside o) (sym gone.outside) (mark_went hit path d e mark);
    gifts = gone.gifts ∙ gifts_stay hit path d e mark;
  }

  after_mark : (d e c : World) → Removes path hit d e → NoteMayGo stood own e c → UndoesSo stood hit own path MarkAtLeast d c
  after_mark d e c mark (inl same) = inl (subst (λ (w : World). Removes path hit d w) (sym same) mark)
  after_mark d e c mark (inr gone) = inr (then_note d e c mark gone)

  in_part : (d e c : World) → Removes path hit d e → NoteMayGo stood own e c → UndoesInPart stood hit own path d c
  in_part d e c mark step = inr (after_mark d e c mark step)

  module _ {D : Type 0} (files : D → World → Type 0) (moment : D → ℕ) (images : D → ℕ → World → Type 0) (d0 d1 : D) where
    same_stop : Steps moment images Same d0 d1 → Leaves moment images (UndoesInPart stood hit own path) d0 d1
    same_stop call = goes_on moment images Same (UndoesInPart stood hit own path) d0 d0 d1 (started moment images (UndoesInPart stood hit own path) d0 (λ c now. inl refl)) call
        (λ c now. let was = call.now c now in (was.0, was.1, inl was.2))

    mark_stop : Steps moment images (Removes path hit) d0 d1 → Leaves moment images (UndoesInPart stood hit own path) d0 d1
    mark_stop call = goes_on moment images (Removes path hit) (UndoesInPart stood hit own path) d0 d0 d1 (started moment images (UndoesInPart stood hit own path) d0 (λ c now. inl refl)) call
        (λ c now. let was = call.now c now in (was.0, was.1, inr (inl was.2)))

    -- nothing was undone
    pub neither : {E : Type 0} (e : E) → Follows Same (files d0) (files d1) → Steps moment images Same d0 d1 → Undoes {E = E} files moment images (Err e) stood hit own path d0 d1
    neither e read stop = record {
      stop = same_stop stop;
      ends = record { made = Neither; answered = tt; read = read; left = stop.now };
    }

    -- the mark went, and the call was told as failed
    pub mark_alone : {E : Type 0} (e : E) → Follows (Removes path hit) (files d0) (files d1) → Steps moment images (Removes path hit) d0 d1 → Undoes {E = E} files moment images (Err e) stood hit own path d0 d1
    mark_alone e read stop = record {
      stop = mark_stop stop;
      ends = record {
        made = MarkAtLeast;
        answered = tt;
        read = λ c now. let was = read c now in (was.0, was.1, inl was.2);
        left = λ c now. let was = stop.now c now in (was.0, was.1, inl was.2);
      };
    }

    -- the mark went, and then the note
    module _ {E : Type 0} (d2 : D) (result : Result (Unit {0}) E) (read : Follows (Removes path hit) (files d0) (files d1)) (call : Steps moment images (Removes path hit) d0 d1) (removes : RemovesNote files moment images result stood own d1 d2) where
      both_ends : EndsAs files moment images (λ made. OnOk result (made ≡ Both)) (UndoesSo stood hit own path) d0 d2
      both_ends = so result removes.gone removes.lasts
        where
          so : (r : Result (Unit {0}) E) → OnOk r (Follows (OnOwn (NoteGoes stood own)) (files d1) (files d2)) → OnOk r (Follows (OnOwn (NoteGoes stood own)) (Now moment images d1) (Now moment images d2))
              → EndsAs files moment images (λ made. OnOk r (made ≡ Both)) (UndoesSo stood hit own path) d0 d2
          so (Ok v) gone lasts = record {
            made = Both;
            answered = refl;
            read = end_then moment images (Removes path hit) (OnOwn (NoteGoes stood own)) (IsUndone stood hit own path) (files d0) (files d1) (files d2) read gone then_note;
            left = end_then moment images (Removes path hit) (OnOwn (NoteGoes stood own)) (IsUndone stood hit own path) (Now moment images d0) (Now moment images d1) (Now moment images d2) call.now lasts then_note;
          }
          so (Err e) gone lasts = record {
            made = MarkAtLeast;
            answered = tt;
            read = end_then moment images (Removes path hit) (NoteMayGo stood own) (UndoesSo stood hit own path MarkAtLeast) (files d0) (files d1) (files d2) read removes.read after_mark;
            left = end_then moment images (Removes path hit) (NoteMayGo stood own) (UndoesSo stood hit own path MarkAtLeast) (Now moment images d0) (Now moment images d1) (Now moment images d2) call.now (at_end moment images (NoteMayGo stood own) d1 d2 removes.stop) after_mark;
          }

      pub both_undone : Undoes files moment images result stood hit own path d0 d2
      both_undone = record {
        stop = runs_after moment images (UndoesInPart stood hit own path) (Removes path hit) (NoteMayGo stood own) (UndoesInPart stood hit own path) d0 d1 d2 (mark_stop call) call.now removes.stop (λ d c step. step) in_part;
        ends = both_ends;
      }

-- no mark is meant
pub note_alone : {D E : Type 0} (files : D → World → Type 0) (moment : D → ℕ) (images : D → ℕ → World → Type 0) (result : Result (Unit {0}) E) (stood : Option (List ℕ)) (own path : List ℕ) (d0 d1 : D) → RemovesNote files moment images result stood own d0 d1 → Undoes files moment images result stood Other own path d0 d1
note_alone {D} {E} files moment images result stood own path d0 d1 removes = record {
  stop = weakened moment images (NoteMayGo stood own) (UndoesInPart stood Other own path) d0 d1 (λ d c now step. in_part stood Other own path d d c refl step) removes.stop;
  ends = so result removes.gone removes.lasts;
}
  where
    so : (r : Result (Unit {0}) E) → OnOk r (Follows (OnOwn (NoteGoes stood own)) (files d0) (files d1)) → OnOk r (Follows (OnOwn (NoteGoes stood own)) (Now moment images d0) (Now moment images d1))
        → EndsAs files moment images (λ made. OnOk r (made ≡ Both)) (UndoesSo stood Other own path) d0 d1
    so (Ok v) gone lasts = record {
      made = Both;
      answered = refl;
      read = λ c now. let was = gone c now in (was.0, was.1, then_note stood Other own path was.0 was.0 c refl was.2);
      left = λ c now. let was = lasts c now in (was.0, was.1, then_note stood Other own path was.0 was.0 c refl was.2);
    }
    so (Err e) gone lasts = record {
      made = MarkAtLeast;
      answered = tt;
      read = λ c now. let was = removes.read c now in (was.0, was.1, after_mark stood Other own path was.0 was.0 c refl was.2);
      left = λ c now. let was = at_end moment images (NoteMayGo stood own) d0 d1 removes.stop c now in (was.0, was.1, after_mark stood Other own path was.0 was.0 c refl was.2);
    }

-- The unmarking call.
module _ {D : Type 0} (files : D → World → Type 0) (moment : D → ℕ) (images : D → ℕ → World → Type 0) (own path text : List ℕ) (d0 d1 : D) where
  module _ {F : Type 0} (e : F) (both : Together {T = Hit} {E = F} files moment images (Err e) (Removes path) d0 d1) where
    pub failed_undoes : {E : Type 0} (x : E) → Every (files d0) (λ w. UnmarkOf Other text (w.outside path) → MakesNothing files moment images d0 d1)
        → Every (files d0) (λ w. (hit : Hit) → UnmarkOf hit text (w.outside path) → Undoes {E = E} files moment images (Err x) (w.own own) hit own path d0 d1)
    failed_undoes {E} x other w read Other says =
        let nothing = other w read says in
        neither (w.own own) Other own path files moment images d0 d1 x (λ c now. (c, nothing.read c now, refl)) nothing.stop
    failed_undoes {E} x other w read Done says = so both.made both.read both.stop
      where
        so : (made : Option Hit) → Follows (StepOf (Removes path) made) (files d0) (files d1) → Steps moment images (StepOf (Removes path) made) d0 d1 → Undoes {E = E} files moment images (Err x) (w.own own) Done own path d0 d1
        so None follows stop = neither (w.own own) Done own path files moment images d0 d1 x follows stop
        so (Some Other) follows stop = neither (w.own own) Done own path files moment images d0 d1 x follows stop
        so (Some Done) follows stop = mark_alone (w.own own) Done own path files moment images d0 d1 x follows stop

    pub failed_stop : Leaves moment images (MayUndo own path) d0 d1
    failed_stop = goes_on moment images (StepOf (Removes path) both.made) (MayUndo own path) d0 d0 d1 (started moment images (MayUndo own path) d0 (λ c now. (None, Other, inl refl))) both.stop
        (λ c now. let was = both.stop.now c now in (was.0, was.1, so both.made was.0 c was.2))
      where
        so : (made : Option Hit) (d c : World) → StepOf (Removes path) made d c → MayUndo own path d c
        so None d c same = (None, Other, inl same)
        so (Some hit) d c step = (None, hit, inr (inl step))

  module _ {F : Type 0} (answer : Hit) (both : Together {T = Hit} {E = F} files moment images (Ok answer) (Removes path) d0 d1) where
    read_done : Follows (Removes path answer) (files d0) (files d1)
    read_done = subst (λ (m : Option Hit). Follows (StepOf (Removes path) m) (files d0) (files d1)) both.answered both.read

    stop_done : Steps moment images (Removes path answer) d0 d1
    stop_done = subst (λ (m : Option Hit). Steps moment images (StepOf (Removes path) m) d0 d1) both.answered both.stop

    pub done_stop : (d2 : D) → Leaves moment images (MayRemoveNote own) d1 d2 → Leaves moment images (MayUndo own path) d0 d2
    done_stop d2 run = runs_after moment images (MayUndo own path) (Removes path answer) (MayRemoveNote own) (MayUndo own path) d0 d1 d2 first stop_done.now run (λ d c step. step)
        (λ d e c mark step. (step.0, answer, in_part step.0 answer own path d e c mark step.1))
      where
        first : Leaves moment images (MayUndo own path) d0 d1
        first = goes_on moment images (Removes path answer) (MayUndo own path) d0 d0 d1 (started moment images (MayUndo own path) d0 (λ c now. (None, Other, inl refl))) stop_done
            (λ c now. let was = stop_done.now c now in (was.0, was.1, (None, answer, inr (inl was.2))))

    module _ (tells : Bool) (content : D → World) (reads : (d : D) (w : World) → files d w → (tells ≡ true) × (w ≡ content d)) (told : tells ≡ true → (d : D) → files d (content d)) where
      pub done_undoes : {E : Type 0} (d2 : D) (result : Result (Unit {0}) E) → Every (files d0) (λ w. UnmarkOf answer text (w.outside path)) → Every (files d1) (λ w. RemovesNote files moment images result (w.own own) own d1 d2)
          → Every (files d0) (λ w. (hit : Hit) → UnmarkOf hit text (w.outside path) → Undoes files moment images result (w.own own) hit own path d0 d2)
      done_undoes {E} d2 result says removes w read hit is =
          let on = forward tells content files reads told (Removes path answer) d0 d1 read_done w read in
          let as_before : on.0.own own ≡ w.own own = ap (λ (f : Files). f own) (own_stays answer path w on.0 on.2) in
          let gone : RemovesNote {E = E} files moment images result (w.own own) own d1 d2 = subst (λ (o : Option (List ℕ)). RemovesNote {E = E} files moment images result o own d1 d2) as_before (removes on.0 on.1) in
          subst (λ (h : Hit). Undoes {E = E} files moment images result (w.own own) h own path d0 d2) (one_answer answer hit text w path (says w read) is)
          (both_undone (w.own own) answer own path files moment images d0 d1 d2 result read_done stop_done gone)
