-- A note is read, and what it names is undone.
use Rattle.std.proofs.Common.{◌≡◌, inl, inr, ℕ, List, [], ◌∷◌, Option, Bool, true, false, Result, refl, sym, ap, subst, arith}
use Rattle.std.specs.Prelude.{OnOk, nat_eq, length}
use Rattle.std.proofs.lemmas.Bool.{eqb-true, eqb-false}
use Rattle.disk_model.specs.World.{World}
use Rattle.disk_model.specs.Answers.{UnmarkOf}
use Rattle.disk_model.specs.Changes.{Every, Same}
use Rattle.disk_model.specs.Moments.{Leaves}
use Rattle.disk_model.specs.declared.answers.Hit.{Hit}
use Rattle.disk_model.specs.declared.answers.Hit.TheVariants.{Done, Other}
use Rattle.disk_model.proofs.MomentLemmas.{runs_on}
use Rattle.busy_marks.specs.Undoing.{UndoesInPart, UndoesSo, Undone, Both, Undoes, RemovesNote, ClearsAs, noted_path}
use Rattle.busy_marks.proofs.Runs.{stays, at_end}
use Rattle.busy_marks.proofs.UndoLemmas.{note_alone}

-- An empty path is that of no mark.

no_bytes : (path : List ℕ) → nat_eq (length path) 0 ≡ true → path ≡ []
no_bytes [] empty = refl
no_bytes (byte ∷ rest) empty =
    let none : length (byte ∷ rest) ≡ 0 = eqb-true (length (byte ∷ rest)) 0 empty in
    absurd (omega arith)

pub clears_empty : {D E : Type 0} (files : D → World → Type 0) (moment : D → ℕ) (images : D → ℕ → World → Type 0) (result : Result (Unit {0}) E) (own path text : List ℕ) (d0 d1 : D) → nat_eq (length path) 0 ≡ true
    → Every (files d0) (λ w. RemovesNote files moment images result (w.own own) own d0 d1)
    → Every (files d0) (λ w. (hit : Hit) → ClearsAs hit path text w → Undoes files moment images result (w.own own) hit own path d0 d1)
clears_empty files moment images result own path text d0 d1 empty removes w read Done says = absurd (says.0 (no_bytes path empty))
clears_empty files moment images result own path text d0 d1 empty removes w read Other says = note_alone files moment images result (w.own own) own path d0 d1 (removes w read)

pub clears_path : {D E : Type 0} (files : D → World → Type 0) (moment : D → ℕ) (images : D → ℕ → World → Type 0) (result : Result (Unit {0}) E) (own path text : List ℕ) (d0 d1 : D) → nat_eq (length path) 0 ≡ false
    → Every (files d0) (λ w. (hit : Hit) → UnmarkOf hit text (w.outside path) → Undoes files moment images result (w.own own) hit own path d0 d1)
    → Every (files d0) (λ w. (hit : Hit) → ClearsAs hit path text w → Undoes files moment images result (w.own own) hit own path d0 d1)
clears_path files moment images result own path text d0 d1 full undoes w read Done says = undoes w read Done says.1
clears_path files moment images result own path text d0 d1 full undoes w read Other (inl empty) = absurd (eqb-false (length path) 0 full (ap length empty))
clears_path files moment images result own path text d0 d1 full undoes w read Other (inr says) = undoes w read Other says

-- After the reading of the note, which changed nothing.
module _ {D : Type 0} (files : D → World → Type 0) (moment : D → ℕ) (images : D → ℕ → World → Type 0) (own text : List ℕ) (d0 d1 : D) (same : Every (files d1) (files d0)) (run : Leaves moment images Same d0 d1) where
  after_same : (T : World → World → Type 0) → ((c : World) → T c c) → (d2 : D) → Leaves moment images T d1 d2 → Leaves moment images T d0 d2
  after_same T id d2 second = runs_on moment images Same T T d0 d1 d2 run second (λ d c now is. subst (λ (w : World). T d w) (sym is) (id d))
      (λ d e c before mid is step. subst (λ (w : World). T w c) is step)

  -- and what was undone then
  module _ {E F : Type 0} (tells : Bool) (content : D → World) (reads : (d : D) (w : World) → files d w → (tells ≡ true) × (w ≡ content d)) (told : tells ≡ true → (d : D) → files d (content d))
      (path : List ℕ) (d2 : D) (first : Result (Unit {0}) E) (result : Result (Unit {0}) F) (fits : (made : Undone) → OnOk first (made ≡ Both) → OnOk result (made ≡ Both)) where
    undone_then : (stood : Option (List ℕ)) (hit : Hit) → Undoes files moment images first stood hit own path d1 d2 → Undoes files moment images result stood hit own path d0 d2
    undone_then stood hit undoes = record {
      stop = after_same (UndoesInPart stood hit own path) (λ c. inl refl) d2 undoes.stop;
      ends = record {
        made = undoes.ends.made;
        answered = fits undoes.ends.made undoes.ends.answered;
        read = λ c now. let was = undoes.ends.read c now in (was.0, same was.0 was.1, was.2);
        left = λ c now.
            let was = undoes.ends.left c now in
            let before = at_end moment images Same d0 d1 run was.0 was.1 in
            (before.0, before.1, subst (λ (w : World). UndoesSo stood hit own path undoes.ends.made w c) before.2 was.2);
      };
    }

    pub clears : Every (files d0) (λ w. path ≡ noted_path own w) → Every (files d1) (λ w. (hit : Hit) → ClearsAs hit path text w → Undoes files moment images first (w.own own) hit own path d1 d2)
        → Every (files d0) (λ w. (hit : Hit) → ClearsAs hit (noted_path own w) text w → Undoes files moment images result (w.own own) hit own (noted_path own w) d0 d2)
    clears names undoes w read hit says =
        let is = names w read in
        subst (λ (p : List ℕ). Undoes files moment images result (w.own own) hit own p d0 d2) is
        (undone_then (w.own own) hit (undoes w (stays tells content files reads told d0 d1 same w read) hit (subst (λ (p : List ℕ). ClearsAs hit p text w) (sym is) says)))
