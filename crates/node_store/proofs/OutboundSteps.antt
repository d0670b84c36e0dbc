-- What the calls on marks do to a world, in the store's words.
use Rattle.std.proofs.Common.{◌≡◌, ◌≢◌, inl, inr, ℕ, List, Option, Some, None, Bool, true, false, refl, sym, ◌∙◌, ap}
use Rattle.std.specs.Prelude.{is_none, option_map, if◌then◌else◌}
use Rattle.std.specs.Str.{bytes_eq}
use Rattle.std.proofs.lemmas.Slice.Eq.{bytes_eq-Decides}
use Rattle.busy_marks.specs.Marking.{IsMarked}
use Rattle.busy_marks.specs.Undoing.{IsUndone, MarkGoes, NoteGoes, UndoesInPart}
use Rattle.disk_model.specs.Answers.{Removes, UnmarkOf}
use Rattle.disk_model.specs.Changes.{Only, Puts}
use Rattle.disk_model.specs.World as W
use Rattle.disk_model.specs.World.{Files, World}
use Rattle.disk_model.specs.declared.answers.Hit.{Hit}
use Rattle.disk_model.specs.declared.answers.Hit.TheVariants.{Done, Other}
use Rattle.node_model.specs.Outside.{OutFile, put_at}
use Rattle.node_model.proofs.Lists.{off, some_inj, none_some}
use Rattle.node_store.specs.Names.{is_note}
use Rattle.node_store.specs.OutboundMarks.{has_text, mark_gone, mark_made}
use Rattle.node_store.specs.Taking.{Around}
use Rattle.node_store.specs.Worlds.{out_file_of, outside_in, takes_in}
use Rattle.node_store.proofs.NoteNames.{note_beside, note_takes}
use Rattle.node_store.proofs.TakeCall.{TakesOne}
use Rattle.node_store.proofs.TakeWorld.{IsBeside, around_in}

-- the same is outside
same_outside : (d c : World) → c.outside ≡ d.outside → outside_in c ≡ outside_in d
same_outside d c same = ap (λ (f : List ℕ → Option W.OutFile). outside_in (record d { outside = f })) same

-- one path has another file
put_outside : (path : List ℕ) (file : Option W.OutFile) (d c : World) → Puts path file d.outside c.outside → outside_in c ≡ put_at path (option_map out_file_of file) (outside_in d)
put_outside path file d c step = λ i at. go at (bytes_eq at path) refl i
  where
    go : (at : List ℕ) (b : Bool) → bytes_eq at path ≡ b → option_map out_file_of (c.outside at) ≡ (if b then option_map out_file_of file else option_map out_file_of (d.outside at))
    go at true same = ap (λ (p : List ℕ). option_map out_file_of (c.outside p)) ((bytes_eq-Decides at path).0 same) ∙ ap (option_map out_file_of) step.here
    go at false other = ap (option_map out_file_of) (step.others at (λ same. off (sym ((bytes_eq-Decides at path).1 same) ∙ other)))

same_around : (d c : World) → takes_in c ≡ takes_in d → outside_in c ≡ outside_in d → around_in c ≡ around_in d
same_around d c takes outside = λ i. record { takes = takes i; outside = outside i }

-- Marking.

module _ (tells : Bool) (own : List ℕ) (note : is_note own ≡ true) where
  pub only_one : (d c : World) → Only own d c → TakesOne tells (λ a. a) d c
  only_one d c only = record {
    one = note_beside own note d c only.others only.gifts;
    is = λ t. same_around d c (note_takes own note d c only.others) (same_outside d c only.outside);
  }

  module _ (path text : List ℕ) (time : ℕ) where
    marked_beside : (d c : World) → IsMarked own path text time d c → IsBeside d c
    marked_beside d c marked = note_beside own note d c marked.noted.others marked.gifts

    pub marked_takes : (d c : World) → IsMarked own path text time d c → takes_in c ≡ takes_in d
    marked_takes d c marked = note_takes own note d c marked.noted.others

    pub marked_one : (d c : World) → (tells ≡ true → outside_in d path ≡ None) → IsMarked own path text time d c → TakesOne tells (mark_made path text time) d c
    marked_one d c free marked = record { one = marked_beside d c marked; is = λ t. made ∙ sym (here (free t)) }
      where
        after : Around
        after = record { takes = takes_in d; outside = put_at path (Some (record { bytes = text; time = time })) (outside_in d) }

        made : around_in c ≡ after
        made =
            let takes = marked_takes d c marked in
            let outside = put_outside path (Some (record { bytes = text; time = time })) d c marked.marked in
            λ i. record { takes = takes i; outside = outside i }

        here : outside_in d path ≡ None → mark_made path text time (around_in d) ≡ after
        here none = ap (λ (o : Option OutFile). if is_none o then after else around_in d) none

-- Unmarking.

-- whether the file holds the text
abbrev pub is_done : Hit → Bool
is_done Done = true
is_done Other = false

pub text_told : (hit : Hit) (text : List ℕ) (file : Option W.OutFile) → UnmarkOf hit text file → has_text text (option_map out_file_of file) ≡ is_done hit
text_told Done text None is = none_some is
text_told Done text (Some f) is = (bytes_eq-Decides f.bytes text).1 (some_inj is)
text_told Other text None is = refl
text_told Other text (Some f) is = go (bytes_eq f.bytes text) refl
  where
    go : (b : Bool) → bytes_eq f.bytes text ≡ b → b ≡ false
    go true same = absurd (is (ap Some ((bytes_eq-Decides f.bytes text).0 same)))
    go false other = refl

module _ (tells : Bool) (own : List ℕ) (note : is_note own ≡ true) (path text : List ℕ) (hit : Hit) where
  went : (d c : World) → has_text text (outside_in d path) ≡ is_done hit → takes_in c ≡ takes_in d → MarkGoes hit path d.outside c.outside → around_in c ≡ mark_gone path text tt (around_in d)
  went d c is takes gone = go hit is gone
    where
      after : Around
      after = record { takes = takes_in d; outside = put_at path None (outside_in d) }

      go : (h : Hit) → has_text text (outside_in d path) ≡ is_done h → MarkGoes h path d.outside c.outside → around_in c ≡ (if has_text text (outside_in d path) then after else around_in d)
      go Done has step =
          let outside = put_outside path None d c step in
          let made : around_in c ≡ after = λ i. record { takes = takes i; outside = outside i } in
          made ∙ sym (ap (λ (b : Bool). if b then after else around_in d) has)
      go Other has same = same_around d c takes (same_outside d c same) ∙ sym (ap (λ (b : Bool). if b then after else around_in d) has)

  note_went : (stood : Option (List ℕ)) (old new : Files) → NoteGoes stood own old new → (n : List ℕ) → n ≢ own → new n ≡ old n
  note_went (Some bytes) old new gone = gone.others
  note_went None old new same = λ n other. ap (λ (f : Files). f n) same

  mark_went : (d c : World) → Removes path hit d c → (c.own ≡ d.own) × (c.gifts ≡ d.gifts) × MarkGoes hit path d.outside c.outside
  mark_went d c step = go hit step
    where
      go : (h : Hit) → Removes path h d c → (c.own ≡ d.own) × (c.gifts ≡ d.gifts) × MarkGoes h path d.outside c.outside
      go Done step = (step.own, step.gifts, step.outside)
      go Other same = (ap (λ (w : World). w.own) same, ap (λ (w : World). w.gifts) same, ap (λ (w : World). w.outside) same)

  module _ (d c : World) (is : tells ≡ true → has_text text (outside_in d path) ≡ is_done hit) where
    pub removed_mark : Removes path hit d c → TakesOne tells (mark_gone path text tt) d c
    removed_mark step =
        let w = mark_went d c step in
        let others : (n : List ℕ) → n ≢ own → c.own n ≡ d.own n = λ n other. ap (λ (f : Files). f n) w.0 in
        record { one = note_beside own note d c others w.1; is = λ t. went d c (is t) (note_takes own note d c others) w.2 }

    pub undone_mark : (stood : Option (List ℕ)) → IsUndone stood hit own path d c → TakesOne tells (mark_gone path text tt) d c
    undone_mark stood undone =
        let others = note_went stood d.own c.own undone.note_gone in
        record { one = note_beside own note d c others undone.gifts; is = λ t. went d c (is t) (note_takes own note d c others) undone.mark_gone }

  pub undone_takes : (stood : Option (List ℕ)) (d c : World) → UndoesInPart stood hit own path d c → takes_in c ≡ takes_in d
  undone_takes stood d c (inl same) = ap takes_in same
  undone_takes stood d c (inr (inl step)) = note_takes own note d c (λ n other. ap (λ (f : Files). f n) (mark_went d c step).0)
  undone_takes stood d c (inr (inr undone)) = note_takes own note d c (note_went stood d.own c.own undone.note_gone)
