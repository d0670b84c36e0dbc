-- A note is cleared: what a read gives, and what a stop leaves.
use Rattle.std.proofs.Common.{◌≡◌, ◌≢◌, ◌⊎◌, inl, inr, ⊎_elim, ℕ, List, [], ◌∷◌, Option, Some, None, Result, Bool, true, false, refl, sym, ◌∙◌, ap, subst, arith}
use Rattle.std.specs.Prelude.{OnOk, option_map, unwrap_or}
use Rattle.std.specs.Str.{bytes_eq}
use Rattle.std.proofs.lemmas.Slice.Eq.{bytes_eq-Decides}
use Rattle.busy_marks.specs.Undoing.{Both, ClearsAs, IsUndone, MarkAtLeast, MarkGoes, MayUndo, Neither, NoteGoes, Undoes, UndoesInPart, UndoesSo, Undone, noted_path}
use Rattle.disk_model.specs.Answers.{Removes, UnmarkOf}
use Rattle.disk_model.specs.Changes.{Every, Follows, IsFree, Same}
use Rattle.disk_model.specs.Moments.{Leaves, Now, Steps}
use Rattle.disk_model.specs.World.{Files, OutFile, World}
use Rattle.disk_model.specs.declared.answers.Hit.{Hit}
use Rattle.disk_model.specs.declared.answers.Hit.TheVariants.{Done, Other}
use Rattle.disk_model.proofs.MomentLemmas.{goes_on, runs_on, started, weakened}
use Rattle.node_model.proofs.Lists.{none_some, off, some_inj}
use Rattle.node_store.specs.Clearing.{ClearsMarks, ClearsNotes, HoldsText, IsCleared, IsDropped, SameButNotes, SameOut}
use Rattle.node_store.specs.Keeping.{Beside}
use Rattle.node_store.specs.Names.{is_note}
use Rattle.node_store.proofs.Removing.{same_or_not}

-- One change after another.

pub clears-same : (text : List ℕ) (d c : World) → c ≡ d → ClearsNotes text d c
clears-same text d c same = subst (ClearsNotes text d) (sym same) (record {
  marks = record { outside = λ path. inl refl; notes = λ name note. inl refl };
  own = λ name other. refl;
  gifts = refl;
})

module _ (text : List ℕ) (d e c : World) where
  outside_then : ClearsMarks text d e → ClearsMarks text e c → (path : List ℕ) → (c.outside path ≡ d.outside path) ⊎ IsCleared text path d c
  outside_then x y path = go (x.outside path) (y.outside path)
    where
      -- the note that named it stood before
      earlier : (note : List ℕ) → is_note note ≡ true → e.own note ≡ Some path → (e.own note ≡ d.own note) ⊎ IsDropped text note d e → d.own note ≡ Some path
      earlier note named noted (inl same) = sym same ∙ noted
      earlier note named noted (inr dropped) = none_some (sym dropped.gone ∙ noted)

      go : (e.outside path ≡ d.outside path) ⊎ IsCleared text path d e → (c.outside path ≡ e.outside path) ⊎ IsCleared text path e c → (c.outside path ≡ d.outside path) ⊎ IsCleared text path d c
      go (inl p) (inl q) = inl (q ∙ p)
      go (inr p) (inl q) = inr (record { note = p.note; named = p.named; noted = p.noted; held = p.held; gone = q ∙ p.gone })
      go (inl p) (inr q) = inr (record {
        note = q.note;
        named = q.named;
        noted = earlier q.note q.named q.noted (x.notes q.note q.named);
        held = ap (option_map (λ (f : OutFile). f.bytes)) (sym p) ∙ q.held;
        gone = q.gone;
      })
      go (inr p) (inr q) = none_some (sym (ap (option_map (λ (f : OutFile). f.bytes)) p.gone) ∙ q.held)

  -- what is gone stays gone
  still_gone : ClearsMarks text e c → (path : List ℕ) → e.outside path ≡ None → c.outside path ≡ None
  still_gone y path none = go (y.outside path)
    where
      go : (c.outside path ≡ e.outside path) ⊎ IsCleared text path e c → c.outside path ≡ None
      go (inl same) = same ∙ none
      go (inr cleared) = cleared.gone

  notes_then : ClearsMarks text d e → ClearsMarks text e c → (name : List ℕ) → is_note name ≡ true → (c.own name ≡ d.own name) ⊎ IsDropped text name d c
  notes_then x y name note = go (x.notes name note) (y.notes name note)
    where
      last : (path : List ℕ) → IsDropped text name e c → e.own name ≡ Some path → path ≢ [] → HoldsText text path d → (e.outside path ≡ d.outside path) ⊎ IsCleared text path d e → c.outside path ≡ None
      last path q noted some held (inl same) = q.mark path noted some (ap (option_map (λ (f : OutFile). f.bytes)) same ∙ held)
      last path q noted some held (inr cleared) = still_gone y path cleared.gone

      still_free : (c.own name ≡ e.own name) ⊎ IsDropped text name e c → e.own name ≡ None → c.own name ≡ None
      still_free (inl same) none = same ∙ none
      still_free (inr dropped) none = dropped.gone

      go : (e.own name ≡ d.own name) ⊎ IsDropped text name d e → (c.own name ≡ e.own name) ⊎ IsDropped text name e c → (c.own name ≡ d.own name) ⊎ IsDropped text name d c
      go (inl p) (inl q) = inl (q ∙ p)
      go (inl p) (inr q) = inr (record { gone = q.gone; mark = λ path noted some held. last path q (p ∙ noted) some held (x.outside path) })
      go (inr p) q = inr (record { gone = still_free q p.gone; mark = λ path noted some held. still_gone y path (p.mark path noted some held) })

  pub marks-then : ClearsMarks text d e → ClearsMarks text e c → ClearsMarks text d c
  marks-then x y = record { outside = outside_then x y; notes = notes_then x y }

  pub clears-then : ClearsNotes text d e → ClearsNotes text e c → ClearsNotes text d c
  clears-then x y = record { marks = marks-then x.marks y.marks; own = λ name other. y.own name other ∙ x.own name other; gifts = y.gifts ∙ x.gifts }

-- One note, which is the same in what is read and in what a stop leaves.
module _ (text own : List ℕ) (note : is_note own ≡ true) (w : World) (hit : Hit) (is : ClearsAs hit (noted_path own w) text w) where
  abbrev path : List ℕ
  path = noted_path own w

  other_than : (name : List ℕ) → is_note name ≡ false → name ≢ own
  other_than name other same = off (sym note ∙ ap is_note (sym same) ∙ other)

  module _ (d c : World) (same_note : d.own own ≡ w.own own) (same_out : d.outside ≡ w.outside) where
    -- the note holds that path, which isn't empty
    noted : path ≢ [] → d.own own ≡ Some path
    noted some = same_note ∙ go (w.own own) refl
      where
        go : (o : Option (List ℕ)) → w.own own ≡ o → w.own own ≡ Some path
        go None none = absurd (some (ap (λ (x : Option (List ℕ)). unwrap_or x []) none))
        go (Some b) holds = holds ∙ ap Some (sym (ap (λ (x : Option (List ℕ)). unwrap_or x []) holds))

    held_there : UnmarkOf Done text (w.outside path) → HoldsText text path d
    held_there holds = ap (λ (f : List ℕ → Option OutFile). option_map (λ (x : OutFile). x.bytes) (f path)) same_out ∙ holds

    mark_cleared : MarkGoes hit path d.outside c.outside → (at : List ℕ) → (c.outside at ≡ d.outside at) ⊎ IsCleared text at d c
    mark_cleared gone at = go hit is gone (same_or_not at path)
      where
        go : (h : Hit) → ClearsAs h path text w → MarkGoes h path d.outside c.outside → (at ≡ path) ⊎ (at ≢ path) → (c.outside at ≡ d.outside at) ⊎ IsCleared text at d c
        go Done says step (inl here) = inr (subst (λ (p : List ℕ). IsCleared text p d c) (sym here) (record { note = own; named = note; noted = noted says.0; held = held_there says.1; gone = step.here }))
        go Done says step (inr other) = inl (step.others at other)
        go Other says same where_at = inl (ap (λ (f : List ℕ → Option OutFile). f at) same)

    -- the mark went
    mark_alone : Removes path hit d c → ClearsNotes text d c
    mark_alone step = record {
      marks = record { outside = mark_cleared (outside_of hit step); notes = λ name named. inl (ap (λ (f : Files). f name) (own_of hit step)) };
      own = λ name other. ap (λ (f : Files). f name) (own_of hit step);
      gifts = gifts_of hit step;
    }
      where
        own_of : (h : Hit) → Removes path h d c → c.own ≡ d.own
        own_of Done step = step.own
        own_of Other same = ap (λ (v : World). v.own) same

        outside_of : (h : Hit) → Removes path h d c → MarkGoes h path d.outside c.outside
        outside_of Done step = step.outside
        outside_of Other same = ap (λ (v : World). v.outside) same

        gifts_of : (h : Hit) → Removes path h d c → c.gifts ≡ d.gifts
        gifts_of Done step = step.gifts
        gifts_of Other same = ap (λ (v : World). v.gifts) same

    -- and so did the note
    others_stay : (stood : Option (List ℕ)) → NoteGoes stood own d.own c.own → (name : List ℕ) → name ≢ own → c.own name ≡ d.own name
    others_stay (Some b) gone = gone.others
    others_stay None same = λ name other. ap (λ (f : Files). f name) same

    mark_too : IsUndone (w.own own) hit own path d c → (at : List ℕ) → d.own own ≡ Some at → at ≢ [] → HoldsText text at d → c.outside at ≡ None
    mark_too undone at holds some held =
        let here : at ≡ path = ap (λ (x : Option (List ℕ)). unwrap_or x []) (sym holds ∙ same_note) in
        ap c.outside here ∙ go hit is undone.mark_gone (λ none. some (here ∙ none)) (ap (λ (f : List ℕ → Option OutFile). option_map (λ (x : OutFile). x.bytes) (f path)) (sym same_out) ∙ ap (λ (p : List ℕ). option_map (λ (x : OutFile). x.bytes) (d.outside p)) (sym here) ∙ held)
      where
        go : (h : Hit) → ClearsAs h path text w → MarkGoes h path d.outside c.outside → path ≢ [] → UnmarkOf Done text (w.outside path) → c.outside path ≡ None
        go Done says step some holds = step.here
        go Other (inl empty) same some holds = absurd (some empty)
        go Other (inr other) same some holds = absurd (other holds)

    both_gone : IsUndone (w.own own) hit own path d c → ClearsNotes text d c
    both_gone undone = record {
      marks = record { outside = mark_cleared undone.mark_gone; notes = λ name named. at name (same_or_not name own) };
      own = λ name other. others_stay (w.own own) undone.note_gone name (other_than name other);
      gifts = undone.gifts;
    }
      where
        here : (o : Option (List ℕ)) → w.own own ≡ o → NoteGoes o own d.own c.own → (c.own own ≡ d.own own) ⊎ IsDropped text own d c
        here None none same = inl (ap (λ (f : Files). f own) same)
        here (Some b) some gone = inr (record { gone = gone.here; mark = mark_too undone })

        at : (name : List ℕ) → (name ≡ own) ⊎ (name ≢ own) → (c.own name ≡ d.own name) ⊎ IsDropped text name d c
        at name (inl same) = subst (λ (n : List ℕ). (c.own n ≡ d.own n) ⊎ IsDropped text n d c) (sym same) (here (w.own own) refl undone.note_gone)
        at name (inr other) = inl (others_stay (w.own own) undone.note_gone name other)

    pub part_clears : UndoesInPart (w.own own) hit own path d c → ClearsNotes text d c
    part_clears (inl same) = clears-same text d c same
    part_clears (inr (inl step)) = mark_alone step
    part_clears (inr (inr undone)) = both_gone undone

    pub so_clears : (made : Undone) → UndoesSo (w.own own) hit own path made d c → ClearsNotes text d c
    so_clears Neither same = part_clears (inl same)
    so_clears MarkAtLeast step = part_clears (inr step)
    so_clears Both undone = part_clears (inr (inr undone))

    pub note_free : IsUndone (w.own own) hit own path d c → c.own own ≡ None
    note_free undone = go (w.own own) refl undone.note_gone
      where
        go : (o : Option (List ℕ)) → w.own own ≡ o → NoteGoes o own d.own c.own → c.own own ≡ None
        go None none same = ap (λ (f : Files). f own) same ∙ same_note ∙ none
        go (Some b) some gone = gone.here

  -- what was the same outside goes on being
  pub same_after : (f f' c c' : World) → SameOut f c → MarkGoes hit path f.outside f'.outside → MarkGoes hit path c.outside c'.outside → SameOut f' c'
  same_after f f' c c' same read left = go hit read left
    where
      go : (h : Hit) → MarkGoes h path f.outside f'.outside → MarkGoes h path c.outside c'.outside → c'.outside ≡ f'.outside
      go Other read left = left ∙ same ∙ sym read
      go Done read left = λ i at. each at (same_or_not at path) i
        where
          each : (at : List ℕ) → (at ≡ path) ⊎ (at ≢ path) → c'.outside at ≡ f'.outside at
          each at (inl here) = ap c'.outside here ∙ left.here ∙ sym (ap f'.outside here ∙ read.here)
          each at (inr other) = left.others at other ∙ ap (λ (o : List ℕ → Option OutFile). o at) same ∙ sym (read.others at other)

-- whether the path that a note holds is that of a mark with the text
decide : (text own : List ℕ) (w : World) → (hit : Hit) × ClearsAs hit (noted_path own w) text w
decide text own w = go (noted_path own w) refl
  where
    holds : (file : Option OutFile) → UnmarkOf Done text file ⊎ UnmarkOf Other text file
    holds None = inr (λ same. none_some same)
    holds (Some f) = judge (bytes_eq f.bytes text) refl
      where
        judge : (b : Bool) → bytes_eq f.bytes text ≡ b → UnmarkOf Done text (Some f) ⊎ UnmarkOf Other text (Some f)
        judge true same = inl (ap Some ((bytes_eq-Decides f.bytes text).0 same))
        judge false other = inr (λ same. off (sym ((bytes_eq-Decides f.bytes text).1 (some_inj same)) ∙ other))

    go : (path : List ℕ) → noted_path own w ≡ path → (hit : Hit) × ClearsAs hit path text w
    go [] empty = (Other, inl refl)
    go (byte ∷ rest) is = ⊎_elim
        (λ (yes : UnmarkOf Done text (w.outside (byte ∷ rest))). (Done, ((λ same. absurd (cc same)), yes)))
        (λ (no_mark : UnmarkOf Other text (w.outside (byte ∷ rest))). (Other, inr no_mark))
        (holds (w.outside (byte ∷ rest)))

-- one call that changes nothing
pub run_of : {D : Type 0} (moment : D → ℕ) (images : D → ℕ → World → Type 0) (a b : D) → Steps moment images Same a b → Leaves moment images Same a b
run_of moment images a b call = goes_on moment images Same Same a a b (started moment images Same a (λ c now. refl)) call (λ c now. call.now c now)

-- The call, after the note was made durable.
module _ {D : Type 0} (tells : Bool) (content : D → World) (files : D → World → Type 0) (moment : D → ℕ) (images : D → ℕ → World → Type 0) (reads : (d : D) (w : World) → files d w → (tells ≡ true) × (w ≡ content d)) (told : tells ≡ true → (d : D) → files d (content d))
    (text own : List ℕ) (note : is_note own ≡ true) (old mid new : D) (same : Every (files mid) (files old)) (quiet : Leaves moment images Same old mid) (outside : Beside files moment images SameOut old) where
  mid_outside : Beside files moment images SameOut mid
  mid_outside = record {
    both = λ f c read now.
        let was = quiet.each (moment mid) c quiet.grew.later (omega arith) now in
        outside.both f c (same f read) (subst (λ (v : World). images old (moment old) v) (sym was.2) was.1);
  }

  mid_leaves : Leaves moment images (ClearsNotes text) old mid
  mid_leaves = weakened moment images Same (ClearsNotes text) old mid (λ d c now is. clears-same text d c is) quiet

  -- the disk failed before
  pub sync_failed_read : Follows (ClearsNotes text) (files old) (files mid)
  sync_failed_read f read = (f, same f read, clears-same text f f refl)

  pub sync_failed_stop : Leaves moment images (ClearsNotes text) old mid
  sync_failed_stop = mid_leaves

  pub quiet_aside : Leaves moment images SameButNotes old mid
  quiet_aside = weakened moment images Same SameButNotes old mid (λ d c now is name other. ap (λ (v : World). v.own name) is) quiet

  module _ {E : Type 0} (durable : Follows (λ (f c : World). c.own own ≡ f.own own) (files old) (Now moment images mid)) (result : Result (Unit {0}) E)
      (undoes : Every (files mid) (λ w. (hit : Hit) → ClearsAs hit (noted_path own w) text w → Undoes files moment images result (w.own own) hit own (noted_path own w) mid new))
      (may : Leaves moment images (λ d c. (path : List ℕ) × MayUndo own path d c) mid new) where
    -- a stop now leaves of the note what is read
    note_same : (f c : World) → files mid f → Now moment images mid c → c.own own ≡ f.own own
    note_same f c read now =
        let was = durable c now in
        was.2 ∙ ap (λ (v : World). v.own own) ((reads old was.0 was.1).1 ∙ sym (reads old f (same f read)).1)

    module _ (w : World) (read : files mid w) where
      abbrev hit : Hit
      hit = (decide text own w).0

      says : ClearsAs hit (noted_path own w) text w
      says = (decide text own w).1

      gone : Undoes files moment images result (w.own own) hit own (noted_path own w) mid new
      gone = undoes w read hit says

      is_read : (d : World) → files mid d → d ≡ w
      is_read d now = (reads mid d now).1 ∙ sym (reads mid w read).1

      read_clears : (f : World) → files new f → (d : World) × files mid d × ClearsNotes text d f
      read_clears f now =
          let was = gone.ends.read f now in
          let at = is_read was.0 was.1 in
          (was.0, was.1, so_clears text own note w hit says was.0 f (ap (λ (v : World). v.own own) at) (ap (λ (v : World). v.outside) at) gone.ends.made was.2)

      stop_clears : Leaves moment images (ClearsNotes text) mid new
      stop_clears = weakened moment images (UndoesInPart (w.own own) hit own (noted_path own w)) (ClearsNotes text) mid new
          (λ d c now step. part_clears text own note w hit says d c (note_same w d read now) (mid_outside.both w d read now) step) gone.stop

    back : (f : World) → files new f → files mid (content mid)
    back f read = told (reads new f read).0 mid

    pub cleared_read : Follows (ClearsNotes text) (files old) (files new)
    cleared_read f read =
        let was = read_clears (content mid) (back f read) f read in
        (was.0, same was.0 was.1, was.2)

    pub cleared_stop : tells ≡ true → Leaves moment images (ClearsNotes text) old new
    cleared_stop t = runs_on moment images (ClearsNotes text) (ClearsNotes text) (ClearsNotes text) old mid new mid_leaves (stop_clears (content mid) (told t mid)) (λ d c now step. step) (λ d e c now left first second. clears-then text d e c first second)

    may_aside : (d c : World) → (path : List ℕ) × MayUndo own path d c → SameButNotes d c
    may_aside d c (at, (stood, h, step)) name other = go h step
      where
        apart : name ≢ own
        apart is = off (sym note ∙ ap is_note (sym is) ∙ other)

        went : (s : Option (List ℕ)) → NoteGoes s own d.own c.own → c.own name ≡ d.own name
        went (Some b) put = put.others name apart
        went None is = ap (λ (f : Files). f name) is

        go : (h : Hit) → UndoesInPart stood h own at d c → c.own name ≡ d.own name
        go h (inl is) = ap (λ (v : World). v.own name) is
        go Done (inr (inl step)) = ap (λ (f : Files). f name) step.own
        go Other (inr (inl is)) = ap (λ (v : World). v.own name) is
        go h (inr (inr undone)) = went stood undone.note_gone

    pub cleared_aside : Leaves moment images SameButNotes old new
    cleared_aside = runs_on moment images SameButNotes (λ d c. (path : List ℕ) × MayUndo own path d c) SameButNotes old mid new quiet_aside may (λ d c now step. step) (λ d e c now left first second name other. may_aside e c second name other ∙ first name other)

    -- what is left at Ok
    module _ (done : (made : Undone) → OnOk result (made ≡ Both) → made ≡ Both) where
      module _ (w : World) (read : files mid w) where
        both_read : (f : World) → files new f → (d : World) × files mid d × IsUndone (w.own own) (hit w read) own (noted_path own w) d f
        both_read f now =
            let was = (gone w read).ends.read f now in
            (was.0, was.1, subst (λ (m : Undone). UndoesSo (w.own own) (hit w read) own (noted_path own w) m was.0 f) (done (gone w read).ends.made (gone w read).ends.answered) was.2)

        both_left : (c : World) → Now moment images new c → (d : World) × Now moment images mid d × IsUndone (w.own own) (hit w read) own (noted_path own w) d c
        both_left c now =
            let was = (gone w read).ends.left c now in
            (was.0, was.1, subst (λ (m : Undone). UndoesSo (w.own own) (hit w read) own (noted_path own w) m was.0 c) (done (gone w read).ends.made (gone w read).ends.answered) was.2)

      pub cleared_gone : Every (files new) (IsFree own)
      cleared_gone f read =
          let w = content mid in
          let now = back f read in
          let was = both_read w now f read in
          let at = is_read w now was.0 was.1 in
          note_free text own note w (hit w now) (says w now) was.0 f (ap (λ (v : World). v.own own) at) (ap (λ (v : World). v.outside) at) was.2

      pub cleared_outside : Beside files moment images SameOut new
      cleared_outside = record {
        both = λ f c read image.
            let w = content mid in
            let now = back f read in
            let x = both_read w now f read in
            let y = both_left w now c image in
            same_after text own note w (hit w now) (says w now) x.0 f y.0 c (mid_outside.both x.0 y.0 x.1 y.1) x.2.mark_gone y.2.mark_gone;
      }
