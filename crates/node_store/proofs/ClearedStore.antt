-- Notes of marks were cleared: the disk of a store goes on opening to the same.
use Rattle.std.proofs.Common.{◌≡◌, ◌⊎◌, inl, inr, ℕ, ◌+◌, ◌<◌, ◌≤◌, List, ◌∷◌, length, drop, get_or, Option, Some, None, Bool, true, false, refl, sym, ◌∙◌, ap, subst, arith}
use Rattle.std.specs.Prelude.{option_map}
use Rattle.std.proofs.lemmas.List.{at_drop_all, at_drop_more}
use Rattle.disk_model.specs.Changes.{Every, Follows, IsFree, Same, SameAt, Stands}
use Rattle.disk_model.specs.Folders.{ListsFiles}
use Rattle.disk_model.specs.Moments.{Leaves, Now}
use Rattle.disk_model.specs.World as W
use Rattle.disk_model.specs.World.{World}
use Rattle.disk_model.proofs.MomentLemmas.{runs_on, started, weakened}
use Rattle.ledger_file.specs.Ledger.{ledger_name}
use Rattle.ledger_rec.specs.Fold.{State}
use Rattle.ledger_rec.specs.Items.{Entry, PartMark, Receipt}
use Rattle.node_model.specs.Lists.{Member}
use Rattle.node_model.specs.StoreStates.{Shelf}
use Rattle.node_model.proofs.Lists.{none_some}
use Rattle.node_store.specs.Books.{Books}
use Rattle.node_store.specs.Clearing.{ClearsMarks, ClearsNotes, HasNoNote, HasNotesAmong, IsCleared, IsDropped, Restores, SameButNotes, SameOut}
use Rattle.node_store.specs.Finding.{IsFound}
use Rattle.node_store.specs.Keeping.{Beside}
use Rattle.node_store.specs.Names.{in_name, is_note, out_name, take_number}
use Rattle.node_store.specs.Opening.{IsTidied, Recovers}
use Rattle.node_store.specs.Strays.{HasNoStray}
use Rattle.node_store.specs.Takes.{AreStanding, Takes, own_names}
use Rattle.node_store.specs.Tending.{HasCutParts, HasSameFront, IsTended, Mirrors}
use Rattle.node_store.specs.Worlds.{HasLength, LedgerOf, out_file_of, shelf_in, takes_in}
use Rattle.node_store.proofs.Alike.{all_by, takes_alike}
use Rattle.node_store.proofs.ClearedNotes.{clears-same, clears-then, marks-then}
use Rattle.node_store.proofs.ListedItems.{contained}
use Rattle.node_store.proofs.NoteNames.{in_no_note, ledger_no_note, note_no_take, out_no_note}
use Rattle.node_store.proofs.Opened.{given_recovered}
use Rattle.node_store.proofs.Recovering.{recovers-refl, recovers-then}
use Rattle.node_store.proofs.TakeWorld.{IsBeside, files_stay, ledger_stays, shelf_same}

-- a take's name is no note's
take_no_note : (name : List ℕ) (take : ℕ) → take_number name ≡ Some take → is_note name ≡ false
take_no_note name take is = go (is_note name) refl
  where
    go : (b : Bool) → is_note name ≡ b → is_note name ≡ false
    go true note = none_some (sym (note_no_take name note) ∙ is)
    go false other = other

-- the ledger and the files of numbers are the same
pub aside_beside : (d c : World) → SameButNotes d c → c.gifts ≡ d.gifts → IsBeside d c
aside_beside d c own gifts = record {
  ledger = own ledger_name ledger_no_note;
  outs = λ n. own (out_name n) (out_no_note n);
  ins = λ n. own (in_name n) (in_no_note n);
  gifts = gifts;
}

pub aside_takes : (d c : World) → SameButNotes d c → takes_in c ≡ takes_in d
aside_takes d c own = takes_alike d c (λ name take is. own name (take_no_note name take is))

module _ (text : List ℕ) (d c : World) (clears : ClearsNotes text d c) where
  beside : IsBeside d c
  beside = aside_beside d c clears.own clears.gifts

  -- what stands stood
  stood : (name bytes : List ℕ) → c.own name ≡ Some bytes → d.own name ≡ Some bytes
  stood name bytes is = go (is_note name) refl
    where
      noted : (c.own name ≡ d.own name) ⊎ IsDropped text name d c → d.own name ≡ Some bytes
      noted (inl same) = sym same ∙ is
      noted (inr dropped) = none_some (sym dropped.gone ∙ is)

      go : (b : Bool) → is_note name ≡ b → d.own name ≡ Some bytes
      go true note = noted (clears.marks.notes name note)
      go false other = sym (clears.own name other) ∙ is

  ledger_then : (payloads : List (List ℕ)) → LedgerOf payloads d → LedgerOf payloads c
  ledger_then payloads (inl ledger) = inl (ledger_stays d c beside payloads ledger)
  ledger_then payloads (inr none) = inr (beside.ledger ∙ none.0, none.1)

  outside_may : (path : List ℕ) → (c.outside path ≡ d.outside path) ⊎ IsCleared text path d c → (option_map out_file_of (c.outside path) ≡ option_map out_file_of (d.outside path)) ⊎ (option_map out_file_of (c.outside path) ≡ None)
  outside_may path (inl same) = inl (ap (option_map out_file_of) same)
  outside_may path (inr cleared) = inr (ap (option_map out_file_of) cleared.gone)

  tidied : (s : State) → IsTidied (shelf_in d s) (shelf_in c s)
  tidied s =
      let same = shelf_same d c beside s in
      let takes = aside_takes d c clears.own in
      record {
        state = ap (λ (x : Shelf). x.state) same;
        recorded = refl;
        outside = λ path. outside_may path (clears.marks.outside path);
        gifts = ap (λ (x : Shelf). x.gifts) same;
        takes = λ name. inl (ap (λ (f : List ℕ → Option (List ℕ)). f name) takes);
      }

  pub clears_recovers : Recovers d c
  clears_recovers = λ shelf opens. (
    shelf_in c opens.state,
    record { payloads = opens.payloads; ledger = ledger_then opens.payloads opens.ledger; state = opens.state; folds = opens.folds; files = files_stay d c beside opens.state opens.files; is = refl },
    subst (λ (x : Shelf). IsTidied x (shelf_in c opens.state)) (sym opens.is) (tidied opens.state),
  )

  strays_then : (s : State) → HasNoStray s d → HasNoStray s c
  strays_then s none name bytes is stray = none name bytes (stood name bytes is) stray

  parts_then : (s : State) → HasCutParts s d → HasCutParts s c
  parts_then s cut = all_by (λ (m : PartMark). HasLength (in_name m.number) m.len d) (λ (m : PartMark). HasLength (in_name m.number) m.len c) (λ m f. (f.0, beside.ins m.number ∙ f.1, f.2)) s.marks cut

  -- the note with that name is gone
  pub notes_fewer : (name : List ℕ) (names : List (List ℕ)) → (is_note name ≡ true → c.own name ≡ None) → HasNotesAmong (name ∷ names) d → HasNotesAmong names c
  notes_fewer name names free among other bytes is note = go (among other bytes (stood other bytes is) note)
    where
      go : (other ≡ name) ⊎ Member other names → Member other names
      go (inl same) = none_some (sym (free (ap is_note (sym same) ∙ note)) ∙ ap c.own (sym same) ∙ is)
      go (inr there) = there

-- whether a file stands
pub stands_there : (name : List ℕ) (w : World) (answer : Option ℕ) (len : ℕ) → answer ≡ Some len → answer ≡ option_map length (w.own name) → Stands name 0 w
stands_there name w answer len is told = go (w.own name) refl (sym is ∙ told)
  where
    go : (o : Option (List ℕ)) → w.own name ≡ o → Some len ≡ option_map length o → Stands name 0 w
    go None none e = none_some (sym e)
    go (Some bytes) some e = (bytes, some, omega arith)

pub note_absent : (name : List ℕ) (w : World) (answer : Option ℕ) → answer ≡ None → answer ≡ option_map length (w.own name) → w.own name ≡ None
note_absent name w answer is told = go (w.own name) refl (sym is ∙ told)
  where
    go : (o : Option (List ℕ)) → w.own name ≡ o → None ≡ option_map length o → w.own name ≡ None
    go None none e = none
    go (Some bytes) some e = none_some e

-- all notes are among the names that a disk lists
pub notes_listed : (names : List (List ℕ)) (w : World) → ListsFiles w.own names → HasNotesAmong names w
notes_listed names w lists name bytes is note = let h = lists.all name bytes is in contained names name h.0 h.1 h.2

module _ (names : List (List ℕ)) (i : ℕ) (name : List ℕ) (lt : i < length names) (is : name ≡ get_or names i name) where
  front : drop i names ≡ name ∷ drop (i + 1) names
  front = at_drop_more (λ (l : List (List ℕ)). l) names i name lt ∙ ap (λ (n : List ℕ). n ∷ drop (i + 1) names) (sym is)

  pub among_more : (text : List ℕ) (old new : World → Type 0) → Every old (HasNotesAmong (drop i names)) → (is_note name ≡ true → Every new (IsFree name)) → Follows (ClearsNotes text) old new → Every new (HasNotesAmong (drop (i + 1) names))
  among_more text old new among free step w read =
      let p = step w read in
      notes_fewer text p.0 w p.2 name (drop (i + 1) names) (λ note. free note w read) (subst (λ (l : List (List ℕ)). HasNotesAmong l p.0) front (among p.0 p.1))

-- none is left
pub among_none : (names : List (List ℕ)) (i : ℕ) (w : World) → length names ≤ i → HasNotesAmong (drop i names) w → HasNoNote w
among_none names i w past among name bytes is note = subst (Member name) (at_drop_all (λ (l : List (List ℕ)). l) names i past) (among name bytes is note)

-- Calls one after another.
module _ {D : Type 0} (moment : D → ℕ) (images : D → ℕ → World → Type 0) (text : List ℕ) where
  pub clears_refl : (d : D) → Leaves moment images (ClearsNotes text) d d
  clears_refl d = started moment images (ClearsNotes text) d (λ c now. clears-same text c c refl)

  pub clears_leaves : (a b c : D) → Leaves moment images (ClearsNotes text) a b → Leaves moment images (ClearsNotes text) b c → Leaves moment images (ClearsNotes text) a c
  clears_leaves a b c first second = runs_on moment images (ClearsNotes text) (ClearsNotes text) (ClearsNotes text) a b c first second (λ d e now x. x) (λ d m e now left x y. clears-then text d m e x y)

  pub clears_quiet : (a b : D) → Leaves moment images Same a b → Leaves moment images (ClearsNotes text) a b
  clears_quiet a b run = weakened moment images Same (ClearsNotes text) a b (λ d c now same. clears-same text d c same) run

module _ {D : Type 0} (moment : D → ℕ) (images : D → ℕ → World → Type 0) where
  pub aside_refl : (d : D) → Leaves moment images SameButNotes d d
  aside_refl d = started moment images SameButNotes d (λ c now name other. refl)

  pub aside_leaves : (a b c : D) → Leaves moment images SameButNotes a b → Leaves moment images SameButNotes b c → Leaves moment images SameButNotes a c
  aside_leaves a b c first second = runs_on moment images SameButNotes SameButNotes SameButNotes a b c first second (λ d e now x. x) (λ d m e now left x y name other. y name other ∙ x name other)

  pub aside_quiet : (a b : D) → Leaves moment images Same a b → Leaves moment images SameButNotes a b
  aside_quiet a b run = weakened moment images Same SameButNotes a b (λ d c now same name other. ap (λ (w : World). w.own name) same) run

pub reads_on : (text : List ℕ) (a b c : World → Type 0) → Follows (ClearsNotes text) a b → Follows (ClearsNotes text) b c → Follows (ClearsNotes text) a c
reads_on text a b c first second w is =
    let q = second w is in
    let p = first q.0 q.1 in
    (p.0, p.1, clears-then text p.0 q.0 w p.2 q.2)

pub reads_quiet : (text : List ℕ) (a b : World → Type 0) → Every b a → Follows (ClearsNotes text) a b
reads_quiet text a b same w is = (w, same w is, clears-same text w w refl)

-- the same outside, behind calls that change nothing
pub outside_quiet : {D : Type 0} (files : D → World → Type 0) (moment : D → ℕ) (images : D → ℕ → World → Type 0) (a b : D) → Every (files b) (files a) → Leaves moment images Same a b → Beside files moment images SameOut a → Beside files moment images SameOut b
outside_quiet files moment images a b same run x = record {
  both = λ f c read now.
      let was = run.each (moment b) c run.grew.later (omega arith) now in
      x.both f c (same f read) (subst (λ (v : World). images a (moment a) v) (sym was.2) was.1);
}

-- what was restored cleared nothing
pub restored_marks : (text : List ℕ) (d c : World) → Restores d c → ClearsMarks text d c
restored_marks text d c r = record { outside = λ path. inl (ap (λ (f : List ℕ → Option W.OutFile). f path) r.outside); notes = λ name note. inl (r.notes name note) }

-- Both worlds, the one that is read and the one that a stop leaves, were cleared.
module _ (text : List ℕ) (s : State) (f c f' c' : World) (read : ClearsNotes text f f') (left : ClearsNotes text c c') (was : Mirrors s f c) (outside : SameOut f' c') where
  across : (name : List ℕ) → is_note name ≡ false → c.own name ≡ f.own name → c'.own name ≡ f'.own name
  across name other same = left.own name other ∙ same ∙ sym (read.own name other)

  front_across : (m : PartMark) → HasSameFront (in_name m.number) m.len f c → HasSameFront (in_name m.number) m.len f' c'
  front_across m same b is long =
      let e = same b (sym (read.own (in_name m.number) (in_no_note m.number)) ∙ is) long in
      (e.0, left.own (in_name m.number) (in_no_note m.number) ∙ e.1, e.2)

  pub cleared_mirrors : Mirrors s f' c'
  cleared_mirrors = record {
    live = all_by (λ (e : Entry). e.live ≡ true → SameAt (out_name e.number) f c) (λ (e : Entry). e.live ≡ true → SameAt (out_name e.number) f' c') (λ e same live. across (out_name e.number) (out_no_note e.number) (same live)) s.queue was.live;
    received = all_by (λ (r : Receipt). SameAt (in_name r.number) f c) (λ (r : Receipt). SameAt (in_name r.number) f' c') (λ r same. across (in_name r.number) (in_no_note r.number) same) s.inbox was.received;
    marked = all_by (λ (m : PartMark). HasSameFront (in_name m.number) m.len f c) (λ (m : PartMark). HasSameFront (in_name m.number) m.len f' c') front_across s.marks was.marked;
    takes = λ name take is. across name (take_no_note name take is) (was.takes name take is);
    outside = outside;
    gifts = left.gifts ∙ was.gifts ∙ sym read.gifts;
  }

-- Before marks are cleared.
module _ {D : Type 0} (moment : D → ℕ) (images : D → ℕ → World → Type 0) where
  pub none_stop : (d : D) → Leaves moment images Recovers d d
  none_stop d = started moment images Recovers d (λ c now. recovers-refl c)

  pub none_marks : (text : List ℕ) (d : D) → Leaves moment images (ClearsMarks text) d d
  none_marks text d = started moment images (ClearsMarks text) d (λ c now. (clears-same text c c refl).marks)

  pub look_stop : (a b : D) → Leaves moment images Restores a b → Leaves moment images Recovers a b
  look_stop a b run = weakened moment images Restores Recovers a b (λ d c now r. r.recovers) run

  pub look_marks : (text : List ℕ) (a b : D) → Leaves moment images Restores a b → Leaves moment images (ClearsMarks text) a b
  look_marks text a b run = weakened moment images Restores (ClearsMarks text) a b (λ d c now r. restored_marks text d c r) run

pub none_read : (a : World → Type 0) → Follows Recovers a a
none_read a w is = (w, is, recovers-refl w)

pub none_marks_read : (text : List ℕ) (a : World → Type 0) → Follows (ClearsMarks text) a a
none_marks_read text a w is = (w, is, (clears-same text w w refl).marks)

pub look_read : (a b : World → Type 0) → Follows Restores a b → Follows Recovers a b
look_read a b read w is = let p = read w is in (p.0, p.1, p.2.recovers)

pub look_marks_read : (text : List ℕ) (a b : World → Type 0) → Follows Restores a b → Follows (ClearsMarks text) a b
look_marks_read text a b read w is = let p = read w is in (p.0, p.1, restored_marks text p.0 w p.2)

-- The opening.
module _ {D : Type 0} (files : D → World → Type 0) (moment : D → ℕ) (images : D → ℕ → World → Type 0) (tells : Bool) (content : D → World) (as_read : (d : D) (w : World) → files d w → Now moment images d w)
    (reads : (d : D) (w : World) → files d w → (tells ≡ true) × (w ≡ content d)) (text : List ℕ) (old mid new : D) (read : Follows (ClearsNotes text) (files mid) (files new)) (stop : tells ≡ true → Leaves moment images (ClearsNotes text) mid new) where
  pub all_stop : (tells ≡ true → Leaves moment images Restores old mid) → tells ≡ true → Leaves moment images Recovers old new
  all_stop first t = runs_on moment images Restores (ClearsNotes text) Recovers old mid new (first t) (stop t) (λ d c now r. r.recovers) (λ d e c now left r clears. recovers-then d e c r.recovers (clears_recovers text e c clears))

  pub all_read : Follows Restores (files old) (files mid) → Follows Recovers (files old) (files new)
  all_read first f is =
      let q = read f is in
      let p = first q.0 q.1 in
      (p.0, p.1, recovers-then p.0 q.0 f p.2.recovers (clears_recovers text q.0 f q.2))

  pub marks_stop : (tells ≡ true → Leaves moment images Restores old mid) → tells ≡ true → Leaves moment images (ClearsMarks text) old new
  marks_stop first t = runs_on moment images Restores (ClearsNotes text) (ClearsMarks text) old mid new (first t) (stop t) (λ d c now r. restored_marks text d c r) (λ d e c now left r clears. marks-then text d e c (restored_marks text d e r) clears.marks)

  pub marks_read : Follows Restores (files old) (files mid) → Follows (ClearsMarks text) (files old) (files new)
  marks_read first f is =
      let q = read f is in
      let p = first q.0 q.1 in
      (p.0, p.1, marks-then text p.0 q.0 f (restored_marks text p.0 q.0 p.2) q.2.marks)

  module _ (aside : Leaves moment images SameButNotes mid new) (outside : Beside files moment images SameOut new) where
    aside_now : (c : World) → Now moment images new c → (d : World) × Now moment images mid d × SameButNotes d c
    aside_now c now = aside.each (moment new) c aside.grew.later (omega arith) now

    tended_then : (payloads : List (List ℕ)) (s : State) → IsTended files moment images payloads s mid → IsTended files moment images payloads s new
    tended_then payloads s was = record {
      folds = was.folds;
      ledger = λ c now. let p = aside_now c now in let l = was.ledger p.0 p.1 in (l.0, p.2 ledger_name ledger_no_note ∙ l.1, l.2);
      fits = λ f is. let p = read f is in files_stay p.0 f (aside_beside p.0 f p.2.own p.2.gifts) s (was.fits p.0 p.1);
      same = record {
        both = λ f c is now.
            let p = read f is in
            let t = (reads new f is).0 in
            let q = (stop t).each (moment new) c (stop t).grew.later (omega arith) now in
            cleared_mirrors text s p.0 q.0 f c p.2 q.2 (was.same.both p.0 q.0 p.1 q.1) (outside.both f c is now);
      };
    }

    pub found_then : (b : Books) (given : List ℕ) (takes : Takes) → IsFound files moment images tells content b given takes old mid → IsFound files moment images tells content b given takes old new
    found_then b given takes found =
        let s = b.folding.state in
        let tended = tended_then b.payloads s found.tended in
        record {
          books = found.books;
          tended = tended;
          are_given = λ e now.
              let p = read e now in
              found.are_given p.0 p.1 ∙ sym (given_recovered b.payloads s found.books.folds p.0 e (inl (found.tended.ledger p.0 (as_read mid p.0 p.1))) (found.tended.fits p.0 p.1) (inl (tended.ledger e (as_read new e now))) (clears_recovers text p.0 e p.2));
          receipts = found.receipts;
          opened = found.opened;
          strays = λ e now. let p = read e now in strays_then text p.0 e p.2 s (found.strays p.0 p.1);
          parts = λ e now. let p = read e now in parts_then text p.0 e p.2 s (found.parts p.0 p.1);
          standing = record {
            recorded = found.standing.recorded;
            left = found.standing.left;
            apart = λ e now. let p = read e now in found.standing.apart p.0 p.1;
            standing = λ e now. let p = read e now in subst (AreStanding (own_names takes.left)) (sym (aside_takes p.0 e p.2.own)) (found.standing.standing p.0 p.1);
          };
        }

-- of a disk that tells, its content
pub content_clears : {D : Type 0} (files : D → World → Type 0) (tells : Bool) (content : D → World) (reads : (d : D) (w : World) → files d w → (tells ≡ true) × (w ≡ content d)) (told : tells ≡ true → (d : D) → files d (content d)) (text : List ℕ) (old new : D)
    → Follows (ClearsMarks text) (files old) (files new) → tells ≡ true → ClearsMarks text (content old) (content new)
content_clears files tells content reads told text old new read t = let p = read (content new) (told t new) in subst (λ (w : World). ClearsMarks text w (content new)) (reads old p.0 p.1).1 p.2
