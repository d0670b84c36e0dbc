-- The busy mark, from its making to its end.
use Rattle.std.proofs.Common.{◌≡◌, ◌≢◌, ◌⊎◌, inl, inr, ⊎_elim, ℕ, true, false, List, [], ◌∷◌, ◌++◌, ◌+◌, ◌-◌, ◌==◌, Bool, length, take, arith, append_assoc, length-append, Option, Some, None, option_map, Err, refl, sym, ◌∙◌, ap, subst}
use Rattle.std.specs.Prelude.{codes, if◌then◌else◌}
use Rattle.std.specs.Str.{bytes_eq}
use Rattle.std.proofs.lemmas.Bool.{cases_Bool}
use Rattle.std.proofs.lemmas.List.{append-nil, take_at}
use Rattle.std.proofs.lemmas.Slice.Eq.{bytes_eq-Decides}
use Rattle.ftn_addr.specs.Address.{Address}
use Rattle.bso_outbound.specs.declared.kind.Kind.{Kind}
use Rattle.bso_outbound.specs.declared.kind.Kind.TheVariants.{Request}
use Rattle.bso_outbound.specs.Digits.{eight_digits}
use Rattle.bso_outbound.specs.Kinds.{ending}
use Rattle.bso_outbound.specs.Names.{name_in_zone, node_digits, outbound_name, path_ending, point_folder, zone_folder}
use Rattle.disk_model.specs.declared.answers.Marking.{Marking}
use Rattle.disk_model.specs.declared.answers.Marking.TheVariants.{Made as MarkMade, Exists as MarkExists}
use Rattle.node_model.specs.declared.store.StoreFault.{StoreFault}
use Rattle.node_model.specs.Lists.{Member}
use Rattle.node_model.specs.Outside.{OutFile, OutFiles}
use Rattle.node_model.proofs.Lists.{Each-member, Each-weaker}
use Rattle.outbound_model.specs.declared.fate.Fate.{Fate}
use Rattle.outbound_model.specs.Outbound.{Outbound, Puts}
use Rattle.outbound_model.specs.Steps.{Marks, Step, Unmarks}
use Rattle.outbound_take.specs.Calls.{IfFor, MarksAt, Tied, UnmarksAt, owns}
use Rattle.outbound_take.specs.declared.words.TakeFault.{TakeFault}
use Rattle.outbound_take.specs.declared.words.TakeFault.TheVariants as TF
use Rattle.outbound_take.specs.Ours.{AreOver, FaultSettles, IsOurs, IsOverTake, OnlyFor}
use Rattle.outbound_take.specs.Spares.{IsSpared, SparesFiles, SparesTakes, TellsSo}
use Rattle.outbound_take.specs.Stand.{Kept, Left, Memory, SettledBy, TakeStand, Works, told}
use Rattle.outbound_take.proofs.EndLemmas.{done_kept}
use Rattle.outbound_take.proofs.SpareLemmas.{told_before}
use Rattle.outbound_take.proofs.WorkLemmas.{works_files, works_on, works_weaker}
use Rattle.outbound_intake.specs.Answers.{EndsMark, Freed, IsFree, IsMark, IsOwnFault, OnlyTakes}
use Rattle.outbound_intake.specs.Files.{AllDone}

-- Its making.

pub is_made : (path text : List ℕ) (m : Marking) (old new : TakeStand) → m ≡ MarkMade → Kept (MarksAt path text m) (Unit {0}) old new → Kept (MarksAt path text MarkMade) (Unit {0}) old new
is_made path text m old new is k = subst (λ (x : Marking). Kept (MarksAt path text x) (Unit {0}) old new) is k

-- it stands, but for an action
still_mark : (text : List ℕ) (time : ℕ) (before after : Option OutFile) → before ≡ Some (record { bytes = text; time = time }) → IsSpared before after → IsMark text after
still_mark text time before after is (inl same) = subst (IsMark text) (sym (same ∙ is)) (inl refl)
still_mark text time before after is (inr (inl none)) = subst (IsMark text) (sym none) tt
still_mark text time before after is (inr (inr (f, at, empty))) = subst (IsMark text) (sym at) (inr empty)

pub mark_stands : (path text : List ℕ) (old mid new : TakeStand) → Kept (MarksAt path text MarkMade) (Unit {0}) old mid → (told mid ≡ None → told new ≡ None) → TellsSo SparesFiles mid new
    → (t : Outbound) → told new ≡ Some t → IsMark text (t.outside path)
mark_stands path text old mid new k silent spares t is =
    let m = told_before (told mid) (told new) silent t is in
    let s = told_before (told old) (told mid) k.silent m.0 m.1 in
    let made : Marks path text s.0 m.0 = k.ends tt s.0 m.0 s.1 m.1 in
    still_mark text made.time (m.0.outside path) (t.outside path) made.here.here (spares.so m.0 t m.1 is path)

-- one that stood already
pub stood : (path text : List ℕ) (m : Marking) (old new : TakeStand) → m ≡ MarkExists → Kept (MarksAt path text m) (Unit {0}) old new → (s : Outbound) → told old ≡ Some s → (s.outside path ≢ None) × (told new ≡ Some s)
stood path text m old new is given s tells =
    let k : Kept (MarksAt path text MarkExists) (Unit {0}) old new = subst (λ (x : Marking). Kept (MarksAt path text x) (Unit {0}) old new) is given in
    let t = k.tells s tells in
    let was = k.ends tt s t.0 tells t.1 in
    (there (s.outside path) was.0.0 was.0.1, t.1 ∙ ap Some was.1)
  where
    there : (o : Option OutFile) (f : OutFile) → o ≡ Some f → o ≢ None
    there o f some none = cc

-- Its end.

free_of : (text : List ℕ) (o : Option OutFile) → IsMark text o → option_map (λ (f : OutFile). f.bytes) o ≢ Some text → IsFree o
free_of text None mark other = tt
free_of text (Some f) (inl own) other = absurd (other (ap Some own))
free_of text (Some f) (inr empty) other = empty

pub unmark_frees : (path text : List ℕ) (old new : TakeStand) → Kept (UnmarksAt path text) (Unit {0}) old new → ((s : Outbound) → told old ≡ Some s → IsMark text (s.outside path)) → Freed path (told new)
unmark_frees path text old new k marked t is =
    let s = told_before (told old) (told new) k.silent t is in
    ⊎_elim
    (λ (un : Unmarks path text s.0 t). subst IsFree (sym un.gone.here) tt)
    (λ (other : (option_map (λ (f : OutFile). f.bytes) (s.0.outside path) ≢ Some text) × (t ≡ s.0)). subst (λ (x : Outbound). IsFree (x.outside path)) (sym other.1) (free_of text (s.0.outside path) (marked s.0 s.1) other.0))
    (k.ends tt s.0 t s.1 is)

-- it changes no other file, and no take

gone_spared : (path : List ℕ) (old new : OutFiles) → Puts path None old new → (p : List ℕ) → IsSpared (old p) (new p)
gone_spared path old new puts p = pick (cases_Bool (bytes_eq p path))
  where
    pick : (bytes_eq p path ≡ true) ⊎ (bytes_eq p path ≡ false) → IsSpared (old p) (new p)
    pick (inl same) = inr (inl (ap new ((bytes_eq-Decides p path).0 same) ∙ puts.here))
    pick (inr other) = inl (puts.others p (λ same. let e : bytes_eq p path ≡ true = (bytes_eq-Decides p path).1 same in cc))

unmark_spares : (path text : List ℕ) (old new : TakeStand) → Kept (UnmarksAt path text) (Unit {0}) old new → TellsSo SparesFiles old new
unmark_spares path text old new k = record {
  so = λ s t is now p. ⊎_elim
      (λ (un : Unmarks path text s t). gone_spared path s.outside t.outside un.gone p)
      (λ (other : (option_map (λ (f : OutFile). f.bytes) (s.outside path) ≢ Some text) × (t ≡ s)). inl (ap (λ (x : Outbound). x.outside p) other.1))
      (k.ends tt s t is now);
}

pub done_unmarked : (base : List ℕ) (default : ℕ) (domain : List ℕ) (dest : Address) (path text : List ℕ) (old new : TakeStand) → Kept (UnmarksAt path text) (Unit {0}) old new → AllDone base default domain dest (told old) → AllDone base default domain dest (told new)
done_unmarked base default domain dest path text old new k done file kind is = done_kept file kind old new k.silent (unmark_spares path text old new k) (done file kind is)

over_with : (dest : Address) (n : ℕ) (s t : Outbound) → SparesTakes s t → IsOverTake dest s n → IsOverTake dest t n
over_with dest n s t same o = record {
  own = o.own;
  kind = o.kind;
  named = o.named;
  numbered = o.numbered;
  whole = o.whole;
  over = record { bytes = o.over.bytes; stands = ap (λ (takes : List ℕ → Option (List ℕ)). takes o.own) same ∙ o.over.stands; over = o.over.over };
}

pub overs_unmarked : (dest : Address) (over path text : List ℕ) (old new : TakeStand) → Kept (UnmarksAt path text) (Unit {0}) old new → AreOver dest over (told old) → AreOver dest over (told new)
overs_unmarked dest over path text old new k overs t is =
    let s = told_before (told old) (told new) k.silent t is in
    let same : SparesTakes s.0 t = ⊎_elim
    (λ (un : Unmarks path text s.0 t). un.takes)
    (λ (other : (option_map (λ (f : OutFile). f.bytes) (s.0.outside path) ≢ Some text) × (t ≡ s.0)). ap (λ (x : Outbound). x.takes) other.1)
    (k.ends tt s.0 t s.1 is) in
    Each-weaker (IsOverTake dest s.0) (IsOverTake dest t) (λ n o. over_with dest n s.0 t same o) over (overs s.0 s.1)

pub only_takes : (dest : Address) (over : List ℕ) (m : Memory) (left : List Left) (o : Option Outbound) → Tied m o → m.left ≡ left → OnlyFor dest over left → OnlyTakes dest over o
only_takes dest over m left o tied same only t is own kind whom stands =
    Each-member (IfFor dest (λ n. Member n over)) own (owns left) only (subst (λ (l : List Left). Member own (owns l)) same (tied.left t is own stands)) kind whom

-- The path of the mark.

abbrev front_of : Address → List ℕ → ℕ → List ℕ
front_of a base default = zone_folder base a.zone default ++ 47 ∷ name_in_zone (a.net, a.node) a.point []

ends_behind : (front : List ℕ) (node : ℕ × ℕ) (point : ℕ) (end : List ℕ) (b : Bool)
    → front ++ 47 ∷ (if b then node_digits node ++ end else point_folder node ++ 47 ∷ (eight_digits point ++ end)) ≡ (front ++ 47 ∷ (if b then node_digits node ++ [] else point_folder node ++ 47 ∷ (eight_digits point ++ []))) ++ end
ends_behind front node point end true =
    ap (λ (l : List ℕ). front ++ 47 ∷ (l ++ end)) (sym (append-nil (node_digits node))) ∙ sym (append_assoc front (47 ∷ (node_digits node ++ [])) end)
ends_behind front node point end false =
    ap (λ (l : List ℕ). front ++ 47 ∷ l) (ap (λ (l : List ℕ). point_folder node ++ 47 ∷ (l ++ end)) (sym (append-nil (eight_digits point))) ∙ sym (append_assoc (point_folder node) (47 ∷ (eight_digits point ++ [])) end))
    ∙ sym (append_assoc front (47 ∷ (point_folder node ++ 47 ∷ (eight_digits point ++ []))) end)

path_split : (a : Address) (end base : List ℕ) (default : ℕ) → path_ending a end base default ≡ front_of a base default ++ end
path_split a end base default = ends_behind (zone_folder base a.zone default) (a.net, a.node) a.point end (a.point == 0)

-- that of a request, with another ending of four bytes
pub mark_named : (a : Address) (base : List ℕ) (default : ℕ) (path cut whole : List ℕ) (len front : ℕ) → path ≡ outbound_name a Request base default → len ≡ length path → front ≡ len - 4 → cut ≡ take front path → whole ≡ cut ++ codes ".bsy"
    → whole ≡ path_ending a (codes ".bsy") base default
mark_named a base default path cut whole len front is length_is front_is cut_is whole_is =
    let x = front_of a base default in
    let split : path ≡ x ++ ending Request = is ∙ path_split a (ending Request) base default in
    let long : length path ≡ length x + 4 = ap length split ∙ length-append x (ending Request) in
    let at : front ≡ length x = omega (arith, front_is, length_is, long) in
    whole_is ∙ ap (λ (l : List ℕ). l ++ codes ".bsy") (cut_is ∙ ap (take front) split ∙ take_at x (ending Request) front (sym at)) ∙ sym (path_split a (codes ".bsy") base default)

-- How a take-in without an answer ends.

pub ends_own : (path : List ℕ) (fault : TakeFault) (old new : Option Outbound) → IsOwnFault fault → (FaultSettles fault → Freed path new) → EndsMark path (Err fault) old new
ends_own path TF.Disk old new own frees = tt
ends_own path (TF.Marked name) old new own frees = absurd own
ends_own path TF.Full old new own frees = frees tt
ends_own path TF.NoMemory old new own frees = inl (frees tt)

-- From the mark to its end.

pub by_text : (dest : Address) (moment : ℕ) (text own : List ℕ) (A : Type 0) (files : List (Option Kind × List Fate)) (old new : TakeStand) → text ≡ own → Works (IsOurs dest moment (Some text)) A files old new → Works (IsOurs dest moment (Some own)) A files old new
by_text dest moment text own A files old new is w = subst (λ (t : List ℕ). Works (IsOurs dest moment (Some t)) A files old new) is w

-- of a run of calls that may have failed
pub works_unsettled : (P : Step → Type 0) (A B : Type 0) (files : List (Option Kind × List Fate)) (old new : TakeStand) → (B → A) → Works P A files old new → Works P B files old new
works_unsettled P A B files old new back w = works_weaker P P A B files old new (λ e p. p) back w

pub works_between : (dest : Address) (moment : ℕ) (text : List ℕ) (A : Type 0) (files : List (Option Kind × List Fate)) (old made taken new : TakeStand)
    → Works (IsOurs dest moment (Some text)) (Unit {0}) [] old made → Works (IsOurs dest moment (Some text)) (Unit {0}) files made taken → Works (IsOurs dest moment (Some text)) A [] taken new → Works (IsOurs dest moment (Some text)) A files old new
works_between dest moment text A files old made taken new first mid last =
    let ours = IsOurs dest moment (Some text) in
    works_files ours A (files ++ []) files old new (append-nil files)
    (works_on ours (Unit {0}) A files [] old taken new (works_on ours (Unit {0}) (Unit {0}) [] files old made taken first tt mid) tt last)

-- of one that failed and settles
pub settled_at : (f g : StoreFault) → f ≡ g → SettledBy g → SettledBy f
settled_at f g is settled = subst SettledBy (sym is) settled
