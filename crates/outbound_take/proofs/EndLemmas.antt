-- Files of the outbound that are moved, and those that stay.
use Rattle.std.proofs.Common.{◌≡◌, ◌≢◌, inl, inr, ℕ, ◌<◌, List, [], ◌∷◌, ◌++◌, Option, Some, None, option_map, refl, sym, ◌∙◌, ap, subst, arith}
use Rattle.std.specs.Prelude.{if◌then◌else◌, nat_le, not, Bool, true, false}
use Rattle.std.specs.Str.{bytes_eq}
use Rattle.std.proofs.lemmas.Bool.Decides.{nat_tests}
use Rattle.std.proofs.lemmas.Slice.Eq.{bytes_eq-Decides}
use Rattle.ftn_addr.specs.Address.{Address}
use Rattle.bso_outbound.specs.declared.kind.Kind.{Kind}
use Rattle.disk_model.specs.declared.answers.Moved.{Moved as Move}
use Rattle.disk_model.specs.declared.answers.Moved.TheVariants.{Done as MoveDone, Absent as NoFile}
use Rattle.node_model.specs.declared.store.OutStat.{OutStat}
use Rattle.node_model.specs.Lists.{Member, Each}
use Rattle.node_model.specs.Outside.{OutFile}
use Rattle.node_model.proofs.Lists.{Each-append, Each-weaker, Member-append, Member-append_right}
use Rattle.outbound_model.specs.declared.fate.Fate.{Fate}
use Rattle.outbound_model.specs.Outbound.{Outbound}
use Rattle.outbound_model.specs.OwnNames.{number_of}
use Rattle.outbound_take.specs.Stand.{Kept, Left, TakeStand, Works, told}
use Rattle.outbound_take.specs.Calls.{IfFor, TakesFile, names_without, owns, stat_of, with_take}
use Rattle.outbound_take.specs.Ends.{HasDone, IsDone, limit_of}
use Rattle.outbound_take.specs.Ours.{AreOver, IsOurs, IsOverTake, OnlyFor}
use Rattle.outbound_take.specs.Spares.{IsSpared, SparesFiles, SparesOthers, TellsSo}
use Rattle.outbound_take.proofs.LeftLemmas.{owns_with}
use Rattle.outbound_take.proofs.OverLemmas.{over_still}
use Rattle.outbound_take.proofs.SpareLemmas.{files_spared, told_before}

-- What is done stays so.

pub done_spared : (kind : Kind) (before after : Option OutFile) → IsSpared before after → HasDone kind before → HasDone kind after
done_spared kind before after (inl same) h = subst (HasDone kind) (sym same) h
done_spared kind before after (inr (inl none)) h = subst (HasDone kind) (sym none) tt
done_spared kind before after (inr (inr (f, is, empty))) h = subst (HasDone kind) (sym is) (inr empty)

pub done_kept : (path : List ℕ) (kind : Kind) (old new : TakeStand) → (told old ≡ None → told new ≡ None) → TellsSo SparesFiles old new → IsDone path kind (told old) → IsDone path kind (told new)
done_kept path kind old new silent spares h t is =
    let before = told_before (told old) (told new) silent t is in
    done_spared kind (before.0.outside path) (t.outside path) (spares.so before.0 t before.1 is path) (h before.0 before.1)

pub done_none : (kind : Kind) (o : Option OutFile) → None ≡ option_map stat_of o → HasDone kind o
done_none kind None same = tt
done_none kind (Some f) same = cc

pub done_over : (kind : Kind) (stat : OutStat) (o : Option OutFile) → Some stat ≡ option_map stat_of o → limit_of kind < stat.size → HasDone kind o
done_over kind stat None same over = cc
done_over kind stat (Some f) same over = let e : stat ≡ stat_of f = cc in inl (subst (λ (x : OutStat). limit_of kind < x.size) e over)

pub above_limit : (size at limit : ℕ) → nat_le size at ≡ false → at ≡ limit → limit < size
above_limit size at limit fails is = grind (arith, nat_tests)

-- A file is moved, and taken in.

pub record TakenIn (own : List ℕ) (s t : Outbound) : Type 0 where
  pub apart : (name : List ℕ) → number_of name ≡ number_of own → s.takes name ≡ None
  pub spares : SparesOthers own s t

pub taken_in : (path own : List ℕ) (old mid after new : TakeStand) → told mid ≡ told old → Kept (TakesFile path own MoveDone) (Unit {0}) mid after → TellsSo (SparesOthers own) after new → TellsSo (TakenIn own) old new
taken_in path own old mid after new same k spares = record { so = so }
  where
    so : (s t : Outbound) → told old ≡ Some s → told new ≡ Some t → TakenIn own s t
    so s t is now =
        let mid_is : told mid ≡ Some s = same ∙ is in
        let m = k.tells s mid_is in
        let moved = k.ends tt s m.0 mid_is m.1 in
        record { apart = moved.1.apart; spares = λ name other. spares.so m.0 t m.1 now name other ∙ moved.1.here.others name other }

pub is_moved : (path own : List ℕ) (m : Move) (old new : TakeStand) → m ≡ MoveDone → Kept (TakesFile path own m) (Unit {0}) old new → Kept (TakesFile path own MoveDone) (Unit {0}) old new
is_moved path own m old new is k = subst (λ (x : Move). Kept (TakesFile path own x) (Unit {0}) old new) is k

-- no file was there, and nothing changed
is_absent : (path own : List ℕ) (m : Move) (old new : TakeStand) → m ≡ NoFile → Kept (TakesFile path own m) (Unit {0}) old new → Kept (TakesFile path own NoFile) (Unit {0}) old new
is_absent path own m old new is k = subst (λ (x : Move). Kept (TakesFile path own x) (Unit {0}) old new) is k

pub absent_told : (path own : List ℕ) (m : Move) (old new : TakeStand) → m ≡ NoFile → Kept (TakesFile path own m) (Unit {0}) old new → told new ≡ told old
absent_told path own m old new is given = by_told (told old) refl
  where
    k : Kept (TakesFile path own NoFile) (Unit {0}) old new
    k = is_absent path own m old new is given

    by_told : (o : Option Outbound) → told old ≡ o → told new ≡ told old
    by_told None none = k.silent none ∙ sym none
    by_told (Some s) some =
        let t = k.tells s some in
        t.1 ∙ (ap Some (k.ends tt s t.0 some t.1).1 ∙ sym some)

pub absent_done : (path own : List ℕ) (m : Move) (kind : Kind) (old new : TakeStand) → m ≡ NoFile → Kept (TakesFile path own m) (Unit {0}) old new → IsDone path kind (told new)
absent_done path own m kind old new is given t now =
    let k = is_absent path own m old new is given in
    let before = told_before (told old) (told new) k.silent t now in
    let end = k.ends tt before.0 t before.1 now in
    subst (HasDone kind) (sym (ap (λ (x : Outbound). x.outside path) end.1 ∙ end.0)) tt

pub done_same : (path : List ℕ) (kind : Kind) (old new : Option Outbound) → new ≡ old → IsDone path kind old → IsDone path kind new
done_same path kind old new same h = subst (IsDone path kind) (sym same) h

-- its path is free, and stays so but for an action
pub taken_done : (dest : Address) (moment : ℕ) (A : Type 0) (files : List (Option Kind × List Fate)) (path own : List ℕ) (kind : Kind) (mid after new : TakeStand)
    → Kept (TakesFile path own MoveDone) (Unit {0}) mid after → Works (IsOurs dest moment None) A files after new → A → IsDone path kind (told new)
taken_done dest moment A files path own kind mid after new k w settled =
    done_kept path kind after new w.silent (files_spared dest moment A files after new w settled) gone
  where
    gone : IsDone path kind (told after)
    gone s is =
        let before = told_before (told mid) (told after) k.silent s is in
        subst (HasDone kind) (sym (k.ends tt before.0 s before.1 is).1.gone.here) tt

pub overs_taken : (dest : Address) (own over : List ℕ) (old new : TakeStand) → (told old ≡ None → told new ≡ None) → TellsSo (TakenIn own) old new → AreOver dest over (told old) → AreOver dest over (told new)
overs_taken dest own over old new silent h overs t is =
    let before = told_before (told old) (told new) silent t is in
    let s = before.0 in
    let so : TakenIn own s t = h.so s t before.1 is in
    Each-weaker (IsOverTake dest s) (IsOverTake dest t) (λ n o. over_still dest n own s t so.spares o (λ same. other s so.apart o.own o.over.bytes o.over.stands same)) over (overs s before.1)
  where
    other : (s : Outbound) → ((name : List ℕ) → number_of name ≡ number_of own → s.takes name ≡ None) → (name bytes : List ℕ) → s.takes name ≡ Some bytes → name ≢ own
    other s apart name bytes stands same = let e : s.takes name ≡ None = apart name (ap number_of same) in cc

-- Which takes stand behind it.

each_again : (P : List ℕ → Type 0) (own : List ℕ) (names : List (List ℕ)) → Each P names → Each P (names_without own (names ++ own ∷ []))
each_again P own [] h =
    let e : bytes_eq own own ≡ true = (bytes_eq-Decides own own).1 refl in
    subst (λ (b : Bool). Each P (if not b then own ∷ [] else [])) (sym e) tt
each_again P own (x ∷ names) h = go (bytes_eq x own) (each_again P own names h.1)
  where
    go : (b : Bool) → Each P (names_without own (names ++ own ∷ [])) → Each P (if not b then x ∷ names_without own (names ++ own ∷ []) else names_without own (names ++ own ∷ []))
    go true rest = rest
    go false rest = (h.0, rest)

pub only_took : (dest : Address) (over own : List ℕ) (left mid new : List Left) → mid ≡ with_take own left → owns new ≡ names_without own (owns mid) → OnlyFor dest over left → OnlyFor dest over new
only_took dest over own left mid new is removed h =
    subst (Each (IfFor dest (λ n. Member n over))) (sym (removed ∙ ap (λ (x : List Left). names_without own (owns x)) is ∙ ap (names_without own) (owns_with own left)))
    (each_again (IfFor dest (λ n. Member n over)) own (owns left) h)

pub only_over : (dest : Address) (over own : List ℕ) (n : ℕ) (left mid new : List Left) → mid ≡ with_take own left → owns new ≡ owns mid → number_of own ≡ n → OnlyFor dest over left → OnlyFor dest (over ++ n ∷ []) new
only_over dest over own n left mid new is same number h =
    subst (Each (IfFor dest (λ m. Member m (over ++ n ∷ [])))) (sym (same ∙ ap owns is ∙ owns_with own left))
    (Each-append (IfFor dest (λ m. Member m (over ++ n ∷ []))) (owns left) (own ∷ [])
    (Each-weaker (IfFor dest (λ m. Member m over)) (IfFor dest (λ m. Member m (over ++ n ∷ []))) (λ name member kind whom. Member-append (number_of name) over (n ∷ []) (member kind whom)) (owns left) h)
    (λ kind whom. Member-append_right (number_of own) over (n ∷ []) (inl number), tt))

pub only_same : (dest : Address) (over : List ℕ) (left new : List Left) → new ≡ left → OnlyFor dest over left → OnlyFor dest over new
only_same dest over left new is h = subst (OnlyFor dest over) (sym is) h

pub overs_same : (dest : Address) (over : List ℕ) (old new : Option Outbound) → new ≡ old → AreOver dest over old → AreOver dest over new
overs_same dest over old new is h = subst (AreOver dest over) (sym is) h
