-- What calls leave of takes and of outside files, one behind another.
use Rattle.std.proofs.Common.{◌≡◌, ◌⊎◌, inl, inr, ℕ, true, false, List, [], ◌∷◌, Option, Some, None, refl, sym, ◌∙◌, ap, subst}
use Rattle.std.specs.Str.{bytes_eq}
use Rattle.std.proofs.lemmas.Bool.{cases_Bool}
use Rattle.std.proofs.lemmas.Slice.Eq.{bytes_eq-Decides}
use Rattle.ftn_addr.specs.Address.{Address}
use Rattle.ftn_addr.specs.declared.source_file.Action.{Action}
use Rattle.ftn_addr.specs.declared.source_file.Action.TheVariants.{Leave, Delete, Cut}
use Rattle.bso_outbound.specs.declared.kind.Kind.{Kind}
use Rattle.node_model.specs.Lists.{Each}
use Rattle.node_model.specs.Outside.{OutFile, OutFiles}
use Rattle.node_model.specs.SendRows.{Slot}
use Rattle.node_model.specs.Stocks.{NewEntry}
use Rattle.outbound_model.specs.declared.fate.Fate.{Fate}
use Rattle.outbound_model.specs.Outbound.{Outbound, Puts}
use Rattle.outbound_model.specs.Steps.{Step, Moved, Queued, Dropped, Hit, Acted, Marked, Unmarked, Changed, Made, ActsOn, Drops}
use Rattle.outbound_model.specs.Lives.{Reaches}
use Rattle.outbound_take.specs.Stand.{Kept, TakeStand, told, Works}
use Rattle.outbound_take.specs.Calls.{IsAction, QueuesFiles}
use Rattle.outbound_take.specs.Ours.{IsOurs}
use Rattle.outbound_take.specs.Spares.{IsSpared, SparesFiles, SparesOthers, SparesTakes, TellsSo}

-- Outside files.

spared_on : (a b c : Option OutFile) → IsSpared a b → IsSpared b c → IsSpared a c
spared_on a b c first (inl same) = subst (IsSpared a) (sym same) first
spared_on a b c first (inr less) = inr less

-- one file is removed or cut
put_spared : (path : List ℕ) (file : Option OutFile) (old new : OutFiles) → ((before : Option OutFile) → IsSpared before file) → Puts path file old new → (p : List ℕ) → IsSpared (old p) (new p)
put_spared path file old new less puts p = pick (cases_Bool (bytes_eq p path))
  where
    pick : (bytes_eq p path ≡ true) ⊎ (bytes_eq p path ≡ false) → IsSpared (old p) (new p)
    pick (inl same) = subst (λ (q : List ℕ). IsSpared (old q) (new q)) (sym ((bytes_eq-Decides p path).0 same)) (subst (IsSpared (old path)) (sym puts.here) (less (old path)))
    pick (inr other) = inl (puts.others p (λ same. let e : bytes_eq p path ≡ true = (bytes_eq-Decides p path).1 same in cc))

acts_spared : (action : Action) (path : List ℕ) (old new : OutFiles) → ActsOn action path old new → (p : List ℕ) → IsSpared (old p) (new p)
acts_spared Leave path old new h p = absurd h
acts_spared Delete path old new h p = put_spared path None old new (λ before. inr (inl refl)) h p
acts_spared Cut path old new h p = put_spared path (Some (record { bytes = []; time = h.0 })) old new (λ before. inr (inr (record { bytes = []; time = h.0 }, refl, refl))) h.1 p

same_files : (old new : OutFiles) → new ≡ old → (path : List ℕ) → IsSpared (old path) (new path)
same_files old new same path = subst (λ (files : OutFiles). IsSpared (old path) (files path)) (sym same) (inl refl)

step_spares : (dest : Address) (moment : ℕ) (e : Step) (s t : Outbound) → IsOurs dest moment None e → Made e s t → SparesFiles s t
step_spares dest moment (Hit n) s t h m path = acts_spared m.entry.action m.entry.source s.outside t.outside m.acts path
step_spares dest moment (Acted n) s t h m path = same_files s.outside t.outside m.outside path
step_spares dest moment (Moved p o b) s t h m path = put_spared p None s.outside t.outside (λ before. inr (inl refl)) m.gone path
step_spares dest moment (Queued o b d k f) s t h m path = same_files s.outside t.outside m.outside path
step_spares dest moment (Dropped o) s t h m path = same_files s.outside t.outside m.outside path
step_spares dest moment (Marked p x) s t h m path = absurd h
step_spares dest moment (Unmarked p x) s t h m path = absurd h
step_spares dest moment Changed s t h m path = absurd h

steps_spare : (dest : Address) (moment : ℕ) (a : Outbound) (es : List Step) (b : Outbound) → Each (IsOurs dest moment None) es → Reaches a es b → SparesFiles a b
steps_spare dest moment a [] b ours path p = inl (subst (λ (x : Outbound). x.outside p ≡ a.outside p) (sym path) refl)
steps_spare dest moment a (e ∷ es) b ours (mid, path, made) p =
    spared_on (a.outside p) (mid.outside p) (b.outside p) (steps_spare dest moment a es mid ours.1 path p) (step_spares dest moment e mid b ours.0 made p)

-- what a take-in leaves of outside files
pub files_spared : (dest : Address) (moment : ℕ) (A : Type 0) (files : List (Option Kind × List Fate)) (old new : TakeStand) → Works (IsOurs dest moment None) A files old new → A → TellsSo SparesFiles old new
files_spared dest moment A files old new w settled = record { so = so }
  where
    so : (s t : Outbound) → told old ≡ Some s → told new ≡ Some t → SparesFiles s t
    so s t is now =
        let v = w.made s is in
        let e : v.end ≡ t = let f = v.tells in cc in
        subst (SparesFiles s) e (steps_spare dest moment s v.steps v.end v.ours (v.ends settled))

-- Takes.

action_spares : (e : Step) (s t : Outbound) → IsAction e → Made e s t → SparesTakes s t
action_spares (Hit n) s t h m = m.takes
action_spares (Acted n) s t h m = m.takes
action_spares (Moved p o b) s t h m = absurd h
action_spares (Queued o b d k f) s t h m = absurd h
action_spares (Dropped o) s t h m = absurd h
action_spares (Marked p x) s t h m = absurd h
action_spares (Unmarked p x) s t h m = absurd h
action_spares Changed s t h m = absurd h

actions_spare : (a : Outbound) (es : List Step) (b : Outbound) → Each IsAction es → Reaches a es b → SparesTakes a b
actions_spare a [] b ours path = subst (SparesTakes a) (sym path) refl
actions_spare a (e ∷ es) b ours (mid, path, made) = action_spares e mid b ours.0 made ∙ actions_spare a es mid ours.1 path

pub works_spare : (A : Type 0) (old new : TakeStand) → Works IsAction A [] old new → A → TellsSo SparesTakes old new
works_spare A old new w settled = record { so = so }
  where
    so : (s t : Outbound) → told old ≡ Some s → told new ≡ Some t → SparesTakes s t
    so s t is now =
        let v = w.made s is in
        let e : v.end ≡ t = let f = v.tells in cc in
        subst (SparesTakes s) e (actions_spare s v.steps v.end v.ours (v.ends settled))

-- Of what is told.

pub so_none : (old new : TakeStand) → told new ≡ told old → TellsSo SparesTakes old new
so_none old new same = record { so = λ s t is now. let e : s ≡ t = cc in subst (SparesTakes s) e refl }

-- one change behind another
so_on : (R Q V : Outbound → Outbound → Type 0) (P : Step → Type 0) (A : Type 0) (files : List (Option Kind × List Fate)) (old mid new : TakeStand) → ((s m t : Outbound) → R s m → Q m t → V s t)
    → Works P A files old mid → TellsSo R old mid → TellsSo Q mid new → TellsSo V old new
so_on R Q V P A files old mid new joins w first second = record {
  so = λ s t is now. let v = w.made s is in joins s v.end t (first.so s v.end is v.tells) (second.so v.end t v.tells now);
}

pub spare_on : (P : Step → Type 0) (A : Type 0) (files : List (Option Kind × List Fate)) (old mid new : TakeStand) → Works P A files old mid → TellsSo SparesTakes old mid → TellsSo SparesTakes mid new → TellsSo SparesTakes old new
spare_on P A files old mid new w first second = so_on SparesTakes SparesTakes SparesTakes P A files old mid new (λ s m t f g. g ∙ f) w first second

-- what was told before
pub told_before : (o n : Option Outbound) → (o ≡ None → n ≡ None) → (t : Outbound) → n ≡ Some t → (s : Outbound) × (o ≡ Some s)
told_before None n silent t is = let e : n ≡ None = silent refl in absurd cc
told_before (Some s) n silent t is = (s, refl)

-- files were queued, behind calls that change nothing
pub queued_spare : (bodies : ℕ → Option (List ℕ)) (own : List ℕ) (files : List NewEntry) (slots : List Slot) (old mid new : TakeStand) → told mid ≡ told old
    → Kept (QueuesFiles bodies own files slots) (Unit {0}) mid new → TellsSo SparesTakes old new
queued_spare bodies own files slots old mid new same k = record { so = λ s t is now. (k.ends tt s t (same ∙ is) now).takes }

others_of : (own : List ℕ) (s t : Outbound) → SparesTakes s t → SparesOthers own s t
others_of own s t same name other = ap (λ (takes : List ℕ → Option (List ℕ)). takes name) same

pub others_so : (own : List ℕ) (old new : TakeStand) → TellsSo SparesTakes old new → TellsSo (SparesOthers own) old new
others_so own old new f = record { so = λ s t is now. others_of own s t (f.so s t is now) }

-- a take is removed
pub drop_so : (own : List ℕ) (old new : TakeStand) → Kept (Drops own) (Unit {0}) old new → TellsSo (SparesOthers own) old new
drop_so own old new k = record { so = λ s t is now. (k.ends tt s t is now).gone.others }

-- behind calls that keep all
pub drop_behind : (own : List ℕ) (P : Step → Type 0) (A : Type 0) (files : List (Option Kind × List Fate)) (old mid new : TakeStand) → Works P A files old mid → TellsSo SparesTakes old mid
    → Kept (Drops own) (Unit {0}) mid new → TellsSo (SparesOthers own) old new
drop_behind own P A files old mid new w first k =
    so_on SparesTakes (SparesOthers own) (SparesOthers own) P A files old mid new (λ s m t f g name other. g name other ∙ others_of own s m f name other) w first (drop_so own mid new k)
