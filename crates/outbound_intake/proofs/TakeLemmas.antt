-- The files of an address, taken in one after another.
use Rattle.std.proofs.Common.{◌≡◌, inl, inr, ℕ, ◌+◌, ◌<◌, List, [], ◌∷◌, ◌++◌, length, take, get_or, Option, Some, None, refl, sym, ◌∙◌, ap, subst, append_assoc}
use Rattle.std.proofs.lemmas.List.{take_more}
use Rattle.ftn_addr.specs.Address.{Address}
use Rattle.bso_outbound.specs.declared.kind.Kind.{Kind}
use Rattle.node_model.specs.Lists.{Each, Member}
use Rattle.node_model.specs.Outside.{OutFile}
use Rattle.node_model.proofs.Lists.{Each-append, Each-weaker}
use Rattle.outbound_model.specs.declared.fate.Fate.{Fate}
use Rattle.outbound_model.specs.Outbound.{Outbound}
use Rattle.outbound_take.specs.Ends.{HasDone, IsDone}
use Rattle.outbound_take.specs.Spares.{IsSpared, SparesFiles, TellsSo}
use Rattle.outbound_take.specs.Stand.{TakeStand, told}
use Rattle.outbound_take.proofs.EndLemmas.{done_kept}
use Rattle.outbound_take.proofs.SpareLemmas.{told_before}
use Rattle.outbound_intake.specs.declared.words.Found.{Found}
use Rattle.outbound_intake.specs.Files.{AllDone, HasFiles, files_of}

abbrev Files : Type 0
Files = List (Option Kind × List Fate)

-- of each of these files nothing more is to be taken in
abbrev pub EachDone : List Found → Option Outbound → Type 0
EachDone found told = Each (λ (f : Found). IsDone f.path.list f.kind told) found

pub more_done : (found : List Found) (at : ℕ) (f : Found) (old new : TakeStand) → at < length found → f ≡ get_or found at f → (told old ≡ None → told new ≡ None) → TellsSo SparesFiles old new
    → EachDone (take at found) (told old) → IsDone f.path.list f.kind (told new) → EachDone (take (at + 1) found) (told new)
more_done found at f old new lt is silent spares before done =
    subst (λ (fs : List Found). EachDone fs (told new)) (sym (take_more found at f lt ∙ ap (λ (x : Found). take at found ++ x ∷ []) (sym is)))
    (Each-append (λ (g : Found). IsDone g.path.list g.kind (told new)) (take at found) (f ∷ [])
    (Each-weaker (λ (g : Found). IsDone g.path.list g.kind (told old)) (λ (g : Found). IsDone g.path.list g.kind (told new)) (λ g h. done_kept g.path.list g.kind old new silent spares h) (take at found) before)
    (done, tt))

each_found : (o : Option Outbound) (found : List Found) → EachDone found o → (path : List ℕ) (kind : Kind) → Member (path, kind) (files_of found) → IsDone path kind o
each_found o [] each path kind none = absurd none
each_found o (f ∷ found) each path kind (inl same) = subst (λ (x : List ℕ × Kind). IsDone x.0 x.1 o) (sym same) each.0
each_found o (f ∷ found) each path kind (inr there) = each_found o found each.1 path kind there

-- so of each file for the address, since those that stood were found
pub all_done : (base : List ℕ) (default : ℕ) (domain : List ℕ) (dest : Address) (found : List Found) (asked old new : TakeStand) → ((s : Outbound) → told asked ≡ Some s → HasFiles base default domain dest s.outside (files_of found))
    → told old ≡ told asked → (told old ≡ None → told new ≡ None) → TellsSo SparesFiles old new → EachDone found (told new) → AllDone base default domain dest (told new)
all_done base default domain dest found asked old new has same silent spares each path kind is t now =
    let s = told_before (told old) (told new) silent t now in
    go s.0 (sym same ∙ s.1) (spares.so s.0 t s.1 now path)
  where
    stood : (s : Outbound) → told asked ≡ Some s → (o : Option OutFile) → s.outside path ≡ o → t.outside path ≡ o → HasDone kind (t.outside path)
    stood s tells None was stays = subst (HasDone kind) (sym stays) tt
    stood s tells (Some file) was stays = each_found (told new) found each path kind (has s tells path kind is file was) t now

    go : (s : Outbound) → told asked ≡ Some s → IsSpared (s.outside path) (t.outside path) → HasDone kind (t.outside path)
    go s tells (inl stays) = stood s tells (s.outside path) refl stays
    go s tells (inr (inl none)) = subst (HasDone kind) (sym none) tt
    go s tells (inr (inr (file, at, empty))) = subst (HasDone kind) (sym at) (inr empty)

-- what was queued of one file more
pub took_behind : (start before after more end : Files) → after ≡ before ++ end → before ≡ start ++ more → after ≡ start ++ (more ++ end)
took_behind start before after more end last so_far = last ∙ ap (λ (xs : Files). xs ++ end) so_far ∙ append_assoc start more end
