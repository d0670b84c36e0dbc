-- A ledger that is opened, or made where none stands.
use Rattle.std.proofs.Common.{◌≡◌, ◌⊎◌, inl, inr, ℕ, List, [], length, Option, Some, None, Bool, true, refl, sym, ◌∙◌, ap, subst, arith}
use Rattle.std.specs.List.{AllByRecursion}
use Rattle.disk_model.specs.World.{World}
use Rattle.disk_model.specs.Changes.{Every, Follows, Same, Stands, IsFree}
use Rattle.disk_model.specs.Moments.{Now, Leaves}
use Rattle.disk_model.proofs.MomentLemmas.{weakened}
use Rattle.ledger_file.specs.declared.fault.OpenFault.{OpenFault}
use Rattle.ledger_file.specs.declared.fault.OpenFault.TheVariants as L
use Rattle.ledger_file.specs.Ledger.{ledger_name, new_name, LedgerIs, Makes}
use Rattle.ledger_file.specs.Reading.{Refuses}
use Rattle.ledger_rec.specs.Fold.{State, nothing_folded}
use Rattle.ledger_rec.specs.Items.{Receipt}
use Rattle.ledger_rec.specs.Payloads.{fold_of}
use Rattle.node_model.proofs.Lists.{some_inj}
use Rattle.node_store.specs.Clearing.{Restores}
use Rattle.node_store.specs.Keeping.{Beside}
use Rattle.node_store.specs.Names.{in_name, take_number}
use Rattle.node_store.specs.Opening.{IsReady, IsRefused, Misfolds, fault_of}
use Rattle.node_store.specs.Tending.{IsNear}
use Rattle.node_store.specs.Worlds.{if_take, LedgerOf}
use Rattle.node_store.specs.declared.opening.fault.StoreOpenFault.{StoreOpenFault}
use Rattle.node_store.specs.declared.opening.fault.StoreOpenFault.TheVariants.{Disk, LedgerBad, FileBad, NoMemory}
use Rattle.node_store.proofs.Alike.{ledger_no_take}
use Rattle.node_store.proofs.NoteNames.{ledger_no_note, new_no_note, other_than}
use Rattle.node_store.proofs.Recovering.{TakesStay, steady_restores, leaves-same, restores-refl}
use Rattle.node_store.proofs.Removing.{new_no_take, take_is_none}

-- the ledger stands or not
pub stood_or_not : (w : World) → Stands ledger_name 0 w ⊎ (w.own ledger_name ≡ None)
stood_or_not w = go (w.own ledger_name) refl
  where
    go : (o : Option (List ℕ)) → w.own ledger_name ≡ o → Stands ledger_name 0 w ⊎ (w.own ledger_name ≡ None)
    go None is = inr is
    go (Some b) is = inl (b, is, omega arith)

-- a ledger without payloads is made of none, or of one without payloads
module _ (d c : World) (makes : Makes d c) where
  take_made : (n : List ℕ) (take : ℕ) → take_number n ≡ Some take → c.own n ≡ d.own n
  take_made n take is = makes.others n (λ same. take_is_none n ledger_name take is ledger_no_take (sym same)) (λ same. take_is_none n new_name take is new_no_take (sym same))

  takes_made : TakesStay nothing_folded d c
  takes_made n = inl (go (take_number n) refl)
    where
      go : (o : Option ℕ) → take_number n ≡ o → if_take o (c.own n) ≡ if_take o (d.own n)
      go None is = refl
      go (Some take) is = take_made n take is

  ledger_made : LedgerOf [] d → LedgerOf [] c
  ledger_made was = go makes.ledger was
    where
      go : (c.own ledger_name ≡ d.own ledger_name) ⊎ LedgerIs [] c → LedgerOf [] d → LedgerOf [] c
      go (inl same) (inl l) = inl (l.0, same ∙ l.1, l.2)
      go (inl same) (inr none) = inr (same ∙ none.0, refl)
      go (inr l) was = inl l

  pub makes_restores : LedgerOf [] d → Restores d c
  makes_restores was = steady_restores [] nothing_folded refl d c was (ledger_made was) (record { live = tt; received = tt; marked = tt; outside = makes.outside; gifts = makes.gifts }) takes_made
      (λ n note. makes.others n (λ same. other_than n note ledger_name ledger_no_note (sym same)) (λ same. other_than n note new_name new_no_note (sym same)))
      (λ n other. makes.others n other.ledger (λ same. other.work (inl same)))

-- why a ledger that stands isn't opened
refused_of : (fault : OpenFault) (w : World) → Refuses fault w → IsRefused (fault_of fault) w
refused_of L.Disk w h = absurd h.2
refused_of L.NotLedger w h = inl (L.NotLedger, h, refl)
refused_of (L.Version version) w h = inl (L.Version version, h, refl)
refused_of (L.Cut place) w h = inl (L.Cut place, h, refl)
refused_of (L.Over place) w h = inl (L.Over place, h, refl)
refused_of L.NoMemory w h = absurd h.2

-- and why one isn't folded
pub misfolds_refused : (payloads : List (List ℕ)) (fault : StoreOpenFault) (w : World) → LedgerOf payloads w → Misfolds payloads fault → IsRefused fault w
misfolds_refused payloads Disk w ledger bad = absurd bad
misfolds_refused payloads (LedgerBad place) w (inl ledger) bad = inr (payloads, ledger, bad)
misfolds_refused payloads (LedgerBad place) w (inr none) bad = absurd (omega (arith, bad.within, ap length none.1))
misfolds_refused payloads (FileBad name) w ledger bad = absurd bad
misfolds_refused payloads NoMemory w ledger bad = absurd bad

module _ {D : Type 0} (files : D → World → Type 0) (moment : D → ℕ) (images : D → ℕ → World → Type 0) (tells : Bool) (content : D → World)
    (reads : (d : D) (w : World) → files d w → (tells ≡ true) × (w ≡ content d)) (told : tells ≡ true → (d : D) → files d (content d)) (old new : D)
    (ready : tells ≡ true → Every (Now moment images old) (IsReady (content old))) (stop : Leaves moment images Makes old new) (read : Follows Makes (files old) (files new))
    (stands : (w : World) → files old w → Stands ledger_name 0 w → Leaves moment images Same old new × Every (files new) (files old)) where
  pub open_stop : tells ≡ true → Leaves moment images Restores old new
  open_stop t = elim (stood_or_not (content old)) [
    | inl stood ↦ leaves-same moment images old new (stands (content old) (told t old) stood).0
    | inr none ↦ weakened moment images Makes Restores old new (λ d c now makes. makes_restores d c makes ((ready t d now).fresh none)) stop
  ]

  pub open_read : Follows Restores (files old) (files new)
  open_read f is =
      let p = read f is in
      elim (stood_or_not p.0) [
        | inl stood ↦ (f, (stands p.0 p.1 stood).1 f is, restores-refl f)
        | inr none ↦ (p.0, p.1, makes_restores p.0 f p.2 (inr (none, refl)))
      ]

  -- what is read now was read before, where the ledger stood
  same_content : (t : tells ≡ true) → Stands ledger_name 0 (content old) → (f : World) → files new f → f ≡ content old
  same_content t stood f is = (reads old f ((stands (content old) (told t old) stood).1 f is)).1

  module _ (payloads : List (List ℕ)) (found : Every (files new) (LedgerIs payloads)) (none : Every (files old) (λ w. IsFree ledger_name w → payloads ≡ [])) where
    pub found_old : tells ≡ true → LedgerOf payloads (content old)
    found_old t = elim (stood_or_not (content old)) [
      | inl stood ↦ inl (subst (LedgerIs payloads) (same_content t stood (content new) (told t new)) (found (content new) (told t new)))
      | inr free ↦ inr (free, none (content old) (told t old) free)
    ]

    pub same_or_none : tells ≡ true → (content new ≡ content old) ⊎ (payloads ≡ [])
    same_or_none t = elim (stood_or_not (content old)) [
      | inl stood ↦ inl (same_content t stood (content new) (told t new))
      | inr free ↦ inr (none (content old) (told t old) free)
    ]

    near_same : (s : State) → fold_of payloads ≡ Some s → (f c : World) → LedgerIs payloads f → IsReady f c → IsNear s f c
    near_same s folds f c ledger r = record { takes = r.takes; outside = r.outside; gifts = r.gifts; absent = r.given payloads s ledger folds }

    near_made : (s : State) → fold_of payloads ≡ Some s → payloads ≡ [] → (d e f c : World) → Makes d f → Makes e c → IsReady d e → IsNear s f c
    near_made s folds empty d e f c read left r = record {
      takes = λ n take is. take_made e c left n take is ∙ r.takes n take is ∙ sym (take_made d f read n take is);
      outside = left.outside ∙ r.outside ∙ sym read.outside;
      gifts = left.gifts ∙ r.gifts ∙ sym read.gifts;
      absent = subst (λ (t : State). AllByRecursion (λ (x : Receipt). f.own (in_name x.number) ≡ None → c.own (in_name x.number) ≡ None) t.inbox) (some_inj (ap fold_of (sym empty) ∙ folds)) tt;
    }

    pub open_near : (s : State) → fold_of payloads ≡ Some s → Beside files moment images (IsNear s) new
    open_near s folds = record {
      both = λ f c is now.
          let p = read f is in
          let t = (reads old p.0 p.1).0 in
          elim (stood_or_not (content old)) [
            | inl stood ↦
                let was = (stands (content old) (told t old) stood).0.each (moment new) c (stands (content old) (told t old) stood).0.grew.later (omega arith) now in
                let r : IsReady (content old) c = subst (IsReady (content old)) (sym was.2) (ready t was.0 was.1) in
                near_same s folds f c (found f is) (subst (λ (w : World). IsReady w c) (sym (same_content t stood f is)) r)
            | inr free ↦
                let q = stop.each (moment new) c stop.grew.later (omega arith) now in
                let same : p.0 ≡ content old = (reads old p.0 p.1).1 in
                near_made s folds (none p.0 p.1 (ap (λ (w : World). w.own ledger_name) same ∙ free)) p.0 q.0 f c p.2 q.2 (subst (λ (w : World). IsReady w q.0) (sym same) (ready t q.0 q.1))
          ];
    }

  pub open_refused : (fault : OpenFault) (answer : StoreOpenFault) → answer ≡ fault_of fault → (fault ≡ L.Disk) ⊎ ((fault ≡ L.NoMemory) ⊎ Every (files new) (Refuses fault))
      → (fault ≡ L.Disk) ⊎ ((fault ≡ L.NoMemory) ⊎ Every (files old) (Stands ledger_name 0)) → (answer ≡ Disk) ⊎ ((answer ≡ NoMemory) ⊎ (tells ≡ true → IsRefused answer (content old)))
  open_refused fault answer is (inl failed) stood = inl (is ∙ ap fault_of failed)
  open_refused fault answer is (inr (inl memory)) stood = inr (inl (is ∙ ap fault_of memory))
  open_refused fault answer is (inr (inr bad)) (inl failed) = inl (is ∙ ap fault_of failed)
  open_refused fault answer is (inr (inr bad)) (inr (inl memory)) = inr (inl (is ∙ ap fault_of memory))
  open_refused fault answer is (inr (inr bad)) (inr (inr stood)) =
      inr (inr (λ t.
      subst (λ (a : StoreOpenFault). IsRefused a (content old)) (sym is)
      (refused_of fault (content old) (subst (Refuses fault) (same_content t (stood (content old) (told t old)) (content new) (told t new)) (bad (content new) (told t new))))))
