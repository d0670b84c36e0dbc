-- Files that are made durable one after another, and then their records.
use Rattle.std.proofs.Common.{◌≡◌, ℕ, List, [], ◌∷◌, map, Result, Ok, Err, refl, sym, ◌∙◌, subst, inl, inr, ⊎_elim, arith}
use Rattle.std.specs.Prelude.{OnOk}
use Rattle.std.specs.List.{AllByRecursion}
use Rattle.disk_model.specs.World.{World}
use Rattle.disk_model.specs.Changes.{Every, Only, Same}
use Rattle.disk_model.specs.Moments.{Now, Steps, Leaves}
use Rattle.disk_model.proofs.MomentLemmas.{goes_on, runs_on}
use Rattle.ledger_file.specs.Ledger.{ledger_name, LedgerIs, Appends}
use Rattle.ledger_rec.specs.Record.{NewFileText}
use Rattle.node_store.specs.Names.{out_name}
use Rattle.node_store.specs.Planned.{Adds, AllSynced}
use Rattle.node_store.specs.Recording.{IsSynced}
use Rattle.node_store.proofs.Alike.{all_by}
use Rattle.node_store.proofs.NameLaws.{out_not_ledger}

pub all_mapped : {A B : Type 0} (P : B → Type 0) (f : A → B) (xs : List A) → AllByRecursion P (map f xs) → AllByRecursion (λ x. P (f x)) xs
all_mapped P f [] all = tt
all_mapped P f (x ∷ xs) all = (all.0, all_mapped P f xs all.1)

pub on_ok : {T E : Type 0} (r : Result T E) (P : Type 0) → P → OnOk r P
on_ok (Ok t) P p = p
on_ok (Err e) P p = tt

module _ {D : Type 0} (moment : D → ℕ) (images : D → ℕ → World → Type 0) where
  pub one_more : (old mid new : D) → Leaves moment images Same old mid → Steps moment images Same mid new → Leaves moment images Same old new
  one_more old mid new so_far call = goes_on moment images Same Same old mid new so_far call (λ c now.
      let was = call.now c now in
      let first = so_far.each (moment mid) was.0 so_far.grew.later (omega arith) was.1 in
      (first.0, first.1, was.2 ∙ first.2))

  -- the ledger alone changed since
  synced_after : (read : World → Type 0) (files : List NewFileText) (e c : World) → Only ledger_name e c → AllSynced read files e → AllSynced read files c
  synced_after read files e c only =
      all_by (λ (f : NewFileText). IsSynced read (out_name f.number) e) (λ (f : NewFileText). IsSynced read (out_name f.number) c)
      (λ f s. (s.0, s.1, only.others (out_name f.number) (out_not_ledger f.number) ∙ s.2)) files

  only_same : (d e c : World) → e ≡ d → Only ledger_name e c → Only ledger_name d c
  only_same d e c same only = subst (λ (w : World). Only ledger_name w c) same only

  pub synced_run : (read : World → Type 0) (files : List NewFileText) (before more : List (List ℕ)) (old mid new : D) → Every (Now moment images old) (LedgerIs before) → Leaves moment images Same old mid
      → Every (Now moment images mid) (AllSynced read files) → Leaves moment images (Appends before more) mid new → Leaves moment images (Adds (AllSynced read files) before more) old new
  synced_run read files before more old mid new ready first synced second =
      runs_on moment images Same (Appends before more) (Adds (AllSynced read files) before more) old mid new first second
      (λ d c image same. record { others = only_same d c c same (record { others = λ n other. refl; outside = refl; gifts = refl }); ledger = inl (subst (LedgerIs before) (sym same) (ready d image)) })
      (λ d e c image mid_image same step. record {
        others = only_same d e c same step.others;
        ledger = ⊎_elim (λ l. inl l) (λ l. inr (l, synced_after read files e c step.others (synced e mid_image))) step.ledger;
      })

  pub still_synced : (read : World → Type 0) (files : List NewFileText) (before more : List (List ℕ)) (mid new : D) → Every (Now moment images mid) (AllSynced read files) → Leaves moment images (Appends before more) mid new
      → Every (Now moment images new) (AllSynced read files)
  still_synced read files before more mid new synced run c image =
      let was = run.each (moment new) c run.grew.later (omega arith) image in
      synced_after read files was.0 c was.2.others (synced was.0 was.1)
