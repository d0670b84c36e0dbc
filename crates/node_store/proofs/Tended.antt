-- A disk that was looked through stays so while strays are removed.
use Rattle.std.proofs.Common.{inl, inr, ℕ, List, None, Result, Ok, Err, sym, subst}
use Rattle.disk_model.specs.World.{World}
use Rattle.disk_model.specs.Changes.{Follows, AtOnce, OnOwn, Puts}
use Rattle.disk_model.specs.Moments.{Now, Steps, Leaves}
use Rattle.disk_model.proofs.MomentLemmas.{goes_on}
use Rattle.ledger_file.specs.Ledger.{LedgerIs}
use Rattle.ledger_rec.specs.Fold.{State}
use Rattle.node_store.specs.Clearing.{Restores}
use Rattle.node_store.specs.Strays.{IsStray}
use Rattle.node_store.specs.Tending.{IsTended}
use Rattle.node_store.proofs.Recovering.{restores-refl, leaves-refl, steady_files}
use Rattle.node_store.proofs.Removing.{removed_steady, removed_ledger, removed_restores, removed_mirrors}

module _ {D : Type 0} (files : D → World → Type 0) (moment : D → ℕ) (images : D → ℕ → World → Type 0) (as_read : (d : D) (w : World) → files d w → Now moment images d w)
    (payloads : List (List ℕ)) (s : State) (old : D) (was : IsTended files moment images payloads s old) where
  -- what is read is a stop's too
  pub read_ledger : (f : World) → files old f → LedgerIs payloads f
  read_ledger f read = was.ledger f (as_read old f read)

  module _ (name : List ℕ) (stray : IsStray s name) (new : D) where
    pub tended_removed : Follows (OnOwn (Puts name None)) (files old) (files new) → Steps moment images (OnOwn (Puts name None)) old new → IsTended files moment images payloads s new
    tended_removed read stop = record {
      folds = was.folds;
      ledger = λ c now. let p = stop.now c now in removed_ledger s name stray p.0 c p.2 payloads (was.ledger p.0 p.1);
      fits = λ f is. let p = read f is in steady_files s p.0 f (was.fits p.0 p.1) (removed_steady s name stray p.0 f p.2);
      same = record { both = λ f c is now. let p = read f is in let q = stop.now c now in removed_mirrors s name stray p.0 f q.0 c p.2 q.2 (was.same.both p.0 q.0 p.1 q.1) };
    }

    one_restores : {T E : Type 0} (result : Result T E) (d c : World) → LedgerIs payloads d → AtOnce result (λ _. OnOwn (Puts name None)) d c → Restores d c
    one_restores (Ok v) d c ledger step = removed_restores s name stray d c step payloads was.folds ledger
    one_restores (Err e) d c ledger (inl same) = subst (Restores d) (sym same) (restores-refl d)
    one_restores (Err e) d c ledger (inr step) = removed_restores s name stray d c step.1 payloads was.folds ledger

    pub removing_stop : {T E : Type 0} (result : Result T E) → Steps moment images (AtOnce result (λ _. OnOwn (Puts name None))) old new → Leaves moment images Restores old new
    removing_stop result call =
        goes_on moment images (AtOnce result (λ _. OnOwn (Puts name None))) Restores old old new (leaves-refl moment images old) call
        (λ c now. let p = call.now c now in (p.0, p.1, one_restores result p.0 c (was.ledger p.0 p.1) p.2))

    pub removing_read : {T E : Type 0} (result : Result T E) → Follows (AtOnce result (λ _. OnOwn (Puts name None))) (files old) (files new) → Follows Restores (files old) (files new)
    removing_read result read f is = let p = read f is in (p.0, p.1, one_restores result p.0 f (read_ledger p.0 p.1) p.2)
