-- Calls of a disk after which nothing is read or left that wasn't before.
use Rattle.std.proofs.Common.{◌≡◌, ℕ, suc, ◌+◌, ◌≤◌, List, [], ◌∷◌, ◌++◌, length, map, take, get_or, Bool, true, refl, sym, ◌∙◌, ap, subst, arith}
use Rattle.std.specs.List.{AllByRecursion}
use Rattle.std.proofs.lemmas.List.{take_more}
use Rattle.disk_model.specs.World.{World}
use Rattle.disk_model.specs.Changes.{Every, Follows, Same, SameAt}
use Rattle.disk_model.specs.Moments.{Now, Steps}
use Rattle.disk_model.proofs.MomentLemmas.{started, goes_on, runs_on}
use Rattle.node_store.specs.Keeping.{IsUntouched, Beside}

module _ {D : Type 0} (files : D → World → Type 0) (moment : D → ℕ) (images : D → ℕ → World → Type 0) where
  -- no call
  pub untouched-refl : (d : D) → IsUntouched files moment images d d
  untouched-refl d = record { read = λ w read. read; stop = started moment images Same d (λ c now. refl) }

  -- one call
  pub untouched-call : (a b : D) → Every (files b) (files a) → Steps moment images Same a b → IsUntouched files moment images a b
  untouched-call a b read call = record {
    read = read;
    stop = goes_on moment images Same Same a a b (started moment images Same a (λ c now. refl)) call (λ c now. call.now c now);
  }

  -- calls behind calls
  pub untouched-then : (a b c : D) → IsUntouched files moment images a b → IsUntouched files moment images b c → IsUntouched files moment images a c
  untouched-then a b c first second = record {
    read = λ w read. first.read w (second.read w read);
    stop = runs_on moment images Same Same Same a b c first.stop second.stop (λ d e now same. same) (λ d m e now left same after. after ∙ same);
  }

  -- what a stop now leaves could be left before
  pub untouched-now : (a b : D) → IsUntouched files moment images a b → (c : World) → images b (moment b) c → images a (moment a) c
  untouched-now a b u c now =
      let was = u.stop.each (moment b) c u.stop.grew.later (omega arith) now in
      subst (images a (moment a)) (sym was.2) was.1

  pub beside-later : (P : World → World → Type 0) (a b : D) → IsUntouched files moment images a b → Beside files moment images P a → Beside files moment images P b
  beside-later P a b u x = record { both = λ f c read now. x.both f c (u.read f read) (untouched-now a b u c now) }

  pub beside-map : (P Q : World → World → Type 0) (d : D) → ((f c : World) → files d f → P f c → Q f c) → Beside files moment images P d → Beside files moment images Q d
  beside-map P Q d leads x = record { both = λ f c read now. leads f c read (x.both f c read now) }

  pub beside-and : (P Q : World → World → Type 0) (d : D) → Beside files moment images P d → Beside files moment images Q d → Beside files moment images (λ f c. P f c × Q f c) d
  beside-and P Q d x y = record { both = λ f c read now. (x.both f c read now, y.both f c read now) }

  -- item by item
  module _ {A B : Type 0} (view : A → B) (P : B → World → World → Type 0) where
    all_push : (Q : B → Type 0) (xs : List A) (x : A) → AllByRecursion Q (map view xs) → Q (view x) → AllByRecursion Q (map view (xs ++ x ∷ []))
    all_push Q [] x all one = (one, tt)
    all_push Q (y ∷ ys) x all one = (all.0, all_push Q ys x all.1 one)

    pub beside-more : (xs : List A) (i : ℕ) (x : A) (old new : D) → suc i ≤ length xs → x ≡ get_or xs i x → IsUntouched files moment images old new
        → Beside files moment images (λ f c. AllByRecursion (λ (b : B). P b f c) (map view (take i xs))) old → Beside files moment images (P (view x)) new
        → Beside files moment images (λ f c. AllByRecursion (λ (b : B). P b f c) (map view (take (i + 1) xs))) new
    beside-more xs i x old new lt is u so_far here = record {
      both = λ f c read now.
          subst (λ (l : List A). AllByRecursion (λ (b : B). P b f c) (map view l)) (sym (take_more xs i x lt ∙ ap (λ (y : A). take i xs ++ y ∷ []) (sym is)))
          (all_push (λ (b : B). P b f c) (take i xs) x ((beside-later (λ f c. AllByRecursion (λ (b : B). P b f c) (map view (take i xs))) old new u so_far).both f c read now) (here.both f c read now));
    }

  module _ (tells : Bool) (content : D → World) (reads : (d : D) (w : World) → files d w → (tells ≡ true) × (w ≡ content d)) where
    -- a disk reads in one way
    pub one_read : (d : D) (f g : World) → files d f → files d g → g ≡ f
    one_read d f g x y = (reads d g y).1 ∙ sym (reads d f x).1

    -- a file that was made durable
    pub durable_beside : (name : List ℕ) (a b : D) → Every (files b) (files a) → Follows (SameAt name) (files a) (Now moment images b) → Beside files moment images (SameAt name) b
    durable_beside name a b read durable = record {
      both = λ f c is now. let was = durable c now in was.2 ∙ ap (λ (w : World). w.own name) (one_read a f was.0 (read f is) was.1);
    }
