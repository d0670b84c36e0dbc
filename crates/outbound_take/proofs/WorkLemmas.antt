-- Calls behind calls: what they leave is along all their steps.
use Rattle.std.proofs.Common.{◌≡◌, ◌⊎◌, inl, inr, ⊎_elim, ◌<◌, ◌≤◌, List, [], ◌∷◌, ◌++◌, Option, Some, None, refl, sym, ◌∙◌, ap, subst, arith, le_refl, append_assoc}
use Rattle.std.proofs.lemmas.Bool.{cases_lt}
use Rattle.std.proofs.lemmas.List.{append-nil}
use Rattle.bso_outbound.specs.declared.kind.Kind.{Kind}
use Rattle.node_model.proofs.Lists.{Each-append, Each-weaker}
use Rattle.outbound_model.specs.declared.fate.Fate.{Fate}
use Rattle.outbound_model.specs.Outbound.{Outbound}
use Rattle.outbound_model.specs.OwnNames.{kind_of}
use Rattle.outbound_model.specs.Steps.{Step, Moved, Queued, Dropped, Hit, Acted, Marked, Unmarked, Changed, Made}
use Rattle.outbound_model.specs.Lives.{Reaches, Along}
use Rattle.outbound_model.proofs.Once.{joins}
use Rattle.outbound_take.specs.Stand.{TakeStand, told, OpensTo, Kept, Same, Worked, Works, IsCalm, brought}

abbrev Files : Type 0
Files = List (Option Kind × List Fate)

-- what a path leads to is along it
reached : (a : Outbound) (es : List Step) (b : Outbound) → Reaches a es b → Along a es b
reached a [] b path = path
reached a (e ∷ es) b path = inl path

-- what is along the first steps is along all
along_more : (a : Outbound) (fs es : List Step) (d : Outbound) → Along a es d → Along a (fs ++ es) d
along_more a [] es d along = along
along_more a (f ∷ fs) es d along = inr (along_more a fs es d along)

along_on : (a : Outbound) (es : List Step) (b : Outbound) → Reaches a es b → (fs : List Step) (d : Outbound) → Along b fs d → Along a (fs ++ es) d
along_on a es b path [] d same = subst (Along a es) (sym same) (reached a es b path)
along_on a es b path (f ∷ fs) d (inl more) = inl (joins a es b (f ∷ fs) d path more)
along_on a es b path (f ∷ fs) d (inr along) = inr (along_on a es b path fs d along)

brought-append : (fs es : List Step) → brought (fs ++ es) ≡ brought es ++ brought fs
brought-append [] es = sym (append-nil (brought es))
brought-append (Moved path own bytes ∷ fs) es = brought-append fs es
brought-append (Queued own bytes dest moment fates ∷ fs) es =
    ap (λ (xs : Files). xs ++ (kind_of own, fates) ∷ []) (brought-append fs es) ∙ append_assoc (brought es) (brought fs) ((kind_of own, fates) ∷ [])
brought-append (Dropped own ∷ fs) es = brought-append fs es
brought-append (Hit number ∷ fs) es = brought-append fs es
brought-append (Acted number ∷ fs) es = brought-append fs es
brought-append (Marked path text ∷ fs) es = brought-append fs es
brought-append (Unmarked path text ∷ fs) es = brought-append fs es
brought-append (Changed ∷ fs) es = brought-append fs es

pub opens_weaker : (P Q : Outbound → Type 0) → ((x : Outbound) → P x → Q x) → (d : Option Outbound) → OpensTo P d → OpensTo Q d
opens_weaker P Q f None h = h
opens_weaker P Q f (Some x) h = f x h

-- one run of calls behind another
pub works_on : (P : Step → Type 0) (A B : Type 0) (files more : Files) (old mid new : TakeStand) → Works P A files old mid → A → Works P B more mid new → Works P B (files ++ more) old new
works_on P A B files more old mid new first settled second = record {
  later = omega (arith, first.later, second.later);
  before = λ k d le image. first.before k d le (second.before k d (omega (arith, le, first.later)) image);
  silent = λ none. second.silent (first.silent none);
  made = λ s tells. both s (first.made s tells);
}
  where
    behind : (s : Outbound) (w : Worked P A files s old mid) → Worked P B more w.end mid new → Worked P B (files ++ more) s old new
    behind s w v = record {
      steps = v.steps ++ w.steps;
      ours = Each-append P v.steps w.steps v.ours w.ours;
      end = v.end;
      tells = v.tells;
      is_along = along_on s w.steps w.end (w.ends settled) v.steps v.end v.is_along;
      since = λ k d after until image. ⊎_elim
          (λ (past : mid.moment < k). opens_weaker (Along w.end v.steps) (Along s (v.steps ++ w.steps)) (λ x along. along_on s w.steps w.end (w.ends settled) v.steps x along) d (v.since k d past until image))
          (λ (le : k ≤ mid.moment). opens_weaker (Along s w.steps) (Along s (v.steps ++ w.steps)) (λ x along. along_more s v.steps w.steps x along) d (w.since k d after le (second.before k d le image)))
          (cases_lt mid.moment k);
      ends = λ b. joins s w.steps w.end v.steps v.end (w.ends settled) (v.ends b);
      brings = λ b. brought-append v.steps w.steps ∙ (ap (λ (xs : Files). xs ++ brought v.steps) (w.brings settled) ∙ ap (λ (xs : Files). files ++ xs) (v.brings b));
      now = v.now;
    }

    both : (s : Outbound) → Worked P A files s old mid → Worked P B (files ++ more) s old new
    both s w = behind s w (second.made w.end w.tells)

-- what one call may have done, by what was told: nothing in any case, or one step, which it did where it settles
pub data Leads (P : Step → Type 0) (R : Outbound → Outbound → Type 0) (settles : Type 0) (files : Files) (s : Outbound) : Type 0 where
  Nothing : files ≡ [] → ((t : Outbound) → R s t → t ≡ s) → Leads P R settles files s
  One : (e : Step) → P e → (settles → brought (e ∷ []) ≡ files) → (settles → (t : Outbound) → R s t → Made e s t) → ((t : Outbound) → R s t → (t ≡ s) ⊎ Made e s t) → Leads P R settles files s

pub kept_works : (P : Step → Type 0) (R : Outbound → Outbound → Type 0) (A : Type 0) (files : Files) (old new : TakeStand)
    → ((s : Outbound) → told old ≡ Some s → Leads P R A files s) → Kept R A old new → Works P A files old new
kept_works P R A files old new leads k = record {
  later = k.later;
  before = k.before;
  silent = k.silent;
  made = λ s tells. makes s tells (leads s tells) (k.tells s tells);
}
  where
    makes : (s : Outbound) → told old ≡ Some s → Leads P R A files s → ((t : Outbound) × (told new ≡ Some t) × ((t ≡ s) ⊎ R s t)) → Worked P A files s old new
    makes s tells (Nothing none same) (t, is, which) =
        let stays : t ≡ s = ⊎_elim (λ (e : t ≡ s). e) (λ (r : R s t). same t r) which in
        record {
          steps = [];
          ours = tt;
          end = t;
          tells = is;
          is_along = stays;
          since = λ j d after until image. opens_weaker (λ x. (x ≡ s) ⊎ R s x) (λ x. x ≡ s) (λ x h. ⊎_elim (λ (e : x ≡ s). e) (λ (r : R s x). same x r) h) d (k.since s tells j d after until image);
          ends = λ a. stays;
          brings = λ a. sym none;
          now = λ a d image. k.now a t is d image;
        }
    makes s tells (One e p brings exact may) (t, is, which) = record {
      steps = e ∷ [];
      ours = (p, tt);
      end = t;
      tells = is;
      is_along = along t which;
      since = λ j d after until image. opens_weaker (λ x. (x ≡ s) ⊎ R s x) (Along s (e ∷ [])) along d (k.since s tells j d after until image);
      ends = λ a. (s, refl, exact a t (k.ends a s t tells is));
      brings = brings;
      now = λ a d image. k.now a t is d image;
    }
      where
        along : (x : Outbound) → (x ≡ s) ⊎ R s x → Along s (e ∷ []) x
        along x (inl same) = inr same
        along x (inr r) = ⊎_elim (λ (same : x ≡ s). inr same) (λ (made : Made e s x). inl (s, refl, made)) (may x r)

-- a call that changes nothing
pub same_works : (P : Step → Type 0) (A : Type 0) (old new : TakeStand) → Kept Same A old new → Works P A [] old new
same_works P A old new k = kept_works P Same A [] old new (λ s tells. Nothing refl (λ t same. same)) k

-- the same run, of which less is said
pub works_weaker : (P Q : Step → Type 0) (A B : Type 0) (files : Files) (old new : TakeStand) → ((e : Step) → P e → Q e) → (B → A) → Works P A files old new → Works Q B files old new
works_weaker P Q A B files old new leads back w = record {
  later = w.later;
  before = w.before;
  silent = w.silent;
  made = λ s tells. let v = w.made s tells in record {
    steps = v.steps;
    ours = Each-weaker P Q leads v.steps v.ours;
    end = v.end;
    tells = v.tells;
    is_along = v.is_along;
    since = v.since;
    ends = λ b. v.ends (back b);
    brings = λ b. v.brings (back b);
    now = λ b. v.now (back b);
  };
}

pub works_files : (P : Step → Type 0) (A : Type 0) (files more : Files) (old new : TakeStand) → files ≡ more → Works P A files old new → Works P A more old new
works_files P A files more old new same w = subst (λ (xs : Files). Works P A xs old new) same w

pub calm_after : (P : Step → Type 0) (A : Type 0) (files : Files) (old new : TakeStand) → Works P A files old new → A → IsCalm new
calm_after P A files old new w settled = by_told (told old) refl
  where
    by_told : (o : Option Outbound) → told old ≡ o → IsCalm new
    by_told None none t tells d image = let e = w.silent none in let f = tells in absurd cc
    by_told (Some s) some t tells d image =
        let v = w.made s some in
        let e : v.end ≡ t = let g = v.tells in let f = tells in cc in
        opens_weaker (λ x. x ≡ v.end) (λ x. x ≡ t) (λ x at. at ∙ e) d (v.now settled d image)

-- before the first call
pub works_none : (P : Step → Type 0) (A : Type 0) (s : TakeStand) → IsCalm s → Works P A [] s s
works_none P A s calm = record {
  later = le_refl s.moment;
  before = λ k d le image. image;
  silent = λ none. none;
  made = λ t tells. record {
    steps = [];
    ours = tt;
    end = t;
    tells = tells;
    is_along = refl;
    since = λ k d after until image. let no : ⊥ = omega arith in absurd no;
    ends = λ a. refl;
    brings = λ a. refl;
    now = λ a d image. calm t tells d image;
  };
}

-- nothing told changes by a call that changes nothing
pub same_told : (A : Type 0) (old new : TakeStand) → Kept Same A old new → A → told new ≡ told old
same_told A old new k settled = by_told (told old) refl
  where
    by_told : (o : Option Outbound) → told old ≡ o → told new ≡ told old
    by_told None none = k.silent none ∙ sym none
    by_told (Some s) some =
        let c = k.tells s some in
        c.1 ∙ (ap Some (⊎_elim (λ (e : c.0 ≡ s). e) (λ (e : c.0 ≡ s). e) c.2) ∙ sym some)
