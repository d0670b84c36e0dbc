-- A part is cut to its mark.
use Rattle.std.proofs.Common.{◌≡◌, ◌≢◌, inl, inr, ℕ, zero, suc, ◌+◌, ◌<◌, ◌≤◌, min, List, [], ◌∷◌, ◌++◌, length, take, map, get_or, Option, Some, None, true, refl, sym, ◌∙◌, ap, subst, arith}
use Rattle.std.specs.List.{AllByRecursion}
use Rattle.std.proofs.lemmas.Bool.{cases_eq}
use Rattle.std.proofs.lemmas.List.{length-take, take_min, take_more}
use Rattle.std.proofs.Math.Seq.{take-take}
use Rattle.disk_model.specs.World.{World}
use Rattle.disk_model.specs.Changes.{Every, Follows, OnOwn, Rewrites, Cut, Stands}
use Rattle.disk_model.specs.Moments.{Now, Steps, Leaves}
use Rattle.disk_model.proofs.MomentLemmas.{goes_on}
use Rattle.ledger_file.specs.Ledger.{ledger_name, LedgerIs}
use Rattle.ledger_rec.specs.Fold.{State}
use Rattle.ledger_rec.specs.Items.{Entry, Receipt, PartMark}
use Rattle.ledger_rec.specs.Order.{IsApartFrom, AreApart, IsOrderly}
use Rattle.ledger_rec.specs.Payloads.{fold_of}
use Rattle.ledger_rec.proofs.OrderFold.{order_fold}
use Rattle.node_model.specs.Lists.{Member}
use Rattle.node_model.proofs.Lists.{Each-member}
use Rattle.node_store.specs.Clearing.{Restores}
use Rattle.node_store.specs.Names.{in_name, out_name, take_number}
use Rattle.node_store.specs.Tending.{HasSameFront, Mirrors, IsTended, CutsPart}
use Rattle.node_store.specs.Worlds.{if_take, HasFiles, HasFront, HasLength}
use Rattle.node_store.proofs.Alike.{in_no_take}
use Rattle.node_store.proofs.NameLaws.{one_in_name, in_not_out, in_not_ledger}
use Rattle.node_store.proofs.NoteNames.{in_no_note, other_than}
use Rattle.node_store.proofs.Recovering.{IsSteady, TakesStay, steady_files, steady_restores, leaves-refl}
use Rattle.node_store.proofs.Removing.{take_is_none, all_free}

-- marks of one number are one mark
one_mark : (m k : PartMark) (ms : List PartMark) → AreApart ms → Member m ms → Member k ms → k.number ≡ m.number → k ≡ m
one_mark m k [] apart a b same = absurd a
one_mark m k (x ∷ xs) apart (inl a) (inl b) same = b ∙ sym a
one_mark m k (x ∷ xs) apart (inl a) (inr b) same = absurd (Each-member (λ (y : PartMark). y.number ≢ x.number) k xs apart.0 b (same ∙ ap (λ (y : PartMark). y.number) a))
one_mark m k (x ∷ xs) apart (inr a) (inl b) same = absurd (Each-member (λ (y : PartMark). y.number ≢ x.number) m xs apart.0 a (sym same ∙ ap (λ (y : PartMark). y.number) b))
one_mark m k (x ∷ xs) apart (inr a) (inr b) same = one_mark m k xs apart.1 a b same

-- what was made of each item
each_of : {A : Type 0} (P : A → Type 0) (all : List A) → ((x : A) → Member x all → P x) → (xs : List A) → ((x : A) → Member x xs → Member x all) → AllByRecursion P xs
each_of P all f [] within = tt
each_of P all f (x ∷ xs) within = (f x (within x (inl refl)), each_of P all f xs (λ y there. within y (inr there)))

pub each_member : {A : Type 0} (P : A → Type 0) (xs : List A) → ((x : A) → Member x xs → P x) → AllByRecursion P xs
each_member P xs f = each_of P xs f xs (λ x there. there)

-- the front of what a cut leaves
front_left : (n : ℕ) (b e : List ℕ) → Cut n b e → n ≤ length b → (n ≤ length e) × (take n e ≡ take n b)
front_left n b e cut long =
    let enough : n ≤ length e = omega (arith, cut.no_shorter, long) in
    (enough, ap (λ (l : List ℕ). take n l) cut.front ∙ take-take n (length e) b enough)

exact_cut : (n : ℕ) (b e : List ℕ) → e ≡ take n b → Cut n b e
exact_cut n b e is = record {
  no_shorter = omega (arith, ap length is, length-take n b);
  front = is ∙ sym (take_min n b) ∙ ap (λ (k : ℕ). take k b) (let same : min n (length b) ≡ length e = sym (ap length is ∙ length-take n b) in same);
}

module _ (s : State) (m : PartMark) (there : Member m s.marks) (orderly : IsOrderly s) where
  abbrev Step : World → World → Type 0
  Step d c = OnOwn (Rewrites (in_name m.number) (Cut m.len)) d c

  apart_receipt : AllByRecursion (λ (r : Receipt). in_name r.number ≢ in_name m.number) s.inbox
  apart_receipt =
      each_member (λ (r : Receipt). in_name r.number ≢ in_name m.number) s.inbox
      (λ r is same. Each-member (λ (k : PartMark). k.number ≢ r.number) m s.marks (Each-member (λ (x : Receipt). IsApartFrom x.number s.marks) r s.inbox orderly.free is) there (sym (one_in_name r.number m.number same)))

  same_mark : (k : PartMark) → Member k s.marks → k.number ≡ m.number → k ≡ m
  same_mark k is same = one_mark m k s.marks orderly.apart there is same

  module _ (d c : World) (step : Step d c) where
    front_here : HasSameFront (in_name m.number) m.len d c
    front_here b is long =
        let f = step.own.file b is in
        (f.0, f.1, (front_left m.len b f.0 f.2 long).1)

    front_of : (k : PartMark) → Member k s.marks → HasSameFront (in_name k.number) k.len d c
    front_of k is = elim (cases_eq k.number m.number) [
      | inl same ↦ subst (λ (x : PartMark). HasSameFront (in_name x.number) x.len d c) (sym (same_mark k is same)) front_here
      | inr other ↦ λ b at long. (b, step.own.others (in_name k.number) (λ same. other (one_in_name k.number m.number same)) ∙ at, refl)
    ]

    same_receipts : (rs : List Receipt) → AllByRecursion (λ (r : Receipt). in_name r.number ≢ in_name m.number) rs → AllByRecursion (λ (r : Receipt). c.own (in_name r.number) ≡ d.own (in_name r.number)) rs
    same_receipts [] apart = tt
    same_receipts (r ∷ rs) apart = (step.own.others (in_name r.number) apart.0, same_receipts rs apart.1)

    pub cut_steady : IsSteady s d c
    cut_steady = record {
      live = all_free (λ (e : Entry). e.live ≡ true → c.own (out_name e.number) ≡ d.own (out_name e.number)) (λ e live. step.own.others (out_name e.number) (λ same. in_not_out m.number e.number (sym same))) s.queue;
      received = same_receipts s.inbox apart_receipt;
      marked = each_member (λ (k : PartMark). HasSameFront (in_name k.number) k.len d c) s.marks front_of;
      outside = step.outside;
      gifts = step.gifts;
    }

    pub cut_ledger : (payloads : List (List ℕ)) → LedgerIs payloads d → LedgerIs payloads c
    cut_ledger payloads ledger = (ledger.0, step.own.others ledger_name (λ same. in_not_ledger m.number (sym same)) ∙ ledger.1, ledger.2)

    cut_take : (n : List ℕ) (take : ℕ) → take_number n ≡ Some take → c.own n ≡ d.own n
    cut_take n take is = step.own.others n (λ same. take_is_none n (in_name m.number) take is (in_no_take m.number) (sym same))

    cut_takes : TakesStay s d c
    cut_takes n = inl (go (take_number n) refl)
      where
        go : (o : Option ℕ) → take_number n ≡ o → if_take o (c.own n) ≡ if_take o (d.own n)
        go None is = refl
        go (Some take) is = cut_take n take is

    pub cut_restores : (payloads : List (List ℕ)) → fold_of payloads ≡ Some s → LedgerIs payloads d → Restores d c
    cut_restores payloads folds ledger = steady_restores payloads s folds d c (inl ledger) (inl (cut_ledger payloads ledger)) cut_steady cut_takes (λ n note. step.own.others n (λ same. other_than n note (in_name m.number) (in_no_note m.number) (sym same))) (λ n other. step.own.others n (other.received m.number))

  -- a cut that was made is one
  made_cut : (d c : World) → CutsPart m d c → Step d c
  made_cut d c step = record {
    own = record {
      file = λ b is. let f = step.own.file b is in (f.0, f.1, exact_cut m.len b f.0 f.2);
      absent = step.own.absent;
      others = step.own.others;
    };
    outside = step.outside;
    gifts = step.gifts;
  }

  pub made_steady : (d c : World) → CutsPart m d c → IsSteady s d c
  made_steady d c step = cut_steady d c (made_cut d c step)

  -- what is read and what a stop leaves go on being the same
  module _ (f f' c c' : World) (read : CutsPart m f f') (left : Step c c') (has : HasFiles s f) (a : Mirrors s f c) where
    pub here_both : HasSameFront (in_name m.number) m.len f' c'
    here_both b' is long =
        let front = Each-member (λ (k : PartMark). HasFront (in_name k.number) k.len f) m s.marks has.marked there in
        let cut = read.own.file front.0 front.1 in
        let is_cut : b' ≡ take m.len front.0 = inj (sym is ∙ cut.1) ∙ cut.2 in
        let same = Each-member (λ (k : PartMark). HasSameFront (in_name k.number) k.len f c) m s.marks a.marked there front.0 front.1 front.2 in
        let long_c : m.len ≤ length same.0 = omega (arith, ap length same.2, length-take m.len same.0, length-take m.len front.0, front.2) in
        let l = left.own.file same.0 same.1 in
        (l.0, l.1, (front_left m.len same.0 l.0 l.2 long_c).1 ∙ same.2 ∙ sym (ap (λ (x : List ℕ). take m.len x) is_cut ∙ take-take m.len m.len front.0 (omega arith)))
      where
        inj : {x y : List ℕ} → Some x ≡ Some y → x ≡ y
        inj e = cc

    both_of : (k : PartMark) → Member k s.marks → HasSameFront (in_name k.number) k.len f' c'
    both_of k is = elim (cases_eq k.number m.number) [
      | inl same ↦ subst (λ (x : PartMark). HasSameFront (in_name x.number) x.len f' c') (sym (same_mark k is same)) here_both
      | inr other ↦ λ b at long.
          let apart = λ (same : in_name k.number ≡ in_name m.number). other (one_in_name k.number m.number same) in
          let was = Each-member (λ (x : PartMark). HasSameFront (in_name x.number) x.len f c) k s.marks a.marked is b (sym (read.own.others (in_name k.number) apart) ∙ at) long in
          (was.0, left.own.others (in_name k.number) apart ∙ was.1, was.2)
    ]

    stays : (n : List ℕ) → n ≢ in_name m.number → c.own n ≡ f.own n → c'.own n ≡ f'.own n
    stays n other same = left.own.others n other ∙ same ∙ sym (read.own.others n other)

    pub cut_mirrors : Mirrors s f' c'
    cut_mirrors = record {
      live = each_member (λ (e : Entry). e.live ≡ true → c'.own (out_name e.number) ≡ f'.own (out_name e.number)) s.queue
          (λ e is live. stays (out_name e.number) (λ same. in_not_out m.number e.number (sym same)) (Each-member (λ (x : Entry). x.live ≡ true → c.own (out_name x.number) ≡ f.own (out_name x.number)) e s.queue a.live is live));
      received = each_member (λ (r : Receipt). c'.own (in_name r.number) ≡ f'.own (in_name r.number)) s.inbox
          (λ r is. stays (in_name r.number) (Each-member (λ (x : Receipt). in_name x.number ≢ in_name m.number) r s.inbox apart_receipt is) (Each-member (λ (x : Receipt). c.own (in_name x.number) ≡ f.own (in_name x.number)) r s.inbox a.received is));
      marked = each_member (λ (k : PartMark). HasSameFront (in_name k.number) k.len f' c') s.marks both_of;
      takes = λ n take is. stays n (λ same. take_is_none n (in_name m.number) take is (in_no_take m.number) (sym same)) (a.takes n take is);
      outside = left.outside ∙ a.outside ∙ sym read.outside;
      gifts = left.gifts ∙ a.gifts ∙ sym read.gifts;
    }

-- The call.
module _ {D : Type 0} (files : D → World → Type 0) (moment : D → ℕ) (images : D → ℕ → World → Type 0) (as_read : (d : D) (w : World) → files d w → Now moment images d w)
    (payloads : List (List ℕ)) (s : State) (m : PartMark) (there : Member m s.marks) (old : D) (was : IsTended files moment images payloads s old) where
  orderly : IsOrderly s
  orderly = order_fold payloads s was.folds

  pub part_stands : (name : List ℕ) → name ≡ in_name m.number → Every (files old) (Stands name m.len)
  part_stands name named w read =
      let front = Each-member (λ (k : PartMark). HasFront (in_name k.number) k.len w) m s.marks (was.fits w read).marked there in
      (front.0, ap w.own named ∙ front.1, front.2)

  module _ (name : List ℕ) (named : name ≡ in_name m.number) (new : D) where
    as_named : (d c : World) → OnOwn (Rewrites name (Cut m.len)) d c → OnOwn (Rewrites (in_name m.number) (Cut m.len)) d c
    as_named d c step = subst (λ (n : List ℕ). OnOwn (Rewrites n (Cut m.len)) d c) named step

    cut_named : Follows (OnOwn (Rewrites name (λ b e. e ≡ take m.len b))) (files old) (files new) → Follows (CutsPart m) (files old) (files new)
    cut_named read = subst (λ (n : List ℕ). Follows (OnOwn (Rewrites n (λ b e. e ≡ take m.len b))) (files old) (files new)) named read

    pub tended_cut : Follows (OnOwn (Rewrites name (λ b e. e ≡ take m.len b))) (files old) (files new) → Steps moment images (OnOwn (Rewrites name (Cut m.len))) old new → IsTended files moment images payloads s new
    tended_cut cut stop =
        let read = cut_named cut in
        record {
          folds = was.folds;
          ledger = λ c now. let p = stop.now c now in cut_ledger s m there orderly p.0 c (as_named p.0 c p.2) payloads (was.ledger p.0 p.1);
          fits = λ f is. let p = read f is in steady_files s p.0 f (was.fits p.0 p.1) (made_steady s m there orderly p.0 f p.2);
          same = record { both = λ f c is now. let p = read f is in let q = stop.now c now in cut_mirrors s m there orderly p.0 f q.0 c p.2 (as_named q.0 c q.2) (was.fits p.0 p.1) (was.same.both p.0 q.0 p.1 q.1) };
        }

    pub cutting_stop : Steps moment images (OnOwn (Rewrites name (Cut m.len))) old new → Leaves moment images Restores old new
    cutting_stop call =
        goes_on moment images (OnOwn (Rewrites name (Cut m.len))) Restores old old new (leaves-refl moment images old) call
        (λ c now. let p = call.now c now in (p.0, p.1, cut_restores s m there orderly p.0 c (as_named p.0 c p.2) payloads was.folds (was.ledger p.0 p.1)))

    pub cutting_read : Follows (OnOwn (Rewrites name (Cut m.len))) (files old) (files new) → Follows Restores (files old) (files new)
    cutting_read read f is =
        let p = read f is in
        (p.0, p.1, cut_restores s m there orderly p.0 f (as_named p.0 f p.2) payloads was.folds (was.ledger p.0 (as_read old p.0 p.1)))

-- All parts, one after another.

all_within : {A : Type 0} (P Q : A → Type 0) (all : List A) → ((x : A) → Member x all → P x → Q x) → (xs : List A) → ((x : A) → Member x xs → Member x all) → AllByRecursion P xs → AllByRecursion Q xs
all_within P Q all f [] within has = tt
all_within P Q all f (x ∷ xs) within has = (f x (within x (inl refl)) has.0, all_within P Q all f xs (λ y there. within y (inr there)) has.1)

take_member : {A B : Type 0} (view : A → B) (i : ℕ) (xs : List A) (x : B) → Member x (map view (take i xs)) → Member x (map view xs)
take_member view zero xs x there = absurd there
take_member view (suc i) [] x there = absurd there
take_member view (suc i) (y ∷ xs) x (inl same) = inl same
take_member view (suc i) (y ∷ xs) x (inr there) = inr (take_member view i xs x there)

all_last : {A B : Type 0} (view : A → B) (Q : B → Type 0) (xs : List A) (x : A) → AllByRecursion Q (map view xs) → Q (view x) → AllByRecursion Q (map view (xs ++ x ∷ []))
all_last view Q [] x all one = (one, tt)
all_last view Q (y ∷ ys) x all one = (all.0, all_last view Q ys x all.1 one)

length_cut : (n : ℕ) (b e : List ℕ) → e ≡ take n b → n ≤ length b → length e ≡ n
length_cut n b e is long = omega (arith, ap length is, length-take n b, long)

module _ (s : State) (m : PartMark) (there : Member m s.marks) (orderly : IsOrderly s) (d c : World) (has : HasFiles s d) (step : CutsPart m d c) where
  now_cut : HasLength (in_name m.number) m.len c
  now_cut =
      let front = Each-member (λ (k : PartMark). HasFront (in_name k.number) k.len d) m s.marks has.marked there in
      let f = step.own.file front.0 front.1 in
      (f.0, f.1, length_cut m.len front.0 f.0 f.2 front.2)

  still_cut : (k : PartMark) → Member k s.marks → HasLength (in_name k.number) k.len d → HasLength (in_name k.number) k.len c
  still_cut k is long = elim (cases_eq k.number m.number) [
    | inl same ↦ subst (λ (x : PartMark). HasLength (in_name x.number) x.len c) (sym (same_mark s m there orderly k is same)) now_cut
    | inr other ↦ (long.0, step.own.others (in_name k.number) (λ same. other (one_in_name k.number m.number same)) ∙ long.1, long.2)
  ]

pub cut_more : {A : Type 0} (view : A → PartMark) (xs : List A) (s : State) → map view xs ≡ s.marks → IsOrderly s → (i : ℕ) (x : A) → i < length xs → x ≡ get_or xs i x → (there : Member (view x) s.marks)
    → (old new : World → Type 0) → Every old (HasFiles s) → Every old (λ w. AllByRecursion (λ (k : PartMark). HasLength (in_name k.number) k.len w) (map view (take i xs))) → Follows (CutsPart (view x)) old new
    → Every new (λ w. AllByRecursion (λ (k : PartMark). HasLength (in_name k.number) k.len w) (map view (take (i + 1) xs)))
cut_more {A} view xs s all orderly i x lt is there old new fits so_far step w read =
    let p = step w read in
    let Long : World → PartMark → Type 0 = λ v k. HasLength (in_name k.number) k.len v in
    subst (λ (l : List A). AllByRecursion (Long w) (map view l)) (sym (take_more xs i x lt ∙ ap (λ (y : A). take i xs ++ y ∷ []) (sym is)))
    (all_last view (Long w) (take i xs) x
    (all_within (Long p.0) (Long w) s.marks (λ k among. still_cut s (view x) there orderly p.0 w (fits p.0 p.1) p.2 k among) (map view (take i xs)) (λ k among. subst (Member k) all (take_member view i xs k among)) (so_far p.0 p.1))
    (now_cut s (view x) there orderly p.0 w (fits p.0 p.1) p.2))
