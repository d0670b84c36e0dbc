-- Making a ledger, and reading one that stands.
use Rattle.std.proofs.Common.{◌≡◌, ◌≢◌, inl, inr, ℕ, zero, suc, ◌+◌, List, [], ◌∷◌, ◌++◌, length, take, drop, Option, Some, None, Result, Ok, Err, refl, sym, ◌∙◌, ap, subst, arith}
use Rattle.std.specs.Prelude.{option_map}
use Rattle.std.proofs.Math.Seq.{take-length}
use Rattle.std.proofs.lemmas.List.{append-nil}
use Rattle.disk_model.specs.World.{World}
use Rattle.disk_model.specs.Changes.{Every, Follows, Same, Stands, AtOnce, Holds, Only, OnOwn, Rewrites, Renames}
use Rattle.disk_model.specs.Moments.{Now, Steps, Leaves}
use Rattle.disk_model.proofs.MomentLemmas.{started, weakened, goes_on}
use Rattle.ledger_file.specs.Text.{header, records}
use Rattle.ledger_file.specs.Ledger.{ledger_name, new_name, LedgerIs, Makes}

-- the bytes of a new ledger
abbrev pub no_records : List ℕ
no_records = (header ++ records []) ++ 0 ∷ []

two : ledger_name ≢ new_name
two same = cc same

pub is_empty : (c : World) → c.own ledger_name ≡ Some no_records → LedgerIs [] c
is_empty c is = (no_records, is, record { byte = 0; rest = []; is = refl; shut = omega arith; sizes = tt; few = omega arith })

pub makes_same : (d : World) → Makes d d
makes_same d = record { others = λ n a b. refl; outside = refl; gifts = refl; ledger = inl refl }

pub makes_only : (d c : World) → Only new_name d c → Makes d c
makes_only d c only = record { others = λ n a b. only.others n b; outside = only.outside; gifts = only.gifts; ledger = inl (only.others ledger_name two) }

makes_renamed : (d m c : World) → Only new_name d m → m.own new_name ≡ Some no_records → OnOwn (Renames new_name ledger_name) m c → Makes d c
makes_renamed d m c only stood step = record {
  others = λ n a b. step.own.others n b a ∙ only.others n b;
  outside = step.outside ∙ only.outside;
  gifts = step.gifts ∙ only.gifts;
  ledger = inr (is_empty c (step.own.moved ∙ stood));
}

abbrev pub RenamesTo : List ℕ → List ℕ → {T : Type 0} → T → World → World → Type 0
RenamesTo from to _ d c = OnOwn (Renames from to) d c

renamed_or_not : {T E : Type 0} (result : Result T E) (d m c : World) → Only new_name d m → m.own new_name ≡ Some no_records → AtOnce result (RenamesTo new_name ledger_name) m c → Makes d c
renamed_or_not (Ok v) d m c only stood step = makes_renamed d m c only stood step
renamed_or_not (Err e) d m c only stood (inl same) = subst (λ (w : World). Makes d w) (sym same) (makes_only d m only)
renamed_or_not (Err e) d m c only stood (inr step) = makes_renamed d m c only stood step.1

module _ {D : Type 0} (moment : D → ℕ) (images : D → ℕ → World → Type 0) (files : D → World → Type 0)
    (as_read : (d : D) (w : World) → files d w → images d (moment d) w) (d0 d1 : D) where
  pub makes_started : Leaves moment images Makes d0 d0
  makes_started = started moment images Makes d0 (λ c now. makes_same c)

  module _ (name : List ℕ) (named : name ≡ new_name) (first : Leaves moment images (Only name) d0 d1) where
    pub new_file_alone : Leaves moment images Makes d0 d1
    new_file_alone = weakened moment images (Only name) Makes d0 d1 (λ d c now only. makes_only d c (subst (λ (n : List ℕ). Only n d c) named only)) first

    module _ (to : List ℕ) (to_is : to ≡ ledger_name) (bytes : List ℕ) (bytes_are : bytes ≡ no_records) (stood : Every (Now moment images d1) (λ w. w.own name ≡ Some bytes)) (d2 : D) {T E : Type 0} (result : Result T E) where
      stood_there : (m : World) → images d1 (moment d1) m → m.own new_name ≡ Some no_records
      stood_there m now = ap (λ (n : List ℕ). m.own n) (sym named) ∙ stood m now ∙ ap Some bytes_are

      as_named : (m c : World) → AtOnce result (RenamesTo name to) m c → AtOnce result (RenamesTo new_name ledger_name) m c
      as_named m c step = subst (λ (t : List ℕ). AtOnce result (RenamesTo new_name t) m c) to_is (subst (λ (n : List ℕ). AtOnce result (RenamesTo n to) m c) named step)

      pub makes_stop : Steps moment images (AtOnce result (RenamesTo name to)) d1 d2 → Leaves moment images Makes d0 d2
      makes_stop call = goes_on moment images (AtOnce result (RenamesTo name to)) Makes d0 d1 d2 new_file_alone call (λ c now.
          let was = call.now c now in
          let before = first.each (moment d1) was.0 first.grew.later (omega arith) was.1 in
          (before.0, before.1, renamed_or_not result before.0 was.0 c (subst (λ (n : List ℕ). Only n before.0 was.0) named before.2) (stood_there was.0 was.1) (as_named was.0 c was.2)))

      pub makes_read : Follows (Only name) (files d0) (files d1) → Follows (AtOnce result (RenamesTo name to)) (files d1) (files d2) → Follows Makes (files d0) (files d2)
      makes_read put call c now =
          let was = call c now in
          let before = put was.0 was.1 in
          (before.0, before.1, renamed_or_not result before.0 was.0 c (subst (λ (n : List ℕ). Only n before.0 was.0) named before.2) (stood_there was.0 (as_read d1 was.0 was.1)) (as_named was.0 c was.2))

-- a run that changes nothing makes nothing
pub makes_from_same : {D : Type 0} (moment : D → ℕ) (images : D → ℕ → World → Type 0) (d0 d1 : D) → Leaves moment images Same d0 d1 → Leaves moment images Makes d0 d1
makes_from_same moment images d0 d1 run = weakened moment images Same Makes d0 d1 (λ d c now same. subst (λ (w : World). Makes d w) (sym same) (makes_same d)) run

-- what was read is the whole file
pub whole : (file : Option (List ℕ)) (len : ℕ) → Some len ≡ option_map length file → (bytes : List ℕ) × (file ≡ Some bytes) × (len ≡ length bytes)
whole None len is = absurd (cc is)
whole (Some bytes) len is = (bytes, refl, cc is)

pub read_back : (out bytes : List ℕ) (n : ℕ) → n ≡ length bytes → out ≡ take n (drop 0 bytes) → out ≡ bytes
read_back out bytes n size is = is ∙ ap (λ (k : ℕ). take k bytes) size ∙ take-length bytes

-- the bytes that were read are those of the ledger's file in each world that is read
pub read_there : (files : World → Type 0) (name : List ℕ) (len n : ℕ) (out bytes : List ℕ) → name ≡ ledger_name → n ≡ len → bytes ≡ out
    → Every files (λ w. Some len ≡ option_map length (w.own ledger_name)) → Every files (λ w. (b : List ℕ) → w.own name ≡ Some b → out ≡ take n (drop 0 b))
    → Every files (λ w. (b : List ℕ) × (w.own ledger_name ≡ Some b) × (bytes ≡ b))
read_there files name len n out bytes named size same stands told w read =
    let stood = whole (w.own ledger_name) len (stands w read) in
    let here : out ≡ take n (drop 0 stood.0) = told w read stood.0 (ap w.own named ∙ stood.1) in
    (stood.0, stood.1, same ∙ read_back out stood.0 n (size ∙ stood.2) here)

pub stands_as_read : (w : World) (name : List ℕ) (len : ℕ) → name ≡ ledger_name → Some len ≡ option_map length (w.own ledger_name) → Stands name 0 w
stands_as_read w name len named is = let stood = whole (w.own ledger_name) len is in (stood.0, ap w.own named ∙ stood.1, omega arith)

-- a file that was cut to nothing and written
drop_nil : (n : ℕ) → drop {A = ℕ} n [] ≡ []
drop_nil zero = refl
drop_nil (suc n) = refl

pub filled : (b bytes a : List ℕ) → b ≡ [] → Holds 0 bytes b a → a ≡ bytes
filled b bytes a empty holds =
    holds ∙ ap (λ (l : List ℕ). take 0 l ++ bytes ++ drop (0 + length bytes) l) empty ∙ ap (λ (l : List ℕ). bytes ++ l) (drop_nil (0 + length bytes)) ∙ append-nil bytes

-- a file that was cut to nothing, written and made durable
pub whole_file : (name bytes : List ℕ) (a b f e : World) → Stands name 0 a → OnOwn (Rewrites name (λ x y. y ≡ take 0 x)) a b → OnOwn (Rewrites name (Holds 0 bytes)) b f → e.own name ≡ f.own name → e.own name ≡ Some bytes
whole_file name bytes a b f e stood cut written same =
    let empty = cut.own.file stood.0 stood.1 in
    let whole = written.own.file empty.0 empty.1 in
    same ∙ whole.1 ∙ ap Some (filled empty.0 bytes whole.0 empty.2 whole.2)
