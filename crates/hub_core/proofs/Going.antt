-- The place that a session's search goes on from: what isn't skipped stays behind it.
use Rattle.std.proofs.Common.{◌≡◌, ⊎_elim, ◌-◌, ◌<◌, ℕ, zero, suc, length, map, get_or, Bool, true, false, ◌==◌, if◌then◌else◌, List, [], ◌∷◌, Option, Some, None, sym, ◌∙◌, ap, subst, inl, inr, arith}
use Rattle.ftn_addr.specs.Address.{Address}
use Rattle.node_model.specs.declared.words.Flavour.{Flavour}
use Rattle.node_model.specs.Durable.{all_done, done_entry}
use Rattle.node_model.specs.Items.{Done, EntryOf}
use Rattle.node_model.specs.Lists.{Member}
use Rattle.node_model.specs.Stocks.{is_live, IsBehind}
use Rattle.node_model.proofs.Lists.{off, or_true_right}
use Rattle.hub_core.specs.declared.claim_index.ClaimIndex.{ClaimIndex}
use Rattle.hub_core.specs.Indices.{KeptIf}
use Rattle.hub_core.specs.Sending.{Comes, NextFree, place_of}
use Rattle.hub_core.specs.Skips.{AllBehind, IsFree, Skipped, is_skipped}
use Rattle.hub_core.proofs.Finding.{map_member, member_map}

-- what is free where more is kept back is free where less is
pub free_alike : (dests : List Address) (B C : ℕ → Type 0) (queue : List (EntryOf ℕ)) (e : EntryOf ℕ) → ((n : ℕ) → C n → B n) → IsFree dests B queue e → IsFree dests C queue e
free_alike dests B C queue e from is = record { there = is.there; live = is.live; addressed = is.addressed; free = λ back. is.free (from e.number back) }

pub skipped_kept : (o : Option ClaimIndex) (skipped : List ℕ) (n : ℕ) → Skipped skipped n → KeptIf o skipped n
skipped_kept None skipped n skip = skip
skipped_kept (Some index) skipped n skip = inr skip

-- for some of the addresses
pub behind_some : (ds es : List Address) (skipped : List ℕ) (queue : List (EntryOf ℕ)) (at : Option (Flavour × ℕ)) → ((x : Address) → Member x ds → Member x es) → AllBehind es skipped queue at → AllBehind ds skipped queue at
behind_some ds es skipped queue at among all e free =
    all e (record { there = free.there; live = free.live; addressed = among e.dest free.addressed; free = free.free })

pub behind_first : (d : Address) (ds : List Address) (skipped : List ℕ) (queue : List (EntryOf ℕ)) (at : Option (Flavour × ℕ)) → AllBehind (d ∷ ds) skipped queue at → AllBehind (d ∷ []) skipped queue at
behind_first d ds skipped queue at all = behind_some (d ∷ []) (d ∷ ds) skipped queue at (λ x m. ⊎_elim (λ (same : x ≡ d). inl same) (λ (none : ⊥). absurd none) m) all

-- for one of those that are gone through
pub behind_other : {A : Type 0} (f : A → Address) (d : Address) (xs : List A) (k : ℕ) (x : A) (skipped : List ℕ) (queue : List (EntryOf ℕ)) (at : Option (Flavour × ℕ)) → k < length xs → get_or xs k x ≡ x → AllBehind (d ∷ map f xs) skipped queue at → AllBehind (f x ∷ []) skipped queue at
behind_other f d xs k x skipped queue at there is all =
    behind_some (f x ∷ []) (d ∷ map f xs) skipped queue at (λ y m. ⊎_elim (λ (same : y ≡ f x). inr (subst (λ (z : Address). Member z (map f xs)) (sym same) (member_map f xs x (member_at xs k x there is)))) (λ (none : ⊥). absurd none) m) all
  where
    member_at : {A : Type 0} (xs : List A) (k : ℕ) (x : A) → k < length xs → get_or xs k x ≡ x → Member x xs
    member_at [] k x there is = absurd (omega (arith, there))
    member_at (y ∷ xs) zero x there is = inl (sym is)
    member_at (y ∷ xs) (suc k) x there is = inr (member_at xs k x (omega (arith, there)) is)

-- right before the first that isn't skipped, or anywhere where there is none
pub behind_before : (dests : List Address) (skipped : List ℕ) (queue : List (EntryOf ℕ)) (flavour : Flavour) (number : ℕ) → 0 < number → NextFree dests (Skipped skipped) queue (Some (flavour, number)) → AllBehind dests skipped queue (Some (flavour, number - 1))
behind_before dests skipped queue flavour number some next e free = go (next.least e free)
  where
    go : Comes (flavour, number) (place_of e) → IsBehind (Some (flavour, number - 1)) e
    go (inl x) = inl x
    go (inr x) = let m = x.1 in inr (x.0, omega (arith, m, some))

pub behind_none : (dests : List Address) (skipped : List ℕ) (queue : List (EntryOf ℕ)) (at : Option (Flavour × ℕ)) → NextFree dests (Skipped skipped) queue None → AllBehind dests skipped queue at
behind_none dests skipped queue at none e free = absurd (none e free)

-- one more is skipped
pub behind_skipped : (number : ℕ) (dests : List Address) (skipped : List ℕ) (queue : List (EntryOf ℕ)) (at : Option (Flavour × ℕ)) → AllBehind dests skipped queue at → AllBehind dests (number ∷ skipped) queue at
behind_skipped number dests skipped queue at all e free =
    all e (free_alike dests (Skipped (number ∷ skipped)) (Skipped skipped) queue e (λ n skip. or_true_right (number == n) (is_skipped skipped n) skip) free)

-- one is settled
pub behind_done : (number : ℕ) (dests : List Address) (skipped : List ℕ) (queue : List (EntryOf ℕ)) (at : Option (Flavour × ℕ)) → AllBehind dests skipped queue at → AllBehind dests skipped (all_done number queue) at
behind_done number dests skipped queue at all e free =
    let old = map_member (done_entry number) queue e free.there in
    go old.0 old.1 (old.0.number == number) old.2
  where
    go : (f : EntryOf ℕ) → Member f queue → (b : Bool) → e ≡ (if b then record f { body = Done } else f) → IsBehind at e
    go f there true is = off (sym free.live ∙ ap (λ (g : EntryOf ℕ). is_live g.body) is)
    go f there false is =
        all e (record { there = subst (λ (g : EntryOf ℕ). Member g queue) (sym is) there; live = free.live; addressed = free.addressed; free = free.free })
