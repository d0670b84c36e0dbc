-- The index of claims follows a call of one seat.
use Rattle.std.proofs.Common.{◌≡◌, ◌==◌, ℕ, true, false, List, Option, Some, None, refl, sym, ◌∙◌, ap, subst, cond, option_map, inl, inr, Result, Ok, Err, OnOk, OnErr, IfOk}
use Rattle.std.specs.Prelude.{is_some}
use Rattle.std.proofs.lemmas.Bool.Decides.{Decides-eqb}
use Rattle.node_model.specs.declared.desk.Offer.{Offer}
use Rattle.node_model.specs.declared.desk.Offer.TheVariants as O
use Rattle.node_model.specs.declared.words.Flavour.{Flavour}
use Rattle.node_model.specs.Calls.{Call, Answer}
use Rattle.node_model.specs.Desks.{Claim, claim_after}
use Rattle.node_model.specs.Items.{EntryOf}
use Rattle.node_model.specs.Stores.{StoreState, StoreStand}
use Rattle.node_model.specs.declared.store.StoreFault.{StoreFault}
use Rattle.ftn_addr.specs.Address.{Address}
use Rattle.hub_core.specs.declared.claim_index.ClaimIndex.{ClaimIndex}
use Rattle.hub_core.specs.Hubs.{Sitting, Chair, HubState, dropped_sitting, chair_in, put_chair, sitting_at, sitting_part, seat_part, with_sitting}
use Rattle.hub_core.specs.HubCalls.{Does, OwnCall}
use Rattle.hub_core.specs.Indices.{Claims, ClaimsOf, KeptFrom, claimer, is_just}
use Rattle.hub_core.specs.Opening.{with_seat}
use Rattle.hub_core.specs.Sending.{ClaimedBy, KeptBack, NextFree, Offers, claims, number_of, sitting_claims, unclaimed_sitting}
use Rattle.hub_core.proofs.Going.{free_alike}
use Rattle.hub_core.proofs.Indexing.{finds_after, finds_still, in_others, in_own, out_others, out_own}
use Rattle.hub_core.proofs.Nodes.{sits_at, chair_at, chair_apart}
use Rattle.hub_core.proofs.Seating.{chair_still}

pub claims_part : (number : ℕ) (o : Option Sitting) → sitting_claims number o ≡ claims number (sitting_part o).claim
claims_part number None = refl
claims_part number (Some x) = refl

claims_just : (number : ℕ) (o : Option Claim) → claims number o ≡ is_just number (option_map number_of o)
claims_just number None = refl
claims_just number (Some c) = refl

-- The index and the seats tell the same of an entry.

by_index : (index : ClaimIndex) (chairs : List Chair) (n : ℕ) → ClaimsOf index chairs → is_some (claimer index n) ≡ true → ClaimedBy chairs n
by_index index chairs n finds some = go (claimer index n) refl some
  where
    go : (o : Option ℕ) → claimer index n ≡ o → is_some o ≡ true → ClaimedBy chairs n
    go None is there = absurd (cc)
    go (Some m) is there =
        let here : (m == m) ≡ true = (Decides-eqb m m).1 refl in
        record { other = m; claims = sym (finds n m) ∙ (ap (is_just m) is ∙ here) }

by_seats : (index : ClaimIndex) (chairs : List Chair) (n : ℕ) → ClaimsOf index chairs → ClaimedBy chairs n → is_some (claimer index n) ≡ true
by_seats index chairs n finds by = go (claimer index n) (finds n by.other ∙ by.claims)
  where
    go : (o : Option ℕ) → is_just by.other o ≡ true → is_some o ≡ true
    go None is = absurd (cc)
    go (Some m) is = refl

to_back : (index : ClaimIndex) (chairs : List Chair) (skipped : List ℕ) (n : ℕ) → ClaimsOf index chairs → KeptFrom index skipped n → KeptBack chairs skipped n
to_back index chairs skipped n finds (inl claimed) = inl (by_index index chairs n finds claimed)
to_back index chairs skipped n finds (inr skip) = inr skip

from_back : (index : ClaimIndex) (chairs : List Chair) (skipped : List ℕ) (n : ℕ) → ClaimsOf index chairs → KeptBack chairs skipped n → KeptFrom index skipped n
from_back index chairs skipped n finds (inl claimed) = inl (by_seats index chairs n finds claimed)
from_back index chairs skipped n finds (inr skip) = inr skip

next_alike : (dests : List Address) (B C : ℕ → Type 0) (queue : List (EntryOf ℕ)) (r : Option (Flavour × ℕ)) → ((n : ℕ) → B n → C n) → ((n : ℕ) → C n → B n) → NextFree dests B queue r → NextFree dests C queue r
next_alike dests B C queue None to from none = λ f is. none f (free_alike dests C B queue f to is)
next_alike dests B C queue (Some at) to from found = record {
  entry = found.entry;
  is_free = free_alike dests B C queue found.entry from found.is_free;
  flavoured = found.flavoured;
  numbered = found.numbered;
  least = λ f is. found.least f (free_alike dests C B queue f to is);
}

pub next_by_seats : (index : ClaimIndex) (chairs : List Chair) (skipped : List ℕ) (dests : List Address) (queue : List (EntryOf ℕ)) (r : Option (Flavour × ℕ)) → ClaimsOf index chairs → NextFree dests (KeptFrom index skipped) queue r → NextFree dests (KeptBack chairs skipped) queue r
next_by_seats index chairs skipped dests queue r finds next =
    next_alike dests (KeptFrom index skipped) (KeptBack chairs skipped) queue r (λ n. to_back index chairs skipped n finds) (λ n. from_back index chairs skipped n finds) next

-- A seat's session is another.

pub kept_finds : (old new : ClaimIndex) (h : HubState) (seat : ℕ) (o : Option Sitting) → ClaimsOf old h.chairs → ((n : ℕ) → claimer new n ≡ claimer old n) → ((n : ℕ) → sitting_claims n o ≡ sitting_claims n (sitting_at h seat)) → ClaimsOf new (with_sitting seat o h).chairs
kept_finds old new h seat o finds did same =
    finds_still sitting_claims (claimer old) (claimer new) h.chairs (with_sitting seat o h).chairs seat finds
    (λ k apart. chair_apart seat (record (chair_in h.chairs seat) { sitting = o }) h.chairs k apart) did
    (λ n. ap (sitting_claims n) (sits_at h seat o) ∙ same n)

-- the session has claimed nothing
pub unclaimed : (h : HubState) (seat : ℕ) → (seat_part h seat).claim ≡ None → (n : ℕ) → sitting_claims n (sitting_at h seat) ≡ false
unclaimed h seat free n = claims_part n (sitting_at h seat) ∙ ap (claims n) free

-- while such a session is out of its seat
pub out_finds : (index : ClaimIndex) (h : HubState) (seat : ℕ) → ClaimsOf index h.chairs → (seat_part h seat).claim ≡ None → ClaimsOf index (with_sitting seat None h).chairs
out_finds index h seat finds free = kept_finds index index h seat None finds (λ n. refl) (λ n. sym (unclaimed h seat free n))

-- its claim is taken out, and it has none
pub removed_finds : (old new : ClaimIndex) (h : HubState) (seat : ℕ) (x : Sitting) (o : Option Sitting) → ClaimsOf old h.chairs → sitting_at h seat ≡ Some x → ((n : ℕ) → claimer new n ≡ cond (is_just n (option_map number_of x.claim)) None (claimer old n)) → ((n : ℕ) → sitting_claims n o ≡ false) → ClaimsOf new (with_sitting seat o h).chairs
removed_finds old new h seat x o finds sits did none =
    let own : (n : ℕ) → is_just seat (claimer old n) ≡ is_just n (option_map number_of x.claim) = λ n. finds n seat ∙ (ap (sitting_claims n) sits ∙ claims_just n x.claim) in
    finds_after sitting_claims (claimer old) (claimer new) h.chairs (with_sitting seat o h).chairs seat finds
    (λ k apart. chair_apart seat (record (chair_in h.chairs seat) { sitting = o }) h.chairs k apart)
    (λ n k apart. ap (is_just k) (did n) ∙ out_others seat k (claimer old n) (is_just n (option_map number_of x.claim)) (own n) apart)
    (λ n. ap (is_just seat) (did n) ∙ (out_own seat (claimer old n) (is_just n (option_map number_of x.claim)) (own n) ∙ sym (ap (sitting_claims n) (sits_at h seat o) ∙ none n)))

-- it was offered an entry, or there was none
pub offered_finds : (old new : ClaimIndex) (h : HubState) (seat : ℕ) (x y : Sitting) (offer : Offer) (cs : List Chair) (s t : StoreState) → ClaimsOf old h.chairs → sitting_at h seat ≡ Some x → (seat_part h seat).claim ≡ None → Offers cs x offer s t y → Claims seat offer old new → ClaimsOf new (with_sitting seat (Some y) h).chairs
offered_finds old new h seat x y (O.File number key) cs s t finds sits free made did =
    let own : (n : ℕ) → is_just seat (claimer old n) ≡ false = λ n. finds n seat ∙ unclaimed h seat free n in
    let now : (n : ℕ) → sitting_claims n (sitting_at (with_sitting seat (Some y) h) seat) ≡ is_just n (Some number) = λ n. ap (sitting_claims n) (sits_at h seat (Some y)) ∙ ap (λ (z : Sitting). claims n z.claim) made.claimed in
    finds_after sitting_claims (claimer old) (claimer new) h.chairs (with_sitting seat (Some y) h).chairs seat finds
    (λ k apart. chair_apart seat (record (chair_in h.chairs seat) { sitting = Some y }) h.chairs k apart)
    (λ n k apart. ap (is_just k) (did.1 n) ∙ in_others seat k (claimer old n) (is_just n (Some number)) (λ (same : (number == n) ≡ true). subst (λ (m : ℕ). claimer old m ≡ None) ((Decides-eqb number n).0 same) did.0) apart)
    (λ n. ap (is_just seat) (did.1 n) ∙ (in_own seat (claimer old n) (is_just n (Some number)) (own n) ∙ sym (now n)))
offered_finds old new h seat x y O.Nothing cs s t finds sits free made did =
    kept_finds old new h seat (Some y) finds did (λ n. ap (λ (z : Sitting). claims n z.claim) made.same ∙ sym (ap (sitting_claims n) sits))

-- A call that leaves the seat's claim.

pub call_finds : (index : ClaimIndex) (h g : HubState) (seat : ℕ) (w : StoreStand) → ClaimsOf index h.chairs → OwnCall seat h w g → (seat_part g seat).claim ≡ (seat_part h seat).claim → ClaimsOf index g.chairs
call_finds index h g seat w finds own same =
    finds_still sitting_claims (claimer index) (claimer index) h.chairs g.chairs seat finds own.others (λ n. refl)
    (λ n. claims_part n (sitting_at g seat) ∙ (ap (claims n) same ∙ sym (claims_part n (sitting_at h seat))))

pub does_finds : (index : ClaimIndex) (v w : StoreStand) (h g : HubState) (seat : ℕ) (call : Call) (answer : Answer) → ClaimsOf index h.chairs → Does v h seat call answer w g → claim_after (seat_part h seat).claim call answer ≡ (seat_part h seat).claim → ClaimsOf index g.chairs
does_finds index v w h g seat call answer finds does same = call_finds index h g seat w finds does.own (ap (λ (p : Rattle.node_model.specs.Desks.DeskPart). p.claim) does.part ∙ same)

-- a count at the seat is another
pub counted_finds : (index : ClaimIndex) (h : HubState) (seat : ℕ) (c : Chair) → ClaimsOf index h.chairs → c.sitting ≡ sitting_at h seat → ClaimsOf index (put_chair seat c h.chairs)
counted_finds index h seat c finds same =
    finds_still sitting_claims (claimer index) (claimer index) h.chairs (put_chair seat c h.chairs) seat finds
    (λ k apart. chair_apart seat c h.chairs k apart) (λ n. refl)
    (λ n. ap (λ (d : Chair). sitting_claims n d.sitting) (chair_at seat c h.chairs) ∙ ap (sitting_claims n) same)

-- one seat more, which is empty, where it was given
pub seated_finds : {E : Type 0} (r : Result ℕ E) (index : ClaimIndex) (h g : HubState) → ClaimsOf index h.chairs → OnOk r (g ≡ with_seat h) → OnErr r (g ≡ h) → ClaimsOf index g.chairs
seated_finds (Ok seat) index h g finds ok err =
    subst (λ (k : HubState). ClaimsOf index k.chairs) (sym ok) (λ n k. finds n k ∙ ap (λ (c : Chair). sitting_claims n c.sitting) (sym (chair_still h.chairs k)))
seated_finds (Err fault) index h g finds ok err = subst (λ (k : HubState). ClaimsOf index k.chairs) (sym err) finds

-- What became of a claim.

pub claimed_finds : (r : Result Offer StoreFault) (old new : ClaimIndex) (h : HubState) (seat : ℕ) (x y : Sitting) (cs : List Chair) (s t : StoreState) → ClaimsOf old h.chairs → sitting_at h seat ≡ Some x → (seat_part h seat).claim ≡ None → IfOk r (λ offer. Offers cs x offer s t y) → IfOk r (λ offer. Claims seat offer old new) → OnErr r (y ≡ x) → OnErr r ((n : ℕ) → claimer new n ≡ claimer old n) → ClaimsOf new (with_sitting seat (Some y) h).chairs
claimed_finds (Ok offer) old new h seat x y cs s t finds sits free made did kept same = offered_finds old new h seat x y offer cs s t finds sits free made did
claimed_finds (Err fault) old new h seat x y cs s t finds sits free made did kept same =
    kept_finds old new h seat (Some y) finds same (λ n. ap (λ (z : Sitting). claims n z.claim) kept ∙ sym (ap (sitting_claims n) sits))

pub settled_finds : (r : Result (Unit {0}) StoreFault) (old new : ClaimIndex) (h : HubState) (seat : ℕ) (x y : Sitting) → ClaimsOf old h.chairs → sitting_at h seat ≡ Some x → OnOk r (y ≡ unclaimed_sitting x) → OnOk r ((n : ℕ) → claimer new n ≡ cond (is_just n (option_map number_of x.claim)) None (claimer old n)) → OnErr r (y ≡ x) → OnErr r ((n : ℕ) → claimer new n ≡ claimer old n) → ClaimsOf new (with_sitting seat (Some y) h).chairs
settled_finds (Ok done) old new h seat x y finds sits free did kept same =
    removed_finds old new h seat x (Some y) finds sits did (λ n. ap (λ (z : Sitting). claims n z.claim) free)
settled_finds (Err fault) old new h seat x y finds sits free did kept same =
    kept_finds old new h seat (Some y) finds same (λ n. ap (λ (z : Sitting). claims n z.claim) kept ∙ sym (ap (sitting_claims n) sits))

-- a session was told that it holds nothing more
pub dropped_finds : (index : ClaimIndex) (h : HubState) (seat : ℕ) → ClaimsOf index h.chairs → ClaimsOf index (with_sitting seat (option_map dropped_sitting (sitting_at h seat)) h).chairs
dropped_finds index h seat finds = kept_finds index index h seat (option_map dropped_sitting (sitting_at h seat)) finds (λ n. refl) (λ n. go n (sitting_at h seat))
  where
    go : (n : ℕ) (o : Option Sitting) → sitting_claims n (option_map dropped_sitting o) ≡ sitting_claims n o
    go n None = refl
    go n (Some x) = refl
