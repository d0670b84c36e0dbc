-- Entries that aren't kept back at a hub are those that its node may offer.
use Rattle.std.proofs.Common.{◌≡◌, ◌≢◌, ◌⊎◌, ℕ, Bool, true, false, ◌||◌, ◌==◌, List, [], ◌∷◌, Option, Some, None, length, option_map, refl, sym, ◌∙◌, ap, subst, inl, inr, ⊎_elim}
use Rattle.ftn_addr.specs.Key.{Key}
use Rattle.node_model.specs.declared.words.Flavour.{Flavour}
use Rattle.node_model.specs.Items.{Body, Live, Done, Entry, EntryOf}
use Rattle.node_model.specs.Lists.{Member}
use Rattle.node_model.specs.Durable.{body_map, entry_map}
use Rattle.node_model.specs.Desks.{Claim}
use Rattle.node_model.specs.Node.{session_at, claim_in}
use Rattle.node_model.specs.SendRows.{Candidate, Precedes}
use Rattle.node_model.specs.Sound.{same_number}
use Rattle.node_model.specs.Stocks.{Stock, Sizes, sizes, is_live}
use Rattle.node_model.specs.StoreWords.{KeyOf}
use Rattle.node_model.specs.Stores.{Stored, StoreState}
use Rattle.node_model.proofs.Distinct.{distinct_one}
use Rattle.node_model.proofs.Lists.{decide_line, off, or_true, or_true_right}
use Rattle.hub_core.specs.Hubs.{Sitting, HubState, HubFits, with_sitting, sitting_at, session_over, node_with}
use Rattle.hub_core.specs.HubLaws.{session_of}
use Rattle.hub_core.specs.Sending.{claims, sitting_claims, ClaimedBy, KeptBack, Comes, place_of, NextOf, dests_of}
use Rattle.hub_core.specs.Skips.{IsFree, is_skipped}
use Rattle.hub_core.proofs.Finding.{member_map, map_member}
use Rattle.hub_core.proofs.Nodes.{sits_at, sits_apart}
use Rattle.hub_core.proofs.OpenParts.{same_number as numbers_are, number_same}

-- Claims.

claimed_number : (number : ℕ) (stock : Stock) (o : Option Sitting) → sitting_claims number o ≡ true → claim_in (option_map (session_over stock) o) ≡ Some number
claimed_number number stock None t = off (sym t)
claimed_number number stock (Some x) t = go x.claim t
  where
    go : (c : Option Claim) → claims number c ≡ true → option_map (λ (c : Claim). c.number) c ≡ Some number
    go None t = off (sym t)
    go (Some c) t = ap Some (numbers_are c.number number t)

number_claimed : (number : ℕ) (stock : Stock) (o : Option Sitting) → claim_in (option_map (session_over stock) o) ≡ Some number → sitting_claims number o ≡ true
number_claimed number stock None e = absurd (cc)
number_claimed number stock (Some x) e = go x.claim e
  where
    go : (c : Option Claim) → option_map (λ (c : Claim). c.number) c ≡ Some number → claims number c ≡ true
    go None e = absurd (cc)
    go (Some c) e = number_same c.number number (let same : c.number ≡ number = cc in same)

-- where the seat's own session has none, the claims of the others are all
claimed_node : (a : Stored) (s : StoreState) (h : HubState) (seat number : ℕ) → ClaimedBy (with_sitting seat None h).chairs number → (k : ℕ) × (claim_in (session_at (node_with a s h) k) ≡ Some number)
claimed_node a s h seat number c = go (decide_line c.other seat)
  where
    go : (c.other ≡ seat) ⊎ (c.other ≢ seat) → (k : ℕ) × (claim_in (session_at (node_with a s h) k) ≡ Some number)
    go (inl here) =
        off (sym (sym (ap (λ (k : ℕ). sitting_claims number (sitting_at (with_sitting seat None h) k)) here ∙ ap (sitting_claims number) (sits_at h seat None)) ∙ c.claims))
    go (inr apart) =
        let t : sitting_claims number (sitting_at h c.other) ≡ true = ap (sitting_claims number) (sym (sits_apart h seat None c.other apart)) ∙ c.claims in
        (c.other, ap claim_in (session_of a s h c.other) ∙ claimed_number number a.stock (sitting_at h c.other) t)

node_claimed : (a : Stored) (s : StoreState) (h : HubState) (seat number : ℕ) (x : Sitting) → sitting_at h seat ≡ Some x → x.claim ≡ None → (k : ℕ) → claim_in (session_at (node_with a s h) k) ≡ Some number → ClaimedBy (with_sitting seat None h).chairs number
node_claimed a s h seat number x sits free k e = go (decide_line k seat)
  where
    is : sitting_claims number (sitting_at h k) ≡ true
    is = number_claimed number a.stock (sitting_at h k) (sym (ap claim_in (session_of a s h k)) ∙ e)

    go : (k ≡ seat) ⊎ (k ≢ seat) → ClaimedBy (with_sitting seat None h).chairs number
    go (inl here) =
        off (sym (sym (ap (λ (j : ℕ). sitting_claims number (sitting_at h j)) here ∙ (ap (sitting_claims number) sits ∙ ap (claims number) free)) ∙ is))
    go (inr apart) = record { other = k; claims = ap (sitting_claims number) (sits_apart h seat None k apart) ∙ is }

-- Skips.

skipped_member : (number : ℕ) (xs : List ℕ) → is_skipped xs number ≡ true → Member number xs
skipped_member number [] t = off (sym t)
skipped_member number (x ∷ xs) t = go (x == number) refl t (λ e. skipped_member number xs e)
  where
    go : (b : Bool) → (x == number) ≡ b → (b || is_skipped xs number) ≡ true → (is_skipped xs number ≡ true → Member number xs) → Member number (x ∷ xs)
    go true is t rest = inl (sym (numbers_are x number is))
    go false is t rest = inr (rest t)

member_skipped : (number : ℕ) (xs : List ℕ) → Member number xs → is_skipped xs number ≡ true
member_skipped number [] m = absurd m
member_skipped number (x ∷ xs) (inl same) = or_true (x == number) (is_skipped xs number) (number_same x number (sym same))
member_skipped number (x ∷ xs) (inr m) = or_true_right (x == number) (is_skipped xs number) (member_skipped number xs m)

-- Live entries.

live_bytes : (b : Body) → is_live (body_map length b) ≡ true → (bytes : List ℕ) × (b ≡ Live bytes)
live_bytes (Live bytes) t = (bytes, refl)
live_bytes Done t = off (sym t)

pub candidate_free : (a : Stored) (s : StoreState) (h : HubState) (seat : ℕ) (x : Sitting) (e : Entry) → s.stock ≡ sizes a.stock → Candidate (node_with a s h) (session_over a.stock x) e → IsFree (dests_of x) (KeptBack (with_sitting seat None h).chairs x.skipped) s.stock.state.queue (entry_map length e)
candidate_free a s h seat x e is c = record {
  there = subst (λ (t : Sizes). Member (entry_map length e) t.state.queue) (sym is) (member_map (entry_map length) a.stock.state.queue e c.queued);
  live = ap (λ (b : Body). is_live (body_map length b)) c.live;
  addressed = c.for_peer;
  free = ⊎_elim (λ (k : ClaimedBy (with_sitting seat None h).chairs e.number). let w = claimed_node a s h seat e.number k in c.unclaimed w.0 w.1) (λ (t : is_skipped x.skipped e.number ≡ true). c.unskipped (skipped_member e.number x.skipped t));
}

pub free_candidate : (a : Stored) (s : StoreState) (h : HubState) (seat : ℕ) (x : Sitting) (e : Entry) → sitting_at h seat ≡ Some x → x.claim ≡ None → Member e a.stock.state.queue → IsFree (dests_of x) (KeptBack (with_sitting seat None h).chairs x.skipped) s.stock.state.queue (entry_map length e) → Candidate (node_with a s h) (session_over a.stock x) e
free_candidate a s h seat x e sits unclaimed there f =
    let live = live_bytes e.body f.live in
    record {
      queued = there;
      bytes = live.0;
      live = live.1;
      for_peer = f.addressed;
      unclaimed = λ k is. f.free (inl (node_claimed a s h seat e.number x sits unclaimed k is));
      unskipped = λ m. f.free (inr (member_skipped e.number x.skipped m));
    }

-- the entry that a store tells with its size, with its bytes
pub entry_told : (a : Stored) (s : StoreState) (f : EntryOf ℕ) → s.stock ≡ sizes a.stock → Member f s.stock.state.queue → (e : Entry) × Member e a.stock.state.queue × (f ≡ entry_map length e)
entry_told a s f is there =
    map_member (entry_map length) a.stock.state.queue f (subst (λ (t : Sizes). Member f t.state.queue) is there)

-- entries of one number are one
pub one_entry : (a : Stored) (s : StoreState) (h : HubState) (e f : Entry) → HubFits a s h → Member e a.stock.state.queue → Member f a.stock.state.queue → e.number ≡ f.number → e ≡ f
one_entry a s h e f fits there here same =
    distinct_one same_number a.stock.state.queue e f fits.sound.queue.numbers there here (number_same e.number f.number same) (number_same f.number e.number (sym same))

-- The next.

-- the first that may be offered
pub record NextTold (a : Stored) (s : StoreState) (h : HubState) (x : Sitting) (number : ℕ) : Type 0 where
  pub entry : Entry
  pub numbered : entry.number ≡ number
  pub candidate : Candidate (node_with a s h) (session_over a.stock x) entry
  pub least : (f : Entry) → Candidate (node_with a s h) (session_over a.stock x) f → Precedes entry f

pub next_told : (a : Stored) (s : StoreState) (h : HubState) (seat : ℕ) (x : Sitting) (at : Flavour × ℕ) → HubFits a s h → sitting_at h seat ≡ Some x → x.claim ≡ None → NextOf (with_sitting seat None h).chairs x s (Some at) → NextTold a s h x at.1
next_told a s h seat x at fits sits unclaimed n =
    let told = entry_told a s n.entry fits.stock n.is_free.there in
    let e = told.0 in
    let free = subst (IsFree (dests_of x) (KeptBack (with_sitting seat None h).chairs x.skipped) s.stock.state.queue) told.2 n.is_free in
    let number : e.number ≡ at.1 = ap (λ (f : EntryOf ℕ). f.number) (sym told.2) ∙ n.numbered in
    let flavour : e.flavour ≡ at.0 = ap (λ (f : EntryOf ℕ). f.flavour) (sym told.2) ∙ n.flavoured in
    record {
      entry = e;
      numbered = number;
      candidate = free_candidate a s h seat x e sits unclaimed told.1 free;
      least = λ f c. subst (λ (p : Flavour × ℕ). Comes p (place_of (entry_map length f))) (λ i. (sym flavour i, sym number i)) (n.least (entry_map length f) (candidate_free a s h seat x f fits.stock c));
    }

pub none_told : (a : Stored) (s : StoreState) (h : HubState) (seat : ℕ) (x : Sitting) → HubFits a s h → NextOf (with_sitting seat None h).chairs x s None → (f : Entry) → Candidate (node_with a s h) (session_over a.stock x) f → ⊥
none_told a s h seat x fits n f c = n (entry_map length f) (candidate_free a s h seat x f fits.stock c)

-- it has the key that the store gives by its number
pub next_keyed : (a : Stored) (s : StoreState) (h : HubState) (e : Entry) (number : ℕ) (key : Key) → HubFits a s h → Member e a.stock.state.queue → e.number ≡ number → KeyOf number key s.stock.state.queue → e.key ≡ key
next_keyed a s h e number key fits there numbered k =
    let told = entry_told a s k.0 fits.stock k.1 in
    let same : e ≡ told.0 = one_entry a s h e told.0 fits there told.1 (numbered ∙ (sym k.2 ∙ ap (λ (f : EntryOf ℕ). f.number) told.2)) in
    ap (λ (f : Entry). f.key) same ∙ (ap (λ (f : EntryOf ℕ). f.key) (sym told.2) ∙ k.3)
