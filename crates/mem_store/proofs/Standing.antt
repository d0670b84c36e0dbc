-- What a look-up finds stands as the calls of a store require it.
use Rattle.std.proofs.Common.{◌≡◌, ◌≢◌, ℕ, ◌==◌, Bool, true, false, not, nat_eq, List, [], ◌∷◌, Option, Some, sym, ◌∙◌, ap, length, get_or, option_map, position}
use Rattle.std.specs.List.{list_all}
use Rattle.std.proofs.lemmas.Bool.Decides.{Decides-eqb}
use Rattle.node_model.specs.Items.{Live, Entry, Receipt}
use Rattle.node_model.specs.Lists.{Member, Each}
use Rattle.node_model.specs.Durable.{body_map, entry_map, receipt_map}
use Rattle.node_model.specs.SendRows.{is_request}
use Rattle.node_model.specs.StoreWords.{IsOpenRequest}
use Rattle.node_model.specs.Stores.{IsLive, IsKept}
use Rattle.node_model.proofs.Distinct.{member_map, same_numbers}
use Rattle.node_model.proofs.Lists.{and_true}
use Rattle.mem_store.proofs.Places.{position_is, first_passes, member_at}
use Rattle.mem_store.specs.ListStates.{ListState, state_of}

-- where a position is found, the item there stands in the list and passes
record Found {X : Type 0} (p : X → Bool) (xs : List X) (x : X) : Type 0 where
  pub there : Member x xs
  pub passes : p x ≡ true

found : {X : Type 0} (p : X → Bool) (xs ys : List X) (i : ℕ) (x : X) (at : Option ℕ) → ys ≡ xs → at ≡ position p ys → at ≡ Some i → x ≡ get_or xs i x → Found p xs x
found p xs ys i x at same is some x_is =
    let h = position_is p xs i (ap (position p) (sym same) ∙ (sym is ∙ some)) in
    record { there = member_at xs i x h.1 x_is; passes = first_passes p xs i x h.0 h.1 x_is }

pub live_here : (s : ListState) (number i : ℕ) (x : Entry) (queue : List Entry) (at : Option ℕ) → queue ≡ s.queue → at ≡ position (λ (e : Entry). e.number == number) queue → at ≡ Some i → x ≡ get_or s.queue i x → body_map length x.body ≡ Live x.key.size → IsLive number (state_of s)
live_here s number i x queue at same is some x_is live =
    let f = found (λ (e : Entry). e.number == number) s.queue queue i x at same is some x_is in
    record { entry = entry_map length x; there = member_map (entry_map length) x s.queue f.there; numbered = (Decides-eqb x.number number).0 f.passes; live = live }

pub kept_here : (s : ListState) (number i : ℕ) (x : Receipt) (inbox : List Receipt) (at : Option ℕ) → inbox ≡ s.inbox → at ≡ position (λ (r : Receipt). r.number == number) inbox → at ≡ Some i → x ≡ get_or s.inbox i x → x.given ≡ false → option_map length x.bytes ≡ Some x.key.size → IsKept number (state_of s)
kept_here s number i x inbox at same is some x_is kept bytes =
    let f = found (λ (r : Receipt). r.number == number) s.inbox inbox i x at same is some x_is in
    record { receipt = receipt_map length x; there = member_map (receipt_map length) x s.inbox f.there; numbered = (Decides-eqb x.number number).0 f.passes; kept = kept; some = bytes }

pub request_here : (s : ListState) (number i : ℕ) (x : Receipt) (inbox : List Receipt) (at : Option ℕ) → inbox ≡ s.inbox → at ≡ position (λ (r : Receipt). r.number == number) inbox → at ≡ Some i → x ≡ get_or s.inbox i x → is_request x.key ≡ true → x.answered ≡ false → IsOpenRequest (Some number) (state_of s).stock.state.inbox
request_here s number i x inbox at same is some x_is request waits =
    let f = found (λ (r : Receipt). r.number == number) s.inbox inbox i x at same is some x_is in
    (receipt_map length x, member_map (receipt_map length) x s.inbox f.there, (Decides-eqb x.number number).0 f.passes, request, waits)

off_true : (b : Bool) → not b ≡ true → b ≡ false
off_true true e = cc
off_true false e = cc

-- a take with that number isn't recorded
pub take_is_new : (number : ℕ) (takes : List ℕ) → list_all (λ n. not (nat_eq n number)) takes ≡ true → Each (λ n. n ≢ number) takes
take_is_new number [] e = tt
take_is_new number (n ∷ takes) e =
    let h = and_true (not (nat_eq n number)) _ e in (same_numbers n number (off_true _ h.0), take_is_new number takes h.1)
