-- What was received when a call ended stays received in every image since.
use Rattle.std.proofs.Common.{◌≡◌, ◌⊎◌, ℕ, ◌≤◌, ◌<◌, Bool, List, [], ◌∷◌, Some, sym, subst, inl, inr, arith}
use Rattle.node_model.specs.Durable.{Durable}
use Rattle.node_model.specs.Node.{Node}
use Rattle.node_model.specs.Calls.{Event, Knows, Tells, Counts_alone, DeskState, Turned, Beside, OwnRow, Made_row, Missing, CallsBeside, Turns}
use Rattle.node_model.specs.Images.{DriftPasses, BesidePass, OwnPasses, TurnPasses, IsState, Stand, Drifted, AlongAt, SettledAt, Rising, RanAt, last_of}
use Rattle.node_model.specs.Receipts.{SettledStays, KnownStays, StaysIn, HasAt}
use Rattle.node_model.proofs.ReceiptsStay.{self_stays, known_on, known_step, drift_stays, in_on, drift_passes, known_passes, stays_same}

same_stays : (a b : Knows) → b ≡ a → KnownStays a b
same_stays a b same = subst (KnownStays a) (sym same) (self_stays a)

beside_stays : (seat : ℕ) (a : Knows) (es : List Event) (b : Knows) → Beside seat a es b → KnownStays a b
beside_stays seat a [] b same = same_stays a b same
beside_stays seat a (e ∷ es) b (mid, caused, step, rest) = known_on a mid b (known_step seat a e.call e.answer mid step) (beside_stays seat mid es b rest)

own_stays : (seat : ℕ) (rows : List Event) (a : Knows) (asked : Event) (b : Knows) → OwnRow seat rows a asked b → KnownStays a b
own_stays seat rows a asked b (Made_row made caused step) = known_step seat a asked.call asked.answer b step
own_stays seat rows a asked b (Missing fault refused is same) = same_stays a b same

turn_stays : (alone : Bool) (a : DeskState) (e : Turned) (b : DeskState) → CallsBeside alone a e b → KnownStays a.knows b.knows
turn_stays alone a e b c =
    let r = c.rows in
    known_on a.knows c.mid b.knows (drift_stays alone a.seat a.knows c.mid c.drift)
    (known_on c.mid r.asks b.knows (beside_stays a.seat c.mid e.before r.asks r.before)
    (known_on r.asks r.answers b.knows (own_stays a.seat e.before r.asks e.asked r.answers r.own) (beside_stays a.seat r.answers e.after b.knows r.after)))

pub turns_stay : (alone : Bool) (a : DeskState) (es : List Turned) (b : DeskState) → Turns alone a es b → KnownStays a.knows b.knows
turns_stay alone a [] b same = subst (λ (x : DeskState). KnownStays a.knows x.knows) (sym same) (self_stays a.knows)
turns_stay alone a (e ∷ es) b (mid, made, rest) = known_on a.knows mid.knows b.knows (turn_stays alone a e mid made) (turns_stay alone mid es b rest)

beside_pass : (seat : ℕ) (a : Knows) (es : List Event) (b : Knows) (rows : Beside seat a es b) (d : Durable) → BesidePass seat a es b rows d → StaysIn a d
beside_pass seat a [] b rows d p = absurd p
beside_pass seat a (e ∷ es) b (mid, caused, step, rest) d (inl p) = known_passes seat a e.call d p
beside_pass seat a (e ∷ es) b (mid, caused, step, rest) d (inr p) = in_on a mid d (known_step seat a e.call e.answer mid step) (beside_pass seat mid es b rest d p)

own_pass : (seat : ℕ) (rows : List Event) (a : Knows) (asked : Event) (b : Knows) (own : OwnRow seat rows a asked b) (d : Durable) → OwnPasses seat rows a asked b own d → StaysIn a d
own_pass seat rows a asked b (Made_row made caused step) d p = known_passes seat a asked.call d p
own_pass seat rows a asked b (Missing fault refused is same) d p = absurd p

turn_pass : (alone : Bool) (a : DeskState) (e : Turned) (b : DeskState) (c : CallsBeside alone a e b) (d : Durable) → TurnPasses alone a e b c d → StaysIn a.knows d
turn_pass alone a e b c d (inl p) = drift_passes alone a.seat a.knows c.mid c.drift d p
turn_pass alone a e b c d (inr (inl p)) = in_on a.knows c.mid d (drift_stays alone a.seat a.knows c.mid c.drift) (beside_pass a.seat c.mid e.before c.rows.asks c.rows.before d p)
turn_pass alone a e b c d (inr (inr (inl p))) =
    in_on a.knows c.mid d (drift_stays alone a.seat a.knows c.mid c.drift)
    (in_on c.mid c.rows.asks d (beside_stays a.seat c.mid e.before c.rows.asks c.rows.before) (own_pass a.seat e.before c.rows.asks e.asked c.rows.answers c.rows.own d p))
turn_pass alone a e b c d (inr (inr (inr p))) =
    in_on a.knows c.mid d (drift_stays alone a.seat a.knows c.mid c.drift)
    (in_on c.mid c.rows.asks d (beside_stays a.seat c.mid e.before c.rows.asks c.rows.before)
    (in_on c.rows.asks c.rows.answers d (own_stays a.seat e.before c.rows.asks e.asked c.rows.answers c.rows.own) (beside_pass a.seat c.rows.answers e.after b.knows c.rows.after d p)))

pub along_pass : (alone : Bool) (a : DeskState) (es : List Turned) (b : DeskState) (c : Turns alone a es b) (from : ℕ) (ts : List ℕ) (k : ℕ) (d : Durable) → AlongAt alone a es b c from ts k d → StaysIn a.knows d
along_pass alone a [] b c from ts k d p = absurd p
along_pass alone a (e ∷ es) b (mid, made, rest) from [] k d p = absurd p
along_pass alone a (e ∷ es) b (mid, made, rest) from (t ∷ ts) k d (inl p) = turn_pass alone a e mid made d p.2
along_pass alone a (e ∷ es) b (mid, made, rest) from (t ∷ ts) k d (inr p) = in_on a.knows mid.knows d (turn_stays alone a e mid made) (along_pass alone mid es b rest t ts k d p)

is_state : (knows : Knows) (d : Durable) → IsState knows d → StaysIn knows d
is_state (Tells n) d is = stays_same n.state d is
is_state (Counts_alone c) d is = tt

same_moment : (t k : ℕ) → k ≤ t → t ≤ k → k ≡ t
same_moment t k a b = omega (arith, a, b)

le_trans : (a b c : ℕ) → a ≤ b → b ≤ c → a ≤ c
le_trans a b c x y = omega (arith, x, y)

-- of calls that ended no earlier
later_has : (alone : Bool) (a : DeskState) (es : List Turned) (b : DeskState) (c : Turns alone a es b) (from : ℕ) (ts : List ℕ) (k : ℕ) (d : Durable) → Rising from es ts → k ≤ from → SettledAt alone a es b c ts k (Some d) → HasAt alone a es b c ts k d
later_has alone a [] b c from ts k d r le s = tt
later_has alone a (e ∷ es) b (mid, made, rest) from [] k d r le s = tt
later_has alone a (e ∷ es) b (mid, made, rest) from (t ∷ ts) k d r le s =
    let early = le_trans k from t le r.0 in
    ((λ by settles after whole. is_state mid.knows d (s.0 (same_moment t k early by) settles after whole)), later_has alone mid es b rest t ts k d r.1 early s.1)

has_at : (alone : Bool) (a : DeskState) (es : List Turned) (b : DeskState) (c : Turns alone a es b) (z : DeskState) (tail : Drifted alone b z) (from : ℕ) (ts : List ℕ) (k : ℕ) (d : Durable) → Rising from es ts → AlongAt alone a es b c from ts k d ⊎ ((last_of from ts < k) × DriftPasses alone b.seat b.knows z.knows tail.drift d) → SettledAt alone a es b c ts k (Some d) → HasAt alone a es b c ts k d
has_at alone a [] b c z tail from ts k d r p s = tt
has_at alone a (e ∷ es) b (mid, made, rest) z tail from [] k d r p s = tt
has_at alone a (e ∷ es) b (mid, made, rest) z tail from (t ∷ ts) k d r (inl (inl p)) s =
    ((λ by settles after whole. is_state mid.knows d (s.0 (same_moment t k p.1 by) settles after whole)), later_has alone mid es b rest t ts k d r.1 p.1 s.1)
has_at alone a (e ∷ es) b (mid, made, rest) z tail from (t ∷ ts) k d r (inl (inr p)) s =
    ((λ by settles after whole. along_pass alone mid es b rest t ts k d p), has_at alone mid es b rest z tail t ts k d r.1 (inl p) s.1)
has_at alone a (e ∷ es) b (mid, made, rest) z tail from (t ∷ ts) k d r (inr p) s =
    ((λ by settles after whole. in_on mid.knows b.knows d (turns_stay alone mid es b rest) (drift_passes alone b.seat b.knows z.knows tail.drift d p.1)), has_at alone mid es b rest z tail t ts k d r.1 (inr p) s.1)

-- From a desk that tells its node.
pub along_stays : (alone : Bool) (a : DeskState) (es : List Turned) (b : DeskState) (old : Node) (c : Turns alone a es b) (from : ℕ) (ts : List ℕ) (k : ℕ) (d : Durable) → AlongAt alone a es b c from ts k d → a.knows ≡ Tells old → SettledStays old.state d
along_stays alone a es b old c from ts k d p tells = subst (λ (knows : Knows). StaysIn knows d) tells (along_pass alone a es b c from ts k d p)

-- At each moment since, each image has what was received when any call before it ended.
pub kept_receipts : (alone : Bool) (old : Stand) (es : List Turned) (new : Stand) (r : RanAt alone old es new) (k : ℕ) (d : Durable) → old.moment < k → k ≤ new.moment → new.images k (Some d) → HasAt alone old.state es r.last r.chain r.times k d
kept_receipts alone old es new r k d after until i =
    has_at alone old.state es r.last r.chain new.state r.tail old.moment r.times k d r.rising (r.since k (Some d) after until i) (r.settled k (Some d) until i)
