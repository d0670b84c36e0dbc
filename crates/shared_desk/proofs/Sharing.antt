-- Turns of other seats are steps of others to a desk, and a call behind them is a call of a desk that isn't alone.
use Rattle.std.proofs.Common.{◌≡◌, ◌≢◌, ◌⊎◌, ℕ, ◌≤◌, ◌<◌, true, false, List, [], ◌∷◌, Option, refl, sym, ◌∙◌, subst, inl, inr, le_refl, arith}
use Rattle.node_model.specs.Durable.{Durable}
use Rattle.node_model.specs.Calls.{Call, Answer, SeatCounts, Knows, Tells, Counts_alone, counts_of, Drifts, DeskState, Turned, turned, CallsBeside}
use Rattle.node_model.specs.Images.{DriftPasses, TurnPasses, OpensTo, Stand, Kept, Drifted, Shared, AlongAt, RanAt, last_of}
use Rattle.node_model.proofs.Drifting.{drift_none, drifted_none, Earlier, earlier}
use Rattle.node_model.proofs.Rans.{ran_shared, ran_then, last-rises, opens_weaker, le_trans, le_total}
use Rattle.node_model.proofs.SharedHub.{others_shared}
use Rattle.turn_gate.specs.Turns.{Path, ByOthers}
use Rattle.shared_desk.specs.Seen.{Alike, SameOwn, Within, Sight, stand, OneHub, SeatTurn, Found}
use Rattle.shared_desk.proofs.Counting.{onward_none, Untold, untold_turns, none_along, rises_within, Told, told_turns}

-- One after another.

record FromLast (b l : DeskState) (t : Drifted false l b) (a : DeskState) : Type 0 where
  pub drifted : Drifted false a b
  pub same : (d : Durable) → DriftPasses false l.seat l.knows b.knows t.drift d → DriftPasses false a.seat a.knows b.knows drifted.drift d

from_last : (a b l : DeskState) (t : Drifted false l b) → l ≡ a → FromLast b l t a
from_last a b l t e = subst (λ (s : DeskState). FromLast b l t s) e (record { drifted = t; same = λ d p. p })

no_call : {P B : Type 0} → ⊥ ⊎ (B × P) → P
no_call (inl p) = absurd p
no_call (inr p) = p.1

pub from_ran : (a b : Stand) → RanAt false a [] b → Shared false a b
from_ran a b r =
    let f = from_last a.state b.state r.last r.tail r.chain in
    record {
      drifted = f.drifted;
      later = le_trans a.moment (last_of a.moment r.times) b.moment (last-rises a.moment [] r.times r.rising) r.ends;
      before = r.before;
      since = λ k d after until i. opens_weaker _ _ (λ x p. f.same x (no_call p)) d (r.since k d after until i);
    }

pub shared_then : (a b c : Stand) → Shared false a b → Shared false b c → Shared false a c
shared_then a b c x y = from_ran a c (ran_then false a [] b [] c (ran_shared false a b x) (ran_shared false b c y))

pub shared_none : (a : Stand) → Shared false a a
shared_none a = record { drifted = drifted_none false a.state; later = le_refl a.moment; before = λ k d _ i. i; since = λ k d x y i. absurd (not_between a.moment k x y) }
  where
    not_between : (m k : ℕ) → m < k → k ≤ m → ⊥
    not_between m k a b = omega arith

-- Of a seat that tells no node.

untold_shared : (i k : ℕ) (c d e f : SeatCounts) (m n : ℕ) (A B : ℕ → Option Durable → Type 0) (es : List Turned)
    → c.store ≡ e.store → d.store ≡ f.store → Within e.store → (d.busy ≡ c.busy) × (d.reads ≡ c.reads)
    → RanAt true (record { state = record { seat = k; knows = Counts_alone e }; moment = m; images = A }) es (record { state = record { seat = k; knows = Counts_alone f }; moment = n; images = B })
    → Shared false (record { state = record { seat = i; knows = Counts_alone c }; moment = m; images = A }) (record { state = record { seat = i; knows = Counts_alone d }; moment = n; images = B })
untold_shared i k c d e f m n A B es ce df within own r =
    let first : Untold e.store (Counts_alone e) = onward_none e.store in
    let last : Untold e.store (Counts_alone f) = subst (Untold e.store) (sym r.tail.drift) (untold_turns e.store (record { seat = k; knows = Counts_alone e }) es r.last first r.chain) in
    let rises = rises_within e.store f.store within last in
    record {
      drifted = record { seat = refl; drift = record { store = rw (ce, df) rises; breaks = rw (ce, df) last.breaks; busy = own.0; reads = own.1 } };
      later = le_trans m (last_of m r.times) n (last-rises m es r.times r.rising) r.ends;
      before = r.before;
      since = λ t x after until j. opens_weaker _ _ (λ y p. none_of first t y p) x (r.since t x after until j);
    }
  where
    none_of : Untold e.store (Counts_alone e) → {Late : Type 0} (t : ℕ) (y : Durable) → AlongAt true (record { seat = k; knows = Counts_alone e }) es r.last r.chain m r.times t y ⊎ (Late × ⊥) → ⊥
    none_of first t y (inl p) = none_along e.store _ es r.last r.chain m r.times t y first p
    none_of first t y (inr p) = absurd p.1

-- A turn of another seat.

by_knows : (i k : ℕ) (x y u v : Knows) (m n : ℕ) (A B : ℕ → Option Durable → Type 0) (es : List Turned)
    → k ≢ i → Alike x u → Alike y v → Within (counts_of u) → SameOwn x y
    → RanAt true (record { state = record { seat = k; knows = u }; moment = m; images = A }) es (record { state = record { seat = k; knows = v }; moment = n; images = B })
    → Shared false (record { state = record { seat = i; knows = x }; moment = m; images = A }) (record { state = record { seat = i; knows = y }; moment = n; images = B })
by_knows i k (Tells p) (Tells q) (Tells a) (Tells b) m n A B es apart xu yv within own r = rw (xu, yv) (others_shared i k a b m n A B es apart r)
by_knows i k (Counts_alone c) (Counts_alone d) (Counts_alone e) (Counts_alone f) m n A B es apart xu yv within own r = untold_shared i k c d e f m n A B es xu yv within own r
by_knows i k (Tells p) y (Counts_alone e) v m n A B es apart xu yv within own r = absurd xu
by_knows i k (Counts_alone c) y (Tells a) v m n A B es apart xu yv within own r = absurd xu
by_knows i k x (Tells q) u (Counts_alone f) m n A B es apart xu yv within own r = absurd yv
by_knows i k x (Counts_alone d) u (Tells b) m n A B es apart xu yv within own r = absurd yv
by_knows i k (Tells p) (Counts_alone d) (Tells a) (Counts_alone f) m n A B es apart xu yv within own r =
    absurd (subst Told (sym r.tail.drift) (told_turns (record { seat = k; knows = Tells a }) es r.last tt r.chain))
by_knows i k (Counts_alone c) (Tells q) (Counts_alone e) (Tells b) m n A B es apart xu yv within own r =
    absurd (subst (Untold e.store) (sym r.tail.drift) (untold_turns e.store (record { seat = k; knows = Counts_alone e }) es r.last (onward_none e.store) r.chain))

pub turn_shared : {X : Type 0} (s : Sight X) → OneHub s → (i k : ℕ) (a b : X) → k ≢ i → SeatTurn s k a b → Shared false (stand s i a) (stand s i b)
turn_shared s one i k a b apart t =
    by_knows i k (s.knows i a) (s.knows i b) (s.knows k a) (s.knows k b) (s.moment a) (s.moment b) (s.images a) (s.images b) t.events apart (one i k a) (one i k b) t.within (t.others.counts i (λ e. apart (sym e))) t.ran

found_none : {X : Type 0} (s : Sight X) (i : ℕ) (a : X) → Found s i a a
found_none s i a = record { shared = shared_none (stand s i a); part = refl; ready = λ r. r }

found_path : {X : Type 0} (s : Sight X) → OneHub s → (i : ℕ) (a b : X) (ts : List (ℕ × X)) → Path (SeatTurn s) (λ k. k ≢ i) a ts b → Found s i a b
found_path s one i a b [] same = subst (λ x. Found s i a x) same (found_none s i a)
found_path s one i a b (t ∷ ts) (apart, turn, rest) =
    let far = found_path s one i t.1 b ts rest in
    record {
      shared = shared_then (stand s i a) (stand s i t.1) (stand s i b) (turn_shared s one i t.0 a t.1 apart turn) far.shared;
      part = far.part ∙ turn.others.parts i (λ e. apart (sym e));
      ready = λ r. far.ready (turn.others.ready i r);
    }

pub found : {X : Type 0} (s : Sight X) → OneHub s → (i : ℕ) (a b : X) → ByOthers (SeatTurn s) i a b → Found s i a b
found s one i a b by = found_path s one i a b by.0 by.1

-- A call behind them.

record SharedToo (a : DeskState) (e : Turned) (b : DeskState) (c : CallsBeside true a e b) : Type 0 where
  pub made : CallsBeside false a e b
  pub passed : (d : Durable) → TurnPasses true a e b c d → TurnPasses false a e b made d

right_alone : {P Q R : Type 0} → (P → ⊥) → P ⊎ Q → R ⊎ Q
right_alone f (inl p) = absurd (f p)
right_alone f (inr q) = inr q

shared_too : (a : DeskState) (e : Turned) (b : DeskState) (c : CallsBeside true a e b) → SharedToo a e b c
shared_too a e b c =
    record {
      made = record { seat = c.seat; mid = c.mid; drift = subst (λ (k : Knows). Drifts false a.seat a.knows k) (sym c.drift) (drift_none false a.seat a.knows); rows = c.rows };
      passed = λ d p. right_alone (λ q. q) p;
    }

pub kept_behind : (a b c : Stand) (call : Call) (answer : Answer) → Shared false a b → Kept true b call answer c → Kept false a call answer c
kept_behind a b c call answer s k =
    let e = turned call answer k.rows_before k.rows_after in
    let h = shared_too b.state e c.state k.made in
    let x = earlier false a.state b.state s.drifted e c.state h.made in
    record {
      rows_before = k.rows_before;
      rows_after = k.rows_after;
      made = x.made;
      later = le_trans a.moment b.moment c.moment s.later k.later;
      before = λ t d early i. s.before t d early (k.before t d (le_trans t a.moment b.moment early s.later) i);
      since = λ t d after until i. since_of h x t d after until i (le_total t b.moment);
      now = k.now;
    }
  where
    since_of : (h : SharedToo b.state (turned call answer k.rows_before k.rows_after) c.state k.made) (x : Earlier false a.state b.state s.drifted (turned call answer k.rows_before k.rows_after) c.state h.made) (t : ℕ) (d : Option Durable) → a.moment < t → t ≤ c.moment → c.images t d → (t ≤ b.moment) ⊎ (b.moment < t)
        → OpensTo (TurnPasses false a.state (turned call answer k.rows_before k.rows_after) c.state x.made) d
    since_of h x t d after until i (inl early) = opens_weaker _ _ (λ y p. x.drifted y p) d (s.since t d after early (k.before t d early i))
    since_of h x t d after until i (inr late) = opens_weaker _ _ (λ y p. x.passed y (h.passed y p)) d (k.since t d late until i)
