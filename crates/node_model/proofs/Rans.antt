-- Calls of a desk, one after another, with the moments at which they ended.
use Rattle.std.proofs.Common.{◌≡◌, ◌⊎◌, ℕ, ◌≤◌, ◌<◌, Bool, List, [], ◌∷◌, ◌++◌, Option, Some, None, refl, subst, inl, inr, le_refl, arith, true, false, nat_lt}
use Rattle.std.proofs.lemmas.Bool.{ltb-false}
use Rattle.std.proofs.lemmas.Bool.Decides.{Decides-ltb}
use Rattle.node_model.specs.Durable.{Durable}
use Rattle.node_model.specs.Calls.{Call, Answer, DeskState, Turned, turned, CallsBeside, Turns}
use Rattle.node_model.specs.Images.{DriftPasses, OpensTo, Stand, Kept, Drifted, Shared, AlongAt, SettledAt, Rising, RanAt, last_of}
use Rattle.node_model.proofs.Drifting.{drifted_none, drifted_on, Earlier, earlier}

pub opens_weaker : (P Q : Durable → Type 0) → ((x : Durable) → P x → Q x) → (d : Option Durable) → OpensTo P d → OpensTo Q d
opens_weaker P Q f None h = h
opens_weaker P Q f (Some x) h = f x h

not_between : (m k : ℕ) → m < k → k ≤ m → ⊥
not_between m k a b = omega arith

-- no call
pub ran_none : (alone : Bool) (s : Stand) → RanAt alone s [] s
ran_none alone s =
    record { last = s.state; chain = refl; tail = drifted_none alone s.state; times = []; rising = tt; ends = le_refl s.moment; before = λ k d _ i. i; since = λ k d a b i. absurd (not_between s.moment k a b); settled = λ k d b i. tt }

-- steps of other seats alone
pub ran_shared : (alone : Bool) (old new : Stand) → Shared alone old new → RanAt alone old [] new
ran_shared alone old new s =
    record { last = old.state; chain = refl; tail = s.drifted; times = []; rising = tt; ends = s.later; before = s.before; since = λ k d a b i. opens_weaker _ _ (λ x p. inr (a, p)) d (s.since k d a b i); settled = λ k d b i. tt }

-- one call
pub ran_one : (alone : Bool) (old : Stand) (call : Call) (answer : Answer) (new : Stand) → (c : Kept alone old call answer new) → RanAt alone old (turned call answer c.rows_before c.rows_after ∷ []) new
ran_one alone old call answer new c =
    record {
      last = new.state;
      chain = (new.state, c.made, refl);
      tail = drifted_none alone new.state;
      times = new.moment ∷ [];
      rising = (c.later, tt);
      ends = le_refl new.moment;
      before = c.before;
      since = λ k d a b i. opens_weaker _ _ (λ x p. inl (inl (a, b, p))) d (c.since k d a b i);
      settled = λ k d b i. ((λ at settles after whole. c.now settles after whole d (subst (λ (m : ℕ). new.images m d) at i)), tt);
    }

-- Chain behind chain.

-- a chain from b, with steps of other seats before it and behind it, as one from l
pub record Absorbed (alone : Bool) (l b : DeskState) (t : Drifted alone l b) (fs : List Turned) (m : DeskState) (y : Turns alone b fs m) (c : DeskState) (u : Drifted alone m c) : Type 0 where
  pub last : DeskState
  pub chain : Turns alone l fs last
  pub tail : Drifted alone last c
  pub along : (from early : ℕ) (us : List ℕ) (k : ℕ) (d : Durable) → early ≤ from → AlongAt alone b fs m y from us k d → AlongAt alone l fs last chain early us k d
  pub behind : (d : Durable) → DriftPasses alone m.seat m.knows c.knows u.drift d → DriftPasses alone last.seat last.knows c.knows tail.drift d
  pub first : (early from : ℕ) (us : List ℕ) (k : ℕ) (d : Durable) → Rising from fs us → early < k → k ≤ from → DriftPasses alone l.seat l.knows b.knows t.drift d → AlongAt alone l fs last chain early us k d ⊎ ((last_of early us < k) × DriftPasses alone last.seat last.knows c.knows tail.drift d)
  pub settled : (us : List ℕ) (k : ℕ) (d : Option Durable) → SettledAt alone b fs m y us k d → SettledAt alone l fs last chain us k d

lt_le : (a b c : ℕ) → a ≤ b → b < c → a < c
lt_le a b c x y = omega (arith, x, y)

pub le_trans : (a b c : ℕ) → a ≤ b → b ≤ c → a ≤ c
le_trans a b c x y = omega (arith, x, y)

-- steps of other seats from an equal state
record DriftFrom (alone : Bool) (m c : DeskState) (u : Drifted alone m c) (b : DeskState) : Type 0 where
  pub all : Drifted alone b c
  pub same : (d : Durable) → DriftPasses alone m.seat m.knows c.knows u.drift d → DriftPasses alone b.seat b.knows c.knows all.drift d

-- without a call
absorb_end : (alone : Bool) (l b : DeskState) (t : Drifted alone l b) (m : DeskState) (e : m ≡ b) (c : DeskState) (u : Drifted alone m c) → Absorbed alone l b t [] m e c u
absorb_end alone l b t m e c u =
    let v : DriftFrom alone m c u b = subst (λ (s : DeskState). DriftFrom alone m c u s) e (record { all = u; same = λ d p. p }) in
    let j = drifted_on alone l b c t v.all in
    record {
      last = l;
      chain = refl;
      tail = j.all;
      along = λ from early us k d le p. absurd p;
      behind = λ d p. j.right d (v.same d p);
      first = first_none j.all (j.left);
      settled = λ us k d s. tt;
    }
  where
    first_none : (all : Drifted alone l c) → ((d : Durable) → DriftPasses alone l.seat l.knows b.knows t.drift d → DriftPasses alone l.seat l.knows c.knows all.drift d) → (early from : ℕ) (us : List ℕ) (k : ℕ) (d : Durable) → Rising from [] us → early < k → k ≤ from → DriftPasses alone l.seat l.knows b.knows t.drift d → ⊥ ⊎ ((last_of early us < k) × DriftPasses alone l.seat l.knows c.knows all.drift d)
    first_none all left early from [] k d rising lt le p = inr (lt, left d p)
    first_none all left early from (t1 ∷ ts) k d rising lt le p = absurd rising

absorb_more : (alone : Bool) (l b : DeskState) (t : Drifted alone l b) (e : Turned) (es : List Turned) (m mid : DeskState) (made : CallsBeside alone b e mid) (rest : Turns alone mid es m) (c : DeskState) (u : Drifted alone m c) → Absorbed alone l b t (e ∷ es) m (mid, made, rest) c u
absorb_more alone l b t e es m mid made rest c u =
    let x = earlier alone l b t e mid made in
    record { last = m; chain = (mid, x.made, rest); tail = u; along = along_more x; behind = λ d p. p; first = first_more x; settled = settled_more x }
  where
    along_more : (x : Earlier alone l b t e mid made) (from early : ℕ) (us : List ℕ) (k : ℕ) (d : Durable) → early ≤ from → AlongAt alone b (e ∷ es) m (mid, made, rest) from us k d → AlongAt alone l (e ∷ es) m (mid, x.made, rest) early us k d
    along_more x from early [] k d le p = absurd p
    along_more x from early (t1 ∷ ts) k d le (inl p) = inl (lt_le early from k le p.0, p.1, x.passed d p.2)
    along_more x from early (t1 ∷ ts) k d le (inr p) = inr p

    first_more : (x : Earlier alone l b t e mid made) (early from : ℕ) (us : List ℕ) (k : ℕ) (d : Durable) → Rising from (e ∷ es) us → early < k → k ≤ from → DriftPasses alone l.seat l.knows b.knows t.drift d → AlongAt alone l (e ∷ es) m (mid, x.made, rest) early us k d ⊎ ((last_of early us < k) × DriftPasses alone m.seat m.knows c.knows u.drift d)
    first_more x early from [] k d rising lt le p = absurd rising
    first_more x early from (t1 ∷ ts) k d rising lt le p = inl (inl (lt, le_trans k from t1 le rising.0, x.drifted d p))

    settled_more : (x : Earlier alone l b t e mid made) (us : List ℕ) (k : ℕ) (d : Option Durable) → SettledAt alone b (e ∷ es) m (mid, made, rest) us k d → SettledAt alone l (e ∷ es) m (mid, x.made, rest) us k d
    settled_more x [] k d s = tt
    settled_more x (t1 ∷ ts) k d s = s

pub absorbed : (alone : Bool) (l b : DeskState) (t : Drifted alone l b) (fs : List Turned) (m : DeskState) (y : Turns alone b fs m) (c : DeskState) (u : Drifted alone m c) → Absorbed alone l b t fs m y c u
absorbed alone l b t [] m same c u = absorb_end alone l b t m same c u
absorbed alone l b t (e ∷ es) m (mid, made, rest) c u = absorb_more alone l b t e es m mid made rest c u

-- a chain from l behind one that leads to l
pub record Joined (alone : Bool) (a : DeskState) (es : List Turned) (l : DeskState) (fs : List Turned) (m : DeskState) (x : Turns alone a es l) (y : Turns alone l fs m) : Type 0 where
  pub chain : Turns alone a (es ++ fs) m
  pub left : (from : ℕ) (ts us : List ℕ) (k : ℕ) (d : Durable) → AlongAt alone a es l x from ts k d → AlongAt alone a (es ++ fs) m chain from (ts ++ us) k d
  pub right : (from early : ℕ) (ts us : List ℕ) (k : ℕ) (d : Durable) → Rising from es ts → AlongAt alone l fs m y (last_of early ts) us k d → AlongAt alone a (es ++ fs) m chain early (ts ++ us) k d
  pub settled : (from : ℕ) (ts us : List ℕ) (k : ℕ) (d : Option Durable) → Rising from es ts → SettledAt alone a es l x ts k d → SettledAt alone l fs m y us k d → SettledAt alone a (es ++ fs) m chain (ts ++ us) k d

-- a chain from an equal state
record ChainFrom (alone : Bool) (l : DeskState) (fs : List Turned) (m : DeskState) (y : Turns alone l fs m) (a : DeskState) : Type 0 where
  pub chain : Turns alone a fs m
  pub along : (from : ℕ) (us : List ℕ) (k : ℕ) (d : Durable) → AlongAt alone l fs m y from us k d → AlongAt alone a fs m chain from us k d
  pub settled : (us : List ℕ) (k : ℕ) (d : Option Durable) → SettledAt alone l fs m y us k d → SettledAt alone a fs m chain us k d

join_end : (alone : Bool) (a l : DeskState) (e : l ≡ a) (fs : List Turned) (m : DeskState) (y : Turns alone l fs m) → Joined alone a [] l fs m e y
join_end alone a l e fs m y =
    let v : ChainFrom alone l fs m y a = subst (λ (s : DeskState). ChainFrom alone l fs m y s) e (record { chain = y; along = λ from us k d p. p; settled = λ us k d s. s }) in
    record { chain = v.chain; left = λ from ts us k d p. absurd p; right = right_none v; settled = settled_none v }
  where
    right_none : (v : ChainFrom alone l fs m y a) (from early : ℕ) (ts us : List ℕ) (k : ℕ) (d : Durable) → Rising from [] ts → AlongAt alone l fs m y (last_of early ts) us k d → AlongAt alone a fs m v.chain early (ts ++ us) k d
    right_none v from early [] us k d rising p = v.along early us k d p
    right_none v from early (t ∷ ts) us k d rising p = absurd rising

    settled_none : (v : ChainFrom alone l fs m y a) (from : ℕ) (ts us : List ℕ) (k : ℕ) (d : Option Durable) → Rising from [] ts → Unit {0} → SettledAt alone l fs m y us k d → SettledAt alone a fs m v.chain (ts ++ us) k d
    settled_none v from [] us k d rising s p = v.settled us k d p
    settled_none v from (t ∷ ts) us k d rising s p = absurd rising

join_more : (alone : Bool) (a : DeskState) (e : Turned) (es : List Turned) (l : DeskState) (fs : List Turned) (m mid : DeskState) (made : CallsBeside alone a e mid) (rest : Turns alone mid es l) (y : Turns alone l fs m) → Joined alone mid es l fs m rest y → Joined alone a (e ∷ es) l fs m (mid, made, rest) y
join_more alone a e es l fs m mid made rest y j = record { chain = (mid, made, j.chain); left = left_more; right = right_more; settled = settled_more }
  where
    left_more : (from : ℕ) (ts us : List ℕ) (k : ℕ) (d : Durable) → AlongAt alone a (e ∷ es) l (mid, made, rest) from ts k d → AlongAt alone a (e ∷ (es ++ fs)) m (mid, made, j.chain) from (ts ++ us) k d
    left_more from [] us k d p = absurd p
    left_more from (t ∷ ts) us k d (inl p) = inl p
    left_more from (t ∷ ts) us k d (inr p) = inr (j.left t ts us k d p)

    right_more : (from early : ℕ) (ts us : List ℕ) (k : ℕ) (d : Durable) → Rising from (e ∷ es) ts → AlongAt alone l fs m y (last_of early ts) us k d → AlongAt alone a (e ∷ (es ++ fs)) m (mid, made, j.chain) early (ts ++ us) k d
    right_more from early [] us k d rising p = absurd rising
    right_more from early (t ∷ ts) us k d rising p = inr (j.right t t ts us k d rising.1 p)

    settled_more : (from : ℕ) (ts us : List ℕ) (k : ℕ) (d : Option Durable) → Rising from (e ∷ es) ts → SettledAt alone a (e ∷ es) l (mid, made, rest) ts k d → SettledAt alone l fs m y us k d → SettledAt alone a (e ∷ (es ++ fs)) m (mid, made, j.chain) (ts ++ us) k d
    settled_more from [] us k d rising s p = absurd rising
    settled_more from (t ∷ ts) us k d rising s p = (s.0, j.settled t ts us k d rising.1 s.1 p)

pub joined : (alone : Bool) (a : DeskState) (es : List Turned) (l : DeskState) (fs : List Turned) (m : DeskState) (x : Turns alone a es l) (y : Turns alone l fs m) → Joined alone a es l fs m x y
joined alone a [] l fs m same y = join_end alone a l same fs m y
joined alone a (e ∷ es) l fs m (mid, made, rest) y = join_more alone a e es l fs m mid made rest y (joined alone mid es l fs m rest y)

-- Moments.

last_of-append : (from : ℕ) (ts us : List ℕ) → last_of from (ts ++ us) ≡ last_of (last_of from ts) us
last_of-append from [] us = refl
last_of-append from (t ∷ ts) us = last_of-append t ts us

-- later moments behind these
rising-append : (from : ℕ) (es fs : List Turned) (ts us : List ℕ) (mid : ℕ) → Rising from es ts → last_of from ts ≤ mid → Rising mid fs us → Rising from (es ++ fs) (ts ++ us)
rising-append from [] fs [] us mid r le s = earlier_rises fs us s
  where
    earlier_rises : (fs : List Turned) (us : List ℕ) → Rising mid fs us → Rising from fs us
    earlier_rises [] [] s = tt
    earlier_rises (e ∷ es) (t ∷ ts) s = (le_trans from mid t le s.0, s.1)
    earlier_rises [] (t ∷ ts) s = absurd s
    earlier_rises (e ∷ es) [] s = absurd s
rising-append from [] fs (t ∷ ts) us mid r le s = absurd r
rising-append from (e ∷ es) fs [] us mid r le s = absurd r
rising-append from (e ∷ es) fs (t ∷ ts) us mid r le s = (r.0, rising-append t es fs ts us mid r.1 le s)

-- the last of later moments is no earlier
pub last-rises : (from : ℕ) (es : List Turned) (ts : List ℕ) → Rising from es ts → from ≤ last_of from ts
last-rises from [] [] r = le_refl from
last-rises from (e ∷ es) (t ∷ ts) r = le_trans from t (last_of t ts) r.0 (last-rises t es ts r.1)
last-rises from [] (t ∷ ts) r = absurd r
last-rises from (e ∷ es) [] r = absurd r

-- the last moment is the same, or late enough, from wherever it is seen
last_from : (early from top : ℕ) (es : List Turned) (ts : List ℕ) → Rising from es ts → early ≤ from → last_of from ts ≤ top → last_of early ts ≤ top
last_from early from top [] [] r le p = le_trans early from top le p
last_from early from top (e ∷ es) (t ∷ ts) r le p = p
last_from early from top [] (t ∷ ts) r le p = absurd r
last_from early from top (e ∷ es) [] r le p = absurd r

-- after the last of these moments none of them is the moment k
settled_late : (alone : Bool) (a : DeskState) (es : List Turned) (b : DeskState) (x : Turns alone a es b) (from : ℕ) (ts : List ℕ) (k : ℕ) (d : Option Durable) → Rising from es ts → last_of from ts < k → SettledAt alone a es b x ts k d
settled_late alone a [] b x from ts k d r lt = tt
settled_late alone a (e ∷ es) b (mid, made, rest) from [] k d r lt = tt
settled_late alone a (e ∷ es) b (mid, made, rest) from (t ∷ ts) k d r lt =
    ((λ same settles after whole. absurd (not_last t (last_of t ts) k (last-rises t es ts r.1) lt same)), settled_late alone mid es b rest t ts k d r.1 lt)
  where
    not_last : (t m k : ℕ) → t ≤ m → m < k → k ≡ t → ⊥
    not_last t m k le lt same = omega (arith, le, lt, same)

pub le_total : (m n : ℕ) → (m ≤ n) ⊎ (n < m)
le_total m n = go (nat_lt n m) refl
  where
    go : (b : Bool) → nat_lt n m ≡ b → (m ≤ n) ⊎ (n < m)
    go true is = inr ((Decides-ltb n m).0 is)
    go false is = inl (omega (arith, ltb-false n m is))

pub ran_then : (alone : Bool) (a : Stand) (es : List Turned) (b : Stand) (fs : List Turned) (c : Stand) → RanAt alone a es b → RanAt alone b fs c → RanAt alone a (es ++ fs) c
ran_then alone a es b fs c x y =
    record {
      last = z.last;
      chain = j.chain;
      tail = z.tail;
      times = x.times ++ y.times;
      rising = rising-append a.moment es fs x.times y.times b.moment x.rising x.ends y.rising;
      ends = rw (last_of-append a.moment x.times y.times) (last_from (last_of a.moment x.times) b.moment c.moment fs y.times y.rising x.ends y.ends);
      before = λ k d early i. x.before k d early (y.before k d (le_trans k a.moment b.moment early (le_trans a.moment (last_of a.moment x.times) b.moment (last-rises a.moment es x.times x.rising) x.ends)) i);
      since = λ k d after until i. since_of k d after until i (le_total k b.moment);
      settled = λ k d until i. j.settled a.moment x.times y.times k d x.rising (settled_of k d until i (le_total k b.moment)) (z.settled y.times k d (y.settled k d until i));
    }
  where
    z : Absorbed alone x.last b.state x.tail fs y.last y.chain c.state y.tail
    z = absorbed alone x.last b.state x.tail fs y.last y.chain c.state y.tail

    j : Joined alone a.state es x.last fs z.last x.chain z.chain
    j = joined alone a.state es x.last fs z.last x.chain z.chain

    Here : ℕ → Durable → Type 0
    Here k d = AlongAt alone a.state (es ++ fs) z.last j.chain a.moment (x.times ++ y.times) k d ⊎ ((last_of a.moment (x.times ++ y.times) < k) × DriftPasses alone z.last.seat z.last.knows c.state.knows z.tail.drift d)

    behind_all : (k : ℕ) (d : Durable) → last_of (last_of a.moment x.times) y.times < k → DriftPasses alone z.last.seat z.last.knows c.state.knows z.tail.drift d → Here k d
    behind_all k d lt p = inr (rw (last_of-append a.moment x.times y.times) lt, p)

    from_first : (k : ℕ) (d : Durable) → AlongAt alone x.last fs z.last z.chain (last_of a.moment x.times) y.times k d ⊎ ((last_of (last_of a.moment x.times) y.times < k) × DriftPasses alone z.last.seat z.last.knows c.state.knows z.tail.drift d) → Here k d
    from_first k d (inl p) = inl (j.right a.moment a.moment x.times y.times k d x.rising p)
    from_first k d (inr p) = behind_all k d p.0 p.1

    from_left : (k : ℕ) (d : Durable) → k ≤ b.moment → AlongAt alone a.state es x.last x.chain a.moment x.times k d ⊎ ((last_of a.moment x.times < k) × DriftPasses alone x.last.seat x.last.knows b.state.knows x.tail.drift d) → Here k d
    from_left k d le (inl p) = inl (j.left a.moment x.times y.times k d p)
    from_left k d le (inr p) = from_first k d (z.first (last_of a.moment x.times) b.moment y.times k d y.rising p.0 le p.1)

    last_earlier : (k : ℕ) → last_of b.moment y.times < k → last_of (last_of a.moment x.times) y.times < k
    last_earlier k lt = lt_le _ (last_of b.moment y.times) k (last_from (last_of a.moment x.times) b.moment (last_of b.moment y.times) fs y.times y.rising x.ends (le_refl _)) lt

    from_right : (k : ℕ) (d : Durable) → AlongAt alone b.state fs y.last y.chain b.moment y.times k d ⊎ ((last_of b.moment y.times < k) × DriftPasses alone y.last.seat y.last.knows c.state.knows y.tail.drift d) → Here k d
    from_right k d (inl p) = from_first k d (inl (z.along b.moment (last_of a.moment x.times) y.times k d x.ends p))
    from_right k d (inr p) = behind_all k d (last_earlier k p.0) (z.behind d p.1)

    since_of : (k : ℕ) (d : Option Durable) → a.moment < k → k ≤ c.moment → c.images k d → (k ≤ b.moment) ⊎ (b.moment < k) → OpensTo (Here k) d
    since_of k d after until i (inl early) = opens_weaker _ _ (λ s p. from_left k s early p) d (x.since k d after early (y.before k d early i))
    since_of k d after until i (inr late) = opens_weaker _ _ (λ s p. from_right k s p) d (y.since k d late until i)

    settled_of : (k : ℕ) (d : Option Durable) → k ≤ c.moment → c.images k d → (k ≤ b.moment) ⊎ (b.moment < k) → SettledAt alone a.state es x.last x.chain x.times k d
    settled_of k d until i (inl early) = x.settled k d early (y.before k d early i)
    settled_of k d until i (inr late) = settled_late alone a.state es x.last x.chain a.moment x.times k d x.rising (lt_le _ b.moment k x.ends late)
