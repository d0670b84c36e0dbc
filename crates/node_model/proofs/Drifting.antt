-- Steps of other seats, one after another, and before a call.
use Rattle.std.proofs.Common.{◌≡◌, ◌⊎◌, ℕ, zero, suc, Bool, true, false, ◌≤◌, Some, None, refl, sym, ◌∙◌, subst, inl, inr, le_refl, arith}
use Rattle.ftn_addr.specs.Counts.{Increased}
use Rattle.node_model.specs.Durable.{Durable}
use Rattle.node_model.specs.Node.{Node}
use Rattle.node_model.specs.Calls.{OtherSteps, Counts, MayBreak, Knows, Tells, Counts_alone, Drifts, DeskState, Turned, Rowed, CallsBeside}
use Rattle.node_model.specs.Images.{OthersPass, DriftPasses, RowsPass, TurnPasses, Drifted}

pub record Farther (n seat : ℕ) (a b : Node) (x : OtherSteps n seat a b) (c : Node) : Type 0 where
  pub many : ℕ
  pub steps : OtherSteps many seat a c
  pub left : (d : Durable) → OthersPass n seat a b x d → OthersPass many seat a c steps d

pub record Onward (n m seat : ℕ) (a b c : Node) (x : OtherSteps n seat a b) (y : OtherSteps m seat b c) : Type 0 where
  pub far : Farther n seat a b x c
  pub right : (d : Durable) → OthersPass m seat b c y d → OthersPass far.many seat a c far.steps d

pub either_or : {P Q R S : Type 0} → (P → R) → (Q → S) → P ⊎ Q → R ⊎ S
either_or f g (inl p) = inl (f p)
either_or f g (inr q) = inr (g q)

pub others_join : (n m seat : ℕ) (a b c : Node) (x : OtherSteps n seat a b) (y : OtherSteps m seat b c) → Onward n m seat a b c x y
others_join n zero seat a b c x y =
    record { far = subst (λ (s : Node). Farther n seat a b x s) (sym y) (record { many = n; steps = x; left = λ d p. p }); right = λ d p. absurd p }
others_join n (suc m) seat a b c x (mid, before, last) =
    let j = others_join n m seat a b mid x before in
    record {
      far = record { many = suc j.far.many; steps = (mid, j.far.steps, last); left = λ d p. inl (j.far.left d p) };
      right = λ d p. either_or (j.right d) (λ q. q) p;
    }

pub record DriftJoined (alone : Bool) (seat : ℕ) (a b c : Knows) (x : Drifts alone seat a b) (y : Drifts alone seat b c) : Type 0 where
  pub drift : Drifts alone seat a c
  pub left : (d : Durable) → DriftPasses alone seat a b x d → DriftPasses alone seat a c drift d
  pub right : (d : Durable) → DriftPasses alone seat b c y d → DriftPasses alone seat a c drift d

le_trans : (a b c : ℕ) → a ≤ b → b ≤ c → a ≤ c
le_trans a b c x y = omega (arith, x, y)

rose_later : (a b count : ℕ) → a ≤ b → Increased b count → Increased a count
rose_later a b count le rose = omega (arith, le, rose)

break_once : (a b c : Counts) → a.faults ≤ b.faults → b.faults ≤ c.faults → MayBreak a b → MayBreak b c → MayBreak a c
break_once a b c first second (inl x) (inl y) = inl (y ∙ x)
break_once a b c first second (inl x) (inr y) = inr (sym x ∙ y.0, (y.1.0, rose_later a.faults b.faults y.1.0 first y.1.1, y.1.2, y.1.3))
break_once a b c first second (inr x) (inl y) = inr (x.0, (x.1.0, x.1.1, le_trans x.1.0 b.faults c.faults x.1.2 second, y ∙ x.1.3))
break_once a b c first second (inr x) (inr y) = absurd (let clash : Some x.1.0 ≡ None = sym x.1.3 ∙ y.0 in cc)

pub drift_join : (alone : Bool) (seat : ℕ) (a b c : Knows) (x : Drifts alone seat a b) (y : Drifts alone seat b c) → DriftJoined alone seat a b c x y
drift_join true seat a b c x y = record { drift = y ∙ x; left = λ d p. absurd p; right = λ d p. absurd p }
drift_join false seat (Tells a) (Tells b) (Tells c) (n, xs) (m, ys) =
    let j = others_join n m seat a b c xs ys in
    record { drift = (j.far.many, j.far.steps); left = j.far.left; right = j.right }
drift_join false seat (Counts_alone a) (Counts_alone b) (Counts_alone c) x y =
    record {
      drift = record {
        store = record { faults = le_trans a.store.faults b.store.faults c.store.faults x.store.faults y.store.faults; fulls = le_trans a.store.fulls b.store.fulls c.store.fulls x.store.fulls y.store.fulls };
        breaks = break_once a.store b.store c.store x.store.faults y.store.faults x.breaks y.breaks;
        busy = y.busy ∙ x.busy;
        reads = y.reads ∙ x.reads;
      };
      left = λ d p. absurd p;
      right = λ d p. absurd p;
    }
drift_join false seat (Tells a) (Tells b) (Counts_alone c) x y = absurd y
drift_join false seat (Tells a) (Counts_alone b) c x y = absurd x
drift_join false seat (Counts_alone a) (Tells b) c x y = absurd x
drift_join false seat (Counts_alone a) (Counts_alone b) (Tells c) x y = absurd y

pub drift_none : (alone : Bool) (seat : ℕ) (a : Knows) → Drifts alone seat a a
drift_none true seat a = refl
drift_none false seat (Tells a) = (zero, refl)
drift_none false seat (Counts_alone a) =
    record { store = record { faults = le_refl a.store.faults; fulls = le_refl a.store.fulls }; breaks = inl refl; busy = refl; reads = refl }

pub drifted_none : (alone : Bool) (a : DeskState) → Drifted alone a a
drifted_none alone a = record { seat = refl; drift = drift_none alone a.seat a.knows }

-- a drift at a seat, seen at the same seat
pub record SeenAt (alone : Bool) (seat : ℕ) (a b : Knows) (x : Drifts alone seat a b) (s : ℕ) : Type 0 where
  pub drift : Drifts alone s a b
  pub same : (d : Durable) → DriftPasses alone seat a b x d → DriftPasses alone s a b drift d

pub seen_at : (alone : Bool) (seat s : ℕ) (a b : Knows) (x : Drifts alone seat a b) → seat ≡ s → SeenAt alone seat a b x s
seen_at alone seat s a b x e = subst (λ (r : ℕ). SeenAt alone seat a b x r) e (record { drift = x; same = λ d p. p })

pub record DriftedOn (alone : Bool) (a b c : DeskState) (x : Drifted alone a b) (y : Drifted alone b c) : Type 0 where
  pub all : Drifted alone a c
  pub left : (d : Durable) → DriftPasses alone a.seat a.knows b.knows x.drift d → DriftPasses alone a.seat a.knows c.knows all.drift d
  pub right : (d : Durable) → DriftPasses alone b.seat b.knows c.knows y.drift d → DriftPasses alone a.seat a.knows c.knows all.drift d

pub drifted_on : (alone : Bool) (a b c : DeskState) (x : Drifted alone a b) (y : Drifted alone b c) → DriftedOn alone a b c x y
drifted_on alone a b c x y =
    let seen = seen_at alone b.seat a.seat b.knows c.knows y.drift x.seat in
    let j = drift_join alone a.seat a.knows b.knows c.knows x.drift seen.drift in
    record { all = record { seat = y.seat ∙ x.seat; drift = j.drift }; left = j.left; right = λ d p. j.right d (seen.same d p) }

-- rows at a seat, seen at the same seat
pub record RowedAt (seat : ℕ) (old : Knows) (e : Turned) (new : Knows) (r : Rowed seat old e new) (s : ℕ) : Type 0 where
  pub rows : Rowed s old e new
  pub same : (d : Durable) → RowsPass seat old e new r d → RowsPass s old e new rows d

-- a call, with steps of other seats before it
pub record Earlier (alone : Bool) (l b : DeskState) (t : Drifted alone l b) (e : Turned) (mid : DeskState) (c : CallsBeside alone b e mid) : Type 0 where
  pub made : CallsBeside alone l e mid
  pub drifted : (d : Durable) → DriftPasses alone l.seat l.knows b.knows t.drift d → TurnPasses alone l e mid made d
  pub passed : (d : Durable) → TurnPasses alone b e mid c d → TurnPasses alone l e mid made d

pub earlier : (alone : Bool) (l b : DeskState) (t : Drifted alone l b) (e : Turned) (mid : DeskState) (c : CallsBeside alone b e mid) → Earlier alone l b t e mid c
earlier alone l b t e mid c =
    let seen = seen_at alone b.seat l.seat b.knows c.mid c.drift t.seat in
    let j = drift_join alone l.seat l.knows b.knows c.mid t.drift seen.drift in
    let r : RowedAt b.seat c.mid e mid.knows c.rows l.seat = subst (λ (s : ℕ). RowedAt b.seat c.mid e mid.knows c.rows s) t.seat (record { rows = c.rows; same = λ d p. p }) in
    record {
      made = record { seat = c.seat ∙ t.seat; mid = c.mid; drift = j.drift; rows = r.rows };
      drifted = λ d p. inl (j.left d p);
      passed = λ d p. either_or (λ q. j.right d (seen.same d q)) (r.same d) p;
    }
