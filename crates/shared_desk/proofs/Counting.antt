-- How the counts of a store go on while a seat that tells no node makes its calls.
use Rattle.std.proofs.Common.{◌≡◌, ℕ, true, List, [], ◌∷◌, Some, None, refl, sym, ◌∙◌, subst, inl, inr, le_refl}
use Rattle.ftn_addr.specs.Counts.{CountGrew}
use Rattle.ftn_addr.proofs.CountsGrow.{count_grew-refl, count_grew-increased, then-increased, count_grew-within}
use Rattle.node_model.specs.Durable.{Durable}
use Rattle.node_model.specs.Calls.{Call, Disk, Read, Full, No_memory, Answer, Queued, Let_in, Busy, Begun, Offered, Nothing, Came, Settled, Filed, More, Whole_now, Acted, Given, Held, Refused, Event, Counts, CountsRise, MayBreak, counts_of, Caused, Knows, Tells, Counts_alone, KnownStep, DeskState, Turned, Beside, OwnRow, Made_row, Missing, Rowed, CallsBeside, Turns}
use Rattle.node_model.specs.Images.{KnownPasses, BesidePass, OwnPasses, RowsPass, TurnPasses, AlongAt}
use Rattle.shared_desk.specs.Seen.{Within}

pub record Onward (a c : Counts) : Type 0 where
  pub faults : CountGrew a.faults c.faults
  pub fulls : CountGrew a.fulls c.fulls
  pub breaks : MayBreak a c

pub onward_none : (a : Counts) → Onward a a
onward_none a = record { faults = count_grew-refl a.faults; fulls = count_grew-refl a.fulls; breaks = inl refl }

onward_is : (a b c : Counts) → Onward a b → c ≡ b → Onward a c
onward_is a b c s e = subst (λ x. Onward a x) (sym e) s

-- a store that isn't broken wasn't before
whole_before : (a b : Counts) → MayBreak a b → b.broken ≡ None → a.broken ≡ None
whole_before a b (inl same) whole = sym same ∙ whole
whole_before a b (inr broke) whole = absurd (let clash : Some broke.1.0 ≡ None = sym broke.1.3 ∙ whole in cc)

same_break : (a b : Counts) → MayBreak a b → b.broken ≡ None → (c : Counts) → c.broken ≡ b.broken → MayBreak a c
same_break a b may whole c same = inl (same ∙ (whole ∙ sym (whole_before a b may whole)))

pub onward_on : (a b c : Counts) (call : Call) (answer : Answer) → Onward a b → Caused b call answer c → Onward a c
onward_on a b c call (Refused (Disk count)) s (may, inl same) = onward_is a b c s same.1
onward_on a b c call (Refused (Disk count)) s (may, inr broke) = subst (λ x. Onward a x) (sym broke.2)
    (record {
      faults = count_grew-increased a.faults count (then-increased a.faults b.faults count s.faults broke.1);
      fulls = s.fulls;
      breaks = inr (whole_before a b s.breaks broke.0, (count, then-increased a.faults b.faults count s.faults broke.1, le_refl count, refl));
    })
onward_on a b c call (Refused (Read count)) s read = subst (λ x. Onward a x) (sym read.3)
    (record {
      faults = count_grew-increased a.faults count (then-increased a.faults b.faults count s.faults read.2);
      fulls = s.fulls;
      breaks = same_break a b s.breaks read.1 (record b { faults = count }) refl;
    })
onward_on a b c call (Refused Full) s full = subst (λ x. Onward a x) (sym full.3)
    (record {
      faults = s.faults;
      fulls = count_grew-increased a.fulls c.fulls (then-increased a.fulls b.fulls c.fulls s.fulls full.2);
      breaks = same_break a b s.breaks full.1 (record b { fulls = c.fulls }) refl;
    })
onward_on a b c call (Refused No_memory) s e = onward_is a b c s e.2
onward_on a b c call (Queued slots) s e = onward_is a b c s e.1
onward_on a b c call Let_in s e = onward_is a b c s e.1
onward_on a b c call Busy s e = onward_is a b c s e.1
onward_on a b c call (Begun number) s e = onward_is a b c s e.1
onward_on a b c call (Offered number key) s e = onward_is a b c s e.1
onward_on a b c call Nothing s e = onward_is a b c s e.1
onward_on a b c call (Came bytes) s e = onward_is a b c s e.1
onward_on a b c call Settled s e = onward_is a b c s e.1
onward_on a b c call (Filed answer) s e = onward_is a b c s e.1
onward_on a b c call More s e = onward_is a b c s e.1
onward_on a b c call Whole_now s e = onward_is a b c s e.1
onward_on a b c call (Acted number) s e = onward_is a b c s e.1
onward_on a b c call (Given number) s e = onward_is a b c s e.1
onward_on a b c call (Held number) s e = onward_is a b c s e.1

-- a seat that tells no node: it still doesn't, the counts went on from `a`, and no image is told of
abbrev pub Untold : Counts → Knows → Type 0
Untold a (Tells n) = ⊥
Untold a (Counts_alone c) = Onward a c.store

untold_step : (a : Counts) (seat : ℕ) (x : Knows) (call : Call) (answer : Answer) (y : Knows) → Untold a x → Caused (counts_of x) call answer (counts_of y) → KnownStep seat x call answer y → Untold a y
untold_step a seat (Tells m) call answer y u caused step = absurd u
untold_step a seat (Counts_alone c) call answer (Tells n) u caused step = absurd step
untold_step a seat (Counts_alone c) call answer (Counts_alone d) u caused step = onward_on a c.store d.store call answer u caused

untold_is : (a : Counts) (x y : Knows) → Untold a x → y ≡ x → Untold a y
untold_is a x y u e = subst (Untold a) (sym e) u

untold_beside : (a : Counts) (seat : ℕ) (x : Knows) (es : List Event) (y : Knows) → Untold a x → Beside seat x es y → Untold a y
untold_beside a seat x [] y u same = untold_is a x y u same
untold_beside a seat x (e ∷ es) y u (mid, caused, step, rest) = untold_beside a seat mid es y (untold_step a seat x e.call e.answer mid u caused step) rest

untold_own : (a : Counts) (seat : ℕ) (before : List Event) (x : Knows) (asked : Event) (y : Knows) → Untold a x → OwnRow seat before x asked y → Untold a y
untold_own a seat before x asked y u (Made_row made caused step) = untold_step a seat x asked.call asked.answer y u caused step
untold_own a seat before x asked y u (Missing fault refused is same) = untold_is a x y u same

untold_rows : (a : Counts) (seat : ℕ) (x : Knows) (e : Turned) (y : Knows) → Untold a x → Rowed seat x e y → Untold a y
untold_rows a seat x e y u r =
    untold_beside a seat r.answers e.after y (untold_own a seat e.before r.asks e.asked r.answers (untold_beside a seat x e.before r.asks u r.before) r.own) r.after

untold_turn : (a : Counts) (x : DeskState) (e : Turned) (y : DeskState) → Untold a x.knows → CallsBeside true x e y → Untold a y.knows
untold_turn a x e y u c = untold_rows a x.seat c.mid e y.knows (untold_is a x.knows c.mid u c.drift) c.rows

pub untold_turns : (a : Counts) (x : DeskState) (es : List Turned) (y : DeskState) → Untold a x.knows → Turns true x es y → Untold a y.knows
untold_turns a x [] y u same = subst (λ (z : DeskState). Untold a z.knows) (sym same) u
untold_turns a x (e ∷ es) y u (mid, made, rest) = untold_turns a mid es y (untold_turn a x e mid u made) rest

-- no state is told that such calls pass
none_known : (a : Counts) (seat : ℕ) (x : Knows) (call : Call) (d : Durable) → Untold a x → KnownPasses seat x call d → ⊥
none_known a seat (Tells m) call d u p = absurd u
none_known a seat (Counts_alone c) call d u p = absurd p

none_beside : (a : Counts) (seat : ℕ) (x : Knows) (es : List Event) (y : Knows) (r : Beside seat x es y) (d : Durable) → Untold a x → BesidePass seat x es y r d → ⊥
none_beside a seat x [] y same d u p = absurd p
none_beside a seat x (e ∷ es) y (mid, caused, step, rest) d u (inl p) = none_known a seat x e.call d u p
none_beside a seat x (e ∷ es) y (mid, caused, step, rest) d u (inr p) = none_beside a seat mid es y rest d (untold_step a seat x e.call e.answer mid u caused step) p

none_own : (a : Counts) (seat : ℕ) (before : List Event) (x : Knows) (asked : Event) (y : Knows) (o : OwnRow seat before x asked y) (d : Durable) → Untold a x → OwnPasses seat before x asked y o d → ⊥
none_own a seat before x asked y (Made_row made caused step) d u p = none_known a seat x asked.call d u p
none_own a seat before x asked y (Missing fault refused is same) d u p = absurd p

none_rows : (a : Counts) (seat : ℕ) (x : Knows) (e : Turned) (y : Knows) (r : Rowed seat x e y) (d : Durable) → Untold a x → RowsPass seat x e y r d → ⊥
none_rows a seat x e y r d u (inl p) = none_beside a seat x e.before r.asks r.before d u p
none_rows a seat x e y r d u (inr (inl p)) = none_own a seat e.before r.asks e.asked r.answers r.own d (untold_beside a seat x e.before r.asks u r.before) p
none_rows a seat x e y r d u (inr (inr p)) = none_beside a seat r.answers e.after y r.after d (untold_own a seat e.before r.asks e.asked r.answers (untold_beside a seat x e.before r.asks u r.before) r.own) p

none_turn : (a : Counts) (x : DeskState) (e : Turned) (y : DeskState) (c : CallsBeside true x e y) (d : Durable) → Untold a x.knows → TurnPasses true x e y c d → ⊥
none_turn a x e y c d u (inl p) = absurd p
none_turn a x e y c d u (inr p) = none_rows a x.seat c.mid e y.knows c.rows d (untold_is a x.knows c.mid u c.drift) p

pub none_along : (a : Counts) (x : DeskState) (es : List Turned) (y : DeskState) (c : Turns true x es y) (from : ℕ) (ts : List ℕ) (k : ℕ) (d : Durable) → Untold a x.knows → AlongAt true x es y c from ts k d → ⊥
none_along a x [] y c from ts k d u p = absurd p
none_along a x (e ∷ es) y (mid, made, rest) from [] k d u p = absurd p
none_along a x (e ∷ es) y (mid, made, rest) from (t ∷ ts) k d u (inl p) = none_turn a x e mid made d u p.2
none_along a x (e ∷ es) y (mid, made, rest) from (t ∷ ts) k d u (inr p) = none_along a mid es y rest t ts k d (untold_turn a x e mid u made) p

pub rises_within : (a c : Counts) → Within a → Onward a c → CountsRise a c
rises_within a c w o = record { faults = count_grew-within a.faults c.faults w.faults o.faults; fulls = count_grew-within a.fulls c.fulls w.fulls o.fulls }

-- A seat that tells its node still does.
abbrev pub Told : Knows → Type 0
Told (Tells n) = Unit {0}
Told (Counts_alone c) = ⊥

told_step : (seat : ℕ) (x : Knows) (call : Call) (answer : Answer) (y : Knows) → Told x → KnownStep seat x call answer y → Told y
told_step seat (Tells m) call answer (Tells n) u step = tt
told_step seat (Tells m) call answer (Counts_alone c) u step = absurd step
told_step seat (Counts_alone c) call answer y u step = absurd u

told_is : (x y : Knows) → Told x → y ≡ x → Told y
told_is x y u e = subst Told (sym e) u

told_beside : (seat : ℕ) (x : Knows) (es : List Event) (y : Knows) → Told x → Beside seat x es y → Told y
told_beside seat x [] y u same = told_is x y u same
told_beside seat x (e ∷ es) y u (mid, caused, step, rest) = told_beside seat mid es y (told_step seat x e.call e.answer mid u step) rest

told_own : (seat : ℕ) (before : List Event) (x : Knows) (asked : Event) (y : Knows) → Told x → OwnRow seat before x asked y → Told y
told_own seat before x asked y u (Made_row made caused step) = told_step seat x asked.call asked.answer y u step
told_own seat before x asked y u (Missing fault refused is same) = told_is x y u same

told_turn : (x : DeskState) (e : Turned) (y : DeskState) → Told x.knows → CallsBeside true x e y → Told y.knows
told_turn x e y u c =
    let r = c.rows in
    told_beside x.seat r.answers e.after y.knows (told_own x.seat e.before r.asks e.asked r.answers (told_beside x.seat c.mid e.before r.asks (told_is x.knows c.mid u c.drift) r.before) r.own) r.after

pub told_turns : (x : DeskState) (es : List Turned) (y : DeskState) → Told x.knows → Turns true x es y → Told y.knows
told_turns x [] y u same = subst (λ (z : DeskState). Told z.knows) (sym same) u
told_turns x (e ∷ es) y u (mid, made, rest) = told_turns mid es y (told_turn x e mid u made) rest
