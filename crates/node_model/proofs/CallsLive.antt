-- Calls of a desk that tells its node's state are a life of that node, also where other seats step between them.
use Rattle.std.proofs.Common.{◌≡◌, ℕ, zero, suc, Bool, true, false, List, [], ◌∷◌, ◌++◌, refl, sym, ap, subst, inl, inr}
use Rattle.node_model.specs.Durable.{Durable}
use Rattle.node_model.specs.Node.{Node}
use Rattle.node_model.specs.Calls.{Call, Answer, Event, OtherSteps, KnownStep, Drifts, Knows, Tells, Counts_alone, DeskState, Turned, Beside, OwnRow, Made_row, Missing, Rowed, CallsBeside, Turns}
use Rattle.node_model.specs.Images.{OthersPass, DriftPasses, KnownPasses, BesidePass, OwnPasses, RowsPass, TurnPasses, AlongAt}
use Rattle.node_model.specs.Receipts.{HasOnce}
use Rattle.node_model.specs.Sound.{Sound, IsSound}
use Rattle.node_model.specs.Lives.{Happening, Steps, Lives, KnownLives, KnownPast}
use Rattle.node_model.proofs.Lives.{lives_join, life_sound, life_once}

self_lives : (knows : Knows) → KnownLives knows knows
self_lives (Tells n) = ([], refl)
self_lives (Counts_alone c) = tt

same_lives : (a b : Knows) → b ≡ a → KnownLives a b
same_lives a b same = subst (KnownLives a) (sym same) (self_lives a)

lives_on : (a b c : Knows) → KnownLives a b → KnownLives b c → KnownLives a c
lives_on (Tells a) (Tells b) (Tells c) first second = (first.0 ++ second.0, lives_join a first.0 b second.0 c first.1 second.1)
lives_on (Tells a) (Tells b) (Counts_alone c) first second = absurd second
lives_on (Tells a) (Counts_alone b) c first second = absurd first
lives_on (Counts_alone a) b c first second = tt

known_lives : (seat : ℕ) (old : Knows) (call : Call) (answer : Answer) (new : Knows) → KnownStep seat old call answer new → KnownLives old new
known_lives seat (Tells old) call answer (Tells new) step = (Steps seat call answer ∷ [], (new, step, refl))
known_lives seat (Tells old) call answer (Counts_alone c) step = absurd step
known_lives seat (Counts_alone c) call answer new step = tt

others_live : (n seat : ℕ) (old new : Node) → OtherSteps n seat old new → (events : List Happening) × Lives old events new
others_live zero seat old new same = ([], same)
others_live (suc n) seat old new (mid, before, last) =
    let first = others_live n seat old mid before in
    let e = Steps last.other last.call last.answer in
    (first.0 ++ e ∷ [], lives_join old first.0 mid (e ∷ []) new first.1 (new, last.step, refl))

drift_lives : (alone : Bool) (seat : ℕ) (old new : Knows) → Drifts alone seat old new → KnownLives old new
drift_lives true seat old new same = same_lives old new same
drift_lives false seat (Tells old) (Tells new) (n, steps) = others_live n seat old new steps
drift_lives false seat (Tells old) (Counts_alone c) none = absurd none
drift_lives false seat (Counts_alone c) new rise = tt

beside_lives : (seat : ℕ) (a : Knows) (es : List Event) (b : Knows) → Beside seat a es b → KnownLives a b
beside_lives seat a [] b same = same_lives a b same
beside_lives seat a (e ∷ es) b (mid, caused, step, rest) = lives_on a mid b (known_lives seat a e.call e.answer mid step) (beside_lives seat mid es b rest)

own_lives : (seat : ℕ) (rows : List Event) (a : Knows) (asked : Event) (b : Knows) → OwnRow seat rows a asked b → KnownLives a b
own_lives seat rows a asked b (Made_row made caused step) = known_lives seat a asked.call asked.answer b step
own_lives seat rows a asked b (Missing fault refused is same) = same_lives a b same

turn_lives : (alone : Bool) (a : DeskState) (e : Turned) (b : DeskState) → CallsBeside alone a e b → KnownLives a.knows b.knows
turn_lives alone a e b c =
    let r = c.rows in
    lives_on a.knows c.mid b.knows (drift_lives alone a.seat a.knows c.mid c.drift)
    (lives_on c.mid r.asks b.knows (beside_lives a.seat c.mid e.before r.asks r.before)
    (lives_on r.asks r.answers b.knows (own_lives a.seat e.before r.asks e.asked r.answers r.own) (beside_lives a.seat r.answers e.after b.knows r.after)))

pub turns_live : (alone : Bool) (a : DeskState) (es : List Turned) (b : DeskState) → Turns alone a es b → KnownLives a.knows b.knows
turns_live alone a [] b same = subst (λ (x : DeskState). KnownLives a.knows x.knows) (sym same) (self_lives a.knows)
turns_live alone a (e ∷ es) b (mid, made, rest) = lives_on a.knows mid.knows b.knows (turn_lives alone a e mid made) (turns_live alone mid es b rest)

-- A node that is told.

abbrev node_in : Knows → Node → Node
node_in (Tells n) other = n
node_in (Counts_alone c) other = other

told : (old new : Knows) (n : Node) → KnownLives old new → old ≡ Tells n → (m : Node) × (new ≡ Tells m) × ((events : List Happening) × Lives n events m)
told (Tells x) (Tells y) n life is = (y, refl, subst (λ (z : Node). (events : List Happening) × Lives z events y) (ap (λ k. node_in k x) is) life)
told (Tells x) (Counts_alone c) n life is = absurd life
told (Counts_alone c) new n life is = absurd (cc)

pub turns_sound : (alone : Bool) (a : DeskState) (es : List Turned) (b : DeskState) (old : Node) → Turns alone a es b → a.knows ≡ Tells old → Sound old → (new : Node) × (b.knows ≡ Tells new) × IsSound new × HasOnce new.state
turns_sound alone a es b old chain tells s =
    let t = told a.knows b.knows old (turns_live alone a es b chain) tells in
    (t.0, t.1, life_sound old t.2.0 t.0 t.2.1 s, life_once old t.2.0 t.0 t.2.1 s)

-- The states that calls pass are those of a life.

-- behind a life
past_behind : (old : Node) (es : List Happening) (mid : Node) (d : Durable) → Lives old es mid → KnownPast (Tells mid) d → KnownPast (Tells old) d
past_behind old [] mid d same p = subst (λ (n : Node). KnownPast (Tells n) d) same p
past_behind old (e ∷ es) mid d (x, happens, rest) p = let q = past_behind x es mid d rest p in (e ∷ q.0, q.1, (x, happens, q.2), inr q.3)

past_on : (a b : Knows) (d : Durable) → KnownLives a b → KnownPast b d → KnownPast a d
past_on (Tells a) (Tells b) d life p = past_behind a life.0 b d life.1 p
past_on (Tells a) (Counts_alone b) d life p = absurd life
past_on (Counts_alone a) b d life p = tt

step_past : (seat : ℕ) (old : Knows) (call : Call) (answer : Answer) (new : Knows) → KnownStep seat old call answer new → (d : Durable) → KnownPasses seat old call d → KnownPast old d
step_past seat (Tells old) call answer (Tells new) step d p = (Steps seat call answer ∷ [], new, (new, step, refl), inl p)
step_past seat (Tells old) call answer (Counts_alone c) step d p = absurd step
step_past seat (Counts_alone c) call answer new step d p = tt

others_past : (n seat : ℕ) (old new : Node) (steps : OtherSteps n seat old new) (d : Durable) → OthersPass n seat old new steps d → KnownPast (Tells old) d
others_past zero seat old new steps d p = absurd p
others_past (suc n) seat old new (mid, before, last) d (inl p) = others_past n seat old mid before d p
others_past (suc n) seat old new (mid, before, last) d (inr p) =
    let first = others_live n seat old mid before in
    past_behind old first.0 mid d first.1 (step_past last.other (Tells mid) last.call last.answer (Tells new) last.step d p)

drift_past : (alone : Bool) (seat : ℕ) (old new : Knows) (drift : Drifts alone seat old new) (d : Durable) → DriftPasses alone seat old new drift d → KnownPast old d
drift_past true seat old new same d p = absurd p
drift_past false seat (Tells old) (Tells new) (n, steps) d p = others_past n seat old new steps d p
drift_past false seat (Tells old) (Counts_alone c) none d p = absurd p
drift_past false seat (Counts_alone c) new rise d p = tt

beside_past : (seat : ℕ) (a : Knows) (es : List Event) (b : Knows) (rows : Beside seat a es b) (d : Durable) → BesidePass seat a es b rows d → KnownPast a d
beside_past seat a [] b rows d p = absurd p
beside_past seat a (e ∷ es) b (mid, caused, step, rest) d (inl p) = step_past seat a e.call e.answer mid step d p
beside_past seat a (e ∷ es) b (mid, caused, step, rest) d (inr p) =
    past_on a mid d (known_lives seat a e.call e.answer mid step) (beside_past seat mid es b rest d p)

own_past : (seat : ℕ) (rows : List Event) (a : Knows) (asked : Event) (b : Knows) (own : OwnRow seat rows a asked b) (d : Durable) → OwnPasses seat rows a asked b own d → KnownPast a d
own_past seat rows a asked b (Made_row made caused step) d p = step_past seat a asked.call asked.answer b step d p
own_past seat rows a asked b (Missing fault refused is same) d p = absurd p

rows_past : (seat : ℕ) (a : Knows) (e : Turned) (b : Knows) (r : Rowed seat a e b) (d : Durable) → RowsPass seat a e b r d → KnownPast a d
rows_past seat a e b r d (inl p) = beside_past seat a e.before r.asks r.before d p
rows_past seat a e b r d (inr (inl p)) =
    past_on a r.asks d (beside_lives seat a e.before r.asks r.before) (own_past seat e.before r.asks e.asked r.answers r.own d p)
rows_past seat a e b r d (inr (inr p)) =
    past_on a r.asks d (beside_lives seat a e.before r.asks r.before)
    (past_on r.asks r.answers d (own_lives seat e.before r.asks e.asked r.answers r.own) (beside_past seat r.answers e.after b r.after d p))

turn_past : (alone : Bool) (a : DeskState) (e : Turned) (b : DeskState) (c : CallsBeside alone a e b) (d : Durable) → TurnPasses alone a e b c d → KnownPast a.knows d
turn_past alone a e b c d (inl p) = drift_past alone a.seat a.knows c.mid c.drift d p
turn_past alone a e b c d (inr p) = past_on a.knows c.mid d (drift_lives alone a.seat a.knows c.mid c.drift) (rows_past a.seat c.mid e b.knows c.rows d p)

pub turns_past : (alone : Bool) (a : DeskState) (es : List Turned) (b : DeskState) (c : Turns alone a es b) (from : ℕ) (ts : List ℕ) (k : ℕ) (d : Durable) → AlongAt alone a es b c from ts k d → KnownPast a.knows d
turns_past alone a [] b c from ts k d p = absurd p
turns_past alone a (e ∷ es) b (mid, made, rest) from [] k d p = absurd p
turns_past alone a (e ∷ es) b (mid, made, rest) from (t ∷ ts) k d (inl p) = turn_past alone a e mid made d p.2
turns_past alone a (e ∷ es) b (mid, made, rest) from (t ∷ ts) k d (inr p) =
    past_on a.knows mid.knows d (turn_lives alone a e mid made) (turns_past alone mid es b rest t ts k d p)
