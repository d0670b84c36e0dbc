-- Every image since a session's opening is of a state in the life of its node.
use Rattle.std.proofs.Common.{ℕ, zero, suc, ◌<◌, ◌≤◌, Bool, true, false, List, [], ◌∷◌, ◌++◌, Option, refl, sym, subst, inl, inr}
use Rattle.node_model.specs.Durable.{Durable}
use Rattle.node_model.specs.Node.{Node}
use Rattle.node_model.specs.Calls.{OtherSteps, Knows, Tells, Counts_alone, Drifts, DeskState, Turned}
use Rattle.node_model.specs.Images.{Stand, OpensTo, OthersPass, DriftPasses, RanAt}
use Rattle.node_model.specs.Lives.{Happening, Steps, Lives, KnownLives, KnownPast}
use Rattle.node_model.proofs.CallsLive.{turns_live, turns_past}
use Rattle.node_model.proofs.Rans.{opens_weaker}
use Rattle.node_model.proofs.Lives.{lives_join}
use Rattle.binkp_link.specs.Lines.{LineState}
use Rattle.session_core.specs.Stages.{Setting}
use Rattle.session_run.specs.Reports.{ReportText}
use Rattle.session_run.specs.Laws.{WholeRun}
use Rattle.session_run.proofs.Chains.{whole_leads}

past_behind : (old : Node) (es : List Happening) (mid : Node) (d : Durable) → Lives old es mid → KnownPast (Tells mid) d → KnownPast (Tells old) d
past_behind old [] mid d same p = subst (λ (n : Node). KnownPast (Tells n) d) same p
past_behind old (e ∷ es) mid d (x, happens, rest) p = let q = past_behind x es mid d rest p in (e ∷ q.0, q.1, (x, happens, q.2), inr q.3)

past_on : (a b : Knows) (d : Durable) → KnownLives a b → KnownPast b d → KnownPast a d
past_on (Tells a) (Tells b) d life p = past_behind a life.0 b d life.1 p
past_on (Tells a) (Counts_alone b) d life p = absurd life
past_on (Counts_alone a) b d life p = tt

others_live : (n seat : ℕ) (old new : Node) → OtherSteps n seat old new → (events : List Happening) × Lives old events new
others_live zero seat old new same = ([], same)
others_live (suc n) seat old new (mid, before, last) =
    let first = others_live n seat old mid before in
    let e = Steps last.other last.call last.answer in
    (first.0 ++ e ∷ [], lives_join old first.0 mid (e ∷ []) new first.1 (new, last.step, refl))

others_past : (n seat : ℕ) (old new : Node) (steps : OtherSteps n seat old new) (d : Durable) → OthersPass n seat old new steps d → KnownPast (Tells old) d
others_past zero seat old new steps d p = absurd p
others_past (suc n) seat old new (mid, before, last) d (inl p) = others_past n seat old mid before d p
others_past (suc n) seat old new (mid, before, last) d (inr p) =
    let first = others_live n seat old mid before in
    past_behind old first.0 mid d first.1 (Steps last.other last.call last.answer ∷ [], new, (new, last.step, refl), inl p)

drift_past : (alone : Bool) (seat : ℕ) (old new : Knows) (drift : Drifts alone seat old new) (d : Durable) → DriftPasses alone seat old new drift d → KnownPast old d
drift_past true seat old new same d p = absurd p
drift_past false seat (Tells old) (Tells new) (n, steps) d p = others_past n seat old new steps d p
drift_past false seat (Tells old) (Counts_alone c) none d p = absurd p
drift_past false seat (Counts_alone c) new rise d p = tt

-- of the calls, and of the other seats' steps behind them
pub ran_past : (alone : Bool) (old : Stand) (es : List Turned) (new : Stand) → RanAt alone old es new → (k : ℕ) (d : Option Durable) → old.moment < k → k ≤ new.moment → new.images k d → OpensTo (KnownPast old.state.knows) d
ran_past alone old es new r k d after until i =
    opens_weaker _ (KnownPast old.state.knows) (λ x p. elim p [
      | inl q ↦ turns_past alone old.state es r.last r.chain old.moment r.times k x q
      | inr q ↦ past_on old.state.knows r.last.knows x (turns_live alone old.state es r.last r.chain) (drift_past alone r.last.seat r.last.knows new.state.knows r.tail.drift x q.1)
    ]) d (r.since k d after until i)

-- The life of a session's node.

pub lives_on : (a b c : Knows) → KnownLives a b → KnownLives b c → KnownLives a c
lives_on (Tells a) (Tells b) (Tells c) first second = (first.0 ++ second.0, lives_join a first.0 b second.0 c first.1 second.1)
lives_on (Tells a) (Tells b) (Counts_alone c) first second = absurd second
lives_on (Tells a) (Counts_alone b) c first second = absurd first
lives_on (Counts_alone a) b c first second = tt

self_lives : (knows : Knows) → KnownLives knows knows
self_lives (Tells n) = ([], refl)
self_lives (Counts_alone c) = tt

pub drift_lives : (alone : Bool) (seat : ℕ) (old new : Knows) → Drifts alone seat old new → KnownLives old new
drift_lives true seat old new same = subst (KnownLives old) (sym same) (self_lives old)
drift_lives false seat (Tells old) (Tells new) (n, steps) = others_live n seat old new steps
drift_lives false seat (Tells old) (Counts_alone c) none = absurd none
drift_lives false seat (Counts_alone c) new rise = tt

-- from the state in which it finds the node to that in which it leaves it
pub whole_lives : (alone : Bool) (setting : Setting) (line : LineState) (desk : DeskState) (report : ReportText) (line' : LineState) (desk' : DeskState) → WholeRun alone setting line desk report line' desk' → KnownLives desk.knows desk'.knows
whole_lives alone setting line desk report line' desk' x =
    lives_on desk.knows x.last.desk.knows desk'.knows (turns_live alone desk x.last.events x.last.desk (whole_leads alone setting line desk report line' desk' x)) (drift_lives alone x.last.desk.seat x.last.desk.knows desk'.knows x.desk_is.drift)
