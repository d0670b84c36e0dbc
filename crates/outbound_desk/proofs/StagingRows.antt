-- Calls that stage one behind another, and the row behind them.
use Rattle.std.proofs.Common.{◌≡◌, ◌⊎◌, ℕ, ◌≤◌, ◌<◌, [], Option, Some, None, refl, sym, ◌∙◌, ap, subst, inl, inr, arith, le_refl}
use Rattle.node_model.specs.Node.{Node}
use Rattle.node_model.specs.Calls.{Answer, Before_it, Call, Caused, Counts, Counts_alone, FindsFull, Full, IsQueue, Knows, KnownStep, Queue_call, Queued, Refused, Tells, counts_of, one}
use Rattle.node_model.specs.Images.{IsState, KnownPasses}
use Rattle.node_model.specs.Stores.{OpensShelf, Shelf, Stored, StoreState, StoreStand}
use Rattle.hub_core.specs.Anew.{LooksAnew}
use Rattle.hub_core.specs.HubCalls.{ShelfPasses}
use Rattle.hub_core.specs.Hubs.{Fitted, HubState, IsSettled, knows_over, node_with}
use Rattle.hub_core.proofs.Keeping.{counts_over, le_total, opens_shelf}
use Rattle.take_steps.specs.declared.wanting.Wanting.{Wanting}
use Rattle.outbound_desk.specs.Answering.{Answered, MoreStaged, Staging, told_at}
use Rattle.outbound_desk.specs.TakenIn.{AreDrawn, EndsSo}
use Rattle.outbound_desk.proofs.Merging.{more_none, more_then, none_passes, queue_before, queue_passes, queues_none}
use Rattle.outbound_desk.proofs.OneRow.{IsIdle, OneRow, RowPasses}

-- where the hub is now
pub idle_at : (h : HubState) (seat : ℕ) (a b : StoreStand) → LooksAnew h → b.state.counts.broken ≡ None → Staging h seat a b → IsIdle h b
idle_at h seat a b anew whole x = record { anew = anew; whole = whole; fitted = x.fitted; drawn = x.drawn }

-- No call.
pub staging_none : (h : HubState) (w : StoreStand) → Fitted w.state h → AreDrawn w.state → IsSettled w → Staging h w.state.seat w w
staging_none h w f d settled = record {
  knows = more_none (told_at h w.state.seat w);
  counts = refl;
  moments = record { later = le_refl _; before = λ k e within image. image };
  since = λ k e after until image. absurd (omega (arith, after, until));
  settled = settled;
  fitted = f;
  drawn = d;
  turn = refl;
}

-- what a row that queues no file is to the node
none_known : (seat : ℕ) (a b : Knows) → KnownStep seat a (Queue_call [] None None) (Queued []) b → Caused (counts_of a) (Queue_call [] None None) (Queued []) (counts_of b) → MoreStaged a b
none_known seat (Tells n) (Tells m) step caused = queues_none seat n m step.1
none_known seat (Counts_alone c) (Counts_alone d) step caused = λ i. record { store = caused.1 i; busy = step.0 i; reads = step.1 i }
none_known seat (Tells n) (Counts_alone d) step caused = absurd step
none_known seat (Counts_alone c) (Tells m) step caused = absurd step

is_state : (c : Option Stored) (s : StoreState) (h : HubState) (seat : ℕ) (e : Shelf) → ShelfPasses c s h seat (Queue_call [] None None) e → IsState (knows_over c s h seat) e.state
is_state None s h seat e p = p
is_state (Some a) s h seat e p = none_passes seat (node_with a s h) e.state p

same_state : (a b : Knows) (e : Shelf) → MoreStaged a b → IsState b e.state → IsState a e.state
same_state (Tells n) (Tells m) e more is = is ∙ ap (λ (x : Node). x.state) more.0
same_state (Counts_alone c) (Counts_alone d) e more is = is
same_state (Tells n) (Counts_alone d) e more is = absurd more
same_state (Counts_alone c) (Tells m) e more is = absurd more

pub told_caused : (h : HubState) (seat : ℕ) (v w : StoreStand) (call : Call) (answer : Answer) → Caused v.state.counts call answer w.state.counts → Caused (counts_of (told_at h seat v)) call answer (counts_of (told_at h seat w))
told_caused h seat v w call answer caused =
    subst (λ (c : Counts). Caused c call answer (counts_of (told_at h seat w))) (sym (counts_over v.state.content v.state h seat))
    (subst (λ (c : Counts). Caused v.state.counts call answer c) (sym (counts_over w.state.content w.state h seat)) caused)

-- One call more, at a hub whose store is whole: it is a row that queues no file.
module _ (h : HubState) (b c : StoreStand) (row : OneRow h (Queue_call [] None None) (Queued []) b c) (counts : c.state.counts ≡ b.state.counts) (whole : b.state.counts.broken ≡ None) where
  unbroken : c.state.counts.broken ≡ None
  unbroken = ap (λ (k : Counts). k.broken) counts ∙ whole

  more : MoreStaged (told_at h b.state.seat b) (told_at h b.state.seat c)
  more = none_known b.state.seat (told_at h b.state.seat b) (told_at h b.state.seat c) row.step (told_caused h b.state.seat b c (Queue_call [] None None) (Queued []) row.caused)

  pub staging_one : Staging h b.state.seat b c
  staging_one = record {
    knows = more;
    counts = counts;
    moments = record { later = row.images.leaves.later; before = row.images.leaves.before };
    since = λ k e after until image. opens_shelf (RowPasses h (Queue_call [] None None) b) (λ x. IsState (told_at h b.state.seat b) x.state) (λ x p. is_state b.state.content b.state h b.state.seat x p) e (row.images.leaves.since k e after until image);
    settled = row.images.settled unbroken;
    fitted = row.fitted unbroken;
    drawn = row.drawn unbroken;
    turn = row.turn;
  }

-- One behind another.
pub staging_then : (h : HubState) (seat : ℕ) (a b c : StoreStand) → Staging h seat a b → Staging h seat b c → Staging h seat a c
staging_then h seat a b c x y =
    let first = x.moments.later in
    let second = y.moments.later in
    record {
      knows = more_then (told_at h seat a) (told_at h seat b) (told_at h seat c) x.knows y.knows;
      counts = y.counts ∙ x.counts;
      moments = record { later = omega (arith, first, second); before = λ k d within image. x.moments.before k d within (y.moments.before k d (omega (arith, first, within)) image) };
      since = λ k d after until image. go k d after until image (le_total k b.moment);
      settled = y.settled;
      fitted = y.fitted;
      drawn = y.drawn;
      turn = y.turn;
    }
  where
    go : (k : ℕ) (d : Option Shelf) → a.moment < k → k ≤ c.moment → c.images k d → (k ≤ b.moment) ⊎ (b.moment < k) → OpensShelf (λ e. IsState (told_at h seat a) e.state) d
    go k d after until image (inl early) = x.since k d after early (y.moments.before k d early image)
    go k d after until image (inr late) =
        opens_shelf (λ e. IsState (told_at h seat b) e.state) (λ e. IsState (told_at h seat a) e.state) (λ e is. same_state (told_at h seat a) (told_at h seat b) e x.knows is) d (y.since k d late until image)

-- The row behind them.

-- a state of the node is one that its row passes
passes_state : (seat : ℕ) (a : Knows) (call : Call) (e : Shelf) → IsState a e.state → KnownPasses seat a call e.state
passes_state seat (Tells n) call e is = Before_it is
passes_state seat (Counts_alone c) call e is = is

pub answered_then : (h : HubState) (seat : ℕ) (a b c : StoreStand) (now : Option Wanting) → Staging h seat a b → Answered h seat b c now → Answered h seat a c now
answered_then h seat a b c now x y =
    let first = x.moments.later in
    let second = y.moments.later in
    record {
      call = y.call;
      answer = y.answer;
      queues = y.queues;
      caused = subst (λ (k : Counts). Caused k y.call y.answer c.state.counts) x.counts y.caused;
      step = λ k behind. y.step k (more_then k (told_at h seat a) (told_at h seat b) behind x.knows);
      ends = y.ends;
      moments = record { later = omega (arith, first, second); before = λ k d within image. x.moments.before k d within (y.moments.before k d (omega (arith, first, within)) image) };
      since = λ n behind k d after until image. go n behind k d after until image (le_total k b.moment);
      settled = y.settled;
      fitted = y.fitted;
      drawn = y.drawn;
      turn = y.turn;
    }
  where
    go : (n : Knows) → MoreStaged n (told_at h seat a) → (k : ℕ) (d : Option Shelf) → a.moment < k → k ≤ c.moment → c.images k d → (k ≤ b.moment) ⊎ (b.moment < k) → OpensShelf (λ e. KnownPasses seat n y.call e.state) d
    go n behind k d after until image (inl early) =
        opens_shelf (λ e. IsState (told_at h seat a) e.state) (λ e. KnownPasses seat n y.call e.state) (λ e is. passes_state seat n y.call e (same_state n (told_at h seat a) e behind is)) d (x.since k d after early (y.moments.before k d early image))
    go n behind k d after until image (inr late) = y.since n (more_then n (told_at h seat a) (told_at h seat b) behind x.knows) k d late until image

-- One row of a hub whose store is whole, which finds no place only where it would have found none before numbers were drawn.

-- the row's cause holds whatever numbers were drawn
abbrev pub FullBefore : HubState → StoreStand → Call → Answer → Type 0
FullBefore h b call answer =
    (n m : Node) → told_at h b.state.seat b ≡ Tells m → MoreStaged (Tells n) (Tells m) → answer ≡ Refused Full → FindsFull b.state.seat n call

module _ (h : HubState) (b c : StoreStand) (call : Call) (answer : Answer) (now : Option Wanting) (queues : IsQueue call) (row : OneRow h call answer b c) (whole : b.state.counts.broken ≡ None) (full : FullBefore h b call answer) (ends : EndsSo (one call answer) c.state.counts.broken now) where
  node_whole : (k : Option Stored) (m : Node) → knows_over k b.state h b.state.seat ≡ Tells m → m.broken ≡ None
  node_whole (Some a) m is = ap (λ (x : Knows). (counts_of x).broken) (sym is) ∙ whole
  node_whole None m is = ap (λ (x : Knows). (counts_of x).broken) (sym is) ∙ whole

  behind_whole : (n m : Node) → told_at h b.state.seat b ≡ Tells m → MoreStaged (Tells n) (Tells m) → n.broken ≡ None
  behind_whole n m is more = ap (λ (x : Node). x.broken) (sym more.0) ∙ node_whole b.state.content m is

  pub answered_one : Answered h b.state.seat b c now
  answered_one = record {
    call = call;
    answer = answer;
    queues = queues;
    caused = row.caused;
    step = λ k behind. queue_before b.state.seat k (told_at h b.state.seat b) (told_at h b.state.seat c) call answer queues behind (λ n m at told. let near = subst (λ (x : Knows). MoreStaged x (Tells m)) at (subst (λ (x : Knows). MoreStaged k x) told behind) in (behind_whole n m told near, λ is. full n m told near is)) row.step;
    ends = ends;
    moments = record { later = row.images.leaves.later; before = row.images.leaves.before };
    since = λ n behind k d after until image. opens_shelf (RowPasses h call b) (λ e. KnownPasses b.state.seat n call e.state) (λ e p. queue_passes b.state.seat n (told_at h b.state.seat b) call e.state queues behind (known b.state.content b.state h b.state.seat call e p)) d (row.images.leaves.since k d after until image);
    settled = row.images.settled;
    fitted = row.fitted;
    drawn = row.drawn;
    turn = row.turn;
  }
    where
      known : (k : Option Stored) (s : StoreState) (h : HubState) (seat : ℕ) (call : Call) (x : Shelf) → ShelfPasses k s h seat call x → KnownPasses seat (knows_over k s h seat) call x.state
      known None s h seat call x p = p
      known (Some a) s h seat call x p = p
