-- An answer to a request behind what was taken in, and behind the call that received it.
use Rattle.std.proofs.Common.{◌≡◌, ◌⊎◌, ℕ, ◌≤◌, ◌<◌, true, [], Option, Some, None, option_map, refl, sym, ◌∙◌, ap, subst, inl, inr, arith}
use Rattle.node_model.specs.Durable.{Durable}
use Rattle.node_model.specs.Calls.{Answer, Call, Caused, Counts, Data_call, Event, File_call, IsMade, IsQueue, Knows, KnownStep, Made_row, Queue_call, StandBeside, TakesIn, counts_of, one}
use Rattle.node_model.specs.Images.{IsState, Kept, KnownPasses, OpensTo}
use Rattle.node_model.specs.Stores.{IsShelf, OpensShelf, Shelf, Stored, StoreState, StoreStand}
use Rattle.hub_core.specs.Anew.{anew}
use Rattle.hub_core.specs.HubCalls.{Does, ShelfPasses}
use Rattle.hub_core.specs.Hubs.{HubState, hub_stand, knows_over, seen, state_of}
use Rattle.hub_core.proofs.Anew.{knows_anew}
use Rattle.hub_core.proofs.Keeping.{counts_over, le_total}
use Rattle.take_steps.specs.declared.wanting.Wanting.{Wanting}
use Rattle.outbound_desk.specs.Answering.{Answered, Answers, MoreStaged, told_at}
use Rattle.outbound_desk.specs.Lines.{TakesIn as TakesIn_so}
use Rattle.outbound_desk.specs.TakenIn.{TakenIn}
use Rattle.outbound_desk.proofs.Merging.{more_none}
use Rattle.outbound_desk.proofs.StagingRows.{told_caused}

queue_takes : (call : Call) → IsQueue call → TakesIn call
queue_takes (Queue_call files taken answered) queues = tt
queue_takes call queues = absurd queues

-- an answer is taken in as files are
pub answer_taken : (h : HubState) (seat : ℕ) (v w : StoreStand) (now : Option Wanting) → Answered h seat v w now → TakenIn h seat v w now
answer_taken h seat v w now x = record {
  events = one x.call x.answer;
  takes_in = (queue_takes x.call x.queues, tt);
  rows = (told_at h seat w, told_caused h seat v w x.call x.answer x.caused, x.step (told_at h seat v) (more_none (told_at h seat v)), refl);
  ends = x.ends;
  moments = x.moments;
  since = λ k d after until image. opens d (x.since (told_at h seat v) (more_none (told_at h seat v)) k d after until image);
  settled = x.settled;
  fitted = x.fitted;
  drawn = x.drawn;
  turn = x.turn;
}
  where
    opens : (d : Option Shelf) → OpensShelf (λ e. KnownPasses seat (told_at h seat v) x.call e.state) d → OpensShelf (λ e. KnownPasses seat (told_at h seat v) x.call e.state ⊎ ⊥) d
    opens None image = image
    opens (Some e) image = inl image

pub answers_takes : (v w : StoreStand) (now : Option Wanting) → Answers v w now → TakesIn_so v w now
answers_takes v w now x h anew f d settled = answer_taken h v.state.seat v w now (x h anew f d settled)

-- Behind a call that received it.

seen_as : (P : Shelf → Type 0) (Q : Durable → Type 0) (e : Option Shelf) (d : Option Durable) → ((x : Shelf) → P x → Q x.state) → d ≡ option_map state_of e → OpensShelf P e → OpensTo Q d
seen_as P Q None d f is image = absurd image
seen_as P Q (Some x) d f is image = subst (OpensTo Q) (sym is) (f x image)

shelf_state : (c : Option Stored) (s : StoreState) (h : HubState) (seat : ℕ) (e : Shelf) → IsShelf c e → IsState (knows_over c s h seat) e.state
shelf_state None s h seat e is = is
shelf_state (Some a) s h seat e is = ap (λ (z : Shelf). z.state) is

known : (c : Option Stored) (s : StoreState) (h : HubState) (seat : ℕ) (call : Call) (x : Shelf) → ShelfPasses c s h seat call x → KnownPasses seat (knows_over c s h seat) call x.state
known None s h seat call x p = p
known (Some a) s h seat call x p = p

-- the calls that may receive a file
abbrev pub MayReceive : Call → Type 0
MayReceive (File_call key offset) = Unit {0}
MayReceive (Data_call bytes) = Unit {0}
MayReceive call = ⊥

stand_beside : (call asked : Call) (answer : Answer) → MayReceive call → IsQueue asked → StandBeside call [] (one asked answer)
stand_beside (File_call key offset) asked answer may queues = (refl, queues)
stand_beside (Data_call bytes) asked answer may queues = (refl, queues)
stand_beside call asked answer may queues = absurd may

module _ (v w u : StoreStand) (h g : HubState) (seat last : ℕ) (call : Call) (answer : Answer) (may : MayReceive call) (made : IsMade answer) (stays : last ≡ seat) (does : Does v h seat call answer w g) where
  -- The row behind it, at the hub whose searches begin anew.
  module _ (now : Option Wanting) (x : Answered (anew g) seat w u now) where
    abbrev start : Knows
    start = told_at h seat v

    abbrev mid : Knows
    mid = told_at g seat w

    abbrev end : Knows
    end = told_at (anew g) seat u

    same : told_at (anew g) seat w ≡ mid
    same = knows_anew w.state.content w.state g seat

    event : Event
    event = record { call = x.call; answer = x.answer }

    step : KnownStep seat mid x.call x.answer end
    step = x.step mid (subst (λ (k : Knows). MoreStaged mid k) (sym same) (more_none mid))

    caused : Caused (counts_of mid) x.call x.answer (counts_of end)
    caused = subst (λ (k : Knows). Caused (counts_of k) x.call x.answer (counts_of end)) same (told_caused (anew g) seat w u x.call x.answer x.caused)

    pub answered_behind : Kept true (hub_stand v h seat) call answer (hub_stand u (anew g) last)
    answered_behind =
        let first = does.leaves.later in
        let second = x.moments.later in
        subst (λ (k : ℕ). Kept true (hub_stand v h seat) call answer (hub_stand u (anew g) k)) (sym stays) (record {
          rows_before = [];
          rows_after = one x.call x.answer;
          made = record {
            seat = refl;
            mid = start;
            drift = refl;
            rows = record {
              beside = stand_beside call x.call x.answer may x.queues;
              asks = start;
              before = refl;
              answers = mid;
              own = Made_row tt (told_here does.caused) does.step;
              after = (end, caused, step, refl);
            };
          };
          later = omega (arith, first, second);
          before = λ k d within image. (image.0, does.leaves.before k image.0 within (x.moments.before k image.0 (omega (arith, first, within)) image.1), image.2);
          since = λ k d after until image. go (λ e. ⊥ ⊎ ((⊥ ⊎ (KnownPasses seat start call e ⊎ (KnownPasses seat mid x.call e ⊎ ⊥))))) (λ e p. inr (inr (inl p))) (λ e p. inr (inr (inr (inl p)))) k d after until image (le_total k w.moment);
          now = λ settles all whole d image. seen_as (IsShelf u.state.content) (IsState end) image.0 d (λ e is. shelf_state u.state.content u.state (anew g) seat e is) image.2 (x.settled (sym (ap (λ (c : Counts). c.broken) (counts_over u.state.content u.state (anew g) seat)) ∙ whole) image.0 image.1);
        })
      where
        told_here : Caused v.state.counts call answer w.state.counts → Caused (counts_of start) call answer (counts_of mid)
        told_here c =
            subst (λ (k : Counts). Caused k call answer (counts_of mid)) (sym (counts_over v.state.content v.state h seat))
            (subst (λ (k : Counts). Caused v.state.counts call answer k) (sym (counts_over w.state.content w.state g seat)) c)

        go : (Q : Durable → Type 0) → ((e : Durable) → KnownPasses seat start call e → Q e) → ((e : Durable) → KnownPasses seat mid x.call e → Q e) → (k : ℕ) (d : Option Durable) → v.moment < k → k ≤ u.moment → seen u.images k d → (k ≤ w.moment) ⊎ (w.moment < k) → OpensTo Q d
        go Q left right k d after until image (inl early) =
            seen_as (ShelfPasses v.state.content v.state h seat call) Q image.0 d (λ e p. left e.state (known v.state.content v.state h seat call e p)) image.2 (does.leaves.since k image.0 after early (x.moments.before k image.0 early image.1))
        go Q left right k d after until image (inr late) =
            seen_as (λ e. KnownPasses seat mid x.call e.state) Q image.0 d (λ e p. right e.state p) image.2 (x.since mid (subst (λ (n : Knows). MoreStaged mid n) (sym same) (more_none mid)) k image.0 late until image.1)
