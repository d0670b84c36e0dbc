-- What a turn at one seat of a hub leaves to the session at another.
use Rattle.std.proofs.Common.{◌≡◌, ◌≢◌, ◌⊎◌, ℕ, zero, suc, ◌<◌, ◌==◌, true, false, List, [], ◌∷◌, ◌++◌, arith, Option, Some, None, length, option_map, refl, sym, ◌∙◌, ap, subst, inl, inr}
use Rattle.std.specs.Option.{is_some}
use Rattle.node_model.specs.Items.{Entry}
use Rattle.node_model.specs.Node.{Node, Session, Settings, session_at, claim_in, hold_in}
use Rattle.node_model.specs.declared.words.Role.{Role}
use Rattle.node_model.specs.Calls.{Answer, OtherSteps, Turned, Event, Knows, Tells, Counts, DeskState, Knock_call, Let_in, OwnRow, Made_row, Missing, Beside, Turns, counts_of}
use Rattle.node_model.specs.Desks.{Claim, DeskPart, IsClaimed, IsPartAt}
use Rattle.node_model.specs.Images.{Kept, RanAt, Stand}
use Rattle.node_model.specs.Lives.{Steps}
use Rattle.node_model.specs.Sound.{Distinct, same_number}
use Rattle.node_model.specs.Stores.{Stored, StoreStand}
use Rattle.node_model.specs.Talk.{part_of}
use Rattle.node_model.proofs.Distinct.{distinct_one}
use Rattle.node_model.proofs.Lists.{eqb_refl}
use Rattle.node_model.proofs.SharedHub.{others_shared}
use Rattle.world_pair.specs.Nodes.{QueueStays}
use Rattle.world_pair.proofs.Apart.{step_apart}
use Rattle.world_pair.proofs.QueueStays.{queue_self, queue_then, still_queued, life_queue}
use Rattle.mem_store.specs.ListStates.{ListState, stand_of, state_of, stored_of}
use Rattle.hub_core.specs.Hubs.{HubState, IsReady, hub_stand, node_with, seat_part}
use Rattle.hub_core.specs.HubLaws.{seat_tied}
use Rattle.hub_core.specs.Opening.{IsWhole, no_seats, with_seat}
use Rattle.node_model.proofs.Rans.{ran_one, ran_then}
use Rattle.binkp_link.specs.Pipes.{Pipe}
use Rattle.binkp_link.specs.Lines.{LineState}
use Rattle.session_core.specs.Stages.{Setting}
use Rattle.session_run.specs.declared.run.Run.{Run}
use Rattle.session_run.specs.declared.turns.Course.{Course}
use Rattle.session_run.specs.declared.turns.Going.{Going}
use Rattle.session_run.specs.declared.turns.Going.TheVariants as G
use Rattle.session_run.specs.declared.turns.Turn.{Turn}
use Rattle.session_run.specs.declared.turns.Turn.TheVariants as U
use Rattle.session_run.specs.Courses.{MayTurn, TurnWent}
use Rattle.session_run.specs.Runs.{Spot}
use Rattle.mem_talk.specs.Halves.{GoesOn, MayGoOn, TurnRan}
use Rattle.mem_talk.specs.Crossings.{CameIn, HoldsBoth, MayBegin, MayTell, MayTurnLeg, Ran, Rests}
use Rattle.mem_talk.specs.declared.leg.Leg.{Leg}
use Rattle.mem_talk.specs.declared.told.Told.{Told}
use Rattle.mem_talk.specs.declared.told.Told.TheVariants as W

-- one seat's session, and the queue, over steps of others
record Stays (i : ℕ) (a b : Node) : Type 0 where
  pub session : session_at b i ≡ session_at a i
  pub queue : QueueStays a.state.queue b.state.queue

others_rest : (n i : ℕ) (a b : Node) → OtherSteps n i a b → Stays i a b
others_rest zero i a b same = record { session = ap (λ (x : Node). session_at x i) same; queue = subst (λ (x : Node). QueueStays a.state.queue x.state.queue) (sym same) (queue_self a.state.queue) }
others_rest (suc n) i a b (mid, before, last) =
    let r = others_rest n i a mid before in
    record {
      session = step_apart last.other mid last.call last.answer b i (λ same. last.apart (sym same)) last.step ∙ r.session;
      queue = queue_then a.state.queue mid.state.queue b.state.queue r.queue (life_queue mid (Steps last.other last.call last.answer ∷ []) b (b, last.step, refl));
    }

-- the claimed entry has its key still
claim_rests : (old new : List Entry) (c d : Option Claim) → QueueStays old new → Distinct same_number new → option_map (λ (x : Claim). x.number) d ≡ option_map (λ (x : Claim). x.number) c → ((x : Claim) → c ≡ Some x → IsClaimed x old) → ((x : Claim) → d ≡ Some x → IsClaimed x new) → d ≡ c
claim_rests old new None None stays one same was is = refl
claim_rests old new None (Some y) stays one same was is = absurd (cc)
claim_rests old new (Some x) None stays one same was is = absurd (cc)
claim_rests old new (Some x) (Some y) stays one same was is =
    let number : y.number ≡ x.number = cc in
    let e = was x refl in
    let f = is y refl in
    let g = still_queued old new e.entry stays e.there in
    let first : g.0.number ≡ x.number = g.2.number ∙ e.numbered in
    let second : f.entry.number ≡ x.number = f.numbered ∙ number in
    let entry : f.entry ≡ g.0 = distinct_one same_number new f.entry g.0 one f.there g.1 (alike f.entry.number g.0.number (second ∙ sym first)) (alike g.0.number f.entry.number (first ∙ sym second)) in
    let key : y.key ≡ x.key = sym f.keyed ∙ (ap (λ (z : Entry). z.key) entry ∙ (g.2.key ∙ e.keyed)) in
    λ i. Some (record { number = number i; key = key i })
  where
    alike : (m n : ℕ) → m ≡ n → (m == n) ≡ true
    alike m n e = subst (λ (k : ℕ). (m == k) ≡ true) e (eqb_refl m)

part_rests : (i : ℕ) (a b : Node) (p q : DeskPart) → Stays i a b → Distinct same_number b.state.queue → IsPartAt p i a → IsPartAt q i b → q ≡ p
part_rests i a b p q r one x y =
    let opened : q.open_now ≡ p.open_now = y.opened ∙ (ap (λ (s : Option Session). is_some s) r.session ∙ sym x.opened) in
    let claim : q.claim ≡ p.claim = claim_rests a.state.queue b.state.queue p.claim q.claim r.queue one (y.claimed ∙ (ap (λ (s : Option Session). claim_in s) r.session ∙ sym x.claimed)) x.queued y.queued in
    let held : q.held ≡ p.held = y.held ∙ (ap (λ (s : Option Session). part_of (hold_in s)) r.session ∙ sym x.held) in
    λ k. record { open_now = opened k; claim = claim k; held = held k }

-- The session at the seat i rests while the seat j makes calls over the same store, which isn't broken.
pub seat_rests : (s t : ListState) (h g : HubState) (i j : ℕ) (es : List Turned) → j ≢ i → s.counts.broken ≡ None → t.counts.broken ≡ None → i < length g.chairs → IsReady (stand_of s) h i → IsReady (stand_of t) g j → RanAt true (hub_stand (stand_of s) h j) es (hub_stand (stand_of t) g j) → IsReady (stand_of t) g i × (seat_part g i ≡ seat_part h i)
seat_rests s t h g i j es apart first last given old new ran =
    let a = node_with (stored_of s) (state_of s) h in
    let b = node_with (stored_of t) (state_of t) g in
    let shared = others_shared i j a b _ _ _ _ es apart ran in
    let drift = shared.drifted.drift in
    let ready : IsReady (stand_of t) g i = record { given = given; fitted = new.fitted; settled = new.settled } in
    let fitted = new.fitted last in
    let one = subst (λ (k : Stored). Distinct same_number k.stock.state.queue) (sym fitted.tells) fitted.fits.sound.queue.numbers in
    (ready, part_rests i a b (seat_part h i) (seat_part g i) (others_rest drift.0 i a b drift.1) one (seat_tied (stand_of s) h i old first) (seat_tied (stand_of t) g i ready last))

-- What one session may do.

may_turn : (ready ready' : Type 0) (p q : DeskPart) (broken broken' : Option ℕ) (calm : ℕ) (run : Run) (going : Going) → ready' → q ≡ p → broken ≡ None → MayTurn ready p broken calm run going → MayTurn ready' q broken' calm run going
may_turn ready ready' p q broken broken' calm run G.Starting new same unbroken may = (may.0, same ∙ may.1, may.2, may.3)
may_turn ready ready' p q broken broken' calm run G.Talking new same unbroken may = (record { is_ready = new; part_is = same ∙ may.0.part_is }, may.1, may.2)
may_turn ready ready' p q broken broken' calm run (G.Draining mute end) new same unbroken may = (λ still. ap (λ (x : DeskPart). x.open_now) same ∙ may.0 unbroken, may.1)
may_turn ready ready' p q broken broken' calm run G.Closed new same unbroken may = may

-- A session may go on where its seat is ready again with the same part.
pub goes_on : (v w : StoreStand) (h g : HubState) (i : ℕ) (course : Course) (pipe : Pipe) → v.state.counts.broken ≡ None → IsReady w g i → seat_part g i ≡ seat_part h i → MayGoOn v h i course pipe → MayGoOn w g i course pipe
goes_on v w h g i course pipe unbroken ready same may =
    record {
      is_ready = ready;
      may = may_turn _ _ _ _ _ _ pipe.line.calm course.run course.going ready same unbroken may.may;
      limit = may.limit;
      unclosed = may.unclosed;
    }

-- The session at another seat that was given rests.
pub other_rests : (s t : ListState) (h g : HubState) (i j : ℕ) (course : Course) (pipe : Pipe) → j ≢ i → i < length g.chairs → IsReady (stand_of t) g j → Ran (stand_of s) h j (stand_of t) g → Rests (stand_of s) h i course pipe → Rests (stand_of t) g i course pipe
other_rests s t h g i j course pipe apart given ready ran rests =
    record {
      given = given;
      may = λ still.
          let may = rests.may ran.unbroken in
          let r = seat_rests s t h g i j ran.events apart ran.unbroken still given may.is_ready ready ran.ran in
          goes_on (stand_of s) (stand_of t) h g i course pipe ran.unbroken r.0 r.1 may;
    }

-- A knock that is let in.

let_in : (seat : ℕ) (role : Role) (before : List Event) (x y : Knows) → OwnRow seat before x (record { call = Knock_call role; answer = Let_in }) y → (counts_of x).broken ≡ None × (counts_of y ≡ counts_of x)
let_in seat role before x y (Made_row made caused step) = (works caused.0, caused.1)
  where
    works : {A : Type 0} → A ⊎ ⊥ → A
    works (inl a) = a
    works (inr b) = absurd b
let_in seat role before x y (Missing fault refused is same) = absurd (cc)

came_same : (s t : ListState) (h g : HubState) (seat : ℕ) (role : Role) → seat_part g seat ≡ seat_part h seat → Kept true (hub_stand (stand_of s) h seat) (Knock_call role) Let_in (hub_stand (stand_of t) g seat) → CameIn (stand_of s) h seat (stand_of t) g
came_same s t h g seat role part kept =
    let rows = kept.made.rows in
    let own = let_in seat role kept.rows_before rows.asks rows.answers rows.own in
    let x : Knows = Tells (node_with (stored_of s) (state_of s) h) in
    let y : Knows = Tells (node_with (stored_of t) (state_of t) g) in
    let first : rows.asks ≡ x = nothing_before seat kept.made.mid rows.asks kept.rows_before rows.beside.0 rows.before ∙ kept.made.drift in
    let last : y ≡ rows.answers = nothing_before seat rows.answers y kept.rows_after rows.beside.1 rows.after in
    let before : (counts_of rows.asks).broken ≡ s.counts.broken = ap (λ (k : Knows). (counts_of k).broken) first in
    let after : t.counts.broken ≡ (counts_of rows.answers).broken = ap (λ (k : Knows). (counts_of k).broken) last in
    let kept_so : (counts_of rows.answers).broken ≡ (counts_of rows.asks).broken = ap (λ (c : Counts). c.broken) own.1 in
    record {
      ran = record { unbroken = sym before ∙ own.0; events = _; ran = ran_one true _ _ _ _ kept };
      part = part;
      unbroken = after ∙ (kept_so ∙ own.0);
    }
  where
    nothing_before : (seat : ℕ) (a b : Knows) (es : List Event) → es ≡ [] → Beside seat a es b → b ≡ a
    nothing_before seat a b es none rows = subst (λ (xs : List Event). Beside seat a xs b) none rows

pub came_in : (s t : ListState) (h g : HubState) (seat after : ℕ) (role : Role) (answer : Answer) → answer ≡ Let_in → seat_part g after ≡ seat_part h seat → Kept true (hub_stand (stand_of s) h seat) (Knock_call role) answer (hub_stand (stand_of t) g after) → CameIn (stand_of s) h seat (stand_of t) g
came_in s t h g seat after role answer is part kept =
    let same : after ≡ seat = kept.made.seat in
    let there : Kept true (hub_stand (stand_of s) h seat) (Knock_call role) answer (hub_stand (stand_of t) g seat) = subst (λ (k : ℕ). Kept true (hub_stand (stand_of s) h seat) (Knock_call role) answer (hub_stand (stand_of t) g k)) same kept in
    came_same s t h g seat role (subst (λ (k : ℕ). seat_part g k ≡ seat_part h seat) same part) (subst (λ (a : Answer). Kept true (hub_stand (stand_of s) h seat) (Knock_call role) a (hub_stand (stand_of t) g seat)) is there)

-- A turn.

turns_seat : (a : DeskState) (es : List Turned) (b : DeskState) → Turns true a es b → b.seat ≡ a.seat
turns_seat a [] b same = ap (λ (x : DeskState). x.seat) same
turns_seat a (e ∷ es) b (mid, calls, rest) = turns_seat mid es b rest ∙ calls.seat

pub ran_seat : (old new : Stand) (es : List Turned) → RanAt true old es new → new.state.seat ≡ old.state.seat
ran_seat old new es r = r.tail.seat ∙ turns_seat old.state es r.last r.chain

pub turn_ran : (s : Setting) (old new : Stand) (a : Spot) (course : Course) (line : LineState) (turn : Turn) → TurnWent true s old a new course line turn → TurnRan old new
turn_ran s old new a course line U.More went = record { events = went.events; ran = went.ran }
turn_ran s old new a course line (U.Ended report) went = record { events = went.4.events; ran = went.4.ran }

-- a turn behind a knock
pub ran_on : (s t u : ListState) (h g f : HubState) (seat mid after : ℕ) → mid ≡ seat → CameIn (stand_of s) h seat (stand_of t) g → TurnRan (hub_stand (stand_of t) g mid) (hub_stand (stand_of u) f after) → (after ≡ seat) × Ran (stand_of s) h seat (stand_of u) f
ran_on s t u h g f seat mid after same came r =
    let still : after ≡ mid = ran_seat _ _ r.events r.ran in
    let there : RanAt true (hub_stand (stand_of t) g mid) r.events (hub_stand (stand_of u) f mid) = subst (λ (k : ℕ). RanAt true (hub_stand (stand_of t) g mid) r.events (hub_stand (stand_of u) f k)) still r.ran in
    let ran : RanAt true (hub_stand (stand_of t) g seat) r.events (hub_stand (stand_of u) f seat) = subst (λ (k : ℕ). RanAt true (hub_stand (stand_of t) g k) r.events (hub_stand (stand_of u) f k)) same there in
    (still ∙ same, record { unbroken = came.ran.unbroken; events = came.ran.events ++ r.events; ran = ran_then true _ came.ran.events _ r.events _ came.ran.ran ran })

-- A session that is new may begin at a seat without a session.
pub begins : (v : StoreStand) (h : HubState) (seat : ℕ) (pipe : Pipe) (told : Told) → IsReady v h seat → seat_part h seat ≡ record { open_now = false; claim = None; held = None } → MayBegin pipe told → MayTell v h seat pipe told
begins v h seat pipe (W.Goes course) ready none may =
    let begun : MayTurn (IsReady v h seat) (seat_part h seat) v.state.counts.broken pipe.line.calm course.value.run G.Starting = (may.1, none, may.2, may.4) in
    record {
      given = ready.given;
      may = λ still. record {
        is_ready = ready;
        may = subst (λ (going : Going). MayTurn (IsReady v h seat) (seat_part h seat) v.state.counts.broken pipe.line.calm course.value.run going) (sym may.0) begun;
        limit = may.3;
        unclosed = may.5;
      };
    }
begins v h seat pipe (W.Over report) ready none may = absurd may
begins v h seat pipe W.Lost ready none may = absurd may

-- what goes on rests
pub told_on : (v : StoreStand) (h : HubState) (seat : ℕ) (pipe : Pipe) (told : Told) → IsReady v h seat → GoesOn v h seat pipe told → MayTell v h seat pipe told
told_on v h seat pipe (W.Goes course) ready may = record { given = ready.given; may = λ still. may }
told_on v h seat pipe (W.Over report) ready may = tt
told_on v h seat pipe W.Lost ready may = tt

-- The other session, whatever became of it.
pub leg_rests : (s t : ListState) (h g : HubState) (leg : Leg) (j : ℕ) → j ≢ leg.seat → leg.seat < length g.chairs → IsReady (stand_of t) g j → Ran (stand_of s) h j (stand_of t) g → MayTurnLeg (stand_of s) h leg → MayTurnLeg (stand_of t) g leg
leg_rests s t h g leg j apart given ready ran may = told_rests s t h g leg.seat j leg.pipe leg.told apart given ready ran may
  where
    told_rests : (s t : ListState) (h g : HubState) (i j : ℕ) (pipe : Pipe) (told : Told) → j ≢ i → i < length g.chairs → IsReady (stand_of t) g j → Ran (stand_of s) h j (stand_of t) g → MayTell (stand_of s) h i pipe told → MayTell (stand_of t) g i pipe told
    told_rests s t h g i j pipe (W.Goes course) apart given ready ran may = other_rests s t h g i j course.value pipe apart given ready ran may
    told_rests s t h g i j pipe (W.Over report) apart given ready ran may = tt
    told_rests s t h g i j pipe W.Lost apart given ready ran may = tt

-- what is lost owes nothing
lost : (v : StoreStand) (h : HubState) (leg : Leg) → leg.told ≡ W.Lost → MayTurnLeg v h leg
lost v h leg same = subst (λ (x : Told). MayTell v h leg.seat leg.pipe x) (sym same) tt

-- The session that made a turn, beside the other one.
pub both_hold : (s t : ListState) (h g : HubState) (seat after : ℕ) (pipe : Pipe) (told : Told) (own other : Leg) → own.pipe ≡ pipe → own.seat ≡ seat → own.told ≡ told → seat ≢ other.seat → after ≡ seat → other.seat < length g.chairs → IsReady (stand_of t) g after → Ran (stand_of s) h seat (stand_of t) g → MayTell (stand_of t) g after pipe told → MayTurnLeg (stand_of s) h other → HoldsBoth (stand_of t) g after own other
both_hold s t h g seat after pipe told own other piped seated tells apart same given ready ran may rests =
    let there : after ≡ own.seat = same ∙ sym seated in
    record {
      is_ready = ready;
      own_may = own_may s t h g seat after pipe told own piped tells there may;
      other_may = leg_rests s t h g other seat apart given (subst (λ (k : ℕ). IsReady (stand_of t) g k) same ready) ran rests;
      apart = λ e. apart (sym seated ∙ e);
    }
  where
    own_may : (s t : ListState) (h g : HubState) (seat after : ℕ) (pipe : Pipe) (told : Told) (own : Leg) → own.pipe ≡ pipe → own.told ≡ told → after ≡ own.seat → MayTell (stand_of t) g after pipe told → MayTurnLeg (stand_of t) g own
    own_may s t h g seat after pipe told own piped tells there may =
        subst (λ (x : Told). MayTell (stand_of t) g own.seat own.pipe x) (sym tells) (subst (λ (p : Pipe). MayTell (stand_of t) g own.seat p told) (sym piped) (subst (λ (k : ℕ). MayTell (stand_of t) g k pipe told) there may))

-- Neither session is left.
pub none_holds : (v : StoreStand) (h : HubState) (seat : ℕ) (own other : Leg) → own.told ≡ W.Lost → other.told ≡ W.Lost → own.seat ≢ other.seat → IsReady v h seat → HoldsBoth v h seat own other
none_holds v h seat own other own_lost other_lost apart ready = record { is_ready = ready; own_may = lost v h own own_lost; other_may = lost v h other other_lost; apart = apart }

-- The other session is not left.
pub one_holds : (v : StoreStand) (h : HubState) (seat after : ℕ) (pipe : Pipe) (told : Told) (own other : Leg) → own.pipe ≡ pipe → own.seat ≡ seat → own.told ≡ told → other.told ≡ W.Lost → seat ≢ other.seat → after ≡ seat → IsReady v h after → MayTell v h after pipe told → HoldsBoth v h after own other
one_holds v h seat after pipe told own other piped seated tells other_lost apart same ready may =
    record {
      is_ready = ready;
      own_may = subst (λ (x : Told). MayTell v h own.seat own.pipe x) (sym tells) (subst (λ (p : Pipe). MayTell v h own.seat p told) (sym piped) (subst (λ (k : ℕ). MayTell v h k pipe told) (same ∙ sym seated) may));
      other_may = lost v h other other_lost;
      apart = λ e. apart (sym seated ∙ e);
    }

-- A hub that fits its store fits it still.
pub still_whole : (v : StoreStand) (h : HubState) (seat : ℕ) → IsReady v h seat → IsWhole v h
still_whole v h seat ready = record { fitted = ready.fitted; settled = ready.settled }

abbrev nothing : DeskPart
nothing = record { open_now = false; claim = None; held = None }

-- Two sessions begin at the two seats of a hub.
pub both_begin : (v : StoreStand) (settings : Settings) (g : HubState) (seat : ℕ) (own other : Leg) → g ≡ with_seat (with_seat (no_seats settings)) → seat ≡ 1 → own.seat ≡ 1 → other.seat ≡ 0 → IsReady v g seat → MayBegin own.pipe own.told → MayBegin other.pipe other.told → HoldsBoth v g seat own other
both_begin v settings g seat own other is second at_second at_first ready own_begins other_begins =
    let own_ready : IsReady v g own.seat = subst (λ (k : ℕ). IsReady v g k) (second ∙ sym at_second) ready in
    let two : length g.chairs ≡ 2 = ap (λ (h : HubState). length h.chairs) is in
    let few : other.seat < length g.chairs = omega (arith, two, at_first) in
    let other_ready : IsReady v g other.seat = record { given = few; fitted = ready.fitted; settled = ready.settled } in
    let own_empty : seat_part g own.seat ≡ nothing = ap (λ (h : HubState). seat_part h own.seat) is ∙ ap (λ (k : ℕ). seat_part (with_seat (with_seat (no_seats settings))) k) at_second in
    let other_empty : seat_part g other.seat ≡ nothing = ap (λ (h : HubState). seat_part h other.seat) is ∙ ap (λ (k : ℕ). seat_part (with_seat (with_seat (no_seats settings))) k) at_first in
    record {
      is_ready = ready;
      own_may = begins v g own.seat own.pipe own.told own_ready own_empty own_begins;
      other_may = begins v g other.seat other.pipe other.told other_ready other_empty other_begins;
      apart = λ e. absurd (let clash : 1 ≡ 0 = sym at_second ∙ (e ∙ at_first) in cc);
    }
