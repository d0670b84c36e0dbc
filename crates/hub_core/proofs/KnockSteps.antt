-- A caller comes, or is turned away: a step of the hub's node.
use Rattle.std.proofs.Common.{◌≡◌, ◌≢◌, ◌⊎◌, ℕ, ◌+◌, Bool, true, false, cond, ◌&&◌, nat_le, count_by, List, Option, Some, None, map, option_map, refl, sym, ◌∙◌, ap, inl, inr, arith}
use borrow.Author.Tests.{leb-false, leb-true}
use Rattle.ftn_addr.specs.Counts.{next_count}
use Rattle.node_model.specs.declared.words.Role.{Role}
use Rattle.node_model.specs.declared.words.Role.TheVariants.{Calls, Answers}
use Rattle.node_model.specs.Node.{Seat, put_seat}
use Rattle.node_model.specs.Rows.{answers, is_answering, answering_sessions, one_busy_more, MayCome}
use Rattle.node_model.specs.Calls.{Knock_call, Let_in, Busy, NodeStep}
use Rattle.node_model.specs.Stocks.{Stock}
use Rattle.node_model.specs.Stores.{Stored, StoreState, StoreStand}
use Rattle.node_model.proofs.StepSound.{step_sound}
use Rattle.hub_core.specs.Hubs.{Sitting, Chair, HubState, chair_in, busier, sitting_at, session_over, seat_over, node_with, sitting_part}
use Rattle.hub_core.specs.HubCalls.{HasTurn, Does}
use Rattle.hub_core.specs.HubLaws.{seat_of}
use Rattle.hub_core.specs.Steps.{chair_answers, sitting_answers}
use Rattle.hub_core.proofs.Chairs.{fold_map}
use Rattle.hub_core.proofs.Nodes.{map_put, chair_at, chair_apart}
use Rattle.hub_core.proofs.Keeping.{leaves_none}
use Rattle.hub_core.proofs.Ends.{same_content}
use Rattle.hub_core.proofs.Owning.{own_same, own_chair}
use Rattle.hub_core.proofs.Turning.{fitted_now, made_does}
use Rattle.node_model.proofs.Lists.{decide_line}

seat_answers : (stock : Stock) (c : Chair) → answers (seat_over stock c).session ≡ chair_answers c
seat_answers stock c = go c.sitting
  where
    go : (o : Option Sitting) → answers (option_map (session_over stock) o) ≡ sitting_answers o
    go None = refl
    go (Some x) = refl

-- how many answering sessions are open
pub answering_is : (a : Stored) (s : StoreState) (h : HubState) → answering_sessions (node_with a s h) ≡ count_by chair_answers h.chairs
answering_is a s h =
    fold_map (λ (n : ℕ) (x : Seat). n + cond (answers x.session) 1 0) (seat_over a.stock) 0 h.chairs
    ∙ ap (λ (p : Chair → Bool). count_by p h.chairs) (λ i c. seat_answers a.stock c i)

-- who is turned away
abbrev pub turned_away : Role → HubState → Bool
turned_away role h = is_answering role && nat_le h.settings.max_servers (count_by chair_answers h.chairs)

may_come : (a : Stored) (s : StoreState) (h : HubState) (role : Role) → turned_away role h ≡ false → MayCome role (node_with a s h)
may_come a s h Calls stays = tt
may_come a s h Answers stays =
    let few = leb-false h.settings.max_servers (count_by chair_answers h.chairs) stays in
    let is = answering_is a s h in
    omega (arith, few, is)

pub come_does : (v : StoreStand) (h : HubState) (seat : ℕ) (role : Role) → HasTurn v h seat → turned_away role h ≡ false → Does v h seat (Knock_call role) Let_in v h
come_does v h seat role b stays =
    let f = fitted_now v h seat b in
    made_does v v h h seat (Knock_call role) Let_in b (inl b.whole, refl)
    (record { change = λ a. a; content = same_content v.state.content; step = (inl b.whole, record { may = may_come f.keeps v.state h role stays; after = refl }); fits = f.fits; counts = (refl, refl) })
    (leaves_none _ v) (b.ready.settled b.whole) refl (own_same seat h v b.seat_is)

-- Busy.

pub busy_sits : (h : HubState) (seat : ℕ) (k : ℕ) → sitting_at (busier seat h) k ≡ sitting_at h k
busy_sits h seat k = go (decide_line k seat)
  where
    c : Chair
    c = record (chair_in h.chairs seat) { busy = next_count (chair_in h.chairs seat).busy }

    go : (k ≡ seat) ⊎ (k ≢ seat) → sitting_at (busier seat h) k ≡ sitting_at h k
    go (inl here) = ap (sitting_at (busier seat h)) here ∙ (ap (λ (x : Chair). x.sitting) (chair_at seat c h.chairs) ∙ sym (ap (sitting_at h) here))
    go (inr apart) = ap (λ (x : Chair). x.sitting) (chair_apart seat c h.chairs k apart)

busy_node : (a : Stored) (s : StoreState) (h : HubState) (seat : ℕ) → node_with a s (busier seat h) ≡ one_busy_more seat (node_with a s h)
busy_node a s h seat =
    ap (λ (xs : List Seat). record (node_with a s h) { seats = xs }) (map_put a.stock seat (record (chair_in h.chairs seat) { busy = next_count (chair_in h.chairs seat).busy }) h.chairs ∙ ap (λ (x : Seat). put_seat seat (record x { busy = next_count x.busy }) (map (seat_over a.stock) h.chairs)) (sym (seat_of a.stock h.chairs seat)))

and_parts : (p q : Bool) → (p && q) ≡ true → (p ≡ true) × (q ≡ true)
and_parts true true e = (refl, refl)
and_parts true false e = absurd (cc)
and_parts false q e = absurd (cc)

pub busy_does : (v : StoreStand) (h : HubState) (seat : ℕ) (role : Role) → HasTurn v h seat → turned_away role h ≡ true → Does v h seat (Knock_call role) Busy v (busier seat h)
busy_does v h seat role b away =
    let f = fitted_now v h seat b in
    let fits = f.fits in
    let both = and_parts (is_answering role) (nat_le h.settings.max_servers (count_by chair_answers h.chairs)) away in
    let full = leb-true h.settings.max_servers (count_by chair_answers h.chairs) both.1 in
    let is = answering_is f.keeps v.state h in
    let c : Chair = record (chair_in h.chairs seat) { busy = next_count (chair_in h.chairs seat).busy } in
    let step : NodeStep seat (node_with f.keeps v.state h) (Knock_call role) Busy (node_with f.keeps v.state (busier seat h)) = (inl b.whole, record { answers_calls = both.0; full = omega (arith, full, is); after = busy_node f.keeps v.state h seat }) in
    made_does v v h (busier seat h) seat (Knock_call role) Busy b (inl b.whole, refl)
    (record {
      change = λ a. a;
      content = same_content v.state.content;
      step = step;
      fits = record { stock = fits.stock; sittings = λ k x at. fits.sittings k x (sym (busy_sits h seat k) ∙ at); parts = fits.parts; sound = step_sound seat (node_with f.keeps v.state h) (Knock_call role) Busy (node_with f.keeps v.state (busier seat h)) step (λ unbroken. fits.sound) b.whole };
      counts = (ap (λ (x : Chair). x.busy) (chair_at seat c h.chairs), ap (λ (x : Chair). x.reads) (chair_at seat c h.chairs));
    })
    (leaves_none _ v) (b.ready.settled b.whole) (ap sitting_part (busy_sits h seat seat)) (own_chair seat c h v h.begun b.ready.given b.seat_is)
