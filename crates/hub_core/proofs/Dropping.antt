-- Over a broken store a session is told that it holds nothing more, and the node doesn't change.
use Rattle.std.proofs.Common.{◌≡◌, ℕ, ◌<◌, true, false, List, Option, Some, None, length, map, option_map, refl, sym, ◌∙◌, ap, subst}
use Rattle.ftn_addr.specs.Key.{Key}
use Rattle.node_model.specs.Node.{Session, Seat, put_seat}
use Rattle.node_model.specs.Calls.{File_call, Refused, Disk, Tells, Counts_alone}
use Rattle.node_model.specs.Desks.{part_after}
use Rattle.node_model.specs.Stocks.{Stock}
use Rattle.node_model.specs.Stores.{Stored, StoreState, StoreStand}
use Rattle.hub_core.specs.Hubs.{Taking, Sitting, HubState, chair_in, with_sitting, sitting_at, dropped_taking, dropped_sitting, session_over, seat_over, node_with, knows_over, seat_part, sitting_part}
use Rattle.hub_core.specs.HubCalls.{Does}
use Rattle.hub_core.proofs.FileSteps.{busy_put, reads_put}
use Rattle.hub_core.proofs.Nodes.{map_put, sits_at}
use Rattle.hub_core.proofs.Sittings.{sit_same}
use Rattle.hub_core.proofs.Owning.{own_sits}
use Rattle.hub_core.proofs.Turning.{refused_does}

dropped_told : (stock : Stock) (o : Option Sitting) → option_map (session_over stock) (option_map dropped_sitting o) ≡ option_map (session_over stock) o
dropped_told stock None = refl
dropped_told stock (Some x) = go x.hold
  where
    go : (t : Option Taking) → Some (session_over stock (record x { hold = dropped_taking t })) ≡ Some (session_over stock (record x { hold = t }))
    go None = refl
    go (Some t) = refl

abbrev dropped_hub : HubState → ℕ → HubState
dropped_hub h seat = with_sitting seat (option_map dropped_sitting (sitting_at h seat)) h

dropped_node : (a : Stored) (s : StoreState) (h : HubState) (seat : ℕ) → seat < length h.chairs → node_with a s (dropped_hub h seat) ≡ node_with a s h
dropped_node a s h seat given =
    ap (λ (seats : List Seat). record (node_with a s h) { seats = seats })
    (map_put a.stock seat (record (chair_in h.chairs seat) { sitting = option_map dropped_sitting (sitting_at h seat) }) h.chairs
    ∙ (ap (λ (o : Option Session). put_seat seat (record { busy = (chair_in h.chairs seat).busy; reads = (chair_in h.chairs seat).reads; session = o }) (map (seat_over a.stock) h.chairs)) (dropped_told a.stock (sitting_at h seat))
    ∙ (sym (map_put a.stock seat (chair_in h.chairs seat) h.chairs) ∙ ap (λ (k : HubState). map (seat_over a.stock) k.chairs) (sit_same h seat (sitting_at h seat) given refl))))

dropped_knows : (c : Option Stored) (s : StoreState) (h : HubState) (seat : ℕ) → seat < length h.chairs → knows_over c s (dropped_hub h seat) seat ≡ knows_over c s h seat
dropped_knows None s h seat given = λ i. Counts_alone (record { store = s.counts; busy = busy_put h seat (option_map dropped_sitting (sitting_at h seat)) i; reads = reads_put h seat (option_map dropped_sitting (sitting_at h seat)) i })
dropped_knows (Some a) s h seat given = ap Tells (dropped_node a s h seat given)

dropped_part : (o : Option Sitting) (key : Key) (offset count : ℕ) → (sitting_part o).open_now ≡ true → sitting_part (option_map dropped_sitting o) ≡ part_after (sitting_part o) (File_call key offset) (Refused (Disk count))
dropped_part None key offset count opened = absurd (let clash : false ≡ true = opened in cc)
dropped_part (Some x) key offset count opened = go x.hold
  where
    go : (t : Option Taking) → sitting_part (Some (record x { hold = dropped_taking t })) ≡ record { open_now = true; claim = x.claim; held = None }
    go None = refl
    go (Some t) = refl

pub dropped_does : (v : StoreStand) (h g : HubState) (seat : ℕ) (key : Key) (offset count : ℕ) → v.state.counts.broken ≡ Some count → v.state.seat ≡ seat → seat < length h.chairs → (seat_part h seat).open_now ≡ true → g ≡ with_sitting seat (option_map dropped_sitting (sitting_at h seat)) h → Does v h seat (File_call key offset) (Refused (Disk count)) v g
dropped_does v h g seat key offset count broken turn given opened is =
    subst (λ (k : HubState). Does v h seat (File_call key offset) (Refused (Disk count)) v k) (sym is)
    (refused_does v h (dropped_hub h seat) seat (File_call key offset) count broken (λ skips. skips) (λ c. dropped_knows c v.state h seat given) (ap sitting_part (sits_at h seat (option_map dropped_sitting (sitting_at h seat))) ∙ dropped_part (sitting_at h seat) key offset count opened) given (own_sits seat (option_map dropped_sitting (sitting_at h seat)) h v given turn))
