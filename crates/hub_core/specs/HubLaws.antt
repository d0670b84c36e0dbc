-- What is told of a hub's seats: the session that is read, the bytes of what it holds, and its desk's part.
use Rattle.std.proofs.Common.{◌≡◌, ℕ, zero, suc, ◌-◌, Bool, List, [], ◌∷◌, Option, Some, None, map, length, option_map, refl, sym, ◌∙◌, ap, subst, inl, inr}
use Rattle.std.specs.Option.{is_some}
use Rattle.ftn_addr.specs.Address.{Address}
use Rattle.node_model.specs.Items.{EntryOf, Mark, MarkOf}
use Rattle.node_model.specs.Lists.{Member}
use Rattle.node_model.specs.StoreWords.{KeyOf}
use Rattle.node_model.specs.Durable.{mark_map, entry_map}
use Rattle.node_model.specs.Node.{Session, Seat, seat_in, session_at, hold_in, claim_in}
use Rattle.node_model.specs.Desks.{Claim, IsClaimed, PartTold, IsPartAt}
use Rattle.node_model.specs.Talk.{part_of}
use Rattle.node_model.specs.Stocks.{Stock, Sizes, sizes, part_in, body_of, bytes_of_part}
use Rattle.node_model.specs.Stores.{Stored, StoreState, StoreStand, IfTold}
use Rattle.node_model.proofs.StockMaps.{part_in-map}
use Rattle.hub_core.specs.Hubs.{Taking, Sitting, Chair, HubState, HubFits, IfClaimed, IfHeld, IsReady, SittingFits, chair_in, knows_over, node_with, hold_over, session_over, seat_over, seat_part, sitting_part, sitting_at, taken_part, unless_dropped}
use Rattle.hub_core.specs.Steps.{part_under}

-- the seat that is read
pub seat_of : (stock : Stock) (cs : List Chair) (k : ℕ) → seat_in (map (seat_over stock) cs) k ≡ seat_over stock (chair_in cs k)
seat_of stock [] zero = refl
seat_of stock [] (suc k) = refl
seat_of stock (c ∷ cs) zero = refl
seat_of stock (c ∷ cs) (suc k) = seat_of stock cs k

pub session_of : (a : Stored) (s : StoreState) (h : HubState) (k : ℕ) → session_at (node_with a s h) k ≡ option_map (session_over a.stock) (sitting_at h k)
session_of a s h k = ap (λ (x : Seat). x.session) (seat_of a.stock h.chairs k)

-- what is open with its bytes is open with their number
pub parts_are : (a : Stored) (s : StoreState) → s.stock ≡ sizes a.stock → s.stock.parts ≡ map (mark_map length) a.stock.parts
parts_are a s is = ap (λ (t : Sizes). t.parts) is

-- a held part with its bytes
abbrev pub held_part : Stored → Address → Taking → Mark
held_part a from t = record { number = t.part; from = from; key = t.key; bytes = body_of t.part a.stock }

pub record HeldTold (a : Stored) (from : Address) (t : Taking) : Type 0 where
  pub is : part_in t.part a.stock.parts ≡ Some (held_part a from t)
  pub len : length (body_of t.part a.stock) ≡ t.have

pub held_told : (a : Stored) (s : StoreState) (from : Address) (t : Taking) → s.stock ≡ sizes a.stock → part_in t.part s.stock.parts ≡ Some (part_under from t) → HeldTold a from t
held_told a s from t is part = go (part_in t.part a.stock.parts) refl (sym (ap (λ (ps : List (MarkOf ℕ)). part_in t.part ps) (parts_are a s is) ∙ part_in-map length t.part a.stock.parts) ∙ part)
  where
    go : (o : Option Mark) → part_in t.part a.stock.parts ≡ o → option_map (mark_map length) o ≡ Some (part_under from t) → HeldTold a from t
    go None at e = absurd (cc)
    go (Some q) at e =
        let same : mark_map length q ≡ part_under from t = cc in
        let body : body_of t.part a.stock ≡ q.bytes = ap bytes_of_part at in
        record {
          is = at ∙ ap Some (λ i. record { number = (same i).number; from = (same i).from; key = (same i).key; bytes = sym body i });
          len = ap length body ∙ ap (λ (p : MarkOf ℕ). p.bytes) same;
        }

-- what stands among the mapped comes from one of these
map_member : {A B : Type 0} (f : A → B) (xs : List A) (y : B) → Member y (map f xs) → (x : A) × Member x xs × (y ≡ f x)
map_member f [] y m = absurd m
map_member f (x ∷ xs) y (inl same) = (x, inl refl, same)
map_member f (x ∷ xs) y (inr m) = let w = map_member f xs y m in (w.0, inr w.1, w.2)

-- The part of a desk.

taken_is : (a : Stored) (s : StoreState) (from : Address) (o : Option Taking) → s.stock ≡ sizes a.stock → IfHeld s from o → taken_part o ≡ part_of (hold_over a.stock from o)
taken_is a s from None is held = refl
taken_is a s from (Some t) is held =
    let told = held_told a s from t is held.part in
    ap (λ (b : Bool). unless_dropped b (record { key = t.key; left = t.key.size - t.have; taking = t.taking })) held.kept
    ∙ ap (λ (n : ℕ). Some (record { key = t.key; left = t.key.size - n; taking = t.taking })) (sym told.len)

opened_is : (o : Option Sitting) (f : Sitting → Session) → (sitting_part o).open_now ≡ is_some (option_map f o)
opened_is None f = refl
opened_is (Some x) f = refl

held_is : (a : Stored) (s : StoreState) (o : Option Sitting) → s.stock ≡ sizes a.stock → ((x : Sitting) → o ≡ Some x → SittingFits s x) → (sitting_part o).held ≡ part_of (hold_in (option_map (session_over a.stock) o))
held_is a s None is fits = refl
held_is a s (Some x) is fits = taken_is a s x.first x.hold is (fits x refl).hold

claimed_is : (o : Option Sitting) (stock : Stock) → option_map (λ (c : Claim). c.number) (sitting_part o).claim ≡ claim_in (option_map (session_over stock) o)
claimed_is None stock = refl
claimed_is (Some x) stock = refl

-- a claimed entry with its bytes
pub claim_told : (a : Stored) (s : StoreState) (c : Claim) → s.stock ≡ sizes a.stock → KeyOf c.number c.key s.stock.state.queue → IsClaimed c a.stock.state.queue
claim_told a s c is k =
    let from = map_member (entry_map length) a.stock.state.queue k.0 (subst (λ (t : Sizes). Member k.0 t.state.queue) is k.1) in
    record {
      entry = from.0;
      there = from.1;
      numbered = ap (λ (e : EntryOf ℕ). e.number) (sym from.2) ∙ k.2;
      keyed = ap (λ (e : EntryOf ℕ). e.key) (sym from.2) ∙ k.3;
    }

queued_is : (a : Stored) (s : StoreState) (o : Option Sitting) → s.stock ≡ sizes a.stock → ((x : Sitting) → o ≡ Some x → SittingFits s x) → (c : Claim) → (sitting_part o).claim ≡ Some c → IsClaimed c a.stock.state.queue
queued_is a s None is fits c at = absurd (cc)
queued_is a s (Some x) is fits c at =
    claim_told a s c is (subst (IfClaimed s.stock.state.queue) at (fits x refl).claim)

part_is : (a : Stored) (s : StoreState) (h : HubState) (seat : ℕ) → HubFits a s h → IsPartAt (seat_part h seat) seat (node_with a s h)
part_is a s h seat f = record {
  opened = opened_is (sitting_at h seat) (session_over a.stock) ∙ ap (λ (o : Option Session). is_some o) (sym (session_of a s h seat));
  claimed = claimed_is (sitting_at h seat) a.stock ∙ ap (λ (o : Option Session). claim_in o) (sym (session_of a s h seat));
  queued = queued_is a s (sitting_at h seat) f.stock (f.sittings seat);
  held = held_is a s (sitting_at h seat) f.stock (f.sittings seat) ∙ ap (λ (o : Option Session). part_of (hold_in o)) (sym (session_of a s h seat));
}

pub seat_tied : (w : StoreStand) (h : HubState) (seat : ℕ) → IsReady w h seat → PartTold (seat_part h seat) seat (knows_over w.state.content w.state h seat)
seat_tied w h seat ready = go w.state.content (λ whole. (ready.fitted whole).tells)
  where
    go : (c : Option Stored) → ((whole : w.state.counts.broken ≡ None) → IfTold c (λ b. b ≡ (ready.fitted whole).keeps)) → PartTold (seat_part h seat) seat (knows_over c w.state h seat)
    go None told = tt
    go (Some a) told = λ whole. subst (λ (b : Stored). IsPartAt (seat_part h seat) seat (node_with b w.state h)) (sym (told whole)) (part_is (ready.fitted whole).keeps w.state h seat (ready.fitted whole).fits)
