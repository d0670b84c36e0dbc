-- A store that a hub has used fits a hub without seats.
use Rattle.std.proofs.Common.{◌≡◌, ℕ, zero, suc, [], Option, Some, None, refl, sym, ◌∙◌, ap, arith}
use Rattle.node_model.specs.Node.{Node, Settings, session_at, hold_in, claim_in}
use Rattle.node_model.specs.Sound.{Sound}
use Rattle.node_model.specs.Stores.{Stored, StoreState, StoreStand}
use Rattle.hub_core.specs.Hubs.{HubState, sitting_at, node_with, HubFits, Fitted, IsReady}
use Rattle.hub_core.specs.Opening.{no_seats, IsWhole}

-- no seat, other settings, and no session begun
abbrev pub unseated : Settings → Node → Node
unseated settings n = record n { seats = []; settings = settings; begun = 0 }

none_at : (settings : Settings) (n : Node) (k : ℕ) → session_at (unseated settings n) k ≡ None
none_at settings n zero = refl
none_at settings n (suc k) = refl

pub no_sitting : (settings : Settings) (k : ℕ) → sitting_at (no_seats settings) k ≡ None
no_sitting settings zero = refl
no_sitting settings (suc k) = refl

-- what is none isn't some
pub not_some : {A X : Type 0} (o : Option X) (x : X) → o ≡ None → o ≡ Some x → A
not_some o x none some = absurd (let clash : None ≡ Some x = sym none ∙ some in cc)

pub unseated_sound : (settings : Settings) (n : Node) → Sound n → Sound (unseated settings n)
unseated_sound settings n s =
    let session = λ (k : ℕ). session_at (unseated settings n) k in
    let hold = λ (k : ℕ). ap hold_in (none_at settings n k) in
    record {
      queue = s.queue;
      inbox = s.inbox;
      sessions = record {
        numbers = λ k x at. not_some (session k) x (none_at settings n k) at;
        apart = λ j k x y a b same. not_some (session j) x (none_at settings n j) a;
      };
      claims = record {
        each = λ k number x at is. not_some (session k) x (none_at settings n k) at;
        apart = λ j k number a b. not_some (claim_in (session j)) number (ap claim_in (none_at settings n j)) a;
      };
      holds = record {
        each = λ k x h at is. not_some (session k) x (none_at settings n k) at;
        apart = λ j k g h a b same. not_some (hold_in (session j)) g (hold j) a;
      };
      parts = record {
        marks = s.parts.marks;
        receipts = s.parts.receipts;
        apart = s.parts.apart;
        held_mark = λ k h at. not_some (hold_in (session k)) h (hold k) at;
        held_receipt = λ k h at. not_some (hold_in (session k)) h (hold k) at;
        held_apart = λ j k g h a b same. not_some (hold_in (session j)) g (hold j) a;
        marks_drawn = s.parts.marks_drawn;
        receipts_drawn = s.parts.receipts_drawn;
        holds_drawn = λ k h at. not_some (hold_in (session k)) h (hold k) at;
        queue_staged = s.parts.queue_staged;
        drawn_few = s.parts.drawn_few;
      };
      places = record {
        claims = λ k number x at is. not_some (session k) x (none_at settings n k) at;
        holds = λ k x h at is. not_some (session k) x (none_at settings n k) at;
        all = omega arith;
        room = s.places.room;
      };
    }

unseated_fits : (settings : Settings) (a : Stored) (s : StoreState) (h : HubState) → HubFits a s h → HubFits a s (no_seats settings)
unseated_fits settings a s h f = record {
  stock = f.stock;
  sittings = λ k x at. not_some (sitting_at (no_seats settings) k) x (no_sitting settings k) at;
  parts = f.parts;
  sound = unseated_sound settings (node_with a s h) f.sound;
}

unseated_fitted : (settings : Settings) (s : StoreState) (h : HubState) → Fitted s h → Fitted s (no_seats settings)
unseated_fitted settings s h f = record { keeps = f.keeps; tells = f.tells; fits = unseated_fits settings f.keeps s h f.fits }

pub ready_whole : (settings : Settings) (w : StoreStand) (h : HubState) (seat : ℕ) → IsReady w h seat → IsWhole w (no_seats settings)
ready_whole settings w h seat r = record { fitted = λ unbroken. unseated_fitted settings w.state h (r.fitted unbroken); settled = r.settled }
