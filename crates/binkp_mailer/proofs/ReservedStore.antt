-- A store whose places are reserved fits a new hub still.
use Rattle.std.proofs.Common.{◌≡◌, ◌+◌, ◌≤◌, ℕ, None, sym, ap, ◌∙◌, subst, arith}
use Rattle.node_model.specs.declared.words.TheConstants.{MOST_RECORDS}
use Rattle.node_model.specs.Node.{Node, Settings}
use Rattle.node_model.specs.Sound.{Sound}
use Rattle.node_model.specs.Stores.{Stored, StoreState, StoreStand, StoreKept, Reserve, Well}
use Rattle.hub_core.specs.Hubs.{HubFits, Fitted, node_with}
use Rattle.hub_core.specs.Opening.{no_seats, IsWhole}
use Rattle.hub_core.proofs.Closing.{no_sitting, not_some}

reserved_sound : (n : Node) (places : ℕ) → n.records + n.reserved + places ≤ MOST_RECORDS → Sound n → Sound (record n { reserved = n.reserved + places })
reserved_sound n places room s =
    let all = s.places.all in
    record {
      queue = s.queue;
      inbox = s.inbox;
      sessions = record { numbers = s.sessions.numbers; apart = s.sessions.apart };
      claims = record { each = s.claims.each; apart = s.claims.apart };
      holds = record {
        each = λ k x h at is. let o = s.holds.each k x h at is in record { from_first = o.from_first; new = o.new; wanted = o.wanted; stored = o.stored; begins = o.begins; fits = o.fits };
        apart = s.holds.apart;
      };
      parts = record {
        marks = s.parts.marks;
        receipts = s.parts.receipts;
        apart = s.parts.apart;
        held_mark = s.parts.held_mark;
        held_receipt = s.parts.held_receipt;
        held_apart = s.parts.held_apart;
        marks_drawn = s.parts.marks_drawn;
        receipts_drawn = s.parts.receipts_drawn;
        holds_drawn = s.parts.holds_drawn;
        queue_staged = s.parts.queue_staged;
        drawn_few = s.parts.drawn_few;
      };
      places = record { claims = s.places.claims; holds = s.places.holds; all = omega (arith, all); room = omega (arith, room) };
    }

reserved_fits : (settings : Settings) (a : Stored) (s : StoreState) (places : ℕ) → s.records + s.reserved + places ≤ MOST_RECORDS → HubFits a s (no_seats settings) → HubFits a (record s { reserved = s.reserved + places }) (no_seats settings)
reserved_fits settings a s places room f = record {
  stock = f.stock;
  sittings = λ k x at. not_some _ x (no_sitting settings k) at;
  parts = f.parts;
  sound = reserved_sound (node_with a s (no_seats settings)) places room f.sound;
}

pub reserved_whole : (settings : Settings) (v w : StoreStand) (places : ℕ) → v.state.counts.broken ≡ None → StoreKept v (Reserve places) Well w → IsWhole v (no_seats settings) → IsWhole w (no_seats settings)
reserved_whole settings v w places unbroken k whole =
    let f = whole.fitted unbroken in
    let more : Fitted (record v.state { reserved = v.state.reserved + places }) (no_seats settings) = record { keeps = f.keeps; tells = f.tells; fits = reserved_fits settings f.keeps v.state places k.made.0 f.fits } in
    record {
      fitted = λ still. subst (λ (s : StoreState). Fitted s (no_seats settings)) (sym k.made.1) more;
      settled = k.now;
    }

pub reserved_unbroken : (v w : StoreStand) (places : ℕ) → v.state.counts.broken ≡ None → StoreKept v (Reserve places) Well w → w.state.counts.broken ≡ None
reserved_unbroken v w places unbroken k = ap (λ (s : StoreState). s.counts.broken) k.made.1 ∙ unbroken
