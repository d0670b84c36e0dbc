-- Staging a file, and what changes nothing, is a row that queues no file.
use Rattle.std.proofs.Common.{◌≡◌, ℕ, ◌+◌, ◌≤◌, List, [], ◌∷◌, None, length, refl, sym, ◌∙◌, ap, subst, le_refl, arith}
use Rattle.ftn_addr.specs.declared.limits.TheConstants.{MAX_NUMBER}
use Rattle.node_model.specs.Items.{Entry}
use Rattle.node_model.specs.Calls.{Queue_call, Queued}
use Rattle.node_model.specs.SendRows.{No_more}
use Rattle.node_model.specs.Stocks.{StagedOf, file_staged}
use Rattle.node_model.specs.Stores.{Stored, StoreState, stored_after, with_staged}
use Rattle.node_model.proofs.Lists.{Each-append, Each-weaker}
use Rattle.node_model.proofs.StockMaps.{file_staged-map}
use Rattle.hub_core.specs.Hubs.{HubState, HubFits}
use Rattle.hub_core.proofs.Anew.{sitting_on}
use Rattle.outbound_desk.specs.TakenIn.{AreDrawn}
use Rattle.outbound_desk.proofs.OneRow.{RowMade, same_row}
use Rattle.outbound_desk.proofs.QuietRows.{quiet_made, still_change}

-- Nothing changed.

abbrev RowOfNone : HubState → StoreState → Stored → StoreState → Type 0
RowOfNone h s a t = RowMade h (Queue_call [] None None) (Queued []) s a t

pub unchanged : (h : HubState) (a : Stored) (s t : StoreState) → HubFits a s h → AreDrawn s → t ≡ s → RowOfNone h s a t
unchanged h a s t f d is =
    same_row h (Queue_call [] None None) (Queued []) s a s t is (quiet_made h a s s (still_change s s refl) refl f d)

-- A file is staged.

stages : (h : HubState) (a : Stored) (s : StoreState) (bytes : List ℕ) → HubFits a s h → AreDrawn s → s.staged + 1 ≤ MAX_NUMBER → RowOfNone h s a (with_staged bytes s)
stages h a s bytes f d few =
    let room = f.sound.places.room in
    record {
      change = record {
        change = stored_after (file_staged (s.staged + 1) bytes) s.seat [];
        content = refl;
        stock = ap (file_staged (s.staged + 1) (length bytes)) f.stock ∙ sym (file_staged-map length (s.staged + 1) bytes a.stock);
        parts = f.parts;
        sittings = λ x none fits. sitting_on s (with_staged bytes s) x none refl (λ e m. (e, m, refl, refl)) fits;
        seat = refl;
      };
      counts = refl;
      made = record {
        queue = a.stock.state.queue;
        sizes = tt;
        queued = No_more;
        room = omega (arith, room);
        staged = s.staged + 1;
        numbers = Each-weaker (λ (e : Entry). e.number ≤ s.staged) (λ (e : Entry). e.number ≤ s.staged + 1) (λ e low. omega (arith, low)) a.stock.state.queue f.sound.parts.queue_staged;
        risen = omega arith;
        few = few;
        after = refl;
      };
      drawn = record {
        staged = Each-append (λ (x : StagedOf ℕ). x.number ≤ s.staged + 1) s.stock.staged (record { number = s.staged + 1; content = length bytes } ∷ []) (Each-weaker (λ (x : StagedOf ℕ). x.number ≤ s.staged) (λ (x : StagedOf ℕ). x.number ≤ s.staged + 1) (λ x low. omega (arith, low)) s.stock.staged d.staged) (le_refl _, tt);
        few = few;
      };
    }

pub stage_made : (h : HubState) (a : Stored) (s t : StoreState) (bytes : List ℕ) (number : ℕ) → HubFits a s h → AreDrawn s → number ≡ s.staged + 1 → number ≤ MAX_NUMBER → t ≡ with_staged bytes s → RowOfNone h s a t
stage_made h a s t bytes number f d is few same =
    same_row h (Queue_call [] None None) (Queued []) s a (with_staged bytes s) t same (stages h a s bytes f d (subst (λ (n : ℕ). n ≤ MAX_NUMBER) is few))
