-- Acting on the next source of an address is a row that acts on it.
use Rattle.std.proofs.Common.{◌≡◌, ℕ, ◌+◌, ◌≤◌, Bool, true, false, ◌==◌, if◌then◌else◌, List, [], ◌∷◌, None, map, length, refl, sym, ◌∙◌, ap, subst, inl, inr}
use Rattle.ftn_addr.specs.Address.{Address}
use Rattle.node_model.specs.declared.words.TheConstants.{MOST_RECORDS}
use Rattle.node_model.specs.Durable.{acted_entry, durable_map, entry_map, with_acted}
use Rattle.node_model.specs.Items.{Entry, EntryOf}
use Rattle.node_model.specs.Lists.{Member}
use Rattle.node_model.specs.Node.{Acted_record}
use Rattle.node_model.specs.Calls.{Act_call, Acted, Nothing}
use Rattle.node_model.specs.SendRows.{NextActed, waits_for_action}
use Rattle.node_model.specs.Stocks.{Sizes, on_state, sizes}
use Rattle.node_model.specs.Stores.{Stored, StoreState, StoreDoes, Act_next, Acted_on, ActsNext, acted, source_stored, stored_after}
use Rattle.node_model.proofs.Distinct.{member_map}
use Rattle.node_model.proofs.StockMaps.{map-map_as, on_state-map}
use Rattle.hub_core.specs.Hubs.{HubState, HubFits}
use Rattle.hub_core.proofs.Anew.{sitting_on}
use Rattle.outbound_desk.proofs.Sittings.{acted_number, acted_key}
use Rattle.outbound_desk.specs.TakenIn.{AreDrawn}
use Rattle.outbound_desk.proofs.OneRow.{RowMade, option_same, option_twice, same_row}

told_before : {A B : Type 0} (f : A → B) (xs : List A) (y : B) → Member y (map f xs) → (x : A) × Member x xs × (f x ≡ y)
told_before f [] y there = absurd there
told_before f (x ∷ xs) y (inl is) = (x, inl refl, sym is)
told_before f (x ∷ xs) y (inr behind) = let found = told_before f xs y behind in (found.0, inr found.1, found.2)

pub next_told : (dest : Address) (number : ℕ) (queue : List Entry) → NextActed dest number (map (entry_map length) queue) → NextActed dest number queue
next_told dest number queue next =
    let found = told_before (entry_map length) queue next.entry next.there in
    record {
      entry = found.0;
      there = found.1;
      is = ap (λ (e : EntryOf ℕ). e.number) found.2 ∙ next.is;
      addressed = ap (λ (e : EntryOf ℕ). e.dest) found.2 ∙ next.addressed;
      waits = ap (λ (e : EntryOf ℕ). waits_for_action e) found.2 ∙ next.waits;
      first_one = λ e there at waits. next.first_one (entry_map length e) (member_map (entry_map length) e queue there) at waits;
    }

acted_seen : {A B : Type 0} (g : A → B) (number : ℕ) (e : EntryOf A) → entry_map g (acted_entry number e) ≡ acted_entry number (entry_map g e)
acted_seen {A} {B} g number e = go (e.number == number)
  where
    go : (b : Bool) → entry_map g (if b then record e { acted = true } else e) ≡ (if b then record (entry_map g e) { acted = true } else entry_map g e)
    go true = refl
    go false = refl

sizes_acted : (number : ℕ) (a : Stored) → sizes (on_state (with_acted number) a.stock) ≡ on_state (with_acted number) (sizes a.stock)
sizes_acted number a =
    on_state-map length (with_acted number) (with_acted number) a.stock
    (ap (λ (es : List (EntryOf ℕ)). record (durable_map length a.stock.state) { queue = es }) (map-map_as (entry_map length) (acted_entry number) (acted_entry number) (entry_map length) (acted_seen length number) a.stock.state.queue))

acts : (h : HubState) (a : Stored) (s : StoreState) (dest : Address) (e : EntryOf ℕ) (time : ℕ) → HubFits a s h → AreDrawn s → NextActed dest e.number s.stock.state.queue → s.records + s.reserved + 1 ≤ MOST_RECORDS → RowMade h (Act_call dest) (Acted e.number) s a (acted e time s)
acts h a s dest e time f d next room = record {
  change = record {
    change = λ x. stored_after (on_state (with_acted e.number)) s.seat (Acted_record e.number ∷ []) (source_stored e time x);
    content = option_twice (stored_after (on_state (with_acted e.number)) s.seat (Acted_record e.number ∷ [])) (source_stored e time) s.content;
    stock = ap (on_state (with_acted e.number)) f.stock ∙ sym (sizes_acted e.number a);
    parts = λ p there. let fit = f.parts p there in record { marks = fit.marks; receipts = fit.receipts };
    sittings = λ x none fits. sitting_on s (acted e time s) x none refl (λ g m. (acted_entry e.number g, member_map (acted_entry e.number) g s.stock.state.queue m, acted_number e.number g, acted_key e.number g)) fits;
    seat = refl;
  };
  counts = refl;
  made = record { next = next_told dest e.number a.stock.state.queue (subst (λ (x : Sizes). NextActed dest e.number x.state.queue) f.stock next); room = room; after = refl };
  drawn = record { staged = d.staged; few = d.few };
}

pub act_made : (h : HubState) (a : Stored) (s t : StoreState) (dest : Address) (number : ℕ) → HubFits a s h → AreDrawn s → ActsNext dest number s t → RowMade h (Act_call dest) (Acted number) s a t
act_made h a s t dest number f d does =
    subst (λ (n : ℕ). RowMade h (Act_call dest) (Acted n) s a t) does.next.is
    (same_row h (Act_call dest) (Acted does.next.entry.number) s a (acted does.next.entry does.time s) t does.after
    (acts h a s dest does.next.entry does.time f d (subst (λ (n : ℕ). NextActed dest n s.stock.state.queue) (sym does.next.is) does.next) does.room))

pub none_acted : (h : HubState) (a : Stored) (s t : StoreState) (dest : Address) → HubFits a s h → AreDrawn s → StoreDoes s (Act_next dest) (Acted_on None) t → RowMade h (Act_call dest) Nothing s a t
none_acted h a s t dest f d does =
    same_row h (Act_call dest) Nothing s a s t does.1
    (record {
      change = record { change = λ x. x; content = sym (option_same s.content); stock = f.stock; parts = f.parts; sittings = λ x none fits. fits; seat = refl };
      counts = refl;
      made = record {
        none = λ e there at waits. does.0 (entry_map length e) (subst (λ (x : Sizes). Member (entry_map length e) x.state.queue) (sym f.stock) (member_map (entry_map length) e a.stock.state.queue there)) at waits;
        after = refl;
      };
      drawn = d;
    })
