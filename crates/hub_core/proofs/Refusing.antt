-- A file is refused: the node of its hub has the refusal.
use Rattle.std.proofs.Common.{◌≡◌, ◌≢◌, ℕ, ◌+◌, ◌-◌, true, false, ◌==◌, List, [], ◌∷◌, ◌++◌, Option, Some, None, length, refl, sym, ◌∙◌, ap, subst, arith, ⊎_elim}
use Rattle.ftn_addr.specs.Address.{Address}
use Rattle.ftn_addr.specs.Files.{is_same}
use Rattle.ftn_addr.specs.Key.{Key}
use Rattle.node_model.specs.Items.{Mark, MarkOf, Refusal}
use Rattle.node_model.specs.Lists.{Member}
use Rattle.node_model.specs.Durable.{unmarked, with_refusal}
use Rattle.node_model.specs.Node.{Refused_record}
use Rattle.node_model.specs.Rows.{by}
use Rattle.node_model.specs.Sound.{Sound}
use Rattle.node_model.specs.Stocks.{Sizes, part_in, file_refused}
use Rattle.node_model.specs.Stores.{Stored, StoreState, stored_after}
use Rattle.node_model.proofs.Lists.{Each-without, decide_line}
use Rattle.node_model.proofs.StockMaps.{file_refused-map}
use Rattle.hub_core.specs.Hubs.{Taking, Sitting, HubState, HubFits, IfHeld, chair_in, sitting_at, session_over, node_with}
use Rattle.hub_core.specs.Steps.{file_refused_under, is_file, part_under}
use Rattle.hub_core.proofs.Finding.{first-without, left_there}
use Rattle.hub_core.proofs.OpenParts.{same_number, number_of, one_part}
use Rattle.hub_core.proofs.Nodes.{all_same, session_same, node_eq}
use Rattle.hub_core.proofs.Numbers.{IsFree}
use Rattle.hub_core.proofs.Opening.{held_is, held_there}

abbrev pub refusal_of : Address → Key → Refusal
refusal_of from key = record { from = from; key = key }

abbrev pub refused_stored : Address → Key → ℕ → ℕ → StoreState → Stored → Stored
refused_stored from key session reason s a = stored_after (file_refused (refusal_of from key)) s.seat (Refused_record from key session reason ∷ []) a

-- the part of another file is found as before
other_unmarked : {B : Type 0} (from : Address) (key : Key) (n : ℕ) (ps : List (MarkOf B)) → ((x : MarkOf B) → Member x ps → x.number ≡ n → is_same from key x.from x.key ≡ false) → part_in n (unmarked from key ps) ≡ part_in n ps
other_unmarked {B} from key n ps others =
    first-without (λ (p : MarkOf B). is_same from key p.from p.key) (λ (p : MarkOf B). p.number == n) ps (λ x there is. others x there (same_number x.number n is))

-- the seat's own session holds nothing
own_none : (a : Stored) (s : StoreState) (h : HubState) (seat : ℕ) (x : Sitting) (key : Key) → IsFree a s h seat x key → (k : ℕ) (y : Sitting) → k ≡ seat → sitting_at h k ≡ Some y → y.hold ≡ None
own_none a s h seat x key free k y here at =
    let same : Some y ≡ Some x = sym at ∙ (ap (sitting_at h) here ∙ free.sits) in
    ap (λ (o : Option Sitting). held_in o) same ∙ free.unheld
  where
    held_in : Option Sitting → Option Taking
    held_in None = None
    held_in (Some z) = z.hold

refused_told : (a : Stored) (s : StoreState) (h : HubState) (seat : ℕ) (x : Sitting) (key : Key) (reason : ℕ) → IsFree a s h seat x key → (k : ℕ) (y : Sitting) → (chair_in h.chairs k).sitting ≡ Some y → session_over (refused_stored x.first key x.number reason s a).stock y ≡ session_over a.stock y
refused_told a s h seat x key reason free k y at =
    session_same a.stock (refused_stored x.first key x.number reason s a).stock y (λ t held. ⊎_elim (λ (here : k ≡ seat). absurd (never t (sym held ∙ own_none a s h seat x key free k y here at))) (λ (apart : k ≢ seat). other t held apart) (decide_line k seat))
  where
    never : (t : Taking) → Some t ≡ None → ⊥
    never t e = cc

    other : (t : Taking) → y.hold ≡ Some t → k ≢ seat → part_in t.part (unmarked x.first key a.stock.parts) ≡ part_in t.part a.stock.parts
    other t held apart =
        let part = held_is s y.first y.hold t held (free.fits.sittings k y at).hold in
        let there = held_there s y.first t part in
        other_unmarked x.first key t.part a.stock.parts (number_of a s x.first key (part_under y.first t) free.fits.stock free.tied there (free.away k y t apart at held))

pub refused_is : (a : Stored) (s : StoreState) (h : HubState) (seat : ℕ) (x : Sitting) (key : Key) (reason : ℕ) → IsFree a s h seat x key → let n = node_with a s h in node_with (refused_stored x.first key x.number reason s a) (file_refused_under x.first key x.number reason s) h ≡ record n { state = with_refusal (record { from = x.first; key = key }) a.stock.state; log = a.log ++ by seat (Refused_record x.first key x.number reason); records = s.records + 1 }
refused_is a s h seat x key reason free =
    let n = node_with a s h in
    let b = refused_stored x.first key x.number reason s a in
    node_eq (node_with b (file_refused_under x.first key x.number reason s) h) (record n { state = with_refusal (record { from = x.first; key = key }) a.stock.state; log = a.log ++ by seat (Refused_record x.first key x.number reason); records = s.records + 1 })
    refl
    (λ i. a.log ++ (record { seat = free.seat_is i; entry = Refused_record x.first key x.number reason } ∷ []))
    (all_same a.stock b.stock h.chairs (refused_told a s h seat x key reason free))
    refl refl refl (less s.reserved) refl refl refl refl refl refl
  where
    less : (r : ℕ) → r + 1 - 1 ≡ r
    less r = omega arith

pub refused_fits : (a : Stored) (s : StoreState) (h : HubState) (seat : ℕ) (x : Sitting) (key : Key) (reason : ℕ) → IsFree a s h seat x key → Sound (node_with (refused_stored x.first key x.number reason s a) (file_refused_under x.first key x.number reason s) h) → HubFits (refused_stored x.first key x.number reason s a) (file_refused_under x.first key x.number reason s) h
refused_fits a s h seat x key reason free sound =
    let f = free.fits in
    record {
      stock = ap (λ (st : Sizes). file_refused (refusal_of x.first key) st) f.stock ∙ sym (file_refused-map length (refusal_of x.first key) a.stock);
      sittings = λ k y at. let fit = f.sittings k y at in record { first = fit.first; claim = fit.claim; passed = fit.passed; hold = ⊎_elim (λ (here : k ≡ seat). subst (λ (o : Option Taking). IfHeld (file_refused_under x.first key x.number reason s) y.first o) (sym (own_none a s h seat x key free k y here at)) tt) (λ (apart : k ≢ seat). stays k y apart at y.hold refl fit.hold) (decide_line k seat) };
      parts = λ p there. let fit = f.parts p (left_there (is_file x.first key) s.stock.parts p there).0 in
          record { marks = Each-without (λ (m : Mark). (m.number ≡ p.number → is_same p.from p.key m.from m.key ≡ true) × (is_same p.from p.key m.from m.key ≡ true → m.number ≡ p.number)) (λ (m : Mark). is_same x.first key m.from m.key) a.stock.state.marks fit.marks; receipts = fit.receipts };
      sound = sound;
    }
  where
    stays : (k : ℕ) (z : Sitting) → k ≢ seat → sitting_at h k ≡ Some z → (o : Option Taking) → z.hold ≡ o → IfHeld s z.first o → IfHeld (file_refused_under x.first key x.number reason s) z.first o
    stays k z apart at None is held = tt
    stays k z apart at (Some t) is held =
        let there = held_there s z.first t held.part in
        record {
          part = other_unmarked x.first key t.part s.stock.parts (λ q there' same. subst (λ (p : MarkOf ℕ). is_same x.first key p.from p.key ≡ false) (sym (one_part s q (part_under z.first t) free.tied there' there same)) (free.away k z t apart at is)) ∙ held.part;
          kept = held.kept;
        }
