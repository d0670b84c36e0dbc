-- What fits a store goes on to fit it once a part was marked.
use Rattle.std.proofs.Common.{◌∷◌, ◌≡◌, ℕ, Bool, true, false, ◌==◌, List, Option, Some, None, length, refl, sym, ◌∙◌, ap, subst}
use Rattle.ftn_addr.specs.Address.{Address}
use Rattle.ftn_addr.specs.Files.{is_same}
use Rattle.ftn_addr.specs.Key.{Key}
use Rattle.node_model.specs.Items.{EntryOf, Mark, MarkOf}
use Rattle.node_model.specs.Lists.{Member}
use Rattle.node_model.specs.Durable.{Durable, with_mark, unmarked}
use Rattle.node_model.specs.Rows.{released}
use Rattle.node_model.specs.Sound.{Sound}
use Rattle.node_model.specs.Stocks.{Stock, Sizes, StockOf, sizes, part_in, part_of, by_part, part_marked}
use Rattle.node_model.specs.Stores.{Stored, StoreState, StoreTied, IfTold, marked_part}
use Rattle.node_model.specs.Stores as T
use Rattle.node_model.proofs.Lists.{is_same_true, is_same_refl, Each-without}
use Rattle.node_model.proofs.Marks.{Each-placed}
use Rattle.node_model.proofs.Seats.{fits, sound}
use Rattle.node_model.proofs.Leaving.{released_fits}
use Rattle.node_model.proofs.StockMaps.{by_part-map, part_marked-map}
use Rattle.hub_core.specs.Hubs.{Taking, Sitting, HubState, IfClaimed, IfHeld, SittingFits, PartFits, HubFits, with_sitting, session_over, node_with}
use Rattle.hub_core.specs.Skips.{AllBehind}
use Rattle.hub_core.specs.Steps.{part_under, ended}
use Rattle.hub_core.proofs.Finding.{found}
use Rattle.hub_core.proofs.OpenParts.{one_part}
use Rattle.hub_core.proofs.Nodes.{session_is, sittings_put}
use Rattle.hub_core.proofs.Ends.{Sits, unheld_sitting, marked_stored, marked_by, ended_stored, stock_marked, released_is}
use Rattle.hub_core.specs.HubLaws.{HeldTold, held_part, held_told}

-- the sizes of what is told
pub marked_sizes : (a : Stored) (s : StoreState) (b : Bool) (p : MarkOf ℕ) → s.stock ≡ sizes a.stock → (marked_by b p s).stock ≡ sizes (marked_stored b p s.seat a).stock
marked_sizes a s false p is = is
marked_sizes a s true p is =
    ap (λ (st : Sizes). by_part p.number (λ part stock. part_marked part stock) st) is
    ∙ sym (by_part-map length p.number (λ part stock. part_marked part stock) (λ part stock. part_marked part stock) (λ part stock. part_marked-map length part stock) a.stock)

pub by_part_parts : {B : Type 0} (n : ℕ) (s : StockOf B) → (by_part n (λ part stock. part_marked part stock) s).parts ≡ s.parts
by_part_parts {B} n s = go (part_in n s.parts)
  where
    go : (o : Option (MarkOf B)) → (Rattle.node_model.specs.Stocks.by_some o (λ part stock. part_marked part stock) s).parts ≡ s.parts
    go None = refl
    go (Some p) = refl

-- the open parts stay
pub marked_parts : (b : Bool) (p : MarkOf ℕ) (s : StoreState) → (marked_by b p s).stock.parts ≡ s.stock.parts
marked_parts false p s = refl
marked_parts true p s = by_part_parts p.number s.stock

pub part_marked_fits : (d : Durable) (m : Mark) (p : MarkOf ℕ) → PartFits d p → (m.number ≡ p.number → is_same p.from p.key m.from m.key ≡ true) → (is_same p.from p.key m.from m.key ≡ true → m.number ≡ p.number) → PartFits (with_mark m d) p
part_marked_fits d m p f one other = record {
  marks = Each-placed (λ (x : Mark). (x.number ≡ p.number → is_same p.from p.key x.from x.key ≡ true) × (is_same p.from p.key x.from x.key ≡ true → x.number ≡ p.number)) m (unmarked m.from m.key d.marks) (one, other) (Each-without (λ (x : Mark). (x.number ≡ p.number → is_same p.from p.key x.from x.key ≡ true) × (is_same p.from p.key x.from x.key ≡ true → x.number ≡ p.number)) (λ (x : Mark). is_same m.from m.key x.from x.key) d.marks f.marks);
  receipts = f.receipts;
}

some_same : {A : Type 0} {u v : A} → Some u ≡ Some v → u ≡ v
some_same e = cc

-- open parts of one file are one
pub one_file : (s : StoreState) (p q : MarkOf ℕ) → StoreTied s → Member p s.stock.parts → Member q s.stock.parts → is_same p.from p.key q.from q.key ≡ true → p ≡ q
one_file s p q tied a b same =
    let e = is_same_true p.from p.key q.from q.key same in
    some_same (sym (tied.parts p a).1 ∙ (ap (λ (w : Address × Key). part_of w.0 w.1 s.stock.parts) (λ i. (e.0 i, e.1 i)) ∙ (tied.parts q b).1))

-- a mark of an open part fits all open parts
pub mark_fits_part : (s : StoreState) (d : Durable) (m : Mark) (q p : MarkOf ℕ) → StoreTied s → Member q s.stock.parts → Member p s.stock.parts → m.number ≡ q.number → m.from ≡ q.from → m.key ≡ q.key → PartFits d p → PartFits (with_mark m d) p
mark_fits_part s d m q p tied there here number from key f =
    part_marked_fits d m p f
    (λ same. let e = one_part s p q tied here there (sym same ∙ number) in subst (λ (w : Address × Key). is_same p.from p.key w.0 w.1 ≡ true) (λ i. ((ap (λ (x : MarkOf ℕ). x.from) e ∙ sym from) i, (ap (λ (x : MarkOf ℕ). x.key) e ∙ sym key) i)) (is_same_refl p.from p.key))
    (λ same. let e = one_file s p q tied here there (subst (λ (w : Address × Key). is_same p.from p.key w.0 w.1 ≡ true) (λ i. (from i, key i)) same) in number ∙ ap (λ (x : MarkOf ℕ). x.number) (sym e))

pub marked_fits : (a : Stored) (s : StoreState) (from : Address) (t : Taking) (b : Bool) (p : MarkOf ℕ) → StoreTied s → HeldTold a from t → part_in t.part s.stock.parts ≡ Some (part_under from t) → Member p s.stock.parts → PartFits a.stock.state p → PartFits (marked_stored b (part_under from t) s.seat a).stock.state p
marked_fits a s from t false p tied told part here f = f
marked_fits a s from t true p tied told part here f =
    subst (λ (st : Stock). PartFits st.state p) (sym (stock_marked a from t told))
    (mark_fits_part s a.stock.state (held_part a from t) (part_under from t) p tied (found (λ (x : MarkOf ℕ). x.number == t.part) s.stock.parts (part_under from t) part).there here refl refl refl f)

-- the same once a hold has ended

pub ended_sizes : (a : Stored) (s : StoreState) (from : Address) (o : Option Taking) → s.stock ≡ sizes a.stock → (ended from o s).stock ≡ sizes (ended_stored from o s a).stock
ended_sizes a s from None is = is
ended_sizes a s from (Some t) is = marked_sizes a s (T.is_ahead (part_under from t) s) (part_under from t) is

pub ended_parts : (from : Address) (o : Option Taking) (s : StoreState) → (ended from o s).stock.parts ≡ s.stock.parts
ended_parts from None s = refl
ended_parts from (Some t) s = marked_parts (T.is_ahead (part_under from t) s) (part_under from t) s

-- and so does the queue
by_part_queue : (n : ℕ) (s : Sizes) → (by_part n (λ part stock. part_marked part stock) s).state.queue ≡ s.state.queue
by_part_queue n s = go (part_in n s.parts)
  where
    go : (o : Option (MarkOf ℕ)) → (Rattle.node_model.specs.Stocks.by_some o (λ part stock. part_marked part stock) s).state.queue ≡ s.state.queue
    go None = refl
    go (Some p) = refl

pub marked_queue : (b : Bool) (p : MarkOf ℕ) (s : StoreState) → (marked_by b p s).stock.state.queue ≡ s.stock.state.queue
marked_queue false p s = refl
marked_queue true p s = by_part_queue p.number s.stock

pub ended_queue : (from : Address) (o : Option Taking) (s : StoreState) → (ended from o s).stock.state.queue ≡ s.stock.state.queue
ended_queue from None s = refl
ended_queue from (Some t) s = marked_queue (T.is_ahead (part_under from t) s) (part_under from t) s

pub ended_fits_part : (a : Stored) (s : StoreState) (from : Address) (o : Option Taking) (p : MarkOf ℕ) → s.stock ≡ sizes a.stock → StoreTied s → IfHeld s from o → Member p s.stock.parts → PartFits a.stock.state p → PartFits (ended_stored from o s a).stock.state p
ended_fits_part a s from None p is tied held here f = f
ended_fits_part a s from (Some t) p is tied held here f =
    marked_fits a s from t (T.is_ahead (part_under from t) s) p tied (held_told a s from t is held.part) held.part here f

-- a session fits a store with the same open parts
pub sitting_stays : (s s' : StoreState) (x : Sitting) → s'.stock.parts ≡ s.stock.parts → s'.stock.state.queue ≡ s.stock.state.queue → SittingFits s x → SittingFits s' x
sitting_stays s s' x same queued f = record { first = f.first; claim = subst (λ (q : List (EntryOf ℕ)). IfClaimed q x.claim) (sym queued) f.claim; passed = subst (λ (q : List (EntryOf ℕ)). AllBehind (x.first ∷ x.others) x.skipped q x.passed) (sym queued) f.passed; hold = go x.hold f.hold }
  where
    go : (o : Option Taking) → IfHeld s x.first o → IfHeld s' x.first o
    go None held = tt
    go (Some t) held = record { part = ap (λ (ps : List (MarkOf ℕ)). part_in t.part ps) same ∙ held.part; kept = held.kept }

pub ended_fits : (a : Stored) (s : StoreState) (h : HubState) (seat : ℕ) (x : Sitting) → Sits a s h seat x → HubFits (ended_stored x.first x.hold s a) (ended x.first x.hold s) (with_sitting seat (Some (unheld_sitting x)) h)
ended_fits a s h seat x sits =
    let f = sits.fits in
    let mine = f.sittings seat x sits.sits in
    let parts = ended_parts x.first x.hold s in
    let queued = ended_queue x.first x.hold s in
    record {
      stock = ended_sizes a s x.first x.hold f.stock;
      sittings = sittings_put (λ (y : Sitting). SittingFits (ended x.first x.hold s) y) h seat (Some (unheld_sitting x))
          (λ k y apart at. sitting_stays s (ended x.first x.hold s) y parts queued (f.sittings k y at))
          (λ y is. subst (λ (z : Sitting). SittingFits (ended x.first x.hold s) z) (some_same is) (record { first = mine.first; claim = subst (λ (q : List (EntryOf ℕ)). IfClaimed q x.claim) (sym queued) mine.claim; passed = subst (λ (q : List (EntryOf ℕ)). AllBehind (x.first ∷ x.others) x.skipped q x.passed) (sym queued) mine.passed; hold = tt }));
      parts = λ p there. let there' = subst (λ (ps : List (MarkOf ℕ)). Member p ps) parts there in ended_fits_part a s x.first x.hold p f.stock sits.tied mine.hold there' (f.parts p there');
      sound = subst Sound (sym (released_is a s h seat x sits)) (sound (released seat (session_over a.stock x) (node_with a s h)) (released_fits (node_with a s h) seat (session_over a.stock x) (session_is a s h seat x sits.sits) (fits (node_with a s h) f.sound)));
    }
