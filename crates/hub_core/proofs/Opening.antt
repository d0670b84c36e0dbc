-- A part is opened for a session: the node of its hub holds the file.
use Rattle.std.proofs.Common.{◌≡◌, ◌≢◌, ◌⊎◌, ℕ, ◌+◌, Bool, true, false, ◌==◌, List, [], Option, Some, None, length, refl, sym, ◌∙◌, ap, subst, inl, inr, arith}
use Rattle.std.proofs.lemmas.List.{append-nil}
use Rattle.ftn_addr.specs.Address.{Address}
use Rattle.ftn_addr.specs.Files.{is_same}
use Rattle.ftn_addr.specs.Key.{Key}
use Rattle.node_model.specs.Items.{Mark, MarkOf}
use Rattle.node_model.specs.Lists.{Member}
use Rattle.node_model.specs.Durable.{Durable, marked, mark_of, unmarked}
use Rattle.node_model.specs.Node.{Hold, Session, session_at, hold_in}
use Rattle.node_model.specs.Rows.{holding, hold_from}
use Rattle.node_model.specs.Sound.{Sound}
use Rattle.node_model.specs.Stocks.{Sizes, sizes, part_in, part_number, part_opened, body_of, bytes_of_part}
use Rattle.node_model.specs.Stores.{Stored, StoreState, stored_after}
use Rattle.node_model.proofs.StockMaps.{part_opened-map}
use Rattle.hub_core.specs.Hubs.{Taking, Sitting, HubState, HubFits, SittingFits, PartFits, IfHeld, with_sitting, sitting_at, session_over, node_with}
use Rattle.hub_core.specs.Steps.{opened_under, taken_up, part_under, is_file}
use Rattle.hub_core.proofs.Finding.{found, pushed, left_there}
use Rattle.hub_core.proofs.OpenParts.{other_opened, one_part, number_of}
use Rattle.hub_core.proofs.Nodes.{seats_put, session_same, session_is, node_eq, sittings_put, OthersStay, sits_at}
use Rattle.hub_core.proofs.Numbers.{IsFree, number_new, own_opened}
use Rattle.hub_core.proofs.Telling.{begins_is}

abbrev pub opened_stored : Address → Key → StoreState → Stored → Stored
opened_stored from key s a = stored_after (part_opened from key (part_number from key s.drawn s.stock) []) s.seat [] a

some_same : {A : Type 0} {u v : A} → Some u ≡ Some v → u ≡ v
some_same e = cc

-- an open part of another session
pub held_there : (s : StoreState) (from : Address) (t : Taking) → part_in t.part s.stock.parts ≡ Some (part_under from t) → Member (part_under from t) s.stock.parts
held_there s from t is = (found (λ (p : MarkOf ℕ). p.number == t.part) s.stock.parts (part_under from t) is).there

pub held_is : (s : StoreState) (from : Address) (o : Option Taking) (t : Taking) → o ≡ Some t → IfHeld s from o → part_in t.part s.stock.parts ≡ Some (part_under from t)
held_is s from o t is held = (subst (λ (p : Option Taking). IfHeld s from p) is held).part

-- other sessions are told the same
pub opened_others : (a : Stored) (s : StoreState) (h : HubState) (seat : ℕ) (x : Sitting) (key : Key) → IsFree a s h seat x key → OthersStay a.stock (opened_stored x.first key s a).stock h.chairs seat
opened_others a s h seat x key free = λ k y apart at.
    session_same a.stock (opened_stored x.first key s a).stock y (λ t held.
    let part = held_is s y.first y.hold t held (free.fits.sittings k y at).hold in
    let there = held_there s y.first t part in
    let away = free.away k y t apart at held in
    other_opened x.first key (part_number x.first key s.drawn s.stock) [] a.stock t.part
    (number_new a s h x.first key (part_under y.first t) free.fits free.tied there away)
    (number_of a s x.first key (part_under y.first t) free.fits.stock free.tied there away))

-- all others with that number are of that file
pub opened_new : (a : Stored) (s : StoreState) (h : HubState) (seat : ℕ) (x : Sitting) (key : Key) → IsFree a s h seat x key → (m : Mark) → Member m a.stock.parts → is_same x.first key m.from m.key ≡ false → m.number ≢ part_number x.first key s.drawn s.stock
opened_new a s h seat x key free m there apart =
    number_new a s h x.first key (Rattle.node_model.specs.Durable.mark_map length m) free.fits free.tied (Rattle.hub_core.proofs.OpenParts.sized a s m free.fits.stock there) apart

pub opened_body : (a : Stored) (s : StoreState) (h : HubState) (seat : ℕ) (x : Sitting) (key : Key) → IsFree a s h seat x key → body_of (part_number x.first key s.drawn s.stock) (opened_stored x.first key s a).stock ≡ marked x.first key a.stock.state
opened_body a s h seat x key free =
    ap bytes_of_part (own_opened x.first key (part_number x.first key s.drawn s.stock) [] a.stock (opened_new a s h seat x key free))
    ∙ begins_is x.first key a.stock.state

-- the session that holds the file, among keys that mismatched
abbrev pub held_up : Sitting → Key → Bool → List Key → StoreState → Sitting
held_up x key taking missed s = record x { hold = Some (taken_up x.first key taking s); missed = missed }

pub holding_is : (a : Stored) (s : StoreState) (h : HubState) (seat : ℕ) (x : Sitting) (key : Key) (taking : Bool) (missed : List Key) (places : ℕ) → IsFree a s h seat x key → places ≡ (taken_up x.first key taking s).places → node_with (opened_stored x.first key s a) (opened_under x.first key places s) (with_sitting seat (Some (held_up x key taking missed s)) h) ≡ holding seat (hold_from (part_number x.first key s.drawn s.stock) x.first key taking a.stock.state) places (session_over a.stock (record x { missed = missed })) (node_with a s h)
holding_is a s h seat x key taking missed places free is =
    let number = part_number x.first key s.drawn s.stock in
    let b = opened_stored x.first key s a in
    let t : Session = session_over a.stock (record x { missed = missed }) in
    let own : Some (session_over b.stock (held_up x key taking missed s)) ≡ Some (record t { hold = Some (hold_from number x.first key taking a.stock.state); hold_places = places }) =
    (λ i. Some (record t { hold = Some (record { number = number; from = x.first; key = key; bytes = opened_body a s h seat x key free i; stored = true; taking = taking }); hold_places = sym is i })) in
    node_eq (node_with b (opened_under x.first key places s) (with_sitting seat (Some (held_up x key taking missed s)) h)) (holding seat (hold_from number x.first key taking a.stock.state) places t (node_with a s h))
    refl (append-nil a.log)
    (seats_put a.stock b.stock h seat (Some (held_up x key taking missed s)) _ (opened_others a s h seat x key free) own)
    refl refl (add_none s.records) refl refl refl refl refl refl refl
  where
    add_none : (n : ℕ) → n + 0 ≡ n
    add_none n = omega arith

-- It goes on to fit.

pub opened_sizes : (a : Stored) (s : StoreState) (from : Address) (key : Key) (places : ℕ) → s.stock ≡ sizes a.stock → (opened_under from key places s).stock ≡ sizes (opened_stored from key s a).stock
opened_sizes a s from key places is =
    ap (λ (st : Sizes). part_opened from key (part_number from key s.drawn s.stock) 0 st) is
    ∙ sym (part_opened-map length from key (part_number from key s.drawn s.stock) [] a.stock)

-- other open parts at their sizes
pub other_sizes : (a : Stored) (s : StoreState) (h : HubState) (seat : ℕ) (x : Sitting) (key : Key) (places : ℕ) → IsFree a s h seat x key → (k : ℕ) (y : Sitting) (t : Taking) → k ≢ seat → sitting_at h k ≡ Some y → y.hold ≡ Some t → part_in t.part (opened_under x.first key places s).stock.parts ≡ part_in t.part s.stock.parts
other_sizes a s h seat x key places free k y t apart at held =
    let part = held_is s y.first y.hold t held (free.fits.sittings k y at).hold in
    let there = held_there s y.first t part in
    let away = free.away k y t apart at held in
    other_opened x.first key (part_number x.first key s.drawn s.stock) 0 s.stock t.part
    (number_new a s h x.first key (part_under y.first t) free.fits free.tied there away)
    (λ q there' same. subst (λ (p : MarkOf ℕ). is_same x.first key p.from p.key ≡ false) (sym (one_part s q (part_under y.first t) free.tied there' there same)) away)

pub opened_fits : (a : Stored) (s : StoreState) (h : HubState) (seat : ℕ) (x : Sitting) (key : Key) (taking : Bool) (missed : List Key) (places : ℕ) → IsFree a s h seat x key → Sound (node_with (opened_stored x.first key s a) (opened_under x.first key places s) (with_sitting seat (Some (held_up x key taking missed s)) h)) → HubFits (opened_stored x.first key s a) (opened_under x.first key places s) (with_sitting seat (Some (held_up x key taking missed s)) h)
opened_fits a s h seat x key taking missed places free sound =
    let s' = opened_under x.first key places s in
    let y = held_up x key taking missed s in
    let g = with_sitting seat (Some y) h in
    let f = free.fits in
    let t = taken_up x.first key taking s in
    let own : part_in t.part s'.stock.parts ≡ Some (part_under x.first t) = own_opened x.first key t.part 0 s.stock (λ p there apart. number_new a s h x.first key p f free.tied there apart) in
    let w : Hold = record { number = t.part; from = x.first; key = key; bytes = body_of t.part (opened_stored x.first key s a).stock; stored = true; taking = taking } in
    let held : hold_in (session_at (node_with (opened_stored x.first key s a) s' g) seat) ≡ Some w = ap hold_in (session_is (opened_stored x.first key s a) s' g seat y (sits_at h seat (Some y))) in
    record {
      stock = opened_sizes a s x.first key places f.stock;
      sittings = sittings_put (λ (z : Sitting). SittingFits s' z) h seat (Some y)
          (λ k z apart at. let fit = f.sittings k z at in record { first = fit.first; claim = fit.claim; passed = fit.passed; hold = stays k z apart at z.hold refl fit.hold })
          (λ z is. subst (λ (u : Sitting). SittingFits s' u) (some_same is) (record { first = (f.sittings seat x free.sits).first; claim = (f.sittings seat x free.sits).claim; passed = (f.sittings seat x free.sits).passed; hold = record { part = own; kept = refl } }));
      parts = λ p there. new_or p (pushed (unmarked x.first key s.stock.parts) _ p there) (record { marks = sound.parts.held_mark seat w held; receipts = sound.parts.held_receipt seat w held });
      sound = sound;
    }
  where
    stays : (k : ℕ) (z : Sitting) → k ≢ seat → sitting_at h k ≡ Some z → (o : Option Taking) → z.hold ≡ o → IfHeld s z.first o → IfHeld (opened_under x.first key places s) z.first o
    stays k z apart at None is held = tt
    stays k z apart at (Some t) is held = record { part = other_sizes a s h seat x key places free k z t apart at is ∙ held.part; kept = held.kept }

    new_or : (p : MarkOf ℕ) → Member p (unmarked x.first key s.stock.parts) ⊎ (p ≡ part_under x.first (taken_up x.first key taking s)) → PartFits a.stock.state (part_under x.first (taken_up x.first key taking s)) → PartFits (opened_stored x.first key s a).stock.state p
    new_or p (inl old) fit = free.fits.parts p (left_there (is_file x.first key) s.stock.parts p old).0
    new_or p (inr same) fit = subst (PartFits a.stock.state) (sym same) fit
