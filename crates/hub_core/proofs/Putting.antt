-- Parts and failures once bytes were put behind a part.
use Rattle.std.proofs.Common.{◌≡◌, ◌≢◌, ℕ, ◌+◌, ◌≤◌, Bool, true, false, cond, ◌==◌, List, [], ◌∷◌, ◌++◌, Option, Some, None, refl, sym, ◌∙◌, ap, subst, inl, inr, length, map, option_map}
use Rattle.std.proofs.lemmas.List.{append-nil}
use Rattle.node_model.specs.declared.store.StoreFault.{StoreFault}
use Rattle.node_model.specs.declared.store.StoreFault.TheVariants as D
use Rattle.node_model.specs.Items.{MarkOf}
use Rattle.node_model.specs.Lists.{Member, first_that}
use Rattle.node_model.specs.Node.{Logged}
use Rattle.node_model.specs.Calls.{Logs}
use Rattle.node_model.specs.Stocks.{part_in, part_put, put_part}
use Rattle.node_model.specs.Stores.{Shelf, Stored, StoreState, TellsOn, IsShelf, shelf_of, stored_after, with_bytes}
use Rattle.hub_core.specs.Steps.{Broke, BrokeBy, OneOf, Stays, is_part, Holds, whole_taking, hold_received, put_received, put_marked, reaches, marked_if, loses_none, more_taking, part_under}
use Rattle.hub_core.specs.Hubs.{Taking}
use Rattle.ftn_addr.specs.Address.{Address}
use Rattle.hub_core.proofs.Finding.{found, member_map}
use Rattle.node_model.proofs.StockMaps.{first-map}
use Rattle.hub_core.proofs.OpenParts.{same_number, number_same, number_apart}

-- a part keeps its number
put_number : {B : Type 0} (number : ℕ) (more : B → B) (p : MarkOf B) → (put_part number more p).number ≡ p.number
put_number {B} number more p = go (p.number == number)
  where
    go : (b : Bool) → (cond b (record p { bytes = more p.bytes }) p).number ≡ p.number
    go true = refl
    go false = refl

pub in_put : {B : Type 0} (number : ℕ) (more : B → B) (n : ℕ) (ps : List (MarkOf B)) → part_in n (map (put_part number more) ps) ≡ option_map (put_part number more) (part_in n ps)
in_put {B} number more n ps =
    first-map (put_part number more) (λ (p : MarkOf B). p.number == n) ps
    ∙ ap (λ (q : MarkOf B → Bool). option_map (put_part number more) (first_that q ps)) (λ i p. put_number number more p i == n)

pub put_at : {B : Type 0} (number : ℕ) (more : B → B) (p : MarkOf B) → (p.number == number) ≡ true → put_part number more p ≡ record p { bytes = more p.bytes }
put_at number more p here = ap (λ (b : Bool). cond b (record p { bytes = more p.bytes }) p) here

pub own_put : {B : Type 0} (number : ℕ) (more : B → B) (ps : List (MarkOf B)) (p : MarkOf B) → part_in number ps ≡ Some p → part_in number (map (put_part number more) ps) ≡ Some (record p { bytes = more p.bytes })
own_put {B} number more ps p is =
    in_put number more number ps ∙ (ap (option_map (put_part number more)) is ∙ ap (λ (q : MarkOf B). Some q) (put_at number more p (found (λ (q : MarkOf B). q.number == number) ps p is).passes))

pub unput : {B : Type 0} (number : ℕ) (more : B → B) (p : MarkOf B) → (p.number == number) ≡ false → put_part number more p ≡ p
unput number more p apart = ap (λ (b : Bool). cond b (record p { bytes = more p.bytes }) p) apart

pub other_put : {B : Type 0} (number : ℕ) (more : B → B) (n : ℕ) (ps : List (MarkOf B)) → n ≢ number → part_in n (map (put_part number more) ps) ≡ part_in n ps
other_put {B} number more n ps apart = in_put number more n ps ∙ go (part_in n ps) refl
  where
    go : (o : Option (MarkOf B)) → part_in n ps ≡ o → option_map (put_part number more) o ≡ o
    go None is = refl
    go (Some p) is =
        let here = same_number p.number n (found (λ (q : MarkOf B). q.number == n) ps p is).passes in
        ap (λ (q : MarkOf B). Some q) (unput number more p (number_apart p.number number (λ same. apart (sym here ∙ same))))

off : {X : Type 0} {b : Bool} → b ≡ false → b ≡ true → X
off {X} {b} e t = absurd (cc)

-- the disk failed behind bytes that were put
pub put_broken : (P Q : Shelf → Type 0) (loses : MarkOf ℕ → Bool) (number : ℕ) (bytes : List ℕ) (old new : StoreState) → ((d : Shelf) → Q d → P d) → ((p : MarkOf ℕ) → is_part number p ≡ false → loses p ≡ false) → Broke Q loses (with_bytes number bytes old) new → Broke P (is_part number) old new
put_broken P Q loses number bytes old new f fewer b = record {
  rose = b.rose;
  counts = b.counts;
  content = go old.content new.content b.content;
  seat = b.seat;
}
  where
    go : (c e : Option Stored) → TellsOn (λ a b. Q (shelf_of b) × Logs old.seat a.log b.log × ((p : MarkOf ℕ) → Stays loses (with_bytes number bytes old) p → part_in p.number b.stock.parts ≡ part_in p.number a.stock.parts)) (option_map (stored_after (part_put number (λ b. b ++ bytes)) old.seat []) c) e → TellsOn (λ a b. P (shelf_of b) × Logs old.seat a.log b.log × ((p : MarkOf ℕ) → Stays (is_part number) old p → part_in p.number b.stock.parts ≡ part_in p.number a.stock.parts)) c e
    go None None on = tt
    go None (Some b) on = absurd on
    go (Some a) None on = absurd on
    go (Some a) (Some b) on = (
      f (shelf_of b) on.0,
      record { rest = on.1.rest; grows = on.1.grows ∙ ap (λ (l : List Logged). l ++ on.1.rest) (append-nil a.log); own = on.1.own },
      λ p stays.
          let there : Member p (with_bytes number bytes old).stock.parts = subst (λ (q : MarkOf ℕ). Member q (with_bytes number bytes old).stock.parts) (unput number (λ (n : ℕ). n + length bytes) p stays.1) (member_map (put_part number (λ (n : ℕ). n + length bytes)) old.stock.parts p stays.0) in
          on.2 p (there, fewer p stays.1) ∙ other_put number (λ (b : List ℕ). b ++ bytes) p.number a.stock.parts (λ same. off stays.1 (number_same p.number number same)),
    )

-- the held file goes on to be open, with more bytes
pub put_holds : (old new : StoreState) (from : Address) (t : Taking) (bytes : List ℕ) → Holds old from t → t.have + length bytes ≤ t.key.size → new ≡ with_bytes t.part bytes old → Holds new from (more_taking (length bytes) t)
put_holds old new from t bytes h fits is =
    subst (λ (s : StoreState). Holds s from (more_taking (length bytes) t)) (sym is)
    (record { part = own_put t.part (λ (n : ℕ). n + length bytes) old.stock.parts (part_under from t) h.part; fits = fits; place = h.place; reserved = h.reserved })

-- bytes that are put change no shelf
pub put_shelf : (c : Option Stored) (number : ℕ) (bytes : List ℕ) (seat : ℕ) (d : Shelf) → IsShelf (option_map (stored_after (part_put number (λ b. b ++ bytes)) seat []) c) d → IsShelf c d
put_shelf None number bytes seat d is = is
put_shelf (Some a) number bytes seat d is = is

put_one : (old : StoreState) (from : Address) (t : Taking) (bytes : List ℕ) (more : Option Stored) (d : Shelf) → OneOf ((with_bytes t.part bytes old).content ∷ more ∷ []) d → OneOf (old.content ∷ more ∷ []) d
put_one old from t bytes more d (inl is) = inl (put_shelf old.content t.part bytes old.seat d is)
put_one old from t bytes more d (inr is) = inr is

-- the disk failed while the last bytes became a receipt
pub last_broken : (fault : StoreFault) (old mid new : StoreState) (from : Address) (t : Taking) (bytes : List ℕ) (session : ℕ) (secure : Bool) → mid ≡ with_bytes t.part bytes old → BrokeBy (OneOf (mid.content ∷ (hold_received from (whole_taking t) session secure mid).content ∷ [])) (is_part t.part) fault mid new → BrokeBy (OneOf (old.content ∷ (put_received from t bytes session secure old).content ∷ [])) (is_part t.part) fault old new
last_broken D.Disk old mid new from t bytes session secure is b =
    let b' : BrokeBy (OneOf ((with_bytes t.part bytes old).content ∷ (put_received from t bytes session secure old).content ∷ [])) (is_part t.part) D.Disk (with_bytes t.part bytes old) new = subst (λ (m : StoreState). BrokeBy (OneOf (m.content ∷ (hold_received from (whole_taking t) session secure m).content ∷ [])) (is_part t.part) D.Disk m new) is b in
    put_broken (OneOf (old.content ∷ (put_received from t bytes session secure old).content ∷ [])) (OneOf ((with_bytes t.part bytes old).content ∷ (put_received from t bytes session secure old).content ∷ [])) (is_part t.part) t.part bytes old new (put_one old from t bytes (put_received from t bytes session secure old).content) (λ p e. e) b'
last_broken D.Read old mid new from t bytes session secure is b = b
last_broken D.Full old mid new from t bytes session secure is b = b
last_broken D.NoMemory old mid new from t bytes session secure is b = b

-- the disk failed while bytes that were put became a mark
pub more_broken : (fault : StoreFault) (old mid new : StoreState) (from : Address) (t : Taking) (bytes : List ℕ) (reached : Bool) → mid ≡ with_bytes t.part bytes old → reached ≡ reaches from (more_taking (length bytes) t) mid → BrokeBy (OneOf (mid.content ∷ (marked_if reached (part_under from (more_taking (length bytes) t)) mid).content ∷ [])) loses_none fault mid new → BrokeBy (OneOf (old.content ∷ (put_marked from t bytes old).content ∷ [])) (is_part t.part) fault old new
more_broken D.Disk old mid new from t bytes reached is at b =
    let p = part_under from (more_taking (length bytes) t) in
    let put = with_bytes t.part bytes old in
    let c : BrokeBy (OneOf (mid.content ∷ (marked_if (reaches from (more_taking (length bytes) t) mid) p mid).content ∷ [])) loses_none D.Disk mid new = subst (λ (r : Bool). BrokeBy (OneOf (mid.content ∷ (marked_if r p mid).content ∷ [])) loses_none D.Disk mid new) at b in
    let e : BrokeBy (OneOf (put.content ∷ (put_marked from t bytes old).content ∷ [])) loses_none D.Disk put new = subst (λ (m : StoreState). BrokeBy (OneOf (m.content ∷ (marked_if (reaches from (more_taking (length bytes) t) m) p m).content ∷ [])) loses_none D.Disk m new) is c in
    put_broken (OneOf (old.content ∷ (put_marked from t bytes old).content ∷ [])) (OneOf (put.content ∷ (put_marked from t bytes old).content ∷ [])) loses_none t.part bytes old new (put_one old from t bytes (put_marked from t bytes old).content) (λ p e. refl) e
more_broken D.Read old mid new from t bytes reached is at b = b
more_broken D.Full old mid new from t bytes reached is at b = b
more_broken D.NoMemory old mid new from t bytes reached is at b = b
