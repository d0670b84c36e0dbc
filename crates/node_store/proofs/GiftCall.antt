-- A received file was given: what the call does, what a stop leaves of it, and what holds then.
use Rattle.std.proofs.Common.{◌≡◌, ◌≢◌, inl, inr, ⊎_elim, ℕ, ◌==◌, ◌<◌, ◌≤◌, List, [], ◌∷◌, Option, Some, None, Result, Bool, true, false, ◌||◌, refl, sym, ◌∙◌, ap, subst, arith, append-nil}
use Rattle.std.specs.Prelude.{IfSome, if◌then◌else◌}
use Rattle.std.specs.List.{AllByRecursion}
use Rattle.ftn_addr.specs.Counts.{Increased}
use Rattle.ftn_addr.specs.declared.refusals.Failed.{Failed}
use Rattle.disk_model.specs.World.{World}
use Rattle.disk_model.specs.Changes.{Every}
use Rattle.disk_model.specs.declared.answers.Giving.{Giving}
use Rattle.ledger_file.specs.Ledger.{LedgerIs}
use Rattle.ledger_rec.specs.Fold.{State, is_among}
use Rattle.ledger_rec.specs.Items.{Receipt}
use Rattle.node_model.specs.declared.store.Gave.TheVariants as G
use Rattle.node_model.specs.declared.store.StoreFault.TheVariants.{Disk}
use Rattle.node_model.specs.Calls.{Logs}
use Rattle.node_model.specs.Durable as Lasting
use Rattle.node_model.specs.Giving.{IsGift, gift_made, given}
use Rattle.node_model.specs.Lists.{Member}
use Rattle.node_model.specs.Outside.{Gift, inbound_for, plain_name, numbered_name}
use Rattle.node_model.specs.Stocks.{on_state, part_in}
use Rattle.node_model.specs.StoreStates.{Stored, Shelf, shelf_of, StoreState, IfTold, stored_after}
use Rattle.node_model.specs.Stores.{StoreDoes, StoreKept, StorePasses, Before_it, After_it, Stock_after, TellsOn, PartsStay, OpensShelf, IsShelf, Give_next, Gave_so, Refuses}
use Rattle.node_model.proofs.Lists.{none_some, off, eqb_refl, or_true}
use Rattle.node_store.specs.Gifts.{IsFirstFree, GivesUnder, GivesAs}
use Rattle.node_store.specs.Names.{in_name, out_name}
use Rattle.node_store.specs.Stored.{Part, Put, Memory, stored_in, state_of, left_of, has_receipt, IsMemory, IsKept, HasBodies, IsSound}
use Rattle.node_store.specs.Worlds.{shelf_in, HasLength, HasFiles, OpensAs}
use Rattle.node_store.proofs.Alike.{all_by}
use Rattle.node_store.proofs.Calls.{standing, is_told, kept_opens}
use Rattle.node_store.proofs.GiftTold.{with_noted, parts_told, stored_given, sizes_given, state_given}
use Rattle.node_store.proofs.GiftWorld.{GaveAway, gave_away, gifted, other_in, other_out, ledger_stays, files_given, shelf_given}
use Rattle.node_store.proofs.GiveCall.{IsNext, files_there, next_is, apart, has_bytes, gave_kept, part_file, given_as}
use Rattle.node_store.proofs.GivenFiles.{still_gone}
use Rattle.node_store.proofs.Listed.{all_last}
use Rattle.node_store.proofs.Openings.{opens_to}
use Rattle.node_store.proofs.ReadCall.{if_told}

-- the memory of a receipt more that was given, or may have been
pub memory_noted : (n : ℕ) (m : Memory) → has_receipt n m.books.folding.state.inbox ≡ true → IsMemory m → IsMemory (with_noted n m)
memory_noted n m there is = record {
  books = is.books;
  orderly = is.orderly;
  parts = is.parts;
  marked = is.marked;
  received = is.received;
  numbers = is.numbers;
  given = all_last (λ k. has_receipt k m.books.folding.state.inbox ≡ true) m.given n is.given there;
  staged = is.staged;
  queued = is.queued;
}

pub receipt_there : (r : Receipt) (rs : List Receipt) → Member r rs → has_receipt r.number rs ≡ true
receipt_there r [] there = absurd there
receipt_there r (x ∷ xs) (inl same) = or_true (x.number == r.number) (has_receipt r.number xs) (ap (λ (y : Receipt). y.number == r.number) (sym same) ∙ eqb_refl r.number)
receipt_there r (x ∷ xs) (inr later) = or_later (x.number == r.number) (has_receipt r.number xs) (receipt_there r xs later)
  where
    or_later : (a b : Bool) → b ≡ true → (a || b) ≡ true
    or_later true b e = refl
    or_later false b e = e

module _ {D : Type 0} (tells : Bool) (content : D → World) (files : D → World → Type 0) (faults moment : D → ℕ) (images : D → ℕ → World → Type 0) (old new : D) (m : Memory) (n : ℕ) (r : Receipt) (inbound nonsecure : List ℕ) (result : Result Giving Failed)
    (p : IsNext tells content files moment images old m n r) (gives : GivesAs files moment images result (in_name n) (inbound_for r.secure inbound nonsecure) (plain_name r.key.name) (numbered_name n r.key.name) old new) where
  abbrev folder : List ℕ
  folder = inbound_for r.secure inbound nonsecure

  abbrev bytes : List ℕ
  bytes = (has_bytes tells content files moment images old m n r p).bytes

  abbrev s : State
  s = m.books.folding.state

  pub there : has_receipt n s.inbox ≡ true
  there = subst (λ (k : ℕ). has_receipt k s.inbox ≡ true) p.numbered (receipt_there r s.inbox p.there)

  module _ (name : List ℕ) (under : gives.under ≡ Some name) where
    abbrev pub gift : Gift
    gift = record { receipt = n; folder = folder; name = name; bytes = bytes }

    step : (d c : World) → GivesUnder (in_name n) folder gives.time gives.under d c → GivesUnder (in_name n) folder gives.time (Some name) d c
    step d c made = subst (λ (u : Option (List ℕ)). GivesUnder (in_name n) folder gives.time u d c) under made

    -- what is read then
    away : tells ≡ true → GaveAway n folder name gives.time bytes (content old) (content new)
    away t =
        let was = gives.read (content new) (p.told t new) in
        let is : was.0 ≡ content old = (p.reads old was.0 was.1).1 in
        let kept = p.sound.kept p.whole (content old) (p.as_read old (content old) (p.told t old)) in
        gave_kept tells content files moment images old m n r p folder name gives.time (content old) (content new) kept t
        (subst (λ (w : World). GivesUnder (in_name n) folder gives.time (Some name) w (content new)) is (step was.0 (content new) was.2))

    has : tells ≡ true → HasFiles s (content old)
    has = files_there tells content files moment images old m n r p

    -- what the call does
    is_gift : IfTold (state_of tells (content old) (faults old) m).content (IsGift p.next.receipt folder gift)
    is_gift = if_told tells (stored_in (content old) m) (IsGift p.next.receipt folder gift) (λ t. record {
      content = part_file tells content files moment images old m n r p t;
      name = given_as tells content files moment images old m n r p folder name t (subst (λ (u : Option (List ℕ)). IfSome u (λ x. Every (files old) (IsFirstFree folder (plain_name r.key.name) (numbered_name n r.key.name) x))) under gives.free);
    })

    does : (after : StoreState) → after ≡ given gift gives.time (state_of tells (content old) (faults old) m) → StoreDoes (state_of tells (content old) (faults old) m) (Give_next inbound nonsecure) (Gave_so (G.Given n)) after
    does after is = record {
      next = p.next;
      gift = gift;
      time = gives.time;
      receipt = refl;
      folder = ap (λ (y : _). inbound_for y.secure inbound nonsecure) (sym (next_is tells content files moment images old m n r p));
      told = is_gift;
      after = is;
    }

    told_gift : (d : Shelf) → tells ≡ true → d ≡ gifted gift gives.time (shelf_of (stored_in (content old) m)) → IsShelf (given gift gives.time (state_of tells (content old) (faults old) m)).content d
    told_gift d t is = go tells t
      where
        go : (b : Bool) → b ≡ true → IsShelf (given gift gives.time (state_of b (content old) (faults old) m)).content d
        go true u = is
        go false u = off (sym u)

    -- one image, where it was given
    given_image : tells ≡ true → (d c : World) → IsKept tells (content old) m d → GivesUnder (in_name n) folder gives.time gives.under d c → OpensAs c (shelf_in c s) × (shelf_in c s ≡ gifted gift gives.time (shelf_of (stored_in (content old) m)))
    given_image t d c kept made =
        let g = gave_kept tells content files moment images old m n r p folder name gives.time d c kept t (step d c made) in
        let a = apart tells content files moment images old m n r p in (
          record { payloads = m.books.payloads; ledger = inl (ledger_stays n folder name gives.time bytes d c g m.books.payloads kept.ledger); state = s; folds = p.sound.memory.books.folds; files = files_given n folder name gives.time bytes d c g s a.marks (kept.files t); is = refl },
          shelf_given n folder name gives.time bytes d c g s a.marks (kept.files t) p.small ∙ ap (gifted gift gives.time) (kept.same t),
        )

    pub since_given : (k : ℕ) (o : Option Shelf) → moment old < k → k ≤ moment new → left_of tells (images new) k o → OpensShelf (StorePasses (state_of tells (content old) (faults old) m) (Give_next inbound nonsecure)) o
    since_given k o from to left =
        let was = gives.stop.each k left.1 (omega (arith, from)) to left.2 in
        let kept = p.sound.kept p.whole was.0 was.1 in
        ⊎_elim
        (λ (same : left.1 ≡ was.0).
        let now = kept_opens tells left.0 (content old) m p.sound.memory.books.folds left.1 (subst (IsKept tells (content old) m) (sym same) kept) in
        opens_to (StorePasses (state_of tells (content old) (faults old) m) (Give_next inbound nonsecure)) left.1 (shelf_in left.1 s) now.0
        (Before_it (is_told tells left.0 (content old) (faults old) m (shelf_in left.1 s) now.1)) o left.3)
        (λ (made : GivesUnder (in_name n) folder gives.time gives.under was.0 left.1).
        let now = given_image left.0 was.0 left.1 kept made in
        opens_to (StorePasses (state_of tells (content old) (faults old) m) (Give_next inbound nonsecure)) left.1 (shelf_in left.1 s) now.0
        (After_it (Gave_so (G.Given n)) (given gift gives.time (state_of tells (content old) (faults old) m)) (does (given gift gives.time (state_of tells (content old) (faults old) m)) refl) (told_gift (shelf_in left.1 s) left.0 now.1)) o left.3)
        was.2

    stored_now : tells ≡ true → stored_in (content new) (with_noted n m) ≡ gift_made gift gives.time (stored_after (on_state (Lasting.with_given n)) m.seat [] (stored_in (content old) m))
    stored_now t = stored_given n folder name gives.time bytes m (apart tells content files moment images old m n r p) (content old) (content new) (away t) (has t) p.small

    -- it answers so
    module _ (calm : faults new ≡ faults old) where
      abbrev pub after_gift : Memory
      after_gift = record (with_noted n m) { last_given = n }

      pub given_kept : StoreKept (standing tells content faults moment images old m) (Give_next inbound nonsecure) (Gave_so (G.Given n)) (standing tells content faults moment images new after_gift)
      given_kept = record {
        made = does (state_of tells (content new) (faults new) after_gift)
            (state_given n folder name gives.time bytes m (apart tells content files moment images old m n r p) tells (content old) (content new) (faults old) (faults new) p.small away has calm);
        later = gives.stop.grew.later;
        before = λ k o le left. (left.0, left.1, gives.stop.grew.before k left.1 le left.2, left.3);
        since = since_given;
        now = λ whole o left.
            let was = gives.lasts left.1 left.2 in
            let now = given_image left.0 was.0 left.1 (p.sound.kept p.whole was.0 was.1) was.2 in
            opens_to (IsShelf (state_of tells (content new) (faults new) after_gift).content) left.1 (shelf_in left.1 s) now.0
            (is_told tells left.0 (content new) (faults new) after_gift (shelf_in left.1 s) (now.1 ∙ sym (ap shelf_of (stored_now left.0)))) o left.3;
      }

      bodies : tells ≡ true → HasBodies after_gift (content new)
      bodies t =
          let g = away t in
          let b = p.sound.bodies p.whole t in
          let a = apart tells content files moment images old m n r p in
          record {
            parts = both m.parts b.parts a.parts;
            staged = all_by (λ (x : Put). HasLength (out_name x.number) x.size (content old)) (λ (x : Put). HasLength (out_name x.number) x.size (content new)) (λ x h. (h.0, other_out n folder name gives.time bytes (content old) (content new) g x.number ∙ h.1, h.2)) m.staged b.staged;
            given = all_last (λ k. (content new).own (in_name k) ≡ None) m.given n
                (still_gone m.given (content old) (content new) b.given (λ k among. other_in n folder name gives.time bytes (content old) (content new) g k (λ same. off (sym among ∙ ap (λ (i : ℕ). is_among i m.given) same ∙ a.ungiven))))
                g.gone.here;
          }
        where
          both : (ps : List Part) → AllByRecursion (λ (x : Part). HasLength (in_name x.number) x.have (content old)) ps → AllByRecursion (λ (x : Part). x.number ≢ n) ps → AllByRecursion (λ (x : Part). HasLength (in_name x.number) x.have (content new)) ps
          both [] h other = tt
          both (x ∷ xs) h other = ((h.0.0, other_in n folder name gives.time bytes (content old) (content new) (away t) x.number other.0 ∙ h.0.1, h.0.2), both xs h.1 other.1)

      pub given_sound : IsSound tells content moment images new after_gift
      given_sound = record {
        memory = let is = memory_noted n m there p.sound.memory in record { books = is.books; orderly = is.orderly; parts = is.parts; marked = is.marked; received = is.received; numbers = is.numbers; given = is.given; staged = is.staged; queued = is.queued };
        kept = λ whole c image.
            let was = gives.lasts c image in
            let kept = p.sound.kept p.whole was.0 was.1 in
            record {
              ledger = ledger was.0 c kept (step was.0 c was.2);
              files = λ t. (files_given n folder name gives.time bytes was.0 c (gave_kept tells content files moment images old m n r p folder name gives.time was.0 c kept t (step was.0 c was.2)) s (apart tells content files moment images old m n r p).marks (kept.files t));
              same = λ t. (given_image t was.0 c kept was.2).1 ∙ sym (ap shelf_of (stored_now t));
            };
        bodies = λ whole t. bodies t;
      }
        where
          ledger : (d c : World) → IsKept tells (content old) m d → GivesUnder (in_name n) folder gives.time (Some name) d c → LedgerIs m.books.payloads c
          ledger d c kept g = ledger_stays n folder name gives.time g.bytes d c (gave_away n folder name gives.time d c g) m.books.payloads kept.ledger

    -- the disk failed, and it was given
    module _ (rose : Increased (faults old) (faults new)) where
      abbrev failed : Memory
      failed = record (with_noted n m) { broken = Some (faults new) }

      abbrev passes : Stored → Stored → Type 0
      passes a b =
          StorePasses (state_of tells (content old) (faults old) m) (Give_next inbound nonsecure) (shelf_of b) × Logs m.seat a.log b.log
          × PartsStay (Give_next inbound nonsecure) (state_of tells (content old) (faults old) m).stock a.stock b.stock

      content_failed : TellsOn passes (state_of tells (content old) (faults old) m).content (state_of tells (content new) (faults new) failed).content
      content_failed = go tells (λ t. (
        After_it (Gave_so (G.Given n)) (given gift gives.time (state_of tells (content old) (faults old) m)) (does (given gift gives.time (state_of tells (content old) (faults old) m)) refl) (told_gift (shelf_of (stored_in (content new) failed)) t (ap shelf_of (stored_now t))),
        record { rest = []; grows = sym (append-nil (stored_in (content old) m).log); own = tt },
        λ x loses kept. ap (part_in x.number) (parts_told n folder name gives.time bytes m (apart tells content files moment images old m n r p) (content old) (content new) (away t) (has t)),
      ))
        where
          go : (b : Bool) → (b ≡ true → passes (stored_in (content old) m) (stored_in (content new) failed)) → TellsOn passes (if b then Some (stored_in (content old) m) else None) (if b then Some (stored_in (content new) failed) else None)
          go true is = is refl
          go false is = tt

      pub gift_failed : StoreKept (standing tells content faults moment images old m) (Give_next inbound nonsecure) (Refuses Disk) (standing tells content faults moment images new failed)
      gift_failed = record {
        made = record {
          touches = tt;
          rose = rose;
          counts = refl;
          stock = Stock_after (Gave_so (G.Given n)) (given gift gives.time (state_of tells (content old) (faults old) m)) (does (given gift gives.time (state_of tells (content old) (faults old) m)) refl)
              (ap (λ (x : _). x.state) (sizes_given n folder name gives.time bytes m (apart tells content files moment images old m n r p) tells (content old) (content new) away has));
          parts = λ x there loses. refl;
          content = content_failed;
          seat = refl;
        };
        later = gives.stop.grew.later;
        before = λ k o le left. (left.0, left.1, gives.stop.grew.before k left.1 le left.2, left.3);
        since = since_given;
        now = λ whole. none_some (sym whole);
      }
