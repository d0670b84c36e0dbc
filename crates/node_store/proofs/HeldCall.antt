-- A received file wasn't given: both its names are in use, or the disk failed.
use Rattle.std.proofs.Common.{◌≡◌, inl, inr, ⊎_elim, ℕ, List, [], ◌∷◌, ◌++◌, map, Option, Some, None, Result, Ok, Bool, true, false, ◌&&◌, refl, sym, ◌∙◌, ap, subst, append-nil}
use Rattle.std.specs.Prelude.{is_some, IfOk, IsSome, if◌then◌else◌}
use Rattle.std.specs.List.{AllByRecursion}
use Rattle.std.proofs.lemmas.Bool.{cases_eq}
use Rattle.ftn_addr.specs.Counts.{Increased}
use Rattle.ftn_addr.specs.declared.refusals.Failed.{Failed}
use Rattle.disk_model.specs.World.{World}
use Rattle.disk_model.specs.Changes.{Every}
use Rattle.disk_model.specs.declared.answers.Giving.{Giving}
use Rattle.disk_model.specs.declared.answers.Giving.TheVariants.{Given, Taken}
use Rattle.ledger_rec.specs.Fold.{is_among}
use Rattle.ledger_rec.specs.Items.{Receipt}
use Rattle.node_model.specs.declared.store.Gave.TheVariants as G
use Rattle.node_model.specs.declared.store.StoreFault.TheVariants.{Disk}
use Rattle.node_model.specs.Calls.{Logs}
use Rattle.node_model.specs.Durable as Lasting
use Rattle.node_model.specs.Giving.{IsGift, given}
use Rattle.node_model.specs.Items as N
use Rattle.node_model.specs.Outside.{Gift, BothInUse, inbound_for, plain_name, numbered_name}
use Rattle.node_model.specs.Stocks.{sizes, part_in}
use Rattle.node_model.specs.StoreStates.{Stored, StoreState, shelf_of, IfTold}
use Rattle.node_model.specs.Stores.{StoreKept, StorePasses, Before_it, Stock_before, Stock_after, StockPasses, TellsOn, PartsStay, Give_next, Gave_so, Refuses}
use Rattle.node_model.proofs.Lists.{off}
use Rattle.node_store.specs.Contents.{receipt_by, durable_by}
use Rattle.node_store.specs.Gifts.{IsTaken, AnswerSays, GivesUnder, MayGive, GivesAs}
use Rattle.node_store.specs.Names.{in_name}
use Rattle.node_store.specs.Outlines.{told_outline}
use Rattle.node_store.specs.Stored.{Memory, front_of, told_in, sizes_in, stock_by, stored_in, state_of, IsKept, HasBodies, IsSound}
use Rattle.node_store.specs.Worlds.{bytes_of, or_else, gift_of, is_absent, HasNoOther, HasFiles}
use Rattle.node_store.proofs.AppendTold.{broken_sound}
use Rattle.node_store.proofs.Calls.{standing, is_told}
use Rattle.node_store.proofs.GiftCall.{memory_noted, there, given_kept, given_sound, gift_failed}
use Rattle.node_store.proofs.GiftTold.{with_noted, among_here, among_other, untold}
use Rattle.node_store.proofs.GiveCall.{IsNext, files_there, next_is, ungiven, body, both_used}
use Rattle.node_store.proofs.Quiet.{retold}
use Rattle.node_store.proofs.ReadCall.{if_told, unchanged}
use Rattle.node_store.proofs.StageCall.{run_now, quiet_run}
use Rattle.node_store.proofs.TellAlike.{front_whole}

-- A receipt more that may have been given, whose file stands, tells the same.
module _ (n : ℕ) (w : World) (bytes : List ℕ) (own : w.own (in_name n) ≡ Some bytes) (given : List ℕ) (listed : is_among n given ≡ false) where
  noted_receipt : (r : Receipt) → HasNoOther (in_name r.number) r.key.size w → receipt_by (told_in w (given ++ n ∷ [])) r ≡ receipt_by (told_in w given) r
  noted_receipt r other = elim (cases_eq r.number n) [
    | inl same ↦
        let stands : w.own (in_name r.number) ≡ Some bytes = ap (λ (k : ℕ). w.own (in_name k)) same ∙ own in
        let none : is_among r.number given ≡ false = ap (λ (k : ℕ). is_among k given) same ∙ listed in
        let received : (if is_among r.number (given ++ n ∷ []) then or_else (w.own (in_name r.number)) (gift_of (in_name r.number) r.key.size w.gifts) else Some (front_of r.key.size (bytes_of (w.own (in_name r.number)))))
        ≡ (if is_among r.number given then or_else (w.own (in_name r.number)) (gift_of (in_name r.number) r.key.size w.gifts) else Some (front_of r.key.size (bytes_of (w.own (in_name r.number))))) =
        ap (λ (b : Bool). if b then or_else (w.own (in_name r.number)) (gift_of (in_name r.number) r.key.size w.gifts) else Some (front_of r.key.size (bytes_of (w.own (in_name r.number))))) (among_here n r.number given same)
        ∙ ap (λ (o : Option (List ℕ)). or_else o (gift_of (in_name r.number) r.key.size w.gifts)) stands
        ∙ sym (
        ap (λ (b : Bool). if b then or_else (w.own (in_name r.number)) (gift_of (in_name r.number) r.key.size w.gifts) else Some (front_of r.key.size (bytes_of (w.own (in_name r.number))))) none
        ∙ ap (λ (o : Option (List ℕ)). Some (front_of r.key.size (bytes_of o))) stands ∙ ap Some (front_whole r.key.size bytes (other bytes stands))) in
        let flag : (is_absent (w.own (in_name r.number)) && is_among r.number (given ++ n ∷ [])) ≡ (is_absent (w.own (in_name r.number)) && is_among r.number given) =
        ap (λ (o : Option (List ℕ)). is_absent o && is_among r.number (given ++ n ∷ [])) stands ∙ sym (ap (λ (o : Option (List ℕ)). is_absent o && is_among r.number given) stands) in
        λ i. record { number = r.number; from = r.from; key = r.key; bytes = received i; secure = r.secure; answered = r.answered; given = flag i }
    | inr apart ↦
        let among = among_other n r.number given apart in
        λ i. record { number = r.number; from = r.from; key = r.key; bytes = if among i then or_else (w.own (in_name r.number)) (gift_of (in_name r.number) r.key.size w.gifts) else Some (front_of r.key.size (bytes_of (w.own (in_name r.number)))); secure = r.secure; answered = r.answered; given = is_absent (w.own (in_name r.number)) && among i }
  ]

  noted_receipts : (rs : List Receipt) → AllByRecursion (λ (r : Receipt). HasNoOther (in_name r.number) r.key.size w) rs → map (receipt_by (told_in w (given ++ n ∷ []))) rs ≡ map (receipt_by (told_in w given)) rs
  noted_receipts [] other = refl
  noted_receipts (r ∷ rs) other = λ i. noted_receipt r other.0 i ∷ noted_receipts rs other.1 i

  noted_stock : (m : Memory) → HasFiles m.books.folding.state w → stock_by (told_in w (given ++ n ∷ [])) m ≡ stock_by (told_in w given) m
  noted_stock m has = ap (λ (l : List N.Receipt). record (stock_by (told_in w given) m) { state = record (durable_by (told_in w given) m.books.folding.state) { inbox = l } }) (noted_receipts m.books.folding.state.inbox has.received)

module _ {D : Type 0} (tells : Bool) (content : D → World) (files : D → World → Type 0) (faults moment : D → ℕ) (images : D → ℕ → World → Type 0) (old new : D) (m : Memory) (n : ℕ) (r : Receipt) (inbound nonsecure : List ℕ) (result : Result Giving Failed)
    (p : IsNext tells content files moment images old m n r) (gives : GivesAs files moment images result (in_name n) (inbound_for r.secure inbound nonsecure) (plain_name r.key.name) (numbered_name n r.key.name) old new) where
  abbrev folder : List ℕ
  folder = inbound_for r.secure inbound nonsecure

  module _ (under : gives.under ≡ None) where
    none : (d c : World) → GivesUnder (in_name n) folder gives.time gives.under d c → c ≡ d
    none d c made = subst (λ (u : Option (List ℕ)). GivesUnder (in_name n) folder gives.time u d c) under made

    same : tells ≡ true → content new ≡ content old
    same t = let was = gives.read (content new) (p.told t new) in none was.0 (content new) was.2 ∙ (p.reads old was.0 was.1).1

    same_shelf : tells ≡ true → shelf_of (stored_in (content new) m) ≡ shelf_of (stored_in (content old) m)
    same_shelf t = ap (λ (w : World). shelf_of (stored_in w m)) (same t)

    stays : (d c : World) → IsKept tells (content old) m d → MayGive (in_name n) folder gives.time gives.under d c → IsKept tells (content old) m c
    stays d c kept made = subst (IsKept tells (content old) m) (sym (⊎_elim (λ (e : c ≡ d). e) (λ (u : GivesUnder (in_name n) folder gives.time gives.under d c). none d c u) made)) kept

    -- both names are in use
    abbrev pub after_hold : Memory
    after_hold = record m { last_given = n }

    pub held_kept : faults new ≡ faults old → Every (files old) (λ w. IsTaken folder (plain_name r.key.name) w × IsTaken folder (numbered_name n r.key.name) w)
        → StoreKept (standing tells content faults moment images old m) (Give_next inbound nonsecure) (Gave_so (G.Held n)) (standing tells content faults moment images new after_hold)
    held_kept calm used =
        quiet_run tells content faults moment images (MayGive (in_name n) folder gives.time gives.under) old new m after_hold p.sound p.whole stays gives.stop (Give_next inbound nonsecure) (Gave_so (G.Held n)) same_shelf (record {
          next = p.next;
          told = if_told tells (stored_in (content old) m) (λ s. BothInUse (inbound_for p.next.receipt.secure inbound nonsecure) n p.next.receipt.key.name s.outside) (λ t.
              subst (λ (y : N.ReceiptOf ℕ). BothInUse (inbound_for y.secure inbound nonsecure) n y.key.name (stored_in (content old) m).outside) (sym (next_is tells content files moment images old m n r p))
              (subst (λ (y : N.ReceiptOf ℕ). BothInUse folder n y.key.name (stored_in (content old) m).outside) (next_is tells content files moment images old m n r p) (both_used tells content files moment images old m n r p folder used t)));
          after = ap (λ (s : StoreState). record s { last_given = n }) (unchanged tells (content old) (content new) (faults old) (faults new) m same calm);
        })

    pub held_sound : IsSound tells content moment images new after_hold
    held_sound = record {
      memory = let is = p.sound.memory in record { books = is.books; orderly = is.orderly; parts = is.parts; marked = is.marked; received = is.received; numbers = is.numbers; given = is.given; staged = is.staged; queued = is.queued };
      kept = λ still w image.
          retold tells (content old) (content new) m after_hold refl same_shelf w
          (run_now tells content faults moment images (MayGive (in_name n) folder gives.time gives.under) old new m m p.sound p.whole stays gives.stop w image);
      bodies = λ still t. let b = subst (HasBodies m) (sym (same t)) (p.sound.bodies p.whole t) in record { parts = b.parts; staged = b.staged; given = b.given };
    }

    -- the disk failed, and nothing changed
    module _ (rose : Increased (faults old) (faults new)) where
      abbrev failed : Memory
      failed = record (with_noted n m) { broken = Some (faults new) }

      noted : (t : tells ≡ true) → stock_by (told_in (content new) (m.given ++ n ∷ [])) m ≡ stock_by (told_in (content old) m.given) m
      noted t =
          let b = body tells content files moment images old m n r p t in
          ap (λ (w : World). stock_by (told_in w (m.given ++ n ∷ [])) m) (same t)
          ∙ noted_stock n (content old) b.0 b.1 m.given (ungiven tells content files moment images old m n r p) m (files_there tells content files moment images old m n r p t)

      stored_failed : (t : tells ≡ true) → stored_in (content new) failed ≡ stored_in (content old) m
      stored_failed t =
          ap (λ (x : _). record (stored_in (content new) m) { stock = x }) (noted t) ∙ ap (λ (w : World). record (stored_in w m) { stock = (stored_in (content old) m).stock }) (same t)

      sizes_same : (b : Bool) → b ≡ true → ((t : b ≡ true) → stock_by (told_in (content new) (m.given ++ n ∷ [])) m ≡ stock_by (told_in (content old) m.given) m)
          → stock_by (sizes_in b (content new) (m.given ++ n ∷ [])) m ≡ stock_by (sizes_in b (content old) m.given) m
      sizes_same true t is = told_outline (content new) (with_noted n m) ∙ ap sizes (is refl) ∙ sym (told_outline (content old) m)
      sizes_same false t is = off (sym t)

      -- of a disk that doesn't tell, some gift
      abbrev some_gift : Gift
      some_gift = record { receipt = n; folder = folder; name = []; bytes = [] }

      untold_gift : (b : Bool) → b ≡ false → IfTold (state_of b (content old) (faults old) m).content (IsGift p.next.receipt folder some_gift)
      untold_gift true f = off f
      untold_gift false f = tt

      passes_stock : (b : Bool) → tells ≡ b → StockPasses (state_of tells (content old) (faults old) m) (Give_next inbound nonsecure) (stock_by (sizes_in tells (content new) (m.given ++ n ∷ [])) m)
      passes_stock true t = Stock_before (ap (λ (x : _). x.state) (sizes_same tells t noted))
      passes_stock false f = Stock_after (Gave_so (G.Given n)) (given some_gift 0 (state_of tells (content old) (faults old) m))
          (record {
            next = p.next;
            gift = some_gift;
            time = 0;
            receipt = refl;
            folder = ap (λ (y : N.ReceiptOf ℕ). inbound_for y.secure inbound nonsecure) (sym (next_is tells content files moment images old m n r p));
            told = untold_gift tells f;
            after = refl;
          })
          (subst (λ (b : Bool). durable_by (sizes_in b (content new) (m.given ++ n ∷ [])) m.books.folding.state ≡ Lasting.with_given n (durable_by (sizes_in b (content old) m.given) m.books.folding.state)) (sym f)
          (untold n (content old) (content new) m.given m.books.folding.state))

      abbrev passes : Stored → Stored → Type 0
      passes a b =
          StorePasses (state_of tells (content old) (faults old) m) (Give_next inbound nonsecure) (shelf_of b) × Logs m.seat a.log b.log
          × PartsStay (Give_next inbound nonsecure) (state_of tells (content old) (faults old) m).stock a.stock b.stock

      content_failed : TellsOn passes (state_of tells (content old) (faults old) m).content (state_of tells (content new) (faults new) failed).content
      content_failed = go tells (λ t. (
        Before_it (is_told tells t (content old) (faults old) m (shelf_of (stored_in (content new) failed)) (ap shelf_of (stored_failed t))),
        record { rest = []; grows = sym (append-nil (stored_in (content old) m).log); own = tt },
        λ x there loses. ap (λ (s : Stored). part_in x.number s.stock.parts) (stored_failed t),
      ))
        where
          go : (b : Bool) → (b ≡ true → passes (stored_in (content old) m) (stored_in (content new) failed)) → TellsOn passes (if b then Some (stored_in (content old) m) else None) (if b then Some (stored_in (content new) failed) else None)
          go true is = is refl
          go false is = tt

      none_failed : StoreKept (standing tells content faults moment images old m) (Give_next inbound nonsecure) (Refuses Disk) (standing tells content faults moment images new failed)
      none_failed =
          quiet_run tells content faults moment images (MayGive (in_name n) folder gives.time gives.under) old new m failed p.sound p.whole stays gives.stop (Give_next inbound nonsecure) (Refuses Disk)
          (λ t. ap shelf_of (stored_failed t))
          (record {
            touches = tt;
            rose = rose;
            counts = refl;
            stock = passes_stock tells refl;
            parts = λ x there loses. refl;
            content = content_failed;
            seat = refl;
          })

  -- the disk failed, whether it was given or not
  pub give_failed : Increased (faults old) (faults new) → StoreKept (standing tells content faults moment images old m) (Give_next inbound nonsecure) (Refuses Disk) (standing tells content faults moment images new (record (with_noted n m) { broken = Some (faults new) }))
  give_failed rose = go gives.under refl
    where
      go : (o : Option (List ℕ)) → gives.under ≡ o → StoreKept (standing tells content faults moment images old m) (Give_next inbound nonsecure) (Refuses Disk) (standing tells content faults moment images new (record (with_noted n m) { broken = Some (faults new) }))
      go None is = none_failed is rose
      go (Some name) is = gift_failed tells content files faults moment images old new m n r inbound nonsecure result p gives name is rose

  -- it answers that it was given, or that both its names are in use
  pub given_answer : result ≡ Ok Given → faults new ≡ faults old
      → StoreKept (standing tells content faults moment images old m) (Give_next inbound nonsecure) (Gave_so (G.Given n)) (standing tells content faults moment images new (record (with_noted n m) { last_given = n }))
      × IsSound tells content moment images new (record (with_noted n m) { last_given = n })
  given_answer is calm =
      go gives.under refl (subst (λ (x : Result Giving Failed). IfOk x (λ giving. AnswerSays (files old) folder (plain_name r.key.name) (numbered_name n r.key.name) giving gives.under)) is gives.answered)
    where
      go : (o : Option (List ℕ)) → gives.under ≡ o → IsSome gives.under
          → StoreKept (standing tells content faults moment images old m) (Give_next inbound nonsecure) (Gave_so (G.Given n)) (standing tells content faults moment images new (record (with_noted n m) { last_given = n }))
          × IsSound tells content moment images new (record (with_noted n m) { last_given = n })
      go None under some = off (sym some ∙ ap is_some under)
      go (Some name) under some = (
        given_kept tells content files faults moment images old new m n r inbound nonsecure result p gives name under calm,
        given_sound tells content files faults moment images old new m n r inbound nonsecure result p gives name under calm,
      )

  pub held_answer : result ≡ Ok Taken → faults new ≡ faults old
      → StoreKept (standing tells content faults moment images old m) (Give_next inbound nonsecure) (Gave_so (G.Held n)) (standing tells content faults moment images new (record m { last_given = n }))
      × IsSound tells content moment images new (record m { last_given = n })
  held_answer is calm =
      let says = subst (λ (x : Result Giving Failed). IfOk x (λ giving. AnswerSays (files old) folder (plain_name r.key.name) (numbered_name n r.key.name) giving gives.under)) is gives.answered in
      (held_kept says.0 calm says.1, held_sound says.0)

  pub failed_sound : IsSound tells content moment images new (record (with_noted n m) { broken = Some (faults new) })
  failed_sound = broken_sound tells content moment images new (with_noted n m) (faults new) (memory_noted n m (there tells content files faults moment images old new m n r inbound nonsecure result p gives) p.sound.memory)
