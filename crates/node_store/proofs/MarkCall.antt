-- What an open part has becomes its mark.
use Rattle.std.proofs.Common.{◌≡◌, inl, inr, ⊎_elim, ℕ, ◌-◌, List, [], ◌∷◌, ◌++◌, map, Option, Some, None, Ok, Bool, true, false, nat_lt, refl, sym, ◌∙◌, ap, subst, arith}
use Rattle.std.specs.Prelude.{find, option_map, if◌then◌else◌, IsSome}
use Rattle.std.proofs.lemmas.Bool.Decides.{Decides-ltb}
use Rattle.ftn_addr.specs.Counts.{Increased}
use Rattle.disk_model.specs.World.{World}
use Rattle.disk_model.specs.Changes.{Every, Follows, Only}
use Rattle.disk_model.specs.Moments.{Now, Leaves}
use Rattle.ledger_file.specs.Ledger.{ledger_name, LedgerIs}
use Rattle.ledger_rec.specs.Fold.{State, with_mark, fold_step}
use Rattle.ledger_rec.specs.Payloads.{record_in}
use Rattle.ledger_rec.specs.Record.{Mark}
use Rattle.node_model.specs.declared.store.StoreFault.TheVariants.{Disk}
use Rattle.node_model.specs.Durable.{mark_of}
use Rattle.node_model.specs.Stocks.{part_in, part_marked, begins_with, by_part}
use Rattle.node_model.specs.StoreStates.{StoreState, changed, placed}
use Rattle.node_model.specs.Stores.{StoreDoes, StoreKept, Part_mark, Well, Refuses}
use Rattle.node_store.specs.Books.{Books, IsBooks}
use Rattle.node_store.specs.Contents.{Contents, durable_by}
use Rattle.node_store.specs.Logs.{noted}
use Rattle.node_store.specs.Names.{in_name}
use Rattle.node_store.specs.Recording.{IsRecorded, IsSynced, Records}
use Rattle.node_store.specs.Stored.{Part, Memory, told_in, sizes_in, told_parts, part_by, state_of, mark_text, marks_all, all_marked, IsMarking, IsPart, IsMemory, IsSound}
use Rattle.node_store.specs.Tied.{orderly_true, IsDrawn}
use Rattle.node_store.specs.Worlds.{durable_in, HasLength, HasFiles}
use Rattle.node_store.proofs.Calls.{standing}
use Rattle.node_store.proofs.ClosedParts.{has_number}
use Rattle.node_store.proofs.Committed.{memory_broken}
use Rattle.node_store.proofs.Marked.{marks_all_alike, all_marked_alike, memory_set, memory_marked}
use Rattle.node_store.proofs.Marks.{marked_step, files_marked, durable_marked, stock_marked}
use Rattle.node_store.proofs.PartRecord.{IsPartRecord, part_failed, part_recorded, part_sound, broken_sound}
use Rattle.node_store.proofs.PutCall.{all_found, found_of}
use Rattle.node_store.proofs.ReplacedParts.{replaced, all_replaced, same_told}
use Rattle.node_model.proofs.Lists.{some_inj}

module _ (tells : Bool) (told : World) (faults : ℕ) (m : Memory) (q : Part) (is : IsMemory m) (found : find (has_number q.number) m.parts ≡ Some q) where
  part_is : IsPart m.books.folding q
  part_is = (all_found (IsPart m.books.folding) q.number m.parts q is.parts found).0

  -- more than its mark
  abbrev pub ahead : Bool
  ahead = nat_lt (begins_with 0 (mark_of q.from q.key (durable_by (sizes_in tells told m.given) m.books.folding.state))) q.have

  pub found_in : {B : Type 0} (c : Contents B) → part_in q.number (map (part_by c) (told_parts m.drawn m.parts)) ≡ Some (part_by c q)
  found_in c = ap (λ (b : Bool). part_in q.number (map (part_by c) (if b then m.parts else []))) is.orderly ∙ found_of c q.number m.parts ∙ ap (option_map (part_by c)) found

  -- the fold takes a mark of all that it has
  pub mark_follows : ahead ≡ true → fold_step m.books.folding.state (Mark (mark_text q q.have)) ≡ Some (with_mark (mark_text q q.have) m.books.folding.state)
  mark_follows more =
      let drawn = (all_found (IsDrawn m.drawn) q.number m.parts q (orderly_true m.drawn m.parts is.orderly).1 found).0 in
      let some = (Decides-ltb (begins_with 0 (mark_of q.from q.key (durable_by (sizes_in tells told m.given) m.books.folding.state))) q.have).0 more in
      marked_step m.books.folding q part_is drawn.0 (omega (arith, some))

  pub marking : ahead ≡ true → IsMarking m.books.folding.state q
  marking more = record {
    from = part_is.from;
    key = part_is.key;
    next = part_is.next;
    step = subst (λ (o : Option State). IsSome o) (sym (mark_follows more)) refl;
    first = ⊎_elim inl (λ u. inr u.first) part_is.number;
  }

  -- where it has no more than its mark nothing changes
  pub mark_stays : ahead ≡ false → StoreDoes (state_of tells told faults m) (Part_mark q.number) Well (state_of tells told faults m)
  mark_stays no_more = (
    part_by (sizes_in tells told m.given) q,
    found_in (sizes_in tells told m.given),
    let s = state_of tells told faults m in
        let p = part_by (sizes_in tells told m.given) q in
        let more : StoreState = placed (changed (by_part p.number (λ part stock. part_marked part stock)) (by_part p.number (λ part stock. part_marked part stock)) (noted (Mark (mark_text q q.have)) ∷ []) s) in
        sym (ap (λ (b : Bool). if b then more else s) no_more),
  )

-- what a mark is given
pub record IsMarkCall {D : Type 0} (tells : Bool) (content : D → World) (files : D → World → Type 0) (moment : D → ℕ) (images : D → ℕ → World → Type 0) (old new : D) (m : Memory) (q : Part) (payload : List ℕ) : Type 0 where
  pub sound : IsSound tells content moment images old m
  pub whole : m.broken ≡ None
  pub found : find (has_number q.number) m.parts ≡ Some q
  pub more : nat_lt (begins_with 0 (mark_of q.from q.key (durable_by (sizes_in tells (content old) m.given) m.books.folding.state))) q.have ≡ true
  pub reads : (d : D) (w : World) → files d w → (tells ≡ true) × (w ≡ content d)
  pub told : tells ≡ true → (d : D) → files d (content d)
  pub read : Follows (Only ledger_name) (files old) (files new)
  pub run : Leaves moment images (Records (files old) (in_name q.number) m.books.payloads (payload ∷ [])) old new
  pub spells : record_in payload ≡ Ok (Mark (mark_text q q.have))

module _ {D : Type 0} (tells : Bool) (content : D → World) (files : D → World → Type 0) (faults moment : D → ℕ) (images : D → ℕ → World → Type 0) (old new : D) (m : Memory) (q : Part) (payload : List ℕ)
    (p : IsMarkCall tells content files moment images old new m q payload) where
  body : tells ≡ true → HasLength (in_name q.number) q.have (content old)
  body t = (all_found (λ (x : Part). HasLength (in_name x.number) x.have (content old)) q.number m.parts q (p.sound.bodies p.whole t).parts p.found).0

  here : {B : Type 0} (c : Contents B) → part_in q.number (map (part_by c) (told_parts m.drawn m.parts)) ≡ Some (part_by c q)
  here c = found_in tells (content old) (faults old) m q p.sound.memory p.found c

  parts_stay : {B : Type 0} (c : Contents B) → map (part_by c) (told_parts m.drawn (replaced q.number (all_marked q) m.parts)) ≡ map (part_by c) (told_parts m.drawn m.parts)
  parts_stay c = same_told q.number q (all_marked q) (all_marked_alike q) c m.drawn m.parts p.sound.memory.orderly p.found

  parts_set : {B : Type 0} (c : Contents B) → map (part_by c) (told_parts m.drawn (replaced q.number (marks_all q) m.parts)) ≡ map (part_by c) (told_parts m.drawn m.parts)
  parts_set c = same_told q.number q (marks_all q) (marks_all_alike q) c m.drawn m.parts p.sound.memory.orderly p.found

  recording : (b : Books) → IsRecorded payload (Mark (mark_text q q.have)) m.seat m.books b
      → IsPartRecord tells content files moment images old new m b (replaced q.number (all_marked q) m.parts) (in_name q.number) payload (Mark (mark_text q q.have)) (by_part q.number (λ part stock. part_marked part stock)) (by_part q.number (λ part stock. part_marked part stock))
  recording b more =
      let folded : b.folding.state ≡ with_mark (mark_text q q.have) m.books.folding.state = some_inj (sym more.folded ∙ mark_follows tells (content old) (faults old) m q p.sound.memory p.found p.more) in
      record {
        sound = p.sound;
        whole = p.whole;
        reads = p.reads;
        told = p.told;
        read = p.read;
        run = p.run;
        spells = p.spells;
        step = more.folded;
        payloads = more.payloads;
        places = more.places;
        opened = more.opened;
        seats = more.seats;
        takes = ap (λ (s : State). s.takes) folded;
        sizes = stock_marked (sizes_in tells (content old) m.given) m b q (replaced q.number (all_marked q) m.parts) (parts_stay (sizes_in tells (content old) m.given)) (here (sizes_in tells (content old) m.given)) folded;
        bytes = λ t. stock_marked (told_in (content old) m.given) m b q (replaced q.number (all_marked q) m.parts) (parts_stay (told_in (content old) m.given)) (here (told_in (content old) m.given)) folded;
        opens = λ t c has same own.
            let there = body t in
            subst (λ (s : State). HasFiles s c × (durable_in c s ≡ durable_by (told_in (content old) m.given) s)) (sym folded) (
              files_marked m.books.folding.state q c (there.0, own ∙ there.1, there.2) has,
              durable_marked (content old) m.given m.books.folding.state q c there own same,
            );
      }

  would_be : (s : StoreState) → s ≡ placed (changed (by_part q.number (λ part stock. part_marked part stock)) (by_part q.number (λ part stock. part_marked part stock)) (noted (Mark (mark_text q q.have)) ∷ []) (state_of tells (content old) (faults old) m))
      → StoreDoes (state_of tells (content old) (faults old) m) (Part_mark q.number) Well s
  would_be s is = (
    part_by (sizes_in tells (content old) m.given) q,
    here (sizes_in tells (content old) m.given),
    let old_state = state_of tells (content old) (faults old) m in
        let marked : StoreState = placed (changed (by_part q.number (λ part stock. part_marked part stock)) (by_part q.number (λ part stock. part_marked part stock)) (noted (Mark (mark_text q q.have)) ∷ []) old_state) in
        is ∙ sym (ap (λ (b : Bool). if b then marked else old_state) p.more),
  )

  -- the books that a mark would leave
  abbrev would_books : Books
  would_books = record {
    payloads = m.books.payloads ++ payload ∷ [];
    reserved = m.books.reserved - 1;
    opened = m.books.opened;
    seats = m.books.seats ++ m.seat ∷ [];
    folding = record m.books.folding { state = with_mark (mark_text q q.have) m.books.folding.state };
  }

  would_record : IsRecorded payload (Mark (mark_text q q.have)) m.seat m.books would_books
  would_record = record { payloads = refl; places = refl; opened = refl; seats = refl; folded = mark_follows tells (content old) (faults old) m q p.sound.memory p.found p.more; holds = refl }

  -- the disk failed
  pub mark_failed : Increased (faults old) (faults new)
      → StoreKept (standing tells content faults moment images old m) (Part_mark q.number) (Refuses Disk) (standing tells content faults moment images new (record m { parts = replaced q.number (marks_all q) m.parts; broken = Some (faults new) }))
  mark_failed rose =
      part_failed tells content files faults moment images old new m would_books (replaced q.number (all_marked q) m.parts) (in_name q.number) payload (Mark (mark_text q q.have)) (by_part q.number (λ part stock. part_marked part stock)) (by_part q.number (λ part stock. part_marked part stock))
      (recording would_books would_record) (Part_mark q.number) would_be (replaced q.number (marks_all q) m.parts) tt rose
      (λ x loses. ap (part_in x.number) (parts_set (sizes_in tells (content old) m.given))) (λ t x loses. ap (part_in x.number) (parts_set (told_in (content old) m.given)))

  pub failed_mark_sound : (count : ℕ) → IsSound tells content moment images new (record m { parts = replaced q.number (marks_all q) m.parts; broken = Some count })
  failed_mark_sound count =
      broken_sound tells content moment images new (record m { parts = replaced q.number (marks_all q) m.parts; broken = Some count }) count refl
      (memory_broken (record m { parts = replaced q.number (marks_all q) m.parts }) count (memory_set m q p.sound.memory p.found))

  -- the mark is durable
  module _ (b : Books) (more : IsRecorded payload (Mark (mark_text q q.have)) m.seat m.books b) (calm : faults new ≡ faults old) (durable : Every (Now moment images new) (LedgerIs b.payloads)) (synced : Every (Now moment images new) (IsSynced (files old) (in_name q.number))) where
    pub mark_kept : StoreKept (standing tells content faults moment images old m) (Part_mark q.number) Well (standing tells content faults moment images new (record m { books = b; parts = replaced q.number (all_marked q) m.parts }))
    mark_kept =
        part_recorded tells content files faults moment images old new m b (replaced q.number (all_marked q) m.parts) (in_name q.number) payload (Mark (mark_text q q.have)) (by_part q.number (λ part stock. part_marked part stock)) (by_part q.number (λ part stock. part_marked part stock))
        (recording b more) (Part_mark q.number) would_be calm durable synced

    pub mark_sound : IsBooks b → IsSound tells content moment images new (record m { books = b; parts = replaced q.number (all_marked q) m.parts })
    mark_sound books =
        let folded : b.folding.state ≡ with_mark (mark_text q q.have) m.books.folding.state = some_inj (sym more.folded ∙ mark_follows tells (content old) (faults old) m q p.sound.memory p.found p.more) in
        part_sound tells content files faults moment images old new m b (replaced q.number (all_marked q) m.parts) (in_name q.number) payload (Mark (mark_text q q.have)) (by_part q.number (λ part stock. part_marked part stock)) (by_part q.number (λ part stock. part_marked part stock))
        (recording b more) (Part_mark q.number) would_be calm durable synced (memory_marked m q p.sound.memory p.found b books folded more.holds)
        (λ t. all_replaced q.number q (all_marked q) (all_marked_alike q) (λ (x : Part). HasLength (in_name x.number) x.have (content old)) (λ (x : Part). HasLength (in_name x.number) x.have (content old)) (λ x has apart. has) (body t) m.parts (orderly_true m.drawn m.parts p.sound.memory.orderly).0 p.found (p.sound.bodies p.whole t).parts)
