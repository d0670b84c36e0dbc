-- Staging a file: an own file that no entry has yet is written.
use Rattle.std.proofs.Common.{◌≡◌, ◌≢◌, ℕ, ◌+◌, ◌<◌, ◌≤◌, List, [], ◌∷◌, ◌++◌, length, map, Option, Some, None, Bool, true, false, refl, sym, ◌∙◌, ap, arith, append-nil, add-zero}
use Rattle.std.specs.Prelude.{option_map, if◌then◌else◌}
use Rattle.std.specs.List.{AllByRecursion}
use Rattle.disk_model.specs.World as W
use Rattle.disk_model.specs.World.{World}
use Rattle.disk_model.specs.Changes.{Every, Only}
use Rattle.disk_model.specs.Moments.{Now, Leaves}
use Rattle.ftn_addr.specs.Counts.{Increased}
use Rattle.ledger_file.specs.Ledger.{ledger_name, LedgerIs}
use Rattle.ledger_rec.specs.Fold.{State}
use Rattle.ledger_rec.specs.Items.{Entry, Receipt, PartMark}
use Rattle.node_model.specs.declared.store.StoreFault.TheVariants.{Disk}
use Rattle.node_model.specs.Stocks.{file_staged}
use Rattle.node_model.specs.StoreStates.{Stored, shelf_of, stored_after}
use Rattle.node_model.specs.Stores.{StoreCall, StoreAnswer, StoreMade, StoreKept, StorePasses, Before_it, Stage, Staged_as, Refuses, OpensShelf, IsShelf, with_staged}
use Rattle.node_store.specs.Contents.{Contents}
use Rattle.node_store.specs.Names.{in_name, out_name}
use Rattle.node_store.specs.Stored.{Part, Put, Memory, front_of, told_in, sizes_in, told_parts, part_by, staged_by, stock_by, stored_in, state_of, IsPut, IsMemory, IsKept, HasBodies, IsSound}
use Rattle.node_store.specs.Worlds.{bytes_of, outside_in, gift_told, shelf_in, HasLength, HasFiles}
use Rattle.node_store.proofs.Alike.{AreAlike, SameFront, out_no_take, one_alike, takes_alike, all_of, all_by}
use Rattle.node_store.proofs.AppendTold.{breaks_same}
use Rattle.node_store.proofs.Calls.{standing, is_told, kept_opens, settled}
use Rattle.node_store.proofs.GivenFiles.{still_gone}
use Rattle.node_store.proofs.Listed.{all_last}
use Rattle.node_store.proofs.Mirrors.{map-append}
use Rattle.node_store.proofs.NameLaws.{one_out_name, in_not_out, out_not_ledger}
use Rattle.node_store.proofs.Openings.{opens_to, opens_weaker}
use Rattle.node_store.proofs.Puts.{same_sizes}
use Rattle.node_store.proofs.Quiet.{IsQuiet, quiet_kept, retold}
use Rattle.node_store.proofs.TellAlike.{front_whole, durable_told}

-- Many calls of the disk that leave what is told.
module _ {D : Type 0} (tells : Bool) (content : D → World) (faults moment : D → ℕ) (images : D → ℕ → World → Type 0) (step : World → World → Type 0) (old new : D) (m m' : Memory) (sound : IsSound tells content moment images old m) (whole : m.broken ≡ None)
    (stays : (d c : World) → IsKept tells (content old) m d → step d c → IsKept tells (content old) m c) (run : Leaves moment images step old new) where
  kept_at : (k : ℕ) (w : World) → moment old ≤ k → k ≤ moment new → images new k w → IsKept tells (content old) m w
  kept_at k w from to image = let was = run.each k w from to image in stays was.0 w (sound.kept whole was.0 was.1) was.2

  pub run_now : Every (Now moment images new) (IsKept tells (content old) m)
  run_now w image = kept_at (moment new) w run.grew.later (omega arith) image

  pub quiet_run : (asked : StoreCall) (answer : StoreAnswer) → (tells ≡ true → shelf_of (stored_in (content new) m') ≡ shelf_of (stored_in (content old) m))
      → StoreMade (state_of tells (content old) (faults old) m) asked answer (state_of tells (content new) (faults new) m')
      → StoreKept (standing tells content faults moment images old m) asked answer (standing tells content faults moment images new m')
  quiet_run asked answer same made = record {
    made = made;
    later = run.grew.later;
    before = λ k o le left. (left.0, left.1, run.grew.before k left.1 le left.2, left.3);
    since = λ k o from to left.
        let now = kept_opens tells left.0 (content old) m sound.memory.books.folds left.1 (kept_at k left.1 (omega (arith, from)) to left.2) in
        opens_to (StorePasses (state_of tells (content old) (faults old) m) asked) left.1 (shelf_in left.1 m.books.folding.state) now.0
        (Before_it (is_told tells left.0 (content old) (faults old) m (shelf_in left.1 m.books.folding.state) now.1)) o left.3;
    now = λ still o left.
        opens_weaker (λ d. d ≡ shelf_of (stored_in (content old) m)) (IsShelf (state_of tells (content new) (faults new) m').content)
        (λ d is. is_told tells left.0 (content new) (faults new) m' d (is ∙ sym (same left.0))) o
        (settled tells content faults moment images new (content old) m sound.memory.books.folds run_now o left);
  }

-- Where only the file of a number changed that no entry and no staged file has.
module _ (number : ℕ) (d c : World) (only : Only (out_name number) d c) where
  other_name : (k : ℕ) → k < number → out_name k ≢ out_name number
  other_name k lower same = let e = one_out_name k number same in omega (arith, lower, e)

  pub beside_alike : (last : ℕ) (s : State) → last < number → AllByRecursion (λ (e : Entry). e.number ≤ last) s.queue → AreAlike s d c
  beside_alike last s above queued =
      one_alike (out_name number) (out_no_take number) d c only.others s
      (all_by (λ (e : Entry). e.number ≤ last) (λ (e : Entry). e.live ≡ true → out_name e.number ≢ out_name number) (λ e low live. other_name e.number (omega (arith, low, above))) s.queue queued)
      (all_of (λ (r : Receipt). in_name r.number ≢ out_name number) (λ r. in_not_out r.number number) s.inbox)
      (all_of (λ (k : PartMark). SameFront (in_name k.number) k.len d c) (λ k b is long. (b, only.others (in_name k.number) (in_not_out k.number number) ∙ is, refl)) s.marks)
      only.outside only.gifts

  parts_beside : (given : List ℕ) (ps : List Part) → map (part_by (told_in c given)) ps ≡ map (part_by (told_in d given)) ps
  parts_beside given [] = refl
  parts_beside given (p ∷ ps) = λ i.
      record { number = p.number; from = p.from; key = p.key; bytes = front_of p.have (bytes_of (only.others (in_name p.number) (in_not_out p.number number) i)) } ∷ parts_beside given ps i

  staged_beside : (given : List ℕ) (last : ℕ) (s : State) (ps : List Put) → last < number → AllByRecursion (IsPut last s) ps → map (staged_by (told_in c given)) ps ≡ map (staged_by (told_in d given)) ps
  staged_beside given last s [] above all = refl
  staged_beside given last s (p ∷ ps) above all =
      let low = all.0.drawn in
      let own = only.others (out_name p.number) (other_name p.number (omega (arith, low, above))) in
      let rest = staged_beside given last s ps above all.1 in
      λ i. record { number = p.number; content = front_of p.size (bytes_of (own i)) } ∷ rest i

  pub stored_beside : (m : Memory) → m.last_staged < number → IsMemory m → HasFiles m.books.folding.state d → stored_in c m ≡ stored_in d m
  stored_beside m above is has =
      let alike = beside_alike m.last_staged m.books.folding.state above is.queued in
      let state = durable_told m.given d c m.books.folding.state has alike in
      let takes = takes_alike d c alike.takes in
      let outside = ap (λ (f : List ℕ → Option W.OutFile). outside_in (record d { outside = f })) only.outside in
      let staged = staged_beside m.given m.last_staged m.books.folding.state m.staged above is.staged in
      λ i. record {
        stock = record { state = state i; parts = parts_beside m.given (told_parts m.drawn m.parts) i; staged = staged i };
        recorded = m.books.folding.state.takes;
        takes = takes i;
        outside = outside i;
        gifts = map gift_told (only.gifts i);
        log = (stored_in d m).log;
      }

-- what such a call is given
pub record IsStaging {D : Type 0} (tells : Bool) (content : D → World) (moment : D → ℕ) (images : D → ℕ → World → Type 0) (old new : D) (m : Memory) (number : ℕ) : Type 0 where
  pub sound : IsSound tells content moment images old m
  pub whole : m.broken ≡ None
  pub next : number ≡ m.last_staged + 1
  pub files : tells ≡ true → HasFiles m.books.folding.state (content old)
  pub only : tells ≡ true → Only (out_name number) (content old) (content new)
  pub run : Leaves moment images (Only (out_name number)) old new

module _ {D : Type 0} (tells : Bool) (content : D → World) (faults moment : D → ℕ) (images : D → ℕ → World → Type 0) (old new : D) (m : Memory) (number : ℕ) (p : IsStaging tells content moment images old new m number) where
  above : m.last_staged < number
  above = let n = p.next in omega (arith, n)

  same_stored : tells ≡ true → stored_in (content new) m ≡ stored_in (content old) m
  same_stored t = stored_beside number (content old) (content new) (p.only t) m above p.sound.memory (p.files t)

  stays : (d c : World) → IsKept tells (content old) m d → Only (out_name number) d c → IsKept tells (content old) m c
  stays = quiet_kept tells (content old) m (Only (out_name number)) ledger quiet
    where
      ledger : (d c : World) → LedgerIs m.books.payloads d → Only (out_name number) d c → LedgerIs m.books.payloads c
      ledger d c l step = (l.0, step.others ledger_name (λ same. out_not_ledger number (sym same)) ∙ l.1, l.2)

      quiet : tells ≡ true → IsQuiet (Only (out_name number)) m.books.payloads m.books.folding.state
      quiet t d c l has step = (ledger d c l step, beside_alike number d c step m.last_staged m.books.folding.state above p.sound.memory.queued)

  -- the disk failed
  pub stage_failed : (asked : StoreCall) → Rattle.node_model.specs.Stores.TouchesDisk asked → Increased (faults old) (faults new)
      → StoreKept (standing tells content faults moment images old m) asked (Refuses Disk) (standing tells content faults moment images new (record m { broken = Some (faults new) }))
  stage_failed asked touches rose =
      quiet_run tells content faults moment images (Only (out_name number)) old new m (record m { broken = Some (faults new) }) p.sound p.whole stays p.run asked (Refuses Disk)
      (λ t. ap shelf_of (same_stored t))
      (breaks_same tells (content old) (content new) (faults old) (faults new) m asked touches rose same_stored (λ t. (p.only t).gifts) (λ t n among. (p.only t).others (in_name n) (in_not_out n number)))

  -- nothing is staged, and the same is told
  pub stage_none : (asked : StoreCall) (answer : StoreAnswer) → StoreMade (state_of tells (content old) (faults old) m) asked answer (state_of tells (content new) (faults new) m)
      → StoreKept (standing tells content faults moment images old m) asked answer (standing tells content faults moment images new m)
  stage_none asked answer made =
      quiet_run tells content faults moment images (Only (out_name number)) old new m m p.sound p.whole stays p.run asked answer (λ t. ap shelf_of (same_stored t)) made

  pub none_told : faults new ≡ faults old → state_of tells (content new) (faults new) m ≡ state_of tells (content old) (faults old) m
  none_told calm =
      let sized = same_sizes tells (content old) (content new) m.given (λ t. (p.only t).gifts) (λ t n among. (p.only t).others (in_name n) (in_not_out n number)) in
      let content_now = go tells same_stored in
      λ i. record (state_of tells (content old) (faults old) m) {
        content = content_now i;
        stock = stock_by (sized i) m;
        counts = record { faults = calm i; fulls = m.fulls; broken = m.broken };
      }
    where
      go : (b : Bool) → (b ≡ true → stored_in (content new) m ≡ stored_in (content old) m) → (if b then Some (stored_in (content new) m) else None) ≡ (if b then Some (stored_in (content old) m) else None)
      go true is = ap Some (is refl)
      go false is = refl

  -- the file is staged
  module _ (bytes : List ℕ) (size : ℕ) (long : size ≡ length bytes) (written : tells ≡ true → (content new).own (out_name number) ≡ Some bytes) (calm : faults new ≡ faults old) where
    abbrev pub after_stage : Memory
    after_stage = record m { staged = m.staged ++ record { number = number; size = size } ∷ []; last_staged = number }

    stored_staged : tells ≡ true → stored_in (content new) after_stage ≡ stored_after (file_staged (m.last_staged + 1) bytes) m.seat [] (stored_in (content old) m)
    stored_staged t =
        let same = same_stored t in
        let content_is : front_of size (bytes_of ((content new).own (out_name number))) ≡ bytes =
        ap (λ (f : Option (List ℕ)). front_of size (bytes_of f)) (written t) ∙ front_whole size bytes (sym long) in
        let staged = map-append (staged_by (told_in (content new) m.given)) m.staged (record { number = number; size = size } ∷ []) in
        let log = sym (append-nil (stored_in (content new) m).log) in
        (λ i. record (stored_in (content new) m) { stock = record (stored_in (content new) m).stock { staged = staged i } })
        ∙ (λ i. record (stored_in (content new) m) { stock = record (stored_in (content new) m).stock { staged = (stored_in (content new) m).stock.staged ++ record { number = p.next i; content = content_is i } ∷ [] }; log = log i })
        ∙ ap (λ (a : Stored). stored_after (file_staged (m.last_staged + 1) bytes) m.seat [] a) same

    pub staged_told : state_of tells (content new) (faults new) after_stage ≡ with_staged bytes (state_of tells (content old) (faults old) m)
    staged_told =
        let sized = same_sizes tells (content old) (content new) m.given (λ t. (p.only t).gifts) (λ t n among. (p.only t).others (in_name n) (in_not_out n number)) in
        let staged = map-append (staged_by (sizes_in tells (content old) m.given)) m.staged (record { number = number; size = size } ∷ []) in
        let stock = ap (λ (c : Contents ℕ). stock_by c after_stage) sized
        ∙ (λ i. record (stock_by (sizes_in tells (content old) m.given) m) { staged = staged i })
        ∙ (λ i. record (stock_by (sizes_in tells (content old) m.given) m) { staged = (stock_by (sizes_in tells (content old) m.given) m).staged ++ record { number = p.next i; content = long i } ∷ [] }) in
        let content_now = go tells stored_staged in
        let records = sym (add-zero (state_of tells (content old) (faults old) m).records) in
        let appended = sym (add-zero (state_of tells (content old) (faults old) m).appended) in
        let next = p.next in
        λ i. record (state_of tells (content old) (faults old) m) {
          content = content_now i;
          stock = stock i;
          records = records i;
          appended = appended i;
          staged = next i;
          counts = record { faults = calm i; fulls = m.fulls; broken = m.broken };
        }
      where
        go : (b : Bool) → (b ≡ true → stored_in (content new) after_stage ≡ stored_after (file_staged (m.last_staged + 1) bytes) m.seat [] (stored_in (content old) m))
            → (if b then Some (stored_in (content new) after_stage) else None) ≡ option_map (stored_after (file_staged (m.last_staged + 1) bytes) m.seat []) (if b then Some (stored_in (content old) m) else None)
        go true is = ap Some (is refl)
        go false is = refl

    same_shelf : tells ≡ true → shelf_of (stored_in (content new) after_stage) ≡ shelf_of (stored_in (content old) m)
    same_shelf t = ap shelf_of (stored_staged t)

    pub stage_kept : (asked : StoreCall) (answer : StoreAnswer) → StoreMade (state_of tells (content old) (faults old) m) asked answer (state_of tells (content new) (faults new) after_stage)
        → StoreKept (standing tells content faults moment images old m) asked answer (standing tells content faults moment images new after_stage)
    stage_kept asked answer made =
        quiet_run tells content faults moment images (Only (out_name number)) old new m after_stage p.sound p.whole stays p.run asked answer same_shelf made

    put_later : (s : State) (x : Put) → IsPut m.last_staged s x → IsPut number s x
    put_later s x is = record { some = is.some; drawn = omega (arith, is.drawn, above); above = is.above }

    memory_staged : IsMemory m → IsMemory after_stage
    memory_staged is = record {
      books = is.books;
      orderly = is.orderly;
      parts = is.parts;
      marked = is.marked;
      received = is.received;
      numbers = is.numbers;
      given = is.given;
      staged = all_last (IsPut number m.books.folding.state) m.staged (record { number = number; size = size })
          (all_by (IsPut m.last_staged m.books.folding.state) (IsPut number m.books.folding.state) (put_later m.books.folding.state) m.staged is.staged)
          (record {
            some = let n = p.next in omega (arith, n);
            drawn = omega arith;
            above = all_by (λ (e : Entry). e.number ≤ m.last_staged) (λ (e : Entry). e.number ≢ number) (λ e low same. omega (arith, low, same, above)) m.books.folding.state.queue is.queued;
          });
      queued = all_by (λ (e : Entry). e.number ≤ m.last_staged) (λ (e : Entry). e.number ≤ number) (λ e low. omega (arith, low, above)) m.books.folding.state.queue is.queued;
    }

    bodies_staged : tells ≡ true → IsMemory m → HasBodies m (content old) → HasBodies after_stage (content new)
    bodies_staged t is has =
        let o = p.only t in
        record {
          parts = all_by (λ (x : Part). HasLength (in_name x.number) x.have (content old)) (λ (x : Part). HasLength (in_name x.number) x.have (content new)) (λ x h. (h.0, o.others (in_name x.number) (in_not_out x.number number) ∙ h.1, h.2)) m.parts has.parts;
          staged = all_last (λ (x : Put). HasLength (out_name x.number) x.size (content new)) m.staged (record { number = number; size = size }) (kept_staged m.staged is.staged has.staged) (bytes, written t, sym long);
          given = still_gone m.given (content old) (content new) has.given (λ n among. o.others (in_name n) (in_not_out n number));
        }
      where
        kept_staged : (ps : List Put) → AllByRecursion (IsPut m.last_staged m.books.folding.state) ps → AllByRecursion (λ (x : Put). HasLength (out_name x.number) x.size (content old)) ps → AllByRecursion (λ (x : Put). HasLength (out_name x.number) x.size (content new)) ps
        kept_staged [] is has = tt
        kept_staged (x ∷ xs) is has =
            let low = is.0.drawn in
            ((has.0.0, (p.only t).others (out_name x.number) (other_name number (content old) (content new) (p.only t) x.number (omega (arith, low, above))) ∙ has.0.1, has.0.2), kept_staged xs is.1 has.1)

    pub stage_sound : IsSound tells content moment images new after_stage
    stage_sound = record {
      memory = memory_staged p.sound.memory;
      kept = λ still w image.
          retold tells (content old) (content new) m after_stage refl same_shelf w
          (run_now tells content faults moment images (Only (out_name number)) old new m m p.sound p.whole stays p.run w image);
      bodies = λ still t. bodies_staged t p.sound.memory (p.sound.bodies p.whole t);
    }

  -- nothing is staged
  pub none_sound : IsSound tells content moment images new m
  none_sound = record {
    memory = p.sound.memory;
    kept = λ still w image.
        retold tells (content old) (content new) m m refl (λ t. ap shelf_of (same_stored t)) w
        (run_now tells content faults moment images (Only (out_name number)) old new m m p.sound p.whole stays p.run w image);
    bodies = λ still t. none_bodies t p.sound.memory (p.sound.bodies p.whole t);
  }
    where
      none_bodies : tells ≡ true → IsMemory m → HasBodies m (content old) → HasBodies m (content new)
      none_bodies t is has =
          let o = p.only t in
          record {
            parts = all_by (λ (x : Part). HasLength (in_name x.number) x.have (content old)) (λ (x : Part). HasLength (in_name x.number) x.have (content new)) (λ x h. (h.0, o.others (in_name x.number) (in_not_out x.number number) ∙ h.1, h.2)) m.parts has.parts;
            staged = each m.staged is.staged has.staged;
            given = still_gone m.given (content old) (content new) has.given (λ n among. o.others (in_name n) (in_not_out n number));
          }
        where
          each : (ps : List Put) → AllByRecursion (IsPut m.last_staged m.books.folding.state) ps → AllByRecursion (λ (x : Put). HasLength (out_name x.number) x.size (content old)) ps → AllByRecursion (λ (x : Put). HasLength (out_name x.number) x.size (content new)) ps
          each [] is has = tt
          each (x ∷ xs) is has =
              let low = is.0.drawn in
              ((has.0.0, (p.only t).others (out_name x.number) (other_name number (content old) (content new) (p.only t) x.number (omega (arith, low, above))) ∙ has.0.1, has.0.2), each xs is.1 has.1)
