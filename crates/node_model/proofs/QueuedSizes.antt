-- Files queued together: what the queue becomes, and the slots, seen without the bytes.
use Rattle.std.proofs.Common.{◌≡◌, ℕ, Bool, true, false, ◌==◌, cond, List, [], ◌∷◌, Option, Some, None, refl, sym, ◌∙◌, ap, length, map, option_map}
use Rattle.std.proofs.lemmas.List.{map_push}
use Rattle.ftn_addr.specs.Address.{Address}
use Rattle.ftn_addr.specs.Key.{Key}
use Rattle.ftn_addr.specs.Files.{is_same}
use Rattle.node_model.specs.Items.{Entry, EntryOf, Receipt}
use Rattle.node_model.specs.Durable.{entry_map, receipt_map, answered_receipt, all_answered}
use Rattle.node_model.specs.SendRows.{Slot}
use Rattle.node_model.specs.Stocks.{Stock, StagedOf, NewEntry, sizes, staged_map, entry_with, queued_as, staged_in, queue_unless, queue_each, slot_for, slots_of, is_listed, all_queued}
use Rattle.node_model.proofs.StockMaps.{first-map, without-map, map-map_as}

abbrev sized : List Entry → List (EntryOf ℕ)
sized queue = map (entry_map length) queue

abbrev sized_files : List (StagedOf (List ℕ)) → List (StagedOf ℕ)
sized_files staged = map (staged_map length) staged

queued_as-map : (dest : Address) (key : Key) (queue : List Entry) → queued_as dest key (sized queue) ≡ option_map (entry_map length) (queued_as dest key queue)
queued_as-map dest key queue = first-map (entry_map length) (λ (e : EntryOf ℕ). is_same dest key e.dest e.key) queue

staged_in-map : (number : ℕ) (staged : List (StagedOf (List ℕ))) → staged_in number (sized_files staged) ≡ option_map (staged_map length) (staged_in number staged)
staged_in-map number staged = first-map (staged_map length) (λ (s : StagedOf ℕ). s.number == number) staged

unless-map : (f : NewEntry) (o : Option Entry) (s : Option (StagedOf (List ℕ))) (queue : List Entry) → queue_unless f (option_map (entry_map length) o) (option_map (staged_map length) s) (sized queue) ≡ sized (queue_unless f o s queue)
unless-map f (Some e) s queue = refl
unless-map f None None queue = refl
unless-map f None (Some s) queue = sym (map_push (entry_map length) queue (entry_with f s.content))

next-map : (f : NewEntry) (staged : List (StagedOf (List ℕ))) (queue : List Entry) → queue_unless f (queued_as f.dest f.key (sized queue)) (staged_in f.number (sized_files staged)) (sized queue) ≡ sized (queue_unless f (queued_as f.dest f.key queue) (staged_in f.number staged) queue)
next-map f staged queue =
    let a = queued_as-map f.dest f.key queue in
    let b = staged_in-map f.number staged in
    (λ j. queue_unless f (a j) (b j) (sized queue)) ∙ unless-map f (queued_as f.dest f.key queue) (staged_in f.number staged) queue

pub each-map : (files : List NewEntry) (staged : List (StagedOf (List ℕ))) (queue : List Entry) → queue_each files (sized_files staged) (sized queue) ≡ sized (queue_each files staged queue)
each-map [] staged queue = refl
each-map (f ∷ files) staged queue =
    ap (queue_each files (sized_files staged)) (next-map f staged queue) ∙ each-map files staged (queue_unless f (queued_as f.dest f.key queue) (staged_in f.number staged) queue)

slot-map : (f : NewEntry) (o : Option Entry) → slot_for f (option_map (entry_map length) o) ≡ slot_for f o
slot-map f (Some e) = refl
slot-map f None = refl

pub slots-map : (files : List NewEntry) (staged : List (StagedOf (List ℕ))) (queue : List Entry) → slots_of files (sized_files staged) (sized queue) ≡ slots_of files staged queue
slots-map [] staged queue = refl
slots-map (f ∷ files) staged queue =
    let rest = ap (slots_of files (sized_files staged)) (next-map f staged queue) ∙ slots-map files staged (queue_unless f (queued_as f.dest f.key queue) (staged_in f.number staged) queue) in
    let one = ap (slot_for f) (queued_as-map f.dest f.key queue) ∙ slot-map f (queued_as f.dest f.key queue) in
    λ j. one j ∷ rest j

answered-map : (answered : Option ℕ) (inbox : List Receipt) → map (receipt_map length) (all_answered answered inbox) ≡ all_answered answered (map (receipt_map length) inbox)
answered-map None inbox = refl
answered-map (Some number) inbox = map-map_as (receipt_map length) (answered_receipt number) (answered_receipt number) (receipt_map length) one inbox
  where
    one : (r : Receipt) → receipt_map length (answered_receipt number r) ≡ answered_receipt number (receipt_map length r)
    one r = go (r.number == number)
      where
        go : (b : Bool) → receipt_map length (cond b (record r { answered = true }) r) ≡ cond b (record (receipt_map length r) { answered = true }) (receipt_map length r)
        go true = refl
        go false = refl

pub all_queued-map : (files : List NewEntry) (answered : Option ℕ) (s : Stock) → sizes (all_queued files answered s) ≡ all_queued files answered (sizes s)
all_queued-map files answered s =
    let queue = sym (each-map files s.staged s.state.queue) in
    let inbox = answered-map answered s.state.inbox in
    let left = sym (without-map (staged_map length) (λ (x : StagedOf ℕ). is_listed files x) s.staged) in
    λ j. record { state = record { queue = queue j; inbox = inbox j; refused = s.state.refused; marks = (sizes s).state.marks }; parts = (sizes s).parts; staged = left j }
