-- Files are queued one behind another.
use Rattle.std.proofs.Common.{◌≡◌, ◌≢◌, ℕ, ◌<◌, List, [], ◌∷◌, ◌++◌, Option, Some, None, refl, sym, ◌∙◌, ap, arith, length, append_assoc}
use Rattle.std.proofs.lemmas.List.Folds.{find-append}
use Rattle.std.proofs.lemmas.List.{map-append}
use Rattle.ftn_addr.specs.Address.{Address}
use Rattle.ftn_addr.specs.Key.{Key}
use Rattle.ftn_addr.specs.Files.{is_same}
use Rattle.node_model.specs.Items.{Entry}
use Rattle.node_model.specs.Lists.{Each}
use Rattle.node_model.specs.Node.{Logged, Record}
use Rattle.node_model.specs.Rows.{all_by}
use Rattle.node_model.specs.SendRows.{Slot, New, Again}
use Rattle.node_model.specs.Stocks.{StagedOf, NewEntry, entry_with, queued_as, staged_in, queue_staged, queue_unless, queue_each, slot_for, slots_of, entry_records}
use Rattle.node_model.proofs.Lists.{Each-append, Each-weaker}
use Rattle.node_model.specs.StoreWords.{NumbersRise}
use Rattle.mem_store.proofs.Places.{one_push}
use Rattle.mem_store.specs.Orders.{OneEach}

-- what is planned so far, with the rest, is the whole plan
pub record Planned (seat : ℕ) (files rest : List NewEntry) (staged : List (StagedOf (List ℕ))) (queue queue_now : List Entry) (slots : List Slot) (records : List Logged) : Type 0 where
  pub queued : queue_each rest staged queue_now ≡ queue_each files staged queue
  pub slotted : slots ++ slots_of rest staged queue_now ≡ slots_of files staged queue
  pub recorded : records ++ all_by seat (entry_records rest (slots_of rest staged queue_now)) ≡ all_by seat (entry_records files (slots_of files staged queue))

-- one file's records stand before those of the others
pub records_cons : (f : NewEntry) (rest : List NewEntry) (slot : Slot) (slots : List Slot) → entry_records (f ∷ rest) (slot ∷ slots) ≡ entry_records (f ∷ []) (slot ∷ []) ++ entry_records rest slots
records_cons f rest (New number) slots = refl
records_cons f rest (Again number) slots = refl

pub planned_more : (seat : ℕ) (files : List NewEntry) (f : NewEntry) (rest : List NewEntry) (staged : List (StagedOf (List ℕ))) (queue queue_now queue_next : List Entry) (slots slots_next : List Slot) (records records_next : List Logged) → Planned seat files (f ∷ rest) staged queue queue_now slots records → queue_next ≡ queue_unless f (queued_as f.dest f.key queue_now) (staged_in f.number staged) queue_now → slots_next ≡ slots ++ slot_for f (queued_as f.dest f.key queue_now) ∷ [] → records_next ≡ records ++ all_by seat (entry_records (f ∷ []) (slot_for f (queued_as f.dest f.key queue_now) ∷ [])) → Planned seat files rest staged queue queue_next slots_next records_next
planned_more seat files f rest staged queue queue_now queue_next slots slots_next records records_next p next slotted recorded =
    let slot = slot_for f (queued_as f.dest f.key queue_now) in
    let later = slots_of rest staged (queue_unless f (queued_as f.dest f.key queue_now) (staged_in f.number staged) queue_now) in
    record {
      queued = ap (queue_each rest staged) next ∙ p.queued;
      slotted = (λ j. slotted j ++ slots_of rest staged (next j)) ∙ (append_assoc slots (slot ∷ []) later ∙ p.slotted);
      recorded = (λ j. recorded j ++ all_by seat (entry_records rest (slots_of rest staged (next j)))) ∙ (append_assoc records (all_by seat (entry_records (f ∷ []) (slot ∷ []))) (all_by seat (entry_records rest later)) ∙ (ap (λ (more : List Logged). records ++ more) (sym (map-append (λ (r : Record). record { seat = seat; entry = r }) (entry_records (f ∷ []) (slot ∷ [])) (entry_records rest later)) ∙ ap (all_by seat) (sym (records_cons f rest slot later))) ∙ p.recorded));
    }

pub staged_behind : (f : NewEntry) (o : Option (StagedOf (List ℕ))) (queue fresh : List Entry) → queue ++ queue_staged f o fresh ≡ queue_staged f o (queue ++ fresh)
staged_behind f None queue fresh = refl
staged_behind f (Some s) queue fresh = sym (append_assoc queue fresh (entry_with f s.content ∷ []))

-- With no record nothing is queued.

pub nothing_new : (files : List NewEntry) (staged : List (StagedOf (List ℕ))) (queue : List Entry) → entry_records files (slots_of files staged queue) ≡ [] → queue_each files staged queue ≡ queue
nothing_new [] staged queue none = refl
nothing_new (f ∷ files) staged queue none = go (λ q e. nothing_new files staged q e) (queued_as f.dest f.key queue) none
  where
    go : ((q : List Entry) → entry_records files (slots_of files staged q) ≡ [] → queue_each files staged q ≡ q) → (o : Option Entry) → entry_records (f ∷ files) (slot_for f o ∷ slots_of files staged (queue_unless f o (staged_in f.number staged) queue)) ≡ [] → queue_each files staged (queue_unless f o (staged_in f.number staged) queue) ≡ queue
    go rest (Some e) is = rest queue is
    go rest None is = absurd (cc)

-- Numbers stay apart.

pub one_each_queued : (files : List NewEntry) (staged : List (StagedOf (List ℕ))) (queue : List Entry) → OneEach (λ (e : Entry). e.number) queue → Each (λ (f : NewEntry). Each (λ (e : Entry). e.number < f.number) queue) files → NumbersRise files → OneEach (λ (e : Entry). e.number) (queue_each files staged queue)
one_each_queued [] staged queue one above rise = one
one_each_queued (f ∷ files) staged queue one above rise = go (λ q o a r. one_each_queued files staged q o a r) (queued_as f.dest f.key queue) (staged_in f.number staged)
  where
    later : (content : List ℕ) (gs : List NewEntry) → Each (λ (g : NewEntry). Each (λ (e : Entry). e.number < g.number) queue) gs → Each (λ (g : NewEntry). f.number < g.number) gs → Each (λ (g : NewEntry). Each (λ (e : Entry). e.number < g.number) (queue ++ entry_with f content ∷ [])) gs
    later content [] a b = tt
    later content (g ∷ gs) a b = (Each-append (λ (e : Entry). e.number < g.number) queue (entry_with f content ∷ []) a.0 (b.0, tt), later content gs a.1 b.1)

    go : ((q : List Entry) → OneEach (λ (e : Entry). e.number) q → Each (λ (g : NewEntry). Each (λ (e : Entry). e.number < g.number) q) files → NumbersRise files → OneEach (λ (e : Entry). e.number) (queue_each files staged q)) → (o : Option Entry) (s : Option (StagedOf (List ℕ))) → OneEach (λ (e : Entry). e.number) (queue_each files staged (queue_unless f o s queue))
    go rest (Some e) s = rest queue one above.1 rise.1
    go rest None None = rest queue one above.1 rise.1
    go rest None (Some s) =
        rest (queue ++ entry_with f s.content ∷ []) (one_push (λ (e : Entry). e.number) queue (entry_with f s.content) one (Each-weaker (λ (e : Entry). e.number < f.number) (λ (e : Entry). e.number ≢ f.number) (λ e lt same. omega (arith, lt, same)) queue above.0)) (later s.content files above.1 rise.0) rise.1

-- where a key is queued already

pub queued_first : (dest : Address) (key : Key) (queue fresh : List Entry) (x : Entry) → queued_as dest key queue ≡ Some x → queued_as dest key (queue ++ fresh) ≡ Some x
queued_first dest key queue fresh x is = find-append (λ (e : Entry). is_same dest key e.dest e.key) queue fresh ∙ rw is refl

pub queued_second : (dest : Address) (key : Key) (queue fresh : List Entry) (o : Option Entry) → queued_as dest key queue ≡ None → queued_as dest key fresh ≡ o → queued_as dest key (queue ++ fresh) ≡ o
queued_second dest key queue fresh o none is = find-append (λ (e : Entry). is_same dest key e.dest e.key) queue fresh ∙ rw none is
