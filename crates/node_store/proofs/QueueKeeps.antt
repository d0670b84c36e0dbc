-- Files are queued together: what fits together in memory still does, and each file stands.
use Rattle.std.proofs.Common.{◌≡◌, ◌≢◌, ⊎_elim, ℕ, ◌≤◌, ◌==◌, List, [], ◌∷◌, ◌++◌, map, Option, Some, None, Bool, true, false, not, ◌||◌, refl, sym, ◌∙◌, ap, subst, inl, inr, arith}
use Rattle.std.specs.Prelude.{if◌then◌else◌}
use Rattle.std.specs.List.{AllByRecursion, list_any}
use Rattle.std.proofs.lemmas.Bool.Decides.{Decides-eqb}
use Rattle.disk_model.specs.World.{World}
use Rattle.disk_model.specs.Changes.{Only}
use Rattle.ftn_addr.specs.Address.{Address}
use Rattle.ftn_addr.specs.Files.{is_same}
use Rattle.ftn_addr.specs.Key.{Key}
use Rattle.ledger_file.specs.Ledger.{ledger_name}
use Rattle.ledger_rec.specs.Fold.{State, Folding, is_received, is_refused, changed, answered, waits_for_answer, new_entry}
use Rattle.ledger_rec.specs.Items.{Entry, Receipt}
use Rattle.ledger_rec.specs.Record.{NewFileText}
use Rattle.node_model.specs.Items as N
use Rattle.node_model.specs.Lists.{Each, some_passes, without}
use Rattle.node_model.specs.Stocks.{NewEntry}
use Rattle.node_model.specs.Stores.{with_take}
use Rattle.node_model.proofs.Lists.{none_some, off, or_false, Each-append, Each-member}
use Rattle.node_store.specs.Books.{Books, IsBooks}
use Rattle.node_store.specs.Contents.{entry_by}
use Rattle.node_store.specs.Names.{in_name, out_name}
use Rattle.node_store.specs.Planned.{new_text, queued_in, queue_with, fresh_with, fresh_in, AllStand, AllSynced}
use Rattle.node_store.specs.Recording.{IsSynced}
use Rattle.node_store.specs.Stored.{Part, Put, Memory, front_of, told_in, has_receipt, IsPart, IsPut, IsMemory, HasBodies}
use Rattle.node_store.specs.Worlds.{bytes_of, contents_in, HasLength, HasNoOther, HasFiles}
use Rattle.node_store.proofs.Alike.{all_by}
use Rattle.node_store.proofs.BatchFollows.{AnsweredInbox, IsQueued}
use Rattle.node_store.proofs.Found.{found_is}
use Rattle.node_store.proofs.Listed.{all_changed}
use Rattle.node_store.proofs.Mirrors.{Here, Later, changed_is}
use Rattle.node_store.proofs.NameLaws.{in_not_ledger, out_not_ledger}
use Rattle.node_store.proofs.QueueTold.{HasPut, unstaged}
use Rattle.node_store.proofs.TellAlike.{front_whole}
use Rattle.node_store.proofs.GivenFiles.{still_gone}

-- lists

pub all_onto : {A B : Type 0} (P : B → Type 0) (f : A → B) (xs : List A) → AllByRecursion (λ x. P (f x)) xs → AllByRecursion P (map f xs)
all_onto P f [] all = tt
all_onto P f (x ∷ xs) all = (all.0, all_onto P f xs all.1)

pub all_both : {A : Type 0} (P Q R : A → Type 0) → ((x : A) → P x → Q x → R x) → (xs : List A) → AllByRecursion P xs → AllByRecursion Q xs → AllByRecursion R xs
all_both P Q R f [] ps qs = tt
all_both P Q R f (x ∷ xs) ps qs = (f x ps.0 qs.0, all_both P Q R f xs ps.1 qs.1)

pub all_left : {A : Type 0} (p : A → Bool) (P Q : A → Type 0) → ((x : A) → p x ≡ false → P x → Q x) → (xs : List A) → AllByRecursion P xs → AllByRecursion Q (without p xs)
all_left p P Q f [] all = tt
all_left {A} p P Q f (x ∷ xs) all = go (p x) refl (all_left p P Q f xs all.1)
  where
    go : (b : Bool) → p x ≡ b → AllByRecursion Q (without p xs) → AllByRecursion Q (if not b then x ∷ without p xs else without p xs)
    go true is rest = rest
    go false is rest = (f x is all.0, rest)

fresh_all : (P : NewFileText → Type 0) (fs : List NewEntry) (q : List Entry) → Each (λ (f : NewEntry). P (new_text f)) fs → AllByRecursion P (fresh_in fs q)
fresh_all P [] q all = tt
fresh_all P (f ∷ fs) q all = go (queued_in f.dest f.key q) (λ o. fresh_all P fs (queue_with f o q) all.1)
  where
    go : (o : Option Entry) → ((o : Option Entry) → AllByRecursion P (fresh_in fs (queue_with f o q))) → AllByRecursion P (fresh_with f o ++ fresh_in fs (queue_with f o q))
    go (Some e) rest = rest (Some e)
    go None rest = (all.0, rest None)

-- an answered request

answered_all : (P : Receipt → Type 0) → ((r : Receipt) → P r → P (answered r)) → (request : Option ℕ) (old new : List Receipt) → AnsweredInbox request old new → AllByRecursion P old → AllByRecursion P new
answered_all P keeps None old new is all = subst (AllByRecursion P) (sym is) all
answered_all P keeps (Some n) old new is all = all_changed P (waits_for_answer n) answered keeps old new is all

any_changed : {A : Type 0} (q p : A → Bool) (f : A → A) → ((x : A) → q (f x) ≡ q x) → (xs ys : List A) → changed p f xs ≡ Some ys → list_any q ys ≡ list_any q xs
any_changed q p f same [] ys is = none_some is
any_changed q p f same (x ∷ xs) ys is = elim (changed_is p f x xs ys is) [
  | Here passed e ↦ ap (list_any q) e ∙ ap (λ (b : Bool). b || list_any q xs) (same x)
  | Later failed zs was e ↦ ap (list_any q) e ∙ ap (λ (b : Bool). q x || b) (any_changed q p f same xs zs was)
]

received_same : (from : Address) (key : Key) (request : Option ℕ) (old new : List Receipt) → AnsweredInbox request old new → is_received from key new ≡ is_received from key old
received_same from key None old new is = ap (is_received from key) is
received_same from key (Some n) old new is = any_changed (λ (r : Receipt). is_same from key r.from r.key) (waits_for_answer n) answered (λ r. refl) old new is

-- memory

numbers_same : (n : ℕ) (request : Option ℕ) (old new : List Receipt) → AnsweredInbox request old new → has_receipt n new ≡ has_receipt n old
numbers_same n None old new is = ap (has_receipt n) is
numbers_same n (Some k) old new is = any_changed (λ (r : Receipt). r.number == n) (waits_for_answer k) answered (λ r. refl) old new is

abbrev queued_state : State → List NewEntry → Option ℕ → List Receipt → State
queued_state s fs taken inbox = record s { queue = s.queue ++ map new_entry (fresh_in fs s.queue); inbox = inbox; takes = with_take taken s.takes }

part_queued : (f : Folding) (fs : List NewEntry) (taken request : Option ℕ) (inbox : List Receipt) (room : ℕ) → AnsweredInbox request f.state.inbox inbox → (p : Part) → IsPart f p → IsPart (record { state = queued_state f.state fs taken inbox; holds = f.holds; room = room }) p
part_queued f fs taken request inbox room answers p is = record {
  from = is.from;
  key = is.key;
  sizes = is.sizes;
  within = is.within;
  receipt = is.receipt;
  next = is.next;
  held = is.held;
  unknown = ap (λ (b : Bool). b || is_refused p.from p.key f.state.refused) (received_same p.from p.key request f.state.inbox inbox answers) ∙ is.unknown;
  number = ⊎_elim (λ a. inl (record { marked = a.marked; given_away = a.given_away })) (λ b. inr (record { unused = b.unused; unmarked = b.unmarked; first = b.first })) is.number;
  marks = is.marks;
  received = answered_all (λ (r : Receipt). r.number ≢ p.number) (λ r other. other) request f.state.inbox inbox answers is.received;
}

-- the number of the put is that of none of these
others_differ : (n : ℕ) (fs : List NewEntry) → some_passes (λ (f : NewEntry). f.number == n) fs ≡ false → Each (λ (f : NewEntry). f.number ≢ n) fs
others_differ n [] none = tt
others_differ n (f ∷ fs) none = let h = or_false (f.number == n) _ none in ((λ same. off (sym ((Decides-eqb f.number n).1 same) ∙ h.0)), others_differ n fs h.1)

-- what holds of the staged files holds of those that are queued
module _ (P : Put → Type 0) (staged : List Put) (all : AllByRecursion P staged) where
  put_is : (f : NewEntry) (h : HasPut staged f) → P h.put
  put_is f h = Each-member P h.put staged all (found_is (λ (p : Put). p.number) f.number h.put staged h.found).0

  pub puts_are : (Q : NewEntry → Type 0) → ((f : NewEntry) (h : HasPut staged f) → P h.put → Q f) → (fs : List NewEntry) → Each (HasPut staged) fs → Each Q fs
  puts_are Q leads [] has = tt
  puts_are Q leads (f ∷ fs) has = (leads f has.0 (put_is f has.0), puts_are Q leads fs has.1)

pub all_some : (last : ℕ) (s : State) (staged : List Put) (fs : List NewEntry) → AllByRecursion (IsPut last s) staged → Each (HasPut staged) fs → Each (λ (f : NewEntry). 1 ≤ f.number) fs
all_some last s staged fs all has = puts_are (IsPut last s) staged all (λ (f : NewEntry). 1 ≤ f.number) (λ f h p. let n = h.numbered in let some = p.some in omega (arith, n, some)) fs has

module _ (m : Memory) (b : Books) (taken request : Option ℕ) (fs : List NewEntry) (put : Each (HasPut m.staged) fs) (q : IsQueued taken request fs m.books.folding.state b.folding.state) where
  left_put : IsMemory m → (p : Put) → some_passes (λ (f : NewEntry). f.number == p.number) fs ≡ false → IsPut m.last_staged m.books.folding.state p → IsPut m.last_staged b.folding.state p
  left_put is p other old = record {
    some = old.some;
    drawn = old.drawn;
    above = subst (λ (s : State). AllByRecursion (λ (e : Entry). e.number ≢ p.number) s.queue) (sym q.is)
        (Each-append (λ (e : Entry). e.number ≢ p.number) m.books.folding.state.queue (map new_entry (fresh_in fs m.books.folding.state.queue)) old.above
        (all_onto (λ (e : Entry). e.number ≢ p.number) new_entry (fresh_in fs m.books.folding.state.queue) (fresh_all (λ (x : NewFileText). x.number ≢ p.number) fs m.books.folding.state.queue (others_differ p.number fs other))));
  }

  pub memory_queued : b.folding.holds ≡ m.books.folding.holds → IsBooks b → IsMemory m → IsMemory (record m { books = b; staged = unstaged fs m.staged })
  memory_queued holds books is =
      let f : Folding = record { state = queued_state m.books.folding.state fs taken q.inbox; holds = m.books.folding.holds; room = b.folding.room } in
      let state = q.is in
      let folding : b.folding ≡ f = (λ i. record { state = state i; holds = holds i; room = b.folding.room }) in
      record {
        books = books;
        orderly = is.orderly;
        parts = subst (λ (g : Folding). AllByRecursion (IsPart g) m.parts) (sym folding) (all_by (IsPart m.books.folding) (IsPart f) (part_queued m.books.folding fs taken request q.inbox b.folding.room q.answers) m.parts is.parts);
        marked = subst (λ (s : State). AllByRecursion (λ k. k.number ≤ m.drawn) s.marks) (sym q.is) is.marked;
        received = subst (λ (s : State). AllByRecursion (λ (r : Receipt). r.number ≤ m.drawn) s.inbox) (sym q.is) (answered_all (λ (r : Receipt). r.number ≤ m.drawn) (λ r low. low) request m.books.folding.state.inbox q.inbox q.answers is.received);
        numbers = subst (λ (s : State). AllByRecursion (λ n. n ≤ m.drawn) s.parts) (sym q.is) is.numbers;
        given = subst (λ (s : State). AllByRecursion (λ n. has_receipt n s.inbox ≡ true) m.given) (sym q.is) (all_by (λ n. has_receipt n m.books.folding.state.inbox ≡ true) (λ n. has_receipt n q.inbox ≡ true) (λ n there. numbers_same n request m.books.folding.state.inbox q.inbox q.answers ∙ there) m.given is.given);
        staged = all_left (λ (p : Put). some_passes (λ (g : NewEntry). g.number == p.number) fs) (IsPut m.last_staged m.books.folding.state) (IsPut m.last_staged b.folding.state) (left_put is) m.staged is.staged;
        queued = subst (λ (s : State). AllByRecursion (λ (e : Entry). e.number ≤ m.last_staged) s.queue) (sym q.is)
            (Each-append (λ (e : Entry). e.number ≤ m.last_staged) m.books.folding.state.queue (map new_entry (fresh_in fs m.books.folding.state.queue)) is.queued
            (all_onto (λ (e : Entry). e.number ≤ m.last_staged) new_entry (fresh_in fs m.books.folding.state.queue)
            (fresh_all (λ (x : NewFileText). x.number ≤ m.last_staged) fs m.books.folding.state.queue
            (puts_are (IsPut m.last_staged m.books.folding.state) m.staged is.staged (λ (g : NewEntry). g.number ≤ m.last_staged) (λ g h p. let n = h.numbered in let low = p.drawn in omega (arith, n, low)) fs put))));
      }

  pub bodies_queued : (d c : World) → Only ledger_name d c → HasBodies m d → HasBodies (record m { books = b; staged = unstaged fs m.staged }) c
  bodies_queued d c only has = record {
    parts = all_by (λ (p : Part). HasLength (in_name p.number) p.have d) (λ (p : Part). HasLength (in_name p.number) p.have c) (λ p h. (h.0, only.others (in_name p.number) (in_not_ledger p.number) ∙ h.1, h.2)) m.parts has.parts;
    staged = all_left (λ (p : Put). some_passes (λ (g : NewEntry). g.number == p.number) fs) (λ (p : Put). HasLength (out_name p.number) p.size d) (λ (p : Put). HasLength (out_name p.number) p.size c) (λ p other h. (h.0, only.others (out_name p.number) (out_not_ledger p.number) ∙ h.1, h.2)) m.staged has.staged;
    given = still_gone m.given d c has.given (λ n among. only.others (in_name n) (in_not_ledger n));
  }

-- Files.

abbrev pub HasNew : World → NewFileText → Type 0
HasNew w x = HasLength (out_name x.number) x.key.size w

pub new_there : (staged : List Put) (fs : List NewEntry) (q : List Entry) (w : World) → Each (HasPut staged) fs → AllByRecursion (λ (p : Put). HasLength (out_name p.number) p.size w) staged → AllByRecursion (HasNew w) (fresh_in fs q)
new_there staged fs q w put bodies =
    fresh_all (HasNew w) fs q
    (puts_are (λ (p : Put). HasLength (out_name p.number) p.size w) staged bodies (λ (f : NewEntry). HasLength (out_name f.number) f.key.size w)
    (λ f h has. subst (λ (n : ℕ). HasLength (out_name n) f.key.size w) h.numbered (subst (λ (n : ℕ). HasLength (out_name h.put.number) n w) h.size has)) fs put)

pub new_stand : (files : World → Type 0) (told : World) (xs : List NewFileText) → AllByRecursion (HasNew told) xs → ((w : World) → files w → w ≡ told) → (w : World) → files w → AllStand xs w
new_stand files told xs has reads w read =
    all_by (HasNew told) (λ (x : NewFileText). Rattle.disk_model.specs.Changes.Stands (out_name x.number) 0 w) (λ x h. (h.0, ap (λ (v : World). v.own (out_name x.number)) (reads w read) ∙ h.1, omega arith)) xs has

module _ (read : World → Type 0) (told c : World) (reads : (w : World) → read w → w ≡ told) where
  synced_new : (x : NewFileText) → HasNew told x → IsSynced read (out_name x.number) c → c.own (out_name x.number) ≡ told.own (out_name x.number)
  synced_new x has s = s.2 ∙ ap (λ (v : World). v.own (out_name x.number)) (reads s.0 s.1)

  pub files_queued : (taken request : Option ℕ) (fs : List NewEntry) (s t : State) → IsQueued taken request fs s t → AllByRecursion (HasNew told) (fresh_in fs s.queue) → AllSynced read (fresh_in fs s.queue) c → HasFiles s c → HasFiles t c
  files_queued taken request fs s t q has synced files =
      subst (λ (u : State). HasFiles u c) (sym q.is) (record {
        live = Each-append (λ (e : Entry). e.live ≡ true → HasLength (out_name e.number) e.key.size c) s.queue (map new_entry (fresh_in fs s.queue)) files.live
            (all_onto (λ (e : Entry). e.live ≡ true → HasLength (out_name e.number) e.key.size c) new_entry (fresh_in fs s.queue)
            (all_both (HasNew told) (λ (x : NewFileText). IsSynced read (out_name x.number) c) (λ (x : NewFileText). true ≡ true → HasLength (out_name x.number) x.key.size c)
            (λ x h y live. (h.0, synced_new x h y ∙ h.1, h.2)) (fresh_in fs s.queue) has synced));
        marked = files.marked;
        received = answered_all (λ (r : Receipt). HasNoOther (in_name r.number) r.key.size c) (λ r h. h) request s.inbox q.inbox q.answers files.received;
      })

  -- a queued file tells what its staged file told
  pub new_seen : (given : List ℕ) (xs : List NewFileText) → AllByRecursion (HasNew told) xs → AllSynced read xs c → map (entry_by (contents_in c)) (map new_entry xs) ≡ map (entry_by (told_in told given)) (map new_entry xs)
  new_seen given [] has synced = refl
  new_seen given (x ∷ xs) has synced =
      let own = synced_new x has.0 synced.0 in
      let bytes : bytes_of (c.own (out_name x.number)) ≡ front_of x.key.size (bytes_of (told.own (out_name x.number))) =
      ap bytes_of (own ∙ has.0.1) ∙ sym (front_whole x.key.size has.0.0 has.0.2) ∙ ap (λ (f : Option (List ℕ)). front_of x.key.size (bytes_of f)) (sym has.0.1) in
      let rest = new_seen given xs has.1 synced.1 in
      λ i. record (entry_by (told_in told given) (new_entry x)) { body = N.Live (bytes i) } ∷ rest i
