-- One entry of the queue changes, and keeps its file.
use Rattle.std.proofs.Common.{◌≡◌, ◌≢◌, ⊎_elim, ℕ, ◌≤◌, List, Some, Bool, true, sym, ◌∙◌, ap, subst, inl, inr}
use Rattle.std.specs.List.{AllByRecursion}
use Rattle.disk_model.specs.World.{World}
use Rattle.ftn_addr.specs.Key.{Key}
use Rattle.ledger_rec.specs.Fold.{State, Folding, changed}
use Rattle.ledger_rec.specs.Items.{Entry}
use Rattle.node_store.specs.Books.{Books, IsBooks}
use Rattle.node_store.specs.Names.{out_name}
use Rattle.node_store.specs.Stored.{Part, Put, Memory, has_receipt, IsPart, IsPut, IsMemory}
use Rattle.node_store.specs.Worlds.{HasLength, HasFiles}
use Rattle.node_store.proofs.Alike.{all_by}
use Rattle.node_store.proofs.Listed.{all_changed}

-- such a change
pub record KeepsFile (f : Entry → Entry) : Type 0 where
  pub number : (e : Entry) → (f e).number ≡ e.number
  pub key : (e : Entry) → (f e).key ≡ e.key
  pub live : (e : Entry) → (f e).live ≡ true → e.live ≡ true

-- what it leaves
pub record IsChanged (p : Entry → Bool) (f : Entry → Entry) (s t : State) : Type 0 where
  pub queue : List Entry
  pub changes : changed p f s.queue ≡ Some queue
  pub is : t ≡ record s { queue = queue }

part_beside : (f : Folding) (queue : List Entry) (room : ℕ) (p : Part) → IsPart f p → IsPart (record { state = record f.state { queue = queue }; holds = f.holds; room = room }) p
part_beside f queue room p is =
    record { from = is.from; key = is.key; sizes = is.sizes; within = is.within; receipt = is.receipt; next = is.next; held = is.held; unknown = is.unknown; number = ⊎_elim (λ a. inl (record { marked = a.marked; given_away = a.given_away })) (λ b. inr (record { unused = b.unused; unmarked = b.unmarked; first = b.first })) is.number; marks = is.marks; received = is.received }

module _ (p : Entry → Bool) (f : Entry → Entry) (keeps : KeepsFile f) where
  pub changed_files : (s t : State) → IsChanged p f s t → (c : World) → HasFiles s c → HasFiles t c
  changed_files s t h c has =
      subst (λ (u : State). HasFiles u c) (sym h.is) (record {
        live = all_changed (λ (e : Entry). e.live ≡ true → HasLength (out_name e.number) e.key.size c) p f still s.queue h.queue h.changes has.live;
        marked = has.marked;
        received = has.received;
      })
    where
      still : (e : Entry) → (e.live ≡ true → HasLength (out_name e.number) e.key.size c) → (f e).live ≡ true → HasLength (out_name (f e).number) (f e).key.size c
      still e was live =
          let l = was (keeps.live e live) in
          (l.0, ap (λ (n : ℕ). c.own (out_name n)) (keeps.number e) ∙ l.1, l.2 ∙ sym (ap (λ (k : Key). k.size) (keeps.key e)))

  pub changed_takes : (s t : State) → IsChanged p f s t → t.takes ≡ s.takes
  changed_takes s t h = ap (λ (u : State). u.takes) h.is

  put_beside : (last : ℕ) (s t : State) → IsChanged p f s t → (x : Put) → IsPut last s x → IsPut last t x
  put_beside last s t h x is = record {
    some = is.some;
    drawn = is.drawn;
    above = subst (λ (u : State). AllByRecursion (λ (e : Entry). e.number ≢ x.number) u.queue) (sym h.is) (all_changed (λ (e : Entry). e.number ≢ x.number) p f (λ e other same. other (sym (keeps.number e) ∙ same)) s.queue h.queue h.changes is.above);
  }

  pub memory_changed : (m : Memory) (b : Books) → IsChanged p f m.books.folding.state b.folding.state → b.folding.holds ≡ m.books.folding.holds → IsBooks b → IsMemory m → IsMemory (record m { books = b })
  memory_changed m b h holds books is =
      let folding : b.folding ≡ record { state = record m.books.folding.state { queue = h.queue }; holds = m.books.folding.holds; room = b.folding.room } =
      (λ i. record { state = h.is i; holds = holds i; room = b.folding.room }) in
      record {
        books = books;
        orderly = is.orderly;
        parts = subst (λ (g : Folding). AllByRecursion (IsPart g) m.parts) (sym folding) (all_by (IsPart m.books.folding) (IsPart (record { state = record m.books.folding.state { queue = h.queue }; holds = m.books.folding.holds; room = b.folding.room })) (part_beside m.books.folding h.queue b.folding.room) m.parts is.parts);
        marked = subst (λ (u : State). AllByRecursion (λ k. k.number ≤ m.drawn) u.marks) (sym h.is) is.marked;
        received = subst (λ (u : State). AllByRecursion (λ r. r.number ≤ m.drawn) u.inbox) (sym h.is) is.received;
        numbers = subst (λ (u : State). AllByRecursion (λ n. n ≤ m.drawn) u.parts) (sym h.is) is.numbers;
        given = subst (λ (u : State). AllByRecursion (λ n. has_receipt n u.inbox ≡ true) m.given) (sym h.is) is.given;
        staged = all_by (IsPut m.last_staged m.books.folding.state) (IsPut m.last_staged b.folding.state) (put_beside m.last_staged m.books.folding.state b.folding.state h) m.staged is.staged;
        queued = subst (λ (u : State). AllByRecursion (λ (e : Entry). e.number ≤ m.last_staged) u.queue) (sym h.is) (all_changed (λ (e : Entry). e.number ≤ m.last_staged) p f (λ e low. subst (λ (n : ℕ). n ≤ m.last_staged) (sym (keeps.number e)) low) m.books.folding.state.queue h.queue h.changes is.queued);
      }
