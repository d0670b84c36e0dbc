-- What look-ups answer, of the lists as they lie.
use Rattle.std.proofs.Common.{◌≡◌, ◌≢◌, ℕ, ◌<◌, ◌≤◌, Bool, true, false, ◌==◌, ◌⊎◌, inl, inr, cond, List, [], ◌∷◌, Option, Some, None, IsSome, refl, sym, ◌∙◌, ap, subst, length, get_or, map, option_map}
use Rattle.std.specs.List.{remove}
use Rattle.ftn_addr.specs.Address.{Address}
use Rattle.ftn_addr.specs.Key.{Key}
use Rattle.ftn_addr.specs.Files.{is_same}
use Rattle.node_model.specs.declared.words.Flavour.{Flavour}
use Rattle.node_model.specs.declared.words.Known.TheVariants.{New, Received, Refused}
use Rattle.node_model.specs.Items.{Body, Live, Done, Entry, EntryOf, Receipt, Refusal, Mark}
use Rattle.node_model.specs.SendRows.{rank}
use Rattle.node_model.specs.Lists.{Member, Each, some_passes, first_that}
use Rattle.node_model.specs.Durable.{is_received, is_refused, mark_of, mark_map, body_map, entry_map, durable_map, unmarked}
use Rattle.node_model.specs.Stocks.{known_in, is_live, IsBehind, IsOffered, NextLive}
use Rattle.node_model.specs.StoreWords.{part_at}
use Rattle.node_model.proofs.Distinct.{member_map}
use Rattle.node_model.proofs.Lists.{eqb_refl, is_same_true, Each-weaker}
use Rattle.node_model.proofs.StockMaps.{known_in-map, mark_of-map}
use Rattle.mem_store.proofs.Marking.{marks_at, unmarked-marks, unmarked_none, find_placed, mark_is}
use Rattle.mem_store.proofs.Orderly.{apart_rest}
use Rattle.mem_store.proofs.Places.{without_one, without_all, member_found}
use Rattle.mem_store.specs.Comings.{Coming, mark_in, placed, marks_of}
use Rattle.mem_store.specs.ListStates.{ListState, durable_of}
use Rattle.mem_store.specs.Orders.{Apart, AllApart}

-- the lists as they are seen tell what is known
pub known_as : (from : Address) (key : Key) (s : ListState) (inbox : List Receipt) (refused : List Refusal) (a b : Bool) → inbox ≡ s.inbox → refused ≡ s.refused → some_passes (λ (r : Receipt). is_same from key r.from r.key) inbox ≡ a → some_passes (λ (r : Refusal). is_same from key r.from r.key) refused ≡ b → cond a Received (cond b Refused New) ≡ known_in from key (durable_map length (durable_of s))
known_as from key s inbox refused a b same other x y =
    let received : is_received from key (durable_of s) ≡ a = ap (some_passes (λ (r : Receipt). is_same from key r.from r.key)) (sym same) ∙ x in
    let turned : is_refused from key (durable_of s) ≡ b = ap (some_passes (λ (r : Refusal). is_same from key r.from r.key)) (sym other) ∙ y in
    ap (λ c. cond c Received (cond b Refused New)) (sym received) ∙ ap (λ c. cond (is_received from key (durable_of s)) Received (cond c Refused New)) (sym turned) ∙ sym (known_in-map length from key (durable_of s))

-- Marks.

-- the marks of the others are all but those of the part's sender and key
pub rest_marks : (from : Address) (key : Key) (ps : List Coming) (i : ℕ) (x : Coming) → AllApart ps → i < length ps → x ≡ get_or ps i x → is_same from key x.from x.key ≡ true → unmarked from key (marks_of ps) ≡ marks_of (remove ps i)
rest_marks from key ps i x apart lt e same =
    let h = is_same_true from key x.from x.key same in
    unmarked-marks from key ps ∙ ap marks_of (without_one (λ (p : Coming). is_same from key p.from p.key) ps i x lt e same (Each-weaker (Apart x) (λ (q : Coming). is_same from key q.from q.key ≡ false) (λ q a. rw (h.0, h.1) a.1) (remove ps i) (apart_rest ps i x apart lt e)))

pub numbers_apart : (ps : List Coming) (i : ℕ) (x : Coming) → AllApart ps → i < length ps → x ≡ get_or ps i x → Each (λ (q : Coming). q.number ≢ x.number) (remove ps i)
numbers_apart ps i x apart lt e =
    Each-weaker (Apart x) (λ (q : Coming). q.number ≢ x.number) (λ q a same. a.0 (sym same)) (remove ps i) (apart_rest ps i x apart lt e)

-- the mark of an open part's sender and key is its own
pub mark_there : (from : Address) (key : Key) (ps : List Coming) (i : ℕ) (x : Coming) → AllApart ps → i < length ps → x ≡ get_or ps i x → is_same from key x.from x.key ≡ true → first_that (λ (m : Mark). is_same from key m.from m.key) (marks_of ps) ≡ mark_in x
mark_there from key ps i x apart lt e same =
    ap (first_that (λ (m : Mark). is_same from key m.from m.key)) (marks_at ps i x lt e (numbers_apart ps i x apart lt e)) ∙ go (mark_in x) refl
  where
    none : first_that (λ (m : Mark). is_same from key m.from m.key) (marks_of (remove ps i)) ≡ None
    none = ap (first_that (λ (m : Mark). is_same from key m.from m.key)) (sym (rest_marks from key ps i x apart lt e same)) ∙ unmarked_none from key (marks_of ps)

    go : (o : Option Mark) → mark_in x ≡ o → first_that (λ (m : Mark). is_same from key m.from m.key) (placed o (marks_of (remove ps i))) ≡ o
    go None is = none
    go (Some m) is = find_placed (λ (q : Mark). is_same from key q.from q.key) m (marks_of (remove ps i)) (rw ((mark_is x m is).from, (mark_is x m is).key) same) none

-- with no such part open there is no mark
pub no_mark : (from : Address) (key : Key) (ps : List Coming) → Each (λ (p : Coming). is_same from key p.from p.key ≡ false) ps → first_that (λ (m : Mark). is_same from key m.from m.key) (marks_of ps) ≡ None
no_mark from key ps all =
    ap (first_that (λ (m : Mark). is_same from key m.from m.key)) (sym (unmarked-marks from key ps ∙ ap marks_of (without_all (λ (p : Coming). is_same from key p.from p.key) ps all))) ∙ unmarked_none from key (marks_of ps)

-- seen without its bytes
pub mark_told : (from : Address) (key : Key) (s : ListState) (o : Option Mark) → first_that (λ (m : Mark). is_same from key m.from m.key) (marks_of s.parts) ≡ o → option_map (λ (m : Mark). record { part = m.number; len = length m.bytes }) o ≡ option_map part_at (mark_of from key (durable_map length (durable_of s)))
mark_told from key s o is = go o ∙ ap (λ (p : Option Mark). option_map part_at (option_map (mark_map length) p)) (sym is) ∙ ap (option_map part_at) (sym (mark_of-map length from key (durable_of s)))
  where
    go : (p : Option Mark) → option_map (λ (m : Mark). record { part = m.number; len = length m.bytes }) p ≡ option_map part_at (option_map (mark_map length) p)
    go None = refl
    go (Some m) = refl

-- Entries.

-- an entry that is seen without its bytes is some entry
pub member_is : (queue : List Entry) (e : EntryOf ℕ) → Member e (map (entry_map length) queue) → (x : Entry) × Member x queue × (e ≡ entry_map length x)
member_is [] e m = absurd m
member_is (x ∷ queue) e (inl same) = (x, inl refl, same)
member_is (x ∷ queue) e (inr m) = let h = member_is queue e m in (h.0, inr h.1, h.2)

live-map : (x : Entry) → is_live (entry_map length x).body ≡ is_live x.body
live-map x = go x.body
  where
    go : (b : Body) → is_live (body_map length b) ≡ is_live b
    go (Live content) = refl
    go Done = refl

offered_map : (dest : Address) (after : Option (Flavour × ℕ)) (queue : List Entry) (x : Entry) → IsOffered dest after queue x → IsOffered dest after (map (entry_map length) queue) (entry_map length x)
offered_map dest after queue x o =
    record { there = member_map (entry_map length) x queue o.there; live = live-map x ∙ o.live; addressed = o.addressed; behind = behind after o.behind }
  where
    behind : (at : Option (Flavour × ℕ)) → IsBehind at x → IsBehind at (entry_map length x)
    behind None h = tt
    behind (Some at) h = h

offered_from : (dest : Address) (after : Option (Flavour × ℕ)) (queue : List Entry) (e : EntryOf ℕ) → IsOffered dest after (map (entry_map length) queue) e → (x : Entry) × IsOffered dest after queue x × (e ≡ entry_map length x)
offered_from dest after queue e o =
    let h = member_is queue e o.there in
    let again : IsOffered dest after (map (entry_map length) queue) (entry_map length h.0) = subst (IsOffered dest after (map (entry_map length) queue)) h.2 o in
    (h.0, record { there = h.1; live = sym (live-map h.0) ∙ again.live; addressed = again.addressed; behind = behind h.0 after again.behind }, h.2)
  where
    behind : (x : Entry) (at : Option (Flavour × ℕ)) → IsBehind at (entry_map length x) → IsBehind at x
    behind x None h = tt
    behind x (Some at) h = h

-- the first live entry is the same, seen without bytes
pub next_told : (dest : Address) (after : Option (Flavour × ℕ)) (queue : List Entry) (best : Option (Flavour × ℕ)) → NextLive dest after queue best → NextLive dest after (map (entry_map length) queue) best
next_told dest after queue None none = λ e o. let h = offered_from dest after queue e o in none h.0 h.1
next_told dest after queue (Some at) first =
    record {
      entry = entry_map length first.entry;
      offered = offered_map dest after queue first.entry first.offered;
      flavoured = first.flavoured;
      numbered = first.numbered;
      least = λ e o. let h = offered_from dest after queue e o in subst (λ (f : EntryOf ℕ). (rank at.0 < rank f.flavour) ⊎ ((rank at.0 ≡ rank f.flavour) × (at.1 ≤ f.number))) (sym h.2) (first.least h.0 h.1);
    }

-- an entry with that number is found
pub entry_found : (number : ℕ) (queue : List Entry) (e : EntryOf ℕ) → Member e (map (entry_map length) queue) → e.number ≡ number → IsSome (first_that (λ (x : Entry). x.number == number) queue)
entry_found number queue e m is =
    let h = member_is queue e m in
    member_found (λ (x : Entry). x.number == number) queue h.0 h.1 (subst (λ n. (h.0.number == n) ≡ true) (sym (ap (λ (x : EntryOf ℕ). x.number) h.2) ∙ is) (eqb_refl h.0.number))
