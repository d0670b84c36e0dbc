-- Worlds whose files are alike, as far as a fold speaks of them, have one shelf.
use Rattle.std.proofs.Common.{◌≡◌, ◌≢◌, inl, inr, ℕ, zero, suc, ◌≤◌, List, [], ◌∷◌, length, take, map, Option, Some, None, Bool, true, false, refl, sym, ◌∙◌, ap, arith}
use Rattle.std.specs.Prelude.{if◌then◌else◌}
use Rattle.std.specs.List.{AllByRecursion}
use Rattle.std.proofs.lemmas.Bool.{cases_eq}
use Rattle.std.proofs.lemmas.List.{length-take}
use Rattle.disk_model.specs.World as W
use Rattle.disk_model.specs.World.{World}
use Rattle.disk_model.specs.Changes.{Only, OnOwn, Rewrites, Torn}
use Rattle.ledger_file.specs.Ledger.{ledger_name}
use Rattle.ledger_rec.specs.Fold.{State}
use Rattle.ledger_rec.specs.Items.{Entry, Receipt, PartMark}
use Rattle.node_model.specs.Items as N
use Rattle.node_model.proofs.Lists.{none_some}
use Rattle.node_store.specs.Contents.{entry_by, receipt_by, mark_by}
use Rattle.node_store.specs.Names.{eight_digits, in_name, out_name, take_number}
use Rattle.node_store.specs.Worlds.{bytes_of, or_else, gift_of, is_absent, contents_in, if_take, takes_in, gift_told, outside_in, shelf_in, HasLength, HasFront, HasNoOther, HasFiles}
use Rattle.node_store.proofs.NameLaws.{one_in_name, in_not_out, in_not_ledger, out_not_ledger}

-- the front of the file is the same
abbrev pub SameFront : List ℕ → ℕ → World → World → Type 0
SameFront name n d c = (b : List ℕ) → d.own name ≡ Some b → n ≤ length b → (e : List ℕ) × (c.own name ≡ Some e) × (take n e ≡ take n b)

-- the files that the fold speaks of are alike in both worlds, and all else that outlives a stop is the same
pub record AreAlike (s : State) (d c : World) : Type 0 where
  pub live : AllByRecursion (λ (e : Entry). e.live ≡ true → c.own (out_name e.number) ≡ d.own (out_name e.number)) s.queue
  pub received : AllByRecursion (λ (r : Receipt). c.own (in_name r.number) ≡ d.own (in_name r.number)) s.inbox
  pub marked : AllByRecursion (λ (m : PartMark). SameFront (in_name m.number) m.len d c) s.marks
  pub takes : (name : List ℕ) (take : ℕ) → take_number name ≡ Some take → c.own name ≡ d.own name
  pub outside : c.outside ≡ d.outside
  pub gifts : c.gifts ≡ d.gifts

-- item by item

entry_alike : (d c : World) (e : Entry) → (e.live ≡ true → c.own (out_name e.number) ≡ d.own (out_name e.number)) → entry_by (contents_in c) e ≡ entry_by (contents_in d) e
entry_alike d c e same = ap (λ (b : N.Body). record (entry_by (contents_in d) e) { body = b }) (go e.live same)
  where
    go : (b : Bool) → (b ≡ true → c.own (out_name e.number) ≡ d.own (out_name e.number)) → (if b then N.Live (bytes_of (c.own (out_name e.number))) else N.Done) ≡ (if b then N.Live (bytes_of (d.own (out_name e.number))) else N.Done)
    go true now = ap (λ (f : Option (List ℕ)). N.Live (bytes_of f)) (now refl)
    go false now = refl

pub entries_alike : (d c : World) (es : List Entry) → AllByRecursion (λ (e : Entry). e.live ≡ true → c.own (out_name e.number) ≡ d.own (out_name e.number)) es → map (entry_by (contents_in c)) es ≡ map (entry_by (contents_in d)) es
entries_alike d c [] same = refl
entries_alike d c (e ∷ es) same = λ i. entry_alike d c e same.0 i ∷ entries_alike d c es same.1 i

receipt_alike : (d c : World) (r : Receipt) → c.gifts ≡ d.gifts → c.own (in_name r.number) ≡ d.own (in_name r.number) → receipt_by (contents_in c) r ≡ receipt_by (contents_in d) r
receipt_alike d c r gifts own = λ i.
    record { number = r.number; from = r.from; key = r.key; bytes = or_else (own i) (gift_of (in_name r.number) r.key.size (gifts i)); secure = r.secure; answered = r.answered; given = is_absent (own i) }

pub receipts_alike : (d c : World) → c.gifts ≡ d.gifts → (rs : List Receipt) → AllByRecursion (λ (r : Receipt). c.own (in_name r.number) ≡ d.own (in_name r.number)) rs → map (receipt_by (contents_in c)) rs ≡ map (receipt_by (contents_in d)) rs
receipts_alike d c gifts [] same = refl
receipts_alike d c gifts (r ∷ rs) same = λ i. receipt_alike d c r gifts same.0 i ∷ receipts_alike d c gifts rs same.1 i

mark_alike : (d c : World) (m : PartMark) → HasFront (in_name m.number) m.len d → SameFront (in_name m.number) m.len d c → mark_by (contents_in c) m ≡ mark_by (contents_in d) m
mark_alike d c m front same =
    let new = same front.0 front.1 front.2 in
    ap (λ (b : List ℕ). record (mark_by (contents_in d) m) { bytes = b })
    (ap (λ (f : Option (List ℕ)). take m.len (bytes_of f)) new.1 ∙ new.2 ∙ sym (ap (λ (f : Option (List ℕ)). take m.len (bytes_of f)) front.1))

pub marks_alike : (d c : World) (ms : List PartMark) → AllByRecursion (λ (m : PartMark). HasFront (in_name m.number) m.len d) ms → AllByRecursion (λ (m : PartMark). SameFront (in_name m.number) m.len d c) ms → map (mark_by (contents_in c)) ms ≡ map (mark_by (contents_in d)) ms
marks_alike d c [] fronts same = refl
marks_alike d c (m ∷ ms) fronts same = λ i. mark_alike d c m fronts.0 same.0 i ∷ marks_alike d c ms fronts.1 same.1 i

pub takes_alike : (d c : World) → ((name : List ℕ) (take : ℕ) → take_number name ≡ Some take → c.own name ≡ d.own name) → takes_in c ≡ takes_in d
takes_alike d c same = λ i name. go name (take_number name) refl i
  where
    go : (name : List ℕ) (o : Option ℕ) → take_number name ≡ o → if_take o (c.own name) ≡ if_take o (d.own name)
    go name None is = refl
    go name (Some take) is = same name take is

pub alike_shelf : (s : State) (d c : World) → HasFiles s d → AreAlike s d c → shelf_in c s ≡ shelf_in d s
alike_shelf s d c has a =
    let takes = takes_alike d c a.takes in
    λ i. record {
      state = record {
        queue = entries_alike d c s.queue a.live i;
        inbox = receipts_alike d c a.gifts s.inbox a.received i;
        refused = (shelf_in d s).state.refused;
        marks = marks_alike d c s.marks has.marked a.marked i;
      };
      recorded = s.takes;
      takes = takes i;
      outside = (ap (λ (f : List ℕ → Option W.OutFile). outside_in (record d { outside = f })) a.outside) i;
      gifts = map gift_told (a.gifts i);
    }

-- and all its files

pub live_files : (d c : World) (es : List Entry) → AllByRecursion (λ (e : Entry). e.live ≡ true → HasLength (out_name e.number) e.key.size d) es → AllByRecursion (λ (e : Entry). e.live ≡ true → c.own (out_name e.number) ≡ d.own (out_name e.number)) es
    → AllByRecursion (λ (e : Entry). e.live ≡ true → HasLength (out_name e.number) e.key.size c) es
live_files d c [] has same = tt
live_files d c (e ∷ es) has same = (λ live. let f = has.0 live in (f.0, same.0 live ∙ f.1, f.2), live_files d c es has.1 same.1)

pub received_files : (d c : World) (rs : List Receipt) → AllByRecursion (λ (r : Receipt). HasNoOther (in_name r.number) r.key.size d) rs → AllByRecursion (λ (r : Receipt). c.own (in_name r.number) ≡ d.own (in_name r.number)) rs
    → AllByRecursion (λ (r : Receipt). HasNoOther (in_name r.number) r.key.size c) rs
received_files d c [] has same = tt
received_files d c (r ∷ rs) has same = (λ b is. has.0 b (sym same.0 ∙ is), received_files d c rs has.1 same.1)

pub marked_files : (d c : World) (ms : List PartMark) → AllByRecursion (λ (m : PartMark). HasFront (in_name m.number) m.len d) ms → AllByRecursion (λ (m : PartMark). SameFront (in_name m.number) m.len d c) ms → AllByRecursion (λ (m : PartMark). HasFront (in_name m.number) m.len c) ms
marked_files d c [] has same = tt
marked_files d c (m ∷ ms) has same =
    let front = has.0 in
    let new = same.0 front.0 front.1 front.2 in
    let long : m.len ≤ length new.0 = omega (arith, ap length new.2, length-take m.len new.0, length-take m.len front.0, front.2) in
    ((new.0, new.1, long), marked_files d c ms has.1 same.1)

pub alike_files : (s : State) (d c : World) → HasFiles s d → AreAlike s d c → HasFiles s c
alike_files s d c has a = record {
  live = live_files d c s.queue has.live a.live;
  marked = marked_files d c s.marks has.marked a.marked;
  received = received_files d c s.inbox has.received a.received;
}

-- Where one own file changed.

pub all_of : {A : Type 0} (P : A → Type 0) → ((x : A) → P x) → (xs : List A) → AllByRecursion P xs
all_of P f [] = tt
all_of P f (x ∷ xs) = (f x, all_of P f xs)

pub all_by : {A : Type 0} (P Q : A → Type 0) → ((x : A) → P x → Q x) → (xs : List A) → AllByRecursion P xs → AllByRecursion Q xs
all_by P Q f [] all = tt
all_by P Q f (x ∷ xs) all = (f x all.0, all_by P Q f xs all.1)

-- a name that is none of a take's
abbrev pub IsNoTake : List ℕ → Type 0
IsNoTake name = take_number name ≡ None

pub ledger_no_take : IsNoTake ledger_name
unfolding take_number
ledger_no_take = refl

pub in_no_take : (n : ℕ) → IsNoTake (in_name n)
unfolding take_number in_name eight_digits
in_no_take n = refl

pub out_no_take : (n : ℕ) → IsNoTake (out_name n)
unfolding take_number out_name eight_digits
out_no_take n = refl

module _ (name : List ℕ) (no_take : IsNoTake name) (d c : World) (others : (n : List ℕ) → n ≢ name → c.own n ≡ d.own n) where
  same_takes : (n : List ℕ) (take : ℕ) → take_number n ≡ Some take → c.own n ≡ d.own n
  same_takes n take is = others n (λ e. none_some (sym no_take ∙ ap take_number (sym e) ∙ is))

  pub one_alike : (s : State) → AllByRecursion (λ (e : Entry). e.live ≡ true → out_name e.number ≢ name) s.queue → AllByRecursion (λ (r : Receipt). in_name r.number ≢ name) s.inbox
      → AllByRecursion (λ (m : PartMark). SameFront (in_name m.number) m.len d c) s.marks → c.outside ≡ d.outside → c.gifts ≡ d.gifts → AreAlike s d c
  one_alike s entries receipts marks outside gifts = record {
    live = all_by (λ (e : Entry). e.live ≡ true → out_name e.number ≢ name) (λ (e : Entry). e.live ≡ true → c.own (out_name e.number) ≡ d.own (out_name e.number)) (λ e other live. others (out_name e.number) (other live)) s.queue entries;
    received = all_by (λ (r : Receipt). in_name r.number ≢ name) (λ (r : Receipt). c.own (in_name r.number) ≡ d.own (in_name r.number)) (λ r other. others (in_name r.number) other) s.inbox receipts;
    marked = marks;
    takes = same_takes;
    outside = outside;
    gifts = gifts;
  }

-- only the ledger changed
pub ledger_alike : (s : State) (d c : World) → Only ledger_name d c → AreAlike s d c
ledger_alike s d c only =
    one_alike ledger_name ledger_no_take d c only.others s
    (all_of (λ (e : Entry). e.live ≡ true → out_name e.number ≢ ledger_name) (λ e live. out_not_ledger e.number) s.queue)
    (all_of (λ (r : Receipt). in_name r.number ≢ ledger_name) (λ r. in_not_ledger r.number) s.inbox)
    (all_of (λ (m : PartMark). SameFront (in_name m.number) m.len d c) (λ m b is long. (b, only.others (in_name m.number) (in_not_ledger m.number) ∙ is, refl)) s.marks)
    only.outside only.gifts

pub shorter_take : (i j : ℕ) (xs : List ℕ) → i ≤ j → take i (take j xs) ≡ take i xs
shorter_take zero j xs le = refl
shorter_take (suc i) zero xs le = absurd (omega (arith, le))
shorter_take (suc i) (suc j) [] le = refl
shorter_take (suc i) (suc j) (x ∷ xs) le = ap (λ (l : List ℕ). x ∷ l) (shorter_take i j xs (omega (arith, le)))

-- bytes were put behind those of an open part
module _ (number at n : ℕ) (d c : World) (step : OnOwn (Rewrites (in_name number) (Torn at n)) d c) where
  front : (m : PartMark) → (m.number ≡ number → m.len ≤ at) → SameFront (in_name m.number) m.len d c
  front m within b is long = elim (cases_eq m.number number) [
    | inl same ↦
        let named : in_name m.number ≡ in_name number = ap in_name same in
        let f = step.own.file b (ap d.own (sym named) ∙ is) in
        (f.0, ap c.own named ∙ f.1, sym (shorter_take m.len at f.0 (within same)) ∙ ap (λ (l : List ℕ). take m.len l) f.2.before ∙ shorter_take m.len at b (within same))
    | inr other ↦ (b, step.own.others (in_name m.number) (λ same. other (one_in_name m.number number same)) ∙ is, refl)
  ]

  pub put_alike : (s : State) → AllByRecursion (λ (r : Receipt). r.number ≢ number) s.inbox → AllByRecursion (λ (m : PartMark). m.number ≡ number → m.len ≤ at) s.marks → AreAlike s d c
  put_alike s unreceived within =
      one_alike (in_name number) (in_no_take number) d c step.own.others s
      (all_of (λ (e : Entry). e.live ≡ true → out_name e.number ≢ in_name number) (λ e live same. in_not_out number e.number (sym same)) s.queue)
      (all_by (λ (r : Receipt). r.number ≢ number) (λ (r : Receipt). in_name r.number ≢ in_name number) (λ r other same. other (one_in_name r.number number same)) s.inbox unreceived)
      (all_by (λ (m : PartMark). m.number ≡ number → m.len ≤ at) (λ (m : PartMark). SameFront (in_name m.number) m.len d c) front s.marks within)
      step.outside step.gifts
