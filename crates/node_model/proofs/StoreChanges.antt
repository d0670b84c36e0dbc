-- What the store keeps, after each durable change but those of the queue.
use Rattle.std.proofs.Common.{◌≡◌, ◌≢◌, ℕ, ◌≤◌, Bool, true, false, ◌||◌, ◌==◌, List, [], ◌∷◌, ◌++◌, Option, map, length, sym, ◌∙◌, subst}
use Rattle.ftn_addr.specs.Address.{Address}
use Rattle.ftn_addr.specs.Key.{Key}
use Rattle.ftn_addr.specs.Files.{is_same}
use Rattle.node_model.specs.Items.{Receipt, Refusal, Mark}
use Rattle.node_model.specs.Lists.{Each}
use Rattle.node_model.specs.Durable.{Durable, is_known, is_received, is_refused, unmarked, with_mark, with_receipt, with_refusal}
use Rattle.node_model.specs.Receipts.{SameReceipt}
use Rattle.node_model.specs.Sound.{same_receipt, same_refusal, same_mark, ReceiptFits}
use Rattle.node_model.proofs.Lists.{is_same_flip, or_false, both_false, none_passes-append, Each-append, Each-without, Each-weaker}
use Rattle.node_model.proofs.Distinct.{apart_numbers, each_map, each_none, some_passes_map, without_none, none_each, distinct_without, distinct_push, distinct_map}
use Rattle.node_model.proofs.Marks.{Each-placed, distinct_placed, inbox_mark}
use Rattle.node_model.proofs.Seats.{StoreFits}

-- a mark of that number is of that sender and key
abbrev pub IsOwnNumber : Address → Key → ℕ → Mark → Type 0
IsOwnNumber from key number m = m.number ≡ number → is_same from key m.from m.key ≡ true

-- the marks of other senders and keys have other numbers
pub others_numbered : (from : Address) (key : Key) (number : ℕ) (xs : List Mark) → Each (IsOwnNumber from key number) xs → Each (λ (x : Mark). x.number ≢ number) (unmarked from key xs)
others_numbered from key number xs agree =
    both (unmarked from key xs) (Each-without (IsOwnNumber from key number) (λ (x : Mark). is_same from key x.from x.key) xs agree) (without_none (λ (x : Mark). is_same from key x.from x.key) xs)
  where
    both : (ys : List Mark) → Each (IsOwnNumber from key number) ys → Each (λ (x : Mark). is_same from key x.from x.key ≡ false) ys → Each (λ (x : Mark). x.number ≢ number) ys
    both [] a b = tt
    both (y ∷ ys) a b = ((λ same. off_both (a.0 same) b.0), both ys a.1 b.1)
      where
        off_both : {c : Bool} → c ≡ true → c ≡ false → ⊥
        off_both {c = c} t e = absurd (cc)

-- what is asked of the sender, key and number of a mark or a receipt
pub record Numbered (d : Durable) (drawn : ℕ) (from : Address) (key : Key) (number : ℕ) : Type 0 where
  pub new : is_known from key d ≡ false
  pub marks : Each (IsOwnNumber from key number) d.marks
  pub receipts : Each (λ (r : Receipt). r.number ≢ number) d.inbox
  pub some : 1 ≤ number
  pub was_drawn : number ≤ drawn

pub store_mark : (m : Mark) (d : Durable) (staged drawn : ℕ) → Numbered d drawn m.from m.key m.number → length m.bytes ≤ m.key.size → StoreFits d staged drawn → StoreFits (with_mark m d) staged drawn
store_mark m d staged drawn ok fits f =
    let p : Mark → Bool = λ x. is_same m.from m.key x.from x.key in
    let rest = unmarked m.from m.key d.marks in
    let apart : Each (λ (x : Mark). x.number ≢ m.number) rest = others_numbered m.from m.key m.number d.marks ok.marks in
    record {
      queue = f.queue;
      inbox = inbox_mark m d ok.new fits f.inbox;
      marks = distinct_placed (λ (x q : Mark). x.number == q.number) m rest (distinct_without (λ (x q : Mark). x.number == q.number) p d.marks f.marks) (Each-weaker (λ (x : Mark). x.number ≢ m.number) (λ (x : Mark). (x.number == m.number) ≡ false) (λ x e. apart_numbers x.number m.number e) rest apart) (none_each (λ (x : Mark). m.number == x.number) rest (Each-weaker (λ (x : Mark). x.number ≢ m.number) (λ (x : Mark). (m.number == x.number) ≡ false) (λ x e. apart_numbers m.number x.number (λ same. e (sym same))) rest apart));
      receipts = f.receipts;
      apart = Each-placed (λ (x : Mark). Each (λ (r : Receipt). x.number ≢ r.number) d.inbox) m rest (Each-weaker (λ (r : Receipt). r.number ≢ m.number) (λ (r : Receipt). m.number ≢ r.number) (λ r e same. e (sym same)) d.inbox ok.receipts) (Each-without (λ (x : Mark). Each (λ (r : Receipt). x.number ≢ r.number) d.inbox) p d.marks f.apart);
      marks_drawn = Each-placed (λ (x : Mark). (1 ≤ x.number) × (x.number ≤ drawn)) m rest (ok.some, ok.was_drawn) (Each-without (λ (x : Mark). (1 ≤ x.number) × (x.number ≤ drawn)) p d.marks f.marks_drawn);
      receipts_drawn = f.receipts_drawn;
      queue_staged = f.queue_staged;
      drawn_few = f.drawn_few;
    }

-- a receipt or refusal of a sender and key that weren't known

known_received : (from : Address) (key : Key) (d : Durable) (r : Receipt) → is_known from key d ≡ false → is_same from key r.from r.key ≡ false → is_known from key (with_receipt r d) ≡ false
known_received from key d r new apart =
    let h = or_false (is_received from key d) (is_refused from key d) new in
    both_false (is_received from key (with_receipt r d)) (is_refused from key d) (none_passes-append (λ (x : Receipt). is_same from key x.from x.key) d.inbox r h.0 apart) h.1

known_refused : (from : Address) (key : Key) (d : Durable) (r : Refusal) → is_known from key d ≡ false → is_same from key r.from r.key ≡ false → is_known from key (with_refusal r d) ≡ false
known_refused from key d r new apart =
    let h = or_false (is_received from key d) (is_refused from key d) new in
    both_false (is_received from key d) (is_refused from key (with_refusal r d)) h.0 (none_passes-append (λ (x : Refusal). is_same from key x.from x.key) d.refused r h.1 apart)

pub known_after_receipt : (from : Address) (key : Key) (d : Durable) (r : Receipt) → is_known from key d ≡ false → is_same r.from r.key from key ≡ false → is_known from key (with_receipt r d) ≡ false
known_after_receipt from key d r new apart = known_received from key d r new (is_same_flip r.from r.key from key apart)

pub known_after_refusal : (from : Address) (key : Key) (d : Durable) (r : Refusal) → is_known from key d ≡ false → is_same r.from r.key from key ≡ false → is_known from key (with_refusal r d) ≡ false
known_after_refusal from key d r new apart = known_refused from key d r new (is_same_flip r.from r.key from key apart)

pub both_each : {A : Type 0} (P Q R : A → Type 0) → ((x : A) → P x → Q x → R x) → (xs : List A) → Each P xs → Each Q xs → Each R xs
both_each P Q R f [] a b = tt
both_each P Q R f (x ∷ xs) a b = (f x a.0 b.0, both_each P Q R f xs a.1 b.1)

pub store_receipt : (r : Receipt) (d : Durable) (staged drawn : ℕ) → Numbered d drawn r.from r.key r.number → ReceiptFits r.key r.bytes → StoreFits d staged drawn → StoreFits (with_receipt r d) staged drawn
store_receipt r d staged drawn ok fits f =
    let p : Mark → Bool = λ x. is_same r.from r.key x.from x.key in
    let rest = unmarked r.from r.key d.marks in
    let h = or_false (is_received r.from r.key d) (is_refused r.from r.key d) ok.new in
    let none : Each (λ (x : Receipt). is_same r.from r.key x.from x.key ≡ false) d.inbox = each_none (λ (x : Receipt). is_same r.from r.key x.from x.key) d.inbox h.0 in
    let apart : Each (λ (x : Mark). x.number ≢ r.number) rest = others_numbered r.from r.key r.number d.marks ok.marks in
    record {
      queue = f.queue;
      inbox = record {
        once = distinct_push same_receipt d.inbox r f.inbox.once (Each-weaker (λ (x : Receipt). is_same r.from r.key x.from x.key ≡ false) (λ (x : Receipt). same_receipt x r ≡ false) (λ x e. is_same_flip r.from r.key x.from x.key e) d.inbox none);
        not_refused = Each-append (λ (x : Receipt). is_refused x.from x.key d ≡ false) d.inbox (r ∷ []) f.inbox.not_refused (h.1, tt);
        refused_once = f.inbox.refused_once;
        marks_once = distinct_without same_mark p d.marks f.inbox.marks_once;
        marks_new = both_each (λ (x : Mark). is_known x.from x.key d ≡ false) (λ (x : Mark). p x ≡ false) (λ (x : Mark). is_known x.from x.key (with_receipt r d) ≡ false) (λ x new e. known_after_receipt x.from x.key d r new e) rest (Each-without (λ (x : Mark). is_known x.from x.key d ≡ false) p d.marks f.inbox.marks_new) (without_none p d.marks);
        mark_sizes = Each-without (λ (x : Mark). length x.bytes ≤ x.key.size) p d.marks f.inbox.mark_sizes;
        sizes = Each-append (λ (x : Receipt). ReceiptFits x.key x.bytes) d.inbox (r ∷ []) f.inbox.sizes (fits, tt);
      };
      marks = distinct_without (λ (x q : Mark). x.number == q.number) p d.marks f.marks;
      receipts = distinct_push (λ (x q : Receipt). x.number == q.number) d.inbox r f.receipts (Each-weaker (λ (x : Receipt). x.number ≢ r.number) (λ (x : Receipt). (x.number == r.number) ≡ false) (λ x e. apart_numbers x.number r.number e) d.inbox ok.receipts);
      apart = both_each (λ (x : Mark). Each (λ (y : Receipt). x.number ≢ y.number) d.inbox) (λ (x : Mark). x.number ≢ r.number) (λ (x : Mark). Each (λ (y : Receipt). x.number ≢ y.number) (d.inbox ++ r ∷ [])) (λ x a e. Each-append (λ (y : Receipt). x.number ≢ y.number) d.inbox (r ∷ []) a (e, tt)) rest (Each-without (λ (x : Mark). Each (λ (y : Receipt). x.number ≢ y.number) d.inbox) p d.marks f.apart) apart;
      marks_drawn = Each-without (λ (x : Mark). (1 ≤ x.number) × (x.number ≤ drawn)) p d.marks f.marks_drawn;
      receipts_drawn = Each-append (λ (x : Receipt). (1 ≤ x.number) × (x.number ≤ drawn)) d.inbox (r ∷ []) f.receipts_drawn ((ok.some, ok.was_drawn), tt);
      queue_staged = f.queue_staged;
      drawn_few = f.drawn_few;
    }

pub store_refusal : (r : Refusal) (d : Durable) (staged drawn : ℕ) → is_known r.from r.key d ≡ false → StoreFits d staged drawn → StoreFits (with_refusal r d) staged drawn
store_refusal r d staged drawn new f =
    let p : Mark → Bool = λ x. is_same r.from r.key x.from x.key in
    let rest = unmarked r.from r.key d.marks in
    let h = or_false (is_received r.from r.key d) (is_refused r.from r.key d) new in
    let none : Each (λ (x : Receipt). is_same r.from r.key x.from x.key ≡ false) d.inbox = each_none (λ (x : Receipt). is_same r.from r.key x.from x.key) d.inbox h.0 in
    let unlike : Each (λ (x : Refusal). is_same r.from r.key x.from x.key ≡ false) d.refused = each_none (λ (x : Refusal). is_same r.from r.key x.from x.key) d.refused h.1 in
    record {
      queue = f.queue;
      inbox = record {
        once = f.inbox.once;
        not_refused = both_each (λ (x : Receipt). is_refused x.from x.key d ≡ false) (λ (x : Receipt). is_same r.from r.key x.from x.key ≡ false) (λ (x : Receipt). is_refused x.from x.key (with_refusal r d) ≡ false) (λ x a e. none_passes-append (λ (y : Refusal). is_same x.from x.key y.from y.key) d.refused r a (is_same_flip r.from r.key x.from x.key e)) d.inbox f.inbox.not_refused none;
        refused_once = distinct_push same_refusal d.refused r f.inbox.refused_once (Each-weaker (λ (x : Refusal). is_same r.from r.key x.from x.key ≡ false) (λ (x : Refusal). same_refusal x r ≡ false) (λ x e. is_same_flip r.from r.key x.from x.key e) d.refused unlike);
        marks_once = distinct_without same_mark p d.marks f.inbox.marks_once;
        marks_new = both_each (λ (x : Mark). is_known x.from x.key d ≡ false) (λ (x : Mark). p x ≡ false) (λ (x : Mark). is_known x.from x.key (with_refusal r d) ≡ false) (λ x a e. known_after_refusal x.from x.key d r a e) rest (Each-without (λ (x : Mark). is_known x.from x.key d ≡ false) p d.marks f.inbox.marks_new) (without_none p d.marks);
        mark_sizes = Each-without (λ (x : Mark). length x.bytes ≤ x.key.size) p d.marks f.inbox.mark_sizes;
        sizes = f.inbox.sizes;
      };
      marks = distinct_without (λ (x q : Mark). x.number == q.number) p d.marks f.marks;
      receipts = f.receipts;
      apart = Each-without (λ (x : Mark). Each (λ (y : Receipt). x.number ≢ y.number) d.inbox) p d.marks f.apart;
      marks_drawn = Each-without (λ (x : Mark). (1 ≤ x.number) × (x.number ≤ drawn)) p d.marks f.marks_drawn;
      receipts_drawn = f.receipts_drawn;
      queue_staged = f.queue_staged;
      drawn_few = f.drawn_few;
    }

-- flags of receipts

abbrev pub flagged : (Receipt → Receipt) → Durable → Durable
flagged f d = record d { inbox = map f d.inbox }

pub known_flagged : (f : Receipt → Receipt) → ((r : Receipt) → SameReceipt r (f r)) → (from : Address) (key : Key) (d : Durable) → is_known from key (flagged f d) ≡ is_known from key d
known_flagged f flags from key d =
    let h = some_passes_map (λ (x : Receipt). is_same from key x.from x.key) f d.inbox (λ r. let a = flags r in λ i. is_same from key (a.from_is i) (a.key_is i)) in
    λ i. h i || is_refused from key d

pub numbers_flagged : (f : Receipt → Receipt) → ((r : Receipt) → SameReceipt r (f r)) → (P : ℕ → Type 0) (xs : List Receipt) → Each (λ (r : Receipt). P r.number) xs → Each (λ (r : Receipt). P r.number) (map f xs)
numbers_flagged f flags P xs a = each_map (λ (r : Receipt). P r.number) (λ (r : Receipt). P r.number) f xs (λ r p. subst P (sym (flags r).number) p) a

pub store_flagged : (f : Receipt → Receipt) → ((r : Receipt) → SameReceipt r (f r)) → (d : Durable) (staged drawn : ℕ) → StoreFits d staged drawn → StoreFits (flagged f d) staged drawn
store_flagged f flags d staged drawn s =
    record {
      queue = s.queue;
      inbox = record {
        once = distinct_map same_receipt f d.inbox (λ x y. let a = flags x in let b = flags y in λ i. is_same (a.from_is i) (a.key_is i) (b.from_is i) (b.key_is i)) s.inbox.once;
        not_refused = each_map (λ (r : Receipt). is_refused r.from r.key d ≡ false) (λ (r : Receipt). is_refused r.from r.key d ≡ false) f d.inbox (λ r e. let a = flags r in (λ i. is_refused (a.from_is i) (a.key_is i) d) ∙ e) s.inbox.not_refused;
        refused_once = s.inbox.refused_once;
        marks_once = s.inbox.marks_once;
        marks_new = Each-weaker (λ (m : Mark). is_known m.from m.key d ≡ false) (λ (m : Mark). is_known m.from m.key (flagged f d) ≡ false) (λ m e. known_flagged f flags m.from m.key d ∙ e) d.marks s.inbox.marks_new;
        mark_sizes = s.inbox.mark_sizes;
        sizes = each_map (λ (r : Receipt). ReceiptFits r.key r.bytes) (λ (r : Receipt). ReceiptFits r.key r.bytes) f d.inbox (λ r e. let a = flags r in subst (λ (q : Key × Option (List ℕ)). ReceiptFits q.0 q.1) (λ i. (sym a.key_is i, sym a.bytes i)) e) s.inbox.sizes;
      };
      marks = s.marks;
      receipts = distinct_map (λ (x q : Receipt). x.number == q.number) f d.inbox (λ x y. let a = flags x in let b = flags y in λ i. a.number i == b.number i) s.receipts;
      apart = Each-weaker (λ (m : Mark). Each (λ (r : Receipt). m.number ≢ r.number) d.inbox) (λ (m : Mark). Each (λ (r : Receipt). m.number ≢ r.number) (map f d.inbox)) (λ m a. numbers_flagged f flags (λ x. m.number ≢ x) d.inbox a) d.marks s.apart;
      marks_drawn = s.marks_drawn;
      receipts_drawn = numbers_flagged f flags (λ x. (1 ≤ x) × (x ≤ drawn)) d.inbox s.receipts_drawn;
      queue_staged = s.queue_staged;
      drawn_few = s.drawn_few;
    }
