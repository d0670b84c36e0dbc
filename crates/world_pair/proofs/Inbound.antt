-- What a receiver keeps of one sender: each receipt once and whole, each mark and each hold the front of a queued file.
use Rattle.std.proofs.Common.{◌≡◌, ◌≢◌, ◌⊎◌, ℕ, Bool, true, false, List, [], ◌∷◌, ◌++◌, Option, Some, None, refl, sym, ap, ◌∙◌, subst, inl, inr, ⊎_elim, if◌then◌else◌}
use Rattle.ftn_addr.specs.Address.{Address}
use Rattle.ftn_addr.specs.Key.{Key}
use Rattle.node_model.specs.Lists.{Each, some_passes}
use Rattle.node_model.specs.Items.{Receipt}
use Rattle.node_model.specs.Items.{Refusal}
use Rattle.node_model.specs.Items.{Mark}
use Rattle.ftn_addr.specs.Files.{is_same}
use Rattle.node_model.specs.Durable.{Durable, is_received, is_known, mark_of, bytes_of_mark, marked, unmarked, with_receipt, with_refusal, with_mark}
use Rattle.node_model.specs.Node.{Hold}
use Rattle.node_model.specs.Rows.{mark_for, is_ahead, mark_held, mark_any}
use Rattle.world_pair.specs.World.{GivenFile}
use Rattle.node_model.specs.Sound.{Distinct, same_receipt}
use Rattle.node_model.proofs.Lists.{Each-append, Each-weaker, Each-member, Each-without, some_passes-append, some_passes-last, none_passes-append, or_true, or_true_right, or_false, or_cases, both_false, is_false, is_same_true, is_same_at, is_same_flip, first_that_is, off}
use Rattle.node_model.proofs.Marks.{Each-placed}
use Rattle.world_pair.proofs.Flow.{WasQueued-course_after, Front-course_after}
use Rattle.world_pair.specs.Flow.{Front, HasFile}
use Rattle.world_pair.specs.Invariant.{InboxHolds, MarkHolds, PartHolds, ReceiptHolds}

-- more files
pub inbound_grows : (files more : List GivenFile) (dests : List Address) (from : Address) (refuses : Key → Bool) (d : Durable) (holds : ℕ → Option Hold) → InboxHolds files dests from refuses d holds → InboxHolds (files ++ more) dests from refuses d holds
inbound_grows files more dests from refuses d holds i =
    record {
      once = i.once;
      items = Each-weaker (ReceiptHolds files dests from) (ReceiptHolds (files ++ more) dests from) (λ r o. record { from_is = o.from_is; bytes = o.bytes; kept = o.kept; queued = WasQueued-course_after files more dests r.key o.bytes o.queued }) d.inbox i.items;
      marks = Each-weaker (MarkHolds files dests from) (MarkHolds (files ++ more) dests from) (λ m o. record { from_is = o.from_is; front = Front-course_after files more dests m.key m.bytes o.front }) d.marks i.marks;
      each_hold = λ k h e. let o = i.each_hold k h e in record { from_is = o.from_is; unknown = o.unknown; wanted = o.wanted; front = Front-course_after files more dests h.key h.bytes o.front };
      apart = i.apart;
    }

-- fewer holds
pub inbound_fewer : (files : List GivenFile) (dests : List Address) (from : Address) (refuses : Key → Bool) (d : Durable) (holds holds' : ℕ → Option Hold) → ((k : ℕ) (h : Hold) → holds' k ≡ Some h → holds k ≡ Some h) → InboxHolds files dests from refuses d holds → InboxHolds files dests from refuses d holds'
inbound_fewer files dests from refuses d holds holds' less i =
    record {
      once = i.once;
      items = i.items;
      marks = i.marks;
      each_hold = λ k h e. i.each_hold k h (less k h e);
      apart = λ j k g h a b s. i.apart j k g h (less j g a) (less k h b) s;
    }

-- one more hold, at that seat
pub inbound_holds : (files : List GivenFile) (dests : List Address) (from : Address) (refuses : Key → Bool) (d : Durable) (holds holds' : ℕ → Option Hold) (seat : ℕ) (new : Hold) → PartHolds files dests from d refuses new → ((k : ℕ) (h : Hold) → k ≢ seat → holds k ≡ Some h → h.key ≢ new.key) → ((k : ℕ) (h : Hold) → holds' k ≡ Some h → ((k ≡ seat) × (h ≡ new)) ⊎ ((k ≢ seat) × (holds k ≡ Some h))) → InboxHolds files dests from refuses d holds → InboxHolds files dests from refuses d holds'
inbound_holds files dests from refuses d holds holds' seat new ok others split i =
    record {
      once = i.once;
      items = i.items;
      marks = i.marks;
      each_hold = λ k h e. ⊎_elim (λ (c : (k ≡ seat) × (h ≡ new)). subst (PartHolds files dests from d refuses) (sym c.1) ok) (λ (c : (k ≢ seat) × (holds k ≡ Some h)). i.each_hold k h c.1) (split k h e);
      apart = λ j k g h a b s. two j k g h s (split j g a) (split k h b);
    }
  where
    two : (j k : ℕ) (g h : Hold) → g.key ≡ h.key → ((j ≡ seat) × (g ≡ new)) ⊎ ((j ≢ seat) × (holds j ≡ Some g)) → ((k ≡ seat) × (h ≡ new)) ⊎ ((k ≢ seat) × (holds k ≡ Some h)) → j ≡ k
    two j k g h s (inl a) (inl b) = a.0 ∙ sym b.0
    two j k g h s (inl a) (inr b) = absurd (others k h b.0 b.1 (sym s ∙ ap (λ (x : Hold). x.key) a.1))
    two j k g h s (inr a) (inl b) = absurd (others j g a.0 a.1 (s ∙ ap (λ (x : Hold). x.key) b.1))
    two j k g h s (inr a) (inr b) = i.apart j k g h a.1 b.1 s

-- a mark of the front of a queued file
pub inbound_mark : (files : List GivenFile) (dests : List Address) (from : Address) (refuses : Key → Bool) (d : Durable) (holds : ℕ → Option Hold) (m : Mark) → MarkHolds files dests from m → InboxHolds files dests from refuses d holds → InboxHolds files dests from refuses (with_mark m d) holds
inbound_mark files dests from refuses d holds m ok i =
    record {
      once = i.once;
      items = i.items;
      marks = Each-placed (MarkHolds files dests from) m (unmarked m.from m.key d.marks) ok (Each-without (MarkHolds files dests from) _ d.marks i.marks);
      each_hold = λ k h e. let o = i.each_hold k h e in record { from_is = o.from_is; unknown = o.unknown; wanted = o.wanted; front = o.front };
      apart = i.apart;
    }

pub inbound_mark_held : (files : List GivenFile) (dests : List Address) (from : Address) (refuses : Key → Bool) (d : Durable) (holds : ℕ → Option Hold) (h : Hold) → h.from ≡ from → Front files dests h.key h.bytes → InboxHolds files dests from refuses d holds → InboxHolds files dests from refuses (mark_held h d) holds
inbound_mark_held files dests from refuses d holds h of front i = go (is_ahead h d)
  where
    go : (b : Bool) → InboxHolds files dests from refuses (if b then with_mark (mark_for h) d else d) holds
    go true = inbound_mark files dests from refuses d holds (mark_for h) (record { from_is = of; front = front }) i
    go false = i

pub inbound_at_stride : (files : List GivenFile) (dests : List Address) (from : Address) (refuses : Key → Bool) (d : Durable) (holds : ℕ → Option Hold) (h : Hold) (b : Bool) → h.from ≡ from → Front files dests h.key h.bytes → InboxHolds files dests from refuses d holds → InboxHolds files dests from refuses (if b then with_mark (mark_for h) d else d) holds
inbound_at_stride files dests from refuses d holds h true of front i = inbound_mark files dests from refuses d holds (mark_for h) (record { from_is = of; front = front }) i
inbound_at_stride files dests from refuses d holds h false of front i = i

pub inbound_mark_any : (files : List GivenFile) (dests : List Address) (from : Address) (refuses : Key → Bool) (d : Durable) (holds : ℕ → Option Hold) (o : Option Hold) → ((h : Hold) → o ≡ Some h → PartHolds files dests from d refuses h) → InboxHolds files dests from refuses d holds → InboxHolds files dests from refuses (mark_any o d) holds
inbound_mark_any files dests from refuses d holds None ok i = i
inbound_mark_any files dests from refuses d holds (Some h) ok i = let o = ok h refl in inbound_mark_held files dests from refuses d holds h o.from_is o.front i

-- a new receipt for a key that no seat holds any more
pub no_repeats_last : (xs : List Receipt) (r : Receipt) → Distinct same_receipt xs → some_passes (λ (q : Receipt). is_same r.from r.key q.from q.key) xs ≡ false → Distinct same_receipt (xs ++ r ∷ [])
no_repeats_last [] r n e = (refl, tt)
no_repeats_last (x ∷ xs) r n e =
    let h = or_false (is_same r.from r.key x.from x.key) _ e in
    (none_passes-append (λ (q : Receipt). is_same x.from x.key q.from q.key) xs r n.0 (is_same_flip r.from r.key x.from x.key h.0), no_repeats_last xs r n.1 h.1)

-- what else is unknown stays so
pub unknown_after : (from : Address) (key : Key) (d : Durable) (r : Receipt) → r.key ≢ key → is_known from key d ≡ false → is_known from key (with_receipt r d) ≡ false
unknown_after from key d r other e =
    let h = or_false (is_received from key d) _ e in
    both_false _ _ (none_passes-append (λ (q : Receipt). is_same from key q.from q.key) d.inbox r h.0 (is_false _ (λ t. other (sym (is_same_true from key r.from r.key t).1)))) h.1

pub unknown_after_refusal : (from : Address) (key : Key) (d : Durable) (r : Refusal) → r.key ≢ key → is_known from key d ≡ false → is_known from key (with_refusal r d) ≡ false
unknown_after_refusal from key d r other e =
    let h = or_false (is_received from key d) _ e in
    both_false _ _ h.0 (none_passes-append (λ (q : Refusal). is_same from key q.from q.key) d.refused r h.1 (is_false _ (λ t. other (sym (is_same_true from key r.from r.key t).1))))

pub inbound_receipt : (files : List GivenFile) (dests : List Address) (from : Address) (refuses : Key → Bool) (d : Durable) (holds : ℕ → Option Hold) (r : Receipt) → ReceiptHolds files dests from r → is_known from r.key d ≡ false → ((k : ℕ) (h : Hold) → holds k ≡ Some h → r.key ≢ h.key) → InboxHolds files dests from refuses d holds → InboxHolds files dests from refuses (with_receipt r d) holds
inbound_receipt files dests from refuses d holds r ok unknown free i =
    record {
      once = no_repeats_last d.inbox r i.once (subst (λ a. some_passes (λ (q : Receipt). is_same a r.key q.from q.key) d.inbox ≡ false) (sym ok.from_is) (or_false (is_received from r.key d) _ unknown).0);
      items = Each-append (ReceiptHolds files dests from) d.inbox (r ∷ []) i.items (ok, tt);
      marks = Each-without (MarkHolds files dests from) _ d.marks i.marks;
      each_hold = λ k h e. let o = i.each_hold k h e in record { from_is = o.from_is; unknown = unknown_after from h.key d r (free k h e) o.unknown; wanted = o.wanted; front = o.front };
      apart = i.apart;
    }

pub inbound_refusal : (files : List GivenFile) (dests : List Address) (from : Address) (refuses : Key → Bool) (d : Durable) (holds : ℕ → Option Hold) (r : Refusal) → refuses r.key ≡ true → InboxHolds files dests from refuses d holds → InboxHolds files dests from refuses (with_refusal r d) holds
inbound_refusal files dests from refuses d holds r refused i =
    record {
      once = i.once;
      items = i.items;
      marks = Each-without (MarkHolds files dests from) _ d.marks i.marks;
      each_hold = λ k h e.
          let o = i.each_hold k h e in
          record { from_is = o.from_is; unknown = unknown_after_refusal from h.key d r (λ s. off (sym refused ∙ (ap refuses s ∙ o.wanted))) o.unknown; wanted = o.wanted; front = o.front };
      apart = i.apart;
    }

-- known stays known
pub known_after : (from : Address) (key : Key) (d : Durable) (r : Receipt) → is_known from key d ≡ true → is_known from key (with_receipt r d) ≡ true
known_after from key d r e = ⊎_elim (λ a. or_true _ _ (some_passes-append _ d.inbox (r ∷ []) a)) (λ b. or_true_right _ _ b) (or_cases (is_received from key d) _ e)

pub known_after_refusal : (from : Address) (key : Key) (d : Durable) (r : Refusal) → is_known from key d ≡ true → is_known from key (with_refusal r d) ≡ true
known_after_refusal from key d r e = ⊎_elim (λ a. or_true _ _ a) (λ b. or_true_right _ _ (some_passes-append _ d.refused (r ∷ []) b)) (or_cases (is_received from key d) _ e)

pub known_now : (from : Address) (d : Durable) (r : Receipt) → r.from ≡ from → is_known from r.key (with_receipt r d) ≡ true
known_now from d r of = or_true _ _ (some_passes-last (λ (q : Receipt). is_same from r.key q.from q.key) d.inbox r (is_same_at from r.key r.from r.key (sym of) refl))

pub known_now_refused : (from : Address) (d : Durable) (r : Refusal) → r.from ≡ from → is_known from r.key (with_refusal r d) ≡ true
known_now_refused from d r of = or_true_right _ _ (some_passes-last (λ (q : Refusal). is_same from r.key q.from q.key) d.refused r (is_same_at from r.key r.from r.key (sym of) refl))

pub known_after_mark : (from : Address) (key : Key) (d : Durable) (h : Hold) → is_known from key (mark_held h d) ≡ is_known from key d
known_after_mark from key d h = go (is_ahead h d)
  where
    go : (b : Bool) → is_known from key (if b then with_mark (mark_for h) d else d) ≡ is_known from key d
    go true = refl
    go false = refl

pub known_after_mark_any : (from : Address) (key : Key) (d : Durable) (o : Option Hold) → is_known from key (mark_any o d) ≡ is_known from key d
known_after_mark_any from key d None = refl
known_after_mark_any from key d (Some h) = known_after_mark from key d h

-- the bytes of a mark are the front of a queued file, and so are no bytes
pub front_of_mark : (files : List GivenFile) (dests : List Address) (from : Address) (key : Key) (d : Durable) → Each (MarkHolds files dests from) d.marks → HasFile files dests key → Front files dests key (marked from key d)
front_of_mark files dests from key d ok file = go (mark_of from key d) refl
  where
    go : (o : Option Mark) → mark_of from key d ≡ o → Front files dests key (bytes_of_mark o)
    go None e = record { bytes = file.bytes; queued = file.queued; is = refl }
    go (Some m) e =
        let found = first_that_is (λ (n : Mark). is_same from key n.from n.key) d.marks m e in
        let same = is_same_true from key m.from m.key found.1 in
        subst (λ k. Front files dests k m.bytes) (sym same.1) (Each-member (MarkHolds files dests from) m d.marks ok found.0).front
