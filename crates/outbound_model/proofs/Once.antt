-- Whatever steps were made, each take number is unused, waits, or was queued once.
use Rattle.std.proofs.Common.{◌≡◌, ◌≢◌, ◌⊎◌, inl, inr, ℕ, ◌==◌, Bool, true, false, List, [], ◌∷◌, ◌++◌, map, Option, Some, None, refl, sym, ◌∙◌, ap, subst, if◌then◌else◌, append_assoc}
use Rattle.std.proofs.lemmas.Bool.Decides.{eqb_tells}
use Rattle.std.proofs.lemmas.Slice.Eq.{bytes_eq-Decides}
use Rattle.std.specs.Str.{bytes_eq}
use Rattle.std.proofs.lemmas.Bool.{cases_Bool}
use Rattle.std.proofs.lemmas.List.{map-append, append-nil}
use Rattle.ftn_addr.specs.Address.{Address}
use Rattle.bso_outbound.specs.declared.kind.Kind.{Kind}
use Rattle.bso_outbound.specs.declared.kind.Kind.TheVariants.{Flow, Mail, Request}
use Rattle.flow_file.specs.Item.{FlowItem, Send, Passed}
use Rattle.node_model.specs.declared.words.Flavour.{Flavour}
use Rattle.node_model.specs.Items.{Entry}
use Rattle.node_model.specs.Outside.{OutFiles}
use Rattle.node_model.specs.Durable.{all_acted}
use Rattle.node_model.specs.Lists.{some_passes}
use Rattle.node_model.proofs.Lists.{some_passes-append, some_passes-last, none_passes-append}
use Rattle.outbound_model.specs.declared.fate.Fate.{Fate}
use Rattle.outbound_model.specs.declared.fate.Fate.TheVariants as F
use Rattle.outbound_model.specs.Outbound.{Outbound, is_recorded}
use Rattle.outbound_model.specs.OwnNames.{number_of}
use Rattle.outbound_model.specs.Fates.{LineDoes, Lines, WholeDoes, Whole, Brings, lines_of}
use Rattle.outbound_model.specs.Steps.{Moves, Queues, Drops, Step, Moved, Queued, Dropped, Hit, Acted, Marked, Unmarked, Changed, Made}
use Rattle.outbound_model.specs.Lives.{Reaches, Along, IsFresh, moved, queued, numbers, numbers_along, Waits, IsSettled, Stage, IsOnce}

pub joins : (a : Outbound) (es : List Step) (b : Outbound) (fs : List Step) (c : Outbound) → Reaches a es b → Reaches b fs c → Reaches a (fs ++ es) c
joins a es b [] c p same = subst (Reaches a es) (sym same) p
joins a es b (f ∷ fs) c p (mid, q, made) = (mid, joins a es b fs mid p q, made)

pub stops : (a : Outbound) (es : List Step) (d : Outbound) → Along a es d → (fs : List Step) × Reaches a fs d
stops a [] d same = ([], same)
stops a (e ∷ es) d (inl path) = (e ∷ es, path)
stops a (e ∷ es) d (inr along) = stops a es d along

-- two names are the same, or not
pub one_or_other : (a b : List ℕ) → (a ≡ b) ⊎ (a ≢ b)
one_or_other a b = pick (cases_Bool (bytes_eq a b))
  where
    pick : (bytes_eq a b ≡ true) ⊎ (bytes_eq a b ≡ false) → (a ≡ b) ⊎ (a ≢ b)
    pick (inl t) = inl ((bytes_eq-Decides a b).0 t)
    pick (inr f) = inr (λ same. let e : bytes_eq a b ≡ true = (bytes_eq-Decides a b).1 same in cc)

some_or_none : {A : Type 0} (x : A) (o : Option A) → o ≡ Some x → o ≡ None → ⊥
some_or_none x o p q = cc

-- the stage of a number at which nothing happened
stays : (n : ℕ) (es fs : List Step) (s t : Outbound) → moved n fs ≡ moved n es → queued n fs ≡ queued n es → is_recorded n t ≡ is_recorded n s
    → ((o : List ℕ) → number_of o ≡ n → t.takes o ≡ s.takes o) → Stage n es s → Stage n fs t
stays n es fs s t m q r k (inl u) =
    inl (record { moved = m ∙ u.moved; queued = q ∙ u.queued; recorded = r ∙ u.recorded; takes = λ o is. k o is ∙ u.takes o is })
stays n es fs s t m q r k (inr (inl w)) =
    inr (inl (record { own = w.own; bytes = w.bytes; is = w.is; moved = m ∙ w.moved; queued = q ∙ w.queued; recorded = r ∙ w.recorded; stands = k w.own w.is ∙ w.stands; same = λ o b is here. w.same o b is (sym (k o is) ∙ here) }))
stays n es fs s t m q r k (inr (inr d)) =
    inr (inr (record { bytes = d.bytes; fates = d.fates; moved = m ∙ d.moved; queued = q ∙ d.queued; recorded = r ∙ d.recorded }))

-- steps that change neither the takes nor what is recorded
quiet : (n : ℕ) (e : Step) (es : List Step) (s t : Outbound) → moved n (e ∷ es) ≡ moved n es → queued n (e ∷ es) ≡ queued n es → t.recorded ≡ s.recorded → t.takes ≡ s.takes → Stage n es s → Stage n (e ∷ es) t
quiet n e es s t m q r k stage = stays n es (e ∷ es) s t m q (ap (λ (ks : List ℕ). is_recorded n (record s { recorded = ks })) r) (λ o is. ap (λ (f : List ℕ → Option (List ℕ)). f o) k) stage

choice : {A : Type 0} (b c : Bool) (x y : A) → b ≡ c → (if b then x else y) ≡ (if c then x else y)
choice b c x y same = ap (λ (v : Bool). if v then x else y) same

-- a number of another take
apart : (n : ℕ) (own o : List ℕ) → number_of own ≢ n → number_of o ≡ n → o ≢ own
apart n own o other is same = other (ap number_of (sym same) ∙ is)

moves : (n : ℕ) (path own bytes : List ℕ) (es : List Step) (s t : Outbound) → Moves path own bytes s t → Stage n es s → Stage n (Moved path own bytes ∷ es) t
moves n path own bytes es s t step stage = either (eqb_tells (number_of own) n)
  where
    either : (((number_of own == n) ≡ true) × (number_of own ≡ n)) ⊎ (((number_of own == n) ≡ false) × (number_of own ≢ n)) → Stage n (Moved path own bytes ∷ es) t
    either (inr miss) =
        stays n es (Moved path own bytes ∷ es) s t (choice (number_of own == n) false (bytes ∷ moved n es) (moved n es) miss.0) refl
        (ap (λ (ks : List ℕ). is_recorded n (record s { recorded = ks })) step.recorded) (λ o is. step.here.others o (apart n own o miss.1 is)) stage
    either (inl hit) = inr (inl (begin stage))
      where
        unrecorded : is_recorded n s ≡ false
        unrecorded = subst (λ (k : ℕ). is_recorded k s ≡ false) hit.1 step.unrecorded

        free : (o : List ℕ) → number_of o ≡ n → s.takes o ≡ None
        free o is = step.apart o (is ∙ sym hit.1)

        same : (o b : List ℕ) → number_of o ≡ n → t.takes o ≡ Some b → (o ≡ own) ⊎ (o ≢ own) → b ≡ bytes
        same o b is here (inl at) = let e : t.takes own ≡ Some b = subst (λ (x : List ℕ). t.takes x ≡ Some b) at here in let f = step.here.here in cc
        same o b is here (inr not_at) = absurd (some_or_none b (t.takes o) here (step.here.others o not_at ∙ free o is))

        begin : Stage n es s → Waits n (Moved path own bytes ∷ es) t
        begin (inl u) = record {
          own = own;
          bytes = bytes;
          is = hit.1;
          moved = choice (number_of own == n) true (bytes ∷ moved n es) (moved n es) hit.0 ∙ ap (λ (xs : List (List ℕ)). bytes ∷ xs) u.moved;
          queued = u.queued;
          recorded = ap (λ (ks : List ℕ). is_recorded n (record s { recorded = ks })) step.recorded ∙ unrecorded;
          stands = step.here.here;
          same = λ o b is here. same o b is here (one_or_other o own);
        }
        begin (inr (inl w)) = absurd (some_or_none w.bytes (s.takes w.own) w.stands (free w.own w.is))
        begin (inr (inr d)) = let e = d.recorded in let f = unrecorded in absurd cc

-- another number more is recorded
others : (n k : ℕ) (ks : List ℕ) → (k == n) ≡ false → some_passes (λ (x : ℕ). x == n) (ks ++ k ∷ []) ≡ some_passes (λ (x : ℕ). x == n) ks
others n k ks miss = go (cases_Bool (some_passes (λ (x : ℕ). x == n) ks))
  where
    go : (some_passes (λ (x : ℕ). x == n) ks ≡ true) ⊎ (some_passes (λ (x : ℕ). x == n) ks ≡ false) → some_passes (λ (x : ℕ). x == n) (ks ++ k ∷ []) ≡ some_passes (λ (x : ℕ). x == n) ks
    go (inl e) = some_passes-append (λ (x : ℕ). x == n) ks (k ∷ []) e ∙ sym e
    go (inr e) = none_passes-append (λ (x : ℕ). x == n) ks k e miss ∙ sym e

queues : (n : ℕ) (own bytes : List ℕ) (dest : Address) (moment : ℕ) (fates : List Fate) (es : List Step) (s t : Outbound) → Queues own bytes dest moment fates s t → Stage n es s → Stage n (Queued own bytes dest moment fates ∷ es) t
queues n own bytes dest moment fates es s t step stage = either (eqb_tells (number_of own) n)
  where
    now : is_recorded n t ≡ is_recorded n (record s { recorded = s.recorded ++ number_of own ∷ [] })
    now = ap (λ (ks : List ℕ). is_recorded n (record s { recorded = ks })) step.recorded

    either : (((number_of own == n) ≡ true) × (number_of own ≡ n)) ⊎ (((number_of own == n) ≡ false) × (number_of own ≢ n)) → Stage n (Queued own bytes dest moment fates ∷ es) t
    either (inr miss) =
        stays n es (Queued own bytes dest moment fates ∷ es) s t refl (choice (number_of own == n) false ((bytes, fates) ∷ queued n es) (queued n es) miss.0)
        (now ∙ others n (number_of own) s.recorded miss.0) (λ o is. ap (λ (f : List ℕ → Option (List ℕ)). f o) step.takes) stage
    either (inl hit) = inr (inr (begin stage))
      where
        unrecorded : is_recorded n s ≡ false
        unrecorded = subst (λ (k : ℕ). is_recorded k s ≡ false) hit.1 step.first

        begin : Stage n es s → IsSettled n (Queued own bytes dest moment fates ∷ es) t
        begin (inl u) = absurd (some_or_none bytes (s.takes own) step.stands (u.takes own hit.1))
        begin (inr (inl w)) = record {
          bytes = bytes;
          fates = fates;
          moved = w.moved ∙ ap (λ (b : List ℕ). b ∷ []) (sym (w.same own bytes hit.1 step.stands));
          queued = choice (number_of own == n) true ((bytes, fates) ∷ queued n es) (queued n es) hit.0 ∙ ap (λ (xs : List (List ℕ × List Fate)). (bytes, fates) ∷ xs) w.queued;
          recorded = now ∙ some_passes-last (λ (k : ℕ). k == n) s.recorded (number_of own) hit.0;
        }
        begin (inr (inr d)) = let e = d.recorded in let f = unrecorded in absurd cc

drops : (n : ℕ) (own : List ℕ) (es : List Step) (s t : Outbound) → Drops own s t → Stage n es s → Stage n (Dropped own ∷ es) t
drops n own es s t step stage = either (eqb_tells (number_of own) n)
  where
    now : is_recorded n t ≡ is_recorded n s
    now = ap (λ (ks : List ℕ). is_recorded n (record s { recorded = ks })) step.recorded

    either : (((number_of own == n) ≡ true) × (number_of own ≡ n)) ⊎ (((number_of own == n) ≡ false) × (number_of own ≢ n)) → Stage n (Dropped own ∷ es) t
    either (inr miss) = stays n es (Dropped own ∷ es) s t refl refl now (λ o is. step.gone.others o (apart n own o miss.1 is)) stage
    either (inl hit) = ends stage
      where
        was : is_recorded n s ≡ true
        was = subst (λ (k : ℕ). is_recorded k s ≡ true) hit.1 step.was

        ends : Stage n es s → Stage n (Dropped own ∷ es) t
        ends (inl u) = let e = u.recorded in let f = was in absurd cc
        ends (inr (inl w)) = let e = w.recorded in let f = was in absurd cc
        ends (inr (inr d)) = inr (inr (record { bytes = d.bytes; fates = d.fates; moved = d.moved; queued = d.queued; recorded = now ∙ d.recorded }))

stage_after : (n : ℕ) (e : Step) (es : List Step) (s t : Outbound) → Made e s t → Stage n es s → Stage n (e ∷ es) t
stage_after n (Moved path own bytes) es s t step stage = moves n path own bytes es s t step stage
stage_after n (Queued own bytes dest moment fates) es s t step stage = queues n own bytes dest moment fates es s t step stage
stage_after n (Dropped own) es s t step stage = drops n own es s t step stage
stage_after n (Hit number) es s t step stage = quiet n (Hit number) es s t refl refl step.recorded step.takes stage
stage_after n (Acted number) es s t step stage = quiet n (Acted number) es s t refl refl step.recorded step.takes stage
stage_after n (Marked path text) es s t step stage = quiet n (Marked path text) es s t refl refl step.recorded step.takes stage
stage_after n (Unmarked path text) es s t step stage = quiet n (Unmarked path text) es s t refl refl step.recorded step.takes stage
stage_after n Changed es s t step stage = quiet n Changed es s t refl refl step.recorded step.takes stage

-- the queue's numbers

abbrev queue_numbers : List Entry → List ℕ
queue_numbers q = map (λ (e : Entry). e.number) q

-- nothing is queued
none_more : (q r : List Entry) → r ≡ q → queue_numbers r ≡ queue_numbers q ++ []
none_more q r same = ap queue_numbers same ∙ sym (append-nil (queue_numbers q))

line_numbers : (dest : Address) (flavour : Flavour) (outside : OutFiles) (q : List Entry) (i : FlowItem) (f : Fate) (r : List Entry) → LineDoes dest flavour outside q i f r → queue_numbers r ≡ queue_numbers q ++ numbers (f ∷ [])
line_numbers dest flavour outside q Passed f r (passed, same) = none_more q r same ∙ ap (λ (g : Fate). queue_numbers q ++ numbers (g ∷ [])) (sym passed)
line_numbers dest flavour outside q (Send action path) F.Missing r (why, same) = none_more q r same
line_numbers dest flavour outside q (Send action path) F.Over r (can, why, same) = none_more q r same
line_numbers dest flavour outside q (Send action path) (F.Again n) r (can, why, same) = none_more q r same
line_numbers dest flavour outside q (Send action path) (F.Queued n) r (can, file, is, free, same) = ap queue_numbers same ∙ map-append (λ (e : Entry). e.number) q _
line_numbers dest flavour outside q (Send action path) F.Passed r h = absurd h

numbers_first : (f : Fate) (fs : List Fate) → numbers (f ∷ fs) ≡ numbers (f ∷ []) ++ numbers fs
numbers_first (F.Queued n) fs = refl
numbers_first (F.Again n) fs = refl
numbers_first F.Missing fs = refl
numbers_first F.Over fs = refl
numbers_first F.Passed fs = refl

lines_numbers : (dest : Address) (flavour : Flavour) (outside : OutFiles) (q : List Entry) (is : List FlowItem) (fs : List Fate) (r : List Entry) → Lines dest flavour outside q is fs r → queue_numbers r ≡ queue_numbers q ++ numbers fs
lines_numbers dest flavour outside q [] [] r same = none_more q r same
lines_numbers dest flavour outside q (i ∷ is) (f ∷ fs) r (mid, line, rest) =
    lines_numbers dest flavour outside mid is fs r rest
    ∙ (ap (λ (xs : List ℕ). xs ++ numbers fs) (line_numbers dest flavour outside q i f mid line)
    ∙ (append_assoc (queue_numbers q) (numbers (f ∷ [])) (numbers fs) ∙ ap (λ (xs : List ℕ). queue_numbers q ++ xs) (sym (numbers_first f fs))))
lines_numbers dest flavour outside q [] (f ∷ fs) r h = absurd h
lines_numbers dest flavour outside q (i ∷ is) [] r h = absurd h

one_number : (kind : Kind) (dest : Address) (moment : ℕ) (bytes : List ℕ) (q : List Entry) (f : Fate) (r : List Entry) → WholeDoes kind dest moment bytes q f r → queue_numbers r ≡ queue_numbers q ++ numbers (f ∷ [])
one_number kind dest moment bytes q (F.Queued n) r (within, free, same) = ap queue_numbers same ∙ map-append (λ (e : Entry). e.number) q _
one_number kind dest moment bytes q (F.Again n) r (within, why, same) = none_more q r same
one_number kind dest moment bytes q F.Over r (why, same) = none_more q r same
one_number kind dest moment bytes q F.Missing r h = absurd h
one_number kind dest moment bytes q F.Passed r h = absurd h

whole_numbers : (kind : Kind) (dest : Address) (moment : ℕ) (bytes : List ℕ) (q : List Entry) (fs : List Fate) (r : List Entry) → Whole kind dest moment bytes q fs r → queue_numbers r ≡ queue_numbers q ++ numbers fs
whole_numbers kind dest moment bytes q (f ∷ []) r h = one_number kind dest moment bytes q f r h
whole_numbers kind dest moment bytes q [] r h = absurd h
whole_numbers kind dest moment bytes q (f ∷ g ∷ fs) r h = absurd h

brought_numbers : (kind : Kind) (dest : Address) (moment : ℕ) (outside : OutFiles) (bytes : List ℕ) (q : List Entry) (fs : List Fate) (r : List Entry) → Brings kind dest moment outside bytes q fs r → queue_numbers r ≡ queue_numbers q ++ numbers fs
brought_numbers (Flow flavour) dest moment outside bytes q fs r h = lines_numbers dest flavour outside q (lines_of bytes) fs r h
brought_numbers (Mail flavour) dest moment outside bytes q fs r h = whole_numbers (Mail flavour) dest moment bytes q fs r h
brought_numbers Request dest moment outside bytes q fs r h = whole_numbers Request dest moment bytes q fs r h

acted_numbers : (n : ℕ) (q : List Entry) → queue_numbers (all_acted n q) ≡ queue_numbers q
acted_numbers n [] = refl
acted_numbers n (e ∷ q) =
    ap (λ (x : ℕ). x ∷ queue_numbers (all_acted n q)) (same_number (e.number == n)) ∙ ap (λ (xs : List ℕ). e.number ∷ xs) (acted_numbers n q)
  where
    same_number : (b : Bool) → (if b then record e { acted = true } else e).number ≡ e.number
    same_number true = refl
    same_number false = refl

queue_after : (e : Step) (es : List Step) (s t : Outbound) → Made e s t → queue_numbers s.queue ≡ numbers_along es → queue_numbers t.queue ≡ numbers_along (e ∷ es)
queue_after (Moved path own bytes) es s t step so = ap queue_numbers step.queue ∙ so
queue_after (Queued own bytes dest moment fates) es s t step so =
    brought_numbers step.kind dest moment s.outside bytes s.queue fates t.queue step.brings ∙ ap (λ (xs : List ℕ). xs ++ numbers fates) so
queue_after (Dropped own) es s t step so = ap queue_numbers step.queue ∙ so
queue_after (Hit number) es s t step so = ap queue_numbers step.queue ∙ so
queue_after (Acted number) es s t step so = ap queue_numbers step.queue ∙ (acted_numbers number s.queue ∙ so)
queue_after (Marked path text) es s t step so = ap queue_numbers step.queue ∙ so
queue_after (Unmarked path text) es s t step so = ap queue_numbers step.queue ∙ so
queue_after Changed es s t step so = ap queue_numbers step.queue ∙ so

fresh : (a : Outbound) → IsFresh a → IsOnce [] a
fresh a new = record {
  each = λ n. inl (record { moved = refl; queued = refl; recorded = ap (λ (ks : List ℕ). is_recorded n (record a { recorded = ks })) new.recorded; takes = λ o is. new.takes o });
  queue = ap queue_numbers new.queue;
}

pub once : (a : Outbound) (es : List Step) (b : Outbound) → IsFresh a → Reaches a es b → IsOnce es b
once a [] b new same = subst (IsOnce []) (sym same) (fresh a new)
once a (e ∷ es) b new (mid, path, made) =
    let so = once a es mid new path in
    record { each = λ n. stage_after n e es mid b made (so.each n); queue = queue_after e es mid b made so.queue }
