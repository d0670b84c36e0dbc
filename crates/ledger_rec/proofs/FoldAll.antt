-- The fold of records, one after another.
use Rattle.std.proofs.Common.{◌≡◌, List, [], ◌∷◌, ◌++◌, Bool, true, false, ◌&&◌, map, Option, Some, None, ℕ, refl, sym, ap, subst, ◌∙◌, inl, inr, append_assoc}
use Rattle.std.specs.Prelude.{option_and_then, option_map, is_some, IsSome, not, nat_lt, if◌then◌else◌}
use Rattle.std.proofs.lemmas.Bool.{cases_Bool, and_parts}
use Rattle.std.proofs.lemmas.List.{map-append}
use Rattle.ledger_rec.proofs.Agreeing.{map_more}
use Rattle.ledger_rec.specs.Batch.{queue_records, taken_records, answered_records, may_follow, all_queued}
use Rattle.ledger_rec.specs.Fold.{State, fold_step, fold_all, may_queue, new_entry, changed, waits_for_answer, answered, is_among}
use Rattle.ledger_rec.specs.Items.{Entry, Receipt}
use Rattle.ledger_rec.specs.Record.{NewFileText, RecordText, Queue}

-- the state, and what is folded from it
abbrev pub then_all : List RecordText → Option State → Option State
then_all rs o = option_and_then (λ t. fold_all t rs) o

-- one step, and then some, and then others
behind : (o : Option State) (xs ys : List RecordText) → ((t : State) → fold_all t (xs ++ ys) ≡ then_all ys (fold_all t xs)) → then_all (xs ++ ys) o ≡ then_all ys (then_all xs o)
behind None xs ys rest = refl
behind (Some t) xs ys rest = rest t

pub fold_all-append : (s : State) (xs ys : List RecordText) → fold_all s (xs ++ ys) ≡ then_all ys (fold_all s xs)
fold_all-append s [] ys = refl
fold_all-append s (x ∷ xs) ys = behind (fold_step s x) xs ys (λ t. fold_all-append t xs ys)

-- one record more
pub fold_all_more : (s t : State) (rs : List RecordText) (r : RecordText) → fold_all s rs ≡ Some t → fold_all s (rs ++ r ∷ []) ≡ fold_step t r
fold_all_more s t rs r is = fold_all-append s rs (r ∷ []) ∙ ap (then_all (r ∷ [])) is ∙ one (fold_step t r)
  where
    one : (o : Option State) → then_all [] o ≡ o
    one None = refl
    one (Some u) = refl

-- a file that may follow is queued behind the others
pub step_follows : (r : NewFileText) (files : List NewFileText) (s : State) → may_follow r (all_queued files s) ≡ true → fold_step (all_queued files s) (Queue r) ≡ Some (all_queued (files ++ r ∷ []) s)
step_follows r files s follows =
    let parts = and_parts (nat_lt 0 r.number) (may_queue r (all_queued files s).queue) follows in
    let queue : (s.queue ++ map new_entry files) ++ new_entry r ∷ [] ≡ s.queue ++ map new_entry (files ++ r ∷ []) = append_assoc s.queue (map new_entry files) (new_entry r ∷ []) ∙ ap (λ (es : List Entry). s.queue ++ es) (map_more new_entry files r) in
    rw (parts.0, parts.1) (ap (λ (es : List Entry). Some (record s { queue = es })) queue)

pub step_breaks : (r : NewFileText) (s : State) → may_follow r s ≡ false → fold_step s (Queue r) ≡ None
step_breaks r s breaks = elim (cases_Bool (nat_lt 0 r.number)) as (λ _. fold_step s (Queue r) ≡ None) [
  | inl numbered ↦ (let rule : may_queue r s.queue ≡ false = sym (ap (λ (b : Bool). b && may_queue r s.queue) numbered) ∙ breaks in rw (numbered, rule) refl)
  | inr zeroth ↦ rw zeroth refl
]

-- the files so far are queued, and one more
pub files_more : (s : State) (files : List NewFileText) (r : NewFileText) → fold_all s (queue_records files) ≡ Some (all_queued files s) → may_follow r (all_queued files s) ≡ true → fold_all s (queue_records (files ++ r ∷ [])) ≡ Some (all_queued (files ++ r ∷ []) s)
files_more s files r so_far follows =
    ap (fold_all s) (sym (map_more (λ (file : NewFileText). Queue file) files r)) ∙ fold_all_more s (all_queued files s) (queue_records files) (Queue r) so_far ∙ step_follows r files s follows

none_then : (rs : List RecordText) (o : Option State) → o ≡ None → then_all rs o ≡ None
none_then rs o is = ap (then_all rs) is

-- the files so far are queued, and the next breaks a rule
pub files_break : (s : State) (files : List NewFileText) (r : NewFileText) (rest : List NewFileText) → fold_all s (queue_records files) ≡ Some (all_queued files s) → may_follow r (all_queued files s) ≡ false → fold_all s (queue_records (files ++ r ∷ rest)) ≡ None
files_break s files r rest so_far breaks =
    ap (fold_all s) (map-append (λ (file : NewFileText). Queue file) files (r ∷ rest)) ∙ fold_all-append s (queue_records files) (queue_records (r ∷ rest)) ∙ ap (then_all (queue_records (r ∷ rest))) so_far
    ∙ none_then (queue_records rest) (fold_step (all_queued files s) (Queue r)) (step_breaks r (all_queued files s) breaks)

-- what a take and an answer do reads neither the queue nor one another

module _ (s u : State) where
  taken_alike : (take : Option ℕ) → s.takes ≡ u.takes → is_some (fold_all s (taken_records take)) ≡ is_some (fold_all u (taken_records take))
  taken_alike None same = refl
  taken_alike (Some take) same = elim (cases_Bool (nat_lt 0 take)) as (λ _. is_some (fold_all s (taken_records (Some take))) ≡ is_some (fold_all u (taken_records (Some take)))) [
    | inl numbered ↦ rw numbered (elim (cases_Bool (is_among take s.takes)) as (λ _. is_some (then_all [] (if not (is_among take s.takes) then Some (record s { takes = s.takes ++ take ∷ [] }) else None)) ≡ is_some (then_all [] (if not (is_among take u.takes) then Some (record u { takes = u.takes ++ take ∷ [] }) else None))) [
      | inl used ↦ rw (used, sym (ap (is_among take) same) ∙ used) refl
      | inr new ↦ rw (new, sym (ap (is_among take) same) ∙ new) refl
    ])
    | inr zeroth ↦ rw zeroth refl
  ]

  mapped_alike : (o : Option (List Receipt)) → is_some (then_all [] (option_map (λ inbox. record s { inbox = inbox }) o)) ≡ is_some (then_all [] (option_map (λ inbox. record u { inbox = inbox }) o))
  mapped_alike None = refl
  mapped_alike (Some inbox) = refl

  answered_alike : (receipt : Option ℕ) → s.inbox ≡ u.inbox → is_some (fold_all s (answered_records receipt)) ≡ is_some (fold_all u (answered_records receipt))
  answered_alike None same = refl
  answered_alike (Some receipt) same = elim (cases_Bool (nat_lt 0 receipt)) as (λ _. is_some (fold_all s (answered_records (Some receipt))) ≡ is_some (fold_all u (answered_records (Some receipt)))) [
    | inl numbered ↦ rw numbered (mapped_alike (changed (waits_for_answer receipt) answered s.inbox) ∙ ap (λ (inbox : List Receipt). is_some (then_all [] (option_map (λ ys. record u { inbox = ys }) (changed (waits_for_answer receipt) answered inbox)))) same)
    | inr zeroth ↦ rw zeroth refl
  ]

-- a take leaves the inbox
taken_inbox : (s t : State) (take : Option ℕ) → fold_all s (taken_records take) ≡ Some t → t.inbox ≡ s.inbox
taken_inbox s t None is = (let same : s ≡ t = cc is in ap (λ (u : State). u.inbox) (sym same))
taken_inbox s t (Some take) is = elim (cases_Bool (nat_lt 0 take)) as (λ _. t.inbox ≡ s.inbox) [
  | inl numbered ↦ (let now : then_all [] (if not (is_among take s.takes) then Some (record s { takes = s.takes ++ take ∷ [] }) else None) ≡ Some t = sym (ap (λ (b : Bool). then_all [] (if b then (if not (is_among take s.takes) then Some (record s { takes = s.takes ++ take ∷ [] }) else None) else None)) (ap (λ (b : Bool). b && true) numbered)) ∙ is in
      elim (cases_Bool (is_among take s.takes)) as (λ _. t.inbox ≡ s.inbox) [
        | inl used ↦ absurd (let clash : None ≡ Some t = sym (ap (λ (b : Bool). then_all [] (if not b then Some (record s { takes = s.takes ++ take ∷ [] }) else None)) used) ∙ now in cc clash)
        | inr new ↦ (let told : Some (record s { takes = s.takes ++ take ∷ [] }) ≡ Some t = sym (ap (λ (b : Bool). then_all [] (if not b then Some (record s { takes = s.takes ++ take ∷ [] }) else None)) new) ∙ now in
            let same : record s { takes = s.takes ++ take ∷ [] } ≡ t = cc told in
            ap (λ (u : State). u.inbox) (sym same))
      ])
  | inr zeroth ↦ absurd (let clash : None ≡ Some t = sym (ap (λ (b : Bool). then_all [] (if b then (if not (is_among take s.takes) then Some (record s { takes = s.takes ++ take ∷ [] }) else None) else None)) (ap (λ (b : Bool). b && true) zeroth)) ∙ is in cc clash)
]

-- what is folded behind a state that is there
parts_fold : (s u : State) (o : Option State) (receipt : Option ℕ) → ((t : State) → o ≡ Some t → t.inbox ≡ s.inbox) → is_some (then_all (answered_records receipt) o) ≡ (is_some o && is_some (fold_all s (answered_records receipt)))
parts_fold s u None receipt inbox = refl
parts_fold s u (Some t) receipt inbox = answered_alike t s receipt (inbox t refl)

-- a batch follows where its files do, and its take and its answer would
pub batch_follows : (s : State) (files : List NewFileText) (take receipt : Option ℕ) → fold_all s (queue_records files) ≡ Some (all_queued files s) → is_some (fold_all s (queue_records files ++ taken_records take ++ answered_records receipt)) ≡ (is_some (fold_all s (taken_records take)) && is_some (fold_all s (answered_records receipt)))
batch_follows s files take receipt queued =
    let u = all_queued files s in
    ap is_some (fold_all-append s (queue_records files ++ taken_records take) (answered_records receipt))
    ∙ ap (λ (o : Option State). is_some (then_all (answered_records receipt) o)) (fold_all-append s (queue_records files) (taken_records take) ∙ ap (then_all (taken_records take)) queued)
    ∙ parts_fold u u (fold_all u (taken_records take)) receipt (λ t is. taken_inbox u t take is)
    ∙ ap (λ (b : Bool). b && is_some (fold_all u (answered_records receipt))) (taken_alike u s take refl)
    ∙ ap (λ (b : Bool). is_some (fold_all s (taken_records take)) && b) (answered_alike u s receipt refl)

-- and doesn't where its files don't
pub batch_breaks : (s : State) (files : List NewFileText) (take receipt : Option ℕ) → fold_all s (queue_records files) ≡ None → fold_all s (queue_records files ++ taken_records take ++ answered_records receipt) ≡ None
batch_breaks s files take receipt none =
    fold_all-append s (queue_records files ++ taken_records take) (answered_records receipt)
    ∙ ap (then_all (answered_records receipt)) (fold_all-append s (queue_records files) (taken_records take) ∙ ap (then_all (taken_records take)) none)

pub no_state : (o : Option State) → is_some o ≡ false → o ≡ None
no_state None is = refl
no_state (Some s) is = absurd (cc is)

-- where all are folded, so are the first of them, and then the others

some_before : (ys : List RecordText) (o : Option State) → IsSome (then_all ys o) → IsSome o
some_before ys None is = absurd (cc is)
some_before ys (Some t) is = refl

pub front_follows : (s : State) (xs ys : List RecordText) → IsSome (fold_all s (xs ++ ys)) → IsSome (fold_all s xs)
front_follows s xs ys is = some_before ys (fold_all s xs) (subst IsSome (fold_all-append s xs ys) is)

pub fold_joined : (s t : State) (xs ys : List RecordText) → fold_all s xs ≡ Some t → fold_all s (xs ++ ys) ≡ fold_all t ys
fold_joined s t xs ys is = fold_all-append s xs ys ∙ ap (then_all ys) is

pub rest_follows : (s t : State) (xs ys : List RecordText) → fold_all s xs ≡ Some t → IsSome (fold_all s (xs ++ ys)) → IsSome (fold_all t ys)
rest_follows s t xs ys is all = subst IsSome (fold_joined s t xs ys is) all
