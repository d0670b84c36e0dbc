-- What a call does to what is settled: nothing but flags of receipts, or one receipt or refusal more.
use Rattle.std.proofs.Common.{◌≡◌, ℕ, Bool, true, false, ◌==◌, if◌then◌else◌, [], ◌∷◌, ◌++◌, Option, Some, None, map, ◌∙◌, refl, sym, ap, subst, inl, inr}
use Rattle.ftn_addr.specs.Key.{Key}
use Rattle.node_model.specs.Items.{Receipt, Refusal}
use Rattle.node_model.specs.Durable.{Durable, given_receipt, answered_receipt, all_answered}
use Rattle.node_model.specs.Node.{Session, Node, session_at, hold_in}
use Rattle.node_model.specs.Rows.{FileAnswer, Have, Refuse, Elsewhere, Go, Whole, From, Late, FileMade, unheld, released, grown, LeaveRow}
use Rattle.node_model.specs.Calls.{Call, Answer, Fault, Queue_call, Knock_call, Open_call, Offer_call, Read_call, Got_call, Skip_call, File_call, Data_call, Leave_call, Act_call, Give_call, Queued, Let_in, Busy, Begun, Offered, Nothing, Came, Acted, Given, Held, Settled, Filed, More, Whole_now, Disk, Read, Full, No_memory, Made, NotMade, Unmade, Passes, Before_it, Marked, After_it}
use Rattle.node_model.specs.Receipts.{SameReceipt}
use Rattle.node_model.proofs.Moves.{inbox_of_mark_any, inbox_at_stride, refused_of_mark_any, refused_at_stride}

pub data Change (d e : Durable) : Type 0 where
  Still : e.inbox ≡ d.inbox → e.refused ≡ d.refused → Change d e
  Flags : (f : Receipt → Receipt) → ((r : Receipt) → SameReceipt r (f r)) → e.inbox ≡ map f d.inbox → e.refused ≡ d.refused → Change d e
  Receives : (r : Receipt) → e.inbox ≡ d.inbox ++ r ∷ [] → e.refused ≡ d.refused → Change d e
  Refuses : (r : Refusal) → e.inbox ≡ d.inbox → e.refused ≡ d.refused ++ r ∷ [] → Change d e

-- Flags of receipts.

same_receipt : (r : Receipt) → SameReceipt r r
same_receipt r = record { number = refl; from_is = refl; key_is = refl; bytes = refl; secure = refl }

pub given_flags : (number : ℕ) (r : Receipt) → SameReceipt r (given_receipt number r)
given_flags number r = go (r.number == number)
  where
    go : (b : Bool) → SameReceipt r (if b then record r { given = true } else r)
    go true = record { number = refl; from_is = refl; key_is = refl; bytes = refl; secure = refl }
    go false = same_receipt r

pub answered_flags : (number : ℕ) (r : Receipt) → SameReceipt r (answered_receipt number r)
answered_flags number r = go (r.number == number)
  where
    go : (b : Bool) → SameReceipt r (if b then record r { answered = true } else r)
    go true = record { number = refl; from_is = refl; key_is = refl; bytes = refl; secure = refl }
    go false = same_receipt r

-- A node's state that is another's.

abbrev pub still : (n : Node) (m x : Node) → m ≡ x → x.state ≡ n.state → Change n.state m.state
still n m x is same =
    Still (ap (λ (y : Node). y.state.inbox) is ∙ ap (λ (d : Durable). d.inbox) same) (ap (λ (y : Node). y.state.refused) is ∙ ap (λ (d : Durable). d.refused) same)

abbrev pub answers_flags : (d e : Durable) (o : Option ℕ) → e.inbox ≡ all_answered o d.inbox → e.refused ≡ d.refused → Change d e
answers_flags d e None is same = Still is same
answers_flags d e (Some number) is same = Flags (answered_receipt number) (answered_flags number) is same

-- what was held was marked before
abbrev pub after_marks : (n r m : Node) → r.state.inbox ≡ n.state.inbox → r.state.refused ≡ n.state.refused → Change r.state m.state → Change n.state m.state
after_marks n r m a b (Still i j) = Still (i ∙ a) (j ∙ b)
after_marks n r m a b (Flags f flags i j) = Flags f flags (i ∙ ap (map f) a) (j ∙ b)
after_marks n r m a b (Receives x i j) = Receives x (i ∙ ap (λ xs. xs ++ x ∷ []) a) (j ∙ b)
after_marks n r m a b (Refuses x i j) = Refuses x (i ∙ a) (j ∙ ap (λ xs. xs ++ x ∷ []) b)

-- A call that is made.

abbrev pub file_change : (seat : ℕ) (s : Session) (key : Key) (answer : FileAnswer) (n new : Node) → FileMade seat s key answer n new → Change n.state new.state
file_change seat s key Have n new m = still n new _ m refl
file_change seat s key Refuse n new m = Refuses _ (ap (λ (x : Node). x.state.inbox) m) (ap (λ (x : Node). x.state.refused) m)
file_change seat s key Elsewhere n new m = still n new _ m refl
file_change seat s key Go n new m = still n new _ m.2 refl
file_change seat s key Whole n new m = Receives _ (ap (λ (x : Node). x.state.inbox) m.2) (ap (λ (x : Node). x.state.refused) m.2)
file_change seat s key (From place) n new m = still n new _ m.2 refl
file_change seat s key Late n new m = still n new _ m refl

abbrev pub leave_change : (seat : ℕ) (old new : Node) → LeaveRow seat old new → Change old.state new.state
leave_change seat old new (inl m) = Still (ap (λ (n : Node). n.state.inbox) m.after ∙ inbox_of_mark_any m.session.hold old.state) (ap (λ (n : Node). n.state.refused) m.after ∙ refused_of_mark_any m.session.hold old.state)
leave_change seat old new (inr m) = still old new _ m.1 refl

abbrev pub made_change : (seat : ℕ) (old new : Node) (call : Call) (answer : Answer) → Made seat old call answer new → Change old.state new.state
made_change seat old new (Queue_call files taken answered) (Queued slots) m = answers_flags old.state new.state answered (ap (λ (n : Node). n.state.inbox) m.after) (ap (λ (n : Node). n.state.refused) m.after)
made_change seat old new (Knock_call role) Let_in m = still old new _ m.after refl
made_change seat old new (Knock_call role) Busy m = still old new _ m.after refl
made_change seat old new Offer_call (Offered number key) m = still old new _ m.3.after refl
made_change seat old new Offer_call Nothing m = still old new _ m.after refl
made_change seat old new (Read_call place room) (Came bytes) m = still old new _ m.after refl
made_change seat old new (Got_call number) Settled m = Still (ap (λ (n : Node). n.state.inbox) m.after) (ap (λ (n : Node). n.state.refused) m.after)
made_change seat old new (Skip_call number) Settled m = still old new _ m.after refl
made_change seat old new (Act_call dest) (Acted number) m = Still (ap (λ (n : Node). n.state.inbox) m.after) (ap (λ (n : Node). n.state.refused) m.after)
made_change seat old new (Act_call dest) Nothing m = still old new _ m.after refl
made_change seat old new Give_call (Given number) m = Flags (given_receipt number) (given_flags number) (ap (λ (n : Node). n.state.inbox) m.after) (ap (λ (n : Node). n.state.refused) m.after)
made_change seat old new Give_call (Held number) m = still old new _ m.after refl
made_change seat old new Give_call Nothing m = still old new _ m.after refl
made_change seat old new (Open_call role peers secure moment) (Begun number) m = still old new _ m.1.after refl
made_change seat old new (File_call key offset) (Filed answer) m =
    after_marks old (released seat m.session old) new (inbox_of_mark_any m.session.hold old.state) (refused_of_mark_any m.session.hold old.state) (file_change seat (unheld m.session) key answer (released seat m.session old) new m.made)
made_change seat old new (Data_call bytes) More m = Still (ap (λ (n : Node). n.state.inbox) m.after ∙ inbox_at_stride (grown m.hold bytes) old.state) (ap (λ (n : Node). n.state.refused) m.after ∙ refused_at_stride (grown m.hold bytes) old.state)
made_change seat old new (Data_call bytes) Whole_now m = Receives _ (ap (λ (n : Node). n.state.inbox) m.after) (ap (λ (n : Node). n.state.refused) m.after)
made_change seat old new Leave_call Settled m = leave_change seat old new m
made_change seat old new call answer m = absurd m

-- A call that finds no place or no memory: what it held is marked at most.

-- its state is that of before, but for marks
pub record Unchanged (d e : Durable) : Type 0 where
  pub inbox : e.inbox ≡ d.inbox
  pub refused : e.refused ≡ d.refused

unchanged : (old new x : Node) → new ≡ x → x.state ≡ old.state → Unchanged old.state new.state
unchanged old new x is same =
    record { inbox = ap (λ (y : Node). y.state.inbox) is ∙ ap (λ (d : Durable). d.inbox) same; refused = ap (λ (y : Node). y.state.refused) is ∙ ap (λ (d : Durable). d.refused) same }

pub unmade_unchanged : (seat fulls : ℕ) (old : Node) (call : Call) (new : Node) → Unmade seat fulls old call new → Unchanged old.state new.state
unmade_unchanged seat fulls old (File_call key offset) new u =
    record { inbox = ap (λ (n : Node). n.state.inbox) u.after ∙ inbox_of_mark_any u.session.hold old.state; refused = ap (λ (n : Node). n.state.refused) u.after ∙ refused_of_mark_any u.session.hold old.state }
unmade_unchanged seat fulls old (Queue_call files taken answered) new u = unchanged old new _ u.after refl
unmade_unchanged seat fulls old call new u = unchanged old new _ u refl

-- one of the durable states that a call passes
pub passes_change : (seat : ℕ) (old : Node) (call : Call) (d : Durable) → Passes seat old call d → Change old.state d
passes_change seat old call d (Before_it is) = Still (ap (λ (x : Durable). x.inbox) is) (ap (λ (x : Durable). x.refused) is)
passes_change seat old call d (Marked unbroken first is) =
    Still (ap (λ (x : Durable). x.inbox) is ∙ inbox_of_mark_any (hold_in (session_at old seat)) old.state) (ap (λ (x : Durable). x.refused) is ∙ refused_of_mark_any (hold_in (session_at old seat)) old.state)
passes_change seat old call d (After_it unbroken answer new made is) =
    subst (Change old.state) (sym is) (made_change seat old new call answer made)

-- A refusal that isn't the disk's leaves inbox and refused as they were.
pub refused_change : (seat : ℕ) (old : Node) (call : Call) (fault : Fault) (new : Node) → NotMade seat old call fault new → Change old.state new.state
refused_change seat old call (Disk count) new (may, inl same) = still old new _ same.1 refl
refused_change seat old call (Disk count) new (may, inr b) = passes_change seat old call new.state b.passes
refused_change seat old call (Read count) new r = still old new _ r.3 refl
refused_change seat old call Full new r = let u = unmade_unchanged seat _ old call new r.2 in Still u.inbox u.refused
refused_change seat old call No_memory new r = let u = unmade_unchanged seat _ old call new r.2 in Still u.inbox u.refused
