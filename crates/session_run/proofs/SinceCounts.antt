-- What rows of a session leave of its desk's counts, and the ends that a refusal gives.
use Rattle.std.proofs.Common.{◌≡◌, ◌⊎◌, ◌∙◌, ℕ, zero, suc, Bool, true, false, List, [], ◌∷◌, Some, sym, ap, subst, inl, inr}
use Rattle.ftn_addr.specs.Counts.{Increased, CountGrew}
use Rattle.ftn_addr.proofs.CountsGrow.{count_grew-refl, count_grew-le, count_grew-increased, count_grew-then, increased-then, then-increased}
use Rattle.node_model.specs.Node.{Node}
use Rattle.node_model.specs.Calls.{Call, Fault, Disk, Read, Full, No_memory, Answer, Queued, Let_in, Busy, Begun, Offered, Nothing, Came, Settled, Filed, More, Whole_now, Acted, Given, Held, Refused, Event, one, Counts, CountsRise, MayBreak, counts_of, Caused, Knows, Tells, Counts_alone, OtherSteps, Drifts, DeskState, Turned, asked_of, Beside, EndsRefused, OwnRow, Made_row, Missing, Rowed, CallsBeside, Turns}
use Rattle.session_core.specs.Ends.{End}
use Rattle.session_core.specs.Ends as E
use Rattle.session_core.specs.Sessions.{fault_end}
use Rattle.session_run.specs.Laws.{FaultSince, Since, DeskCause}
use Rattle.session_run.proofs.Causes.{Met, Plain_end, EndedBy}
use Rattle.session_run.proofs.StepCounts.{step_caused}

broke_on : (a b : Counts) (now : ℕ) (count : ℕ) → CountGrew b.faults now → FaultSince count a b → (a.broken ≡ Some count) ⊎ (Increased a.faults count × CountGrew count now)
broke_on a b now count later (inl e) = inl e
broke_on a b now count later (inr r) = inr (r.0, count_grew-then count b.faults now r.1 later)

pub since_same : (a : Counts) → Since a a
since_same a = record { faults = count_grew-refl a.faults; fulls = count_grew-refl a.fulls; broke = λ count e. inl e }

since_is : (a b c : Counts) → Since a b → c ≡ b → Since a c
since_is a b c s e = subst (λ x. Since a x) (sym e) s

pub since_on : (a b c : Counts) (call : Call) (answer : Answer) → Since a b → Caused b call answer c → Since a c
since_on a b c call (Refused (Disk count)) s (may, inl same) = since_is a b c s same.1
since_on a b c call (Refused (Disk count)) s (may, inr broke) = subst (λ x. Since a x) (sym broke.2)
    (record { faults = count_grew-increased a.faults count (then-increased a.faults b.faults count s.faults broke.1); fulls = s.fulls; broke = λ n e. inr (let same : count ≡ n = cc in subst (λ (k : ℕ). Increased a.faults k × CountGrew k count) same (then-increased a.faults b.faults count s.faults broke.1, count_grew-refl count)) })
since_on a b c call (Refused (Read count)) s read = subst (λ x. Since a x) (sym read.3)
    (record { faults = count_grew-increased a.faults count (then-increased a.faults b.faults count s.faults read.2); fulls = s.fulls; broke = λ n e. broke_on a b count n (count_grew-increased b.faults count read.2) (s.broke n e) })
since_on a b c call (Refused Full) s full = subst (λ x. Since a x) (sym full.3)
    (record { faults = s.faults; fulls = count_grew-increased a.fulls c.fulls (then-increased a.fulls b.fulls c.fulls s.fulls full.2); broke = s.broke })
since_on a b c call (Refused No_memory) s e = since_is a b c s e.2
since_on a b c call (Queued slots) s e = since_is a b c s e.1
since_on a b c call Let_in s e = since_is a b c s e.1
since_on a b c call Busy s e = since_is a b c s e.1
since_on a b c call (Begun number) s e = since_is a b c s e.1
since_on a b c call (Offered number key) s e = since_is a b c s e.1
since_on a b c call Nothing s e = since_is a b c s e.1
since_on a b c call (Came bytes) s e = since_is a b c s e.1
since_on a b c call Settled s e = since_is a b c s e.1
since_on a b c call (Filed answer) s e = since_is a b c s e.1
since_on a b c call More s e = since_is a b c s e.1
since_on a b c call Whole_now s e = since_is a b c s e.1
since_on a b c call (Acted number) s e = since_is a b c s e.1
since_on a b c call (Given number) s e = since_is a b c s e.1
since_on a b c call (Held number) s e = since_is a b c s e.1

-- Steps of other seats.

since_others : (a : Counts) (n seat : ℕ) (old new : Node) → Since a (counts_of (Tells old)) → OtherSteps n seat old new → Since a (counts_of (Tells new))
since_others a zero seat old new s same = subst (λ (k : Node). Since a (counts_of (Tells k))) (sym same) s
since_others a (suc n) seat old new s (mid, before, last) =
    since_on a (counts_of (Tells mid)) (counts_of (Tells new)) last.call last.answer (since_others a n seat old mid s before) (step_caused last.other mid last.call last.answer new last.step)

since_breaks : (a b c : Counts) → CountsRise b c → MayBreak b c → Since a b → (count : ℕ) → c.broken ≡ Some count → FaultSince count a c
since_breaks a b c rise (inl same) s count e = broke_on a b c.faults count (count_grew-le b.faults c.faults rise.faults) (s.broke count (sym same ∙ e))
since_breaks a b c rise (inr broke) s count e =
    let same : broke.1.0 ≡ count = cc in
    subst (λ (k : ℕ). FaultSince k a c) same (inr (then-increased a.faults b.faults broke.1.0 s.faults broke.1.1, count_grew-le broke.1.0 c.faults broke.1.2))

pub since_drift : (alone : Bool) (a : Counts) (seat : ℕ) (old new : Knows) → Since a (counts_of old) → Drifts alone seat old new → Since a (counts_of new)
since_drift true a seat old new s same = subst (λ (k : Knows). Since a (counts_of k)) (sym same) s
since_drift false a seat (Tells old) (Tells new) s (n, steps) = since_others a n seat old new s steps
since_drift false a seat (Counts_alone old) (Counts_alone new) s d =
    record {
      faults = count_grew-then a.faults old.store.faults new.store.faults s.faults (count_grew-le old.store.faults new.store.faults d.store.faults);
      fulls = count_grew-then a.fulls old.store.fulls new.store.fulls s.fulls (count_grew-le old.store.fulls new.store.fulls d.store.fulls);
      broke = since_breaks a old.store new.store d.store d.breaks s;
    }
since_drift false a seat (Tells old) (Counts_alone new) s d = absurd d
since_drift false a seat (Counts_alone old) (Tells new) s d = absurd d

-- Rows beside a call.

since_beside : (before : Counts) (seat : ℕ) (a : Knows) (es : List Event) (b : Knows) → Since before (counts_of a) → Beside seat a es b → Since before (counts_of b)
since_beside before seat a [] b s same = subst (λ (k : Knows). Since before (counts_of k)) (sym same) s
since_beside before seat a (e ∷ es) b s (mid, caused, step, rest) = since_beside before seat mid es b (since_on before (counts_of a) (counts_of mid) e.call e.answer s caused) rest

since_own : (before : Counts) (seat : ℕ) (rows : List Event) (a : Knows) (asked : Event) (b : Knows) → Since before (counts_of a) → OwnRow seat rows a asked b → Since before (counts_of b)
since_own before seat rows a asked b s (Made_row made caused step) = since_on before (counts_of a) (counts_of b) asked.call asked.answer s caused
since_own before seat rows a asked b s (Missing fault refused is same) = subst (λ (k : Knows). Since before (counts_of k)) (sym same) s

since_rowed : (before : Counts) (seat : ℕ) (a : Knows) (e : Turned) (b : Knows) → Since before (counts_of a) → Rowed seat a e b → Since before (counts_of b)
since_rowed before seat a e b s r =
    since_beside before seat r.answers e.after b (since_own before seat e.before r.asks e.asked r.answers (since_beside before seat a e.before r.asks s r.before) r.own) r.after

pub since_turn : (alone : Bool) (before : Counts) (a b : DeskState) (e : Turned) → Since before (counts_of a.knows) → CallsBeside alone a e b → Since before (counts_of b.knows)
since_turn alone before a b e s c = since_rowed before a.seat c.mid e b.knows (since_drift alone before a.seat a.knows c.mid s c.drift) c.rows

pub since_chain : (alone : Bool) (before : Counts) (a b : DeskState) (es : List Turned) → Since before (counts_of a.knows) → Turns alone a es b → Since before (counts_of b.knows)
since_chain alone before a b [] s c = subst (λ (x : DeskState). Since before (counts_of x.knows)) (sym c) s
since_chain alone before a b (e ∷ es) s (mid, made, rest) = since_chain alone before mid b es (since_turn alone before a mid e s made) rest

-- a refusal, by its count
pub fault_cause : (a b c : Counts) (call : Call) (fault : Fault) → Since a b → Caused b call (Refused fault) c → DeskCause (fault_end fault) a c
fault_cause a b c call (Disk count) s (may, inl same) = broke_on a b c.faults count (subst (CountGrew b.faults) (sym (ap (λ (x : Counts). x.faults) same.1)) (count_grew-refl b.faults)) (s.broke count same.0)
fault_cause a b c call (Disk count) s (may, inr broke) = inr (then-increased a.faults b.faults count s.faults broke.1, subst (CountGrew count) (sym (ap (λ (x : Counts). x.faults) broke.2)) (count_grew-refl count))
fault_cause a b c call (Read count) s read = inr (then-increased a.faults b.faults count s.faults read.2, subst (CountGrew count) (sym (ap (λ (x : Counts). x.faults) read.3)) (count_grew-refl count))
fault_cause a b c call Full s full = then-increased a.fulls b.fulls c.fulls s.fulls full.2
fault_cause a b c call No_memory s e = tt

plain_desk : (m : Met) (end : End) (a c : Counts) → Plain_end m end → DeskCause end a c
plain_desk m E.Finished a c p = tt
plain_desk m (E.PeerError text) a c p = tt
plain_desk m E.PeerBusy a c p = tt
plain_desk m (E.BadPassword wanted given) a c p = tt
plain_desk m (E.Broke cause n) a c p = tt
plain_desk m E.NoMemory a c p = tt
plain_desk m E.Dropped a c p = absurd p
plain_desk m E.LineFault a c p = absurd p
plain_desk m (E.DiskFault count) a c p = absurd p
plain_desk m E.LedgerFull a c p = absurd p
plain_desk m E.Quiet a c p = absurd p
plain_desk m E.Endless a c p = absurd p
plain_desk m E.TurnedAway a c p = absurd p

pub later_desk : (end : End) (a b c : Counts) → DeskCause end a b → Since b c → DeskCause end a c
later_desk (E.DiskFault count) a b c d s = broke_on a b c.faults count s.faults d
later_desk E.LedgerFull a b c r s = increased-then a.fulls b.fulls c.fulls r s.fulls
later_desk E.Finished a b c d s = tt
later_desk (E.PeerError text) a b c d s = tt
later_desk E.PeerBusy a b c d s = tt
later_desk (E.BadPassword wanted given) a b c d s = tt
later_desk (E.Broke cause n) a b c d s = tt
later_desk E.Dropped a b c d s = tt
later_desk E.LineFault a b c d s = tt
later_desk E.Quiet a b c d s = tt
later_desk E.Endless a b c d s = tt
later_desk E.TurnedAway a b c d s = tt
later_desk E.NoMemory a b c d s = tt

refused_cause : (a b c : Counts) (call : Call) (answer : Answer) (fault : Fault) → answer ≡ Refused fault → Since a b → Caused b call answer c → DeskCause (fault_end fault) a c
refused_cause a b c call answer fault is s caused = fault_cause a b c call fault s (subst (λ (x : Answer). Caused b call x c) is caused)

beside_fault : (before : Counts) (seat : ℕ) (a : Knows) (es : List Event) (b : Knows) (fault : Fault) → Since before (counts_of a) → Beside seat a es b → EndsRefused es fault → DeskCause (fault_end fault) before (counts_of b)
beside_fault before seat a [] b fault s rows refused = absurd refused
beside_fault before seat a (e ∷ []) b fault s (mid, caused, step, same) refused =
    subst (λ (k : Knows). DeskCause (fault_end fault) before (counts_of k)) (sym same) (refused_cause before (counts_of a) (counts_of mid) e.call e.answer fault refused s caused)
beside_fault before seat a (e ∷ f ∷ es) b fault s (mid, caused, step, rest) refused =
    beside_fault before seat mid (f ∷ es) b fault (since_on before (counts_of a) (counts_of mid) e.call e.answer s caused) rest refused

own_fault : (before : Counts) (seat : ℕ) (a : Knows) (rows : List Event) (asks : Knows) (asked : Event) (b : Knows) (fault : Fault) → Since before (counts_of a) → Beside seat a rows asks → asked.answer ≡ Refused fault → OwnRow seat rows asks asked b → DeskCause (fault_end fault) before (counts_of b)
own_fault before seat a rows asks asked b fault s beside is (Made_row made caused step) =
    refused_cause before (counts_of asks) (counts_of b) asked.call asked.answer fault is (since_beside before seat a rows asks s beside) caused
own_fault before seat a rows asks asked b fault s beside is (Missing other refused was same) =
    let twice : Refused other ≡ Refused fault = sym was ∙ is in
    let one_fault : other ≡ fault = cc in
    subst (λ (k : Knows). DeskCause (fault_end fault) before (counts_of k)) (sym same) (beside_fault before seat a rows asks fault s beside (subst (λ (x : Fault). EndsRefused rows x) one_fault refused))

rowed_fault : (before : Counts) (seat : ℕ) (a : Knows) (e : Turned) (b : Knows) (fault : Fault) → Since before (counts_of a) → e.asked.answer ≡ Refused fault → Rowed seat a e b → DeskCause (fault_end fault) before (counts_of b)
rowed_fault before seat a e b fault s is r =
    later_desk (fault_end fault) before (counts_of r.answers) (counts_of b) (own_fault before seat a e.before r.asks e.asked r.answers fault s r.before is r.own) (since_beside (counts_of r.answers) seat r.answers e.after b (since_same (counts_of r.answers)) r.after)

-- a refused call
pub turn_fault : (alone : Bool) (before : Counts) (a b : DeskState) (e : Turned) (fault : Fault) → Since before (counts_of a.knows) → e.asked.answer ≡ Refused fault → CallsBeside alone a e b → DeskCause (fault_end fault) before (counts_of b.knows)
turn_fault alone before a b e fault s is c = rowed_fault before a.seat c.mid e b.knows fault (since_drift alone before a.seat a.knows c.mid s c.drift) is c.rows

one_fault : (alone : Bool) (before : Counts) (a b : DeskState) (es : List Turned) (call : Call) (fault : Fault) → Since before (counts_of a.knows) → asked_of es ≡ one call (Refused fault) → Turns alone a es b → DeskCause (fault_end fault) before (counts_of b.knows)
one_fault alone before a b [] call fault s is c = absurd (let clash : [] ≡ one call (Refused fault) = is in cc)
one_fault alone before a b (e ∷ []) call fault s is (mid, made, same) =
    let first : e.asked ≡ record { call = call; answer = Refused fault } = cc in
    subst (λ (d : DeskState). DeskCause (fault_end fault) before (counts_of d.knows)) (sym same) (turn_fault alone before a mid e fault s (ap (λ (x : Event). x.answer) first) made)
one_fault alone before a b (e ∷ f ∷ es) call fault s is c = absurd (let clash : e.asked ∷ (f.asked ∷ asked_of es) ≡ one call (Refused fault) = is in cc)

pub row_desk : (alone : Bool) (m : Met) (before : Counts) (a b : DeskState) (es : List Turned) (end : End) → Since before (counts_of a.knows) → Turns alone a es b → EndedBy m end (asked_of es) → DeskCause end before (counts_of b.knows)
row_desk alone m before a b es end s c (inl p) = plain_desk m end before (counts_of b.knows) p
row_desk alone m before a b es end s c (inr (inl r)) = subst (λ x. DeskCause x before (counts_of b.knows)) (sym r.3) (one_fault alone before a b es r.0 r.1 s r.2 c)
row_desk alone m before a b es end s c (inr (inr r)) = subst (λ x. DeskCause x before (counts_of b.knows)) (sym r.2) tt
