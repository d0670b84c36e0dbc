-- What reads, writes and the close leave of the causes of an end.
use Rattle.std.proofs.Common.{◌≡◌, ◌⊎◌, ◌∙◌, ℕ, ◌≤◌, Bool, true, false, List, [], ◌∷◌, ◌++◌, Option, Some, None, refl, sym, ap, subst, inl, inr, arith, append_assoc, drop}
use Rattle.std.specs.Prelude.{nat_le, if◌then◌else◌}
use Rattle.std.proofs.lemmas.List.{append-nil, take-append-drop}
use Rattle.std.proofs.lemmas.Bool.{leb-true}
use Rattle.ftn_addr.specs.Counts.{Increased, next_count}
use Rattle.node_model.specs.Calls.{Event, Fault, Disk, Read, Full, No_memory, Answer, Refused, Leave_call, Counts, counts_of, DeskState, turned, CallsBeside}
use Rattle.binkp_link.specs.declared.link.ReadAnswer.{ReadAnswer}
use Rattle.binkp_link.specs.declared.link.ReadAnswer.TheVariants as R
use Rattle.binkp_link.specs.declared.link.WriteAnswer.{WriteAnswer}
use Rattle.binkp_link.specs.declared.link.WriteAnswer.TheVariants as W
use Rattle.session_core.specs.Ends.{End}
use Rattle.session_core.specs.Ends as E
use Rattle.session_core.specs.Takings.{Took}
use Rattle.session_core.specs.Takings as T
use Rattle.session_core.specs.Givings.{Gave}
use Rattle.session_core.specs.Givings as G
use Rattle.binkp_link.specs.Lines.{LineBytes, LineState, Moves, IsRead, IsWrite, went}
use Rattle.session_core.specs.Sessions.{fault_end}
use Rattle.session_run.specs.Machine.{Phase, Taking, Reading, Over, Draining, Closed, after_took, after_gave, after_read, after_write, after_drain, after_leave, is_mute}
use Rattle.session_run.specs.Laws.{joined, EndCount, EndCountAt, LineCause, LineCauseAt, DrainCause, WholeAt, DeskCause, Since}
use Rattle.session_run.proofs.Causes.{Met, Plain_end, Refused_end, Away_end, RowCause, TurnCause}
use Rattle.session_run.proofs.SinceCounts.{since_same, since_turn, later_desk, turn_fault}

pub joined-last : (pieces : List (List ℕ)) (piece : List ℕ) → joined (pieces ++ piece ∷ []) ≡ joined pieces ++ piece
joined-last [] piece = append-nil piece
joined-last (p ∷ pieces) piece = ap (λ x. p ++ x) (joined-last pieces piece) ∙ sym (append_assoc p (joined pieces) piece)

pub moves_on : (t t' s s' : List ℕ) (a b c : Option LineBytes) → Moves t s a b → Moves t' s' b c → Moves (t ++ t') (s ++ s') a c
moves_on t t' s s' None None None m n = tt
moves_on t t' s s' (Some a) (Some b) (Some c) m n = (
  m.0 ∙ ap (λ x. t ++ x) n.0 ∙ sym (append_assoc t t' c.coming),
  n.1 ∙ ap (λ x. x ++ t') m.1 ∙ append_assoc a.taken t t',
  n.2 ∙ ap (λ x. x ++ s') m.2 ∙ append_assoc a.sent s s',
)
moves_on t t' s s' None (Some b) c m n = absurd m
moves_on t t' s s' (Some a) None c m n = absurd m
moves_on t t' s s' None None (Some c) m n = absurd n
moves_on t t' s s' (Some a) (Some b) None m n = absurd n

pub moves_not : (a : Option LineBytes) → Moves [] [] a a
moves_not None = tt
moves_not (Some a) = (refl, sym (append-nil a.taken), sym (append-nil a.sent))

-- an end that a row gives comes from no count of the line
row_ends : (m : Met) (end : End) (es : List Event) (before now : ℕ) → Plain_end m end ⊎ (Refused_end end es ⊎ Away_end end es) → now ≡ before → EndCount end before now
row_ends m end es before now (inr (inr r)) e = subst (λ x. EndCount x before now) (sym r.2) e
row_ends m end es before now (inr (inl r)) e = subst (λ x. EndCount x before now) (sym r.3) (by_fault r.1)
  where
    by_fault : (fault : Fault) → EndCount (fault_end fault) before now
    by_fault (Disk count) = inl e
    by_fault (Read count) = inl e
    by_fault Full = e
    by_fault No_memory = e
row_ends m E.Finished es before now (inl p) e = e
row_ends m (E.PeerError text) es before now (inl p) e = e
row_ends m E.PeerBusy es before now (inl p) e = e
row_ends m (E.BadPassword wanted given) es before now (inl p) e = e
row_ends m (E.Broke cause n) es before now (inl p) e = e
row_ends m E.NoMemory es before now (inl p) e = e
row_ends m E.Dropped es before now (inl p) e = absurd p
row_ends m E.LineFault es before now (inl p) e = absurd p
row_ends m (E.DiskFault count) es before now (inl p) e = absurd p
row_ends m E.LedgerFull es before now (inl p) e = absurd p
row_ends m E.Quiet es before now (inl p) e = absurd p
row_ends m E.Endless es before now (inl p) e = absurd p
row_ends m E.TurnedAway es before now (inl p) e = absurd p

pub took_ends : (m : Met) (took : Took) (es : List Event) (before now : ℕ) → RowCause m took es → now ≡ before → EndCountAt (after_took took) before now
took_ends m T.More es before now c e = e
took_ends m (T.Ended end) es before now c e = row_ends m end es before now c e

row_line : (m : Met) (end : End) (es : List Event) (before now calm : ℕ) → Plain_end m end ⊎ (Refused_end end es ⊎ Away_end end es) → LineCause end before now calm
row_line m end es before now calm (inr (inr r)) = subst (λ x. LineCause x before now calm) (sym r.2) tt
row_line m end es before now calm (inr (inl r)) = subst (λ x. LineCause x before now calm) (sym r.3) (by_fault r.1)
  where
    by_fault : (fault : Fault) → LineCause (fault_end fault) before now calm
    by_fault (Disk count) = tt
    by_fault (Read count) = tt
    by_fault Full = tt
    by_fault No_memory = tt
row_line m E.Finished es before now calm (inl p) = tt
row_line m (E.PeerError text) es before now calm (inl p) = tt
row_line m E.PeerBusy es before now calm (inl p) = tt
row_line m (E.BadPassword wanted given) es before now calm (inl p) = tt
row_line m (E.Broke cause n) es before now calm (inl p) = tt
row_line m E.NoMemory es before now calm (inl p) = tt
row_line m E.Dropped es before now calm (inl p) = tt
row_line m E.LineFault es before now calm (inl p) = absurd p
row_line m (E.DiskFault count) es before now calm (inl p) = tt
row_line m E.LedgerFull es before now calm (inl p) = tt
row_line m E.Quiet es before now calm (inl p) = absurd p
row_line m E.Endless es before now calm (inl p) = tt
row_line m E.TurnedAway es before now calm (inl p) = tt

pub took_line : (m : Met) (took : Took) (es : List Event) (before now calm : ℕ) → RowCause m took es → LineCauseAt (after_took took) before now calm
took_line m T.More es before now calm c = tt
took_line m (T.Ended end) es before now calm c = row_line m end es before now calm c

pub gave_ends : (m : Met) (gave : Gave) (es : List Event) (before now : ℕ) → TurnCause m gave es → now ≡ before → EndCountAt (after_gave gave) before now
gave_ends m G.Sent es before now c e = e
gave_ends m G.Waits es before now c e = e
gave_ends m (G.Ended end) es before now c e = row_ends m end es before now c e

pub gave_line : (m : Met) (gave : Gave) (es : List Event) (before now calm : ℕ) → TurnCause m gave es → LineCauseAt (after_gave gave) before now calm
gave_line m G.Sent es before now calm c = tt
gave_line m G.Waits es before now calm c = tt
gave_line m (G.Ended end) es before now calm c = row_line m end es before now calm c

cond_ends : (b : Bool) (end : End) (goal : Phase) (before now : ℕ) → EndCountAt (Over end) before now → EndCountAt goal before now → EndCountAt (if b then Over end else goal) before now
cond_ends true end goal before now x y = x
cond_ends false end goal before now x y = y

pub read_ends : (wait : Bool) (old new : LineState) (answer : ReadAnswer) (buffer : List ℕ) (limit bytes before : ℕ) → IsRead wait old answer buffer new → old.ends ≡ before → EndCountAt (after_read answer limit bytes new.calm) before new.ends
read_ends wait old new (R.Came n) buffer limit bytes before is e = cond_ends (nat_le limit bytes) E.Endless Taking before new.ends (is.ends ∙ e) (is.ends ∙ e)
read_ends wait old new R.End buffer limit bytes before is e = is.ends ∙ ap next_count e
read_ends wait old new R.NotYet buffer limit bytes before is e = is.ends ∙ e
read_ends wait old new R.Quiet buffer limit bytes before is e = cond_ends (nat_le 60 new.calm) E.Quiet Taking before new.ends (is.ends ∙ e) (is.ends ∙ e)
read_ends wait old new R.Failed buffer limit bytes before is e = is.ends ∙ e

pub read_faults : (wait : Bool) (old new : LineState) (answer : ReadAnswer) (buffer : List ℕ) (before : ℕ) → IsRead wait old answer buffer new → before ≤ old.faults → before ≤ new.faults
read_faults wait old new (R.Came n) buffer before is le = omega (arith, is.faults)
read_faults wait old new R.End buffer before is le = omega (arith, is.faults)
read_faults wait old new R.NotYet buffer before is le = omega (arith, is.faults)
read_faults wait old new R.Quiet buffer before is le = omega (arith, is.faults)
read_faults wait old new R.Failed buffer before is le = omega (arith, is.faults)

pub write_faults : (old new : LineState) (answer : WriteAnswer) (bytes : List ℕ) (before : ℕ) → IsWrite old answer bytes new → before ≤ old.faults → before ≤ new.faults
write_faults old new (W.Wrote n) bytes before is le = omega (arith, is.faults)
write_faults old new W.Quiet bytes before is le = omega (arith, is.faults)
write_faults old new W.Failed bytes before is le = omega (arith, is.faults)

cond_line : (b : Bool) (end : End) (goal : Phase) (before now calm : ℕ) → (b ≡ true → LineCause end before now calm) → LineCauseAt goal before now calm → LineCauseAt (if b then Over end else goal) before now calm
cond_line true end goal before now calm x y = x refl
cond_line false end goal before now calm x y = y

pub read_line : (wait : Bool) (old new : LineState) (answer : ReadAnswer) (buffer : List ℕ) (limit bytes before : ℕ) → IsRead wait old answer buffer new → before ≤ old.faults → LineCauseAt (after_read answer limit bytes new.calm) before new.faults new.calm
read_line wait old new (R.Came n) buffer limit bytes before is le = cond_line (nat_le limit bytes) E.Endless Taking before new.faults new.calm (λ _. tt) tt
read_line wait old new R.End buffer limit bytes before is le = tt
read_line wait old new R.NotYet buffer limit bytes before is le = tt
read_line wait old new R.Quiet buffer limit bytes before is le = cond_line (nat_le 60 new.calm) E.Quiet Taking before new.faults new.calm (λ t. leb-true 60 new.calm t) tt
read_line wait old new R.Failed buffer limit bytes before is le = omega (arith, is.faults)

pub write_ends : (old new : LineState) (answer : WriteAnswer) (left : List ℕ) (limit bytes before : ℕ) (waits : Bool) → IsWrite old answer left new → old.ends ≡ before → EndCountAt (after_write answer limit bytes new.calm (Reading waits)) before new.ends
write_ends old new (W.Wrote n) left limit bytes before waits is e = cond_ends (nat_le limit bytes) E.Endless (Reading waits) before new.ends (is.ends ∙ e) (is.ends ∙ e)
write_ends old new W.Quiet left limit bytes before waits is e = cond_ends (nat_le 60 new.calm) E.Quiet (Reading waits) before new.ends (is.ends ∙ e) (is.ends ∙ e)
write_ends old new W.Failed left limit bytes before waits is e = is.ends ∙ e

pub write_line : (old new : LineState) (answer : WriteAnswer) (left : List ℕ) (limit bytes before : ℕ) (waits : Bool) → IsWrite old answer left new → before ≤ old.faults → LineCauseAt (after_write answer limit bytes new.calm (Reading waits)) before new.faults new.calm
write_line old new (W.Wrote n) left limit bytes before waits is le = cond_line (nat_le limit bytes) E.Endless (Reading waits) before new.faults new.calm (λ _. tt) tt
write_line old new W.Quiet left limit bytes before waits is le = cond_line (nat_le 60 new.calm) E.Quiet (Reading waits) before new.faults new.calm (λ t. leb-true 60 new.calm t) tt
write_line old new W.Failed left limit bytes before waits is le = omega (arith, is.faults)

-- The desk is left.

pub leave_ends : (end : End) (answer : Answer) (before now : ℕ) → EndCount end before now → EndCount (after_leave end answer) before now
leave_ends end (Refused (Disk count)) before now e = turned end before now e
  where
    turned : (end : End) (before now : ℕ) → EndCount end before now → (now ≡ before) ⊎ (now ≡ next_count before)
    turned E.Dropped before now e = inr e
    turned (E.DiskFault count) before now e = e
    turned E.Finished before now e = inl e
    turned (E.PeerError text) before now e = inl e
    turned E.PeerBusy before now e = inl e
    turned (E.BadPassword wanted given) before now e = inl e
    turned (E.Broke cause n) before now e = inl e
    turned E.LineFault before now e = inl e
    turned E.LedgerFull before now e = inl e
    turned E.Quiet before now e = inl e
    turned E.Endless before now e = inl e
    turned E.TurnedAway before now e = inl e
    turned E.NoMemory before now e = inl e
leave_ends end (Refused (Read count)) before now e = e
leave_ends end (Refused Full) before now e = e
leave_ends end (Refused No_memory) before now e = e
leave_ends end answer before now e = e

leave_line : (end : End) (answer : Answer) (before now calm : ℕ) → LineCause end before now calm → LineCause (after_leave end answer) before now calm
leave_line end (Refused (Disk count)) before now calm m = tt
leave_line end (Refused (Read count)) before now calm m = m
leave_line end (Refused Full) before now calm m = m
leave_line end (Refused No_memory) before now calm m = m
leave_line end answer before now calm m = m

leave_speaks : (end : End) (answer : Answer) → is_mute end ≡ false → is_mute (after_leave end answer) ≡ false
leave_speaks end (Refused (Disk count)) speaks = refl
leave_speaks end (Refused (Read count)) speaks = speaks
leave_speaks end (Refused Full) speaks = speaks
leave_speaks end (Refused No_memory) speaks = speaks
leave_speaks end answer speaks = speaks

pub leave_desk : (alone : Bool) (end : End) (answer : Answer) (a : Counts) (b c : DeskState) (rows_before rows_after : List Event) → Since a (counts_of b.knows) → CallsBeside alone b (turned Leave_call answer rows_before rows_after) c → DeskCause end a (counts_of b.knows) → DeskCause (after_leave end answer) a (counts_of c.knows)
leave_desk alone end (Refused (Disk count)) a b c r q s made d = turn_fault alone a b c (turned Leave_call (Refused (Disk count)) r q) (Disk count) s refl made
leave_desk alone end (Refused (Read count)) a b c r q s made d = later_desk end a (counts_of b.knows) (counts_of c.knows) d (since_turn alone (counts_of b.knows) b c (turned Leave_call (Refused (Read count)) r q) (since_same (counts_of b.knows)) made)
leave_desk alone end (Refused Full) a b c r q s made d = later_desk end a (counts_of b.knows) (counts_of c.knows) d (since_turn alone (counts_of b.knows) b c (turned Leave_call (Refused Full) r q) (since_same (counts_of b.knows)) made)
leave_desk alone end (Refused No_memory) a b c r q s made d = later_desk end a (counts_of b.knows) (counts_of c.knows) d (since_turn alone (counts_of b.knows) b c (turned Leave_call (Refused No_memory) r q) (since_same (counts_of b.knows)) made)
leave_desk alone end answer a b c r q s made d = later_desk end a (counts_of b.knows) (counts_of c.knows) d (since_turn alone (counts_of b.knows) b c (turned Leave_call answer r q) (since_same (counts_of b.knows)) made)

-- What is left is written.

pub drain_ends : (old new : LineState) (answer : WriteAnswer) (left : List ℕ) (end : End) (before : ℕ) → IsWrite old answer left new → EndCount end before old.ends → EndCountAt (after_drain answer new.calm end) before new.ends
drain_ends old new (W.Wrote n) left end before is e = subst (λ x. EndCount end before x) (sym is.ends) e
drain_ends old new W.Quiet left end before is e = either_phase (nat_le 60 new.calm) (subst (λ x. EndCount end before x) (sym is.ends) e)
  where
    either_phase : (b : Bool) → EndCount end before new.ends → EndCountAt (if b then Closed end else Draining false end) before new.ends
    either_phase true e = e
    either_phase false e = e
drain_ends old new W.Failed left end before is e = subst (λ x. EndCount end before x) (sym is.ends) e

speaking : (end : End) (before now calm : ℕ) → is_mute end ≡ false → LineCause end before now calm
speaking E.LineFault before now calm e = absurd (let clash : true ≡ false = e in cc)
speaking E.Quiet before now calm e = absurd (let clash : true ≡ false = e in cc)
speaking E.Finished before now calm e = tt
speaking (E.PeerError text) before now calm e = tt
speaking E.PeerBusy before now calm e = tt
speaking (E.BadPassword wanted given) before now calm e = tt
speaking (E.Broke cause n) before now calm e = tt
speaking E.Dropped before now calm e = tt
speaking (E.DiskFault count) before now calm e = tt
speaking E.LedgerFull before now calm e = tt
speaking E.Endless before now calm e = tt
speaking E.TurnedAway before now calm e = tt
speaking E.NoMemory before now calm e = tt

pub drain_line : (answer : WriteAnswer) (end : End) (before now calm : ℕ) → is_mute end ≡ false → LineCauseAt (after_drain answer calm end) before now calm
drain_line (W.Wrote n) end before now calm speaks = speaks
drain_line W.Quiet end before now calm speaks = either_phase (nat_le 60 calm)
  where
    either_phase : (b : Bool) → LineCauseAt (if b then Closed end else Draining false end) before now calm
    either_phase true = speaking end before now calm speaks
    either_phase false = speaks
drain_line W.Failed end before now calm speaks = speaking end before now calm speaks

-- the cause of an end that is mute
mute_cause : (end : End) (before now calm : ℕ) → is_mute end ≡ true → LineCause end before now calm → Increased before now ⊎ (60 ≤ calm)
mute_cause E.LineFault before now calm mute m = inl m
mute_cause E.Quiet before now calm mute m = inr m
mute_cause E.Finished before now calm mute m = absurd (let clash : false ≡ true = mute in cc)
mute_cause (E.PeerError text) before now calm mute m = absurd (let clash : false ≡ true = mute in cc)
mute_cause E.PeerBusy before now calm mute m = absurd (let clash : false ≡ true = mute in cc)
mute_cause (E.BadPassword wanted given) before now calm mute m = absurd (let clash : false ≡ true = mute in cc)
mute_cause (E.Broke cause n) before now calm mute m = absurd (let clash : false ≡ true = mute in cc)
mute_cause E.Dropped before now calm mute m = absurd (let clash : false ≡ true = mute in cc)
mute_cause (E.DiskFault count) before now calm mute m = absurd (let clash : false ≡ true = mute in cc)
mute_cause E.LedgerFull before now calm mute m = absurd (let clash : false ≡ true = mute in cc)
mute_cause E.Endless before now calm mute m = absurd (let clash : false ≡ true = mute in cc)
mute_cause E.TurnedAway before now calm mute m = absurd (let clash : false ≡ true = mute in cc)
mute_cause E.NoMemory before now calm mute m = absurd (let clash : false ≡ true = mute in cc)

pub leave_drain : (end : End) (answer : Answer) (before now calm : ℕ) → LineCause end before now calm → DrainCause (is_mute end) (after_leave end answer) before now calm
leave_drain end answer before now calm m = go (is_mute end) refl
  where
    go : (b : Bool) → is_mute end ≡ b → DrainCause b (after_leave end answer) before now calm
    go true mute = (leave_line end answer before now calm m, mute_cause end before now calm mute m)
    go false speaks = leave_speaks end answer speaks

pub close_line : (mute : Bool) (end : End) (before now calm : ℕ) → DrainCause mute end before now calm → LineCause end before now calm
close_line true end before now calm m = m.0
close_line false end before now calm speaks = speaking end before now calm speaks

pub drain_whole : (old new : LineState) (answer : WriteAnswer) (left : List ℕ) (end : End) (before : ℕ) (output sent : List ℕ) → IsWrite old answer left new → before ≤ old.faults → WholeAt (after_drain answer new.calm end) before new output sent
drain_whole old new (W.Wrote n) left end before output sent is le = tt
drain_whole old new W.Quiet left end before output sent is le = either_phase (nat_le 60 new.calm) refl
  where
    either_phase : (b : Bool) → nat_le 60 new.calm ≡ b → WholeAt (if b then Closed end else Draining false end) before new output sent
    either_phase true t = inr (inr (leb-true 60 new.calm t))
    either_phase false t = tt
drain_whole old new W.Failed left end before output sent is le = inr (inl (omega (arith, is.faults)))

pub close_whole : (mute : Bool) (end : End) (before : ℕ) (line : LineState) (output sent : List ℕ) → DrainCause mute end before line.faults line.calm → (mute ≡ true) ⊎ (output ≡ sent) → (output ≡ sent) ⊎ (Increased before line.faults ⊎ (60 ≤ line.calm))
close_whole mute end before line output sent m (inr all) = inl all
close_whole true end before line output sent m (inl is) = inr m.1
close_whole false end before line output sent m (inl is) = absurd (let clash : false ≡ true = is in cc)

-- what a write didn't take is still left
unfoldable pub rest_of : WriteAnswer → List ℕ → List ℕ
rest_of (W.Wrote n) left = drop n left
rest_of W.Quiet left = left
rest_of W.Failed left = left

parts_of : (answer : WriteAnswer) (left : List ℕ) → left ≡ went answer left ++ rest_of answer left
unfolding rest_of
parts_of (W.Wrote n) left = sym (take-append-drop n left)
parts_of W.Quiet left = refl
parts_of W.Failed left = refl

pub sent_on : (output sent left : List ℕ) (answer : WriteAnswer) → output ≡ sent ++ left → output ≡ (sent ++ went answer left) ++ rest_of answer left
sent_on output sent left answer e = e ∙ ap (λ x. sent ++ x) (parts_of answer left) ∙ sym (append_assoc sent (went answer left) (rest_of answer left))
