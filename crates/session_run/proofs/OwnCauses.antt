-- Why sessions end, in the session's own words, step by step.
use Rattle.std.proofs.Common.{◌≡◌, ◌∙◌, ℕ, ◌+◌, Bool, true, false, List, [], ◌∷◌, ◌++◌, length, Some, None, Result, Ok, Err, refl, sym, ap, subst, inl, inr, arith}
use Rattle.std.specs.Prelude.{nat_le, if◌then◌else◌}
use Rattle.std.proofs.lemmas.List.{length-append}
use Rattle.std.proofs.lemmas.Bool.{leb-true}
use Rattle.ftn_addr.specs.Frames.{FrameText, Command, Data}
use Rattle.binkp_frame.specs.Stream.{Begins}
use Rattle.binkp_args.specs.declared.fault.ArgFault.{ArgFault}
use Rattle.binkp_args.specs.Command.{CommandText, Pwd, Error, Bsy, command_of}
use Rattle.node_model.specs.Calls.{Event, Turned, asked_of, Fault, Disk, Read, Full, No_memory, Answer, Refused}
use Rattle.session_core.specs.declared.ending.Cause.{Cause}
use Rattle.session_core.specs.Ends.{End}
use Rattle.session_core.specs.Ends as E
use Rattle.session_core.specs.Takings.{Took}
use Rattle.session_core.specs.Takings as T
use Rattle.binkp_link.specs.declared.link.ReadAnswer.{ReadAnswer}
use Rattle.binkp_link.specs.declared.link.ReadAnswer.TheVariants as R
use Rattle.binkp_link.specs.declared.link.WriteAnswer.{WriteAnswer}
use Rattle.binkp_link.specs.declared.link.WriteAnswer.TheVariants as W
use Rattle.session_core.specs.Givings.{Gave}
use Rattle.session_core.specs.Givings as G
use Rattle.session_core.specs.Stages.{Setting, Stage, Logs_in, Talks}
use Rattle.session_core.specs.Sessions.{Said, fault_end}
use Rattle.session_run.specs.Machine.{Phase, Taking, Reading, Over, Draining, Closed, after_took, after_gave, after_leave, after_read, after_write, after_drain}
use Rattle.session_run.specs.Laws.{IsDone, OwnCause, OwnCauseAt, Refuses, Says}
use Rattle.session_run.proofs.Causes.{Met, Plain_end, EndedBy, RowCause, TurnCause, done_at, met_by, no_frame, own_turn, read_as, said_by}

no_word : (said : CommandText) → None ≡ Some said → ⊥
no_word said e = cc

some_same : (k n : ℕ) → Some n ≡ Some k → k ≡ n
some_same k n e = cc

by_fault : (fault : Fault) (s : Setting) (stage : Stage) (frames : List FrameText) (met : Stage) (made : List Turned) (taken sent : List ℕ) → OwnCause (fault_end fault) s stage frames met made taken sent
by_fault (Disk count) s stage frames met made taken sent = tt
by_fault (Read count) s stage frames met made taken sent = tt
by_fault Full s stage frames met made taken sent = tt
by_fault No_memory s stage frames met made taken sent = tt

-- an end that a row gave has its cause, where each that it gives without another object has it
ended_own : (m : Met) (end : End) (es : List Event) (s : Setting) (stage : Stage) (frames : List FrameText) (met : Stage) (made : List Turned) (taken sent : List ℕ) → EndedBy m end es → (Plain_end m end → OwnCause end s stage frames met made taken sent) → OwnCause end s stage frames met made taken sent
ended_own m end es s stage frames met made taken sent (inl p) f = f p
ended_own m end es s stage frames met made taken sent (inr (inl r)) f =
    subst (λ (x : End). OwnCause x s stage frames met made taken sent) (sym r.3) (by_fault r.1 s stage frames met made taken sent)
ended_own m end es s stage frames met made taken sent (inr (inr r)) f =
    subst (λ (x : End). OwnCause x s stage frames met made taken sent) (sym r.2) tt

-- The first turn.

early_plain : (s : Setting) (early : Stage) (end : End) (stage : Stage) (frames : List FrameText) (met : Stage) (made : List Turned) (taken sent : List ℕ) → Plain_end (no_frame s early) end → OwnCause end s stage frames met made taken sent
early_plain s early E.Finished stage frames met made taken sent p = absurd (let clash : false ≡ true = p in cc)
early_plain s early (E.PeerError text) stage frames met made taken sent p = absurd (no_word _ p)
early_plain s early E.PeerBusy stage frames met made taken sent p = absurd (no_word _ p.1)
early_plain s early (E.BadPassword wanted given) stage frames met made taken sent p = absurd (no_word _ p.says)
early_plain s early (E.Broke cause n) stage frames met made taken sent p = absurd (let clash : None ≡ Some n = p in cc)
early_plain s early E.NoMemory stage frames met made taken sent p = tt
early_plain s early E.Dropped stage frames met made taken sent p = absurd p
early_plain s early E.LineFault stage frames met made taken sent p = absurd p
early_plain s early (E.DiskFault count) stage frames met made taken sent p = absurd p
early_plain s early E.LedgerFull stage frames met made taken sent p = absurd p
early_plain s early E.Quiet stage frames met made taken sent p = absurd p
early_plain s early E.Endless stage frames met made taken sent p = absurd p
early_plain s early E.TurnedAway stage frames met made taken sent p = absurd p

pub early_own : (s : Setting) (early : Stage) (took : Took) (es : List Event) (stage : Stage) (frames : List FrameText) (met : Stage) (made : List Turned) (taken sent : List ℕ) → RowCause (no_frame s early) took es → OwnCauseAt (after_took took) s stage frames met made taken sent
early_own s early T.More es stage frames met made taken sent c = tt
early_own s early (T.Ended end) es stage frames met made taken sent c = ended_own _ end es s stage frames met made taken sent c (early_plain s early end stage frames met made taken sent)

-- A frame of the peer's.

-- the frame was read so
said_as : (s : Setting) (old : List FrameText) (frame : FrameText) (said : CommandText) (taken rest : List ℕ) → Begins taken (old ++ frame ∷ []) rest → said_by s.home frame ≡ Some said → Says said s (old ++ frame ∷ []) taken
said_as s old (Command number args) said taken rest b e = go (command_of s.home number args) refl e
  where
    go : (read : Result CommandText ArgFault) → command_of s.home number args ≡ read → read_as read ≡ Some said → Says said s (old ++ Command number args ∷ []) taken
    go (Ok command) is f = let same : command ≡ said = cc in record { rest = rest; begins = b; earlier = old; number = number; args = args; last = refl; says = is ∙ ap Ok same }
    go (Err fault) is f = absurd (let clash : None ≡ Some said = f in cc)
said_as s old (Data bytes) said taken rest b e = absurd (let clash : None ≡ Some said = e in cc)

row_plain : (s : Setting) (n : ℕ) (met stage : Stage) (old : List FrameText) (frame : FrameText) (end : End) (made : List Turned) (taken sent rest : List ℕ) → Begins taken (old ++ frame ∷ []) rest → ((cause : Cause) → end ≡ E.Broke cause n → Refuses cause n s (old ++ frame ∷ []) met made taken) → Plain_end (met_by s n met (said_by s.home frame)) end → OwnCause end s stage (old ++ frame ∷ []) met made taken sent
row_plain s n met stage old frame E.Finished made taken sent rest b f p = absurd (let clash : false ≡ true = p in cc)
row_plain s n met stage old frame (E.PeerError text) made taken sent rest b f p = said_as s old frame (Error text) taken rest b p
row_plain s n met stage old frame E.PeerBusy made taken sent rest b f p = (p.0, said_as s old frame (Bsy p.0) taken rest b p.1)
row_plain s n met stage old frame (E.BadPassword wanted given) made taken sent rest b f p =
    record { peers = p.peers; waits = p.waits; password = p.password; has = p.has; answers = p.answers; other = p.other; says = said_as s old frame (Pwd given) taken rest b p.says }
row_plain s n met stage old frame (E.Broke cause k) made taken sent rest b f p =
    let same : k ≡ n = some_same k n p in
    subst (λ (x : ℕ). Refuses cause x s (old ++ frame ∷ []) met made taken) (sym same) (f cause (ap (E.Broke cause) same))
row_plain s n met stage old frame E.NoMemory made taken sent rest b f p = tt
row_plain s n met stage old frame E.Dropped made taken sent rest b f p = absurd p
row_plain s n met stage old frame E.LineFault made taken sent rest b f p = absurd p
row_plain s n met stage old frame (E.DiskFault count) made taken sent rest b f p = absurd p
row_plain s n met stage old frame E.LedgerFull made taken sent rest b f p = absurd p
row_plain s n met stage old frame E.Quiet made taken sent rest b f p = absurd p
row_plain s n met stage old frame E.Endless made taken sent rest b f p = absurd p
row_plain s n met stage old frame E.TurnedAway made taken sent rest b f p = absurd p

pub took_own : (s : Setting) (n : ℕ) (met stage : Stage) (old : List FrameText) (frame : FrameText) (took : Took) (made : List Turned) (taken sent rest : List ℕ) → Begins taken (old ++ frame ∷ []) rest → ((cause : Cause) → took ≡ T.Ended (E.Broke cause n) → Refuses cause n s (old ++ frame ∷ []) met made taken) → RowCause (met_by s n met (said_by s.home frame)) took (asked_of made) → OwnCauseAt (after_took took) s stage (old ++ frame ∷ []) met made taken sent
took_own s n met stage old frame T.More made taken sent rest b f c = tt
took_own s n met stage old frame (T.Ended end) made taken sent rest b f c =
    ended_own _ end (asked_of made) s stage (old ++ frame ∷ []) met made taken sent c (row_plain s n met stage old frame end made taken sent rest b (λ cause e. f cause (ap T.Ended e)))

-- what was said tells how the row went on, but for want of memory
pub said_broke : (output : List ℕ) (goal : Took) (written : List ℕ) (took : Took) (cause : Cause) (n : ℕ) → Said output goal written took → took ≡ T.Ended (E.Broke cause n) → goal ≡ T.Ended (E.Broke cause n)
said_broke output goal written took cause n (inl s) e = sym s.0 ∙ e
said_broke output goal written took cause n (inr s) e = absurd (let clash : T.Ended E.NoMemory ≡ T.Ended (E.Broke cause n) = sym s.0 ∙ e in cc)

-- The own turn.

done_is : (stage : Stage) → done_at stage ≡ true → IsDone stage
done_is (Talks talk held) e = e
done_is (Logs_in at) e = absurd (let clash : false ≡ true = e in cc)

turn_plain : (s : Setting) (stage : Stage) (end : End) (frames : List FrameText) (met : Stage) (made : List Turned) (taken sent : List ℕ) → Plain_end (own_turn s stage) end → OwnCause end s stage frames met made taken sent
turn_plain s stage E.Finished frames met made taken sent p = done_is stage p
turn_plain s stage (E.PeerError text) frames met made taken sent p = absurd (no_word _ p)
turn_plain s stage E.PeerBusy frames met made taken sent p = absurd (no_word _ p.1)
turn_plain s stage (E.BadPassword wanted given) frames met made taken sent p = absurd (no_word _ p.says)
turn_plain s stage (E.Broke cause n) frames met made taken sent p = absurd (let clash : None ≡ Some n = p in cc)
turn_plain s stage E.NoMemory frames met made taken sent p = tt
turn_plain s stage E.Dropped frames met made taken sent p = absurd p
turn_plain s stage E.LineFault frames met made taken sent p = absurd p
turn_plain s stage (E.DiskFault count) frames met made taken sent p = absurd p
turn_plain s stage E.LedgerFull frames met made taken sent p = absurd p
turn_plain s stage E.Quiet frames met made taken sent p = absurd p
turn_plain s stage E.Endless frames met made taken sent p = absurd p
turn_plain s stage E.TurnedAway frames met made taken sent p = absurd p

pub gave_own : (s : Setting) (stage : Stage) (gave : Gave) (es : List Event) (frames : List FrameText) (met : Stage) (made : List Turned) (taken sent : List ℕ) → TurnCause (own_turn s stage) gave es → OwnCauseAt (after_gave gave) s stage frames met made taken sent
gave_own s stage G.Sent es frames met made taken sent c = tt
gave_own s stage G.Waits es frames met made taken sent c = tt
gave_own s stage (G.Ended end) es frames met made taken sent c = ended_own _ end es s stage frames met made taken sent c (turn_plain s stage end frames met made taken sent)

cond_own : (b : Bool) (end : End) (goal : Phase) (s : Setting) (stage : Stage) (frames : List FrameText) (met : Stage) (made : List Turned) (taken sent : List ℕ) → (b ≡ true → OwnCause end s stage frames met made taken sent) → OwnCauseAt goal s stage frames met made taken sent → OwnCauseAt (if b then Over end else goal) s stage frames met made taken sent
cond_own true end goal s stage frames met made taken sent x y = x refl
cond_own false end goal s stage frames met made taken sent x y = y

pub read_own : (answer : ReadAnswer) (calm : ℕ) (s : Setting) (stage : Stage) (frames : List FrameText) (met : Stage) (made : List Turned) (taken sent : List ℕ) → OwnCauseAt (after_read answer s.limit (length taken + length sent) calm) s stage frames met made taken sent
read_own (R.Came n) calm s stage frames met made taken sent =
    cond_own (nat_le s.limit (length taken + length sent)) E.Endless Taking s stage frames met made taken sent (λ t. leb-true s.limit (length taken + length sent) t) tt
read_own R.End calm s stage frames met made taken sent = tt
read_own R.NotYet calm s stage frames met made taken sent = tt
read_own R.Quiet calm s stage frames met made taken sent = cond_own (nat_le 60 calm) E.Quiet Taking s stage frames met made taken sent (λ t. tt) tt
read_own R.Failed calm s stage frames met made taken sent = tt

pub write_own : (answer : WriteAnswer) (calm : ℕ) (waits : Bool) (s : Setting) (stage : Stage) (frames : List FrameText) (met : Stage) (made : List Turned) (taken sent : List ℕ) → OwnCauseAt (after_write answer s.limit (length taken + length sent) calm (Reading waits)) s stage frames met made taken sent
write_own (W.Wrote n) calm waits s stage frames met made taken sent =
    cond_own (nat_le s.limit (length taken + length sent)) E.Endless (Reading waits) s stage frames met made taken sent (λ t. leb-true s.limit (length taken + length sent) t) tt
write_own W.Quiet calm waits s stage frames met made taken sent = cond_own (nat_le 60 calm) E.Quiet (Reading waits) s stage frames met made taken sent (λ t. tt) tt
write_own W.Failed calm waits s stage frames met made taken sent = tt

-- bytes that are sent later take no cause away
grow_own : (end : End) (s : Setting) (stage : Stage) (frames : List FrameText) (met : Stage) (made : List Turned) (taken sent more : List ℕ) → OwnCause end s stage frames met made taken sent → OwnCause end s stage frames met made taken (sent ++ more)
grow_own E.Finished s stage frames met made taken sent more c = c
grow_own (E.PeerError text) s stage frames met made taken sent more c = c
grow_own E.PeerBusy s stage frames met made taken sent more c = c
grow_own (E.BadPassword wanted given) s stage frames met made taken sent more c = c
grow_own (E.Broke cause n) s stage frames met made taken sent more c = c
grow_own E.Endless s stage frames met made taken sent more c = omega (arith, c, length-append sent more)
grow_own E.NoMemory s stage frames met made taken sent more c = tt
grow_own E.Dropped s stage frames met made taken sent more c = tt
grow_own E.LineFault s stage frames met made taken sent more c = tt
grow_own (E.DiskFault count) s stage frames met made taken sent more c = tt
grow_own E.LedgerFull s stage frames met made taken sent more c = tt
grow_own E.Quiet s stage frames met made taken sent more c = tt
grow_own E.TurnedAway s stage frames met made taken sent more c = tt

pub drain_own : (answer : WriteAnswer) (calm : ℕ) (end : End) (s : Setting) (stage : Stage) (frames : List FrameText) (met : Stage) (made : List Turned) (taken sent more : List ℕ) → OwnCause end s stage frames met made taken sent → OwnCauseAt (after_drain answer calm end) s stage frames met made taken (sent ++ more)
drain_own (W.Wrote n) calm end s stage frames met made taken sent more c = grow_own end s stage frames met made taken sent more c
drain_own W.Failed calm end s stage frames met made taken sent more c = grow_own end s stage frames met made taken sent more c
drain_own W.Quiet calm end s stage frames met made taken sent more c = go (nat_le 60 calm)
  where
    go : (b : Bool) → OwnCauseAt (if b then Closed end else Draining false end) s stage frames met made taken (sent ++ more)
    go true = grow_own end s stage frames met made taken sent more c
    go false = grow_own end s stage frames met made taken sent more c

pub leave_own : (end : End) (answer : Answer) (s : Setting) (stage : Stage) (frames : List FrameText) (met : Stage) (made : List Turned) (taken sent : List ℕ) → OwnCause end s stage frames met made taken sent → OwnCause (after_leave end answer) s stage frames met made taken sent
leave_own end (Refused (Disk count)) s stage frames met made taken sent c = tt
leave_own end (Refused (Read count)) s stage frames met made taken sent c = c
leave_own end (Refused Full) s stage frames met made taken sent c = c
leave_own end (Refused No_memory) s stage frames met made taken sent c = c
leave_own end answer s stage frames met made taken sent c = c
