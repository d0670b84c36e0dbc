-- Rows that were made.
use Rattle.std.proofs.Common.{◌≡◌, ◌⊎◌, Bool, ℕ, List, [], Result, Err, refl, sym, subst, inl, inr}
use Rattle.std.proofs.lemmas.List.{append-nil}
use Rattle.ftn_addr.specs.Outcomes.{Fails}
use Rattle.binkp_args.specs.Command.{CommandText}
use Rattle.binkp_args.specs.declared.fault.ArgFault.{ArgFault}
use Rattle.binkp_args.specs.declared.fault.ArgFault.TheVariants.{NoMemory as NoMemoryFault}
use Rattle.node_model.specs.Calls.{Event, asked_of}
use Rattle.node_model.specs.Images.{Stand}
use Rattle.node_model.proofs.Rans.{ran_none}
use Rattle.session_core.specs.Takings.{Took}
use Rattle.session_core.specs.Takings as T
use Rattle.session_core.specs.Stages.{Setting, Stage, Tally, Told}
use Rattle.session_core.specs.declared.ending.Cause.{Cause}
use Rattle.session_core.specs.declared.ending.Cause.TheVariants as C
use Rattle.session_core.specs.Ends.{End}
use Rattle.session_core.specs.Ends as E
use Rattle.session_core.specs.Says.{cause_bytes}
use Rattle.session_core.specs.Sessions.{on, over, breaks, Said, Reply, Plain, ReadRow}
use Rattle.session_core.specs.Replies.{Counts, Did, DidPlain, Made, MadeRow, NothingMore, RefusesArgument, IfMore, Writes}
use Rattle.session_core.proofs.Writings.{wrote_all}

-- a row that makes no call
pub did_row : (reply : Reply) (alone : Bool) (s : Stand) (stage : Stage) (out out' : List ℕ) (took : Took) → DidPlain reply stage out out' took → Did (Plain reply) alone s s stage out out' took
did_row reply alone s stage out out' took did =
    record { events = []; reply = reply; row = (refl, refl); ran = ran_none alone s; stage_is = did.stage_is; writes = did.writes }

-- one that says nothing
pub did_quiet : (reply : Reply) (stage : Stage) (out : List ℕ) → stage ≡ reply.stage → reply.output ≡ [] → reply.took ≡ T.More → DidPlain reply stage out out T.More
did_quiet reply stage out stage_is none more = record {
  stage_is = stage_is;
  writes = subst (λ (took : Took). Writes out out reply.output took T.More) (sym more) (subst (λ (o : List ℕ). Writes out out o T.More T.More) (sym none) (wrote_all out out [] T.More (sym (append-nil out))));
}

-- one that waits
pub did_wait : (stage stage' : Stage) (out : List ℕ) (took : Took) → took ≡ T.More → stage' ≡ stage → DidPlain (on stage []) stage' out out took
did_wait stage stage' out took e f = subst (λ (k : Took). DidPlain (on stage []) stage' out out k) (sym e) (did_quiet (on stage []) stage' out f refl refl)

-- one that ends the session without a word
pub did_over : (stage stage' : Stage) (end : End) (out : List ℕ) → DidPlain (over stage [] end) stage' out out (T.Ended end)
did_over stage stage' end out = record { stage_is = tt; writes = wrote_all out out [] (T.Ended end) (sym (append-nil out)) }

-- What was written ends the session.
pub if_over : (old new output : List ℕ) (end : End) (took : Took) (P : Type 0) → Writes old new output (T.Ended end) took → IfMore took P
if_over old new output end T.More P w = absurd (never w.said)
  where
    never : Said output (T.Ended end) w.written T.More → ⊥
    never (inl x) = let clash = x.0 in cc
    never (inr x) = let clash = x.0 in cc
if_over old new output end (T.Ended e) P w = tt

-- a frame is refused
pub did_break : (n : ℕ) (stage stage' : Stage) (cause : Cause) (out out' : List ℕ) (took : Took) → Writes out out' (cause_bytes cause) (T.Ended (E.Broke cause n)) took → DidPlain (breaks n stage cause) stage' out out' took
did_break n stage stage' cause out out' took w = record { stage_is = if_over out out' (cause_bytes cause) (E.Broke cause n) took _ w; writes = w }

-- the session tells no other login then
pub made_row : (reply : Reply) (alone : Bool) (s : Stand) (was now : Told) (stage : Stage) (out out' : List ℕ) (took : Took) → now ≡ was → DidPlain reply stage out out' took → Made (Plain reply) alone s s was now stage out out' took
made_row reply alone s was now stage out out' took same did =
    record { did = record { events = []; reply = reply; row = (refl, refl); ran = ran_none alone s; stage_is = did.stage_is; writes = did.writes }; told_is = same }

-- or none was made
pub made_plain : (reply : Reply) (alone : Bool) (s : Stand) (was now : Told) (stage : Stage) (out out' : List ℕ) (took : Took) → now ≡ was → DidPlain reply stage out out' took ⊎ NothingMore out out' took → MadeRow (Plain reply) alone s s was now stage out out' took
made_plain reply alone s was now stage out out' took same (inl did) = inl (made_row reply alone s was now stage out out' took same did)
made_plain reply alone s was now stage out out' took same (inr over) = inr (record { ran = ran_none alone s; told_is = same; out_is = over.1; is = over.0 })

-- a row of one table is one of another
pub did_as : (P Q : List Event → Reply → Type 0) (alone : Bool) (old new : Stand) (stage : Stage) (out out' : List ℕ) (took : Took) → ((es : List Event) (r : Reply) → P es r → Q es r) → Did P alone old new stage out out' took → Did Q alone old new stage out out' took
did_as P Q alone old new stage out out' took f did =
    record { events = did.events; reply = did.reply; row = f (asked_of did.events) did.reply did.row; ran = did.ran; stage_is = did.stage_is; writes = did.writes }

pub made_as : (P Q : List Event → Reply → Type 0) (alone : Bool) (old new : Stand) (was now : Told) (stage : Stage) (out out' : List ℕ) (took : Took) → ((es : List Event) (r : Reply) → P es r → Q es r) → Made P alone old new was now stage out out' took → Made Q alone old new was now stage out out' took
made_as P Q alone old new was now stage out out' took f m =
    record { did = record { events = m.did.events; reply = m.did.reply; row = f (asked_of m.did.events) m.did.reply m.did.row; ran = m.did.ran; stage_is = m.did.stage_is; writes = m.did.writes }; told_is = m.told_is }

pub counts_as : (P Q : List Event → Reply → Type 0) (alone : Bool) (old new : Stand) (was now : Tally) (stage : Stage) (out out' : List ℕ) (took : Took) → ((es : List Event) (r : Reply) → P es r → Q es r) → Counts P alone old new was now stage out out' took → Counts Q alone old new was now stage out out' took
counts_as P Q alone old new was now stage out out' took f m =
    record { did = record { events = m.did.events; reply = m.did.reply; row = f (asked_of m.did.events) m.did.reply m.did.row; ran = m.did.ran; stage_is = m.did.stage_is; writes = m.did.writes }; count_is = m.count_is }

-- a fault that is no want of memory is the definition's
fault_told : {Y : Type 0} (fault : ArgFault) (read : Result Y ArgFault) → (fault ≡ NoMemoryFault → ⊥) → Fails NoMemoryFault fault read → read ≡ Err fault
fault_told fault read other (inl memory) = absurd (other memory)
fault_told fault read other (inr told) = told

-- an argument that wasn't read
pub refused_argument : (s : Setting) (n : ℕ) (stage : Stage) (fault : ArgFault) (read : Result CommandText ArgFault) (alone : Bool) (desk : Stand) (told : Told) (out out' : List ℕ) (took : Took) → Fails NoMemoryFault fault read → RefusesArgument n stage fault out out' took → MadeRow (ReadRow s n stage read) alone desk desk told told stage out out' took
refused_argument s n stage fault read alone desk told out out' took fails (inl x) = inr (record { ran = ran_none alone desk; told_is = refl; out_is = x.1.1; is = x.1.0 })
refused_argument s n stage fault read alone desk told out out' took fails (inr x) =
    inl (rw (fault_told fault read x.0 fails) (made_row (breaks n stage (C.Arg fault)) alone desk told told stage out out' took refl x.1))

pub refused_sits : (n : ℕ) (stage : Stage) (fault : ArgFault) (out out' : List ℕ) (took : Took) (P : Type 0) → RefusesArgument n stage fault out out' took → IfMore took P
refused_sits n stage fault out out' took P (inl x) = subst (λ (k : Took). IfMore k P) (sym x.1.0) tt
refused_sits n stage fault out out' took P (inr x) = if_over out out' _ (E.Broke (C.Arg fault) n) took P x.1.writes

-- a frame is passed over
pub did_pass : (alone : Bool) (s : Stand) (stage : Stage) (out : List ℕ) → Did (Plain (on stage [])) alone s s stage out out T.More
did_pass alone s stage out = did_row (on stage []) alone s stage out out T.More (did_quiet (on stage []) stage out refl refl refl)

-- Such rows make no call to count.

pub pass_counts : (t : Tally) (alone : Bool) (s : Stand) (stage : Stage) (out : List ℕ) → Counts (Plain (on stage [])) alone s s t t stage out out T.More
unfolding did_pass did_row
pass_counts t alone s stage out = record { did = did_pass alone s stage out; count_is = refl }

pub row_counts : (t : Tally) (reply : Reply) (alone : Bool) (s : Stand) (stage : Stage) (out out' : List ℕ) (took : Took) → DidPlain reply stage out out' took → Counts (Plain reply) alone s s t t stage out out' took
unfolding did_row
row_counts t reply alone s stage out out' took did = record { did = did_row reply alone s stage out out' took did; count_is = refl }
