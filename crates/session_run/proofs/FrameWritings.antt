-- The frames that a message's row writes, and whether it offers or ends the batch.
use Rattle.std.proofs.Common.{◌≡◌, ◌≢◌, ◌≤◌, ◌∙◌, ℕ, length, Bool, true, false, List, [], ◌∷◌, ◌++◌, Option, Some, refl, sym, ap, subst, codes, arith}
use Rattle.std.specs.List.{flat_map}
use Rattle.std.proofs.lemmas.List.{append-nil}
use Rattle.std.proofs.lemmas.List.Concat.{flat_map-append}
use Rattle.ftn_addr.specs.Frames.{FrameText, Command, Data, frame_bytes}
use Rattle.ftn_addr.specs.Key.{Key}
use Rattle.ftn_addr.specs.declared.limits.TheConstants.{MAX_FRAME_DATA}
use Rattle.binkp_args.specs.Command.{CommandText, File as FileCommand, Eob, Got as GotCommand, Error, Bsy, Get as GetCommand, Skip as SkipCommand}
use Rattle.binkp_args.specs.Writing.{number_of, argument_of, frame_text_of}
use Rattle.node_model.specs.Lists.{Each}
use Rattle.node_model.specs.Rows.{Have, Refuse, Elsewhere, Go, Whole, From, Late}
use Rattle.node_model.specs.Calls.{Call, File_call, Data_call, Offer_call, Fault, Disk, Read, Full, No_memory, Answer, Nothing, Settled, Filed, More, Whole_now, Refused, Event, one}
use Rattle.node_model.specs.Talk.{Message, File, Data as DataMessage, Got, Get, Skip, End as EndMessage, Talk, Part, RowEnd, Finished, Out_of_turn, Too_late, Too_much, Refused_by, Outcome, Goes_on, Waits, Ends, Verdict, TakeRow, AfterFile, AfterData, AfterSettling, Nothing_held, Drops, Exceeds, Fits, Settles, Passes_got, Skips, Passes_skip, Resends, Passes_get}
use Rattle.session_recv.specs.Replies.{command_bytes}
use Rattle.session_core.specs.declared.ending.Cause.{Cause}
use Rattle.session_core.specs.declared.ending.Cause.TheVariants as C
use Rattle.session_core.specs.Stages.{Stage, Talks}
use Rattle.session_core.specs.Says.{said_bytes, filling, broken_frame, offset_again, not_called, disk_fault, ledger_full, too_many, cause_bytes, fault_bytes, last_words}
use Rattle.session_core.specs.Sessions.{outcome_bytes}
use Rattle.session_run.proofs.HeldKeys.{part_key}
use Rattle.session_run.proofs.Acks.{Acks}

-- The frames of an output.

abbrev pub own_end_at : Stage → Bool
own_end_at (Talks talk held) = talk.own_end
own_end_at stage = false

-- the one call that was made acknowledges the file
abbrev pub Owes : Option Key → List Event → Key → Type 0
Owes held es key = (call : Call) × (answer : Answer) × (es ≡ one call answer) × Acks held key call answer

-- nothing more was to be offered, and the batch ends
abbrev pub EndsBatch : List Event → Stage → Type 0
EndsBatch es after = (es ≡ one Offer_call Nothing) × (own_end_at after ≡ true)

-- an M_GOT names a file that the row's call acknowledges, and an M_EOB stands behind the row's offer
abbrev pub IsOwed : Option Key → List Event → Stage → FrameText → Type 0
IsOwed held es after (Data bytes) = length bytes ≤ MAX_FRAME_DATA
IsOwed held es after (Command number args) =
    (number ≡ 6 → (key : Key) × (args ≡ argument_of (GotCommand key)) × Owes held es key) × (number ≡ 5 → EndsBatch es after)

pub record Framed (held : Option Key) (es : List Event) (after : Stage) (output : List ℕ) : Type 0 where
  pub frames : List FrameText
  pub spelled : output ≡ flat_map frame_bytes frames
  pub owed : Each (IsOwed held es after) frames

pub nothing : (held : Option Key) (es : List Event) (after : Stage) → Framed held es after []
nothing held es after = record { frames = []; spelled = refl; owed = tt }

-- a command that acknowledges nothing and ends no batch
pub plain : (held : Option Key) (es : List Event) (after : Stage) (c : CommandText) → number_of c ≢ 6 → number_of c ≢ 5 → Framed held es after (command_bytes c)
plain held es after c other more = record { frames = frame_text_of c ∷ []; spelled = sym (append-nil (command_bytes c)); owed = ((λ six. absurd (other six), λ five. absurd (more five)), tt) }

pub each_both : {A : Type 0} (P : A → Type 0) (xs ys : List A) → Each P xs → Each P ys → Each P (xs ++ ys)
each_both P [] ys a b = b
each_both P (x ∷ xs) ys a b = (a.0, each_both P xs ys a.1 b)

pub both : (held : Option Key) (es : List Event) (after : Stage) (a b : List ℕ) → Framed held es after a → Framed held es after b → Framed held es after (a ++ b)
both held es after a b x y = record {
  frames = x.frames ++ y.frames;
  spelled = ap (λ (l : List ℕ). l ++ b) x.spelled ∙ ap (λ (l : List ℕ). flat_map frame_bytes x.frames ++ l) y.spelled ∙ sym (flat_map-append frame_bytes x.frames y.frames);
  owed = each_both (IsOwed held es after) x.frames y.frames x.owed y.owed;
}

pub broken : (held : Option Key) (es : List Event) (after : Stage) → Framed held es after broken_frame
unfolding broken_frame
broken held es after = plain held es after (Error (codes "broken frame")) (λ six. let clash : 7 ≡ 6 = six in cc) (λ five. let clash : 7 ≡ 5 = five in cc)

again : (held : Option Key) (es : List Event) (after : Stage) → Framed held es after offset_again
unfolding offset_again
again held es after = plain held es after (Error (codes "offset again")) (λ six. let clash : 7 ≡ 6 = six in cc) (λ five. let clash : 7 ≡ 5 = five in cc)

pub uncalled : (held : Option Key) (es : List Event) (after : Stage) → Framed held es after not_called
unfolding not_called
uncalled held es after = plain held es after (Error (codes "not the called address")) (λ six. let clash : 7 ≡ 6 = six in cc) (λ five. let clash : 7 ≡ 5 = five in cc)

disk : (held : Option Key) (es : List Event) (after : Stage) → Framed held es after disk_fault
unfolding disk_fault
disk held es after = plain held es after (Error (codes "disk fault")) (λ six. let clash : 7 ≡ 6 = six in cc) (λ five. let clash : 7 ≡ 5 = five in cc)

full : (held : Option Key) (es : List Event) (after : Stage) → Framed held es after ledger_full
unfolding ledger_full
full held es after = plain held es after (Error (codes "ledger full")) (λ six. let clash : 7 ≡ 6 = six in cc) (λ five. let clash : 7 ≡ 5 = five in cc)

pub many : (held : Option Key) (es : List Event) (after : Stage) → Framed held es after too_many
unfolding too_many
many held es after = plain held es after (Bsy (codes "too many servers")) (λ six. let clash : 8 ≡ 6 = six in cc) (λ five. let clash : 8 ≡ 5 = five in cc)

pub caused : (held : Option Key) (es : List Event) (after : Stage) (cause : Cause) → Framed held es after (cause_bytes cause)
caused held es after (C.Arg fault) = broken held es after
caused held es after C.OutOfTurn = broken held es after
caused held es after C.NotCalled = uncalled held es after
caused held es after C.Late = again held es after
caused held es after C.TooMuch = broken held es after

pub faulty : (held : Option Key) (es : List Event) (after : Stage) (fault : Fault) → Framed held es after (fault_bytes fault)
faulty held es after (Disk count) = disk held es after
faulty held es after (Read count) = disk held es after
faulty held es after Full = full held es after
faulty held es after No_memory = nothing held es after

lasting : (held : Option Key) (es : List Event) (after : Stage) (end : RowEnd) → Framed held es after (last_words end)
lasting held es after Finished = nothing held es after
lasting held es after Out_of_turn = broken held es after
lasting held es after Too_late = again held es after
lasting held es after Too_much = broken held es after
lasting held es after (Refused_by fault) = faulty held es after fault

pub outcome : (held : Option Key) (es : List Event) (after : Stage) (o : Outcome) → Framed held es after (outcome_bytes o)
outcome held es after Goes_on = nothing held es after
outcome held es after Waits = nothing held es after
outcome held es after (Ends end) = lasting held es after end

-- a message that acknowledges nothing and ends no batch
pub saying : (held : Option Key) (es : List Event) (after : Stage) (c : CommandText) → number_of c ≢ 6 → number_of c ≢ 5 → Framed held es after (command_bytes c ++ [])
saying held es after c other more = both held es after (command_bytes c) [] (plain held es after c other more) (nothing held es after)

got : (held : Option Key) (es : List Event) (after : Stage) (key : Key) → Owes held es key → Framed held es after (command_bytes (GotCommand key) ++ [])
got held es after key owes = record { frames = frame_text_of (GotCommand key) ∷ []; spelled = refl; owed = ((λ six. (key, refl, owes), λ five. absurd (let clash : 6 ≡ 5 = five in cc)), tt) }

pub ending : (held : Option Key) (es : List Event) (after : Stage) → EndsBatch es after → Framed held es after (command_bytes Eob ++ [])
ending held es after ends = record { frames = frame_text_of Eob ∷ []; spelled = refl; owed = ((λ six. absurd (let clash : 5 ≡ 6 = six in cc), λ five. ends), tt) }

pub section : (held : Option Key) (es : List Event) (after : Stage) (bytes : List ℕ) → length bytes ≤ MAX_FRAME_DATA → Framed held es after (frame_bytes (Data bytes) ++ [])
section held es after bytes fits = record { frames = Data bytes ∷ []; spelled = refl; owed = (fits, tt) }

-- the frame of no data
pub filled : (held : Option Key) (es : List Event) (after : Stage) (b : Bool) → Framed held es after (filling b)
filled held es after true = record { frames = Data [] ∷ []; spelled = refl; owed = (omega arith, tt) }
filled held es after false = nothing held es after

-- what a verdict says
abbrev pub SaysWell : Option Key → List Event → Stage → Verdict → Type 0
SaysWell held es after v = Framed held es after (said_bytes v.said)

pub says_as : (held : Option Key) (es : List Event) (after : Stage) (v w : Verdict) → v ≡ w → SaysWell held es after w → SaysWell held es after v
says_as held es after v w e x = subst (SaysWell held es after) (sym e) x

file_says : (held : Option Key) (es : List Event) (after : Stage) (t : Talk) (key : Key) (offset : ℕ) (answer : Answer) (v : Verdict) → es ≡ one (File_call key offset) answer → AfterFile t key answer v → SaysWell held es after v
file_says held es after t key offset (Filed Have) v e a = says_as held es after v _ a (got held es after key (File_call key offset, Filed Have, e, refl))
file_says held es after t key offset (Filed Refuse) v e a = says_as held es after v _ a (got held es after key (File_call key offset, Filed Refuse, e, refl))
file_says held es after t key offset (Filed Whole) v e a = says_as held es after v _ a (got held es after key (File_call key offset, Filed Whole, e, refl))
file_says held es after t key offset (Filed Elsewhere) v e a = says_as held es after v _ a (saying held es after (SkipCommand key) (λ six. let clash : 10 ≡ 6 = six in cc) (λ five. let clash : 10 ≡ 5 = five in cc))
file_says held es after t key offset (Filed (From place)) v e a = says_as held es after v _ a (saying held es after (GetCommand key place) (λ six. let clash : 9 ≡ 6 = six in cc) (λ five. let clash : 9 ≡ 5 = five in cc))
file_says held es after t key offset (Filed Go) v e a = says_as held es after v _ a (nothing held es after)
file_says held es after t key offset (Filed Late) v e a = says_as held es after v _ a (nothing held es after)
file_says held es after t key offset (Refused fault) v e a = says_as held es after v _ a (nothing held es after)
file_says held es after t key offset answer v e a = absurd a

data_says : (held : Option Key) (es : List Event) (after : Stage) (t : Talk) (key : Key) (bytes : List ℕ) (answer : Answer) (v : Verdict) → held ≡ Some key → es ≡ one (Data_call bytes) answer → AfterData t key answer v → SaysWell held es after v
data_says held es after t key bytes More v has e a = says_as held es after v _ a (nothing held es after)
data_says held es after t key bytes Whole_now v has e a = says_as held es after v _ a (got held es after key (Data_call bytes, Whole_now, e, has))
data_says held es after t key bytes (Refused fault) v has e a = says_as held es after v _ a (nothing held es after)
data_says held es after t key bytes answer v has e a = absurd a

settle_says : (held : Option Key) (es : List Event) (after : Stage) (t : Talk) (answer : Answer) (v : Verdict) → AfterSettling t answer v → SaysWell held es after v
settle_says held es after t Settled v a = says_as held es after v _ a (nothing held es after)
settle_says held es after t (Refused fault) v a = says_as held es after v _ a (nothing held es after)
settle_says held es after t answer v a = absurd a

pub take_says : (part : Option Part) (es : List Event) (after : Stage) (t : Talk) (message : Message) (v : Verdict) → TakeRow part t message es v → SaysWell (part_key part) es after v
take_says part es after t (File key offset) v row = file_says (part_key part) es after t key offset row.answer v row.asks row.then
take_says part es after t (DataMessage bytes) v (Nothing_held none e a) = says_as (part_key part) es after v _ a (nothing (part_key part) es after)
take_says part es after t (DataMessage bytes) v (Drops p is taking e a) = says_as (part_key part) es after v _ a (nothing (part_key part) es after)
take_says part es after t (DataMessage bytes) v (Exceeds p is taking over e a) = says_as (part_key part) es after v _ a (nothing (part_key part) es after)
take_says part es after t (DataMessage bytes) v (Fits p is taking fits answer e a) = data_says (part_key part) es after t p.key bytes answer v (ap part_key is) e a
take_says part es after t (Got key) v (Settles s is same answer e a) = settle_says (part_key part) es after t answer v a
take_says part es after t (Got key) v (Passes_got other e a) = says_as (part_key part) es after v _ a (nothing (part_key part) es after)
take_says part es after t (Get key offset) v (Resends s is same within e a) = says_as (part_key part) es after v _ a (saying (part_key part) es after (FileCommand key offset) (λ six. let clash : 3 ≡ 6 = six in cc) (λ five. let clash : 3 ≡ 5 = five in cc))
take_says part es after t (Get key offset) v (Passes_get other e a) = says_as (part_key part) es after v _ a (nothing (part_key part) es after)
take_says part es after t (Skip key) v (Skips s is same answer e a) = settle_says (part_key part) es after t answer v a
take_says part es after t (Skip key) v (Passes_skip other e a) = says_as (part_key part) es after v _ a (nothing (part_key part) es after)
take_says part es after t EndMessage v row = says_as (part_key part) es after v _ row.1 (nothing (part_key part) es after)

-- What a message leaves of the own batch.

-- none of these calls offers
abbrev pub AllQuiet : List Event → Type 0
AllQuiet [] = Unit {0}
AllQuiet (e ∷ es) = (e.call ≡ Offer_call → ⊥) × AllQuiet es

pub none_quiet : (es : List Event) → es ≡ [] → AllQuiet es
none_quiet es e = subst AllQuiet (sym e) tt

pub one_quiet : (es : List Event) (call : Call) (answer : Answer) → (call ≡ Offer_call → ⊥) → es ≡ one call answer → AllQuiet es
one_quiet es call answer other e = subst AllQuiet (sym e) (other, tt)

settle_end : (t : Talk) (answer : Answer) (v : Verdict) → AfterSettling t answer v → v.after.own_end ≡ t.own_end
settle_end t Settled v a = ap (λ (x : Verdict). x.after.own_end) a
settle_end t (Refused fault) v a = ap (λ (x : Verdict). x.after.own_end) a
settle_end t answer v a = absurd a

file_end : (t : Talk) (key : Key) (answer : Answer) (v : Verdict) → AfterFile t key answer v → v.after.own_end ≡ t.own_end
file_end t key (Filed Have) v a = ap (λ (x : Verdict). x.after.own_end) a
file_end t key (Filed Refuse) v a = ap (λ (x : Verdict). x.after.own_end) a
file_end t key (Filed Whole) v a = ap (λ (x : Verdict). x.after.own_end) a
file_end t key (Filed Elsewhere) v a = ap (λ (x : Verdict). x.after.own_end) a
file_end t key (Filed (From place)) v a = ap (λ (x : Verdict). x.after.own_end) a
file_end t key (Filed Go) v a = ap (λ (x : Verdict). x.after.own_end) a
file_end t key (Filed Late) v a = ap (λ (x : Verdict). x.after.own_end) a
file_end t key (Refused fault) v a = ap (λ (x : Verdict). x.after.own_end) a
file_end t key answer v a = absurd a

data_end : (t : Talk) (key : Key) (answer : Answer) (v : Verdict) → AfterData t key answer v → v.after.own_end ≡ t.own_end
data_end t key More v a = ap (λ (x : Verdict). x.after.own_end) a
data_end t key Whole_now v a = ap (λ (x : Verdict). x.after.own_end) a
data_end t key (Refused fault) v a = ap (λ (x : Verdict). x.after.own_end) a
data_end t key answer v a = absurd a

pub take_end : (part : Option Part) (es : List Event) (t : Talk) (message : Message) (v : Verdict) → TakeRow part t message es v → v.after.own_end ≡ t.own_end
take_end part es t (File key offset) v row = file_end t key row.answer v row.then
take_end part es t (DataMessage bytes) v (Nothing_held none e a) = ap (λ (x : Verdict). x.after.own_end) a
take_end part es t (DataMessage bytes) v (Drops p is taking e a) = ap (λ (x : Verdict). x.after.own_end) a
take_end part es t (DataMessage bytes) v (Exceeds p is taking over e a) = ap (λ (x : Verdict). x.after.own_end) a
take_end part es t (DataMessage bytes) v (Fits p is taking fits answer e a) = data_end t p.key answer v a
take_end part es t (Got key) v (Settles s is same answer e a) = settle_end t answer v a
take_end part es t (Got key) v (Passes_got other e a) = ap (λ (x : Verdict). x.after.own_end) a
take_end part es t (Get key offset) v (Resends s is same within e a) = ap (λ (x : Verdict). x.after.own_end) a
take_end part es t (Get key offset) v (Passes_get other e a) = ap (λ (x : Verdict). x.after.own_end) a
take_end part es t (Skip key) v (Skips s is same answer e a) = settle_end t answer v a
take_end part es t (Skip key) v (Passes_skip other e a) = ap (λ (x : Verdict). x.after.own_end) a
take_end part es t EndMessage v row = ap (λ (x : Verdict). x.after.own_end) row.1

pub take_quiet : (part : Option Part) (es : List Event) (t : Talk) (message : Message) (v : Verdict) → TakeRow part t message es v → AllQuiet es
take_quiet part es t (File key offset) v row = one_quiet es _ row.answer (λ h. cc) row.asks
take_quiet part es t (DataMessage bytes) v (Nothing_held none e a) = none_quiet es e
take_quiet part es t (DataMessage bytes) v (Drops p is taking e a) = none_quiet es e
take_quiet part es t (DataMessage bytes) v (Exceeds p is taking over e a) = none_quiet es e
take_quiet part es t (DataMessage bytes) v (Fits p is taking fits answer e a) = one_quiet es _ answer (λ h. cc) e
take_quiet part es t (Got key) v (Settles s is same answer e a) = one_quiet es _ answer (λ h. cc) e
take_quiet part es t (Got key) v (Passes_got other e a) = none_quiet es e
take_quiet part es t (Get key offset) v (Resends s is same within e a) = none_quiet es e
take_quiet part es t (Get key offset) v (Passes_get other e a) = none_quiet es e
take_quiet part es t (Skip key) v (Skips s is same answer e a) = one_quiet es _ answer (λ h. cc) e
take_quiet part es t (Skip key) v (Passes_skip other e a) = none_quiet es e
take_quiet part es t EndMessage v row = none_quiet es row.0
