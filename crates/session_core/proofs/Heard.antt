-- Messages after login that were taken.
use Rattle.std.proofs.Common.{◌≡◌, ◌⊎◌, ◌∙◌, ◌<◌, ℕ, Bool, true, List, [], ◌++◌, length, Option, Result, Ok, Err, refl, sym, ap, subst, inl, inr}
use Rattle.std.proofs.lemmas.List.{append-nil}
use Rattle.ftn_addr.specs.Key.{Key}
use Rattle.binkp_args.specs.Command.{CommandText, Nul, Adr, Pwd, File as FileCommand, Accept, Eob, Got as GotCommand, Error, Bsy, Get as GetCommand, Skip as SkipCommand, Other}
use Rattle.node_model.specs.Rows.{Have, Refuse, Elsewhere, Go, Whole, From, Late}
use Rattle.node_model.specs.Calls.{No_memory, Answer, Filed, More, Whole_now, Settled, Refused, Event, asked_of}
use Rattle.node_model.specs.Images.{Stand}
use Rattle.node_model.specs.Talk.{on, Got, Get, Skip, End as EndMessage, Talk, Part, Message, Verdict, TakeRow, AfterFile, FileTaken, AfterData, DataTaken, Nothing_held, Drops, Exceeds, Fits, Refused_by, Outcome, Goes_on, Ends, AfterSettling, Settles, Passes_got, Skips, Passes_skip, Resends, Passes_get, Sending}
use Rattle.node_model.specs.Desks.{fault_of}
use Rattle.node_model.specs.declared.desk.DeskFault.{DeskFault}
use Rattle.node_model.proofs.Rans.{ran_none}
use Rattle.session_recv.specs.declared.receiver.RecvStep.{RecvStep}
use Rattle.session_recv.specs.Replies.{DidTake, held_along, received_along, replies_bytes, step_outcome}
use Rattle.session_send.specs.Senders.{CommandRow as SenderRow, SendCounts, Takes, counts_along, offers_bytes, taken_outcome}
use Rattle.session_core.specs.Ends as E
use Rattle.session_core.specs.Takings.{Took}
use Rattle.session_core.specs.Takings as T
use Rattle.session_core.specs.Stages.{Stage, Talks, Tally, tally_along}
use Rattle.session_core.specs.Says.{said_bytes, fault_bytes}
use Rattle.session_core.specs.Sessions.{AnswerRow, TalkRow, Reply, fault_end, reply_of, outcome_bytes, outcome_took}
use Rattle.session_core.specs.Replies.{Counts, Did, Writes}
use Rattle.session_core.proofs.Writings.{wrote_all, wrote_then, no_more, if_more, some_first, gave_up}

-- What a file and data leave of a talk, and what they have said.

file_after : (t : Talk) (key : Key) (x : Answer) (v : Verdict) → AfterFile t key x v → (v.after ≡ t) × (said_bytes v.said ≡ replies_bytes v.said)
file_after t key (Filed Have) v a = rw a (refl, refl)
file_after t key (Filed Refuse) v a = rw a (refl, refl)
file_after t key (Filed Whole) v a = rw a (refl, refl)
file_after t key (Filed Elsewhere) v a = rw a (refl, refl)
file_after t key (Filed (From place)) v a = rw a (refl, refl)
file_after t key (Filed Go) v a = rw a (refl, refl)
file_after t key (Filed Late) v a = rw a (refl, refl)
file_after t key (Refused fault) v a = rw a (refl, refl)
file_after t key _ v a = absurd a

pub file_keeps : (t : Talk) (key : Key) (offset : ℕ) (es : List Event) (v : Verdict) → FileTaken t key offset es v → (v.after ≡ t) × (said_bytes v.said ≡ replies_bytes v.said)
file_keeps t key offset es v row = file_after t key row.answer v row.then

data_after : (t : Talk) (key : Key) (x : Answer) (v : Verdict) → AfterData t key x v → (v.after ≡ t) × (said_bytes v.said ≡ replies_bytes v.said)
data_after t key More v a = rw a (refl, refl)
data_after t key Whole_now v a = rw a (refl, refl)
data_after t key (Refused fault) v a = rw a (refl, refl)
data_after t key _ v a = absurd a

pub data_keeps : (part : Option Part) (t : Talk) (bytes : List ℕ) (es : List Event) (v : Verdict) → DataTaken part t bytes es v → (v.after ≡ t) × (said_bytes v.said ≡ replies_bytes v.said)
data_keeps part t bytes es v (Nothing_held idle none is) = rw is (refl, refl)
data_keeps part t bytes es v (Drops p has taken none is) = rw is (refl, refl)
data_keeps part t bytes es v (Exceeds p has taking much none is) = rw is (refl, refl)
data_keeps part t bytes es v (Fits p has taking fits x asks after) = data_after t p.key x v after

-- What came of it is told: the words of a row are written, and then those of its end.
told : (n : ℕ) (out mid out' : List ℕ) (v : Verdict) (o : Outcome) (took : Took) → ((o ≡ v.outcome) × (mid ≡ out ++ said_bytes v.said)) ⊎ ((o ≡ Ends (Refused_by No_memory)) × (0 < length (said_bytes v.said)) × (mid ≡ out)) → Writes mid out' (outcome_bytes o) (outcome_took n o) took → Writes out out' (said_bytes v.said ++ outcome_bytes v.outcome) (outcome_took n v.outcome) took
told n out mid out' v o took (inl x) w =
    wrote_then out mid out' (said_bytes v.said) (outcome_bytes v.outcome) (outcome_took n v.outcome) took x.1 (subst (λ (k : Outcome). Writes mid out' (outcome_bytes k) (outcome_took n k) took) x.0 w)
told n out mid out' v o took (inr x) w =
    let none : (took ≡ T.Ended E.NoMemory) × (out' ≡ mid) = gave_up mid out' took (subst (λ (k : Outcome). Writes mid out' (outcome_bytes k) (outcome_took n k) took) x.0 w) in
    let over : Writes out out' (said_bytes v.said ++ outcome_bytes v.outcome) (outcome_took n v.outcome) (T.Ended E.NoMemory) = no_more out out' _ _ (some_first (said_bytes v.said) (outcome_bytes v.outcome) x.1) (none.1 ∙ x.2) in
    subst (λ (k : Took). Writes out out' (said_bytes v.said ++ outcome_bytes v.outcome) (outcome_took n v.outcome) k) (sym none.0) over

-- these calls make receipts alone
abbrev pub ReceivesOnly : Tally → List Event → Type 0
ReceivesOnly tally es = tally_along tally es ≡ record tally { received = received_along tally.received es }

pub file_counts : (tally : Tally) (t : Talk) (key : Key) (offset : ℕ) (es : List Event) (v : Verdict) → FileTaken t key offset es v → ReceivesOnly tally es
file_counts tally t key offset es v row = rw row.asks refl

pub data_counts : (tally : Tally) (part : Option Part) (t : Talk) (bytes : List ℕ) (es : List Event) (v : Verdict) → DataTaken part t bytes es v → ReceivesOnly tally es
data_counts tally part t bytes es v (Nothing_held idle none is) = rw none refl
data_counts tally part t bytes es v (Drops p has taken none is) = rw none refl
data_counts tally part t bytes es v (Exceeds p has taking much none is) = rw none refl
data_counts tally part t bytes es v (Fits p has taking fits x asks after) = rw asks refl

-- a message was taken by the receiving half
pub heard : (n : ℕ) (talk : Talk) (held held' : Option Part) (message : Message) (alone : Bool) (old new : Stand) (tally : Tally) (count : ℕ) (out mid out' : List ℕ) (step : Result RecvStep DeskFault) (took : Took) → ((es : List Event) (v : Verdict) → TakeRow held talk message es v → (v.after ≡ talk) × (said_bytes v.said ≡ replies_bytes v.said)) → ((es : List Event) (v : Verdict) → TakeRow held talk message es v → ReceivesOnly tally es) → DidTake (TakeRow held talk message) alone old new held held' tally.received count out mid step → Writes mid out' (outcome_bytes (step_outcome step)) (outcome_took n (step_outcome step)) took → Counts (TalkRow n talk held message) alone old new tally (record tally { received = count }) (Talks talk held') out out' took
heard n talk held held' message alone old new tally count out mid out' step took keeps counts d w =
    let kept : (d.verdict.after ≡ talk) × (said_bytes d.verdict.said ≡ replies_bytes d.verdict.said) = keeps (asked_of d.events) d.verdict d.row in
    record {
      did = record {
        events = d.events;
        reply = reply_of n held (asked_of d.events) d.verdict;
        row = record { verdict = d.verdict; row = d.row; is = refl };
        ran = d.ran;
        stage_is = if_more took _ (ap (λ (t : Talk). Talks t held') (sym kept.0) ∙ ap (λ (h : Option Part). Talks d.verdict.after h) d.held_is);
        writes = told n out mid out' d.verdict (step_outcome step) took (elim d.writes as (λ _. ((step_outcome step ≡ d.verdict.outcome) × (mid ≡ out ++ said_bytes d.verdict.said)) ⊎ ((step_outcome step ≡ Ends (Refused_by No_memory)) × (0 < length (said_bytes d.verdict.said)) × (mid ≡ out))) [
          | inl x ↦ inl (x.0, x.1 ∙ ap (λ (s : List ℕ). out ++ s) (sym kept.1))
          | inr x ↦ inr (ap step_outcome x.0, subst (λ (s : List ℕ). 0 < length s) (sym kept.1) x.1, x.2)
        ]) w;
      };
      count_is = ap (λ (m : ℕ). record tally { received = m }) d.count_is ∙ sym (counts (asked_of d.events) d.verdict d.row);
    }

-- the peer's batch ended
did_eob : (n : ℕ) (talk : Talk) (held : Option Part) (alone : Bool) (s : Stand) (out : List ℕ) → Did (TalkRow n talk held EndMessage) alone s s (Talks (record talk { peer_end = true }) held) out out T.More
did_eob n talk held alone s out = record {
  events = [];
  reply = reply_of n held [] (on (record talk { peer_end = true }) []);
  row = record { verdict = on (record talk { peer_end = true }) []; row = (refl, refl); is = refl };
  ran = ran_none alone s;
  stage_is = refl;
  writes = wrote_all out out [] T.More (sym (append-nil out));
}

pub eob_counts : (t : Tally) (n : ℕ) (talk : Talk) (held : Option Part) (alone : Bool) (s : Stand) (out : List ℕ) → Counts (TalkRow n talk held EndMessage) alone s s t t (Talks (record talk { peer_end = true }) held) out out T.More
unfolding did_eob
eob_counts t n talk held alone s out = record { did = did_eob n talk held alone s out; count_is = refl }

-- What the peer's answer has said, and that it leaves what is held.

settled_said : (t : Talk) (x : Answer) (v : Verdict) → AfterSettling t x v → said_bytes v.said ≡ offers_bytes v.said
settled_said t Settled v a = rw a refl
settled_said t (Refused fault) v a = rw a refl
settled_said t _ v a = absurd a

answer_keeps : (t : Talk) (held : Option Part) (command : CommandText) (es : List Event) (v : Verdict) → SenderRow t command es v → (held_along held es ≡ held) × (said_bytes v.said ≡ offers_bytes v.said)
answer_keeps t held (GotCommand key) es v (Settles s way same x asks after) = (ap (held_along held) asks, settled_said t x v after)
answer_keeps t held (GotCommand key) es v (Passes_got other none is) = (ap (held_along held) none, rw is refl)
answer_keeps t held (SkipCommand key) es v (Skips s way same x asks after) = (ap (held_along held) asks, settled_said t x v after)
answer_keeps t held (SkipCommand key) es v (Passes_skip other none is) = (ap (held_along held) none, rw is refl)
answer_keeps t held (GetCommand key offset) es v (Resends s way same inside none is) = (ap (held_along held) none, rw is refl)
answer_keeps t held (GetCommand key offset) es v (Passes_get other none is) = (ap (held_along held) none, rw is refl)
answer_keeps t held (Nul text) es v row = (ap (held_along held) row.0, rw row.1 refl)
answer_keeps t held (Adr addresses) es v row = (ap (held_along held) row.0, rw row.1 refl)
answer_keeps t held (Pwd text) es v row = (ap (held_along held) row.0, rw row.1 refl)
answer_keeps t held (FileCommand key offset) es v row = (ap (held_along held) row.0, rw row.1 refl)
answer_keeps t held (Accept text) es v row = (ap (held_along held) row.0, rw row.1 refl)
answer_keeps t held Eob es v row = (ap (held_along held) row.0, rw row.1 refl)
answer_keeps t held (Error text) es v row = (ap (held_along held) row.0, rw row.1 refl)
answer_keeps t held (Bsy text) es v row = (ap (held_along held) row.0, rw row.1 refl)
answer_keeps t held (Other number) es v row = (ap (held_along held) row.0, rw row.1 refl)

-- these calls settle and skip alone
abbrev pub AnswersOnly : Tally → List Event → Type 0
AnswersOnly tally es =
    tally_along tally es ≡ record tally { sent = (counts_along (record { sent = tally.sent; skipped = tally.skipped }) es).sent; skipped = (counts_along (record { sent = tally.sent; skipped = tally.skipped }) es).skipped }

answer_counts : (tally : Tally) (t : Talk) (command : CommandText) (es : List Event) (v : Verdict) → SenderRow t command es v → AnswersOnly tally es
answer_counts tally t (GotCommand key) es v (Settles s way same x asks after) = rw asks refl
answer_counts tally t (GotCommand key) es v (Passes_got other none is) = rw none refl
answer_counts tally t (SkipCommand key) es v (Skips s way same x asks after) = rw asks refl
answer_counts tally t (SkipCommand key) es v (Passes_skip other none is) = rw none refl
answer_counts tally t (GetCommand key offset) es v (Resends s way same inside none is) = rw none refl
answer_counts tally t (GetCommand key offset) es v (Passes_get other none is) = rw none refl
answer_counts tally t (Nul text) es v row = rw row.0 refl
answer_counts tally t (Adr addresses) es v row = rw row.0 refl
answer_counts tally t (Pwd text) es v row = rw row.0 refl
answer_counts tally t (FileCommand key offset) es v row = rw row.0 refl
answer_counts tally t (Accept text) es v row = rw row.0 refl
answer_counts tally t Eob es v row = rw row.0 refl
answer_counts tally t (Error text) es v row = rw row.0 refl
answer_counts tally t (Bsy text) es v row = rw row.0 refl
answer_counts tally t (Other number) es v row = rw row.0 refl

tallied : (tally : Tally) (counts : SendCounts) (t : Talk) (command : CommandText) (es : List Event) (v : Verdict) → SenderRow t command es v → counts ≡ counts_along (record { sent = tally.sent; skipped = tally.skipped }) es → record tally { sent = counts.sent; skipped = counts.skipped } ≡ tally_along tally es
tallied tally counts t command es v row e = ap (λ (c : SendCounts). record tally { sent = c.sent; skipped = c.skipped }) e ∙ sym (answer_counts tally t command es v row)

-- the sending half took the peer's answer
pub answered : (n : ℕ) (t : Talk) (held : Option Part) (command : CommandText) (alone : Bool) (old new : Stand) (now : Option Sending) (tally : Tally) (counts : SendCounts) (out out' : List ℕ) → Takes (SenderRow t command) alone old new t now (record { sent = tally.sent; skipped = tally.skipped }) counts out out' (Ok tt) → Counts (AnswerRow n t held command) alone old new tally (record tally { sent = counts.sent; skipped = counts.skipped }) (Talks (record t { sending = now }) held) out out' T.More
answered n t held command alone old new now tally counts out out' k =
    let kept : (held_along held (asked_of k.events) ≡ held) × (said_bytes k.verdict.said ≡ offers_bytes k.verdict.said) = answer_keeps t held command (asked_of k.events) k.verdict k.row in
    record {
      did = record {
        events = k.events;
        reply = reply_of n held (asked_of k.events) k.verdict;
        row = record { verdict = k.verdict; row = k.row; is = refl };
        ran = k.ran;
        stage_is = ap (λ (a : Talk). Talks a held) (sym k.after) ∙ ap (λ (h : Option Part). Talks k.verdict.after h) (sym kept.0);
        writes = told n out out' out' k.verdict Goes_on T.More (elim k.writes as (λ _. ((Goes_on ≡ k.verdict.outcome) × (out' ≡ out ++ said_bytes k.verdict.said)) ⊎ ((Goes_on ≡ Ends (Refused_by No_memory)) × (0 < length (said_bytes k.verdict.said)) × (out' ≡ out))) [
          | inl x ↦ inl (x.0, x.1 ∙ ap (λ (s : List ℕ). out ++ s) (sym kept.1))
          | inr x ↦ absurd (let clash = x.0 in cc)
        ]) (wrote_all out' out' [] T.More (sym (append-nil out')));
      };
      count_is = tallied tally counts t command (asked_of k.events) k.verdict k.row k.counted;
    }

-- or its desk refused, and that was told
pub answer_refused : (n : ℕ) (t : Talk) (held : Option Part) (command : CommandText) (alone : Bool) (old new : Stand) (now : Option Sending) (tally : Tally) (counts : SendCounts) (stage : Stage) (out mid out' : List ℕ) (fault : DeskFault) (end : E.End) → Takes (SenderRow t command) alone old new t now (record { sent = tally.sent; skipped = tally.skipped }) counts out mid (Err fault) → Writes mid out' (fault_bytes (fault_of fault)) (T.Ended (fault_end (fault_of fault))) (T.Ended end) → Counts (AnswerRow n t held command) alone old new tally (record tally { sent = counts.sent; skipped = counts.skipped }) stage out out' (T.Ended end)
answer_refused n t held command alone old new now tally counts stage out mid out' fault end k w =
    let kept : (held_along held (asked_of k.events) ≡ held) × (said_bytes k.verdict.said ≡ offers_bytes k.verdict.said) = answer_keeps t held command (asked_of k.events) k.verdict k.row in
    record {
      did = record {
        events = k.events;
        reply = reply_of n held (asked_of k.events) k.verdict;
        row = record { verdict = k.verdict; row = k.row; is = refl };
        ran = k.ran;
        stage_is = tt;
        writes = told n out mid out' k.verdict (Ends (Refused_by (fault_of fault))) (T.Ended end) (elim k.writes as (λ _. ((Ends (Refused_by (fault_of fault)) ≡ k.verdict.outcome) × (mid ≡ out ++ said_bytes k.verdict.said)) ⊎ ((Ends (Refused_by (fault_of fault)) ≡ Ends (Refused_by No_memory)) × (0 < length (said_bytes k.verdict.said)) × (mid ≡ out))) [
          | inl x ↦ inl (x.0, x.1 ∙ ap (λ (s : List ℕ). out ++ s) (sym kept.1))
          | inr x ↦ inr (ap taken_outcome x.0, subst (λ (s : List ℕ). 0 < length s) (sym kept.1) x.1, x.2)
        ]) w;
      };
      count_is = tallied tally counts t command (asked_of k.events) k.verdict k.row k.counted;
    }

-- such a row is one over the message
pub got_talk : (n : ℕ) (talk : Talk) (held : Option Part) (key : Key) (es : List Event) (r : Reply) → AnswerRow n talk held (GotCommand key) es r → TalkRow n talk held (Got key) es r
got_talk n talk held key es r row = record { verdict = row.verdict; row = row.row; is = row.is }

pub get_talk : (n : ℕ) (talk : Talk) (held : Option Part) (key : Key) (offset : ℕ) (es : List Event) (r : Reply) → AnswerRow n talk held (GetCommand key offset) es r → TalkRow n talk held (Get key offset) es r
get_talk n talk held key offset es r row = record { verdict = row.verdict; row = row.row; is = row.is }

pub skip_talk : (n : ℕ) (talk : Talk) (held : Option Part) (key : Key) (es : List Event) (r : Reply) → AnswerRow n talk held (SkipCommand key) es r → TalkRow n talk held (Skip key) es r
skip_talk n talk held key es r row = record { verdict = row.verdict; row = row.row; is = row.is }
