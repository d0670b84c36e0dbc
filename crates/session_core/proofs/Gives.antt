-- Own turns that were made.
use Rattle.std.proofs.Common.{◌≡◌, ◌∙◌, ◌<◌, ℕ, Bool, true, false, List, [], ◌∷◌, ◌++◌, length, Option, Some, Ok, Err, refl, sym, ap, subst, inl, inr, arith, length-append}
use Rattle.std.specs.Prelude.{◌||◌}
use Rattle.std.proofs.lemmas.List.{append-nil}
use Rattle.binkp_args.specs.Command.{Eob}
use Rattle.node_model.specs.Calls.{Answer, Came, Offered, Nothing, Refused, Event, asked_of}
use Rattle.node_model.specs.Images.{Stand}
use Rattle.node_model.specs.Talk.{Message, File, Data, Got, Get, Skip, Talk, Part, Sending, Verdict, on, waits, ends, fills, End, Finished, Refused_by, is_finished, calls, SendVerdict, Sent, Filled, Waiting, Empty, Fails, AfterRead, AfterOffer, SendRow, Reads, Fills, Awaits, Asks, AfterSend, Says, Fills_out, Awaits_answer, Says_end, Waits_for_end, Ends_by, Finishes, Rests, Gives}
use Rattle.node_model.specs.Desks.{fault_of}
use Rattle.node_model.specs.declared.desk.DeskFault.{DeskFault}
use Rattle.node_model.specs.declared.desk.DeskFault.TheVariants as D
use Rattle.node_model.proofs.Rans.{ran_none}
use Rattle.session_send.specs.Senders.{Steps, Makes, Follows, Says as SaysIt, offer_bytes, SendCounts, counts_in}
use Rattle.session_send.specs.declared.sending.SendStep.TheVariants as S
use Rattle.session_core.specs.Ends as E
use Rattle.session_core.specs.Givings.{Gave}
use Rattle.session_core.specs.Givings as G
use Rattle.session_core.specs.Takings as T
use Rattle.session_core.specs.Stages.{Stage, Logs_in, Talks}
use Rattle.session_core.specs.Says.{message_bytes, said_bytes, fault_bytes}
use Rattle.session_core.specs.Sessions.{GiveRow, TalkTurn, fault_end, outcome_gave, turn_of}
use Rattle.session_core.specs.declared.stage.Talking.{Talking}
use Rattle.session_recv.specs.Replies.{command_bytes, held_of}
use Rattle.session_core.specs.Replies.{EndsBatch, IfOn, MadeTurn, Writes, WritesTurn, talk_of, tally_of}
use Rattle.session_core.proofs.Writings.{as_turn, gave_all, gave_none, gave_nothing, gave_up}

-- before login
abbrev pub IsEarly : Stage → Type 0
IsEarly (Talks talk held) = ⊥
IsEarly stage = Unit {0}

pub gave_early : (block : ℕ) (stage : Stage) (alone : Bool) (desk : Stand) (out : List ℕ) → IsEarly stage → MadeTurn (GiveRow block stage) alone desk desk stage stage out out G.Waits
gave_early block (Logs_in at) alone desk out early = inl (record { events = []; turn = record { output = []; gave = G.Waits; stage = Logs_in at }; row = (refl, refl); ran = ran_none alone desk; stage_is = refl; writes = gave_nothing out G.Waits })
gave_early block (Talks talk held) alone desk out early = absurd early

pub gave_finish : (block : ℕ) (talk : Talk) (held : Option Part) (alone : Bool) (desk : Stand) (out : List ℕ) → is_finished talk held ≡ true → MadeTurn (TalkTurn block talk held) alone desk desk (Talks talk held) (Talks talk held) out out (G.Ended E.Finished)
gave_finish block talk held alone desk out done = inl (record {
  events = [];
  turn = turn_of held (ends talk Finished);
  row = record { verdict = ends talk Finished; row = Finishes done refl refl; is = refl };
  ran = ran_none alone desk;
  stage_is = tt;
  writes = gave_nothing out (G.Ended E.Finished);
})

pub gave_rest : (block : ℕ) (talk : Talk) (held : Option Part) (alone : Bool) (desk : Stand) (out : List ℕ) → is_finished talk held ≡ false → talk.own_end ≡ true → MadeTurn (TalkTurn block talk held) alone desk desk (Talks talk held) (Talks talk held) out out G.Waits
gave_rest block talk held alone desk out not_done own = inl (record {
  events = [];
  turn = turn_of held (waits talk);
  row = record { verdict = waits talk; row = Rests not_done own refl refl; is = refl };
  ran = ran_none alone desk;
  stage_is = refl;
  writes = gave_nothing out G.Waits;
})

-- What is sent is a file's offer or its data.

read_said : (block : ℕ) (s : Sending) (x : Answer) (message : Message) (next : Sending) → AfterRead block s x (Sent message next) → (offer_bytes message ≡ message_bytes message) × (0 < length (offer_bytes message))
read_said block s (Came bytes) message next after = let e : message ≡ Data bytes = let f = after.1 in cc in rw e (refl, omega arith)
read_said block s (Refused fault) message next after = absurd (let f : Sent message next ≡ Fails fault = after in cc)
read_said block s _ message next after = absurd after

offer_said : (x : Answer) (message : Message) (next : Sending) → AfterOffer x (Sent message next) → (offer_bytes message ≡ message_bytes message) × (0 < length (offer_bytes message))
offer_said (Offered number key) message next after = let e : message ≡ File key 0 = let f = after in cc in rw e (refl, omega arith)
offer_said Nothing message next after = absurd (let f : Sent message next ≡ Empty = after in cc)
offer_said (Refused fault) message next after = absurd (let f : Sent message next ≡ Fails fault = after in cc)
offer_said _ message next after = absurd after

sent_said : (block : ℕ) (was : Option Sending) (es : List Event) (message : Message) (next : Sending) → SendRow block was es (Sent message next) → (offer_bytes message ≡ message_bytes message) × (0 < length (offer_bytes message))
sent_said block was es message next (Reads s way left x asks after) = read_said block s x message next after
sent_said block was es message next (Fills s way bare asks is) = absurd (let f : Sent message next ≡ Filled (record s { bare = false }) = is in cc)
sent_said block was es message next (Awaits s way bare at asks is) = absurd (let f : Sent message next ≡ Waiting = is in cc)
sent_said block was es message next (Asks idle x asks after) = offer_said x message next after

-- said whole, where it was sent
says_sent : (message : Message) (out out' : List ℕ) → SaysIt message out out' (Ok S.Sent) → out' ≡ out ++ offer_bytes message
says_sent (File key offset) out out' (inl x) = x.1
says_sent (File key offset) out out' (inr x) = absurd (let f = x.0 in cc)
says_sent (Data bytes) out out' x = x.1
says_sent (Got key) out out' x = x.1
says_sent (Get key offset) out out' x = x.1
says_sent (Skip key) out out' x = x.1
says_sent End out out' x = x.1

-- or not at all, for want of memory
says_none : (message : Message) (out out' : List ℕ) (fault : DeskFault) → SaysIt message out out' (Err fault) → (fault ≡ D.NoMemory) × (out' ≡ out)
says_none (File key offset) out out' fault (inl x) = absurd (let f = x.0 in cc)
says_none (File key offset) out out' fault (inr x) = (let f = x.0 in cc, x.1)
says_none (Data bytes) out out' fault x = absurd (let f = x.0 in cc)
says_none (Got key) out out' fault x = absurd (let f = x.0 in cc)
says_none (Get key offset) out out' fault x = absurd (let f = x.0 in cc)
says_none (Skip key) out out' fault x = absurd (let f = x.0 in cc)
says_none End out out' fault x = absurd (let f = x.0 in cc)

-- A frame was sent.
pub gave_sent : (block : ℕ) (talk : Talk) (held : Option Part) (alone : Bool) (old new : Stand) (now : Option Sending) (out out' : List ℕ) → talk.own_end ≡ false → Steps block talk.sending alone old new now out out' (Ok S.Sent) → MadeTurn (TalkTurn block talk held) alone old new (Talks talk held) (Talks (record talk { sending = now }) held) out out' G.Sent
gave_sent block talk held alone old new now out out' own (inr up) = absurd (let f = up.is in cc)
gave_sent block talk held alone old new now out out' own (inl m) = go m.verdict m.row m.follows
  where
    next : (s : Sending) → now ≡ Some s → Talks (record talk { sending = now }) held ≡ Talks (record talk { sending = Some s }) held
    next s e = ap (λ (x : Option Sending). Talks (record talk { sending = x }) held) e

    go : (w : SendVerdict) → SendRow block talk.sending (asked_of m.events) w → Follows w talk.sending now out out' (Ok S.Sent) → MadeTurn (TalkTurn block talk held) alone old new (Talks talk held) (Talks (record talk { sending = now }) held) out out' G.Sent
    go (Sent message s) row f = inl (record {
      events = m.events;
      turn = turn_of held (on (record talk { sending = Some s }) (message ∷ []));
      row = record { verdict = on (record talk { sending = Some s }) (message ∷ []); row = Gives own (Sent message s) row (Says refl); is = refl };
      ran = m.ran;
      stage_is = next s f.0;
      writes = gave_all out out' (said_bytes (message ∷ []) ++ []) G.Sent (says_sent message out out' f.1 ∙ ap (λ (x : List ℕ). out ++ x) ((sent_said block talk.sending (asked_of m.events) message s row).0 ∙ sym (append-nil (message_bytes message)) ∙ sym (append-nil (said_bytes (message ∷ [])))));
    })
    go (Filled s) row f = inl (record {
      events = m.events;
      turn = turn_of held (fills (record talk { sending = Some s }));
      row = record { verdict = fills (record talk { sending = Some s }); row = Gives own (Filled s) row (Fills_out refl); is = refl };
      ran = m.ran;
      stage_is = next s f.0;
      writes = gave_all out out' (0 ∷ 0 ∷ []) G.Sent f.1.1;
    })
    go Waiting row f = absurd (let e = f.1.0 in cc)
    go Empty row f = absurd (let e = f.1.0 in cc)
    go (Fails fault) row f = absurd f.1.0

-- it has some bytes
pub sent_some : (block : ℕ) (was : Option Sending) (alone : Bool) (old new : Stand) (now : Option Sending) (out out' : List ℕ) → Steps block was alone old new now out out' (Ok S.Sent) → 0 < length out'
sent_some block was alone old new now out out' (inr up) = absurd (let f = up.is in cc)
sent_some block was alone old new now out out' (inl m) = go m.verdict m.row m.follows
  where
    longer : (ys : List ℕ) → out' ≡ out ++ ys → 0 < length ys → 0 < length out'
    longer ys e some = omega (arith, some, ap length e, length-append out ys)

    go : (w : SendVerdict) → SendRow block was (asked_of m.events) w → Follows w was now out out' (Ok S.Sent) → 0 < length out'
    go (Sent message s) row f = longer (offer_bytes message) (says_sent message out out' f.1) (sent_said block was (asked_of m.events) message s row).1
    go (Filled s) row f = longer (0 ∷ 0 ∷ []) f.1.1 (omega arith)
    go Waiting row f = absurd (let e = f.1.0 in cc)
    go Empty row f = absurd (let e = f.1.0 in cc)
    go (Fails fault) row f = absurd f.1.0

-- The file under way is sent, and the peer hasn't answered.
pub gave_wait : (block : ℕ) (talk : Talk) (held : Option Part) (alone : Bool) (old new : Stand) (now : Option Sending) (out out' : List ℕ) → talk.own_end ≡ false → Steps block talk.sending alone old new now out out' (Ok S.Waiting) → MadeTurn (TalkTurn block talk held) alone old new (Talks talk held) (Talks (record talk { sending = now }) held) out out' G.Waits
gave_wait block talk held alone old new now out out' own (inr up) = absurd (let f = up.is in cc)
gave_wait block talk held alone old new now out out' own (inl m) = go m.verdict m.row m.follows
  where
    sent : (message : Message) → SaysIt message out out' (Ok S.Waiting) → ⊥
    sent (File key offset) (inl x) = let f = x.0 in cc
    sent (File key offset) (inr x) = let f = x.0 in cc
    sent (Data bytes) x = let f = x.0 in cc
    sent (Got key) x = let f = x.0 in cc
    sent (Get key offset) x = let f = x.0 in cc
    sent (Skip key) x = let f = x.0 in cc
    sent End x = let f = x.0 in cc

    go : (w : SendVerdict) → SendRow block talk.sending (asked_of m.events) w → Follows w talk.sending now out out' (Ok S.Waiting) → MadeTurn (TalkTurn block talk held) alone old new (Talks talk held) (Talks (record talk { sending = now }) held) out out' G.Waits
    go (Sent message s) row f = absurd (sent message f.1)
    go (Filled s) row f = absurd (let e = f.1.0 in cc)
    go Waiting row f = inl (record {
      events = m.events;
      turn = turn_of held (waits talk);
      row = record { verdict = waits talk; row = Gives own Waiting row (Awaits_answer refl); is = refl };
      ran = m.ran;
      stage_is = ap (λ (x : Option Sending). Talks (record talk { sending = x }) held) f.0;
      writes = gave_all out out' [] G.Waits (f.1.1 ∙ sym (append-nil out));
    })
    go Empty row f = absurd (let e = f.1.0 in cc)
    go (Fails fault) row f = absurd f.1.0

-- Nothing is offered, and what follows of that is told.
pub gave_empty : (block : ℕ) (talk : Talk) (held held' : Option Part) (alone : Bool) (old new : Stand) (now : Option Sending) (after : Talk) (v : Verdict) (gave : Gave) (out mid out' : List ℕ) → talk.own_end ≡ false → Steps block talk.sending alone old new now out mid (Ok S.Empty) → AfterSend (record talk { sending = now }) v Empty → IfOn gave (after ≡ v.after) → held' ≡ held → WritesTurn mid out' (said_bytes v.said) (outcome_gave v.outcome) gave → MadeTurn (TalkTurn block talk held) alone old new (Talks talk held) (Talks after held') out out' gave
gave_empty block talk held held' alone old new now after v gave out mid out' own (inr up) row after_is same writes = absurd (let f = up.is in cc)
gave_empty block talk held held' alone old new now after v gave out mid out' own (inl m) ending after_is same writes = go m.verdict m.row m.follows
  where
    sent : (message : Message) → SaysIt message out mid (Ok S.Empty) → ⊥
    sent (File key offset) (inl x) = let f = x.0 in cc
    sent (File key offset) (inr x) = let f = x.0 in cc
    sent (Data bytes) x = let f = x.0 in cc
    sent (Got key) x = let f = x.0 in cc
    sent (Get key offset) x = let f = x.0 in cc
    sent (Skip key) x = let f = x.0 in cc
    sent End x = let f = x.0 in cc

    -- an own turn that says its messages alone
    plain : (w : Verdict) → AfterSend talk w Empty → said_bytes w.said ≡ (turn_of held w).output
    plain w (Says_end may is) = rw is refl
    plain w (Waits_for_end may is) = rw is refl

    stage_of_after : (g : Gave) → IfOn g (after ≡ v.after) → IfOn g (Talks after held' ≡ Talks v.after held)
    stage_of_after G.Sent e = ap (λ (h : Option Part). Talks after h) same ∙ ap (λ (a : Talk). Talks a held) e
    stage_of_after G.Waits e = ap (λ (h : Option Part). Talks after h) same ∙ ap (λ (a : Talk). Talks a held) e
    stage_of_after (G.Ended end) e = tt

    go : (w : SendVerdict) → SendRow block talk.sending (asked_of m.events) w → Follows w talk.sending now out mid (Ok S.Empty) → MadeTurn (TalkTurn block talk held) alone old new (Talks talk held) (Talks after held') out out' gave
    go (Sent message s) row f = absurd (sent message f.1)
    go (Filled s) row f = absurd (let e = f.1.0 in cc)
    go Waiting row f = absurd (let e = f.1.0 in cc)
    go Empty row f =
        let ends_so : AfterSend talk v Empty = subst (λ (x : Option Sending). AfterSend (record talk { sending = x }) v Empty) f.0 ending in
        inl (record {
          events = m.events;
          turn = turn_of held v;
          row = record { verdict = v; row = Gives own Empty row ends_so; is = refl };
          ran = m.ran;
          stage_is = stage_of_after gave after_is;
          writes = subst (λ (x : List ℕ). WritesTurn x out' (turn_of held v).output (outcome_gave v.outcome) gave) f.1.1 (subst (λ (x : List ℕ). WritesTurn mid out' x (outcome_gave v.outcome) gave) (plain v ends_so) writes);
        })
    go (Fails fault) row f = absurd f.1.0

-- The desk refused, and that was told; or what it offered found no room, or nothing was asked of it for want of memory.
pub gave_fault : (block : ℕ) (talk : Talk) (held : Option Part) (alone : Bool) (old new : Stand) (now : Option Sending) (after : Stage) (fault : DeskFault) (end : E.End) (out mid out' : List ℕ) → talk.own_end ≡ false → Steps block talk.sending alone old new now out mid (Err fault) → Writes mid out' (fault_bytes (fault_of fault)) (T.Ended (fault_end (fault_of fault))) (T.Ended end) → MadeTurn (TalkTurn block talk held) alone old new (Talks talk held) after out out' (G.Ended end)
gave_fault block talk held alone old new now after fault end out mid out' own step w = elim step as (λ _. MadeTurn (TalkTurn block talk held) alone old new (Talks talk held) after out out' (G.Ended end)) [
  | inl m ↦ go m m.verdict m.row m.follows
  | inr up ↦ let none : (T.Ended end ≡ T.Ended E.NoMemory) × (out' ≡ mid) = silent (let f = up.is in cc) in
      inr (record { owes = (own, up.due); ran = up.ran; out_is = none.1 ∙ up.out_is; is = let e = none.0 in cc })
]
  where
    silent : fault ≡ D.NoMemory → (T.Ended end ≡ T.Ended E.NoMemory) × (out' ≡ mid)
    silent e = gave_up mid out' (T.Ended end) (subst (λ (x : DeskFault). Writes mid out' (fault_bytes (fault_of x)) (T.Ended (fault_end (fault_of x))) (T.Ended end)) e w)

    go : (m : Makes block talk.sending alone old new now out mid (Err fault)) (v : SendVerdict) → SendRow block talk.sending (asked_of m.events) v → Follows v talk.sending now out mid (Err fault) → MadeTurn (TalkTurn block talk held) alone old new (Talks talk held) after out out' (G.Ended end)
    go m (Sent message s) row f =
        let unsaid : (fault ≡ D.NoMemory) × (mid ≡ out) = says_none message out mid fault f.1 in
        let none : (T.Ended end ≡ T.Ended E.NoMemory) × (out' ≡ mid) = silent unsaid.0 in
        let said : (offer_bytes message ≡ message_bytes message) × (0 < length (offer_bytes message)) = sent_said block talk.sending (asked_of m.events) message s row in
        let is : G.Ended E.NoMemory ≡ G.Ended end = let e = none.0 in cc in
        inl (record {
          events = m.events;
          turn = turn_of held (on (record talk { sending = Some s }) (message ∷ []));
          row = record { verdict = on (record talk { sending = Some s }) (message ∷ []); row = Gives own (Sent message s) row (Says refl); is = refl };
          ran = m.ran;
          stage_is = tt;
          writes = subst (λ (g : Gave). WritesTurn out out' ((message_bytes message ++ []) ++ []) G.Sent g) is (gave_none out out' ((message_bytes message ++ []) ++ []) G.Sent (subst (λ (x : List ℕ). 0 < length x) (said.0 ∙ sym (append-nil (message_bytes message)) ∙ sym (append-nil (message_bytes message ++ []))) said.1) (none.1 ∙ unsaid.1));
        })
    go m (Filled s) row f = absurd (let e = f.1.0 in cc)
    go m Waiting row f = absurd (let e = f.1.0 in cc)
    go m Empty row f = absurd (let e = f.1.0 in cc)
    go m (Fails refusal) row f = inl (record {
      events = m.events;
      turn = turn_of held (ends talk (Refused_by (fault_of fault)));
      row = record { verdict = ends talk (Refused_by (fault_of fault)); row = Gives own (Fails (fault_of fault)) (subst (λ (x : _). SendRow block talk.sending (asked_of m.events) (Fails x)) (sym f.1.0) row) (Ends_by refl); is = refl };
      ran = m.ran;
      stage_is = tt;
      writes = subst (λ (x : List ℕ). WritesTurn x out' (fault_bytes (fault_of fault)) (G.Ended (fault_end (fault_of fault))) (G.Ended end)) f.1.1 (as_turn mid out' (fault_bytes (fault_of fault)) (fault_end (fault_of fault)) end w);
    })

-- The own batch.

pub batch_waits : (t : Talking) (out : List ℕ) → (calls t.role || t.peer_end) ≡ false → EndsBatch t t out out G.Waits
batch_waits t out may = record { verdict = waits (talk_of t); row = Waits_for_end may refl; talk_is = refl; sending_is = refl; held_is = refl; block_is = refl; tally_is = refl; writes = gave_nothing out G.Waits }

pub batch_ends : (t u : Talking) (out out' : List ℕ) → (calls t.role || t.peer_end) ≡ true → talk_of u ≡ record (talk_of t) { own_end = true } → held_of u.receiver ≡ held_of t.receiver → u.sender.block ≡ t.sender.block → tally_of u ≡ tally_of t → out' ≡ out ++ command_bytes Eob → EndsBatch t u out out' G.Sent
batch_ends t u out out' may talk_is held_is block_is tally_is e =
    record { verdict = on (record (talk_of t) { own_end = true }) (End ∷ []); row = Says_end may refl; talk_is = talk_is; sending_is = ap (λ (x : Talk). x.sending) talk_is; held_is = held_is; block_is = block_is; tally_is = tally_is; writes = gave_all out out' (said_bytes (End ∷ [])) G.Sent (e ∙ ap (λ (x : List ℕ). out ++ x) (sym (append-nil (command_bytes Eob)))) }

pub batch_unsaid : (t : Talking) (out out' : List ℕ) → (calls t.role || t.peer_end) ≡ true → out' ≡ out → EndsBatch t t out out' (G.Ended E.NoMemory)
batch_unsaid t out out' may e =
    record { verdict = on (record (talk_of t) { own_end = true }) (End ∷ []); row = Says_end may refl; talk_is = tt; sending_is = refl; held_is = refl; block_is = refl; tally_is = refl; writes = gave_none out out' (said_bytes (End ∷ [])) G.Sent (omega arith) e }

-- What the sending half has counted stays, so all counts stay.
pub same_counts : (t u : Talking) → counts_in u.sender ≡ counts_in t.sender → u.receiver.received ≡ t.receiver.received → tally_of u ≡ tally_of t
same_counts t u sent received =
    ap (λ (c : SendCounts). record { sent = c.sent; received = u.receiver.received; skipped = c.skipped }) sent ∙ ap (λ (n : ℕ). record { sent = t.sender.sent; received = n; skipped = t.sender.skipped }) received
