-- What an own turn writes is short.
use Rattle.std.proofs.Common.{◌≡◌, ℕ, ◌+◌, ◌≤◌, Bool, false, List, [], ◌∷◌, length, Option, Some, None, option_map, Result, ap, subst, inl, inr, arith, length-append}
use Rattle.ftn_addr.specs.Limits.{IsKey}
use Rattle.node_model.specs.Calls.{Answer, Offered, Came, Nothing, Refused, Event, asked_of}
use Rattle.node_model.specs.Desks.{fault_of}
use Rattle.node_model.specs.Images.{Stand}
use Rattle.node_model.specs.Talk.{Message, File, Data, Got, Get, Skip, End as EndMessage, Talk, Sending, under_way, Verdict, SendVerdict, Sent, Filled, Waiting, Empty, Fails, SendRow, AfterRead, AfterOffer, AfterSend, Says_end, Waits_for_end, Reads, Fills, Awaits, Asks}
use Rattle.node_model.specs.declared.desk.DeskFault.{DeskFault}
use Rattle.session_send.specs.Senders.{Steps, Follows, Says as SaysIt, offer_bytes, sending_of, sending_text}
use Rattle.session_send.specs.declared.sending.Sender.{Sender}
use Rattle.session_send.specs.declared.sending.Sending.{Sending as CodeSending}
use Rattle.session_send.specs.declared.sending.SendStep.{SendStep}
use Rattle.session_core.specs.Givings.{Gave}
use Rattle.session_core.specs.Takings.{Took}
use Rattle.session_core.specs.Takings as T
use Rattle.session_core.specs.Ends.{End}
use Rattle.session_core.specs.Says.{said_bytes, fault_bytes}
use Rattle.session_core.specs.Sessions.{Gives, fault_end}
use Rattle.session_core.specs.Replies.{EndsBatch, Writes, WritesTurn, talk_of}
use Rattle.session_core.specs.declared.stage.Talking.{Talking}
use Rattle.session_core.proofs.Bounds.{fault_short, message_short, written_short}

-- the file under way has a key within the limits
pub sender_key : (sender : Sender) (s : Sending) → sending_of sender ≡ Some s → IsKey s.key
sender_key sender s e = go sender.sending e
  where
    go : (sending : Option CodeSending) → option_map sending_text sending ≡ Some s → IsKey s.key
    go None e = absurd (let clash : None ≡ Some s = e in cc)
    go (Some x) e = let same : sending_text x ≡ s = cc in subst (λ (y : Sending). IsKey y.key) same (record { some = x.some; short = x.short })

-- A step of the sending half writes one frame at the most: an offer, or a block of data.

read_short : (block : ℕ) (s : Sending) (x : Answer) (message : Message) (next : Sending) → block ≤ 32767 → AfterRead block s x (Sent message next) → length (offer_bytes message) ≤ 32769
read_short block s (Came bytes) message next fits after = let e : message ≡ Data bytes = let f = after.1 in cc in rw e (omega (arith, after.0, fits))
read_short block s (Refused fault) message next fits after = absurd (let f : Sent message next ≡ Fails fault = after in cc)
read_short block s _ message next fits after = absurd after

offer_short : (x : Answer) (message : Message) (next : Sending) → IsKey next.key → AfterOffer x (Sent message next) → length (offer_bytes message) ≤ 32769
offer_short (Offered number key) message next is after =
    let e : message ≡ File key 0 = let f = after in cc in
    let s : next ≡ under_way number key 0 = let f = after in cc in
    rw e (let all = message_short (File key 0) (subst (λ (x : Sending). IsKey x.key) s is) in omega arith)
offer_short Nothing message next is after = absurd (let f : Sent message next ≡ Empty = after in cc)
offer_short (Refused fault) message next is after = absurd (let f : Sent message next ≡ Fails fault = after in cc)
offer_short _ message next is after = absurd after

sent_short : (block : ℕ) (was : Option Sending) (es : List Event) (message : Message) (next : Sending) → block ≤ 32767 → IsKey next.key → SendRow block was es (Sent message next) → length (offer_bytes message) ≤ 32769
sent_short block was es message next fits is (Reads s way left x asks after) = read_short block s x message next fits after
sent_short block was es message next fits is (Fills s way bare asks a) = absurd (let f : Sent message next ≡ Filled (record s { bare = false }) = a in cc)
sent_short block was es message next fits is (Awaits s way bare at asks a) = absurd (let f : Sent message next ≡ Waiting = a in cc)
sent_short block was es message next fits is (Asks idle x asks after) = offer_short x message next is after

says_short : (message : Message) (out out' : List ℕ) (result : Result SendStep DeskFault) → length (offer_bytes message) ≤ 32769 → SaysIt message out out' result → length out' ≤ length out + 32769
says_short (File key offset) out out' result short (inl x) = omega (arith, short, ap length x.1, length-append out (offer_bytes (File key offset)))
says_short (File key offset) out out' result short (inr x) = omega (arith, ap length x.1)
says_short (Data bytes) out out' result short x = omega (arith, short, ap length x.1, length-append out (offer_bytes (Data bytes)))
says_short (Got key) out out' result short x = omega (arith, ap length x.1, length-append out [])
says_short (Get key offset) out out' result short x = omega (arith, ap length x.1, length-append out [])
says_short (Skip key) out out' result short x = omega (arith, ap length x.1, length-append out [])
says_short EndMessage out out' result short x = omega (arith, ap length x.1, length-append out [])

pub sender_short : (block : ℕ) (was : Option Sending) (alone : Bool) (old new : Stand) (sender : Sender) (out out' : List ℕ) (result : Result SendStep DeskFault) → block ≤ 32767 → Steps block was alone old new (sending_of sender) out out' result → length out' ≤ length out + 32769
sender_short block was alone old new sender out out' result fits (inr up) = omega (arith, ap length up.out_is)
sender_short block was alone old new sender out out' result fits (inl m) = go m.verdict m.row m.follows
  where
    go : (w : SendVerdict) → SendRow block was (asked_of m.events) w → Follows w was (sending_of sender) out out' result → length out' ≤ length out + 32769
    go (Sent message s) row f = says_short message out out' result (sent_short block was (asked_of m.events) message s fits (sender_key sender s f.0) row) f.1
    go (Filled s) row f = omega (arith, ap length f.1.1, length-append out (0 ∷ 0 ∷ []))
    go Waiting row f = omega (arith, ap length f.1.1)
    go Empty row f = omega (arith, ap length f.1.1)
    go (Fails fault) row f = omega (arith, ap length f.1.1)

-- M_EOB, where nothing is offered
turn_written : (old new output : List ℕ) (goal gave : Gave) (most : ℕ) → length output ≤ most → WritesTurn old new output goal gave → length new ≤ length old + most
turn_written old new output goal gave most short w = omega (arith, ap length w.grew, length-append old w.written, front w.said)
  where
    front : Gives output goal w.written gave → length w.written ≤ most
    front (inl all) = omega (arith, short, ap length all.1)
    front (inr cut) = omega (arith, short, ap length cut.1.2, length-append w.written cut.1.0)

end_said : (t : Talk) (v : Verdict) → AfterSend t v Empty → length (said_bytes v.said) ≤ 3
end_said t v (Says_end ends is) = rw is (omega arith)
end_said t v (Waits_for_end waits is) = rw is (omega arith)

pub batch_short : (old new : Talking) (first out out' : List ℕ) (gave : Gave) → length out ≤ length first + 32769 → EndsBatch old new out out' gave → length out' ≤ length first + 32800
batch_short old new first out out' gave before ends =
    let end = turn_written out out' (said_bytes ends.verdict.said) _ gave 3 (end_said (talk_of old) ends.verdict ends.row) ends.writes in
    omega arith

-- a refusal of the desk is told behind it
pub refused_short : (fault : DeskFault) (first out out' : List ℕ) (end : End) → length out ≤ length first + 32769 → Writes out out' (fault_bytes (fault_of fault)) (T.Ended (fault_end (fault_of fault))) (T.Ended end) → length out' ≤ length first + 32800
refused_short fault first out out' end before w =
    let told = written_short out out' (fault_bytes (fault_of fault)) _ _ 25 (fault_short (fault_of fault)) w in
    omega arith
