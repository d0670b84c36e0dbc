use Rattle.std.proofs.Common.{sym, ◌∙◌, arith}
use Rattle.session_recv.specs.Replies.{held_of}
use Rattle.session_core.specs.Replies.{talk_of}
use Rattle.session_core.proofs.Gives.{gave_finish, gave_rest, gave_sent, gave_wait, gave_empty, gave_fault, sent_some}
use Rattle.session_core.proofs.TurnBounds.{batch_short, refused_short, sender_short}
use Rattle.session_core.proofs.stage.Talking.give.Goals as goal

pub returns-then-is_done-clause-row : goal.returns-then-is_done-clause-row
returns-then-is_done-clause-row g c = gave_finish _ _ _ _ _ _ (sym c.is_done.ensures ∙ c.if-is_done.true)

pub returns-then-self-clause-row : goal.returns-then-self-clause-row
returns-then-self-clause-row g c = gave_rest _ _ _ _ _ _ (sym c.is_done.ensures ∙ c.if-is_done.false) c.if-self.true

pub returns-in-Ok-Sent-clause-row : goal.returns-in-Ok-Sent-clause-row
returns-in-Ok-Sent-clause-row g c = gave_sent _ (talk_of c.args.self.now) (held_of c.args.self.now.receiver) _ _ _ _ _ _ c.if-self.false (rw c.in-Ok-Sent.field-0-is at c.in-Ok-Sent.ensures).row

pub returns-in-Ok-Sent-clause-sent : goal.returns-in-Ok-Sent-clause-sent
returns-in-Ok-Sent-clause-sent g c = λ e. sent_some _ _ _ _ _ _ _ _ (rw c.in-Ok-Sent.field-0-is at c.in-Ok-Sent.ensures).row

pub returns-in-Ok-Waiting-clause-row : goal.returns-in-Ok-Waiting-clause-row
returns-in-Ok-Waiting-clause-row g c = gave_wait _ (talk_of c.args.self.now) (held_of c.args.self.now.receiver) _ _ _ _ _ _ c.if-self.false (rw c.in-Ok-Waiting.field-0-is at c.in-Ok-Waiting.ensures).row

pub returns-in-Ok-Empty-clause-row : goal.returns-in-Ok-Empty-clause-row
returns-in-Ok-Empty-clause-row g c = gave_empty _ (talk_of c.args.self.now) (held_of c.args.self.now.receiver) _ _ _ _ _ _ _ _ _ _ _ c.if-self.false (rw c.in-Ok-Empty.field-0-is at c.in-Ok-Empty.ensures).row c.end_batch.ensures.ends.row c.end_batch.ensures.ends.talk_is c.end_batch.ensures.ends.held_is c.end_batch.ensures.ends.writes

pub returns-in-Err-clause-row : goal.returns-in-Err-clause-row
returns-in-Err-clause-row g c = gave_fault _ (talk_of c.args.self.now) (held_of c.args.self.now.receiver) _ _ _ _ _ _ _ _ _ _ c.if-self.false c.in-Err.ensures.row c.end_by_fault.ensures

pub returns-in-Ok-Sent-clause-short : goal.returns-in-Ok-Sent-clause-short
returns-in-Ok-Sent-clause-short g c = let short = sender_short _ _ _ _ _ c.next.new.self _ _ _ c.args.self.now.sender.fits (rw c.in-Ok-Sent.field-0-is at c.in-Ok-Sent.ensures).row in omega arith

pub returns-in-Ok-Waiting-clause-short : goal.returns-in-Ok-Waiting-clause-short
returns-in-Ok-Waiting-clause-short g c = let short = sender_short _ _ _ _ _ c.next.new.self _ _ _ c.args.self.now.sender.fits (rw c.in-Ok-Waiting.field-0-is at c.in-Ok-Waiting.ensures).row in omega arith

pub returns-in-Ok-Empty-clause-short : goal.returns-in-Ok-Empty-clause-short
returns-in-Ok-Empty-clause-short g c = batch_short _ _ _ _ _ _ (sender_short _ _ _ _ _ c.next.new.self _ _ _ c.args.self.now.sender.fits (rw c.in-Ok-Empty.field-0-is at c.in-Ok-Empty.ensures).row) c.end_batch.ensures.ends

pub returns-in-Err-clause-short : goal.returns-in-Err-clause-short
returns-in-Err-clause-short g c = refused_short _ _ _ _ _ (sender_short _ _ _ _ _ c.next.new.self _ _ _ c.args.self.now.sender.fits c.in-Err.ensures.row) c.end_by_fault.ensures
