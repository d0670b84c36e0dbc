use Rattle.std.proofs.Common.{◌≡◌, ◌∙◌, Option, Some, None, option_map, refl, ap, subst, sym}
use Rattle.ftn_addr.specs.Key.{key_of}
use Rattle.node_model.specs.Talk.{Sending, IsOther}
use Rattle.node_model.proofs.SameFiles.{same_key_is}
use Rattle.session_send.specs.Senders.{sending_text, sending_of}
use Rattle.session_send.proofs.Taking.{sent_again, not_sent_again, get_passed, other_key}
use Rattle.session_send.proofs.sending.Sender.send_again.Goals as goal

pub returns-in_default-clause-row : goal.returns-in_default-clause-row
returns-in_default-clause-row c = λ t same.
    let is : sending_of c.args.self.now ≡ None = ap (option_map sending_text) c.in_default.is in
    get_passed t (key_of c.args.key.now) c.args.place _ c.args.out.now.list same (subst (λ (s : Option Sending). IsOther (key_of c.args.key.now) s) (sym is) tt)

pub returns-then-not-is_same_key-clause-row : goal.returns-then-not-is_same_key-clause-row
returns-then-not-is_same_key-clause-row c = λ t same.
    let is : sending_of c.args.self.now ≡ Some (sending_text c.in-Some.sending) = ap (option_map sending_text) c.in-Some.is in
    get_passed t (key_of c.args.key.now) c.args.place _ c.args.out.now.list (same ∙ is) (other_key _ _ (sym c.is_same_key.ensures ∙ c.if-not-is_same_key.true))

pub returns-in-Ok-clause-row : goal.returns-in-Ok-clause-row
returns-in-Ok-clause-row c = λ t same.
    let is : sending_of c.args.self.now ≡ Some (sending_text c.in-Some.sending) = ap (option_map sending_text) c.in-Some.is in
    sent_again t (sending_text c.in-Some.sending) (key_of c.args.key.now) c.args.place _ _ _ _ same is (same_key_is _ _ (sym c.is_same_key.ensures ∙ c.if-not-is_same_key.false)) c.requires.inside refl c.in-Ok.ensures.ok

pub returns-in-Err-clause-row : goal.returns-in-Err-clause-row
returns-in-Err-clause-row c = λ t same.
    let is : sending_of c.args.self.now ≡ Some (sending_text c.in-Some.sending) = ap (option_map sending_text) c.in-Some.is in
    not_sent_again t (sending_text c.in-Some.sending) (key_of c.args.key.now) c.args.place _ _ _ _ same is (same_key_is _ _ (sym c.is_same_key.ensures ∙ c.if-not-is_same_key.false)) c.requires.inside (sym is) c.in-Err.ensures.err
