use Rattle.std.proofs.Common.{◌≡◌, ◌∙◌, ◌+◌, ◌≤◌, length, refl, inl, ap, arith}
use Rattle.session_send.proofs.Stepping.{gave_up, sent_section, read_refused, within}
use Rattle.session_send.specs.Senders.{sending_text}
use Rattle.session_send.proofs.sending.Sending.send_section.Goals as goal

pub returns-in-Err-clause-row : goal.returns-in-Err-clause-row
returns-in-Err-clause-row g c = gave_up _ _ _ _ _ _ (inl c.requires.left) refl

pub returns-in-Err-reserve-clause-row : goal.returns-in-Err-reserve-clause-row
returns-in-Err-reserve-clause-row g c = gave_up _ _ _ _ _ _ (inl c.requires.left) c.in-Err-reserve.ensures.same

pub prove-unreachable-requires : goal.prove-unreachable-requires
prove-unreachable-requires g c =
    let inside : c.args.self.now.place + c.in-Ok-pass_on.count ≤ c.args.self.now.key.size = within (sending_text c.args.self.now) _ _ _ c.requires.claim c.in-Ok-pass_on.ensures.count (omega (arith, c.requires.left)) in
    omega (arith, inside, c.if-prove.true)

pub returns-in-Ok-pass_on-clause-row : goal.returns-in-Ok-pass_on-clause-row
returns-in-Ok-pass_on-clause-row g c =
    let whole : length c.as_mut_slice.result.now ≡ c.args.block = ap length c.as_mut_slice.ensures.value ∙ c.in-Ok.ensures ∙ c.from-most.ensures in
    let kept : length c.pass_on.new.section ≡ length c.as_mut_slice.result.now = c.pass_on.auto.section in
    sent_section c.args.block c.in-Ok-pass_on.count _ (sending_text c.args.self.now) _ c.pass_on.new.section _ _ _ _ _ _ c.requires.left c.requires.claim whole kept c.in-Ok-pass_on.ensures.count c.in-Ok-pass_on.ensures.made (c.in-Ok-pass_on.ensures.said) c.in-Ok-reserve.ensures.same

pub returns-clause-row : goal.returns-clause-row
returns-clause-row g c =
    read_refused c.args.block _ (sending_text c.args.self.now) c.in-Err-pass_on.fault _ _ _ _ _ c.requires.left (ap length c.as_mut_slice.ensures.value ∙ c.in-Ok.ensures ∙ c.from-most.ensures) c.in-Err-pass_on.ensures.made (c.in-Err-pass_on.ensures.err ∙ c.in-Ok-reserve.ensures.same)
