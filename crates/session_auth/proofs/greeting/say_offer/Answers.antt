use Rattle.std.proofs.Common.{length, ap, arith}
use Rattle.std.proofs.lemmas.List.{length-append}
use Rattle.cram_md5.specs.Offer.{offer_spelling}
use Rattle.session_auth.proofs.Shorts.{offer_length}
use Rattle.session_auth.proofs.greeting.say_offer.Goals as goal

pub say_text-requires : goal.say_text-requires
say_text-requires c =
    let offer = offer_length c.args.challenge.now (omega arith) in
    omega (arith, ap length c.in_ok-offer_text-in-Answers.ensures.ok, ap length c.in_ok-text-in-Answers.ensures, length-append c.in_ok-text-in-Answers.text.list (offer_spelling c.args.challenge.now))
