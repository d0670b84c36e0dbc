use Rattle.std.proofs.Common.{List, [], ◌∷◌, ◌++◌, codes, length, ap, arith, length-append}
use Rattle.mail_conf.specs.ConfView.{conf_text}
use Rattle.binkp_args.specs.Command.{CommandText, Adr}
use Rattle.session_auth.specs.Greeting.{announced, greeting, offer_line, setting_line, time_line, version}
use Rattle.session_auth.specs.Says.{said_bytes}
use Rattle.session_auth.specs.Sides.{side_of}
use Rattle.session_auth.proofs.Greetings.{greeting_short}
use Rattle.session_auth.proofs.Spoken.{said_then, said_one_then, on_ok}
use Rattle.session_auth.proofs.greeting.say_greeting.Goals as goal

pub returns-clause-said : goal.returns-clause-said
returns-clause-said c =
    let conf = conf_text c.args.conf.now in
    let adr : List CommandText = Adr (announced conf.addresses) ∷ [] in
    let time = time_line c.args.now in
    let ndl = setting_line (codes "NDL ") conf.nodeinfo in
    let loc = setting_line (codes "LOC ") conf.location in
    let zyz = setting_line (codes "ZYZ ") conf.sysop in
    let sys = setting_line (codes "SYS ") conf.sysname in
    let offer = offer_line (side_of c.args.side.now) c.args.challenge.now in
    let with_sys = said_then _ _ _ offer sys c.in_ok-say_offer.ensures c.in_ok-say_setting.ensures in
    let with_zyz = said_then _ _ _ (offer ++ sys) zyz with_sys c.in_ok-say_setting-2.ensures in
    let with_loc = said_then _ _ _ (offer ++ sys ++ zyz) loc with_zyz c.in_ok-say_setting-3.ensures in
    let with_ndl = said_then _ _ _ (offer ++ sys ++ zyz ++ loc) ndl with_loc c.in_ok-say_setting-4.ensures in
    let with_time = said_then _ _ _ (offer ++ sys ++ zyz ++ loc ++ ndl) time with_ndl c.in_ok-say_time.ensures in
    on_ok c.say_addresses.result _ _
    (λ last. said_then _ _ _ (offer ++ sys ++ zyz ++ loc ++ ndl ++ time) (version ∷ adr) with_time (said_one_then _ _ _ version adr c.in_ok-say_version.ensures (rw c.as_slice.ensures.value at last)))
    c.say_addresses.ensures

pub returns-clause-short : goal.returns-clause-short
returns-clause-short c =
    let said = said_bytes (greeting (side_of c.args.side.now) (conf_text c.args.conf.now) c.args.challenge.now c.args.now) in
    let short = greeting_short (side_of c.args.side.now) (conf_text c.args.conf.now) c.args.challenge.now c.args.now (omega arith) in
    on_ok c.say_addresses.result _ _ (λ all. omega (arith, short, ap length all, length-append c.args.out.now.list said)) (returns-clause-said c)
