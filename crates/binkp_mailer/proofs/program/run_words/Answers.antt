use Rattle.std.proofs.Common.{Ok, Option, ap, refl}
use Rattle.command_words.specs.Forms.{session_command, still_command}
use Rattle.command_words.specs.declared.form.Form.{Form}
use Rattle.binkp_mailer.specs.Programs.{A_call, A_serve, A_still, A_trial, No_form, No_words}
use Rattle.binkp_mailer.proofs.Forms.{form_is, holds_one, is_still}
use Rattle.binkp_mailer.proofs.Serving.{fresh_back}
use Rattle.binkp_mailer.proofs.program.run_words.Goals as goal

pub run_serve-requires-clause-fresh : goal.run_serve-requires-clause-fresh
run_serve-requires-clause-fresh g c = λ ks outlives. fresh_back _ c.requires.fresh

pub returns-in-Ok-Some-Session : goal.returns-in-Ok-Some-Session
returns-in-Ok-Some-Session g c =
    A_call (session_command c.in-Ok-Some-Session.form) (form_is _ _ _ _ c.in-Ok-Some-Session.field-0-is c.in-Ok-Some-Session.field-0-0-is c.in-Ok-Some-Session.ensures.some) (holds_one c.in-Ok-Some-Session.form) _ _
    (record { call = c.run_call.ensures.call; cause = c.run_call.ensures.cause; out_cause = c.run_call.ensures.out_cause; stays = c.run_call.ensures.stays })

pub returns-in-Ok-Some-Serve : goal.returns-in-Ok-Some-Serve
returns-in-Ok-Some-Serve g c =
    A_serve (form_is _ _ _ _ c.in-Ok-Some-Serve.field-0-is c.in-Ok-Some-Serve.field-0-0-is c.in-Ok-Some-Serve.ensures.some) (record { call = c.run_serve.ensures.call; cause = c.run_serve.ensures.cause; stays = c.run_serve.ensures.stays })

pub returns-in-Ok-Some-Still : goal.returns-in-Ok-Some-Still
returns-in-Ok-Some-Still g c =
    A_still (still_command c.in-Ok-Some-Still.form) (form_is _ _ _ _ c.in-Ok-Some-Still.field-0-is c.in-Ok-Some-Still.field-0-0-is c.in-Ok-Some-Still.ensures.some) (is_still c.in-Ok-Some-Still.form) _
    (record { call = c.run_still.ensures.call; cause = c.run_still.ensures.cause; out_cause = c.run_still.ensures.out_cause; stays = c.run_still.ensures.received }) refl

pub returns-in-Ok-Some-Trial : goal.returns-in-Ok-Some-Trial
returns-in-Ok-Some-Trial g c =
    A_trial _ _ (form_is _ _ _ _ c.in-Ok-Some-Trial.field-0-is c.in-Ok-Some-Trial.field-0-0-is c.in-Ok-Some-Trial.ensures.some)
    c.run_trial.ensures.call c.run_trial.ensures.out_cause refl refl

pub returns-in-Ok-None : goal.returns-in-Ok-None
returns-in-Ok-None g c = No_form (c.in-Ok-None.ensures.none (ap (λ (o : Option Form). Ok o) c.in-Ok-None.field-0-is)) c.print.ensures refl refl

pub returns-in-Err : goal.returns-in-Err
returns-in-Err g c = No_words c.print-in-Err.ensures refl refl
