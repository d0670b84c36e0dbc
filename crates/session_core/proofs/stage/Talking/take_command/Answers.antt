use Rattle.session_core.proofs.Dids.{counts_as, did_over, pass_counts, row_counts}
use Rattle.session_core.proofs.Heard.{eob_counts, got_talk, get_talk, skip_talk}
use Rattle.session_core.proofs.stage.Talking.take_command.Goals as goal

pub returns-in-Nul-clause-row : goal.returns-in-Nul-clause-row
returns-in-Nul-clause-row g c = rw c.in-Nul.is (pass_counts _ _ _ _ _)

pub returns-in-Adr-clause-row : goal.returns-in-Adr-clause-row
returns-in-Adr-clause-row g c = rw c.in-Adr.is (pass_counts _ _ _ _ _)

pub returns-in-Pwd-clause-row : goal.returns-in-Pwd-clause-row
returns-in-Pwd-clause-row g c = rw c.in-Pwd.is (pass_counts _ _ _ _ _)

pub returns-in-Accept-clause-row : goal.returns-in-Accept-clause-row
returns-in-Accept-clause-row g c = rw c.in-Accept.is (pass_counts _ _ _ _ _)

pub returns-in-Other-clause-row : goal.returns-in-Other-clause-row
returns-in-Other-clause-row g c = rw c.in-Other.is (pass_counts _ _ _ _ _)

pub returns-in-Eob-clause-row : goal.returns-in-Eob-clause-row
returns-in-Eob-clause-row g c = rw c.in-Eob.is (eob_counts _ _ _ _ _ _ _)

pub returns-in-Got-clause-row : goal.returns-in-Got-clause-row
returns-in-Got-clause-row g c = rw c.in-Got.is (counts_as _ _ _ _ _ _ _ _ _ _ _ (got_talk _ _ _ _) c.take_answer.ensures.row)

pub returns-in-Get-clause-row : goal.returns-in-Get-clause-row
returns-in-Get-clause-row g c = rw c.in-Get.is (counts_as _ _ _ _ _ _ _ _ _ _ _ (get_talk _ _ _ _ _) c.take_answer-in-Get.ensures.row)

pub returns-in-Skip-clause-row : goal.returns-in-Skip-clause-row
returns-in-Skip-clause-row g c = rw c.in-Skip.is (counts_as _ _ _ _ _ _ _ _ _ _ _ (skip_talk _ _ _ _) c.take_answer-in-Skip.ensures.row)

pub returns-in-Err-clause-row : goal.returns-in-Err-clause-row
returns-in-Err-clause-row g c = rw c.in-Err.is (row_counts _ _ _ _ _ _ _ _ (did_over _ _ _ _))

pub returns-clause-row : goal.returns-clause-row
returns-clause-row g c = rw c.in-Bsy.is (row_counts _ _ _ _ _ _ _ _ (did_over _ _ _ _))

pub returns-in-File-clause-row : goal.returns-in-File-clause-row
returns-in-File-clause-row g c = rw c.in-File.is c.take_file.ensures.row
