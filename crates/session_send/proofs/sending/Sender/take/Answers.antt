use Rattle.ftn_addr.specs.Key.{key_of}
use Rattle.node_model.specs.Talk.{GetTaken}
use Rattle.session_send.proofs.Taking.{passed_over, took_plain}
use Rattle.session_send.proofs.sending.Sender.take.Goals as goal

pub returns-in-Got-clause-row : goal.returns-in-Got-clause-row
returns-in-Got-clause-row g c = λ t same. rw c.in-Got.is (c.settle.ensures.row t _ same)

pub returns-in-Skip-clause-row : goal.returns-in-Skip-clause-row
returns-in-Skip-clause-row g c = λ t same. rw c.in-Skip.is (c.put_off.ensures.row t _ same)

pub returns-in-Get-clause-row : goal.returns-in-Get-clause-row
returns-in-Get-clause-row g c = λ t same.
    rw c.in-Get.is (took_plain (GetTaken t (key_of c.in-Get.key) c.in-Get.place) _ _ t _ _ _ _ _ _ c.send_again.ensures.counts (c.send_again.ensures.row t same))

pub returns-in-Nul-clause-row : goal.returns-in-Nul-clause-row
returns-in-Nul-clause-row g c = λ t same. rw c.in-Nul.is (passed_over t _ _ _ _ _ same)

pub returns-in-Adr-clause-row : goal.returns-in-Adr-clause-row
returns-in-Adr-clause-row g c = λ t same. rw c.in-Adr.is (passed_over t _ _ _ _ _ same)

pub returns-in-Pwd-clause-row : goal.returns-in-Pwd-clause-row
returns-in-Pwd-clause-row g c = λ t same. rw c.in-Pwd.is (passed_over t _ _ _ _ _ same)

pub returns-in-File-clause-row : goal.returns-in-File-clause-row
returns-in-File-clause-row g c = λ t same. rw c.in-File.is (passed_over t _ _ _ _ _ same)

pub returns-in-Accept-clause-row : goal.returns-in-Accept-clause-row
returns-in-Accept-clause-row g c = λ t same. rw c.in-Accept.is (passed_over t _ _ _ _ _ same)

pub returns-in-Eob-clause-row : goal.returns-in-Eob-clause-row
returns-in-Eob-clause-row g c = λ t same. rw c.in-Eob.is (passed_over t _ _ _ _ _ same)

pub returns-in-Err-clause-row : goal.returns-in-Err-clause-row
returns-in-Err-clause-row g c = λ t same. rw c.in-Err.is (passed_over t _ _ _ _ _ same)

pub returns-in-Bsy-clause-row : goal.returns-in-Bsy-clause-row
returns-in-Bsy-clause-row g c = λ t same. rw c.in-Bsy.is (passed_over t _ _ _ _ _ same)

pub returns-in-Other-clause-row : goal.returns-in-Other-clause-row
returns-in-Other-clause-row g c = λ t same. rw c.in-Other.is (passed_over t _ _ _ _ _ same)
