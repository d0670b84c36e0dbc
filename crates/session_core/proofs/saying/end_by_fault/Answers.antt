use Rattle.session_core.proofs.Writings.{no_more, some_disk, some_full}
use Rattle.session_core.proofs.saying.end_by_fault.Goals as goal

pub returns-in-Err : goal.returns-in-Err
returns-in-Err c = rw c.in-Disk.is (no_more _ _ _ _ some_disk c.in-Err.ensures.err)

pub returns-in-Err-say_ledger_full : goal.returns-in-Err-say_ledger_full
returns-in-Err-say_ledger_full c = rw c.in-Full.is (no_more _ _ _ _ some_full c.in-Err-say_ledger_full.ensures.err)

pub returns-in-Err-say_disk_fault : goal.returns-in-Err-say_disk_fault
returns-in-Err-say_disk_fault c = rw c.in-Read.is (no_more _ _ _ _ some_disk c.in-Err-say_disk_fault.ensures.err)
