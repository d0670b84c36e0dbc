use Rattle.std.proofs.Common.{◌≡◌, ◌≤◌, ◌++◌, length}
use Rattle.ledger_file.specs.Text.{ArePayloads, header, records}
use Rattle.ledger_file.proofs.read.read_records.Given as goal

abbrev pub invariant-records : goal.invariant-records
invariant-records l = record {
  read : l.bytes ≡ (header ++ records l.held.payloads) ++ l.rest;
  sizes : ArePayloads l.held.payloads;
  few : length l.held.payloads ≤ 262144;
}

abbrev pub decreases-records : goal.decreases-records
decreases-records l = length l.rest
