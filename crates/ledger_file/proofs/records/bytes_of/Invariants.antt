use Rattle.std.proofs.Common.{◌≡◌, ◌+◌, length, drop}
use Rattle.ledger_file.specs.Text.{lists, records, ArePayloads}
use Rattle.ledger_file.proofs.records.bytes_of.Given as goal

abbrev pub invariant-loop-payload : goal.invariant-loop-payload
invariant-loop-payload l = record {
  sum : l.bytes + length (records (lists (drop l.payload-index l.payloads))) ≡ length (records (lists l.payloads));
  sizes : ArePayloads (lists (drop l.payload-index l.payloads));
}
