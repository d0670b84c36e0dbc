use Rattle.std.proofs.Common.{◌≡◌, ◌+◌, ◌≤◌, ◌++◌, length, drop}
use Rattle.ledger_file.specs.Text.{lists, records, ArePayloads}
use Rattle.ledger_file.proofs.records.Records.push_all.Given as goal

abbrev pub invariant-loop-payload : goal.invariant-loop-payload
invariant-loop-payload l = record {
  added : l.self.payloads ++ lists (drop l.payload-index l.payloads) ≡ l.initial.self.payloads ++ lists l.payloads;
  sizes : ArePayloads (lists (drop l.payload-index l.payloads));
  room : length (records (lists (drop l.payload-index l.payloads))) ≤ l.self.spare;
  spare : l.initial.self.spare + length (records (lists (drop l.payload-index l.payloads))) ≤ l.self.spare + length (records (lists l.payloads));
  slot : length l.payloads ≤ l.self.slots + l.payload-index;
  slots : l.initial.self.slots ≤ l.self.slots + l.payload-index;
}
