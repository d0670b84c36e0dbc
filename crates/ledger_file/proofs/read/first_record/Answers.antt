use Rattle.std.proofs.Common.{rules, ◌≡◌, ◌+◌, ◌-◌, ◌*◌, ◌<◌, ◌≤◌, length, get_or, take, drop, refl}
use Rattle.ledger_file.proofs.ReadLemmas.{record_front}
use Rattle.ledger_file.proofs.read.first_record.Goals as goal

pub returns-else-len-rest-clause-front : goal.returns-else-len-rest-clause-front
returns-else-len-rest-clause-front c =
    let bytes = c.args.bytes.now in
    let x = take (length bytes - 3) (drop 3 bytes) in
    let len = get_or bytes 1 0 * 256 + get_or bytes 2 0 in
    let gate : get_or bytes 0 0 ≡ 1 = search rules in
    let low : get_or bytes 2 0 < 256 = search rules in
    let fits : len ≤ length x = search rules in
    record_front bytes x len c.in-1.len_at_least gate low refl refl fits
