use Rattle.ledger_file.proofs.HeaderLemmas.{with_header, no_header}
use Rattle.std.proofs.Common.{sym}
use Rattle.ledger_file.proofs.header.read_version.Goals as goal

pub returns-then-eq-clause-header : goal.returns-then-eq-clause-header
returns-then-eq-clause-header c = with_header c.args.bytes.now c.header_bytes.result c.from_be_bytes-version.result (sym c.if-eq.ensures) c.header_bytes.ensures

pub returns-else-eq-clause-header : goal.returns-else-eq-clause-header
returns-else-eq-clause-header c = no_header c.args.bytes.now c.header_bytes.result c.from_be_bytes-version.result c.from_be_bytes-version.ensures c.header_bytes.ensures (sym c.if-eq.ensures)
