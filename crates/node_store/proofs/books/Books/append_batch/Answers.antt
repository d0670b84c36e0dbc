use Rattle.std.proofs.Common.{subst, sym}
use Rattle.ledger_file.specs.Text.{ArePayloads}
use Rattle.ledger_rec.specs.Batch.{batch_records}
use Rattle.node_store.proofs.PlanLemmas.{are_payloads}
use Rattle.node_store.proofs.books.Books.append_batch.Goals as goal

pub record_files-requires-clause-sizes : goal.record_files-requires-clause-sizes
record_files-requires-clause-sizes g c = subst ArePayloads (sym c.requires.spells) (are_payloads c.fits_a_payload.ensures.some c.fits_a_payload.ensures.short (batch_records c.args.batch) c.requires.records)
