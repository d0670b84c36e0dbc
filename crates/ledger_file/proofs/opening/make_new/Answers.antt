use Rattle.std.proofs.Common.{◌≡◌, ℕ, List, [], ◌∷◌, ◌++◌, ◌∙◌, ap}
use Rattle.ledger_file.specs.Text.{header, records}
use Rattle.ledger_file.proofs.OpenLemmas.{no_records, makes_started, makes_stop, makes_read}
use Rattle.ledger_file.proofs.opening.make_new.Goals as goal

pub returns-in_err-held-clause-stop : goal.returns-in_err-held-clause-stop
returns-in_err-held-clause-stop g c =
    makes_started g.D.Disk.moment g.D.Disk.images g.D.Disk.files g.met.D.Disk.as_read c.args.disk.now c.args.disk.now

pub returns-in_err-rename-clause-stop : goal.returns-in_err-rename-clause-stop
returns-in_err-rename-clause-stop g c =
    let bytes : c.file_bytes.result.now ≡ no_records = c.file_bytes.ensures.bytes ∙ ap (λ (l : List (List ℕ)). (header ++ records l) ++ 0 ∷ []) c.in_ok-held.ensures in
    makes_stop g.D.Disk.moment g.D.Disk.images g.D.Disk.files g.met.D.Disk.as_read c.args.disk.now c.put_file.new.disk c.new_file_name-new.result c.new_file_name-new.ensures c.put_file.ensures.stop c.ledger_file_name.result c.ledger_file_name.ensures c.file_bytes.result.now bytes c.in_ok-put_file.ensures.durable c.rename.new.self c.rename.result c.rename.ensures.stop

pub returns-clause-stop : goal.returns-clause-stop
returns-clause-stop g c =
    let bytes : c.file_bytes.result.now ≡ no_records = c.file_bytes.ensures.bytes ∙ ap (λ (l : List (List ℕ)). (header ++ records l) ++ 0 ∷ []) c.in_ok-held.ensures in
    makes_stop g.D.Disk.moment g.D.Disk.images g.D.Disk.files g.met.D.Disk.as_read c.args.disk.now c.put_file.new.disk c.new_file_name-new.result c.new_file_name-new.ensures c.put_file.ensures.stop c.ledger_file_name.result c.ledger_file_name.ensures c.file_bytes.result.now bytes c.in_ok-put_file.ensures.durable c.rename.new.self c.rename.result c.rename.ensures.stop

pub returns-in_err-rename-clause-read : goal.returns-in_err-rename-clause-read
returns-in_err-rename-clause-read g c =
    let bytes : c.file_bytes.result.now ≡ no_records = c.file_bytes.ensures.bytes ∙ ap (λ (l : List (List ℕ)). (header ++ records l) ++ 0 ∷ []) c.in_ok-held.ensures in
    makes_read g.D.Disk.moment g.D.Disk.images g.D.Disk.files g.met.D.Disk.as_read c.args.disk.now c.put_file.new.disk c.new_file_name-new.result c.new_file_name-new.ensures c.put_file.ensures.stop c.ledger_file_name.result c.ledger_file_name.ensures c.file_bytes.result.now bytes c.in_ok-put_file.ensures.durable c.rename.new.self c.rename.result c.put_file.ensures.read c.rename.ensures.read

pub returns-clause-read : goal.returns-clause-read
returns-clause-read g c =
    let bytes : c.file_bytes.result.now ≡ no_records = c.file_bytes.ensures.bytes ∙ ap (λ (l : List (List ℕ)). (header ++ records l) ++ 0 ∷ []) c.in_ok-held.ensures in
    makes_read g.D.Disk.moment g.D.Disk.images g.D.Disk.files g.met.D.Disk.as_read c.args.disk.now c.put_file.new.disk c.new_file_name-new.result c.new_file_name-new.ensures c.put_file.ensures.stop c.ledger_file_name.result c.ledger_file_name.ensures c.file_bytes.result.now bytes c.in_ok-put_file.ensures.durable c.rename.new.self c.rename.result c.put_file.ensures.read c.rename.ensures.read
