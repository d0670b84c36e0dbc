use Rattle.std.proofs.Common.{rules, ◌≡◌, inl, inr, length, drop, subst, sym, ap, ◌∙◌, Err}
use Rattle.std.proofs.lemmas.List.{take_at}
use Rattle.ledger_file.specs.Text.{Spells}
use Rattle.ledger_file.specs.Reading.{Reads}
use Rattle.ledger_file.proofs.OpenLemmas.{read_there, stands_as_read}
use Rattle.ledger_file.proofs.opening.read_standing.Goals as goal

pub sync-requires : goal.sync-requires
sync-requires g c = λ w read. stands_as_read w c.ledger_file_name-name.result c.args.len c.ledger_file_name-name.ensures (c.requires w (c.read_at.ensures.read w read))

pub returns-in-Ok-clause-list : goal.returns-in-Ok-clause-list
returns-in-Ok-clause-list g c =
    let size : length c.deref_mut.result.now ≡ c.args.len = search rules in
    let long : length c.read_at.new.out ≡ c.in_ok-bytes.bytes.len = search rules in
    let same : c.deref.result.now ≡ c.read_at.new.out = c.deref.ensures.value ∙ take_at c.read_at.new.out (drop (length c.read_at.new.out) c.in_ok-bytes.bytes.items) c.in_ok-bytes.bytes.len long in
    let there = read_there (g.D.Disk.files c.args.disk.now) c.ledger_file_name-name.result c.args.len (length c.deref_mut.result.now) c.read_at.new.out c.deref.result.now c.ledger_file_name-name.ensures size same c.requires c.in_ok-read_at.ensures.told in
    λ w read. let at = there w read in (at.0, at.1, subst (Spells c.in-Ok.held.payloads) at.2 c.in-Ok.ensures.list)

pub returns-in-Ok-clause-durable : goal.returns-in-Ok-clause-durable
returns-in-Ok-clause-durable g c =
    let size : length c.deref_mut.result.now ≡ c.args.len = search rules in
    let long : length c.read_at.new.out ≡ c.in_ok-bytes.bytes.len = search rules in
    let same : c.deref.result.now ≡ c.read_at.new.out = c.deref.ensures.value ∙ take_at c.read_at.new.out (drop (length c.read_at.new.out) c.in_ok-bytes.bytes.items) c.in_ok-bytes.bytes.len long in
    let there = read_there (g.D.Disk.files c.args.disk.now) c.ledger_file_name-name.result c.args.len (length c.deref_mut.result.now) c.read_at.new.out c.deref.result.now c.ledger_file_name-name.ensures size same c.requires c.in_ok-read_at.ensures.told in
    λ e now.
    let read = c.in_ok-sync.ensures.durable e now in
    let at = there read.0 (c.read_at.ensures.read read.0 read.1) in
    (at.0, ap e.own (sym c.ledger_file_name-name.ensures) ∙ read.2 ∙ ap read.0.own c.ledger_file_name-name.ensures ∙ at.1, subst (Spells c.in-Ok.held.payloads) at.2 c.in-Ok.ensures.list)

pub returns-clause-fault : goal.returns-clause-fault
returns-clause-fault g c =
    let size : length c.deref_mut.result.now ≡ c.args.len = search rules in
    let long : length c.read_at.new.out ≡ c.in_ok-bytes.bytes.len = search rules in
    let same : c.deref.result.now ≡ c.read_at.new.out = c.deref.ensures.value ∙ take_at c.read_at.new.out (drop (length c.read_at.new.out) c.in_ok-bytes.bytes.items) c.in_ok-bytes.bytes.len long in
    let there = read_there (g.D.Disk.files c.args.disk.now) c.ledger_file_name-name.result c.args.len (length c.deref_mut.result.now) c.read_at.new.out c.deref.result.now c.ledger_file_name-name.ensures size same c.requires c.in_ok-read_at.ensures.told in
    elim c.in-Err.ensures.fault [
      | inl none ↦ inr (inl none)
      | inr reads ↦ inr (inr (λ w read. let at = there w read in (at.0, at.1, subst (Reads (Err c.in-Err.fault)) at.2 reads)))
    ]
