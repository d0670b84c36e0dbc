use Rattle.std.proofs.Common.{ℕ, subst}
use Rattle.inbound_files.specs.Giving.{GivesFiles}
use Rattle.mail_conf.specs.ConfView.{conf_text}
use Rattle.node_store.specs.Stored.{stand_of}
use Rattle.binkp_mailer.proofs.inbound.give_waiting.Goals as goal

pub returns : goal.returns
returns g c =
    subst (λ (n : ℕ). GivesFiles (stand_of g.D.Disk.tells g.D.Disk.content g.D.Disk.fault_count g.D.Disk.moment g.D.Disk.images) (conf_text c.args.conf.now).inbound (conf_text c.args.conf.now).inbound_nonsecure n c.args.store.now c.give_files.result c.give_files.new.store)
    c.waits-files.ensures c.give_files.ensures.gives
