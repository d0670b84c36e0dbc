use Rattle.std.proofs.Common.{◌≡◌, ℕ, map, take}
use Rattle.ledger_rec.specs.Items.{entry}
use Rattle.mail_conf.specs.ConfView.{conf_text}
use Rattle.node_store.specs.Contents.{Contents}
use Rattle.binkp_serve.specs.Calling.{waits}
use Rattle.binkp_serve.proofs.Items.{items_in}
use Rattle.binkp_serve.proofs.calling.items_in.Given as goal

abbrev pub invariant-loop-item : goal.invariant-loop-item
invariant-loop-item l = (c : Contents ℕ) → map waits l.items.items ≡ items_in (conf_text l.conf) l.index c (map entry (take l.item-index l.queue))
