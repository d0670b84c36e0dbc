use Rattle.std.proofs.Common.{◌≡◌, drop, map}
use Rattle.ftn_addr.specs.Address.{address}
use Rattle.mail_conf.specs.Draft.{addresses_from}
use Rattle.mail_conf.proofs.draft.push_addresses.Given as goal

abbrev pub invariant-loop-word : goal.invariant-loop-word
invariant-loop-word l =
    addresses_from (address l.home) (map address l.addresses.items) (map (λ word. word.now) (drop l.word-index l.words)) ≡ addresses_from (address l.home) (map address l.fn.addresses.items) (map (λ word. word.now) l.words)
