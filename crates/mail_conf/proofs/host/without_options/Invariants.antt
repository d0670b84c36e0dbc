use Rattle.std.proofs.Common.{◌≡◌, ◌++◌, drop, map}
use Rattle.mail_conf.specs.Host.{without_options}
use Rattle.mail_conf.proofs.host.without_options.Given as goal

abbrev pub invariant-loop-word : goal.invariant-loop-word
invariant-loop-word l =
    map (λ word. word.now) l.kept.items ++ without_options (map (λ word. word.now) (drop l.word-index l.words)) ≡ without_options (map (λ word. word.now) l.words)
