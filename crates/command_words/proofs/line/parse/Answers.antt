-- The command that the builders made is the parser of the lemmas, and the words are plain.
use Rattle.std.proofs.Common.{rules, ap, ap₂, codes, true, ◌≡◌, ◌∙◌}
use Rattle.std.proofs.lemmas.Result.{IfErr-weaker, IfOk-weaker}
use Rattle.clap.specs.Simple.{app_of_fields, on_top}
use Rattle.clap.specs.Words.{app_of, new_app, rule_of, with_rule}
use Rattle.command_words.proofs.Splitting.{command, values, parser, split_found, takes_words}
use Rattle.command_words.proofs.line.parse.Goals as goal

built_is : (c : goal.After-try_get_matches_from) → app_of c.in_ok-parser.parser ≡ parser
built_is c =
    let command_is : rule_of c.required-command.result ≡ command = search rules in
    let values_is : rule_of c.action-values.result ≡ values = search rules in
    let start_is : app_of c.disable_help_flag.result ≡ on_top (λ s. record s { no_binary_name = true; disable_help_flag = true }) (new_app (codes "binkp")) =
    ap app_of_fields c.disable_help_flag.ensures
    ∙ ap (λ f. app_of_fields (record f { disable_help_flag = true })) c.no_binary_name.ensures
    ∙ ap (on_top (λ s. record s { no_binary_name = true; disable_help_flag = true })) c.new-3.ensures.app in
    c.in_ok-parser.ensures.shape (search rules)
    ∙ ap₂ with_rule (c.in_ok-arg.ensures.shape (search rules) ∙ ap₂ with_rule start_is command_is) values_is

pub returns-clause-ok : goal.returns-clause-ok
returns-clause-ok c =
    IfOk-weaker c.try_get_matches_from.result _ _
    (λ found has. split_found (app_of c.in_ok-parser.parser) c.args.words.now found (built_is c) c.requires.some c.requires.plain has)
    c.try_get_matches_from.ensures.matches

pub returns-clause-err : goal.returns-clause-err
returns-clause-err c =
    IfErr-weaker c.try_get_matches_from.result _ _
    (λ error kind. kind (takes_words (app_of c.in_ok-parser.parser) c.args.words.now (built_is c) c.requires.some c.requires.plain))
    c.try_get_matches_from.ensures.passes
