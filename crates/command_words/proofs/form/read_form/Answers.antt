use Rattle.std.proofs.Common.{ap, Ok}
use Rattle.command_words.proofs.PlainWords.{form_plain}
use Rattle.command_words.proofs.form.read_form.Goals as goal

pub returns-in_default-clause-none : goal.returns-in_default-clause-none
returns-in_default-clause-none c = λ none asked form. c.in_ok-plain.ensures.none (ap Ok c.in_default.is) (form_plain _ asked form)

pub returns-in-Some-2-clause-none : goal.returns-in-Some-2-clause-none
returns-in-Some-2-clause-none c = λ none asked form. c.form_of_line.ensures.none (cc) asked form
