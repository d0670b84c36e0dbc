-- Forms of words, by their kind.
use Rattle.std.proofs.Common.{◌≡◌, ℕ, List, Option, Some, IfSome, refl, subst}
use Rattle.command_words.specs.Forms.{HasForm, command_of, session_command, still_command}
use Rattle.command_words.specs.declared.form.Form.{Form}
use Rattle.command_words.specs.declared.form.SessionForm.{SessionForm}
use Rattle.command_words.specs.declared.form.SessionForm.TheVariants as S
use Rattle.command_words.specs.declared.form.StillForm.{StillForm}
use Rattle.command_words.specs.declared.form.StillForm.TheVariants as T
use Rattle.still_commands.specs.Still.{IsStill, a_compile, a_list, a_lookup, a_take}
use Rattle.binkp_mailer.specs.Words.{HoldsOne}

-- the form that was read, by its kind
pub form_is : (words : List (List ℕ)) (o : Option Form) (form known : Form) → o ≡ Some form → form ≡ known → IfSome o (λ (f : Form). HasForm words (command_of f)) → HasForm words (command_of known)
form_is words o form known some is has =
    let at : HasForm words (command_of form) = subst (λ (x : Option Form). IfSome x (λ (f : Form). HasForm words (command_of f))) some has in
    subst (λ (f : Form). HasForm words (command_of f)) is at

pub holds_one : (form : SessionForm) → HoldsOne (session_command form)
holds_one S.Answer = tt
holds_one (S.Call text) = tt

pub is_still : (form : StillForm) → IsStill (still_command form)
is_still (T.Lookup text) = a_lookup text.now.list refl
is_still (T.Compile path) = a_compile path.now.list refl
is_still T.List = a_list refl
is_still T.Take = a_take refl
