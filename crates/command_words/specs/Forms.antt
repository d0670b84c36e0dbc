-- The words that the program is given (own).
use Rattle.std.specs.Prelude.{◌≡◌, ◌≢◌, ◌≤◌, ◌-◌, ◌^◌, ℕ, List, [], ◌∷◌, codes, length, map, IsUtf8}
use Rattle.ftn_addr.specs.Content.{Content}
use Rattle.command_words.specs.declared.form.Form.{Form}
use Rattle.command_words.specs.declared.form.Form.TheVariants as V
use Rattle.command_words.specs.declared.form.SessionForm.{SessionForm}
use Rattle.command_words.specs.declared.form.SessionForm.TheVariants as S
use Rattle.command_words.specs.declared.form.StillForm.{StillForm}
use Rattle.command_words.specs.declared.form.StillForm.TheVariants as T
use Rattle.command_words.specs.declared.form.TrialForm.{TrialForm}
use Rattle.command_words.specs.Numbers.{SpellsWithin}

abbrev pub texts : List Content → List (List ℕ)
texts words = map (λ word. word.list) words

-- what words ask for
pub data Command : Type 0 where
  Answer : Command
  Call : (text : List ℕ) → Command
  Lookup : (text : List ℕ) → Command
  Compile : (path : List ℕ) → Command
  Listing : Command
  Taking : Command
  Serving : Command
  Trying : (count start : ℕ) → Command

abbrev pub session_command : SessionForm → Command
session_command S.Answer = Answer
session_command (S.Call text) = Call text.now.list

abbrev pub still_command : StillForm → Command
still_command (T.Lookup text) = Lookup text.now.list
still_command (T.Compile path) = Compile path.now.list
still_command T.List = Listing
still_command T.Take = Taking

abbrev pub trial_command : TrialForm → Command
trial_command form = Trying form.count form.start

abbrev pub command_of : Form → Command
command_of (V.Session form) = session_command form
command_of (V.Still form) = still_command form
command_of V.Serve = Serving
command_of (V.Trial form) = trial_command form

-- a word that may stand behind a command: it isn't empty, doesn't begin with `-`, and is UTF-8
pub record IsPlain (word : List ℕ) : Type 0 where
  pub some : word ≢ []
  pub no_flag : (rest : List ℕ) → word ≢ 45 ∷ rest
  pub text : IsUtf8 word

-- The forms of words: `answer`, `list`, `take` or `serve`; `call`, `lookup` or `compile` with one plain word behind, which is a path of at most
-- 1,024 bytes for the last; `trial` with two numbers behind, from 1 to 2,000 and of at most 32 bits.
pub data HasForm (words : List (List ℕ)) (command : Command) : Type 0 where
  of_answer : command ≡ Answer → words ≡ codes "answer" ∷ [] → HasForm words command
  of_call : (text : List ℕ) → IsPlain text → command ≡ Call text → words ≡ codes "call" ∷ text ∷ [] → HasForm words command
  of_lookup : (text : List ℕ) → IsPlain text → command ≡ Lookup text → words ≡ codes "lookup" ∷ text ∷ [] → HasForm words command
  of_compile : (path : List ℕ) → IsPlain path → length path ≤ 1024 → command ≡ Compile path → words ≡ codes "compile" ∷ path ∷ [] → HasForm words command
  of_list : command ≡ Listing → words ≡ codes "list" ∷ [] → HasForm words command
  of_take : command ≡ Taking → words ≡ codes "take" ∷ [] → HasForm words command
  of_serve : command ≡ Serving → words ≡ codes "serve" ∷ [] → HasForm words command
  of_trial : (count start : List ℕ) (files from : ℕ) → SpellsWithin 1 2000 count files → SpellsWithin 0 (2 ^ 32 - 1) start from → command ≡ Trying files from → words ≡ codes "trial" ∷ count ∷ start ∷ [] → HasForm words command
