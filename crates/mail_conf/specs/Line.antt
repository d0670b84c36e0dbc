-- One line of the settings (own).
use Rattle.std.specs.Prelude.{ℕ, List, [], ◌∷◌, Option, Some, None, Result, Ok, Err, if◌then◌else◌}
use Rattle.ftn_addr.specs.Address.{Address}
use Rattle.ftn_addr.specs.Word.{first_word, words_of}
use Rattle.mail_conf.specs.Draft.{DraftText, list_taken, number_taken, path_taken, text_taken}
use Rattle.mail_conf.specs.Values.{before_comment}
use Rattle.mail_conf.specs.Words.{is_passed_over, list_word, number_word, path_word, text_word}
use Rattle.mail_conf.specs.declared.cause.ConfCause.{ConfCause}
use Rattle.mail_conf.specs.declared.cause.ConfCause.TheVariants.{UnknownWord}
use Rattle.mail_conf.specs.declared.words.TextWord.{TextWord}
use Rattle.mail_conf.specs.declared.words.PathWord.{PathWord}
use Rattle.mail_conf.specs.declared.words.NumberWord.{NumberWord}
use Rattle.mail_conf.specs.declared.words.ListWord.{ListWord}

-- Each kind of word is judged by its own; what is of none of them goes on to the next.
abbrev pub if_text : Option TextWord → List ℕ → DraftText → Result DraftText ConfCause → Result DraftText ConfCause
if_text None rest d other = other
if_text (Some word) rest d other = text_taken word rest d

abbrev pub if_path : Option PathWord → List (List ℕ) → DraftText → Result DraftText ConfCause → Result DraftText ConfCause
if_path None words d other = other
if_path (Some word) words d other = path_taken word words d

abbrev pub if_number : Option NumberWord → List (List ℕ) → DraftText → Result DraftText ConfCause → Result DraftText ConfCause
if_number None words d other = other
if_number (Some word) words d other = number_taken word words d

abbrev pub if_list : Option ListWord → Address → List (List ℕ) → DraftText → Result DraftText ConfCause → Result DraftText ConfCause
if_list None home words d other = other
if_list (Some word) home words d other = list_taken word home words d

-- a line by its first word; the others come as words and as they stand
abbrev pub word_taken : Address → List ℕ → List (List ℕ) → List ℕ → DraftText → Result DraftText ConfCause
word_taken home word words rest d =
    if_text (text_word word) rest d (if_path (path_word word) words d (if_number (number_word word) words d (if_list (list_word word) home words d (if is_passed_over word then Ok d else Err UnknownWord))))

abbrev pub words_taken : Address → List (List ℕ) → List ℕ → DraftText → Result DraftText ConfCause
words_taken home [] rest d = Ok d
words_taken home (word ∷ words) rest d = word_taken home word words rest d

-- a line without its comment; one without a word sets nothing
unfoldable pub line_taken : Address → List ℕ → DraftText → Result DraftText ConfCause
line_taken home line d = words_taken home (words_of (before_comment line)) (first_word (before_comment line)).1 d
