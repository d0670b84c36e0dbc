-- What clap finds in plain words, for a command of one positional and a last one that takes any number of values: the first word,
-- and those behind it. It refuses none of them.
use Rattle.std.proofs.Common.{refl, ap, ap₂, arith, ◌∙◌, ◌≡◌, ◌≢◌, ℕ, List, ◌++◌, true, false, Bool, [], ◌∷◌, nat_eq, ◌&&◌, Option, Some, None, suc, map, is_some, cond, codes, append_assoc, ne_eqb, ◌||◌}
use Rattle.std.specs.List.{All, fold, list_all}
use Rattle.std.specs.Prelude.{option_and_then}
use Rattle.std.specs.Option.{option_map_or}
use Rattle.std.specs.Str.{bytes_eq}
use Rattle.std.specs.Borrow.{Bor}
use Rattle.clap.specs.Lexer.{long_of, long_of_rest, short_of, short_of_rest, strip_byte}
use Rattle.clap.specs.Walk.{settled, with_default, Held, Row, Rule, Step, Text, Walk, idle, positional, value, after_step, nothing_held, used, walk, walk_from, walked, word_met, first_of, all_of, trailing, long_or_other, short_or_plain, subcommand_met}
use Rattle.clap.specs.Simple.{HasMatchesOf, App, Shape, built, filled, is_simple, matches_of, new_app, new_rule, on_top, with_rule}
use Rattle.clap.specs.Takes.{takes, step_passes, turn_passes, walk_passes, settle_passes, word_passes, other_passes, bundle_passes, flag_word_passes, is_valid, default_passes}
use Rattle.clap.proofs.TakesLemmas.{leaf_takes}
use Rattle.clap.proofs.WalkLemmas.{both, first_value-rows, raw_values-rows}
use Rattle.clap.specs.Matches.{found_of}
use Rattle.clap.specs.declared.parser.matches.ArgMatches.{ArgMatches}
use Rattle.clap.specs.declared.builder.action.ArgAction.TheVariants.{Append}
use Rattle.command_words.specs.Forms.{IsPlain}
use Rattle.command_words.specs.Line.{IsSplitOf, values_of}

-- ---- the command

abbrev pub command : Rule
command = record (new_rule (codes "command")) { required = true }

abbrev pub values : Rule
values = record (new_rule (codes "values")) { action = Some Append }

abbrev pub parser : App
parser = with_rule (with_rule (on_top (λ s. record s { no_binary_name = true; disable_help_flag = true }) (new_app (codes "binkp"))) command) values

-- what building makes of it: its arguments, and the command itself
abbrev arguments : List Rule
arguments = (built parser).top.rules

abbrev shape : Shape
shape = (built parser).top

abbrev AllPlain : List Text → Type 0
AllPlain = All IsPlain

first_plain : (word : Text) (rest : List Text) → AllPlain (word ∷ rest) → IsPlain word
first_plain word rest plain = plain 0 word (omega arith)

rest_plain : (word : Text) (rest : List Text) → AllPlain (word ∷ rest) → AllPlain rest
rest_plain word rest plain = λ k d low. plain (suc k) d (omega arith)

-- ---- a plain word is a value, and no flag

no_dash : (x : ℕ) (rest : List ℕ) → IsPlain (x ∷ rest) → nat_eq x 45 ≡ false
no_dash x rest plain = ne_eqb x 45 (λ same. plain.no_flag rest (ap (λ (y : ℕ). y ∷ rest) same))

record IsNoFlag (word : Text) : Type 0 where
  dashes : bytes_eq word (45 ∷ 45 ∷ []) ≡ false
  long : long_of word ≡ None
  short : short_of word ≡ None

no_flag : (word : Text) → IsPlain word → IsNoFlag word
no_flag [] plain = absurd (plain.some refl)
no_flag (x ∷ rest) plain = let differs = no_dash x rest plain in record {
  dashes = ap (λ b. b && bytes_eq rest (45 ∷ [])) differs;
  long = ap (λ b. option_and_then long_of_rest (option_and_then (strip_byte 45) (cond b (Some rest) None))) differs;
  short = ap (λ b. option_and_then short_of_rest (cond b (Some rest) None)) differs;
}

module _ (c : List Rule) (position : ℕ) (word : Text) (h : Held) (plain : IsPlain word) where
  first_is_value : word_met c [] false idle position word h ≡ (h, value)
  first_is_value = let no = no_flag word plain in
      ap (λ b. cond b (h, trailing position) (long_or_other c idle word (long_of word) h)) no.dashes
      ∙ ap (λ l. long_or_other c idle word l h) no.long ∙ ap (λ s. short_or_plain c idle word s h) no.short

  next_is_value : word_met c [] false positional position word h ≡ (h, value)
  next_is_value = let no = no_flag word plain in
      ap (λ b. cond b (h, trailing position) (long_or_other c positional word (long_of word) h)) no.dashes
      ∙ ap (λ l. long_or_other c positional word l h) no.long ∙ ap (λ s. short_or_plain c positional word s h) no.short

-- ---- the walk over the words

-- where it stands behind the command
abbrev behind_command : Text → Walk
behind_command word = record {
  held = record { rows = []; pending = Some (codes "command", word ∷ []); skip = 0 };
  waiting = idle;
  position = 2;
  is_trailing = false;
  stopped = None;
}

-- the rows of the command and of the values so far
abbrev rows_with : Text → List Text → List Row
rows_with word [] = used (filled command) (word ∷ []) []
rows_with word (v ∷ vs) = used (filled values) (v ∷ vs) (used (filled command) (word ∷ []) [])

-- where it stands behind values, of which the last is still held
abbrev behind_values : Text → List Text → Text → Walk
behind_values word found last = record {
  held = record { rows = rows_with word found; pending = Some (codes "values", last ∷ []); skip = 0 };
  waiting = positional;
  position = 2;
  is_trailing = false;
  stopped = None;
}

-- the held value joins the others
one_row_more : (word : Text) (found : List Text) (last : Text) → used (filled values) (last ∷ []) (rows_with word found) ≡ rows_with word (found ++ last ∷ [])
one_row_more word [] last = refl
one_row_more word (v ∷ vs) last = refl

-- one word more, behind nothing, behind the command and behind a value
command_met : (word : Text) → IsPlain word → walked arguments [] (walk_from nothing_held) word ≡ behind_command word
unfolding walked
command_met word plain = ap (λ (met : Held × Step). after_step arguments word (walk_from nothing_held) met.0 met.1) (first_is_value arguments 1 word nothing_held plain)

value_met : (word first : Text) → IsPlain first → walked arguments [] (behind_command word) first ≡ behind_values word [] first
unfolding walked
value_met word first plain = let w = behind_command word in
    ap (λ (met : Held × Step). after_step arguments first w met.0 met.1) (first_is_value arguments 2 first w.held plain)

values_met : (word : Text) (found : List Text) (last more : Text) → IsPlain more
    → walked arguments [] (behind_values word found last) more ≡ behind_values word (found ++ last ∷ []) more
unfolding walked
values_met word found last more plain = let w = behind_values word found last in
    ap (λ (met : Held × Step). after_step arguments more w met.0 met.1) (next_is_value arguments 2 more w.held plain)
    ∙ ap (λ rows. record w { held = record { rows = rows; pending = Some (codes "values", more ∷ []); skip = 0 } }) (one_row_more word found last)

-- all words
abbrev walk_more : Walk → List Text → Walk
walk_more = fold (walked arguments [])

-- the rows once all words are read
abbrev settled_rows : Walk → List Row
settled_rows w = (settled arguments w.held).rows

values_rows : (word : Text) (found : List Text) (last : Text) (more : List Text) → AllPlain more
    → settled_rows (walk_more (behind_values word found last) more) ≡ rows_with word (found ++ last ∷ more)
values_rows word found last [] plain = one_row_more word found last
values_rows word found last (v ∷ vs) plain =
    ap (λ (w : Walk). settled_rows (walk_more w vs)) (values_met word found last v (first_plain v vs plain))
    ∙ values_rows word (found ++ last ∷ []) v vs (rest_plain v vs plain)
    ∙ ap (rows_with word) (append_assoc found (last ∷ []) (v ∷ vs))

all_rows : (word : Text) (rest : List Text) → AllPlain (word ∷ rest) → settled_rows (walk arguments [] nothing_held (word ∷ rest)) ≡ rows_with word rest
all_rows word [] plain = ap settled_rows (command_met word (first_plain word [] plain))
all_rows word (v ∷ vs) plain = let rest = rest_plain word (v ∷ vs) plain in
    ap (λ (w : Walk). settled_rows (walk_more w (v ∷ vs))) (command_met word (first_plain word (v ∷ vs) plain))
    ∙ ap (λ (w : Walk). settled_rows (walk_more w vs)) (value_met word v (first_plain v vs rest))
    ∙ values_rows word [] v vs (rest_plain v vs rest)

-- ---- what is found

abbrev matched : Text → List Text → List Row
matched word rest = fold with_default (rows_with word rest) arguments

all_matches : (word : Text) (rest : List Text) → AllPlain (word ∷ rest) → matches_of parser (word ∷ rest) ≡ matched word rest
all_matches word rest plain = ap (λ (rows : List Row). fold with_default rows arguments) (all_rows word rest plain)

pub command_found : (word : Text) (rest : List Text) → AllPlain (word ∷ rest)
    → first_of (codes "command") (matches_of parser (word ∷ rest)) ≡ Some word
command_found word rest plain = ap (first_of (codes "command")) (all_matches word rest plain) ∙ at rest
  where
    at : (rest : List Text) → first_of (codes "command") (matched word rest) ≡ Some word
    at [] = refl
    at (v ∷ vs) = refl

pub values_found : (word : Text) (rest : List Text) → AllPlain (word ∷ rest)
    → all_of (codes "values") (matches_of parser (word ∷ rest)) ≡ values_of rest
values_found word rest plain = ap (all_of (codes "values")) (all_matches word rest plain) ∙ at rest
  where
    at : (rest : List Text) → all_of (codes "values") (matched word rest) ≡ values_of rest
    at [] = refl
    at (v ∷ vs) = refl

pub is_simple_parser : is_simple parser ≡ true
is_simple_parser = refl

-- ---- no word is refused

module _ (word : Text) (h : Held) (plain : IsPlain word) where
  other_passes_plain : other_passes shape None word h ≡ true
  other_passes_plain = let no = no_flag word plain in
      ap (λ b. b || flag_word_passes arguments false (long_of word) word h) no.dashes
      ∙ ap (λ l. flag_word_passes arguments false l word h) no.long
      ∙ ap (λ s. option_map_or (λ flags. bundle_passes arguments false flags h) s true) no.short

-- what a turn asks, where the word is a value
turn_at : (w : Walk) (word : Text) → other_passes shape (subcommand_met [] w.waiting word) word w.held ≡ true
    → word_met arguments [] w.is_trailing w.waiting w.position word w.held ≡ (w.held, value)
    → step_passes shape w.position w.held value ≡ true → w.is_trailing ≡ false → w.stopped ≡ None
    → turn_passes shape [] w word ≡ true
turn_at w word other met step trail going =
    ap (λ (p : Option (Text × List Text)). is_some p || (word_passes shape [] w.is_trailing w.waiting word w.held
    && step_passes shape w.position (word_met arguments [] w.is_trailing w.waiting w.position word w.held).0 (word_met arguments [] w.is_trailing w.waiting w.position word w.held).1)) going
    ∙ ap (λ (p : Held × Step). word_passes shape [] w.is_trailing w.waiting word w.held && step_passes shape w.position p.0 p.1) met
    ∙ ap (λ b. (b || other_passes shape (subcommand_met [] w.waiting word) word w.held) && step_passes shape w.position w.held value) trail
    ∙ ap₂ (λ b d. b && d) other step

command_turn : (word : Text) → IsPlain word → turn_passes shape [] (walk_from nothing_held) word ≡ true
command_turn word plain = turn_at (walk_from nothing_held) word (other_passes_plain word nothing_held plain)
    (first_is_value arguments 1 word nothing_held plain) refl refl refl

value_turn : (word first : Text) → IsPlain first → turn_passes shape [] (behind_command word) first ≡ true
value_turn word first plain = let w = behind_command word in
    turn_at w first (other_passes_plain first w.held plain) (first_is_value arguments 2 first w.held plain) refl refl refl

values_turn : (word : Text) (found : List Text) (last more : Text) → IsPlain more → turn_passes shape [] (behind_values word found last) more ≡ true
values_turn word found last more plain = let w = behind_values word found last in
    turn_at w more (other_passes_plain more w.held plain) (next_is_value arguments 2 more w.held plain) refl refl refl

-- the words pass from w on, and so does what is pending behind them
abbrev passes_from : Walk → List Text → Bool
passes_from w words = walk_passes shape [] w words && settle_passes arguments false (walk_more w words).held

-- one word more
passes_more : (w after : Walk) (word : Text) (rest : List Text) → turn_passes shape [] w word ≡ true → walked arguments [] w word ≡ after
    → passes_from after rest ≡ true → passes_from w (word ∷ rest) ≡ true
unfolding walk_passes
passes_more w after word rest turn is pass =
    ap (λ b. b && walk_passes shape [] (walked arguments [] w word) rest && settle_passes arguments false (walk_more w (word ∷ rest)).held) turn
    ∙ ap (λ (v : Walk). passes_from v rest) is ∙ pass

values_pass_from : (word : Text) (found : List Text) (last : Text) (more : List Text) → AllPlain more → passes_from (behind_values word found last) more ≡ true
unfolding walk_passes
values_pass_from word found last [] plain = refl
values_pass_from word found last (v ∷ vs) plain =
    passes_more (behind_values word found last) (behind_values word (found ++ last ∷ []) v) v vs
    (values_turn word found last v (first_plain v vs plain)) (values_met word found last v (first_plain v vs plain))
    (values_pass_from word (found ++ last ∷ []) v vs (rest_plain v vs plain))

behind_passes : (word : Text) (rest : List Text) → AllPlain rest → passes_from (behind_command word) rest ≡ true
unfolding walk_passes
behind_passes word [] plain = refl
behind_passes word (v ∷ vs) plain =
    passes_more (behind_command word) (behind_values word [] v) v vs (value_turn word v (first_plain v vs plain)) (value_met word v (first_plain v vs plain))
    (values_pass_from word [] v vs (rest_plain v vs plain))

all_pass : (word : Text) (rest : List Text) → AllPlain (word ∷ rest) → passes_from (walk_from nothing_held) (word ∷ rest) ≡ true
all_pass word rest plain =
    passes_more (walk_from nothing_held) (behind_command word) word rest (command_turn word (first_plain word rest plain)) (command_met word (first_plain word rest plain))
    (behind_passes word rest (rest_plain word rest plain))

is_whole : (word : Text) (rest : List Text) → is_valid shape (matched word rest) false ≡ true
is_whole word [] = refl
is_whole word (v ∷ vs) = refl

pub takes_plain : (word : Text) (rest : List Text) → AllPlain (word ∷ rest) → takes parser (word ∷ rest) ≡ true
takes_plain word rest plain =
    let pass = both _ _ (all_pass word rest plain) in
    leaf_takes (built parser) nothing_held (word ∷ rest) refl
    (ap₂ (λ b d. b && d) pass.0
    (ap₂ (λ b d. b && (list_all default_passes arguments && d)) pass.1
    (ap (λ (rows : List Row). is_valid shape rows false) (all_matches word rest plain) ∙ is_whole word rest)))

-- ---- the same of a command that the builders made, and of words behind references

pub split_found : (app : App) (words : List (Bor Text)) (found : ArgMatches) → app ≡ parser → words ≢ [] → AllPlain (map (λ word. word.now) words)
    → HasMatchesOf app (map (λ word. word.now) words) found → IsSplitOf (map (λ word. word.now) words) found
split_found app [] found is some plain has = absurd (some refl)
split_found app (word ∷ rest) found is some plain has =
    let texts = map (λ (w : Bor Text). w.now) rest in
    let rows = (has (ap is_simple is ∙ is_simple_parser)).0 ∙ ap (λ (a : App). matches_of a (word.now ∷ texts)) is in record {
      word = word.now;
      rest = texts;
      words-are = refl;
      command = first_value-rows (found_of found) (codes "command") ∙ ap (first_of (codes "command")) rows ∙ command_found word.now texts plain;
      values = raw_values-rows (found_of found) (codes "values") ∙ ap (all_of (codes "values")) rows ∙ values_found word.now texts plain;
    }

pub takes_words : (app : App) (words : List (Bor Text)) → app ≡ parser → words ≢ [] → AllPlain (map (λ word. word.now) words)
    → takes app (map (λ word. word.now) words) ≡ true
takes_words app [] is some plain = absurd (some refl)
takes_words app (word ∷ rest) is some plain =
    ap (λ (a : App). takes a (map (λ word. word.now) (word ∷ rest))) is ∙ takes_plain word.now (map (λ word. word.now) rest) plain
