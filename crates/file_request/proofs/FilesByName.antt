-- One more file under its name, and what each word finds then.
use Rattle.std.proofs.Common.{◌≡◌, ℕ, Bool, true, false, nat_le, List, [], ◌∷◌, map, length, Option, None, Some, refl, sym, ap, ◌∙◌, Ordering}
use Rattle.std.specs.Prelude.{cond, option_map}
use Rattle.std.specs.BTreeMap.{BTreeMap, get, is_at}
use Rattle.std.specs.Char.{to_ascii_lowercase}
use Rattle.std.specs.Cmp.Lexicographic.{slice_cmp}
use Rattle.std.specs.Map.{lookup}
use Rattle.std.specs.Option.{option_or, is_some}
use Rattle.std.specs.Ordering.{is_eq, nat_cmp, on}
use Rattle.std.proofs.lemmas.Map.Text.{is_eq-slice_cmp}
use Rattle.std.proofs.lemmas.Slice.Eq.{bytes_eq-Decides}
use Rattle.ftn_addr.specs.Content.{Content}
use Rattle.ftn_addr.specs.Case.{same_word}
use Rattle.ftn_addr.specs.Word.{words_of}
use Rattle.file_request.specs.Answer.{asked_by, asked_word}
use Rattle.file_request.specs.Files.{found, given_by, key_of, path_at}
use Rattle.file_request.specs.Share.{SharedFolder, path_in}
use Rattle.file_request.specs.declared.files.Offered.{Offered}

abbrev by_bytes : Content → Content → Ordering
by_bytes = on (λ b. b.list) (slice_cmp nat_cmp)

abbrev lower : List ℕ → List ℕ
lower word = map to_ascii_lowercase word

or_none : {X : Type 0} (p : Option X) → p ≡ option_or p None
or_none None = refl
or_none (Some x) = refl

-- keys of the same bytes have the same file
same_key : (files : BTreeMap Content Offered) (k : Content) (word : List ℕ) → k.list ≡ lower word → get by_bytes files k ≡ get by_bytes files (key_of word)
same_key files k word same =
    ap (λ (bytes : List ℕ). lookup (λ (q : Content). is_eq (slice_cmp nat_cmp bytes q.list)) files.entries) same

-- a file under a new name
pub added_new : (old new : BTreeMap Content Offered) (k : Content) (file : Offered) → k.list ≡ lower file.name.now.list → nat_le (length file.name.now.list) 200 ≡ true → is_some (get by_bytes old k) ≡ false → ((q : Content) → get by_bytes new q ≡ cond (is_at (by_bytes k) q) (Some file) (get by_bytes old q)) → (word : List ℕ) → found new word ≡ option_or (found old word) (given_by file word)
added_new old new k file key short free updates word = go (same_word file.name.now.list word) refl
  where
    asks : is_at (by_bytes k) (key_of word) ≡ same_word file.name.now.list word
    asks = ap (λ (bytes : List ℕ). is_eq (slice_cmp nat_cmp bytes (lower word))) key ∙ is_eq-slice_cmp (lower file.name.now.list) (lower word)

    none_of : (p : Option Offered) → is_some p ≡ false → p ≡ None
    none_of None is = refl
    none_of (Some x) is = absurd (let clash : true ≡ false = is in cc)

    go : (b : Bool) → same_word file.name.now.list word ≡ b → found new word ≡ option_or (found old word) (given_by file word)
    go true is =
        let same : lower file.name.now.list ≡ lower word = (bytes_eq-Decides (lower file.name.now.list) (lower word)).0 is in
        let none : get by_bytes old (key_of word) ≡ None = none_of _ (ap is_some (sym (same_key old k word (key ∙ same))) ∙ free) in
        let here : get by_bytes new (key_of word) ≡ Some file = updates (key_of word) ∙ ap (λ (b : Bool). cond b (Some file) (get by_bytes old (key_of word))) (asks ∙ is) in
        ap (option_map path_at) here ∙ rw none (rw short (rw is refl))
    go false is =
        let there : get by_bytes new (key_of word) ≡ get by_bytes old (key_of word) = updates (key_of word) ∙ ap (λ (b : Bool). cond b (Some file) (get by_bytes old (key_of word))) (asks ∙ is) in
        ap (option_map path_at) there ∙ or_none (found old word) ∙ rw short (rw is refl)

same_asked : (f g : List ℕ → Option (List ℕ)) → ((word : List ℕ) → f word ≡ g word) → (words : List (List ℕ)) → asked_word f words ≡ asked_word g words
same_asked f g same [] = refl
same_asked f g same (word ∷ []) = same word
same_asked f g same (word ∷ next ∷ words) = refl

-- a line asks the files for what it asks the shares for
pub known_asked : (files : BTreeMap Content Offered) (shares : List SharedFolder) → ((word : List ℕ) → found files word ≡ path_in word shares) → (line : List ℕ) → asked_word (found files) (words_of line) ≡ asked_by shares line
known_asked files shares known line = same_asked (found files) (λ word. path_in word shares) known (words_of line)
