-- What is read is within the limits.
use Rattle.std.proofs.Common.{◌≡◌, ℕ, suc, zero, ◌-◌, ◌<◌, ◌≤◌, ◌^◌, Bool, true, false, not, eqb, ltb, List, [], ◌∷◌, length, Option, Some, None, Result, Ok, Err, refl, subst, arith}
use Rattle.std.specs.Prelude.{slice_get, IfOk, if◌then◌else◌}
use Rattle.std.specs.Result.{result_ok}
use Rattle.std.specs.List.{All, filter_map, cons_option, slice_split}
use Rattle.std.proofs.lemmas.Bool.{ltb-false}
use Rattle.std.proofs.lemmas.List.Elements.{filter_passes}
use Rattle.ftn_addr.specs.Address.{Address}
use Rattle.ftn_addr.specs.Digits.{saturated_number}
use Rattle.ftn_addr.specs.Key.{Key}
use Rattle.ftn_addr.specs.Limits.{IsAddress, IsKey}
use Rattle.ftn_addr.specs.Reading.{reading}
use Rattle.ftn_addr.specs.declared.reading.AddrFault.{AddrFault}
use Rattle.ftn_addr.proofs.ReadLimits.{reading-limits}
use Rattle.binkp_args.specs.Addresses.{address_in, some_address, addresses_of}
use Rattle.binkp_args.specs.Command.{CommandText, command_text, worded, command_of, Nul, Adr, Pwd, File, Accept, Eob, Got, Error, Bsy, Get, Skip, Other}
use Rattle.binkp_args.specs.Escape.{unescaped}
use Rattle.binkp_args.specs.File.{or_missing, or_bad, word_at, number_at, name_of, key_words, offset_or_0, not_large, place_in, file_of, offered_of, wanted_of}
use Rattle.binkp_args.specs.Limits.{IsFile, IsPlace, AreAddresses, HasFile, HasAddresses}
use Rattle.ftn_addr.specs.Outcomes.{◌>>=◌, Gives}
use Rattle.ftn_addr.proofs.Outcomes.{steps_ok}
use Rattle.binkp_args.specs.Words.{words_of, without_end}
use Rattle.binkp_args.specs.declared.command.Command.{Command}
use Rattle.binkp_args.specs.declared.fault.ArgFault.{ArgFault}
use Rattle.binkp_args.specs.declared.fault.ArgFault.TheVariants.{MissingWord, BadNumber, LongName, TooLarge, PastEnd, NoAddress, NoMemory}
use Rattle.binkp_args.proofs.Unescaping.{unescaped_step}

-- no word is empty
abbrev pub AreWords : List (List ℕ) → Type 0
AreWords words = All (λ word. not (eqb (length word) 0) ≡ true) words

longer : (n : ℕ) → not (eqb n 0) ≡ true → 0 < n
longer zero h = absurd (let clash : false ≡ true = h in cc)
longer (suc n) h = omega arith

word_some : (n : ℕ) (words : List (List ℕ)) (word : List ℕ) → AreWords words → word_at n words ≡ Ok word → 0 < length word
unfolding word_at
word_some n words word are e = go (n - 1) words are e
  where
    go : (k : ℕ) (ws : List (List ℕ)) → AreWords ws → or_missing n (slice_get ws k) ≡ Ok word → 0 < length word
    go k [] h e = absurd (let clash : Err (MissingWord n) ≡ Ok word = e in cc)
    go zero (w ∷ ws) h e = let same : w ≡ word = cc in subst (λ x. 0 < length x) same (longer (length w) (h 0 w (omega arith)))
    go (suc k) (w ∷ ws) h e = go k ws (λ j d within. h (suc j) d (omega arith)) e

unescaped_some : (word : List ℕ) → 0 < length word → 0 < length (unescaped word)
unescaped_some word some = rw (unescaped_step word some) (omega arith)

number_small : (n : ℕ) (words : List (List ℕ)) (number : ℕ) → number_at n words ≡ Ok number → number ≤ 9223372036854775807
unfolding number_at
number_small n words number e =
    let digits = steps_ok (word_at n words) _ number e in
    go (saturated_number digits.0) digits.2
  where
    check : (v : ℕ) (b : Bool) → ltb 9223372036854775807 v ≡ b → (if b then Err (BadNumber n) else Ok v) ≡ Ok number → number ≤ 9223372036854775807
    check v true t e = absurd (let clash : Err (BadNumber n) ≡ Ok number = e in cc)
    check v false t e = let same : v ≡ number = cc in subst (λ x. x ≤ 9223372036854775807) same (ltb-false _ _ t)

    go : (o : Option ℕ) → or_bad n o ≡ Ok number → number ≤ 9223372036854775807
    go None e = absurd (let clash : Err (BadNumber n) ≡ Ok number = e in cc)
    go (Some v) e = check v (ltb 9223372036854775807 v) refl e

name_fits : (words : List (List ℕ)) (name : List ℕ) → AreWords words → name_of words ≡ Ok name → (0 < length name) × (length name ≤ 200)
unfolding name_of
name_fits words name are e =
    let word = steps_ok (word_at 1 words) _ name e in
    go word.0 (word_some 1 words word.0 are word.1) (ltb 200 (length (unescaped word.0))) refl word.2
  where
    go : (word : List ℕ) → 0 < length word → (b : Bool) → ltb 200 (length (unescaped word)) ≡ b → (if b then Err LongName else Ok (unescaped word)) ≡ Ok name → (0 < length name) × (length name ≤ 200)
    go word some true t e = absurd (let clash : Err LongName ≡ Ok name = e in cc)
    go word some false t e = let same : unescaped word ≡ name = cc in subst (λ x. (0 < length x) × (length x ≤ 200)) same (unescaped_some word some, ltb-false _ _ t)

key_fits : (words : List (List ℕ)) (key : Key) → AreWords words → key_words words ≡ Ok key → IsKey key × (key.time < 2 ^ 63)
unfolding key_words
key_fits words key are e =
    let name = steps_ok (name_of words) _ key e in
    let size = steps_ok (number_at 2 words) _ key name.2 in
    let time = steps_ok (number_at 3 words) _ key size.2 in
    let read : Key = record { name = name.0; size = size.0; time = time.0 } in
    let same : read ≡ key = cc in
    let fits = name_fits words name.0 are name.1 in
    let past : time.0 ≤ 9223372036854775807 = number_small 3 words time.0 time.1 in
    subst (λ (k : Key). IsKey k × (k.time < 2 ^ 63)) same (record { some = fits.0; short = fits.1 }, omega arith)

small_file : (key file : Key) → IsKey key × (key.time < 2 ^ 63) → not_large key ≡ Ok file → IsFile file
unfolding not_large
small_file key file fits e = go (ltb 2147483647 key.size) refl e
  where
    go : (b : Bool) → ltb 2147483647 key.size ≡ b → (if b then Err TooLarge else Ok key) ≡ Ok file → IsFile file
    go true t e = absurd (let clash : Err TooLarge ≡ Ok file = e in cc)
    go false t e = let same : key ≡ file = cc in subst IsFile same (record { key = fits.0; size = ltb-false _ _ t; time = fits.1 })

inner_place : (key : Key) (offset : ℕ) (place : Key × ℕ) → IsKey key × (key.time < 2 ^ 63) → place_in key offset ≡ Ok place → IsPlace place.0 place.1
unfolding place_in
inner_place key offset place fits e =
    let file = steps_ok (not_large key) _ place e in
    go file.0 (small_file key file.0 fits file.1) (ltb file.0.size offset) refl file.2
  where
    go : (file : Key) → IsFile file → (b : Bool) → ltb file.size offset ≡ b → (if b then Err PastEnd else Ok (file, offset)) ≡ Ok place → IsPlace place.0 place.1
    go file is true t e = absurd (let clash : Err PastEnd ≡ Ok place = e in cc)
    go file is false t e =
        let at : Key × ℕ = (file, offset) in
        let same : at ≡ place = cc in
        subst (λ (p : Key × ℕ). IsPlace p.0 p.1) same (record { file = is; inside = ltb-false _ _ t })

file_limits : (words : List (List ℕ)) (key : Key) → AreWords words → file_of words ≡ Ok key → IsFile key
unfolding file_of
file_limits words key are e = let read = steps_ok (key_words words) _ key e in small_file read.0 key (key_fits words read.0 are read.1) read.2

offered_limits : (words : List (List ℕ)) (place : Key × ℕ) → AreWords words → offered_of words ≡ Ok place → IsPlace place.0 place.1
unfolding offered_of
offered_limits words place are e =
    let read = steps_ok (key_words words) _ place e in
    let offset = steps_ok (offset_or_0 words) _ place read.2 in
    inner_place read.0 offset.0 place (key_fits words read.0 are read.1) offset.2

wanted_limits : (words : List (List ℕ)) (place : Key × ℕ) → AreWords words → wanted_of words ≡ Ok place → IsPlace place.0 place.1
unfolding wanted_of
wanted_limits words place are e =
    let read = steps_ok (key_words words) _ place e in
    let offset = steps_ok (number_at 4 words) _ place read.2 in
    inner_place read.0 offset.0 place (key_fits words read.0 are read.1) offset.2

one_address : (home : Address) (word : List ℕ) (found : List Address) → IsAddress home → All IsAddress found → (r : Result Address AddrFault) → reading word home ≡ r → All IsAddress (cons_option (result_ok r) found)
one_address home word found is each (Err fault) e = each
one_address home word found is each (Ok a) e = first
  where
    first : All IsAddress (a ∷ found)
    first zero d within = reading-limits word home a is e
    first (suc k) d within = each k d (omega arith)

each_address : (home : Address) (words : List (List ℕ)) → IsAddress home → All IsAddress (filter_map (address_in home) words)
each_address home [] is = λ k d within. absurd (omega arith)
each_address home (word ∷ words) is = one_address home word (filter_map (address_in home) words) is (each_address home words is) (reading word home) refl

addresses_limits : (home : Address) (words : List (List ℕ)) (addresses : List Address) → IsAddress home → addresses_of home words ≡ Ok addresses → AreAddresses addresses
addresses_limits home words addresses is e = go (filter_map (address_in home) words) (each_address home words is) e
  where
    go : (found : List Address) → All IsAddress found → some_address found ≡ Ok addresses → AreAddresses addresses
    go [] each e = absurd (let clash : Err NoAddress ≡ Ok addresses = e in cc)
    go (a ∷ more) each e = let same : a ∷ more ≡ addresses = cc in subst AreAddresses same (record { some = omega arith; each = each })

words_are : (text : List ℕ) → AreWords (words_of text)
words_are text = filter_passes (λ word. not (eqb (length word) 0)) (slice_split (λ byte. eqb byte 32) text)

-- what is said of each command that is read
abbrev pub Within : Address → CommandText → Type 0
Within home c = HasFile c × (IsAddress home → HasAddresses c)

abbrev pub read_as : CommandText → Result CommandText ArgFault
read_as c = Ok c

known : (home : Address) (t c : CommandText) → Within home t → read_as t ≡ read_as c → Within home c
known home t c within e = let same : t ≡ c = cc in subst (Within home) same within

one_of : (home : Address) (c : CommandText) (b : Bool) (here rest : Result CommandText ArgFault) → (here ≡ Ok c → Within home c) → (rest ≡ Ok c → Within home c) → (if b then here else rest) ≡ Ok c → Within home c
one_of home c true here rest hit miss e = hit e
one_of home c false here rest hit miss e = miss e

worded_limits : (home : Address) (number : ℕ) (words : List (List ℕ)) (c : CommandText) → AreWords words → worded home number words ≡ Ok c → Within home c
unfolding worded
worded_limits home number words c are e =
    let adr = λ (e : (addresses_of home words >>= (λ addresses. Ok (Adr addresses))) ≡ Ok c). (let b = steps_ok (addresses_of home words) _ c e in known home (Adr b.0) c (tt, λ is. addresses_limits home words b.0 is b.1) b.2) in
    let offered = λ (e : (offered_of words >>= (λ place. Ok (File place.0 place.1))) ≡ Ok c). (let b = steps_ok (offered_of words) _ c e in known home (File b.0.0 b.0.1) c (offered_limits words b.0 are b.1, λ is. tt) b.2) in
    let got = λ (e : (file_of words >>= (λ key. Ok (Got key))) ≡ Ok c). (let b = steps_ok (file_of words) _ c e in known home (Got b.0) c (file_limits words b.0 are b.1, λ is. tt) b.2) in
    let wanted = λ (e : (wanted_of words >>= (λ place. Ok (Get place.0 place.1))) ≡ Ok c). (let b = steps_ok (wanted_of words) _ c e in known home (Get b.0.0 b.0.1) c (wanted_limits words b.0 are b.1, λ is. tt) b.2) in
    let skip = λ (e : (file_of words >>= (λ key. Ok (Skip key))) ≡ Ok c). (let b = steps_ok (file_of words) _ c e in known home (Skip b.0) c (file_limits words b.0 are b.1, λ is. tt) b.2) in
    one_of home c (eqb number 1) _ _ adr (one_of home c (eqb number 3) _ _ offered (one_of home c (eqb number 6) _ _ got (one_of home c (eqb number 9) _ _ wanted (one_of home c (eqb number 10) _ _ skip (known home (Other number) c (tt, λ is. tt)))))) e

pub command_limits : (home : Address) (number : ℕ) (args : List ℕ) (c : CommandText) → command_of home number args ≡ Ok c → Within home c
unfolding command_of
command_limits home number args c e =
    let text = without_end args in
    let words = worded_limits home number (words_of text) c (words_are text) in
    one_of home c (eqb number 0) _ _ (known home (Nul text) c (tt, λ is. tt)) (one_of home c (eqb number 2) _ _ (known home (Pwd text) c (tt, λ is. tt)) (one_of home c (eqb number 4) _ _ (known home (Accept text) c (tt, λ is. tt)) (one_of home c (eqb number 5) _ _ (known home Eob c (tt, λ is. tt)) (one_of home c (eqb number 7) _ _ (known home (Error text) c (tt, λ is. tt)) (one_of home c (eqb number 8) _ _ (known home (Bsy text) c (tt, λ is. tt)) words))))) e

pub file_within : (home : Address) (number : ℕ) (args : List ℕ) (read : Result Command ArgFault) → Gives NoMemory command_text read (command_of home number args) → IfOk read (λ command. HasFile (command_text command))
file_within home number args (Ok command) gives = (command_limits home number args (command_text command) gives).0
file_within home number args (Err fault) gives = tt

pub addresses_within : (home : Address) (number : ℕ) (args : List ℕ) (read : Result Command ArgFault) → Gives NoMemory command_text read (command_of home number args) → IsAddress home → IfOk read (λ command. HasAddresses (command_text command))
addresses_within home number args (Ok command) gives is = (command_limits home number args (command_text command) gives).1 is
addresses_within home number args (Err fault) gives is = tt
