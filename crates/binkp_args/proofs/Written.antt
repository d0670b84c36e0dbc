-- What is written is read again as the same command.
use Rattle.std.proofs.Common.{◌≡◌, ℕ, suc, zero, ◌+◌, ◌-◌, ◌*◌, ◌<◌, ◌≤◌, ◌^◌, true, false, eqb, ltb, min, List, [], ◌∷◌, ◌++◌, length, map, Some, Ok, refl, ap, inl, inr, arith, rules}
use Rattle.std.specs.Char.{is_ascii_digit, to_ascii_lowercase}
use Rattle.std.specs.Fmt.{decimal}
use Rattle.std.specs.List.{list_all, All, filter_map, fold}
use Rattle.std.proofs.lemmas.Bool.{lt-ltb, le-ltb, ltb-true, and_parts, cases_Bool, agree_below_at}
use Rattle.std.proofs.lemmas.Fmt.{digits_decimal, digits_value-decimal, decimal_nonempty}
use Rattle.std.proofs.lemmas.List.{length-append}
use Rattle.std.proofs.lemmas.Str.Parse.{IsNumeralModel, numerals_by_fold}
use Rattle.ftn_addr.specs.Address.{Address}
use Rattle.ftn_addr.specs.Digits.{number_of, saturated_number}
use Rattle.ftn_addr.specs.Key.{Key}
use Rattle.ftn_addr.specs.Limits.{IsAddress}
use Rattle.ftn_addr.specs.Domain.{domain_byte, is_domain}
use Rattle.ftn_addr.specs.Writing.{canonical, point_text}
use Rattle.ftn_addr.proofs.AddressText.{reading-canonical}
use Rattle.binkp_args.specs.Addresses.{address_in, some_address}
use Rattle.binkp_args.specs.Command.{CommandText, worded, command_of, Nul, Adr, Pwd, File, Accept, Eob, Got, Error, Bsy, Get, Skip, Other}
use Rattle.binkp_args.specs.Escape.{escaped_byte, escaped, unescaped}
use Rattle.binkp_args.specs.File.{word_at, number_at, name_of, key_words, offset_or_0, not_large, place_in, file_of, offered_of, wanted_of}
use Rattle.binkp_args.specs.Limits.{IsFile, IsPlace, AreBytes, IsReadable}
use Rattle.binkp_args.specs.Writing.{number_of as number_of_command, argument_of}
use Rattle.binkp_args.proofs.Escaping.{unescaped-escaped}
use Rattle.binkp_args.proofs.SpacedWords.{visible, visible_kind, visible-append, IsWord, head_of, tail_of, words_read}

-- digits as the definitions have them
own : IsNumeralModel (λ ds. list_all is_ascii_digit ds ≡ true) number_of
own = numerals_by_fold _ (search rules) (λ n ds. fold (λ number digit. number * 10 + (digit - 48)) n ds) (search rules)

saturated_decimal : (n : ℕ) → n < 2 ^ 64 → saturated_number (decimal n) ≡ Some n
saturated_decimal n small =
    let digits = digits_decimal own n small in
    let some = lt-ltb 0 (length (decimal n)) (decimal_nonempty n small) in
    let value : number_of (decimal n) ≡ n = digits_value-decimal own n small in
    let kept : min n (2 ^ 64 - 1) ≡ n = omega arith in
    rw (some, digits, value, kept) refl

visible_digits : (digits : List ℕ) → list_all is_ascii_digit digits ≡ true → visible digits ≡ true
visible_digits digits h = visible_kind is_ascii_digit (λ b small. agree_below_at is_ascii_digit (λ k. false) 33 b refl small) digits h

number_is_word : (n : ℕ) → n < 2 ^ 64 → IsWord (decimal n)
number_is_word n small = record { some = decimal_nonempty n small; seen = visible_digits (decimal n) (digits_decimal own n small) }

byte_visible : (byte : ℕ) → byte < 256 → visible (escaped_byte byte) ≡ true
byte_visible byte small = agree_below_at (λ k. visible (escaped_byte k)) (λ k. true) 256 byte refl small

name_visible : (name : List ℕ) → AreBytes name → visible (escaped name) ≡ true
name_visible [] are = refl
name_visible (byte ∷ name) are =
    visible-append (escaped_byte byte) (escaped name) (byte_visible byte (head_of (λ b. b < 256) byte name are)) (name_visible name (tail_of (λ b. b < 256) byte name are))

byte_some : (byte : ℕ) → byte < 256 → ltb 0 (length (escaped_byte byte)) ≡ true
byte_some byte small = agree_below_at (λ k. ltb 0 (length (escaped_byte k))) (λ k. true) 256 byte refl small

escaped_some : (name : List ℕ) → AreBytes name → 0 < length name → 0 < length (escaped name)
escaped_some [] are some = absurd (omega arith)
escaped_some (byte ∷ name) are some =
    let first : 0 < length (escaped_byte byte) = ltb-true 0 _ (byte_some byte (head_of (λ b. b < 256) byte name are)) in
    omega (arith, length-append (escaped_byte byte) (escaped name))

name_is_word : (name : List ℕ) → AreBytes name → 0 < length name → IsWord (escaped name)
name_is_word name are some = record { some = escaped_some name are some; seen = name_visible name are }

key_read : (key : Key) (more : List (List ℕ)) → IsFile key → AreBytes key.name → key_words (escaped key.name ∷ decimal key.size ∷ decimal key.time ∷ more) ≡ Ok key
unfolding key_words name_of number_at word_at
key_read key more is are =
    let n : unescaped (escaped key.name) ≡ key.name = unescaped-escaped key.name are in
    let ns : ltb 200 (length key.name) ≡ false = le-ltb 200 (length key.name) is.key.short in
    let s : saturated_number (decimal key.size) ≡ Some key.size = saturated_decimal key.size (let small : key.size ≤ 2147483647 = is.size in omega arith) in
    let ss : ltb 9223372036854775807 key.size ≡ false = le-ltb _ _ (let small : key.size ≤ 2147483647 = is.size in omega arith) in
    let t : saturated_number (decimal key.time) ≡ Some key.time = saturated_decimal key.time (let small : key.time < 2 ^ 63 = is.time in omega arith) in
    let ts : ltb 9223372036854775807 key.time ≡ false = le-ltb _ _ (let small : key.time < 2 ^ 63 = is.time in omega arith) in
    rw (n, ns, s, ss, t, ts) refl

not_large_read : (key : Key) → IsFile key → not_large key ≡ Ok key
unfolding not_large
not_large_read key is = let small : ltb 2147483647 key.size ≡ false = le-ltb _ _ is.size in rw small refl

place_read : (key : Key) (offset : ℕ) → IsPlace key offset → place_in key offset ≡ Ok (key, offset)
unfolding place_in
place_read key offset is =
    let inside : ltb key.size offset ≡ false = le-ltb _ _ is.inside in
    rw (not_large_read key is.file, inside) refl

number_read : (n offset : ℕ) (words : List (List ℕ)) → offset ≤ 2147483647 → word_at n words ≡ Ok (decimal offset) → number_at n words ≡ Ok offset
unfolding number_at
number_read n offset words small at =
    let s : saturated_number (decimal offset) ≡ Some offset = saturated_decimal offset (omega arith) in
    let ss : ltb 9223372036854775807 offset ≡ false = le-ltb _ _ (omega arith) in
    rw (at, s, ss) refl

fourth : (a b c d : List ℕ) → word_at 4 (a ∷ b ∷ c ∷ d ∷ []) ≡ Ok d
unfolding word_at
fourth a b c d = refl

file_read : (key : Key) → IsFile key → AreBytes key.name → file_of (escaped key.name ∷ decimal key.size ∷ decimal key.time ∷ []) ≡ Ok key
unfolding file_of
file_read key is are = rw (key_read key [] is are) (not_large_read key is)

offered_read : (key : Key) (offset : ℕ) → IsPlace key offset → AreBytes key.name → offered_of (escaped key.name ∷ decimal key.size ∷ decimal key.time ∷ decimal offset ∷ []) ≡ Ok (key, offset)
unfolding offered_of offset_or_0
offered_read key offset is are =
    let small : offset ≤ 2147483647 = (let a : key.size ≤ 2147483647 = is.file.size in let b : offset ≤ key.size = is.inside in omega arith) in
    let read = number_read 4 offset (escaped key.name ∷ decimal key.size ∷ decimal key.time ∷ decimal offset ∷ []) small (fourth _ _ _ _) in
    rw (key_read key (decimal offset ∷ []) is.file are, read) (place_read key offset is)

wanted_read : (key : Key) (offset : ℕ) → IsPlace key offset → AreBytes key.name → wanted_of (escaped key.name ∷ decimal key.size ∷ decimal key.time ∷ decimal offset ∷ []) ≡ Ok (key, offset)
unfolding wanted_of
wanted_read key offset is are =
    let small : offset ≤ 2147483647 = (let a : key.size ≤ 2147483647 = is.file.size in let b : offset ≤ key.size = is.inside in omega arith) in
    let read = number_read 4 offset (escaped key.name ∷ decimal key.size ∷ decimal key.time ∷ decimal offset ∷ []) small (fourth _ _ _ _) in
    rw (key_read key (decimal offset ∷ []) is.file are, read) (place_read key offset is)

no_words : All IsWord []
no_words k d within = absurd (omega arith)

and_words : (word : List ℕ) (words : List (List ℕ)) → IsWord word → All IsWord words → All IsWord (word ∷ words)
and_words word words is are zero d within = is
and_words word words is are (suc k) d within = are k d (omega arith)

key_are_words : (key : Key) (more : List (List ℕ)) → IsFile key → AreBytes key.name → All IsWord more → All IsWord (escaped key.name ∷ decimal key.size ∷ decimal key.time ∷ more)
key_are_words key more is are rest =
    let size : key.size < 2 ^ 64 = (let small : key.size ≤ 2147483647 = is.size in omega arith) in
    let time : key.time < 2 ^ 64 = (let small : key.time < 2 ^ 63 = is.time in omega arith) in
    and_words (escaped key.name) (decimal key.size ∷ decimal key.time ∷ more) (name_is_word key.name are is.key.some) (and_words (decimal key.size) (decimal key.time ∷ more) (number_is_word key.size size) (and_words (decimal key.time) more (number_is_word key.time time) rest))

place_are_words : (key : Key) (offset : ℕ) → IsPlace key offset → AreBytes key.name → All IsWord (escaped key.name ∷ decimal key.size ∷ decimal key.time ∷ decimal offset ∷ [])
place_are_words key offset is are =
    let small : offset < 2 ^ 64 = (let a : key.size ≤ 2147483647 = is.file.size in let b : offset ≤ key.size = is.inside in omega arith) in
    key_are_words key (decimal offset ∷ []) is.file are (and_words (decimal offset) [] (number_is_word offset small) no_words)

address_read : (a home : Address) → IsAddress a → address_in home (canonical a) ≡ Some a
address_read a home is = rw (reading-canonical a home is) refl

addresses_read : (addresses : List Address) (home : Address) → All IsAddress addresses → filter_map (address_in home) (map canonical addresses) ≡ addresses
addresses_read [] home are = refl
addresses_read (a ∷ more) home are =
    rw (address_read a home (head_of IsAddress a more are)) (ap (λ (x : List Address). a ∷ x) (addresses_read more home (tail_of IsAddress a more are)))

some_read : (addresses : List Address) → 0 < length addresses → some_address addresses ≡ Ok addresses
some_read [] some = absurd (omega arith)
some_read (a ∷ more) some = refl

visible_number : (n : ℕ) → n ≤ 32767 → visible (decimal n) ≡ true
visible_number n small = visible_digits (decimal n) (digits_decimal own n (omega arith))

visible_point : (n : ℕ) → n ≤ 32767 → visible (point_text n) ≡ true
visible_point n small = elim (cases_Bool (eqb n 0)) as (λ _. visible (point_text n) ≡ true) [ inl e ↦ rw e refl | inr e ↦ rw e (visible_number n small) ]

visible_domain : (domain : List ℕ) → is_domain domain ≡ true → visible domain ≡ true
visible_domain domain h = visible_kind domain_byte (λ b small. agree_below_at domain_byte (λ k. false) 33 b refl small) domain (and_parts _ _ h).1

address_is_word : (a : Address) → IsAddress a → IsWord (canonical a)
address_is_word a is =
    let zone = decimal a.zone in
    let net = zone ++ 58 ∷ decimal a.net in
    let node = net ++ 47 ∷ decimal a.node in
    let point = node ++ point_text a.point in
    let domain = visible_domain a.domain is.domain in
    let lower : map to_ascii_lowercase a.domain ≡ a.domain = is.lower_case in
    let seen : visible (point ++ 64 ∷ a.domain) ≡ true = visible-append point (64 ∷ a.domain) (visible-append node (point_text a.point) (visible-append net (47 ∷ decimal a.node) (visible-append zone (58 ∷ decimal a.net) (visible_number a.zone is.zone) (visible_number a.net is.net)) (visible_number a.node is.node)) (visible_point a.point is.point)) domain in
    rw lower (record { some = simp length-append (omega arith); seen = seen })

addresses_are_words : (addresses : List Address) → All IsAddress addresses → All IsWord (map canonical addresses)
addresses_are_words [] are = no_words
addresses_are_words (a ∷ more) are = and_words (canonical a) (map canonical more) (address_is_word a (head_of IsAddress a more are)) (addresses_are_words more (tail_of IsAddress a more are))

pub written-read : (command : CommandText) (home : Address) → IsReadable command → command_of home (number_of_command command) (argument_of command) ≡ Ok command
unfolding command_of worded
written-read (Nul text) home is = rw is refl
written-read (Adr addresses) home is =
    let words = words_read (map canonical addresses) (addresses_are_words addresses is.each) in
    rw (words, addresses_read addresses home is.each, some_read addresses is.some) refl
written-read (Pwd text) home is = rw is refl
written-read (File key offset) home is =
    let words = words_read (escaped key.name ∷ decimal key.size ∷ decimal key.time ∷ decimal offset ∷ []) (place_are_words key offset is.0 is.1) in
    rw (words, offered_read key offset is.0 is.1) refl
written-read (Accept text) home is = rw is refl
written-read Eob home is = refl
written-read (Got key) home is =
    let words = words_read (escaped key.name ∷ decimal key.size ∷ decimal key.time ∷ []) (key_are_words key [] is.0 is.1 no_words) in
    rw (words, file_read key is.0 is.1) refl
written-read (Error text) home is = rw is refl
written-read (Bsy text) home is = rw is refl
written-read (Get key offset) home is =
    let words = words_read (escaped key.name ∷ decimal key.size ∷ decimal key.time ∷ decimal offset ∷ []) (place_are_words key offset is.0 is.1) in
    rw (words, wanted_read key offset is.0 is.1) refl
written-read (Skip key) home is =
    let words = words_read (escaped key.name ∷ decimal key.size ∷ decimal key.time ∷ []) (key_are_words key [] is.0 is.1 no_words) in
    rw (words, file_read key is.0 is.1) refl
written-read (Other number) home is = absurd is
