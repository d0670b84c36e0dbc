-- The settings of a text have addresses and numbers within the limits.
use Rattle.std.proofs.Common.{◌≡◌, ℕ, zero, suc, ◌<◌, ◌≤◌, Bool, true, false, not, ◌&&◌, ltb, List, [], ◌∷◌, ◌++◌, length, map, Option, Some, None, Result, Ok, Err, refl, subst, arith}
use Rattle.std.specs.Prelude.{nat_le, unwrap_or, if◌then◌else◌}
use Rattle.std.specs.Char.{to_ascii_lowercase}
use Rattle.std.specs.List.{All, list_any}
use Rattle.std.specs.Result.{result_ok}
use Rattle.std.specs.Str.Lines.{lines}
use Rattle.std.proofs.lemmas.Bool.{and_parts, leb-true, ltb-false}
use Rattle.std.proofs.lemmas.List.Elements.{All-append, All-nil}
use Rattle.ftn_addr.specs.Address.{Address, same_address}
use Rattle.ftn_addr.specs.Digits.{saturated_number}
use Rattle.ftn_addr.specs.Domain.{is_domain}
use Rattle.ftn_addr.specs.LineNumbers.{next_line, or_fault}
use Rattle.ftn_addr.specs.Limits.{IsAddress}
use Rattle.ftn_addr.specs.Outcomes.{◌>>=◌}
use Rattle.ftn_addr.specs.Reading.{reading}
use Rattle.ftn_addr.specs.Word.{first_word, words_of}
use Rattle.ftn_addr.specs.declared.limits.TheConstants.{MAX_ADDRESS_NUMBER}
use Rattle.ftn_addr.specs.declared.reading.AddrFault.{AddrFault}
use Rattle.ftn_addr.proofs.Outcomes.{steps_ok}
use Rattle.ftn_addr.proofs.ReadLimits.{IsDomain, lower_domain, lower_lower, reading_within_zone}
use Rattle.mail_conf.specs.Conf.{ConfText, with_lines, domain_or, first_zone, finished_with, finished, finish_or, settings_of}
use Rattle.mail_conf.specs.Domain.{DomainText, domain_line, domain_words, home_or, home_with, home_of, address_or, address_at, is_alias}
use Rattle.mail_conf.specs.Draft.{DraftText, empty_draft, text_taken, path_taken, number_taken, addresses_from, domain_taken, list_taken}
use Rattle.mail_conf.specs.Host.{NodeText, node_line, host_word, without_options}
use Rattle.mail_conf.specs.Limits.{KeepsLimits, EachKeepsLimits}
use Rattle.mail_conf.specs.Line.{if_text, if_path, if_number, if_list, words_taken, line_taken}
use Rattle.mail_conf.specs.Values.{before_comment, number_in, number_once, number_or, once, word_at}
use Rattle.mail_conf.specs.Words.{is_passed_over, list_word, number_word, path_word, text_word}
use Rattle.mail_conf.specs.declared.cause.ConfCause.{ConfCause}
use Rattle.mail_conf.specs.declared.cause.ConfCause.TheVariants.{BadAddress, BadNumber, UnknownWord, NoAddress, TooLong}
use Rattle.mail_conf.specs.declared.cause.ConfFault.{ConfFault}
use Rattle.mail_conf.specs.declared.words.TextWord.{TextWord}
use Rattle.mail_conf.specs.declared.words.TextWord.TheVariants.{Sysname, Sysop, Location, Nodeinfo}
use Rattle.mail_conf.specs.declared.words.PathWord.{PathWord}
use Rattle.mail_conf.specs.declared.words.PathWord.TheVariants.{Inbound, InboundNonsecure}
use Rattle.mail_conf.specs.declared.words.NumberWord.{NumberWord}
use Rattle.mail_conf.specs.declared.words.NumberWord.TheVariants.{Port, MaxServers, MaxClients, Block, RefuseOver, SessionLimit}
use Rattle.mail_conf.specs.declared.words.ListWord.{ListWord}
use Rattle.mail_conf.specs.declared.words.ListWord.TheVariants as list

-- The home.

domain_named : (name : List ℕ) (line : DomainText) (r : Result ℕ ConfCause) (base : List ℕ) (b : Bool) → is_domain name ≡ b
    → (if not b then Err BadAddress else (r >>= λ n. Ok (record { name = map to_ascii_lowercase name; base = base; zone = n }))) ≡ Ok line → IsDomain line.name
domain_named name line r base false is e = absurd (let clash : Err BadAddress ≡ Ok line = e in cc)
domain_named name line (Err cause) base true is e = absurd (let clash : Err cause ≡ Ok line = e in cc)
domain_named name line (Ok n) base true is e =
    let read : DomainText = record { name = map to_ascii_lowercase name; base = base; zone = n } in
    let same : read ≡ line = cc in
    subst (λ (d : DomainText). IsDomain d.name) same (lower_domain name is, lower_lower name)

domain_good : (given : Bool) (words : List (List ℕ)) (line : DomainText) → domain_line given words ≡ Ok line → IsDomain line.name
unfolding domain_line
domain_good given words line e =
    let name = steps_ok (word_at words 0) _ line e in
    let base = steps_ok (word_at words 1) _ line name.2 in
    let zone = steps_ok (word_at words 2) _ line base.2 in
    let free = steps_ok (once given) _ line zone.2 in
    domain_named name.0 line (number_in zone.0 0 MAX_ADDRESS_NUMBER) base.0 (is_domain name.0) refl free.2

from_line : (words : List (List ℕ)) (r : Result DomainText ConfCause) → domain_line false words ≡ r → IsDomain (home_or r).domain
from_line words (Ok line) e = domain_good false words line e
from_line words (Err cause) e = (refl, refl)

home_good : (texts : List (List ℕ)) → IsDomain (home_of texts).domain
home_good [] = (refl, refl)
home_good (line ∷ more) = go (domain_words (words_of (before_comment line))) (home_good more)
  where
    go : (words : Option (List (List ℕ))) → IsDomain (home_of more).domain → IsDomain (home_with words (home_of more)).domain
    go None later = later
    go (Some words) later = from_line words (domain_line false words) refl

-- Addresses.

address_good : (home : Address) (word : List ℕ) (a : Address) → IsDomain home.domain → address_at home word ≡ Ok a → IsAddress a
unfolding address_at
address_good home word a good e = go (reading word home) refl e
  where
    within : (b : Address) → reading word home ≡ Ok b → (t : Bool) → ltb MAX_ADDRESS_NUMBER b.zone ≡ t → (if t then Err BadAddress else Ok b) ≡ Ok a → IsAddress a
    within b read true t e = absurd (let clash : Err BadAddress ≡ Ok a = e in cc)
    within b read false t e = let same : b ≡ a = cc in subst IsAddress same (reading_within_zone word home b good read (ltb-false MAX_ADDRESS_NUMBER b.zone t))

    go : (r : Result Address AddrFault) → reading word home ≡ r → address_or (result_ok r) ≡ Ok a → IsAddress a
    go (Err fault) read e = absurd (let clash : Err BadAddress ≡ Ok a = e in cc)
    go (Ok b) read e = within b read (ltb MAX_ADDRESS_NUMBER b.zone) refl e

all_one : {X : Type 0} (P : X → Type 0) (x : X) → P x → All P (x ∷ [])
all_one P x p zero d within = p
all_one P x p (suc k) d within = absurd (omega (arith, within))

all_more : {X : Type 0} (P : X → Type 0) (xs : List X) (x : X) → All P xs → P x → All P (xs ++ x ∷ [])
all_more P xs x each p = All-append P xs (x ∷ []) each (all_one P x p)

addresses_good : (home : Address) (addresses : List Address) (words : List (List ℕ)) (all : List Address) → IsDomain home.domain → All IsAddress addresses → addresses_from home addresses words ≡ Ok all → All IsAddress all
addresses_good home addresses [] all good each e = let same : addresses ≡ all = cc in subst (All IsAddress) same each
addresses_good home addresses (word ∷ words) all good each e =
    let a = steps_ok (address_at home word) _ all e in
    addresses_good home (addresses ++ a.0 ∷ []) words all good (all_more IsAddress addresses a.0 each (address_good home word a.0 good a.1)) a.2

abbrev pub as_read : NodeText → Result NodeText ConfCause
as_read node = Ok node

node_good : (home : Address) (nodes : List NodeText) (words : List (List ℕ)) (node : NodeText) → IsDomain home.domain → node_line home nodes words ≡ Ok node → IsAddress node.addr
unfolding node_line
node_good home nodes words node good e =
    let word = steps_ok (word_at (without_options words) 0) _ node e in
    let addr = steps_ok (address_at home word.0) _ node word.2 in
    let free = steps_ok (once (list_any (λ (n : NodeText). same_address addr.0 n.addr) nodes)) _ node addr.2 in
    let host = steps_ok (host_word (without_options words)) _ node free.2 in
    named (record { addr = addr.0; host = host.0.0; port = host.0.1; password = _ }) (address_good home word.0 addr.0 good addr.1) host.2
  where
    named : (read : NodeText) → IsAddress read.addr → as_read read ≡ Ok node → IsAddress node.addr
    named read is e = let same : read ≡ node = cc in subst (λ (n : NodeText). IsAddress n.addr) same is

-- Lines.

abbrev pub OfNode : NodeText → Type 0
OfNode node = IsAddress node.addr

abbrev pub Within : ℕ → ℕ → Type 0
Within high n = (0 < n) × (n ≤ high)

-- of all that a draft holds, what the limits speak of
pub record KeptOf (own : List Address) (others : List NodeText) (size limit servers : Option ℕ) : Type 0 where
  addresses : All IsAddress own
  nodes : All OfNode others
  block : Within 32767 (unwrap_or size 4096)
  session_limit : Within 17592186044416 (unwrap_or limit 17592186044416)
  max_servers : Within 100 (unwrap_or servers 100)

abbrev pub Kept : DraftText → Type 0
Kept d = KeptOf d.addresses d.nodes d.block d.session_limit d.max_servers

sets : {A : Type 0} (r : Result A ConfCause) (f : A → DraftText) (e : DraftText) → ((x : A) → Kept (f x)) → (r >>= λ x. Ok (f x)) ≡ Ok e → Kept e
sets r f e keeps h =
    let x = steps_ok r (λ x. Ok (f x)) e h in
    let same : f x.0 ≡ e = cc in
    subst Kept same (keeps x.0)

in_range : (digits : List ℕ) (low high n : ℕ) → number_in digits low high ≡ Ok n → (low ≤ n) × (n ≤ high)
unfolding number_in
in_range digits low high n e = go (saturated_number digits) e
  where
    test : (m : ℕ) (b : Bool) → (nat_le low m && nat_le m high) ≡ b → (if b then Ok m else Err BadNumber) ≡ Ok n → (low ≤ n) × (n ≤ high)
    test m false is e = absurd (let clash : Err BadNumber ≡ Ok n = e in cc)
    test m true is e =
        let parts = and_parts (nat_le low m) (nat_le m high) is in
        let same : m ≡ n = cc in
        subst (λ (k : ℕ). (low ≤ k) × (k ≤ high)) same (leb-true low m parts.0, leb-true m high parts.1)

    go : (found : Option ℕ) → number_or found low high ≡ Ok n → (low ≤ n) × (n ≤ high)
    go None e = absurd (let clash : Err BadNumber ≡ Ok n = e in cc)
    go (Some m) e = test m (nat_le low m && nat_le m high) refl e

-- a line that sets a number of which a limit speaks
sets_number : (given : Bool) (words : List (List ℕ)) (low high : ℕ) (f : ℕ → DraftText) (e : DraftText) → 0 < low → ((n : ℕ) → Within high n → Kept (f n)) → (number_once given words low high >>= λ n. Ok (f n)) ≡ Ok e → Kept e
unfolding number_once
sets_number given words low high f e some keeps h =
    let n = steps_ok (number_once given words low high) (λ n. Ok (f n)) e h in
    let digits = steps_ok (word_at words 0) _ n.0 n.1 in
    let free = steps_ok (once given) _ n.0 digits.2 in
    let range = in_range digits.0 low high n.0 free.2 in
    let same : f n.0 ≡ e = cc in
    subst Kept same (keeps n.0 (omega (arith, range.0, some), range.1))

text_kept : (word : TextWord) (rest : List ℕ) (d e : DraftText) → Kept d → text_taken word rest d ≡ Ok e → Kept e
unfolding text_taken
text_kept Sysname rest d e k h = sets _ (λ text. record d { sysname = Some text }) e (λ text. k) h
text_kept Sysop rest d e k h = sets _ (λ text. record d { sysop = Some text }) e (λ text. k) h
text_kept Location rest d e k h = sets _ (λ text. record d { location = Some text }) e (λ text. k) h
text_kept Nodeinfo rest d e k h = sets _ (λ text. record d { nodeinfo = Some text }) e (λ text. k) h

path_kept : (word : PathWord) (words : List (List ℕ)) (d e : DraftText) → Kept d → path_taken word words d ≡ Ok e → Kept e
unfolding path_taken
path_kept Inbound words d e k h = sets _ (λ path. record d { inbound = Some path }) e (λ path. k) h
path_kept InboundNonsecure words d e k h = sets _ (λ path. record d { inbound_nonsecure = Some path }) e (λ path. k) h

number_kept : (word : NumberWord) (words : List (List ℕ)) (d e : DraftText) → Kept d → number_taken word words d ≡ Ok e → Kept e
unfolding number_taken
number_kept Port words d e k h = sets _ (λ n. record d { port = Some n }) e (λ n. k) h
number_kept MaxServers words d e k h = sets_number _ words 1 100 (λ n. record d { max_servers = Some n }) e (omega arith) (λ n range. record { addresses = k.addresses; nodes = k.nodes; block = k.block; session_limit = k.session_limit; max_servers = range }) h
number_kept MaxClients words d e k h = sets _ (λ n. record d { max_clients = Some n }) e (λ n. k) h
number_kept Block words d e k h = sets_number _ words 128 32767 (λ n. record d { block = Some n }) e (omega arith) (λ n range. record { addresses = k.addresses; nodes = k.nodes; block = range; session_limit = k.session_limit; max_servers = k.max_servers }) h
number_kept RefuseOver words d e k h = sets _ (λ n. record d { refuse_over = Some n }) e (λ n. k) h
number_kept SessionLimit words d e k h = sets_number _ words 1 17592186044416 (λ n. record d { session_limit = Some n }) e (omega arith) (λ n range. record { addresses = k.addresses; nodes = k.nodes; block = k.block; session_limit = range; max_servers = k.max_servers }) h

domain_kept : (alias : Bool) (words : List (List ℕ)) (d e : DraftText) → Kept d → domain_taken alias words d ≡ Ok e → Kept e
domain_kept true words d e k h = sets _ (λ word. d) e (λ word. k) h
domain_kept false words d e k h = sets _ (λ line. record d { domain = Some line }) e (λ line. k) h

list_kept : (word : ListWord) (home : Address) (words : List (List ℕ)) (d e : DraftText) → IsDomain home.domain → Kept d → list_taken word home words d ≡ Ok e → Kept e
unfolding list_taken
list_kept list.Domain home words d e good k h = domain_kept (is_alias words) words d e k h
list_kept list.Address home words d e good k h =
    let word = steps_ok (word_at words 0) _ e h in
    let all = steps_ok (addresses_from home d.addresses words) _ e word.2 in
    let read : DraftText = record d { addresses = all.0 } in
    let same : read ≡ e = cc in
    subst Kept same (record { addresses = addresses_good home d.addresses words all.0 good k.addresses all.1; nodes = k.nodes; block = k.block; session_limit = k.session_limit; max_servers = k.max_servers })
list_kept list.Node home words d e good k h =
    let node = steps_ok (node_line home d.nodes words) _ e h in
    let read : DraftText = record d { nodes = d.nodes ++ node.0 ∷ [] } in
    let same : read ≡ e = cc in
    subst Kept same (record { addresses = k.addresses; nodes = all_more OfNode d.nodes node.0 k.nodes (node_good home d.nodes words node.0 good node.1); block = k.block; session_limit = k.session_limit; max_servers = k.max_servers })
list_kept list.RefuseName home words d e good k h = sets _ (λ name. record d { refuse_names = d.refuse_names ++ name ∷ [] }) e (λ name. k) h
list_kept list.RequestFolder home words d e good k h = sets _ (λ share. record d { shares = d.shares ++ share ∷ [] }) e (λ share. k) h

by_text : (word : Option TextWord) (rest : List ℕ) (d e : DraftText) (other : Result DraftText ConfCause) → Kept d → (other ≡ Ok e → Kept e) → if_text word rest d other ≡ Ok e → Kept e
by_text None rest d e other k goes h = goes h
by_text (Some word) rest d e other k goes h = text_kept word rest d e k h

by_path : (word : Option PathWord) (words : List (List ℕ)) (d e : DraftText) (other : Result DraftText ConfCause) → Kept d → (other ≡ Ok e → Kept e) → if_path word words d other ≡ Ok e → Kept e
by_path None words d e other k goes h = goes h
by_path (Some word) words d e other k goes h = path_kept word words d e k h

by_number : (word : Option NumberWord) (words : List (List ℕ)) (d e : DraftText) (other : Result DraftText ConfCause) → Kept d → (other ≡ Ok e → Kept e) → if_number word words d other ≡ Ok e → Kept e
by_number None words d e other k goes h = goes h
by_number (Some word) words d e other k goes h = number_kept word words d e k h

by_list : (word : Option ListWord) (home : Address) (words : List (List ℕ)) (d e : DraftText) (other : Result DraftText ConfCause) → IsDomain home.domain → Kept d → (other ≡ Ok e → Kept e) → if_list word home words d other ≡ Ok e → Kept e
by_list None home words d e other good k goes h = goes h
by_list (Some word) home words d e other good k goes h = list_kept word home words d e good k h

passed_over : (b : Bool) (d e : DraftText) → Kept d → (if b then Ok d else Err UnknownWord) ≡ Ok e → Kept e
passed_over true d e k h = let same : d ≡ e = cc in subst Kept same k
passed_over false d e k h = absurd (let clash : Err UnknownWord ≡ Ok e = h in cc)

words_kept : (home : Address) (words : List (List ℕ)) (rest : List ℕ) (d e : DraftText) → IsDomain home.domain → Kept d → words_taken home words rest d ≡ Ok e → Kept e
words_kept home [] rest d e good k h = let same : d ≡ e = cc in subst Kept same k
words_kept home (word ∷ words) rest d e good k h =
    by_text (text_word word) rest d e _ k (by_path (path_word word) words d e _ k (by_number (number_word word) words d e _ k (by_list (list_word word) home words d e _ good k (passed_over (is_passed_over word) d e k)))) h

line_kept : (home : Address) (line : List ℕ) (d e : DraftText) → IsDomain home.domain → Kept d → line_taken home line d ≡ Ok e → Kept e
unfolding line_taken
line_kept home line d e good k h = words_kept home (words_of (before_comment line)) (first_word (before_comment line)).1 d e good k h

or_ok : {A B C F : Type 0} (fault : C → F) (r : Result A C) (f : A → Result B F) (b : B) → or_fault fault r f ≡ Ok b → (a : A) × (r ≡ Ok a) × (f a ≡ Ok b)
or_ok fault (Ok a) f b e = (a, refl, e)
or_ok fault (Err cause) f b e = absurd (let clash : Err (fault cause) ≡ Ok b = e in cc)

lines_kept : (home : Address) (d : DraftText) (number : ℕ) (texts : List (List ℕ)) (e : DraftText) → IsDomain home.domain → Kept d → with_lines home d number texts ≡ Ok e → Kept e
lines_kept home d number [] e good k h = let same : d ≡ e = cc in subst Kept same k
lines_kept home d number (line ∷ texts) e good k h =
    let more = or_ok _ (line_taken home line d) _ e h in
    lines_kept home more.0 (next_line number) texts e good (line_kept home line d more.0 good k more.1) more.2

-- The whole.

empty_kept : Kept empty_draft
empty_kept =
    record { addresses = All-nil IsAddress; nodes = All-nil OfNode; block = (omega arith, omega arith); session_limit = (omega arith, omega arith); max_servers = (omega arith, omega arith) }

finished_keeps : (d : DraftText) (c : ConfText) → Kept d → finished d ≡ Ok c → KeepsLimits c
unfolding finished
finished_keeps d c k h = go d.addresses refl h
  where
    go : (all : List Address) → d.addresses ≡ all → finished_with (first_zone all) d ≡ Ok c → KeepsLimits c
    go [] is h = absurd (let clash : Err (record { line = 0; cause = NoAddress }) ≡ Ok c = h in cc)
    go (first ∷ more) is h =
        let read : ConfText = settings_of (domain_or d.domain first.zone) d in
        let same : read ≡ c = cc in
        subst KeepsLimits same (record { some = rw is (omega arith); addresses = k.addresses; nodes = k.nodes; block_some = k.block.0; block_fits = k.block.1; limit_some = k.session_limit.0; limit_fits = k.session_limit.1; servers_some = k.max_servers.0; servers_fit = k.max_servers.1 })

draft_keeps : (r : Result DraftText ConfFault) (home : Address) (texts : List (List ℕ)) (c : ConfText) → IsDomain home.domain → with_lines home empty_draft 0 texts ≡ r → finish_or r ≡ Ok c → KeepsLimits c
draft_keeps (Ok d) home texts c good is h = finished_keeps d c (lines_kept home empty_draft 0 texts d good empty_kept is) h
draft_keeps (Err fault) home texts c good is h = absurd (let clash : Err fault ≡ Ok c = h in cc)

pub each_keeps_limits : EachKeepsLimits
each_keeps_limits text c h = go (ltb 1048576 (length text)) h
  where
    go : (b : Bool) → (if b then Err (record { line = 0; cause = TooLong }) else finish_or (with_lines (home_of (lines text)) empty_draft 0 (lines text))) ≡ Ok c → KeepsLimits c
    go true h = absurd (let clash : Err (record { line = 0; cause = TooLong }) ≡ Ok c = h in cc)
    go false h = draft_keeps (with_lines (home_of (lines text)) empty_draft 0 (lines text)) (home_of (lines text)) (lines text) c (home_good (lines text)) refl h
