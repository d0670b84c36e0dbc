-- Settings as far as their lines were taken (own).
use Rattle.std.specs.Prelude.{ℕ, Bool, false, List, [], ◌∷◌, ◌++◌, Option, Some, None, is_some, Result, Ok, if◌then◌else◌}
use Rattle.ftn_addr.specs.Address.{Address}
use Rattle.ftn_addr.specs.Outcomes.{◌>>=◌}
use Rattle.ftn_addr.specs.declared.limits.TheConstants.{MAX_FRAME_DATA}
use Rattle.mail_conf.specs.Domain.{DomainText, address_at, domain_line, is_alias}
use Rattle.mail_conf.specs.Host.{NodeText, node_line}
use Rattle.mail_conf.specs.Values.{number_once, text_of, word_at, word_once}
use Rattle.mail_conf.specs.declared.cause.ConfCause.{ConfCause}
use Rattle.mail_conf.specs.declared.words.TextWord.{TextWord}
use Rattle.mail_conf.specs.declared.words.TextWord.TheVariants.{Sysname, Sysop, Location, Nodeinfo}
use Rattle.mail_conf.specs.declared.words.PathWord.{PathWord}
use Rattle.mail_conf.specs.declared.words.PathWord.TheVariants.{Inbound, InboundNonsecure}
use Rattle.mail_conf.specs.declared.words.NumberWord.{NumberWord}
use Rattle.mail_conf.specs.declared.words.NumberWord.TheVariants.{Port, MaxServers, MaxClients, Block, RefuseOver, SessionLimit}
use Rattle.mail_conf.specs.declared.words.ListWord.{ListWord}
use Rattle.mail_conf.specs.declared.words.ListWord.TheVariants as list

-- what the lines so far have set
pub record DraftText : Type 0 where
  pub addresses : List Address
  pub sysname : Option (List ℕ)
  pub sysop : Option (List ℕ)
  pub location : Option (List ℕ)
  pub nodeinfo : Option (List ℕ)
  pub domain : Option DomainText
  pub inbound : Option (List ℕ)
  pub inbound_nonsecure : Option (List ℕ)
  pub port : Option ℕ
  pub max_servers : Option ℕ
  pub max_clients : Option ℕ
  pub block : Option ℕ
  pub refuse_over : Option ℕ
  pub session_limit : Option ℕ
  pub nodes : List NodeText
  pub refuse_names : List (List ℕ)
  pub shares : List (List ℕ)

abbrev pub empty_draft : DraftText
empty_draft =
    record { addresses = []; sysname = None; sysop = None; location = None; nodeinfo = None; domain = None; inbound = None; inbound_nonsecure = None; port = None; max_servers = None; max_clients = None; block = None; refuse_over = None; session_limit = None; nodes = []; refuse_names = []; shares = [] }

-- a line that sets a text
unfoldable pub text_taken : TextWord → List ℕ → DraftText → Result DraftText ConfCause
text_taken Sysname rest d = text_of (is_some d.sysname) rest >>= λ text. Ok (record d { sysname = Some text })
text_taken Sysop rest d = text_of (is_some d.sysop) rest >>= λ text. Ok (record d { sysop = Some text })
text_taken Location rest d = text_of (is_some d.location) rest >>= λ text. Ok (record d { location = Some text })
text_taken Nodeinfo rest d = text_of (is_some d.nodeinfo) rest >>= λ text. Ok (record d { nodeinfo = Some text })

-- a line that sets a folder
unfoldable pub path_taken : PathWord → List (List ℕ) → DraftText → Result DraftText ConfCause
path_taken Inbound words d = word_once (is_some d.inbound) words >>= λ path. Ok (record d { inbound = Some path })
path_taken InboundNonsecure words d = word_once (is_some d.inbound_nonsecure) words >>= λ path. Ok (record d { inbound_nonsecure = Some path })

-- a line that sets a number, each with its range
unfoldable pub number_taken : NumberWord → List (List ℕ) → DraftText → Result DraftText ConfCause
number_taken Port words d = number_once (is_some d.port) words 1 65535 >>= λ n. Ok (record d { port = Some n })
number_taken MaxServers words d = number_once (is_some d.max_servers) words 1 100 >>= λ n. Ok (record d { max_servers = Some n })
number_taken MaxClients words d = number_once (is_some d.max_clients) words 0 100 >>= λ n. Ok (record d { max_clients = Some n })
number_taken Block words d = number_once (is_some d.block) words 128 MAX_FRAME_DATA >>= λ n. Ok (record d { block = Some n })
number_taken RefuseOver words d = number_once (is_some d.refuse_over) words 0 9223372036854775807 >>= λ n. Ok (record d { refuse_over = Some n })
number_taken SessionLimit words d = number_once (is_some d.session_limit) words 1 17592186044416 >>= λ n. Ok (record d { session_limit = Some n })

-- addresses, and those of further words
abbrev pub addresses_from : Address → List Address → List (List ℕ) → Result (List Address) ConfCause
addresses_from home addresses [] = Ok addresses
addresses_from home addresses (word ∷ words) =
    address_at home word >>= λ a. addresses_from home (addresses ++ a ∷ []) words

abbrev pub domain_taken : Bool → List (List ℕ) → DraftText → Result DraftText ConfCause
domain_taken alias words d =
    if alias then (word_at words 2 >>= λ _. Ok d) else (domain_line (is_some d.domain) words >>= λ line. Ok (record d { domain = Some line }))

-- a line whose word may come again; of `domain` lines only an alias may
unfoldable pub list_taken : ListWord → Address → List (List ℕ) → DraftText → Result DraftText ConfCause
list_taken list.Domain home words d = domain_taken (is_alias words) words d
list_taken list.Address home words d =
    word_at words 0 >>= λ _. addresses_from home d.addresses words >>= λ addresses. Ok (record d { addresses = addresses })
list_taken list.Node home words d = node_line home d.nodes words >>= λ node. Ok (record d { nodes = d.nodes ++ node ∷ [] })
list_taken list.RefuseName home words d = word_once false words >>= λ name. Ok (record d { refuse_names = d.refuse_names ++ name ∷ [] })
list_taken list.RequestFolder home words d = word_once false words >>= λ share. Ok (record d { shares = d.shares ++ share ∷ [] })
