-- The settings of a text (own).
use Rattle.std.specs.Prelude.{ℕ, ◌+◌, ◌-◌, ◌^◌, min, nat_lt, List, [], ◌∷◌, length, codes, Option, Some, None, unwrap_or, Result, Ok, Err, if◌then◌else◌}
use Rattle.std.specs.Str.Lines.{lines}
use Rattle.ftn_addr.specs.Address.{Address}
use Rattle.ftn_addr.specs.LineNumbers.{next_line}
use Rattle.mail_conf.specs.Cause.{on_line}
use Rattle.mail_conf.specs.Domain.{DomainText, home_of}
use Rattle.mail_conf.specs.Draft.{DraftText, empty_draft}
use Rattle.mail_conf.specs.Host.{NodeText}
use Rattle.mail_conf.specs.Line.{line_taken}
use Rattle.mail_conf.specs.declared.cause.ConfCause.TheVariants.{NoAddress, TooLong}
use Rattle.mail_conf.specs.declared.cause.ConfFault.{ConfFault}

-- settings without where they lie in memory
pub record ConfText : Type 0 where
  pub addresses : List Address
  pub sysname : List ℕ
  pub sysop : List ℕ
  pub location : List ℕ
  pub nodeinfo : List ℕ
  pub domain : List ℕ
  pub base : List ℕ
  pub inbound : List ℕ
  pub inbound_nonsecure : List ℕ
  pub zone : ℕ
  pub port : ℕ
  pub max_servers : ℕ
  pub max_clients : ℕ
  pub block : ℕ
  pub nodes : List NodeText
  pub refuse_names : List (List ℕ)
  pub refuse_over : ℕ
  pub shares : List (List ℕ)
  pub session_limit : ℕ

-- what further lines set, or the first that is refused
abbrev pub with_lines : Address → DraftText → ℕ → List (List ℕ) → Result DraftText ConfFault
with_lines home d number [] = Ok d
with_lines home d number (line ∷ lines) =
    on_line (next_line number) (line_taken home line d) (λ more. with_lines home more (next_line number) lines)

abbrev pub first_zone : List Address → Option ℕ
first_zone [] = None
first_zone (first ∷ more) = Some first.zone

-- the domain, the outbound's folder and the zone where no `domain` line sets them
abbrev pub domain_or : Option DomainText → ℕ → DomainText
domain_or domain zone = unwrap_or domain (record { name = codes "fidonet"; base = codes "outbound"; zone = zone })

-- what was set, and defaults for the rest
abbrev pub settings_of : DomainText → DraftText → ConfText
settings_of domain d =
    let inbound = unwrap_or d.inbound (codes "inbound") in
    record { addresses = d.addresses; sysname = unwrap_or d.sysname []; sysop = unwrap_or d.sysop []; location = unwrap_or d.location []; nodeinfo = unwrap_or d.nodeinfo []; domain = domain.name; base = domain.base; inbound = inbound; inbound_nonsecure = unwrap_or d.inbound_nonsecure inbound; zone = domain.zone; port = unwrap_or d.port 24554; max_servers = unwrap_or d.max_servers 100; max_clients = unwrap_or d.max_clients 100; block = unwrap_or d.block 4096; nodes = d.nodes; refuse_names = d.refuse_names; refuse_over = unwrap_or d.refuse_over (2 ^ 64 - 1); shares = d.shares; session_limit = unwrap_or d.session_limit 17592186044416 }

abbrev pub finished_with : Option ℕ → DraftText → Result ConfText ConfFault
finished_with None d = Err (record { line = 0; cause = NoAddress })
finished_with (Some zone) d = Ok (settings_of (domain_or d.domain zone) d)

-- an address is wanted
unfoldable pub finished : DraftText → Result ConfText ConfFault
finished d = finished_with (first_zone d.addresses) d

abbrev pub finish_or : Result DraftText ConfFault → Result ConfText ConfFault
finish_or (Ok d) = finished d
finish_or (Err fault) = Err fault

-- the settings of a text, or its first fault
abbrev pub conf_of : List ℕ → Result ConfText ConfFault
conf_of text =
    if nat_lt 1048576 (length text) then Err (record { line = 0; cause = TooLong }) else finish_or (with_lines (home_of (lines text)) empty_draft 0 (lines text))
