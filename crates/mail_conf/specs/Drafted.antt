-- A draft of the code, without where it lies in memory.
use Rattle.std.specs.Prelude.{ℕ, List, map, Option, option_map}
use Rattle.ftn_addr.specs.Address.{address}
use Rattle.ftn_addr.specs.declared.byte_list.Bytes.{Bytes}
use Rattle.mail_conf.specs.Draft.{DraftText}
use Rattle.mail_conf.specs.Views.{domain_text}
use Rattle.mail_conf.specs.declared.draft.Draft.{Draft}

abbrev pub text_in : Option Bytes → Option (List ℕ)
text_in text = option_map (λ (b : Bytes). b.list) text

abbrev pub drafted : Draft → DraftText
drafted d =
    record { addresses = map address d.addresses.items; sysname = text_in d.sysname; sysop = text_in d.sysop; location = text_in d.location; nodeinfo = text_in d.nodeinfo; domain = option_map domain_text d.domain; inbound = text_in d.inbound; inbound_nonsecure = text_in d.inbound_nonsecure; port = d.port; max_servers = d.max_servers; max_clients = d.max_clients; block = d.block; refuse_over = d.refuse_over; session_limit = d.session_limit; nodes = d.nodes; refuse_names = map (λ name. name.list) d.refuse_names.items; shares = map (λ share. share.list) d.shares.items }
