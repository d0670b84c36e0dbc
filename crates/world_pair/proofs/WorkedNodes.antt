-- What the rows of the worked runs leave of a node, and where a call opens its end.
use Rattle.std.proofs.Common.{ℕ, ◌+◌, ◌-◌, true, false, List, [], ◌∷◌, ◌++◌, Option, Some, None, length}
use Rattle.ftn_addr.specs.Address.{Address}
use Rattle.node_model.specs.declared.words.Role.{Role}
use Rattle.node_model.specs.declared.words.Role.TheVariants.{Answers}
use Rattle.node_model.specs.Items.{Entry}
use Rattle.node_model.specs.Node.{Hold, Session, Node, Done_record, session_at, with_session}
use Rattle.node_model.specs.Durable.{with_done, with_receipt, with_queued}
use Rattle.node_model.specs.Rows.{by, all_by, new_session, unheld, released, grown, holding, holding_more, hold_from, places_for, receipt_of, received_record, left_by}
use Rattle.node_model.specs.SendRows.{NewFile, Slot, queued_records, unclaimed}
use Rattle.node_model.specs.Talk.{Sending}
use Rattle.world_pair.specs.World.{Place, World, opened, gone, cut, at_line, with_end}
use Rattle.world_pair.specs.WorkedRun.{sender, file}

abbrev or_closed : Option Session → Session
or_closed None = new_session 0 Answers sender [] false 0
or_closed (Some s) = s

abbrev pub open_in : ℕ → Node → Session
open_in seat n = or_closed (session_at n seat)

abbrev or_none : Option Hold → Hold
or_none None = record { number = 0; from = sender; key = file; bytes = []; stored = false; taking = false }
or_none (Some h) = h

abbrev pub held_in : ℕ → Node → Hold
held_in seat n = or_none (open_in seat n).hold

-- files are queued under these numbers, into an empty queue
abbrev pub queueing : List NewFile → List Slot → List Entry → Node → Node
queueing files slots queue n =
    record n { state = with_queued queue None n.state; log = n.log ++ all_by 0 (queued_records files None None slots); records = n.records + length files; staged = length files }

abbrev pub opening : ℕ → Role → Address → List Address → Node → Node
opening seat role first others n =
    record (with_session seat (Some (new_session (n.begun + 1) role first others false 0)) n) { begun = n.begun + 1 }

-- the entry of that number is claimed, settled or skipped

abbrev pub claiming : ℕ → ℕ → Node → Node
claiming seat number n =
    record (with_session seat (Some (record (open_in seat n) { claim = Some number; claim_places = 1 })) n) { reserved = n.reserved + 1 }

abbrev pub settling : ℕ → ℕ → Node → Node
settling seat number n =
    record (with_session seat (Some (unclaimed (open_in seat n))) n) { state = with_done number n.state; log = n.log ++ by seat (Done_record number (open_in seat n).number); records = n.records + 1; reserved = n.reserved - (open_in seat n).claim_places }

abbrev pub skipping : ℕ → ℕ → Node → Node
skipping seat number n =
    record (with_session seat (Some (record (unclaimed (open_in seat n)) { skipped = number ∷ (open_in seat n).skipped })) n) { reserved = n.reserved - (open_in seat n).claim_places }

-- the file is let in from that place, as part 1 of the sender or as another; or it is asked for from there

abbrev pub released_in : ℕ → Node → Node
released_in seat n = released seat (open_in seat n) n

abbrev pub going_as : ℕ → Address → ℕ → ℕ → Node → Node
going_as number from seat place n =
    holding seat (hold_from number from file true (released_in seat n).state) (places_for place 2) (unheld (open_in seat n)) (released_in seat n)

abbrev pub going : ℕ → ℕ → Node → Node
going seat place n = going_as 1 sender seat place n

abbrev pub asking : ℕ → ℕ → Node → Node
asking seat from n =
    holding seat (hold_from 1 sender file false (released_in seat n).state) (places_for from 2) (record (unheld (open_in seat n)) { missed = file ∷ (open_in seat n).missed }) (released_in seat n)

abbrev pub growing : ℕ → List ℕ → Node → Node
growing seat bytes n = holding_more seat (open_in seat n) (grown (held_in seat n) bytes) n

abbrev pub whole : ℕ → List ℕ → Node → Node
whole seat bytes n =
    record (released_in seat n) { state = with_receipt (receipt_of (held_in seat n).number (open_in seat n) (held_in seat n).key ((held_in seat n).bytes ++ bytes)) n.state; log = n.log ++ by seat (received_record (held_in seat n).number (open_in seat n) (held_in seat n).key); records = n.records + 1 }

abbrev pub leaving : ℕ → Node → Node
leaving seat n = left_by seat (open_in seat n) n

-- Places.

abbrev pub two : Place → Place → World
two x y = record { x = x; y = y }

abbrev pub calling : ℕ → ℕ → Role → Place → List Address → Place → Place
calling line seat role peer others p =
    at_line line (opened seat role (p.ends line)) (opening seat role peer.first others p.node) p

abbrev pub left : ℕ → ℕ → Place → Place
left line seat p = at_line line (gone (p.ends line)) (leaving seat p.node) p

abbrev pub dropped : ℕ → Place → Place
dropped line p = with_end line (cut 0 (p.ends line)) p

-- so much of the file of an entry was sent
abbrev pub at_place : ℕ → ℕ → Sending
at_place number place = record { number = number; key = file; place = place; bare = false }
