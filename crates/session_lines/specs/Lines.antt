-- The line of a session (own).
use Rattle.std.specs.Prelude.{List, [], ◌∷◌, ◌++◌, ℕ, Option, Some, None, codes}
use Rattle.std.specs.Fmt.{decimal}
use Rattle.ftn_addr.specs.Address.{Address}
use Rattle.ftn_addr.specs.Writing.{canonical}
use Rattle.session_core.specs.Ends.{End}
use Rattle.session_core.specs.Ends as E
use Rattle.session_run.specs.Reports.{ReportText}

-- the variant's name alone
abbrev pub end_word : End → List ℕ
end_word E.Finished = codes "Finished"
end_word (E.PeerError text) = codes "PeerError"
end_word E.PeerBusy = codes "PeerBusy"
end_word (E.BadPassword wanted given) = codes "BadPassword"
end_word (E.Broke cause frame) = codes "Broke"
end_word E.Dropped = codes "Dropped"
end_word E.LineFault = codes "LineFault"
end_word (E.DiskFault count) = codes "DiskFault"
end_word E.LedgerFull = codes "LedgerFull"
end_word E.Quiet = codes "Quiet"
end_word E.Endless = codes "Endless"
end_word E.TurnedAway = codes "TurnedAway"
end_word E.NoMemory = codes "NoMemory"

abbrev pub peer_word : Option Address → List ℕ
peer_word None = codes "-"
peer_word (Some peer) = canonical peer

-- `session N peer ADDR sent S received R skipped K end WORD` and LF
abbrev pub session_line : ReportText → List ℕ
session_line report =
    codes "session " ++ decimal report.session ++ codes " peer " ++ peer_word report.peer ++ codes " sent " ++ decimal report.sent
    ++ codes " received " ++ decimal report.received ++ codes " skipped " ++ decimal report.skipped ++ codes " end " ++ end_word report.end ++ 10 ∷ []
