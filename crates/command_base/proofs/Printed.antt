-- What the put of a command's lines makes of its status.
use Rattle.std.proofs.Common.{◌≡◌, ℕ, List, sym, subst}
use Rattle.binkp_link.specs.Lines.{SinkState}
use Rattle.command_base.specs.Printing.{OutCause, PrintsLines, lines_put, no_room, all_put, put_failed}
use Rattle.command_base.specs.Statuses as S
use Rattle.command_base.specs.Statuses.{Status}

-- no put failed yet
abbrev pub NotOut : Status → Type 0
NotOut S.OutFault = ⊥
NotOut status = Unit {0}

same_faults : (status : Status) (out out' : SinkState) → NotOut status → out'.faults ≡ out.faults → OutCause status out out'
same_faults S.Done out out' own same = same
same_faults S.Usage out out' own same = same
same_faults (S.ConfBad fault) out out' own same = same
same_faults S.NotFound out out' own same = same
same_faults (S.DiskFault count) out out' own same = same
same_faults (S.LedgerBad place) out out' own same = same
same_faults S.LedgerFull out out' own same = same
same_faults S.LineFault out out' own same = same
same_faults S.Dropped out out' own same = same
same_faults S.Quiet out out' own same = same
same_faults (S.PeerError text) out out' own same = same
same_faults S.PeerBusy out out' own same = same
same_faults S.BadPassword out out' own same = same
same_faults (S.Broke cause n) out out' own same = same
same_faults S.Endless out out' own same = same
same_faults (S.Marked name) out out' own same = same
same_faults S.OutFault out out' own same = absurd own
same_faults S.NoMemory out out' own same = same
same_faults (S.FileBad name) out out' own same = same
same_faults S.TurnedAway out out' own same = same
same_faults (S.ListBad fault) out out' own same = same
same_faults S.NoFile out out' own same = same

pub printed_out : (lines : List ℕ) (had status : Status) (out out' : SinkState) → PrintsLines lines had status out out' → NotOut had → OutCause status out out'
printed_out lines had status out out' (lines_put (all_put is puts)) own = subst (λ (x : Status). OutCause x out out') (sym is) (same_faults had out out' own puts.faults)
printed_out lines had status out out' (lines_put (put_failed is puts)) own = subst (λ (x : Status). OutCause x out out') (sym is) puts.faults
printed_out lines had status out out' (no_room (all_put is puts)) own = subst (λ (x : Status). OutCause x out out') (sym is) puts.faults
printed_out lines had status out out' (no_room (put_failed is puts)) own = subst (λ (x : Status). OutCause x out out') (sym is) puts.faults
