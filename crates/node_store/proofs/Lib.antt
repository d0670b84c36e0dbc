mod CopyPieces
mod Counted
mod Cutting
mod Finds
mod Folds
mod FoundLedger
mod Greatest
mod HeldTakes
mod Kept
mod ListedItems
mod MovedTakes
mod Looked
mod OpenSound
mod Opened
mod Passed
mod Removing
mod Requests
mod Rest
mod StagedTakes
mod Standing
mod Straying
mod Tended
mod Unrefused
mod Untouched
pub mod ActCall
pub mod ActOn
pub mod ActSource
pub mod ActingNext
pub mod Alike
pub mod AppendCall
pub mod AppendTold
pub mod Appended
pub mod AroundCall
pub mod ClearedNotes
pub mod ClearedStore
pub mod AsideFiles
pub mod AskCall
pub mod BatchFollows
pub mod BegunParts
pub mod Calls
pub mod ClosedParts
pub mod CommitCall
pub mod Committed
pub mod CopyCall
pub mod DrawnNumbers
pub mod Due
pub mod FileNames
pub mod FirstParts
pub mod Fitting
pub mod FoldMarks
pub mod FoldSound
pub mod Found
pub mod GiftCall
pub mod GiftTold
pub mod GiftWorld
pub mod GiveAs
pub mod GiveCall
pub mod GivenFiles
pub mod GivenKept
pub mod Grown
pub mod HeldCall
pub mod HexDigits
pub mod KeyLookups
pub mod Known
pub mod Listed
pub mod MadeReady
pub mod MarkCall
pub mod Marked
pub mod Marks
pub mod Mirrors
pub mod NameLaws
pub mod NoteNames
pub mod NumberNames
pub mod Numbered
pub mod Offering
pub mod OneEntry
pub mod OneRecord
pub mod OpenCall
pub mod OpenTold
pub mod OpenedNodes
pub mod Openings
pub mod OtherFiles
pub mod OutboundCalls
pub mod OutboundSteps
pub mod PartOpened
pub mod PartRecord
pub mod Places
pub mod PlanLemmas
pub mod Positive
pub mod PutCall
pub mod PutSound
pub mod Puts
pub mod QueueCall
pub mod QueueKeeps
pub mod QueueTold
pub mod Quiet
pub mod ReadCall
pub mod ReadKeys
pub mod Receipts
pub mod RecordCall
pub mod RecordTold
pub mod Recorded
pub mod Recovering
pub mod RefuseCall
pub mod ReplacedParts
pub mod SettleCall
pub mod StageCall
pub mod StillKept
pub mod Syncing
pub mod TakeCall
pub mod TakeSteps
pub mod TakeWorld
pub mod TellAlike
pub mod WaitingFiles
pub mod WaitingRequests
pub mod Walked
