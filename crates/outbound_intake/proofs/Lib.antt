pub mod AskLemmas
pub mod FaultLemmas
pub mod FileLemmas
pub mod FolderLemmas
pub mod MarkLemmas
pub mod TakeLemmas
