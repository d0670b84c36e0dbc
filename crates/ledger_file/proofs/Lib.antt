mod GateLemmas
mod OwnLemmas
mod Published
mod RecordLemmas
mod HeaderLemmas
mod LedgerLemmas
mod CountLemmas
mod ReadLemmas
mod OpenLemmas
pub mod ReadingLaw
