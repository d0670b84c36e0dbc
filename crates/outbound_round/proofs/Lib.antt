pub mod AskedLemmas
pub mod RoundLemmas
