pub mod MomentLemmas
mod NameLemmas
pub mod TornLemmas
mod TwiceLemmas
