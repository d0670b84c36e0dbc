mod Acts
mod Agreeing
mod Canonical
mod Changing
mod FoldAll
pub mod FoldMore
mod FoldSpelled
mod Folding
mod Fronts
mod Holds
mod Homes
mod Joining
mod Lengthening
mod Lengths
mod Mapped
pub mod OrderFold
mod OrderLemmas
mod Planning
pub mod ReadBack
mod Spelled
mod Starting
mod Differing
mod Waits
