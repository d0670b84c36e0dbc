pub mod Acknowledged
pub mod Courses
pub mod Laws
pub mod Machine
pub mod Reports
pub mod Resumption
pub mod Runs
pub mod Settled
