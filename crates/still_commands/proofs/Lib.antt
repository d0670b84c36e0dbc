pub mod Before
pub mod Causes
pub mod KeptLists
pub mod KeptReceipts
