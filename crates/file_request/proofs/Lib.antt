mod FilesByName
pub mod OneLine
