pub mod FoundWord
