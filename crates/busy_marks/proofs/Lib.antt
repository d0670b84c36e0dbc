mod Runs
mod MarkLemmas
mod NoteLemmas
mod UndoLemmas
mod ClearLemmas
