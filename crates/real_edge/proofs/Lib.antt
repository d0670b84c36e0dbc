mod CopyLemmas
mod WrittenLemmas
