pub mod EntryLemmas
pub mod WatchLemmas
