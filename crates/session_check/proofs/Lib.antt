pub mod KnownLemmas
pub mod CallLemmas
pub mod CollectLemmas
pub mod HistoryLemmas
