pub mod EndLemmas
pub mod TakeLemmas
pub mod CauseLemmas
pub mod FitLemmas
