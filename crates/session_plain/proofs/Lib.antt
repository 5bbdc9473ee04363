pub mod ListLemmas
pub mod MarkLemmas
pub mod ChainLemmas
pub mod SettleLemmas
pub mod DefineLemmas
pub mod CallLemmas
pub mod PlaceLemmas
pub mod EmitLemmas
