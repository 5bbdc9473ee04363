pub mod Alike
pub mod Beginnings
pub mod HistoryLaws
pub mod Laws
