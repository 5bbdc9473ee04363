pub mod NamesApart
pub mod Nexts
pub mod Canonicals
pub mod Graphs
