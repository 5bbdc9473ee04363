pub mod Results
pub mod Known
