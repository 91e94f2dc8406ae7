pub mod Listed
pub mod Results
