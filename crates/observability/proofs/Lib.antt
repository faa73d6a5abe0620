pub mod OdcLaws
pub mod Words
