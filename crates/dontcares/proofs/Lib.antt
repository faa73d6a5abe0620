pub mod TableLaws
pub mod SdcLaws
pub mod Ready
