pub mod SdcWords
pub mod Outcomes
pub mod Demands
