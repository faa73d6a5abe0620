pub mod DigitLaws
pub mod Cases
