pub mod Cases
pub mod Statements
pub mod Printed
