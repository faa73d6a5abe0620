pub mod Odc
