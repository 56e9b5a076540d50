pub mod Naming
pub mod Failures
pub mod Records
