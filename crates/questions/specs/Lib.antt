pub mod Opcodes
pub mod Outcomes
pub mod Formed
pub mod Checks
