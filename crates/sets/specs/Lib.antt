pub mod Counting
pub mod Members
pub mod Chains
pub mod Rows
