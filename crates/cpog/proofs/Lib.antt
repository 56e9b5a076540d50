pub mod Counted
pub mod Ordered
