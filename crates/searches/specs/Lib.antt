pub mod Clashes
pub mod Cycles
pub mod Walks
