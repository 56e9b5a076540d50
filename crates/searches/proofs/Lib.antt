pub mod Clashing
pub mod Finding
pub mod Walking
