pub mod Ends
pub mod Meaning
pub mod Naming
pub mod Steps
pub mod Trees
