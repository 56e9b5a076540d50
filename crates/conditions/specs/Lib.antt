pub mod Grammar
pub mod Letters
pub mod Nodes
pub mod Reading
pub mod Shown
pub mod Verdicts
