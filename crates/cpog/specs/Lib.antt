pub mod Graphs
pub mod Refusals
pub mod Actions
pub mod Projections
