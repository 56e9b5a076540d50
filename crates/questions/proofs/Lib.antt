pub mod Coming
pub mod Counts
pub mod Firsts
pub mod Forming
pub mod Judging
