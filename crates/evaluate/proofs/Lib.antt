pub mod Holding
pub mod Renaming
pub mod Few
pub mod Freshness
pub mod Bounded
pub mod Worked
pub mod Numbers
