pub mod Filling
pub mod Atonce
pub mod Fitting
pub mod Stepping
pub mod Telling
pub mod Walking
pub mod Reading
pub mod Lined
