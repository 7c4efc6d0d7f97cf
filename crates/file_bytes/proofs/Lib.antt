pub mod Reading
pub mod Inverse
pub mod There
