pub mod Books
pub mod Entries
