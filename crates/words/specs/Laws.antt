-- The words that are worked are those of the definition.
pub mod Worked
pub mod Wanted
pub mod Known
pub mod Alike
pub mod Props
