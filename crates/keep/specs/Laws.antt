-- What the tests for keep-off masks say.
pub mod Rest
pub mod Same
pub mod Marked
pub mod Spoilt
