-- Laws of tests, of counts, of what holds of every entry, of lists that are made, and of sums.
pub mod Tests
pub mod Counted
pub mod All
pub mod Tables
pub mod Lists
pub mod Totals
