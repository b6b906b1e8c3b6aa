-- The lines read their texts and no others; how long a text is; and a record with zeros past its counts has the same text and
-- answers.
pub mod Reads
pub mod Numbers
pub mod Lines
pub mod Lists
pub mod Records
pub mod Policies
pub mod Asked
pub mod Lengths
pub mod Size
pub mod Cleared
pub mod Lookups
pub mod Stated
