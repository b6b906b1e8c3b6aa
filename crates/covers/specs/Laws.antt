-- What the words of marks say, bit by bit.
pub mod Moved
pub mod Closed
pub mod Places
pub mod Marks
pub mod Slim
