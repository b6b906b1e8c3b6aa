-- Tests of every number or entry, how many pass one, and lists made from values or filled up; Laws says what follows.
pub mod Every
pub mod Counted
pub mod Lists
pub mod Laws
