-- What a repriced action can do, and what the calls return; Laws proves it, and Cases computes document 01's policy repriced.
pub mod Reprices
pub mod Call
pub mod Laws
pub mod Cases
