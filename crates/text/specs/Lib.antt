-- What putting a text into a buffer does, and handing out texts one at a time; Laws says what follows.
pub mod Put
pub mod Handing
pub mod Laws
