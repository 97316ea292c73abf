-- What boot hands out.
pub mod Held
