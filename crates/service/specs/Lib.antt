-- What the functions promise.
pub mod Admission
pub mod Serving
