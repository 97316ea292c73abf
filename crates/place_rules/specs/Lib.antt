-- What the functions over places cite beside the rules of damage themselves.
pub mod PlaceKeeping
