-- What the functions over records cite beside the rules of damage themselves.
pub mod RecordKeeping
