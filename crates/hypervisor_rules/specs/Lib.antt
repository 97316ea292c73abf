-- What the functions over domain 0 cite beside the rule of damage itself.
pub mod HypervisorKeeping
