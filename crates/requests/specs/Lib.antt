-- What the contracts of the requests cite.
pub mod Requests
