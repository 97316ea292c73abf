-- What is proved of repair: chains, what repair does to a state, and to tables.
pub mod ChainLaws
pub mod StateLaws
pub mod TablesLaws
pub mod ExamplesComputed
