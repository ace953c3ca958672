pub mod Cuts
pub mod Gathering
pub mod BatchLaws
pub mod Walks
pub mod FileLoops
