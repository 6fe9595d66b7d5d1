pub mod Stages
pub mod Automaton
pub mod Scans
pub mod Calls
pub mod Settings
pub mod Sound
