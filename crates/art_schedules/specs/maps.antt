-- That serial schedules of a tree do what the map does.
pub mod Ends
