-- Trees in a table at rest: what the map has at a key, and what a change of one row makes of the map.
pub mod Children
pub mod Trees
