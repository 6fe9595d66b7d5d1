-- The points of scans of the optimistic tree: a moment at which an answered scan is answered by the map that calm means.
pub mod ScanPoints
