pub mod Ranges
pub mod Views
pub mod Shapes
pub mod Pasts
pub mod Uniting
pub mod Moments
pub mod Resting
pub mod Lists
