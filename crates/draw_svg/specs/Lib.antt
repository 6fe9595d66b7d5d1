pub mod Content
pub mod Layout
pub mod Bars
pub mod Marks
pub mod Frame
pub mod Parts
pub mod Svg
pub mod Style
