pub mod Views
pub mod Shapes
pub mod Keeping
pub mod Steps
pub mod Settled
pub mod Going
pub mod Answering
pub mod Table
