pub mod Numbers
pub mod Near
