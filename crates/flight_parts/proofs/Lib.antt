pub mod SetLemmas
pub mod HeldLemmas
pub mod Facts
