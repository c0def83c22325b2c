pub mod Cases
pub mod CutBack
pub mod Left
pub mod Long
