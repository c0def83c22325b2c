pub mod FreeLemmas
pub mod TableLemmas
