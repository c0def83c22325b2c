pub mod CaseLinesLaw
pub mod RecordLemmas
pub mod ChunkLemmas
pub mod SpelledLemmas
pub mod TakesLemmas
