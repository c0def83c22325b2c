pub mod TimeoutLemmas
mod RfcFacts
