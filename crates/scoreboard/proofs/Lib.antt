pub mod WalkLemmas
pub mod DeliveredLemmas
pub mod Facts
