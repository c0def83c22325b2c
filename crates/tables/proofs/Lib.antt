pub mod HintLemmas
pub mod QueueLemmas
pub mod RisingLemmas
pub mod TableLemmas
