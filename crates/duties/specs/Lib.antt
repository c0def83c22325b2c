pub mod CreditCounts
pub mod HostTables
pub mod Lending
pub mod StrictTables
pub mod Targets
