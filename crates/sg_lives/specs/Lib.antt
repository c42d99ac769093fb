pub mod LedgerRuns
pub mod PlayedRuns
pub mod ServedRuns
