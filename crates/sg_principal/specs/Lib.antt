pub mod Outside
pub mod Runs
pub mod Ledgers
pub mod Serves
pub mod Laws
pub mod Model
