pub mod File
pub mod Outside
pub mod Top
pub mod Laws
