pub mod FirstIndex
pub mod Growth
pub mod ModelLaws
pub mod Leaving
pub mod Left
pub mod Lines
pub mod Rising
pub mod Sets
