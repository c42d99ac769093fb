pub mod FaultText
pub mod Model
pub mod KeyFile
pub mod Names
pub mod Words
