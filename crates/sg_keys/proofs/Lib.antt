pub mod Contacts
pub mod DocumentLaws
pub mod KeyFileLaws
pub mod SplitLaws
pub mod TableLaws
