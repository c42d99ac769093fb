pub mod ListLaws
pub mod NameLaws
pub mod ScriptLaws
pub mod WholeLaws
