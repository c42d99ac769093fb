pub mod VariableLaws
mod Rows
