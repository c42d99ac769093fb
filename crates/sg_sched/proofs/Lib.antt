pub mod TextLaws
pub mod NamesLaws
pub mod SameBoth
pub mod NodeNames
pub mod PairLaws
pub mod FormatHeads
mod FormatLines
mod FormatCrafts
mod FormatFaults
mod FormatTexts
pub mod FormatWords
mod FormatForms
mod FormatFirst
pub mod FormatOnce
pub mod FormatPieces
pub mod FormatOne
pub mod FormatApart
pub mod FormatNotBoth
pub mod FormatPairOnce
pub mod ValueLaws
pub mod SplitLaws
pub mod RunLaws
pub mod FormLaws
pub mod NumberLaws
pub mod PartLaws
pub mod DeliverLaws
pub mod CompleteLaws
pub mod TakerLaws
pub mod ItemLaws
pub mod CraftLaws
pub mod CraftComplete
pub mod WholeCraft
pub mod LineLaws
pub mod IndexLaws
pub mod KeyAmong
