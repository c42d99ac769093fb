mod Zipped
mod Pasts
mod EntryGraphs
mod Goes
mod Called
mod Delivered
mod Next
mod Begins
mod ByName
mod Lasts
mod Worlds
mod Crafting
mod RunEntries
mod RunsOfReplays
mod KeptLines
mod PremiseLaws
mod NamesMore
mod WrittenLines
pub mod WalkLaws
pub mod ReportText
mod Accounts
mod Gathered
mod StepLaws
pub mod EntryCalls
pub mod Passing
mod ShownSteps
mod Numbered
