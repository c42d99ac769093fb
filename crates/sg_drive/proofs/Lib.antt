mod Extends
mod Drawn
mod Taking
mod Room
mod Turning
mod Stepping
mod Left
pub mod DrawnValues
mod BudgetLaws
mod BudgetOfTurns
mod Grouped
mod Turned
mod WholeRun
mod Counting
mod Written
