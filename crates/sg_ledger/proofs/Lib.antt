mod Blank
mod Images
pub mod Moments
mod OnceOverRuns
mod Refusals
mod Replay
mod SlotBySlot
mod Tears
