pub mod CommitmentLaws
pub mod FrameLaws
pub mod ItemLaws
pub mod KeyLaws
pub mod MeansLaws
