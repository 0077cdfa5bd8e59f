pub mod CostLemmas
pub mod RunLemmas
pub mod LaidLemmas
pub mod StepLemmas
