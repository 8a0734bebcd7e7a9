pub mod ThresholdField
