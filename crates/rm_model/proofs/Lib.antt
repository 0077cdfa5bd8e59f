pub mod ExampleSettings
mod Examples
mod JudgementExamples
pub mod Next
pub mod Tables
pub mod Members
pub mod Finite
pub mod UpTo
pub mod Rows
pub mod Alike
pub mod Accepted
