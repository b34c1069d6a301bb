pub mod Verdicts
pub mod Shown
pub mod Scripts
pub mod ScriptLaws
