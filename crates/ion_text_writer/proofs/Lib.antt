mod Appended
mod Transcribed
pub mod RawRuns
pub mod QuotedRuns
