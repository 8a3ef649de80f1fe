pub mod Performing
pub mod Running
pub use Rattle.records.specs.Records
pub use Rattle.records.specs.Reading
pub use Rattle.records.specs.Encoding
pub use Rattle.lines.specs.Printing
