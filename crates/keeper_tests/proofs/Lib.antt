pub mod WellChanges
