pub mod Scanning
pub mod SortedPairs
pub mod ContentLaws
pub mod Keys
pub mod Undone
pub mod Courses
pub mod WellChanges
pub mod EachWell
