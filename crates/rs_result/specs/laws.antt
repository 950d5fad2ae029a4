-- Laws of lists in order, of the order of rows, and of counts.
pub mod Sorting
pub mod Orders
pub mod Counts
