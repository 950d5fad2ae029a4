-- Laws of what this crate defines, and those that every crate needs of truth values, options, results, lists and orders, where the standard library has none.
pub mod Bools
pub mod Options
pub mod Results
pub mod Lists
pub mod Orders
pub mod SortedMaps
pub mod Names
pub mod Told
pub mod Moments
pub mod Zeros
