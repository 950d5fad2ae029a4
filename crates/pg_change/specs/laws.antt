-- Laws of what a batch makes of a store's pages and of its directory.
pub mod KeyEdits
pub mod FreeCounts
pub mod Lengths
pub mod OnePlace
pub mod BatchCommits
pub mod Commits
pub mod DirectoryImages
pub mod Made
pub mod Next
pub mod DirectorySteps
pub mod Rebuilding
pub mod BatchWindows
pub mod Resting
pub mod Batches
