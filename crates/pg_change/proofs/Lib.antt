pub mod NotedEdits
pub mod Unmoved
pub mod BatchEnds
pub mod ImageSteps
mod Directories
pub mod BatchLoads
pub mod RestingSteps
pub mod Plans
mod DiskReads
