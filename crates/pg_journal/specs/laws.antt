-- Laws of what the definitions beside this folder speak of.
pub mod Looking
pub mod Recovered
pub mod PageRuns
