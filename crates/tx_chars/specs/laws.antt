pub mod AsciiKeys
pub mod KeyLimit
pub mod ScalarKeys
