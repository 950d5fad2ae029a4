pub mod SearchedKeys
pub mod KeysOfWords
