pub mod SlotBytes
pub mod NotedPlaces
pub mod SlotLists
