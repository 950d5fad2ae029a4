pub mod ItemReads
pub mod LongPages
pub mod SheetReads
pub mod StringEnds
