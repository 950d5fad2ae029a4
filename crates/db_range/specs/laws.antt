-- Laws of the places of a catalogue's rows.
pub mod Filings
