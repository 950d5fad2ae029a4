pub mod RisingKeys
