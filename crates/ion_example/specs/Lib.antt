pub mod Strings
