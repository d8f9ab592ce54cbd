mod Spells
mod Writes
mod Owing
