mod Options
mod Sums
