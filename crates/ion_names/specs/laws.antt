-- What follows of names that have others behind them.
pub mod Later
