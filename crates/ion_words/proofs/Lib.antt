mod Commands
mod Found
mod Names
mod Numbers
