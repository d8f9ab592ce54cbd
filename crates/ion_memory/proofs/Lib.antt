mod Memory
mod Ended
mod Nothing
mod Faults
