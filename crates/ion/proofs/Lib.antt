mod Fronts
mod Nexts
mod Snoc
