-- What is read is small beside its octets, and so is what is kept.
--
-- Small: a value has at most as many nodes as octets came since the value before it (laws::reading_is_small)
--   Sizes: at most as many as tokens
--   Lengths: each token has octets
-- Nodes: the same of the grammar (laws::values_are_small)
-- Apart: and of whole pieces with the value and without it
-- Bounded: no more octets are kept than an item may have
pub mod Sizes
pub mod Lengths
pub mod Small
pub mod Nodes
pub mod Bounded
pub mod Apart
