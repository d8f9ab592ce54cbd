-- Octets up to one that is refused show the values given before it, and no document begins with them (laws::reading_refuses).
--
-- Refusing: what they show
--   Chains: what waited is settled before the octet, which comes again, up to what refuses it
--     Halts: what stands for the octets before it then, and what refuses it there
--   Halting: the whole pieces in front of it and of what follows
--     Ahead: it goes on with nothing that waits
--   no whole pieces go on behind the tokens told before it
--     Stuck: where no item is open; Unended: where one is
--     Awaited: where something waits, by what the octet shows of it (Told)
pub mod Halts
pub mod Chains
pub mod Ahead
pub mod Halting
pub mod Stuck
pub mod Unended
pub mod Told
pub mod Awaited
pub mod Refusing
