-- Lists of tokens in the same octets, and what stands behind a token.
--
-- Walks: tokens that are read without a refusal
-- Compare: of two lists one is the front of the other
--   Once: so whole pieces have one list of values (laws::one_shown)
-- Alone: whole pieces are a document by themselves (laws::whole_pieces)
-- Cuts: where tokens end in octets, and what may stand behind
--   Closing: `::` or `''` may; Exacts: what the octets since the last token say; Inside: up to where a container closes
-- Firsts, Froms: with what an open item begins, and where
-- Stays: its tokens lead the reader of tokens to where it stands
pub mod Cuts
pub mod Walks
pub mod Compare
pub mod Once
pub mod Inside
pub mod Firsts
pub mod Froms
pub mod Stays
pub mod Exacts
pub mod Alone
pub mod Closing
