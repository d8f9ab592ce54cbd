-- Base64 of blobs (RFC 4648, section 4), with the padding required and unused bits 0.
use Rattle.std.specs.Prelude.{◌≡◌, ℕ, List, codes, true, Option}
use Rattle.ion_tokens.specs.Ascii.{equals}
pub use Rattle.ion_atoms.specs.Octets.{AreOctets}
use Rattle.base64.specs.Rfc4648.{encode}
use Rattle.base64.specs.Engines.{standard}
use Rattle.base64.specs.GeneralPurpose.{decoded_of}

-- the 64 symbols, by their values
abbrev pub alphabet : List ℕ
alphabet = codes "ABCDEFGHIJKLMNOPQRSTUVWXYZabcdefghijklmnopqrstuvwxyz0123456789+/"

-- the text that stands for these octets
abbrev pub base64_of : List ℕ → List ℕ
base64_of octets = encode alphabet equals true octets

-- the text stands for these octets
pub record IsBase64 (text octets : List ℕ) : Type 0 where
  pub octets_are : AreOctets octets
  pub spelled : text ≡ base64_of octets

-- the octets that a text stands for, if it stands for any
unfoldable pub blob_of : List ℕ → Option (List ℕ)
blob_of text = decoded_of standard text
