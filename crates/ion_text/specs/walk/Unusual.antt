-- Tokens at the front of octets, in whatever form they stand.
use Rattle.std.specs.Prelude.{◌≡◌, ℕ, true, List, Option, Ok}
use Rattle.ion_text.specs.Names.Below.{Content, FoundToken, Frame, Held, IsFound, Place, Rest, Slot, Stage, said, takes_colon}
use Rattle.ion_model.specs.declared.value.Payload.TheVariants as payloads
use Rattle.ion_text.specs.machine.EachToken.{Setting, Symbols, at, goes, held_payload, keyed, on_name, on_ready, spot_at}

-- in this place octets begin with this token, which says this
pub record SaysThere (p : Place) (r : Rest) (octets : List ℕ) (token : FoundToken) (c : Content) : Type 0 where
  pub kept : List ℕ
  pub found : IsFound p r octets token.kind kept token.count token.left
  pub says : said token.kind kept ≡ Ok c

-- In this place octets begin with this token, which waits for `::` as this, where ids stand for these symbols.
pub record WaitsThere (slots : List Slot) (p : Place) (r : Rest) (octets : List ℕ) (token : FoundToken) (held : Held) : Type 0 where
  pub content : Content
  pub there : SaysThere p r octets token content
  pub may : takes_colon p token.kind ≡ true
  pub waits : (setting : Setting) (end start : ℕ) (fs : List Frame) (ss : Symbols) → on_ready setting (spot_at end start slots) fs ss content
      ≡ goes (at start slots fs ss (Stage.Pending held end))

-- the same of a symbol
pub record SymbolThere (slots : List Slot) (p : Place) (r : Rest) (octets : List ℕ) (token : FoundToken) (s : Option (List ℕ)) : Type 0 where
  pub held : Held
  pub there : WaitsThere slots p r octets token held
  pub is : held_payload held ≡ Ok (payloads.Symbol s)

-- octets begin with this token, which is this name of a field, where ids stand for these symbols
pub record NameThere (slots : List Slot) (r : Rest) (octets : List ℕ) (token : FoundToken) (name : Option (List ℕ)) : Type 0 where
  pub content : Content
  pub there : SaysThere Place.Name r octets token content
  pub may : takes_colon Place.Name token.kind ≡ true
  pub names : (setting : Setting) (end start : ℕ) (fs : List Frame) → on_name setting (spot_at end start slots) fs content ≡ goes (keyed start slots fs name)
