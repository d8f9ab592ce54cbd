-- What tokens say that lie whole in a piece, for a reader that holds no values.
use Rattle.std.specs.Prelude.{IfSome}
use Rattle.std.proofs.Common.{◌≡◌, ℕ, Bool, true, false, List, Option, Some, Ok, refl, ap, sym, subst}
use Rattle.ion_text.specs.Names.{BeginsName, BeginsValue, Content, FoundNumber, FoundPart, FoundSymbol, FoundToken, Held, Id, IsValue, NameThere, Number, Number', Payload, Place, Rest, SaysThere, Scalar, Slot, Stage, TokenKind, WaitsThere, at, goes, held_of, held_payload, id_of, is_marker, keyed, number_payload, resolve, resolved, said, spot_at, takes_colon, word_said}
use Rattle.ion_text.proofs.Symbols.{held_in, name_colon, names_so, symbol_colon, waits_so}

-- a part that was found is such a value
pub part_begins : (w : Bool) (p : Place) (r : Rest) (octets : List ℕ) (s : Scalar) (payload : Payload) → FoundPart p r octets s payload → s.waits ≡ w
    → BeginsValue w p r octets s.token payload
part_begins w p r octets s payload f e =
    let t = f.token in
    record {
      kept = t.kept;
      content = t.content;
      found = t.found;
      says = t.says;
      is = subst (λ q. IsValue w t.content q) f.is (subst (λ b. IsValue b t.content t.payload) e t.is);
    }

-- so is what a token says
abbrev pub says_part : (p : Place) (r : Rest) (octets : List ℕ) (s : Scalar) (c : Content) (payload : Payload) → SaysThere p r octets s.token c
    → IsValue s.waits c payload → FoundPart p r octets s payload
says_part p r octets s c payload x is =
    record { token = record { kept = x.kept; content = c; payload = payload; found = x.found; says = x.says; is = is }; is = refl }

-- so is a number
pub number_begins : (p : Place) (r : Rest) (octets : List ℕ) (token : FoundToken) (n : Number) → FoundNumber p r octets token n
    → BeginsValue false p r octets token (number_payload n)
number_begins p r octets token n f =
    record { kept = f.kept; content = Number' n; found = f.found; says = f.says; is = λ setting spot fs ss. refl }

-- what may be an annotation waits for `::`
module _ (slots : List Slot) (p : Place) (r : Rest) (octets : List ℕ) (token : FoundToken) (payload : Payload) where
  pub begins_waits : (b : BeginsValue true p r octets token payload) → (held : Held) × WaitsThere slots p r octets token held
      × (held_payload held ≡ Ok payload) × (held_of b.content ≡ Some held)
  begins_waits b =
      let pays = held_in (held_of b.content) payload b.is in (
        pays.0,
        record {
          content = b.content;
          there = record { kept = b.kept; found = b.found; says = b.says };
          may = symbol_colon p token.kind b.kept b.content pays.0 b.says pays.1;
          waits = λ setting end start fs ss. waits_so setting (spot_at end start slots) fs ss b.content pays.0 pays.1;
        },
        pays.2,
        pays.1,
      )

-- a symbol, null or truth, which is no version marker
pub symbol_waits : (slots : List Slot) (p : Place) (r : Rest) (octets : List ℕ) (s : Scalar) (payload : Payload) → FoundSymbol p r octets s payload
    → (held : Held) × WaitsThere slots p r octets s.token held × (held_payload held ≡ Ok payload) × (is_marker held ≡ false)
symbol_waits slots p r octets s payload f =
    let t = f.part.token in
    let x = begins_waits slots p r octets s.token payload (record {
      kept = t.kept;
      content = t.content;
      found = t.found;
      says = t.says;
      is = subst (λ q. IsValue true t.content q) f.part.is (subst (λ b. IsValue b t.content t.payload) f.waits t.is);
    }) in
    (x.0, x.1, x.2, subst (λ o. IfSome o (λ h. is_marker h ≡ false)) x.3 f.free)

-- a field's name that is no id
pub begins_name : (slots : List Slot) (r : Rest) (octets : List ℕ) (token : FoundToken) (name : Option (List ℕ))
    → BeginsName Place.Name r octets token name → NameThere slots r octets token name
begins_name slots r octets token name b = record {
  content = b.content;
  there = record { kept = b.kept; found = b.found; says = b.says };
  may = name_colon Place.Name token.kind b.kept b.content name b.says b.names refl;
  names = λ setting end start fs. names_so setting (spot_at end start slots) fs b.content name b.names;
}

-- what a symbol's id says
pub id_said : (w : List ℕ) (id : ℕ) → Some id ≡ id_of w → said TokenKind.Word w ≡ Ok (Id id)
unfolding said
id_said w id e = ap (word_said w) (sym e)

-- a symbol's id
module _ (slots : List Slot) (r : Rest) (octets : List ℕ) (token : FoundToken) (id : ℕ) (s : Option (List ℕ)) (word : token.kind ≡ TokenKind.Word)
    (is : resolve slots id ≡ Ok s) where
  pub id_waits : (p : Place) → SaysThere p r octets token (Id id) → WaitsThere slots p r octets token (Held.Symbol s)
  id_waits p x = record {
    content = Id id;
    there = x;
    may = ap (takes_colon p) word;
    waits = λ setting end start fs ss. ap (λ k. resolved k (λ s. goes (at start slots fs ss (Stage.Pending (Held.Symbol s) end)))) is;
  }

  pub id_names : SaysThere Place.Name r octets token (Id id) → NameThere slots r octets token s
  id_names x = record {
    content = Id id;
    there = x;
    may = ap (takes_colon Place.Name) word;
    names = λ setting end start fs. ap (λ k. resolved k (λ s. goes (keyed start slots fs s))) is;
  }
