-- The octets of a local symbol table, part by part.
use Rattle.std.proofs.Common.{◌≡◌, ℕ, List, ◌∷◌, [], ◌++◌, map, Option, refl, append-nil}
use Rattle.std.specs.List.{flat_map}
use Rattle.ion_binary.specs.Names.{Names, bare, framed, id_of, name_text, named_octets, string_value, table_value, uint_octets, value_octets, var_uint_octets, with_count}
use Rattle.ion_model.specs.declared.value.Payload.TheVariants as payloads
use Rattle.ion_model.specs.declared.value.Payload.TheViews as views
use Rattle.ion_binary.specs.laws.writing.Output.{octets-out}
use Rattle.ion_binary.specs.laws.writing.TableWritten.{imports_word, symbols_word, table_fields, table_word}

string_octets : (names : Names) (s : Option (List ℕ)) → value_octets names (string_value s) ≡ framed 8 (name_text s)
string_octets names s = rw (octets-out names (string_value s), views.outs-Str (name_text s)) refl

strings_octets : (names more : Names) → flat_map (value_octets names) (map string_value more) ≡ flat_map (λ s. framed 8 (name_text s)) more
strings_octets names [] = refl
strings_octets names (s ∷ more) = rw (string_octets names s, strings_octets names more) refl

imports_octets : (names : Names) → value_octets names (bare (payloads.Symbol table_word)) ≡ framed 7 (uint_octets (id_of names table_word))
imports_octets names = rw (octets-out names (bare (payloads.Symbol table_word)), views.outs-Symbol table_word) refl

symbols_octets : (names more : Names) → value_octets names (bare (payloads.List (map string_value more)))
    ≡ framed 11 (flat_map (λ s. framed 8 (name_text s)) more)
symbols_octets names more =
    rw (octets-out names (bare (payloads.List (map string_value more))), views.outs-List (map string_value more), strings_octets names more) refl

-- the octets of a table behind what names the context so far
pub table_is : (names more : Names) (base : ℕ) → base ≡ id_of names table_word → value_octets names (table_value more)
    ≡ framed 14 (with_count (var_uint_octets base) ++ framed 13
    (named_octets names imports_word (framed 7 (uint_octets base))
    ++ named_octets names symbols_word (framed 11 (flat_map (λ s. framed 8 (name_text s)) more))))
table_is names more base e =
    let symbols = value_octets names (bare (payloads.List (map string_value more))) in
    rw (
      octets-out names (table_value more),
      views.outs-Fields (table_fields more),
      append-nil (var_uint_octets (id_of names table_word)),
      append-nil (named_octets names symbols_word symbols),
      imports_octets names,
      symbols_octets names more,
      e,
    ) refl
