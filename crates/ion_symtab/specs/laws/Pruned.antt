-- Open content of a local symbol table changes no context.
use Rattle.std.proofs.Common.{◌≡◌, ℕ, List, [], ◌∷◌, Bool, true, false, cond, Option, Some, None, Result, Ok, Err, codes, refl, ap, sym, ◌∙◌}
use Rattle.std.specs.Prelude.{◌||◌, if◌then◌else◌}
use Rattle.std.specs.Str.{bytes_eq}
use Rattle.ion_symtab.specs.Names.Below.{Field, Layer, Payload, Payload-F, Reason, Value, has_text, out-Payload, values_of}
use Rattle.ion_symtab.specs.Fields.{at_most_one, only}
use Rattle.ion_symtab.specs.Next.{and_then, base, extended, next, next_fields, next_layer}
use Rattle.ion_symtab.specs.Slots.{Slot}
use Rattle.ion_symtab.specs.Tables.{Table}
use Rattle.ion_model.specs.declared.value.Payload.TheViews.{outs-Fields}
use Rattle.ion_visiting.specs.Skims.{counted_fields, counts_in_table, pruned, pruned_payload}

or_true : (b : Bool) → (b || true) ≡ true
or_true true = refl
or_true false = refl

imports_count : (s : Option (List ℕ)) → has_text (codes "imports") s ≡ true → counts_in_table s ≡ true
imports_count None h = absurd cc
imports_count (Some t) h = ap (λ b. b || bytes_eq t (codes "symbols")) h

symbols_count : (s : Option (List ℕ)) → has_text (codes "symbols") s ≡ true → counts_in_table s ≡ true
symbols_count None h = absurd cc
symbols_count (Some t) h = ap (λ b. bytes_eq t (codes "imports") || b) h ∙ or_true (bytes_eq t (codes "imports"))

-- a field that is left out has another name
left_out : (v : Value) (vs : List Value) (named : Bool) → (named ≡ true → false ≡ true) → vs ≡ (if named then v ∷ vs else vs)
left_out v vs true k = let e : false ≡ true = k refl in absurd cc
left_out v vs false k = refl

one_counted : (name : List ℕ) (f : Field) (fs : List Field) (c : Bool) → (has_text name f.name ≡ true → c ≡ true)
    → values_of name (cond c (f ∷ fs) fs) ≡ (if has_text name f.name then f.value ∷ values_of name fs else values_of name fs)
one_counted name f fs true k = refl
one_counted name f fs false k = left_out f.value (values_of name fs) (has_text name f.name) k

values_counted : (name : List ℕ) → ((s : Option (List ℕ)) → has_text name s ≡ true → counts_in_table s ≡ true) → (fs : List Field)
    → values_of name (counted_fields fs) ≡ values_of name fs
values_counted name k [] = refl
values_counted name k (f ∷ fs) =
    one_counted name f (counted_fields fs) (counts_in_table f.name) (k f.name)
    ∙ ap (λ vs. if has_text name f.name then f.value ∷ vs else vs) (values_counted name k fs)

fields_next : (slots : List Slot) (tables : List Table) (fs : List Field) → next_fields slots (counted_fields fs) tables ≡ next_fields slots fs tables
fields_next slots tables fs =
    ap (λ vs. and_then (at_most_one vs) (λ imports.
    and_then (only (codes "symbols") (counted_fields fs)) (λ symbols.
    extended tables (base slots imports) imports symbols))) (values_counted (codes "imports") imports_count fs)
    ∙ ap (λ vs. and_then (only (codes "imports") fs) (λ imports.
    and_then (at_most_one vs) (λ symbols.
    extended tables (base slots imports) imports symbols))) (values_counted (codes "symbols") symbols_count fs)

layer_next : (slots : List Slot) (tables : List Table) (d : Layer) (p : Payload) → out-Payload p ≡ d
    → next_layer slots (out-Payload (pruned_payload d p)) tables ≡ next_layer slots d tables
layer_next slots tables (Payload-F.Fields fs) p e = ap (λ x. next_layer slots x tables) (outs-Fields (counted_fields fs)) ∙ fields_next slots tables fs
layer_next slots tables _ p e = ap (λ x. next_layer slots x tables) e

-- behind a table without its open content the context is the same
pub next_pruned : (slots : List Slot) (v : Value) (tables : List Table) → next slots (pruned v) tables ≡ next slots v tables
unfolding next
next_pruned slots v tables = layer_next slots tables (out-Payload v.payload) v.payload refl
