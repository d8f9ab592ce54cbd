-- The definition of the descriptors is the table.
use Rattle.std.proofs.Common.{◌≡◌, ℕ, ◌+◌, ◌*◌, ◌/◌, ◌%◌, ◌<◌, ◌∙◌, Ok, cond, eqb, refl, arith}
use Rattle.std.proofs.lemmas.Bool.{ne_eqb}
use Rattle.ion_scalar.specs.Names.{Body, Null, descriptor_of, kind, size, typed}
use Rattle.ion_scalar.specs.binary.laws.DescriptorRows.{HasBody, IsTable, says}

row : (tag length : ℕ) → length < 16 → says tag length ≡ typed tag length
unfolding descriptor_of
row tag length h =
    let high : (tag * 16 + length) / 16 ≡ tag = omega arith in
    let low : (tag * 16 + length) % 16 ≡ length = omega arith in
    rw (high, low) refl

has_body : (tag : ℕ) → ((length : ℕ) → typed tag length ≡ cond (eqb length 15) (Ok (Null (kind tag))) (Ok (Body tag (size length)))) → HasBody tag
has_body tag e = record {
  known = λ length h. row tag length (omega arith) ∙ (e length ∙ rw (ne_eqb length 15 (λ e. omega arith), ne_eqb length 14 (λ e. omega arith)) refl);
  follows = row tag 14 (omega arith) ∙ e 14;
}

-- each row of the table holds of the descriptors
pub table : IsTable
unfolding descriptor_of
table = record {
  pad = λ length h. row 0 length (omega arith) ∙ rw (ne_eqb length 15 (λ e. omega arith), ne_eqb length 14 (λ e. omega arith)) refl;
  long_pad = refl;
  null = refl;
  truth_false = refl;
  truth_true = refl;
  no_truth = λ length h k. row 1 length (omega arith) ∙ rw (
    ne_eqb length 15 (λ e. omega arith),
    ne_eqb length 0 (λ e. omega arith),
    ne_eqb length 1 (λ e. omega arith),
  ) refl;
  null_bool = refl;
  int = has_body 2 (λ _. refl);
  null_int = refl;
  negative_int = has_body 3 (λ _. refl);
  null_negative_int = refl;
  float_none = refl;
  float_four = refl;
  float_eight = refl;
  no_float = λ length h a b c. row 4 length (omega arith) ∙ rw (ne_eqb length 15 (λ e. omega arith), ne_eqb length 0 a, ne_eqb length 4 b, ne_eqb length 8 c)
      refl;
  null_float = refl;
  decimal = has_body 5 (λ _. refl);
  null_decimal = refl;
  timestamp = has_body 6 (λ _. refl);
  null_timestamp = refl;
  symbol = has_body 7 (λ _. refl);
  null_symbol = refl;
  string = has_body 8 (λ _. refl);
  null_string = refl;
  clob = has_body 9 (λ _. refl);
  null_clob = refl;
  blob = has_body 10 (λ _. refl);
  null_blob = refl;
  list = has_body 11 (λ _. refl);
  null_list = refl;
  sexp = has_body 12 (λ _. refl);
  null_sexp = refl;
  struct_empty = refl;
  struct_ordered = refl;
  struct = λ length h k. row 13 length (omega arith) ∙ rw (
    ne_eqb length 15 (λ e. omega arith),
    ne_eqb length 1 (λ e. omega arith),
    ne_eqb length 14 (λ e. omega arith),
  ) refl;
  long_struct = refl;
  null_struct = refl;
  marker = refl;
  short_wrapper_one = refl;
  short_wrapper_two = refl;
  wrapper = λ length h k. row 14 length (omega arith) ∙ rw (
    ne_eqb length 0 (λ e. omega arith),
    ne_eqb length 1 (λ e. omega arith),
    ne_eqb length 2 (λ e. omega arith),
    ne_eqb length 15 (λ e. omega arith),
    ne_eqb length 14 (λ e. omega arith),
  ) refl;
  long_wrapper = refl;
  null_wrapper = refl;
  none = λ length h. row 15 length h;
}
