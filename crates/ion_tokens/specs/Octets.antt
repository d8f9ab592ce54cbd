-- Classes of octets (Ion 1.0, "Ion Text Encoding").
use Rattle.std.specs.Prelude.{ℕ, ◌+◌, ◌-◌, ◌==◌, Bool, ◌&&◌, ◌||◌, List, if◌then◌else◌, nat_le, codes, Option, Some, None}
use Rattle.std.specs.List.{list_any}
use Rattle.ion_tokens.specs.Ascii.{nul, bell, backspace, tab, line_feed, vertical_tab, form_feed, carriage_return, space, dollar, digit_0, digit_9, upper_a, upper_f, upper_z, underscore, lower_a, lower_b, lower_f, lower_n, lower_r, lower_t, lower_v, lower_z}

-- one of these octets
abbrev pub among : List ℕ → ℕ → Bool
among set o = list_any (λ x. o == x) set

-- tab, LF, VT, FF, CR, space
abbrev pub is_white : ℕ → Bool
is_white o = (nat_le tab o && nat_le o carriage_return) || (o == space)

-- LF, CR
abbrev pub is_line_end : ℕ → Bool
is_line_end o = (o == line_feed) || (o == carriage_return)

-- `0` to `9`
abbrev pub is_digit : ℕ → Bool
is_digit o = nat_le digit_0 o && nat_le o digit_9

-- `A` to `Z`
abbrev pub is_upper : ℕ → Bool
is_upper o = nat_le upper_a o && nat_le o upper_z

-- `a` to `z`
abbrev pub is_lower : ℕ → Bool
is_lower o = nat_le lower_a o && nat_le o lower_z

-- a letter of ASCII, in upper or lower case
abbrev pub is_letter : ℕ → Bool
is_letter o = is_upper o || is_lower o

-- a letter, `_` or `$`
abbrev pub begins_word : ℕ → Bool
begins_word o = is_letter o || (o == underscore) || (o == dollar)

-- a letter, `_`, `$` or a digit
abbrev pub is_word_octet : ℕ → Bool
is_word_octet o = begins_word o || is_digit o

-- a character of operators
abbrev pub is_operator_octet : ℕ → Bool
is_operator_octet o = among (codes "!#%&*+-./;<=>?@^`|~") o

-- what ends a number, beside a comment
abbrev pub is_stop : ℕ → Bool
is_stop o = among (codes "{}[](),\"'") o || is_white o

-- the alphabet of base64 and its padding
abbrev pub is_base64 : ℕ → Bool
is_base64 o = is_letter o || is_digit o || among (codes "+/=") o

-- the number that a hexadecimal digit stands for, in upper or lower case
abbrev pub hexadecimal_digit : ℕ → Option ℕ
hexadecimal_digit o =
    if is_digit o then Some (o - digit_0)
    else (if nat_le upper_a o && nat_le o upper_f then Some (o - upper_a + 10)
    else (if nat_le lower_a o && nat_le o lower_f then Some (o - lower_a + 10)
    else None))

-- a letter behind a backslash, and the octet that it means
abbrev pub escaped : ℕ → Option ℕ
escaped o =
    if o == digit_0 then Some nul else (if o == lower_a then Some bell else (if o == lower_b then Some backspace
    else (if o == lower_t then Some tab else (if o == lower_n then Some line_feed else (if o == lower_f then Some form_feed
    else (if o == lower_r then Some carriage_return else (if o == lower_v then Some vertical_tab
    else (if among (codes "\"'?\\/") o then Some o else None))))))))
