-- The characters of ASCII that the text format names, as octets.
use Rattle.std.specs.Prelude.{ℕ}

-- NUL, which `\0` means
abbrev pub nul : ℕ
nul = 0

-- BEL, which `\a` means
abbrev pub bell : ℕ
bell = 7

-- BS, which `\b` means
abbrev pub backspace : ℕ
backspace = 8

-- HT, which `\t` means
abbrev pub tab : ℕ
tab = 9

-- LF, which `\n` means
abbrev pub line_feed : ℕ
line_feed = 10

-- VT, which `\v` means
abbrev pub vertical_tab : ℕ
vertical_tab = 11

-- FF, which `\f` means
abbrev pub form_feed : ℕ
form_feed = 12

-- CR, which `\r` means
abbrev pub carriage_return : ℕ
carriage_return = 13

-- SP, the first octet of ASCII that is no control character
abbrev pub space : ℕ
space = 32

-- `"`, around short strings and short clobs
abbrev pub double_quote : ℕ
double_quote = 34

-- `$`, with which symbol ids begin
abbrev pub dollar : ℕ
dollar = 36

-- `'`, around quoted symbols, and three of it around the segments of long strings
abbrev pub single_quote : ℕ
single_quote = 39

-- `(`, which opens an s-expression
abbrev pub open_parenthesis : ℕ
open_parenthesis = 40

-- `)`, which closes an s-expression
abbrev pub close_parenthesis : ℕ
close_parenthesis = 41

-- `*`, in the delimiters of block comments
abbrev pub asterisk : ℕ
asterisk = 42

-- `+`, the sign of `+inf`
abbrev pub plus : ℕ
plus = 43

-- `,`, between the items of lists and structs
abbrev pub comma : ℕ
comma = 44

-- `-`, the sign of negative numbers
abbrev pub minus : ℕ
minus = 45

-- `.`, between `null` and the name of a kind
abbrev pub dot : ℕ
dot = 46

-- `/`, with which comments begin
abbrev pub slash : ℕ
slash = 47

-- `0`, the first digit
abbrev pub digit_0 : ℕ
digit_0 = 48

-- `9`, the last digit
abbrev pub digit_9 : ℕ
digit_9 = 57

-- `:`, behind the names of fields, and two of it behind annotations
abbrev pub colon : ℕ
colon = 58

-- `=`, the padding of base64
abbrev pub equals : ℕ
equals = 61

-- `A`, the first letter in upper case
abbrev pub upper_a : ℕ
upper_a = 65

-- `F`, the last hexadecimal digit in upper case
abbrev pub upper_f : ℕ
upper_f = 70

-- `U`, before the eight digits of an escape
abbrev pub upper_u : ℕ
upper_u = 85

-- `Z`, the last letter in upper case
abbrev pub upper_z : ℕ
upper_z = 90

-- `[`, which opens a list
abbrev pub open_bracket : ℕ
open_bracket = 91

-- `\`, with which escapes begin
abbrev pub backslash : ℕ
backslash = 92

-- `]`, which closes a list
abbrev pub close_bracket : ℕ
close_bracket = 93

-- `_`, which words may have
abbrev pub underscore : ℕ
underscore = 95

-- `a`, the first letter in lower case
abbrev pub lower_a : ℕ
lower_a = 97

-- `b`, of the escape `\b`
abbrev pub lower_b : ℕ
lower_b = 98

-- `f`, the last hexadecimal digit in lower case, and of the escape `\f` and `inf`
abbrev pub lower_f : ℕ
lower_f = 102

-- `i`, the first letter of `inf`
abbrev pub lower_i : ℕ
lower_i = 105

-- `n`, of the escape `\n` and `inf`
abbrev pub lower_n : ℕ
lower_n = 110

-- `r`, of the escape `\r`
abbrev pub lower_r : ℕ
lower_r = 114

-- `t`, of the escape `\t`
abbrev pub lower_t : ℕ
lower_t = 116

-- `u`, before the four digits of an escape
abbrev pub lower_u : ℕ
lower_u = 117

-- `v`, of the escape `\v`
abbrev pub lower_v : ℕ
lower_v = 118

-- `x`, before the two digits of an escape
abbrev pub lower_x : ℕ
lower_x = 120

-- `z`, the last letter in lower case
abbrev pub lower_z : ℕ
lower_z = 122

-- `{`, which opens a struct, and two of it a blob or a clob
abbrev pub open_brace : ℕ
open_brace = 123

-- `}`, which closes a struct, and two of it a blob or a clob
abbrev pub close_brace : ℕ
close_brace = 125

-- DEL, the last octet of ASCII
abbrev pub delete : ℕ
delete = 127
