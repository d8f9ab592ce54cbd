-- What was written of a text between quotes, and what is left of it.
use Rattle.std.proofs.Common.{◌≡◌, ℕ, ◌+◌, ◌-◌, ◌<◌, ◌≤◌, true, false, List, [], ◌++◌, length, get_or, take, drop, length-drop, get_or-drop, append_assoc, append-nil, take_all, refl, arith}
use Rattle.std.proofs.lemmas.Bool.Decides.{nat_tests}
use Rattle.std.proofs.lemmas.List.{drop_more, take_more, drop_all}
use Rattle.ion_text_writer.specs.Names.{Quotes, escape, escaped_text, is_raw, of_symbol}
use Rattle.ion_text_writer.proofs.RawRuns.{raw_escape}

-- what is written of the octet at an index, and of what follows
escaped_drop : (q : Quotes) (s : List ℕ) (i : ℕ) → i < length s → escaped_text q (drop i s) ≡ escape q (get_or s i 0) ++ escaped_text q (drop (i + 1) s)
escaped_drop q s i h = rw (drop_more s i 0 h) refl

up_to : (a b : ℕ) → a ≤ b → a + (b - a) ≡ b
up_to a b h = omega arith

-- an octet that stands for itself joins the run of such octets
pub keep_octet : (q : Quotes) (s done total : List ℕ) (start i : ℕ) → start ≤ i → i < length s → is_raw q (get_or s i 0) ≡ true
    → done ++ (take (i - start) (drop start s) ++ escaped_text q (drop i s)) ≡ total
    → done ++ (take (i + 1 - start) (drop start s) ++ escaped_text q (drop (i + 1) s)) ≡ total
keep_octet q s done total start i low within raw whole =
    let at : get_or (drop start s) (i - start) 0 ≡ get_or s i 0 = rw (get_or-drop start s (i - start) 0, up_to start i low) in
    let more = take_more (drop start s) (i - start) 0 (omega (arith, length-drop start s)) in
    let next : i + 1 - start ≡ i - start + 1 = omega arith in
    rw (next, more, at) (simp append_assoc (rw (escaped_drop q s i within, raw_escape q (get_or s i 0) raw) at whole))

-- one that doesn't ends the run
pub escape_octet : (q : Quotes) (s done total : List ℕ) (start i : ℕ) → i < length s
    → done ++ (take (i - start) (drop start s) ++ escaped_text q (drop i s)) ≡ total
    → (done ++ (take (i - start) (drop start s) ++ escape q (get_or s i 0))) ++ (take (i + 1 - (i + 1)) (drop (i + 1) s) ++ escaped_text q (drop (i + 1) s))
    ≡ total
escape_octet q s done total start i within whole =
    let zero : i + 1 - (i + 1) ≡ 0 = omega arith in
    let read = rw (escaped_drop q s i within) at whole in
    rw zero (simp append_assoc read)

-- at the end of the text the run is left
pub escaped_end : (q : Quotes) (s done total : List ℕ) (start i : ℕ) → start ≤ i → i ≡ length s
    → done ++ (take (i - start) (drop start s) ++ escaped_text q (drop i s)) ≡ total
    → done ++ drop start s ≡ total
escaped_end q s done total start i low end whole =
    let all : take (i - start) (drop start s) ≡ drop start s = take_all _ _ (omega (arith, length-drop start s)) in
    let none : drop i s ≡ [] = drop_all i s (omega arith) in
    rw (all, none, append-nil) at whole

-- only an ASCII character doesn't stand for itself between the quotes of a symbol
pub escaped_low : (o : ℕ) → is_raw of_symbol o ≡ false → o < 128
escaped_low o h = grind (arith, nat_tests)
