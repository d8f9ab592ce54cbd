-- One octet more.
use Rattle.std.proofs.Common.{◌≡◌, ℕ, ◌+◌, ◌≤◌, ◌==◌, Bool, true, false, List, [], ◌∷◌, ◌++◌, length, take, refl, ap, sym, ◌∙◌, arith, if◌then◌else◌, ◌<◌, cond, get_or, max, add-one, add-zero, zero-add, add_assoc, append_assoc, length-append}
use Rattle.std.proofs.lemmas.List.Sums.{sum_by-append, count_by-le-length}
use Rattle.std.proofs.Math.Seq.{take-suc}
use Rattle.ion.specs.Names.{Spot, begins_character, characters, end_at, ends_line, last_line, lines_before}
use Rattle.ion.specs.Spots.{last_octet, next, spot_of, stepped}

pub lines_snoc : (front : List ℕ) (o : ℕ) → lines_before (front ++ o ∷ []) ≡ lines_before front + (if ends_line (last_octet front) o then 1 else 0)
lines_snoc [] o = refl
lines_snoc (p ∷ []) o = omega arith
lines_snoc (p ∷ q ∷ rest) o = ap (λ n. end_at p (q ∷ rest) + n) (lines_snoc (q ∷ rest) o)
    ∙ sym (add_assoc (end_at p (q ∷ rest)) (lines_before (q ∷ rest)) (if ends_line (last_octet (q ∷ rest)) o then 1 else 0))

both : (c : Bool) (a x : List ℕ) (o : ℕ) → (if c then a ++ o ∷ [] else x ++ o ∷ []) ≡ (if c then a else x) ++ o ∷ []
both true a x o = refl
both false a x o = refl

never : (e n : ℕ) → (e + (n + 1) == 0) ≡ false
never e n = grind arith

step : (b : Bool) (e n : ℕ) (a x : List ℕ) (o : ℕ) → (if (e + (n + (if b then 1 else 0))) == 0 then a ++ o ∷ [] else (if b then o ∷ [] else x ++ o ∷ []))
    ≡ (if b then o ∷ [] else (if (e + n) == 0 then a else x) ++ o ∷ [])
step true e n a x o = rw (never e n) refl
step false e n a x o = rw (add-zero n) (both (e + n == 0) a x o)

one : (b : Bool) (p o : ℕ) → (if ((if b then 1 else 0) + 0) == 0 then p ∷ o ∷ [] else o ∷ []) ≡ (if b then o ∷ [] else p ∷ o ∷ [])
one true p o = refl
one false p o = refl

pub line_snoc : (front : List ℕ) (o : ℕ) → last_line (front ++ o ∷ []) ≡ (if ends_line (last_octet front) o then o ∷ [] else last_line front ++ o ∷ [])
line_snoc [] o = refl
line_snoc (p ∷ []) o = one (ends_line p o) p o
line_snoc (p ∷ q ∷ rest) o =
    let e = end_at p (q ∷ rest) in
    let whole = p ∷ q ∷ (rest ++ o ∷ []) in
    let b = ends_line (last_octet (q ∷ rest)) o in
    ap (λ n. if (e + n) == 0 then whole else last_line (q ∷ (rest ++ o ∷ []))) (lines_snoc (q ∷ rest) o)
    ∙ (ap (λ x. if (e + (lines_before (q ∷ rest) + (if b then 1 else 0))) == 0 then whole else x) (line_snoc (q ∷ rest) o)
    ∙ step b e (lines_before (q ∷ rest)) (p ∷ q ∷ rest) (last_line (q ∷ rest)) o)

last_snoc : (front : List ℕ) (o : ℕ) → last_octet (front ++ o ∷ []) ≡ o
last_snoc [] o = refl
last_snoc (p ∷ []) o = refl
last_snoc (p ∷ q ∷ rest) o = last_snoc (q ∷ rest) o

characters_snoc : (xs : List ℕ) (o : ℕ) → characters (xs ++ o ∷ []) ≡ characters xs + (if begins_character o then 1 else 0)
characters_snoc xs o = sum_by-append (λ x. cond (begins_character x) 1 0) xs (o ∷ [])
    ∙ ap (λ n. characters xs + n) (zero-add (if begins_character o then 1 else 0))

-- what is kept, by its parts
abbrev kept : ℕ → List ℕ → ℕ → Spot
kept lines line last = record { lines = lines; octets = length line; characters = characters line; last = last }

by_case : (b : Bool) (n : ℕ) (line : List ℕ) (last o : ℕ) → kept (n + (if b then 1 else 0)) (if b then o ∷ [] else line ++ o ∷ []) o
    ≡ stepped b (if begins_character o then 1 else 0) (kept n line last) o
by_case true n line last o = ap (λ (c : ℕ). let s : Spot = record { lines = n + 1; octets = 1; characters = c; last = o } in s)
    (zero-add (if begins_character o then 1 else 0))
by_case false n line last o = rw (add-zero n, length-append line (o ∷ []), characters_snoc line o) refl

pub spot_snoc : (front : List ℕ) (o : ℕ) → spot_of (front ++ o ∷ []) ≡ next (spot_of front) o
spot_snoc front o =
    let parts : kept (lines_before (front ++ o ∷ [])) (last_line (front ++ o ∷ [])) (last_octet (front ++ o ∷ [])) ≡ next (spot_of front) o =
    rw (lines_snoc front o, line_snoc front o, last_snoc front o)
    (by_case (ends_line (last_octet front) o) (lines_before front) (last_line front) (last_octet front) o) in
    parts

stepped_lines : (b : Bool) (n : ℕ) (s : Spot) (o : ℕ) → (stepped b n s o).lines ≤ s.lines + 1
stepped_lines true n s o = omega arith
stepped_lines false n s o = omega arith

stepped_octets : (b : Bool) (n : ℕ) (s : Spot) (o : ℕ) → (stepped b n s o).octets ≤ s.octets + 1
stepped_octets true n s o = omega arith
stepped_octets false n s o = omega arith

stepped_characters : (b : Bool) (n : ℕ) (s : Spot) (o : ℕ) → n ≤ 1 → (stepped b n s o).characters ≤ s.characters + 1
stepped_characters true n s o few = omega arith
stepped_characters false n s o few = omega arith

one_at_most : (b : Bool) → (if b then 1 else 0) ≤ 1
one_at_most true = omega arith
one_at_most false = omega arith

-- an octet begins one more line at most
pub next_lines : (s : Spot) (o : ℕ) → (next s o).lines ≤ s.lines + 1
next_lines s o = stepped_lines (ends_line s.last o) (if begins_character o then 1 else 0) s o

-- an octet makes the line one octet longer at most
pub next_octets : (s : Spot) (o : ℕ) → (next s o).octets ≤ s.octets + 1
next_octets s o = stepped_octets (ends_line s.last o) (if begins_character o then 1 else 0) s o

-- an octet makes the line one character longer at most
pub next_characters : (s : Spot) (o : ℕ) → (next s o).characters ≤ s.characters + 1
next_characters s o = stepped_characters (ends_line s.last o) (if begins_character o then 1 else 0) s o (one_at_most (begins_character o))

-- of octets that were gone over
pub passed_next : (before octets : List ℕ) (i : ℕ) (s : Spot) → i < length octets → s ≡ spot_of (before ++ take i octets) → next s (get_or octets i 0)
    ≡ spot_of (before ++ take (i + 1) octets)
passed_next before octets i s within e =
    rw (
      add-one i,
      take-suc octets i 0 within,
      ← append_assoc before (take i octets) (get_or octets i 0 ∷ []),
      spot_snoc (before ++ take i octets) (get_or octets i 0),
      e,
    ) refl

end_fits : (b : Bool) → (if b then 1 else 0) ≤ 1
end_fits true = omega arith
end_fits false = omega arith

lines_fewer : (o : ℕ) (rest : List ℕ) → lines_before (o ∷ rest) ≤ length rest
lines_fewer o [] = omega arith
lines_fewer o (p ∷ rest) = omega (arith, end_fits (ends_line o p), lines_fewer p rest)

-- fewer lines end before an octet than there are octets
pub lines_fit : (octets : List ℕ) → lines_before octets + 1 ≤ max 1 (length octets)
lines_fit [] = omega arith
lines_fit (o ∷ rest) = omega (arith, lines_fewer o rest)

pub line_fits : (octets : List ℕ) → length (last_line octets) ≤ length octets
line_fits [] = omega arith
line_fits (o ∷ rest) = shorter (lines_before (o ∷ rest) == 0) o rest (line_fits rest)
  where
    shorter : (b : Bool) (o : ℕ) (rest : List ℕ) → length (last_line rest) ≤ length rest → length (if b then o ∷ rest else last_line rest) ≤ length (o ∷ rest)
    shorter true o rest h = omega arith
    shorter false o rest h = omega (arith, h)

pub characters_fit : (octets : List ℕ) → characters (last_line octets) ≤ length octets
characters_fit octets = omega (arith, line_fits octets, count_by-le-length begins_character (last_line octets))

-- the numbers kept are at most as many as the octets
pub spot_fits : (s : Spot) (octets : List ℕ) → s ≡ spot_of octets → (s.lines ≤ length octets) × (s.octets ≤ length octets) × (s.characters ≤ length octets)
    × (s.lines + 1 ≤ max 1 (length octets))
spot_fits s octets e = rw e (omega (arith, lines_fit octets), line_fits octets, characters_fit octets, lines_fit octets)
