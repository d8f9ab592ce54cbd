use Rattle.std.proofs.Common.{◌≡◌, ◌≢◌, ℕ, cond, suc, zero, ◌+◌, ◌*◌, ◌-◌, ◌<◌, ◌≤◌, ◌^◌, ◌∙◌, Bool, true, false, List, [], ◌∷◌, ◌++◌, Some, None, length, take, drop, get_or, min, add-one, refl, ap, sym, arith, rules}
use Rattle.std.specs.Prelude.{slice_index, ◌&&◌, ◌||◌, ◌==◌, nat_lt, if◌then◌else◌}
use Rattle.std.specs.List.{list_all, prefix_len, take_while}
use Rattle.std.proofs.lemmas.Bool.Decides.{nat_tests}
use Rattle.std.proofs.lemmas.List.{drop-append-le, length-take-le}
use Rattle.std.proofs.lemmas.List.Folds.{length-prefix_len, list_all-append}
use Rattle.std.proofs.Math.Seq.{take-suc}
use Rattle.ion_text.specs.Names.{Id, Place, Rest, SaysThere, TokenKind, begins_word, is_digit, is_word_octet, number_in}
use Rattle.ion_tokens.proofs.runs.WholeTokens.{word_found}
use Rattle.ion_text.proofs.SaidThere.{id_said}
use Rattle.ion_text.proofs.walk.symbol_ids.id_at.Goals as goal

-- one octet more
more : (octets : List ℕ) (count : ℕ) → 0 < count → count < length octets
    → drop 1 (take (count + 1) octets) ≡ drop 1 (take count octets) ++ get_or octets count 0 ∷ []
more octets count some inside =
    let front : length (take count octets) ≡ count = length-take-le count octets (omega arith) in
    ap (λ n. drop 1 (take n octets)) (add-one count) ∙ ap (drop 1) (take-suc octets count 0 inside)
    ∙ drop-append-le 1 (take count octets) (get_or octets count 0 ∷ []) (omega arith)

number_more : (n : ℕ) (ds : List ℕ) (d : ℕ) → number_in n (ds ++ d ∷ []) ≡ number_in n ds * 10 + (d - 48)
number_more n [] d = refl
number_more n (x ∷ ds) d = number_more (n * 10 + (x - 48)) ds d

both : (a b : Bool) → a ≡ true → b ≡ true → (a && (b && true)) ≡ true
both true true h k = refl
both true false h k = cc
both false b h k = cc

digits_more : (ds : List ℕ) (d : ℕ) → list_all is_digit ds ≡ true → is_digit d ≡ true → list_all is_digit (ds ++ d ∷ []) ≡ true
digits_more ds d h k = list_all-append is_digit ds (d ∷ []) ∙ both (list_all is_digit ds) (is_digit d) h k

-- digits before an octet of no word are as much of a word as there is
run_length : (os : List ℕ) (k : ℕ) → k < length os → list_all is_digit (take k os) ≡ true → is_word_octet (get_or os k 0) ≡ false
    → prefix_len is_word_octet os ≡ k
run_length [] k inside h e = absurd (omega arith)
run_length (o ∷ os) zero inside h e = rw e refl
run_length (o ∷ os) (suc k) inside h e =
    by (is_digit o) refl h (λ all. run_length os k (omega arith) all e)
  where
    in_word : (o : ℕ) → is_digit o ≡ true → is_word_octet o ≡ true
    in_word o d = grind (arith, nat_tests)

    by : (b : Bool) → is_digit o ≡ b → (b && list_all is_digit (take k os)) ≡ true
        → (list_all is_digit (take k os) ≡ true → prefix_len is_word_octet os ≡ k) → prefix_len is_word_octet (o ∷ os) ≡ suc k
    by true d all rest =
        let one : prefix_len is_word_octet (o ∷ os) ≡ 1 + prefix_len is_word_octet os =
        ap (λ b. cond b (1 + prefix_len is_word_octet os) 0) (in_word o d) in
        omega (arith, one, rest all)
    by false d all rest = cc

-- what the digits behind a `$` say
id_is : (a b d : Bool) (m id : ℕ) → a ≡ true → b ≡ true → d ≡ true → m ≡ id → id < 2 ^ 64
    → Some id ≡ (if a && b && d then Some (min m (2 ^ 64 - 1)) else None)
id_is true true true m id h k j e fits = let n : id ≡ min m (2 ^ 64 - 1) = omega arith in ap Some n
id_is true true false m id h k j e fits = cc
id_is true false d m id h k j e fits = cc
id_is false b d m id h k j e fits = cc

above : (n : ℕ) → 0 < n → nat_lt 0 n ≡ true
above n h = grind (arith, nat_tests)

-- `$` and digits before an octet that shows the end of a word say their number
there : (octets : List ℕ) (count id : ℕ) → get_or octets 0 0 ≡ 36 → 1 < count → count < length octets
    → number_in 0 (drop 1 (take count octets)) ≡ id → list_all is_digit (drop 1 (take count octets)) ≡ true → id < 2 ^ 64
    → is_word_octet (get_or octets count 0) ≡ false → get_or octets count 0 ≢ 46
    → (place : Place) (rest : Rest) → SaysThere place rest octets (record { kind = TokenKind.Word; count = count; left = true }) (Id id)
there [] count id dollar some inside number digits fits e dot place rest = absurd (omega arith)
there (o ∷ os) zero id dollar some inside number digits fits e dot place rest = absurd (omega arith)
there (o ∷ os) (suc k) id dollar some inside number digits fits e dot place rest =
    let run : prefix_len is_word_octet os ≡ k = run_length os k (omega arith) digits e in
    let first : is_word_octet o ≡ true = ap is_word_octet dollar in
    let one : prefix_len is_word_octet (o ∷ os) ≡ 1 + prefix_len is_word_octet os = ap (λ b. cond b (1 + prefix_len is_word_octet os) 0) first in
    let whole : suc k ≡ length (take_while is_word_octet (o ∷ os)) = omega (arith, one, run, length-prefix_len is_word_octet (o ∷ os)) in
    let size : length (take k os) ≡ k = length-take-le k os (omega arith) in
    record {
      kept = o ∷ take k os;
      found = word_found (o ∷ os) (suc k) (omega arith) (ap begins_word dollar) whole inside dot place rest;
      says =
          id_said (o ∷ take k os) id
          (id_is (o == 36) (nat_lt 0 (length (take k os))) (list_all is_digit (take k os)) (number_in 0 (take k os)) id
          (ap (λ x. x == 36) dollar) (above (length (take k os)) (omega arith)) digits number fits);
    }

no_word : (o : ℕ) → begins_word o ≡ false → is_digit o ≡ false → is_word_octet o ≡ false
no_word o h k = ap (λ b. b || is_digit o) h ∙ k

first_digit : (octets : List ℕ) → 1 < length octets → drop 1 (take 2 octets) ≡ slice_index octets 1 ∷ []
first_digit [] h = absurd (omega arith)
first_digit (o ∷ []) h = absurd (omega arith)
first_digit (o ∷ x ∷ os) h = refl

digit_small : (o : ℕ) → is_digit o ≡ true → o ≤ 57
digit_small o h = grind (arith, nat_tests)

pub loop-count-preserved : goal.loop-count-preserved
loop-count-preserved c =
    let octets = c.args.octets.now in
    let count = c.loop-count.count in
    let h = c.loop-count.invariant in
    let front = drop 1 (take count octets) in
    let octet = slice_index octets count in
    let digit : is_digit octet ≡ true = sym c.is_digit-in-loop-count.ensures ∙ c.if-not-is_digit-2.false in
    let one = more octets count (omega arith) c.loop-count-test.true in
    let value : c.from.result ≡ octet - 48 = search rules in
    record {
      some = omega arith;
      within = omega arith;
      bounded = omega (arith, value, digit_small octet digit, c.if-id-gt-TENTH_OF_IDS.false);
      number =
          ap (number_in 0) one ∙ number_more 0 front octet
          ∙ (let n : number_in 0 front * 10 + (octet - 48) ≡ c.loop-count.id * 10 + c.from.result = omega (arith, value, h.number) in n);
      digits = ap (list_all is_digit) one ∙ digits_more front octet h.digits digit;
    }

pub loop-count-init : goal.loop-count-init
loop-count-init c =
    let octets = c.args.octets.now in
    let octet = slice_index octets 1 in
    let digit : is_digit octet ≡ true = sym c.is_digit.ensures ∙ c.if-not-is_digit.false in
    let one : drop 1 (take 2 octets) ≡ octet ∷ [] = first_digit octets c.requires.more in
    record {
      some = omega arith;
      within = omega (arith, c.requires.more);
      bounded = omega (arith, c.from-id.ensures, digit_small octet digit);
      number = ap (number_in 0) one ∙ (let n : 0 + (octet - 48) ≡ c.from-id.result = omega (arith, c.from-id.ensures) in n);
      digits = ap (list_all is_digit) one ∙ ap (λ b. b && true) digit;
    }

pub returns-then-not-is_digit-2-clause-says : goal.returns-then-not-is_digit-2-clause-says
returns-then-not-is_digit-2-clause-says c =
    let octets = c.args.octets.now in
    let count = c.loop-count.count in
    let octet = slice_index octets count in
    let h = c.loop-count.invariant in
    let digit : is_digit octet ≡ false = sym c.is_digit-in-loop-count.ensures ∙ c.if-not-is_digit-2.true in
    let ends = c.ends_id.ensures c.if-not-ends_id.false in
    there octets count c.loop-count.id c.requires.dollar h.some c.loop-count-test.true h.number h.digits (omega (arith, h.bounded))
    (no_word octet ends.0 digit) ends.1
