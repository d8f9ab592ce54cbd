use Rattle.std.proofs.lemmas.Bool.{false≢true}
use Rattle.std.proofs.Common.{refl}
use Rattle.std.proofs.lemmas.List.{take_rest}
use Rattle.ion_scalar.specs.text.laws.TimestampForms.{minute_some, second_some, fraction_some, none_some, none_map, no_minute, no_second_digits, no_second, no_fraction_end}
use Rattle.ion_scalar.proofs.timestamps.time_token.Goals as goal

pub returns-then-not-is_at-clause-some : goal.returns-then-not-is_at-clause-some
returns-then-not-is_at-clause-some c =
    let os = c.args.token.now in
    minute_some os c.in-Some.minute c.with_offset.result c.in-Some.ensures.0 c.in-Some.ensures.1 (rw (take_rest os 16) at c.with_offset.ensures)

pub returns-then-not-is_at-clause-none : goal.returns-then-not-is_at-clause-none
returns-then-not-is_at-clause-none c = λ _.
    let os = c.args.token.now in
    none_some c.with_offset.result _ _ _ (rw (take_rest os 16) at c.with_offset.ensures)
    (λ n b. no_minute os b (λ is. false≢true (c.if-not-is_at.ensures.1 is)) n)

pub returns-in_default-two_at-clause-none : goal.returns-in_default-two_at-clause-none
returns-in_default-two_at-clause-none c =
    let os = c.args.token.now in
    λ _ b. no_second_digits os b (c.if-not-is_at.ensures.0 refl) c.in_default-two_at.ensures.value

pub returns-then-not-is_at-2-clause-some : goal.returns-then-not-is_at-2-clause-some
returns-then-not-is_at-2-clause-some c =
    let os = c.args.token.now in
    second_some os _ c.with_offset-then-not-is_at-2.result c.in-Some.ensures.0 (c.if-not-is_at.ensures.0 refl) c.in-Some-two_at.ensures.value.0
    (λ i. record (c.in-Some.ensures.1 i) { second = c.in-Some-two_at.ensures.value.1 i }) (rw (take_rest os 19) at c.with_offset-then-not-is_at-2.ensures)

pub returns-then-not-is_at-2-clause-none : goal.returns-then-not-is_at-2-clause-none
returns-then-not-is_at-2-clause-none c = λ _.
    let os = c.args.token.now in
    none_some c.with_offset-then-not-is_at-2.result _ _ _ (rw (take_rest os 19) at c.with_offset-then-not-is_at-2.ensures)
    (λ n b. no_second os b (c.if-not-is_at.ensures.0 refl) (λ is. false≢true (c.if-not-is_at-2.ensures.1 is)) n)

pub returns-then-short-clause-some : goal.returns-then-short-clause-some
returns-then-short-clause-some c =
    let os = c.args.token.now in
    fraction_some os _ c.with_short_fraction.result c.in-Some.ensures.0 (c.if-not-is_at.ensures.0 refl) c.in-Some-two_at.ensures.value.0
    (c.if-not-is_at-2.ensures.0 refl)
    (λ i. record (c.in-Some.ensures.1 i) { second = c.in-Some-two_at.ensures.value.1 i }) (rw (take_rest os 20) at c.with_short_fraction.ensures)

pub returns-clause-some : goal.returns-clause-some
returns-clause-some c =
    let os = c.args.token.now in
    fraction_some os _ c.with_fraction.result c.in-Some.ensures.0 (c.if-not-is_at.ensures.0 refl) c.in-Some-two_at.ensures.value.0
    (c.if-not-is_at-2.ensures.0 refl)
    (λ i. record (c.in-Some.ensures.1 i) { second = c.in-Some-two_at.ensures.value.1 i }) (rw (take_rest os 20) at c.with_fraction.ensures.some)

pub returns-clause-none : goal.returns-clause-none
returns-clause-none c = λ _.
    let os = c.args.token.now in
    none_map c.with_fraction.result _ _ (rw (take_rest os 20) at c.with_fraction.ensures.none)
    (λ n b. no_fraction_end os b (c.if-not-is_at.ensures.0 refl) (c.if-not-is_at-2.ensures.0 refl) n)
