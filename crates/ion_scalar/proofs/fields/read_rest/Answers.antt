use Rattle.std.proofs.Common.{◌≡◌, ◌+◌, ◌*◌, ◌%◌, length, take, get_or, below_more, ℕ, List, ◌<◌, sym, ap, arith}
use Rattle.std.proofs.lemmas.List.{take_all}
use Rattle.ion_scalar.specs.Names.{groups}
use Rattle.ion_scalar.specs.binary.VarEnds.{ends_at, groups_more, no_end, seven_bits_octet, too_large_at}
use Rattle.ion_scalar.proofs.fields.read_rest.Goals as goal

-- the value with one octet more
more : (front : ℕ) (os : List ℕ) (i : ℕ) → i < length os → get_or os i 0 < 256 → groups front (take (i + 1) os)
    ≡ groups front (take i os) * 128 + get_or os i 0 % 128
more front os i h octet = rw (← seven_bits_octet (get_or os i 0) octet) (groups_more front os i h)

pub returns-then-value : goal.returns-then-value
returns-then-value c =
    let fits = c.type_inv.octets c.loop-i.i in
    let m = more c.args.front c.args.octets.now c.loop-i.i c.loop-i-test.true (omega arith) in
    sym (too_large_at c.args.front c.args.used c.args.octets.now c.loop-i.i c.loop-i-test.true c.loop-i.invariant.before (omega arith))

pub returns-then-octet-ge128 : goal.returns-then-octet-ge128
returns-then-octet-ge128 c =
    let fits = c.type_inv.octets c.loop-i.i in
    let m = more c.args.front c.args.octets.now c.loop-i.i c.loop-i-test.true (omega arith) in
    let e : c.loop-i.value * 128 + c.from.result ≡ groups c.args.front (take (c.loop-i.i + 1) c.args.octets.now) = omega arith in
    rw e (sym (ends_at c.args.front c.args.used c.args.octets.now c.loop-i.i c.loop-i-test.true c.loop-i.invariant.before (omega arith) (omega arith)))

pub loop-i-preserved : goal.loop-i-preserved
loop-i-preserved c =
    let fits = c.type_inv.octets c.loop-i.i in
    let m = more c.args.front c.args.octets.now c.loop-i.i c.loop-i-test.true (omega arith) in
    record { value = omega arith; small = omega arith; before = below_more _ _ c.loop-i.invariant.before c.if-octet-ge128.false }

pub returns : goal.returns
returns c =
    let e : c.loop-i.i ≡ length c.args.octets.now = omega arith in
    let all : groups c.args.front (take c.loop-i.i c.args.octets.now) ≡ groups c.args.front c.args.octets.now =
    ap (groups c.args.front) (take_all c.loop-i.i c.args.octets.now (omega arith)) in
    let before : (k : ℕ) → k < length c.args.octets.now → get_or c.args.octets.now k 0 < 128 = λ k h. c.loop-i.invariant.before k (omega arith) in
    sym (no_end c.args.front c.args.used c.args.octets.now before (omega arith))
