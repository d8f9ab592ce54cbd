use Rattle.std.proofs.Common.{inr, ℕ, ◌+◌, ◌≤◌, ◌<◌, ◌≡◌, List, [], ◌++◌, take, drop, length, min, Bool, true, false, ap, sym, ◌∙◌, arith, length-take, length-drop, length-append, append-nil}
use Rattle.std.proofs.lemmas.Bool.{false≢true}
use Rattle.std.proofs.lemmas.List.{take-append-le, take_all, length-take-le}
use Rattle.ion.specs.Names.{Heard, Inlet, IsPosition, Position, position}
use Rattle.ion_symtab.specs.Told.{Told}
use Rattle.ion_symtab.specs.laws.Heard.{Heard-trans}
use Rattle.ion.proofs.Snoc.{spot_fits}
use Rattle.ion.proofs.position.position_of.Goals as goal

pub position-requires : goal.position-requires
position-requires g c =
    let i = c.loop-left.invariant in
    omega (arith, (spot_fits c.loop-left.spot i.0 i.2).3, i.3, c.ranges.offset.fits)

pub position-requires-2 : goal.position-requires-2
position-requires-2 g c =
    let i = c.loop-left.invariant in
    omega (arith, (spot_fits c.loop-left.spot i.0 i.2).3, i.3, c.ranges.offset.fits)

-- what a read gave of the octets that are left
few : (count wanted left : ℕ) (piece behind : List ℕ) → wanted ≡ min left 4096 → length piece ≤ wanted → count ≤ length piece
    → length (take count (piece ++ behind)) ≤ left
few count wanted left piece behind is long within = omega (arith, is, long, within, length-take count (piece ++ behind))

pub pass-requires : goal.pass-requires
pass-requires g c =
    let i = c.loop-left.invariant in
    let fit = spot_fits c.loop-left.spot i.0 i.2 in
    let long : length c.read.new.piece ≤ c.min-wanted.result = omega (arith, c.read.auto.piece, length-take c.min-wanted.result c.loop-left.piece) in
    let more = few c.in-Ok.count c.min-wanted.result c.loop-left.left c.read.new.piece (drop c.min-wanted.result c.loop-left.piece) c.min-wanted.ensures long
    c.in-Ok.ensures.within in
    record {
      lines = omega (arith, fit.0, i.3, more, c.ranges.offset.fits);
      octets = omega (arith, fit.1, i.3, more, c.ranges.offset.fits);
      characters = omega (arith, fit.2, i.3, more, c.ranges.offset.fits);
    }

pub loop-left-preserved : goal.loop-left-preserved
loop-left-preserved g c =
    let i = c.loop-left.invariant in
    let read = c.in-Ok.ensures in
    let piece = c.read.new.piece in
    let count = c.in-Ok.count in
    let more = take count piece in
    let front = take-append-le count piece (drop c.min-wanted.result c.loop-left.piece) read.within in
    let some : 0 < count = omega (arith, c.in-Ok.count-test.1) in
    let long : length piece ≤ c.min-wanted.result = omega (arith, c.read.auto.piece, length-take c.min-wanted.result c.loop-left.piece) in
    let most : count ≤ c.loop-left.left = omega (arith, long, read.within, c.min-wanted.ensures) in
    let taken : length more ≡ count = length-take-le count piece read.within in
    let grown = length-append i.0 more in (
      i.0 ++ more,
      Heard-trans g.R.Inlet c.args.reader.now c.loop-left.reader c.read.new.self i.0 more false i.1 (record { told = read.told; answered = read.going some }),
      rw front at (c.pass.ensures i.0 i.2),
      omega (arith, grown, taken, i.3, most),
      omega (arith, grown, taken, i.4, read.calls, some),
      omega (
        arith,
        length-append piece (drop c.min-wanted.result c.loop-left.piece),
        length-drop c.min-wanted.result c.loop-left.piece,
        c.read.auto.piece,
        length-take c.min-wanted.result c.loop-left.piece,
        i.5,
      ),
      inr read.failed,
    )

there : {S : Type 0} (R : Inlet S) (first now : S) (offset : ℕ) (p : Position) (octets : List ℕ) (ended : Bool) → Heard R first now octets ended
    → (ended ≡ false → offset ≤ length octets) → length octets ≤ offset → p ≡ position octets → IsPosition R first now offset p
there R first now offset p octets ended heard reached fits is =
    record { octets = octets; ended = ended; heard = heard; reached = reached; there = is ∙ ap position (sym (take_all offset octets fits)) }

pub returns-in-Ok-eq0-clause-position : goal.returns-in-Ok-eq0-clause-position
returns-in-Ok-eq0-clause-position g c =
    let i = c.loop-left.invariant in
    let read = c.in-Ok-eq0.ensures in
    let zero = c.in-Ok-eq0.field-0-test in
    let some : 0 < length c.read.new.piece =
    omega (arith, c.read.auto.piece, c.min-wanted.ensures, i.5, c.loop-left-test.true, length-take c.min-wanted.result c.loop-left.piece) in
    let told = rw zero at read.told in
    let heard = Heard-trans g.R.Inlet c.args.reader.now c.loop-left.reader c.read.new.self i.0 [] true i.1
    (record { told = told; answered = (read.ended zero some, read.end zero some) }) in
    there g.R.Inlet c.args.reader.now c.read.new.self c.args.offset c.position.result i.0 true (rw append-nil at heard) (λ no. absurd (false≢true (sym no)))
    (omega (arith, i.3)) (c.position.ensures i.0 i.2)

pub returns-clause-position : goal.returns-clause-position
returns-clause-position g c =
    let i = c.loop-left.invariant in
    there g.R.Inlet c.args.reader.now c.loop-left.reader c.args.offset c.position-2.result i.0 false i.1 (λ _. omega (arith, i.3, c.loop-left-test.false)) (omega (arith, i.3))
    (c.position-2.ensures i.0 i.2)

-- how many octets a device has handed over, once it told these
handed_length : {S : Type 0} (R : Inlet S) (before now : S) (octets : List ℕ) → Told R.tells R.handed before now octets
    → length (R.handed now) ≡ length (R.handed before) + length octets
handed_length R before now octets told = ap length told.handed_over ∙ length-append (R.handed before) octets

pub returns-in-Err-clause-few_octets : goal.returns-in-Err-clause-few_octets
returns-in-Err-clause-few_octets g c =
    let i = c.loop-left.invariant in
    let first = handed_length g.R.Inlet c.args.reader.now c.loop-left.reader i.0 i.1.told in
    let more = handed_length g.R.Inlet c.loop-left.reader c.read.new.self [] c.in-Err.ensures.kept in
    omega (arith, first, more, i.3)

pub returns-in-Ok-eq0-clause-few_octets : goal.returns-in-Ok-eq0-clause-few_octets
returns-in-Ok-eq0-clause-few_octets g c =
    let i = c.loop-left.invariant in
    let zero = c.in-Ok-eq0.field-0-test in
    let first = handed_length g.R.Inlet c.args.reader.now c.loop-left.reader i.0 i.1.told in
    let more = handed_length g.R.Inlet c.loop-left.reader c.read.new.self [] (rw zero at c.in-Ok-eq0.ensures.told) in
    omega (arith, first, more, i.3)

pub returns-clause-few_octets : goal.returns-clause-few_octets
returns-clause-few_octets g c =
    let i = c.loop-left.invariant in
    let first = handed_length g.R.Inlet c.args.reader.now c.loop-left.reader i.0 i.1.told in
    omega (arith, first, i.3)
