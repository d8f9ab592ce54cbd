use Rattle.std.proofs.Common.{rules, arith, refl, take, ◌≤◌, ◌<◌, length, length-take}
use Rattle.ion_symtab.specs.laws.Causes.{WereMade-more}
use Rattle.ion_streams.proofs.Refilled.{between_written, heard_read}
use Rattle.ion_streams.proofs.piece_reader.read_behind.Goals as goal

pub returns-clause-joined : goal.returns-clause-joined
returns-clause-joined g c =
    let octets = c.args.octets.now.items in
    let end = c.args.end in
    let count = c.in_ok-count.count in
    let e = c.in_ok-count.ensures in
    let fits : end ≤ length octets = omega (arith, c.requires.room) in (
      take count c.read.new.piece,
      (
        (λ none. rw none refl),
        heard_read g.R.Inlet c.args.reader.now c.read.new.self (take count c.read.new.piece) count e.told (λ none. e.ended none (search rules))
            (λ none. e.end none (search rules)) e.going,
        (λ at within. between_written octets c.deref_mut.result.now c.read.new.piece _ _ c.args.octets.now.len at end count c.deref_mut.ensures.value within
            fits e.within (search rules)),
      ),
    )

pub returns-clause-asked : goal.returns-clause-asked
returns-clause-asked g c = λ some first made were.
    let count = c.in_ok-count.count in
    let e = c.in_ok-count.ensures in
    let more = take count c.read.new.piece in
    let all : 0 < length more = omega (arith, some, e.within, length-take count c.read.new.piece) in
    WereMade-more g.R.Inlet made first c.args.reader.now c.read.new.self more were (record { told = e.told; answered = e.going some }) all c.read.ensures.calls
