use Rattle.std.proofs.Common.{◌≡◌, ◌-◌, ◌<◌, List, ℕ, length, arith, ap, subst}
use Rattle.ion_text.specs.Names.{Frame, Holds, Known, Symbols, TookSo, scanned}
use Rattle.ion_text.specs.walk.Advances.{gone}
use Rattle.ion_text.proofs.LastTokens.{took_there}
use Rattle.ion_text.proofs.Taking.{with_scanner}
use Rattle.ion_text.proofs.walk.TextWalk.read_tokens.Goals as goal

pub read_each-requires : goal.read_each-requires
read_each-requires g c =
    let few = c.within-octets.ensures.few in
    let begun : (scanned c.args.self.now.scanner).used ≡ c.args.first.used = ap (λ (k : Known). k.used) c.requires.rests in
    let room = c.requires.room in
    omega arith

pub returns-clause-took : goal.returns-clause-took
returns-clause-took g c =
    let old = c.args.self.now in
    let moved = c.move_to.new.self in
    let new = with_scanner c.read_each.new.self moved in
    let piece = c.args.piece.now in
    let octets = c.within-octets.result.now in
    let some : 0 < length octets = omega (arith, c.if-octets-lt2.false) in
    let begun : (scanned old.scanner).used ≡ c.args.first.used = ap (λ (k : Known). k.used) c.requires.rests in
    let there : (scanned new.scanner).used ≡ c.read_each.new.rest.used = ap (λ (k : Known). k.used) c.move_to.ensures.rests in
    let same : c.read_each.new.rest.used - c.args.first.used ≡ gone old new = omega arith in
    subst (λ (k : ℕ). (fs : List Frame) (ss : Symbols) → Holds old fs ss
    → TookSo g.V.Visitor.takes fs ss old new piece k c.args.visitor.now c.read_each.new.visitor c.in_ok-taken.taken) same
    (took_there g.V.Visitor.takes old c.read_each.new.self moved c.args.first c.read_each.new.rest piece octets
    c.within-octets.ensures.front.0 (c.read_each.new.rest.used - c.args.first.used) c.args.visitor.now c.read_each.new.visitor
    c.within-octets.ensures.front.1 some c.requires.rests
    c.move_to.ensures.rests c.requires.still (c.within-octets.ensures.fits some) c.in_ok-taken.taken c.in_ok-taken.ensures.ended)
