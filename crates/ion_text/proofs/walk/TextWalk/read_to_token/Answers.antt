use Rattle.std.proofs.Common.{◌<◌, Ok, ap, ◌∙◌, arith, length}
use Rattle.ion_text.specs.Names.{comes_again, reading_of, scanned, told}
use Rattle.ion_text.proofs.Reaching.{again_leaves_reached, again_refused_reached, again_tells_reached, again_uses_reached, late_reached, leaves_reached, left_within, refused_reached, tells_reached, used_within, uses_reached}
use Rattle.ion_text.proofs.walk.TextWalk.read_to_token.Goals as goal

pub bounds-piece-count : goal.bounds-piece-count
bounds-piece-count g c =
    left_within _ _ _ _ c.meet.new.self _ (c.in-Ok-default-Again.ensures.behind c.requires.fine) c.in-Ok-default-Again.ensures.used
    (ap comes_again c.in-Ok-default-Again.field-0-1-is)

pub bounds-piece-count-in-Ok-default-Late : goal.bounds-piece-count-in-Ok-default-Late
bounds-piece-count-in-Ok-default-Late g c =
    left_within _ _ _ _ c.meet.new.self _ (c.in-Ok-default-Late.ensures.behind c.requires.fine) c.in-Ok-default-Late.ensures.used
    (ap comes_again c.in-Ok-default-Late.field-0-1-is)

pub read_octet-requires-clause-room : goal.read_octet-requires-clause-room
read_octet-requires-clause-room g c =
    let inside : c.in-Ok-default-Again.count < length c.args.piece.now =
    left_within _ _ _ _ c.meet.new.self _ (c.in-Ok-default-Again.ensures.behind c.requires.fine) c.in-Ok-default-Again.ensures.used
    (ap comes_again c.in-Ok-default-Again.field-0-1-is) in
    omega (arith, c.in-Ok-default-Again.ensures.used, c.requires.room)

pub read_octet-again-requires-clause-room : goal.read_octet-again-requires-clause-room
read_octet-again-requires-clause-room g c =
    let inside : c.in-Ok-default-Late.count < length c.args.piece.now =
    left_within _ _ _ _ c.meet.new.self _ (c.in-Ok-default-Late.ensures.behind c.requires.fine) c.in-Ok-default-Late.ensures.used
    (ap comes_again c.in-Ok-default-Late.field-0-1-is) in
    omega (arith, c.in-Ok-default-Late.ensures.used, c.requires.room)

pub returns-in-Err-clause-took : goal.returns-in-Err-clause-took
returns-in-Err-clause-took g c = λ fs ss h.
    let r = c.args.self.now in
    refused_reached g.V.Visitor.takes r.catalog.now r.limits (told fs ss) (reading_of r fs ss) c.requires.calm (scanned r.scanner) c.args.piece.now
    c.requires.high (c.requires.fits fs ss h) c.requires.some c.place-place.result (c.place-place.ensures fs ss h) c.in-Err.refusal c.meet.new.self
    c.args.visitor.now c.meet.new.visitor (c.in-Err.ensures.met c.requires.fine fs ss h)

pub returns-in-Ok-default-Uses-clause-took : goal.returns-in-Ok-default-Uses-clause-took
returns-in-Ok-default-Uses-clause-took g c = λ fs ss h.
    let r = c.args.self.now in
    uses_reached _ r.catalog.now r.limits _ (reading_of r fs ss) c.requires.calm (scanned r.scanner) _ c.requires.high (c.requires.fits fs ss h)
    c.requires.some _ (c.place-place.ensures fs ss h) _ _ _ _ _ (c.in-Ok-default-Uses.ensures.met c.requires.fine fs ss h)
    (c.in-Ok-default-Uses.ensures.behind c.requires.fine) c.in-Ok-default-Uses.ensures.used c.in-Ok-default-Uses.field-0-1-is

pub returns-in-Ok-default-Uses-clause-within : goal.returns-in-Ok-default-Uses-clause-within
returns-in-Ok-default-Uses-clause-within g c =
    used_within _ _ _ _ c.meet.new.self _ (c.in-Ok-default-Uses.ensures.behind c.requires.fine) c.in-Ok-default-Uses.ensures.used
    (ap comes_again c.in-Ok-default-Uses.field-0-1-is) c.requires.some

pub returns-in-Ok-default-Tells-clause-took : goal.returns-in-Ok-default-Tells-clause-took
returns-in-Ok-default-Tells-clause-took g c = λ fs ss h.
    let r = c.args.self.now in
    tells_reached _ r.catalog.now r.limits _ (reading_of r fs ss) c.requires.calm (scanned r.scanner) _ c.requires.high (c.requires.fits fs ss h)
    c.requires.some _ (c.place-place.ensures fs ss h) _ _ _ _ _ (c.in-Ok-default-Tells.ensures.met c.requires.fine fs ss h)
    (c.in-Ok-default-Tells.ensures.behind c.requires.fine) c.in-Ok-default-Tells.ensures.used c.in-Ok-default-Tells.field-0-1-is

pub returns-in-Ok-default-Tells-clause-within : goal.returns-in-Ok-default-Tells-clause-within
returns-in-Ok-default-Tells-clause-within g c = c.in-Ok-default-Tells.ensures.within

pub returns-in-Ok-default-Leaves-clause-took : goal.returns-in-Ok-default-Leaves-clause-took
returns-in-Ok-default-Leaves-clause-took g c = λ fs ss h.
    let r = c.args.self.now in
    leaves_reached _ r.catalog.now r.limits _ (reading_of r fs ss) c.requires.calm (scanned r.scanner) _ c.requires.high (c.requires.fits fs ss h)
    c.requires.some _ (c.place-place.ensures fs ss h) _ _ _ _ _ (c.in-Ok-default-Leaves.ensures.met c.requires.fine fs ss h)
    (c.in-Ok-default-Leaves.ensures.behind c.requires.fine) c.in-Ok-default-Leaves.ensures.used c.in-Ok-default-Leaves.field-0-1-is

pub returns-in-Ok-default-Leaves-clause-within : goal.returns-in-Ok-default-Leaves-clause-within
returns-in-Ok-default-Leaves-clause-within g c =
    left_within _ _ _ _ c.meet.new.self _ (c.in-Ok-default-Leaves.ensures.behind c.requires.fine) c.in-Ok-default-Leaves.ensures.used
    (ap comes_again c.in-Ok-default-Leaves.field-0-1-is)

pub returns-in-Ok-Uses-clause-took : goal.returns-in-Ok-Uses-clause-took
returns-in-Ok-Uses-clause-took g c = λ fs ss h.
    let r = c.args.self.now in
    again_uses_reached _ r.catalog.now r.limits _ (reading_of r fs ss) c.requires.calm (scanned r.scanner) _ c.requires.high (c.requires.fits fs ss h)
    c.requires.some _ (c.place-place.ensures fs ss h) _ _ _ _ _ (c.in-Ok-default-Again.ensures.met c.requires.fine fs ss h)
    (c.in-Ok-default-Again.ensures.behind c.requires.fine) c.in-Ok-default-Again.ensures.used
    (ap (λ (b : _). b.now) c.in-Ok-default-Again.ensures.same.catalog) c.in-Ok-default-Again.ensures.same.limits _ _ _ c.read_octet.ensures.did
    c.in-Ok-default-Again.field-0-1-is (c.in-Ok-Uses.is ∙ ap Ok c.in-Ok-Uses.field-0-is)

pub returns-in-Ok-Tells-clause-took : goal.returns-in-Ok-Tells-clause-took
returns-in-Ok-Tells-clause-took g c = λ fs ss h.
    let r = c.args.self.now in
    again_tells_reached _ r.catalog.now r.limits _ (reading_of r fs ss) c.requires.calm (scanned r.scanner) _ c.requires.high (c.requires.fits fs ss h)
    c.requires.some _ (c.place-place.ensures fs ss h) _ _ _ _ _ (c.in-Ok-default-Again.ensures.met c.requires.fine fs ss h)
    (c.in-Ok-default-Again.ensures.behind c.requires.fine) c.in-Ok-default-Again.ensures.used
    (ap (λ (b : _). b.now) c.in-Ok-default-Again.ensures.same.catalog) c.in-Ok-default-Again.ensures.same.limits _ _ _ c.read_octet.ensures.did
    c.in-Ok-default-Again.field-0-1-is (c.in-Ok-Tells.is ∙ ap Ok c.in-Ok-Tells.field-0-is)

pub returns-in-Ok-Leaves-clause-took : goal.returns-in-Ok-Leaves-clause-took
returns-in-Ok-Leaves-clause-took g c = λ fs ss h.
    let r = c.args.self.now in
    again_leaves_reached _ r.catalog.now r.limits _ (reading_of r fs ss) c.requires.calm (scanned r.scanner) _ c.requires.high (c.requires.fits fs ss h)
    c.requires.some _ (c.place-place.ensures fs ss h) _ _ _ _ _ (c.in-Ok-default-Again.ensures.met c.requires.fine fs ss h)
    (c.in-Ok-default-Again.ensures.behind c.requires.fine) c.in-Ok-default-Again.ensures.used
    (ap (λ (b : _). b.now) c.in-Ok-default-Again.ensures.same.catalog) c.in-Ok-default-Again.ensures.same.limits _ _ _ c.read_octet.ensures.did
    c.in-Ok-default-Again.field-0-1-is (c.in-Ok-Leaves.is ∙ ap Ok c.in-Ok-Leaves.field-0-is)

pub returns-in-Err-read_octet-clause-took : goal.returns-in-Err-read_octet-clause-took
returns-in-Err-read_octet-clause-took g c = λ fs ss h.
    let r = c.args.self.now in
    again_refused_reached _ r.catalog.now r.limits _ (reading_of r fs ss) c.requires.calm (scanned r.scanner) _ c.requires.high (c.requires.fits fs ss h)
    c.requires.some _ (c.place-place.ensures fs ss h) _ _ _ _ _ (c.in-Ok-default-Again.ensures.met c.requires.fine fs ss h)
    (c.in-Ok-default-Again.ensures.behind c.requires.fine) c.in-Ok-default-Again.ensures.used
    (ap (λ (b : _). b.now) c.in-Ok-default-Again.ensures.same.catalog) c.in-Ok-default-Again.ensures.same.limits _ _ _ c.read_octet.ensures.did
    c.in-Ok-default-Again.field-0-1-is _ c.in-Err-read_octet.reason (omega (arith, c.used-offset.ensures)) c.in-Err-read_octet.is

pub returns-in-Ok-default-Late-clause-took : goal.returns-in-Ok-default-Late-clause-took
returns-in-Ok-default-Late-clause-took g c = λ fs ss h.
    let r = c.args.self.now in
    late_reached _ r.catalog.now r.limits _ (reading_of r fs ss) c.requires.calm (scanned r.scanner) _ c.requires.high (c.requires.fits fs ss h)
    c.requires.some _ (c.place-place.ensures fs ss h) _ _ _ _ _ (c.in-Ok-default-Late.ensures.met c.requires.fine fs ss h)
    (c.in-Ok-default-Late.ensures.behind c.requires.fine) c.in-Ok-default-Late.ensures.used
    (ap (λ (b : _). b.now) c.in-Ok-default-Late.ensures.same.catalog) c.in-Ok-default-Late.ensures.same.limits
    c.read_octet-again.result c.read_octet-again.new.self c.read_octet-again.new.visitor c.read_octet-again.ensures.did
    _ c.in-Ok-default-Late.reason c.worse.result (omega (arith, c.used-offset-in-Ok-default-Late.ensures)) c.in-Ok-default-Late.field-0-1-is c.worse.ensures

pub returns-in-Ok-Uses-clause-within : goal.returns-in-Ok-Uses-clause-within
returns-in-Ok-Uses-clause-within g c =
    let inside : c.in-Ok-default-Again.count < length c.args.piece.now =
    left_within _ _ _ _ c.meet.new.self _ (c.in-Ok-default-Again.ensures.behind c.requires.fine) c.in-Ok-default-Again.ensures.used
    (ap comes_again c.in-Ok-default-Again.field-0-1-is) in
    (omega arith, omega (arith, inside))

pub returns-in-Ok-Tells-clause-within : goal.returns-in-Ok-Tells-clause-within
returns-in-Ok-Tells-clause-within g c =
    let inside : c.in-Ok-default-Again.count < length c.args.piece.now =
    left_within _ _ _ _ c.meet.new.self _ (c.in-Ok-default-Again.ensures.behind c.requires.fine) c.in-Ok-default-Again.ensures.used
    (ap comes_again c.in-Ok-default-Again.field-0-1-is) in
    omega (arith, inside)

pub returns-in-Ok-Leaves-clause-within : goal.returns-in-Ok-Leaves-clause-within
returns-in-Ok-Leaves-clause-within g c =
    let inside : c.in-Ok-default-Again.count < length c.args.piece.now =
    left_within _ _ _ _ c.meet.new.self _ (c.in-Ok-default-Again.ensures.behind c.requires.fine) c.in-Ok-default-Again.ensures.used
    (ap comes_again c.in-Ok-default-Again.field-0-1-is) in
    inside

pub returns-in-Err-clause-decides : goal.returns-in-Err-clause-decides
returns-in-Err-clause-decides g c = c.in-Err.ensures.decides c.requires.fine c.requires.some

pub returns-in-Err-read_octet-clause-decides : goal.returns-in-Err-read_octet-clause-decides
returns-in-Err-read_octet-clause-decides g c = λ other.
    let inside : c.in-Ok-default-Again.count < length c.args.piece.now =
    left_within _ _ _ _ c.meet.new.self _ (c.in-Ok-default-Again.ensures.behind c.requires.fine) c.in-Ok-default-Again.ensures.used
    (ap comes_again c.in-Ok-default-Again.field-0-1-is) in
    (omega (arith, c.used-offset.ensures, c.in-Ok-default-Again.ensures.used), omega (arith, inside, c.used-offset.ensures, c.in-Ok-default-Again.ensures.used))

pub returns-in-Ok-default-Late-clause-decides : goal.returns-in-Ok-default-Late-clause-decides
returns-in-Ok-default-Late-clause-decides g c = λ other.
    let inside : c.in-Ok-default-Late.count < length c.args.piece.now =
    left_within _ _ _ _ c.meet.new.self _ (c.in-Ok-default-Late.ensures.behind c.requires.fine) c.in-Ok-default-Late.ensures.used
    (ap comes_again c.in-Ok-default-Late.field-0-1-is) in
    let at = c.used-offset-in-Ok-default-Late.ensures in
    (omega (arith, at, c.in-Ok-default-Late.ensures.used), omega (arith, inside, at, c.in-Ok-default-Late.ensures.used))
