use Rattle.std.proofs.Common.{rules, ◌≡◌, ◌+◌, ◌<◌, ◌^◌, ℕ, Ok, IfOk, sym, ap, ◌∙◌, subst, arith}
use Rattle.ion_text.specs.Names.{Does, IsFine, Turned as Effect, comes_again, count_of, reading_of, scanned, settle, state_of, told}
use Rattle.ion_text.proofs.Octets.{one_left, one_used}
use Rattle.ion_text.proofs.Taking.{again_octet, err_octet, goes_on_octet, late_octet, leaves_octet, settles_err, settles_gives, settles_goes, settles_late, tells_octet, uses_octet}
use Rattle.ion_text.proofs.walk.TextWalk.+octet.Goals as goal

pub scan_octet-read_octet-requires : goal.scan_octet-read_octet-requires
scan_octet-read_octet-requires g t c =
    let r = c.args.self.now in
    let mid = c.meet.new.self in
    let m = c.in-Ok-default-Again.ensures.behind c.requires.fine in
    let same : (scanned mid.scanner).used ≡ (scanned r.scanner).used =
    one_left c.args.place (scanned r.scanner) c.args.octet c.in-Ok-default-Again.field-0-1 (scanned mid.scanner) m.0 m.1
    (ap comes_again c.in-Ok-default-Again.field-0-1-is) in
    let had = c.requires.room in
    let measure = c.decreases in
    let fine : IsFine mid = c.in-Ok-default-Again.ensures.fine in
    let room : (scanned mid.scanner).used + 1 < 2 ^ 63 = omega arith in
    search rules

pub scan_octet-read_octet-again-requires : goal.scan_octet-read_octet-again-requires
scan_octet-read_octet-again-requires g t c =
    let r = c.args.self.now in
    let mid = c.meet.new.self in
    let m = c.in-Ok-default-Late.ensures.behind c.requires.fine in
    let same : (scanned mid.scanner).used ≡ (scanned r.scanner).used =
    one_left c.args.place (scanned r.scanner) c.args.octet c.in-Ok-default-Late.field-0-1 (scanned mid.scanner) m.0 m.1
    (ap comes_again c.in-Ok-default-Late.field-0-1-is) in
    let had = c.requires.room in
    let measure = c.decreases in
    let fine : IsFine mid = c.in-Ok-default-Late.ensures.fine in
    let room : (scanned mid.scanner).used + 1 < 2 ^ 63 = omega arith in
    search rules

pub scan_octet-returns-in-Err-clause-did : goal.scan_octet-returns-in-Err-clause-did
scan_octet-returns-in-Err-clause-did g t c = λ fs ss h.
    let r = c.args.self.now in
    err_octet g.V.Visitor.takes r.catalog.now r.limits c.args.tokens c.args.octet (told fs ss) (reading_of r fs ss) c.args.place (scanned r.scanner)
    c.in-Err.refusal c.meet.new.self c.meet.new.self c.args.visitor.now c.meet.new.visitor (c.in-Err.ensures.met c.requires.fine fs ss h)

pub scan_octet-returns-in-Ok-default-Uses-clause-did : goal.scan_octet-returns-in-Ok-default-Uses-clause-did
scan_octet-returns-in-Ok-default-Uses-clause-did g t c = λ fs ss h.
    let r = c.args.self.now in
    uses_octet _ r.catalog.now r.limits c.args.tokens c.args.octet _ (reading_of r fs ss) c.args.place (scanned r.scanner) _ _ _ _
    c.in-Ok-default-Uses.field-0-1-is (c.in-Ok-default-Uses.ensures.met c.requires.fine fs ss h)

pub scan_octet-returns-in-Ok-default-Uses-clause-used : goal.scan_octet-returns-in-Ok-default-Uses-clause-used
scan_octet-returns-in-Ok-default-Uses-clause-used g t c =
    let m = c.in-Ok-default-Uses.ensures.behind c.requires.fine in
    one_used c.args.place (scanned c.args.self.now.scanner) c.args.octet c.in-Ok-default-Uses.field-0-1 (scanned c.meet.new.self.scanner) m.0 m.1
    (ap comes_again c.in-Ok-default-Uses.field-0-1-is)

pub scan_octet-returns-in-Ok-default-Tells-clause-did : goal.scan_octet-returns-in-Ok-default-Tells-clause-did
scan_octet-returns-in-Ok-default-Tells-clause-did g t c = λ fs ss h.
    let r = c.args.self.now in
    tells_octet _ r.catalog.now r.limits c.args.tokens c.args.octet _ (reading_of r fs ss) c.args.place (scanned r.scanner) _ _ _ _
    c.in-Ok-default-Tells.field-0-1-is (c.in-Ok-default-Tells.ensures.met c.requires.fine fs ss h)

pub scan_octet-returns-in-Ok-default-Tells-clause-used : goal.scan_octet-returns-in-Ok-default-Tells-clause-used
scan_octet-returns-in-Ok-default-Tells-clause-used g t c =
    let m = c.in-Ok-default-Tells.ensures.behind c.requires.fine in
    one_used c.args.place (scanned c.args.self.now.scanner) c.args.octet c.in-Ok-default-Tells.field-0-1 (scanned c.meet.new.self.scanner) m.0 m.1
    (ap comes_again c.in-Ok-default-Tells.field-0-1-is)

pub scan_octet-returns-in-Ok-default-Leaves-clause-did : goal.scan_octet-returns-in-Ok-default-Leaves-clause-did
scan_octet-returns-in-Ok-default-Leaves-clause-did g t c = λ fs ss h.
    let r = c.args.self.now in
    leaves_octet _ r.catalog.now r.limits c.args.tokens c.args.octet _ (reading_of r fs ss) c.args.place (scanned r.scanner) _ _ _ _
    c.in-Ok-default-Leaves.field-0-1-is (c.in-Ok-default-Leaves.ensures.met c.requires.fine fs ss h)

pub scan_octet-returns-in-Ok-default-Leaves-clause-used : goal.scan_octet-returns-in-Ok-default-Leaves-clause-used
scan_octet-returns-in-Ok-default-Leaves-clause-used g t c =
    let m = c.in-Ok-default-Leaves.ensures.behind c.requires.fine in
    let same = one_left c.args.place (scanned c.args.self.now.scanner) c.args.octet c.in-Ok-default-Leaves.field-0-1 (scanned c.meet.new.self.scanner) m.0 m.1
    (ap comes_again c.in-Ok-default-Leaves.field-0-1-is) in
    omega (arith, same)

pub scan_octet-returns-in-Ok-default-Again-clause-did : goal.scan_octet-returns-in-Ok-default-Again-clause-did
scan_octet-returns-in-Ok-default-Again-clause-did g t c = λ fs ss h.
    let r = c.args.self.now in
    again_octet g.V.Visitor.takes r.catalog.now r.limits c.args.tokens c.args.octet (told fs ss) (reading_of r fs ss) c.args.place (scanned r.scanner)
    c.in-Ok-default-Again.field-0-1 c.meet.new.self c.args.visitor.now c.meet.new.visitor (c.in-Ok-default-Again.ensures.met c.requires.fine fs ss h)
    (ap (λ (b : _). b.now) c.in-Ok-default-Again.ensures.same.catalog) c.in-Ok-default-Again.ensures.same.limits
    c.read_octet.result c.read_octet.new.self c.read_octet.new.visitor c.read_octet.ensures.did c.in-Ok-default-Again.field-0-1-is

pub scan_octet-returns-in-Ok-default-Again-clause-used : goal.scan_octet-returns-in-Ok-default-Again-clause-used
scan_octet-returns-in-Ok-default-Again-clause-used g t c =
    let r = c.args.self.now in
    let m = c.in-Ok-default-Again.ensures.behind c.requires.fine in
    let same = one_left c.args.place (scanned r.scanner) c.args.octet c.in-Ok-default-Again.field-0-1 (scanned c.meet.new.self.scanner) m.0 m.1
    (ap comes_again c.in-Ok-default-Again.field-0-1-is) in
    subst (λ (n : ℕ). IfOk c.read_octet.result (λ taken. c.read_octet.new.self.scanner.machine.used ≡ n + count_of taken)) same c.read_octet.ensures.used

pub scan_octet-returns-in-Ok-default-Late-clause-did : goal.scan_octet-returns-in-Ok-default-Late-clause-did
scan_octet-returns-in-Ok-default-Late-clause-did g t c = λ fs ss h.
    let r = c.args.self.now in
    late_octet g.V.Visitor.takes r.catalog.now r.limits c.args.tokens c.args.octet (told fs ss) (reading_of r fs ss) c.args.place (scanned r.scanner)
    c.in-Ok-default-Late.field-0-1 c.meet.new.self c.args.visitor.now c.meet.new.visitor (c.in-Ok-default-Late.ensures.met c.requires.fine fs ss h)
    (ap (λ (b : _). b.now) c.in-Ok-default-Late.ensures.same.catalog) c.in-Ok-default-Late.ensures.same.limits
    c.read_octet-again.result c.read_octet-again.new.self c.read_octet-again.new.visitor c.read_octet-again.ensures.did c.in-Ok-default-Late.reason
    c.worse.result c.in-Ok-default-Late.field-0-1-is c.worse.ensures

pub read_octet-returns-then-goes_on-clause-did : goal.read_octet-returns-then-goes_on-clause-did
read_octet-returns-then-goes_on-clause-did g t c = λ fs ss h.
    let r = c.args.self.now in
    goes_on_octet g.V.Visitor.takes r.catalog.now r.limits c.args.tokens c.args.octet (told fs ss) (state_of r fs ss) c.place-place.result
    (c.place-place.ensures fs ss h) (omega arith) c.scan_octet.result c.scan_octet.new.self c.args.visitor.now c.scan_octet.new.visitor
    (sym (c.goes_on.ensures fs ss h) ∙ c.if-goes_on.true) (c.scan_octet.ensures.did fs ss h)

pub read_octet-returns-in-Err-clause-did : goal.read_octet-returns-in-Err-clause-did
read_octet-returns-in-Err-clause-did g t c = λ fs ss h.
    let r = c.args.self.now in
    settles_err g.V.Visitor.takes r.catalog.now r.limits c.args.tokens c.args.octet (told fs ss) (state_of r fs ss) c.place-place.result
    (c.place-place.ensures fs ss h) (omega arith) (sym (c.goes_on.ensures fs ss h) ∙ c.if-goes_on.false) c.in-Err.reason c.settle.new.self c.settle.new.self
    c.args.visitor.now c.settle.new.visitor (c.in-Err.ensures.does fs ss h)

pub read_octet-returns-in-Ok-Goes-clause-did : goal.read_octet-returns-in-Ok-Goes-clause-did
read_octet-returns-in-Ok-Goes-clause-did g t c = λ fs ss h.
    let r = c.args.self.now in
    let mid = c.settle.new.self in
    let same = c.in-Ok-Goes.ensures.setting in
    settles_goes g.V.Visitor.takes r.catalog.now r.limits c.args.tokens c.args.octet (told fs ss) (state_of r fs ss) c.place-place.result
    (c.place-place.ensures fs ss h) (omega arith) (sym (c.goes_on.ensures fs ss h) ∙ c.if-goes_on.false) mid mid.catalog.now mid.limits
    (ap (λ (b : _). b.now) same.catalog) same.limits (ap scanned same.scanner) c.scan_octet-in-Ok-Goes.result c.scan_octet-in-Ok-Goes.new.self
    c.args.visitor.now c.settle.new.visitor c.scan_octet-in-Ok-Goes.new.visitor c.scan_octet-in-Ok-Goes.ensures.did
    (subst (λ (e : Effect). Does g.V.Visitor.takes (told fs ss) (settle r.catalog.now r.limits (reading_of r fs ss)) (Ok e) mid c.args.visitor.now
    c.settle.new.visitor) c.in-Ok-Goes.field-0-is (c.in-Ok-Goes.ensures.does fs ss h))

pub read_octet-returns-in-Ok-Gives-clause-did : goal.read_octet-returns-in-Ok-Gives-clause-did
read_octet-returns-in-Ok-Gives-clause-did g t c = λ fs ss h.
    let r = c.args.self.now in
    let mid = c.settle.new.self in
    settles_gives g.V.Visitor.takes r.catalog.now r.limits c.args.tokens c.args.octet (told fs ss) (state_of r fs ss) c.place-place.result
    (c.place-place.ensures fs ss h) (omega arith) (sym (c.goes_on.ensures fs ss h) ∙ c.if-goes_on.false) mid c.args.visitor.now c.settle.new.visitor
    (ap scanned c.in-Ok-Gives.ensures.setting.scanner)
    (subst (λ (e : Effect). Does g.V.Visitor.takes (told fs ss) (settle r.catalog.now r.limits (reading_of r fs ss)) (Ok e) mid c.args.visitor.now
    c.settle.new.visitor) c.in-Ok-Gives.field-0-is (c.in-Ok-Gives.ensures.does fs ss h))

pub read_octet-returns-in-Ok-Late-clause-did : goal.read_octet-returns-in-Ok-Late-clause-did
read_octet-returns-in-Ok-Late-clause-did g t c = λ fs ss h.
    let r = c.args.self.now in
    let mid = c.settle.new.self in
    let same = c.in-Ok-Late.ensures.setting in
    settles_late g.V.Visitor.takes r.catalog.now r.limits c.args.tokens c.args.octet (told fs ss) (state_of r fs ss) c.place-place.result
    (c.place-place.ensures fs ss h) (omega arith) (sym (c.goes_on.ensures fs ss h) ∙ c.if-goes_on.false) mid mid.catalog.now mid.limits
    (ap (λ (b : _). b.now) same.catalog) same.limits (ap scanned same.scanner) c.scan_octet-again.result c.scan_octet-again.new.self
    c.args.visitor.now c.settle.new.visitor c.scan_octet-again.new.visitor c.scan_octet-again.ensures.did c.in-Ok-Late.reason c.worse.result
    (subst (λ (e : Effect). Does g.V.Visitor.takes (told fs ss) (settle r.catalog.now r.limits (reading_of r fs ss)) (Ok e) mid c.args.visitor.now
    c.settle.new.visitor) c.in-Ok-Late.field-0-is (c.in-Ok-Late.ensures.does fs ss h)) c.worse.ensures
