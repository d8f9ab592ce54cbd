use Rattle.std.proofs.Common.{◌<◌, Ok, false, true, length, refl, sym, ap, ◌∙◌, arith}
use Rattle.ion_text.specs.Names.{Met, reading_of, scanned}
use Rattle.ion_text.proofs.Reaching.{left_within, used_within}
use Rattle.ion_text.proofs.Meetings.{blank_refused, scan_refused, token_refused}
use Rattle.ion_text.proofs.Taking.{no_token_meets, no_token_met, token_meets, token_met, with_scanner}
use Rattle.ion_text.proofs.walk.TextWalk.meet.Goals as goal

pub returns-in-Err-clause-met : goal.returns-in-Err-clause-met
returns-in-Err-clause-met g c = λ fine fs ss h.
    let r = c.args.self.now in scan_refused r.catalog.now r.limits (reading_of r fs ss) _ _ _ _ (c.in-Err.ensures.answers fine)

pub returns-in-Ok-notice-clause-met : goal.returns-in-Ok-notice-clause-met
returns-in-Ok-notice-clause-met g c = λ fine fs ss h.
    let r = c.args.self.now in
    no_token_meets _ r.catalog.now r.limits _ (reading_of r fs ss) _ _ _ _ (c.in-Ok.ensures.answers fine) _ fs ss _ c.in-None.is refl h (c.in-Ok-notice.ensures fs ss h)

pub returns-in-Ok-notice-clause-behind : goal.returns-in-Ok-notice-clause-behind
returns-in-Ok-notice-clause-behind g c = λ fine.
    no_token_met _ _ _ _ (c.in-Ok.ensures.answers fine) (with_scanner c.args.self.now c.step.new.self) refl c.in-None.is

pub returns-in-Err-notice-clause-met : goal.returns-in-Err-notice-clause-met
returns-in-Err-notice-clause-met g c = λ fine fs ss h.
    let r = c.args.self.now in
    blank_refused r.catalog.now r.limits (reading_of r fs ss) _ _ _ _ c.refused.result c.in-Err-notice.reason (c.in-Ok.ensures.answers fine) c.in-None.is
    (c.in-Err-notice.ensures fs ss h) c.refused.ensures

pub returns-in-Ok-meet_left-clause-met : goal.returns-in-Ok-meet_left-clause-met
returns-in-Ok-meet_left-clause-met g c = λ fine fs ss h.
    let r = c.args.self.now in
    token_meets _ r.catalog.now r.limits _ (reading_of r fs ss) _ _ _ _ (c.in-Ok.ensures.answers fine) true c.in-Some.token (Ok c.in-Ok-meet_left.met) _ _ _ c.in-Some.is
    (sym c.left.ensures ∙ c.if-left.true) (c.in-Ok-meet_left.ensures.did fs ss h)

pub returns-in-Ok-meet_left-clause-behind : goal.returns-in-Ok-meet_left-clause-behind
returns-in-Ok-meet_left-clause-behind g c = λ fine.
    token_met _ _ _ _ (c.in-Ok.ensures.answers fine) c.meet_left.new.self (ap scanned c.in-Ok-meet_left.ensures.setting.scanner) true c.in-Some.token _
    c.in-Some.is (sym c.left.ensures ∙ c.if-left.true) c.in-Ok-meet_left.ensures.again

pub returns-in-Err-meet_left-clause-met : goal.returns-in-Err-meet_left-clause-met
returns-in-Err-meet_left-clause-met g c = λ fine fs ss h.
    let r = c.args.self.now in
    token_refused r.catalog.now r.limits (reading_of r fs ss) true _ _ _ c.in-Some.token _ c.refused-in-Err-meet_left.result c.in-Err-meet_left.reason _ (c.in-Ok.ensures.answers fine)
    c.in-Some.is (sym c.left.ensures ∙ c.if-left.true) (c.in-Err-meet_left.ensures.did fs ss h)
    (ap (λ s. (scanned s).used) c.in-Err-meet_left.ensures.setting.scanner) c.refused-in-Err-meet_left.ensures

pub returns-in-Ok-meet_given-clause-met : goal.returns-in-Ok-meet_given-clause-met
returns-in-Ok-meet_given-clause-met g c = λ fine fs ss h.
    let r = c.args.self.now in
    token_meets _ r.catalog.now r.limits _ (reading_of r fs ss) _ _ _ _ (c.in-Ok.ensures.answers fine) false c.in-Some.token (Ok c.in-Ok-meet_given.met) _ _ _ c.in-Some.is
    (sym c.left.ensures ∙ c.if-left.false) (c.in-Ok-meet_given.ensures.did fs ss h)

pub returns-in-Ok-meet_given-clause-behind : goal.returns-in-Ok-meet_given-clause-behind
returns-in-Ok-meet_given-clause-behind g c = λ fine.
    token_met _ _ _ _ (c.in-Ok.ensures.answers fine) c.meet_given.new.self (ap scanned c.in-Ok-meet_given.ensures.setting.scanner) false c.in-Some.token _
    c.in-Some.is (sym c.left.ensures ∙ c.if-left.false) c.in-Ok-meet_given.ensures.ends

pub returns-in-Err-meet_given-clause-met : goal.returns-in-Err-meet_given-clause-met
returns-in-Err-meet_given-clause-met g c = λ fine fs ss h.
    let r = c.args.self.now in
    token_refused r.catalog.now r.limits (reading_of r fs ss) false _ _ _ c.in-Some.token _ c.refused-in-Err-meet_given.result c.in-Err-meet_given.reason _ (c.in-Ok.ensures.answers fine)
    c.in-Some.is (sym c.left.ensures ∙ c.if-left.false) (c.in-Err-meet_given.ensures.did fs ss h)
    (ap (λ s. (scanned s).used) c.in-Err-meet_given.ensures.setting.scanner) c.refused-in-Err-meet_given.ensures

pub returns-in-Err-clause-decides : goal.returns-in-Err-clause-decides
returns-in-Err-clause-decides g c = λ fine some. c.in-Err.ensures.within fine

pub returns-in-Err-notice-clause-decides : goal.returns-in-Err-notice-clause-decides
returns-in-Err-notice-clause-decides g c = λ fine some other.
    let now = with_scanner c.args.self.now c.step.new.self in
    let within = used_within _ _ _ Met.Uses now _ (no_token_met _ _ _ _ (c.in-Ok.ensures.answers fine) now refl c.in-None.is) c.in-Ok.ensures.counts refl some in
    let at = ap (λ (r : _). r.offset) c.refused.ensures in
    (omega (arith, within.0, at, c.in-Ok.ensures.counts), omega (arith, within.1, at, c.in-Ok.ensures.counts))

pub returns-in-Err-meet_left-clause-decides : goal.returns-in-Err-meet_left-clause-decides
returns-in-Err-meet_left-clause-decides g c = λ fine some other.
    let now = with_scanner c.args.self.now c.step.new.self in
    let met = token_met _ _ _ _ (c.in-Ok.ensures.answers fine) now refl true c.in-Some.token Met.Again c.in-Some.is (sym c.left.ensures ∙ c.if-left.true) refl in
    let within : c.in-Ok.field-0.used < length c.args.piece.now = left_within _ _ _ Met.Again now _ met c.in-Ok.ensures.counts refl in
    let at = ap (λ (r : _). r.offset) c.refused-in-Err-meet_left.ensures in
    let same = ap (λ s. (scanned s).used) c.in-Err-meet_left.ensures.setting.scanner in
    (omega (arith, at, same, c.in-Ok.ensures.counts), omega (arith, within, at, same, c.in-Ok.ensures.counts))

pub returns-in-Err-meet_given-clause-decides : goal.returns-in-Err-meet_given-clause-decides
returns-in-Err-meet_given-clause-decides g c = λ fine some other.
    let now = with_scanner c.args.self.now c.step.new.self in
    let met = token_met _ _ _ _ (c.in-Ok.ensures.answers fine) now refl false c.in-Some.token Met.Uses c.in-Some.is (sym c.left.ensures ∙ c.if-left.false) refl in
    let within = used_within _ _ _ Met.Uses now _ met c.in-Ok.ensures.counts refl some in
    let at = ap (λ (r : _). r.offset) c.refused-in-Err-meet_given.ensures in
    let same = ap (λ s. (scanned s).used) c.in-Err-meet_given.ensures.setting.scanner in
    (omega (arith, within.0, at, same, c.in-Ok.ensures.counts), omega (arith, within.1, at, same, c.in-Ok.ensures.counts))
