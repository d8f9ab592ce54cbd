use Rattle.std.proofs.Common.{◌-◌, ◌++◌, ◌∙◌, refl, sym, ap, length, take, drop, []}
use Rattle.std.proofs.lemmas.List.{take_rest}
use Rattle.ion_text.proofs.LongStrings.{first_segment, more_segments}
use Rattle.ion_text.proofs.tokens.long_strings.join_segments.Goals as goal

pub loop-init : goal.loop-init
loop-init c =
    let first = c.in_ok-at.ensures in (
      first.0,
      first_segment c.args.here c.args.rest c.args.octets.now _ _ [] first.0 refl (first.1 []),
      λ joins. first.2 joins ∙ ap (λ w. w ++ first.0) c.requires.none,
    )

pub loop-preserved : goal.loop-preserved
loop-preserved c =
    let octets = c.args.octets.now in
    let at = c.loop.at in
    let so_far = c.loop.invariant in
    let next = c.in_ok-count.ensures in (
      so_far.0 ++ next.0,
      more_segments c.args.here c.args.rest c.loop.behind _ octets (take (length octets - at) (drop at octets)) at _ so_far.0 _
          (take_rest octets at) so_far.1 (next.1 so_far.0),
      λ joins. next.2 joins ∙ ap (λ w. w ++ next.0) (so_far.2 joins),
    )

pub returns-then-ends_long : goal.returns-then-ends_long
returns-then-ends_long c =
    let so_far = c.loop.invariant in (
      so_far.0,
      record { segments = so_far.1; more = c.if-at-octets.false; ends = sym c.ends_long.ensures ∙ c.if-ends_long.true },
      so_far.2,
    )
