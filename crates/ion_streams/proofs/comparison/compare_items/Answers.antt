use Rattle.std.proofs.Common.{◌≡◌, [], arith, refl, ap, ◌∙◌}
use Rattle.ion_streams.specs.Names.{Reads, telling}
use Rattle.ion_streams.proofs.Passes.{err_by, ok_by}
use Rattle.ion_streams.proofs.Pieces.{between_nil}
use Rattle.ion_streams.proofs.Steps.{reads_begun, ready_begun, within_begun}
use Rattle.ion_streams.proofs.Unfailed.{asks_begun}
use Rattle.ion_streams.proofs.comparison.compare_items.Given.{Over}
use Rattle.ion_streams.proofs.comparison.compare_items.Goals as goal
use Rattle.ion_streams.proofs.comparison.compare_items.Goals.{In_ok-right_source}

pub compare_places-verdict-requires : goal.compare_places-verdict-requires
compare_places-verdict-requires g c =
    let left = c.in_ok-left_source.left_source in
    let right = c.in_ok-right_source.right_source in
    let l = c.in_ok-left_source.ensures in
    let r = c.in_ok-right_source.ensures in
    let left_pending : g.I.Items.pending left.items ≡ 0 = ap (λ x. g.I.Items.pending x) l.items ∙ c.requires.left.owes in
    let right_pending : g.J.Items.pending right.items ≡ 0 = ap (λ x. g.J.Items.pending x) r.items ∙ c.requires.right.owes in
    record {
      begun = refl;
      left = ready_begun g.I.Items left c.args.left_items (g.met.I.Items.counted c.args.left_items [] [] c.requires.left.stood) c.requires.left.awaited l.items
          l.nothing l.piece (omega (arith, l.reads));
      right = ready_begun g.J.Items right c.args.right_items (g.met.J.Items.counted c.args.right_items [] [] c.requires.right.stood) c.requires.right.awaited
          r.items r.nothing r.piece (omega (arith, r.reads));
      opened = tt;
      left_unread = asks_begun g.I.Items left c.args.left_items (g.met.I.Items.not_failed c.args.left_items [] [] c.requires.left.stood) c.requires.left.owes
          l.items l.nothing l.unended;
      right_unread = asks_begun g.J.Items right c.args.right_items (g.met.J.Items.not_failed c.args.right_items [] [] c.requires.right.stood)
          c.requires.right.owes r.items r.nothing r.unended;
      few = omega (arith, left_pending, right_pending, l.reads, l.nothing.0, l.nothing.1, r.reads, r.nothing.0, r.nothing.1);
    }

-- nothing was read of either side yet
left_begun : (g : Over) (c : In_ok-right_source g) → Reads g.L.Inlet (telling g.I.Items []) (g.I.Items.catalog c.args.left_items)
    (g.I.Items.limits c.args.left_items) c.args.left.now c.args.left.now c.in_ok-left_source.left_source []
left_begun g c =
    let left = c.in_ok-left_source.left_source in
    let l = c.in_ok-left_source.ensures in
    reads_begun g.L.Inlet (telling g.I.Items []) c.args.left.now left c.args.left_items
    (g.met.I.Items.nothing_told c.args.left_items c.requires.left.stood) l.items
    (between_nil left.piece.items left.at left.end (omega (arith, l.nothing.0, l.nothing.1))) l.unended

right_begun : (g : Over) (c : In_ok-right_source g) → Reads g.R.Inlet (telling g.J.Items []) (g.J.Items.catalog c.args.right_items)
    (g.J.Items.limits c.args.right_items) c.args.right.now c.args.right.now c.in_ok-right_source.right_source []
right_begun g c =
    let right = c.in_ok-right_source.right_source in
    let r = c.in_ok-right_source.ensures in
    reads_begun g.R.Inlet (telling g.J.Items []) c.args.right.now right c.args.right_items
    (g.met.J.Items.nothing_told c.args.right_items c.requires.right.stood) r.items
    (between_nil right.piece.items right.at right.end (omega (arith, r.nothing.0, r.nothing.1))) r.unended

pub returns-clause-verdict : goal.returns-clause-verdict
returns-clause-verdict g c =
    let at = (goal.at.returns-clause-verdict g c).In_ok-right_source in
    ok_by c.compare_places-verdict.result _ _ (λ verdict h. h _ _ _ _ (left_begun g at) (right_begun g at)) c.compare_places-verdict.ensures.verdict

pub returns-clause-in_turn : goal.returns-clause-in_turn
returns-clause-in_turn g c =
    let at = (goal.at.returns-clause-in_turn g c).In_ok-right_source in
    (c.compare_places-verdict.ensures.asked _ _ _ _ (left_begun g at) (right_begun g at)).in_turn

pub returns-clause-left_in_turn : goal.returns-clause-left_in_turn
returns-clause-left_in_turn g c =
    let at = (goal.at.returns-clause-left_in_turn g c).In_ok-right_source in
    (c.compare_places-verdict.ensures.asked _ _ _ _ (left_begun g at) (right_begun g at)).left_in_turn

pub returns-clause-at_once : goal.returns-clause-at_once
returns-clause-at_once g c =
    let at = (goal.at.returns-clause-at_once g c).In_ok-right_source in
    (c.compare_places-verdict.ensures.asked _ _ _ _ (left_begun g at) (right_begun g at)).at_once

pub returns-clause-one_end : goal.returns-clause-one_end
returns-clause-one_end g c =
    let at = (goal.at.returns-clause-one_end g c).In_ok-right_source in
    (c.compare_places-verdict.ensures.asked _ _ _ _ (left_begun g at) (right_begun g at)).one_end

pub returns-clause-cause : goal.returns-clause-cause
returns-clause-cause g c =
    let left_begun = within_begun g.L.Inlet c.args.left.now c.in_ok-left_source.left_source c.args.reads c.in_ok-left_source.ensures.reads in
    let right_begun = within_begun g.R.Inlet c.args.right.now c.in_ok-right_source.right_source c.args.reads c.in_ok-right_source.ensures.reads in
    err_by c.compare_places-verdict.result _ _ (λ fault h. h c.args.reads left_begun right_begun) c.compare_places-verdict.ensures.cause

pub returns-clause-few_calls : goal.returns-clause-few_calls
returns-clause-few_calls g c =
    let few = c.compare_places-verdict.ensures.few_calls in
    (omega (arith, few.0, c.in_ok-left_source.ensures.reads), omega (arith, few.1, c.in_ok-right_source.ensures.reads))

pub returns-clause-few_octets : goal.returns-clause-few_octets
returns-clause-few_octets g c =
    let few = c.compare_places-verdict.ensures.few_octets in
    (omega (arith, few.0, c.in_ok-left_source.ensures.reads), omega (arith, few.1, c.in_ok-right_source.ensures.reads))
