use Rattle.std.proofs.Common.{◌≡◌, ℕ, List, [], ◌∷◌, ◌++◌, arith, rules, Ok, Err, ◌∙◌}
use Rattle.ion_streams.specs.Names.{DescribeTables, Value, catalog_of, plain}
use Rattle.ion_streams.proofs.Driven.{asked_behind, driven_on}
use Rattle.ion_streams.proofs.Loads.{catalog_ok, value_refused}
use Rattle.ion_streams.proofs.Passes.{gave_none}
use Rattle.ion_streams.proofs.Steps.{stood_plain, within_begun}
use Rattle.ion_streams.proofs.Turns.{each_end, so_far_end}
use Rattle.ion_streams.proofs.catalogs.load_items.Goals as goal

pub loop-catalog-init : goal.loop-catalog-init
loop-catalog-init g c = search (rules, within_begun)

pub loop-catalog-preserved : goal.loop-catalog-preserved
loop-catalog-preserved g c =
    let i = c.loop-catalog.invariant in
    let r = i.reads in
    let next = c.in_ok-value.ensures in
    let found : List (Value × ℕ) = (c.in-Some.value, c.in-Some.offset) ∷ [] in
    let more : catalog_of c.loop-catalog.catalog found ≡ Ok c.add_value.new.catalog = rw c.in_default-2.is at c.in_ok-refusal.ensures in
    record {
      driven = driven_on g.R.Inlet g.I.Items c.args.reads c.args.reader.now c.loop-catalog.reader c.advance.new.reader c.loop-catalog.place c.advance.new.self
          i.driven next.ready next.unasked next.no_read_failed next.within;
      at_once = asked_behind g.R.Inlet g.I.Items DescribeTables _ _ _ _ _ c.loop-catalog.place r.0 r.1 (c.loop-catalog.catalog, r.2) i.at_once next.sought;
      asked = omega (arith, i.asked, next.few_calls);
      handed = omega (arith, i.handed, next.few_octets);
      reads = (
        r.0 ++ found,
        (rw c.in-Some.is at (next.gives _ _ _ r.0 r.1)).0,
        catalog_ok [] r.0 found c.loop-catalog.catalog r.2 ∙ more,
      );
    }

pub returns-in-Err-clause-loaded : goal.returns-in-Err-clause-loaded
returns-in-Err-clause-loaded g c =
    let r = c.loop-catalog.invariant.reads in
    let next = c.in_ok-value.ensures in
    let found : List (Value × ℕ) = (c.in-Some.value, c.in-Some.offset) ∷ [] in
    let none : catalog_of c.loop-catalog.catalog found ≡ Err c.in-Err.refusal = rw c.in-Err.is at c.in_ok-refusal.ensures in
    let catalog = g.I.Items.catalog c.args.items in
    let limits = g.I.Items.limits c.args.items in
    value_refused g.R.Inlet g.I.Items catalog limits (g.met.I.Items.settled catalog limits) g.met.I.Items.given_so_far g.met.I.Items.given_with_next
    c.args.reader.now c.advance.new.reader c.advance.new.self (r.0 ++ found) c.in-Err.refusal
    (rw c.in-Some.is at (next.gives _ _ _ r.0 r.1)).0
    next.ready
    (catalog_ok [] r.0 found c.loop-catalog.catalog r.2 ∙ none)

pub returns-in_err-value-clause-one_end : goal.returns-in_err-value-clause-one_end
returns-in_err-value-clause-one_end g c =
    let r = c.loop-catalog.invariant.reads in
    so_far_end g.R.Inlet g.I.Items _ _ _ c.advance.new.reader (plain r.0)
    (c.in_err-value.ensures.kept _ _ _ (plain r.0) (stood_plain g.R.Inlet g.I.Items _ _ _ _ c.loop-catalog.place r.0 r.1))

pub returns-in_err-refusal-clause-one_end : goal.returns-in_err-refusal-clause-one_end
returns-in_err-refusal-clause-one_end g c =
    let r = c.loop-catalog.invariant.reads in
    each_end g.R.Inlet g.I.Items _ _ _ c.advance.new.reader c.advance.new.self (r.0 ++ (c.in-Some.value, c.in-Some.offset) ∷ [])
    (rw c.in-Some.is at (c.in_ok-value.ensures.gives _ _ _ r.0 r.1)).0

pub returns-in-Err-clause-one_end : goal.returns-in-Err-clause-one_end
returns-in-Err-clause-one_end g c =
    let r = c.loop-catalog.invariant.reads in
    each_end g.R.Inlet g.I.Items _ _ _ c.advance.new.reader c.advance.new.self (r.0 ++ (c.in-Some.value, c.in-Some.offset) ∷ [])
    (rw c.in-Some.is at (c.in_ok-value.ensures.gives _ _ _ r.0 r.1)).0

pub returns-clause-one_end : goal.returns-clause-one_end
returns-clause-one_end g c =
    let r = c.loop-catalog.invariant.reads in
    each_end g.R.Inlet g.I.Items _ _ _ c.advance.new.reader c.advance.new.self r.0
    (gave_none g.R.Inlet g.I.Items _ _ _ _ c.advance.new.self r.0 c.in_ok-value.field-0 c.in_default.is (c.in_ok-value.ensures.gives _ _ _ r.0 r.1))

-- it was asked on while each value described a table
pub returns-in_err-value-clause-at_once : goal.returns-in_err-value-clause-at_once
returns-in_err-value-clause-at_once g c =
    let i = c.loop-catalog.invariant in
    let r = i.reads in
    asked_behind g.R.Inlet g.I.Items DescribeTables _ _ _ _ _ c.loop-catalog.place r.0 r.1 (c.loop-catalog.catalog, r.2) i.at_once c.in_err-value.ensures.sought

pub returns-in_err-refusal-clause-at_once : goal.returns-in_err-refusal-clause-at_once
returns-in_err-refusal-clause-at_once g c =
    let i = c.loop-catalog.invariant in
    let r = i.reads in
    asked_behind g.R.Inlet g.I.Items DescribeTables _ _ _ _ _ c.loop-catalog.place r.0 r.1 (c.loop-catalog.catalog, r.2) i.at_once c.in_ok-value.ensures.sought

pub returns-in-Err-clause-at_once : goal.returns-in-Err-clause-at_once
returns-in-Err-clause-at_once g c =
    let i = c.loop-catalog.invariant in
    let r = i.reads in
    asked_behind g.R.Inlet g.I.Items DescribeTables _ _ _ _ _ c.loop-catalog.place r.0 r.1 (c.loop-catalog.catalog, r.2) i.at_once c.in_ok-value.ensures.sought

pub returns-clause-at_once : goal.returns-clause-at_once
returns-clause-at_once g c =
    let i = c.loop-catalog.invariant in
    let r = i.reads in
    asked_behind g.R.Inlet g.I.Items DescribeTables _ _ _ _ _ c.loop-catalog.place r.0 r.1 (c.loop-catalog.catalog, r.2) i.at_once c.in_ok-value.ensures.sought
