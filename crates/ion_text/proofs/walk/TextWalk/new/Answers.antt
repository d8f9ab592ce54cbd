use Rattle.std.proofs.Common.{rules, ◌≡◌, [], false, None, refl}
use Rattle.ion_text.specs.Names.{Holds, TextWalk, begun, failed, state_of}
use Rattle.ion_text.specs.declared.state.Stage.TheVariants.{Ready}
use Rattle.ion_text.proofs.WalkRuns.{begins_so}
use Rattle.ion_text.proofs.walk.TextWalk.new.Goals as goal

pub returns-clause-begins : goal.returns-clause-begins
returns-clause-begins c =
    let r : TextWalk = record {
      alloc = c.args.alloc;
      catalog = c.args.catalog;
      limits = c.args.limits;
      scanner = c.new.result;
      beside = c.new-2.result;
      recent = c.new-3.result;
      start = 0;
      context = c.in_ok-context.context;
      frames = c.new-4.result;
      noted = false;
      stage = Ready;
      filter = c.new-5.result;
      awaited = None;
      failed = None;
    } in
    let holds : Holds r [] [] = search rules in
    let state : state_of r [] [] ≡ begun = search rules in
    let fine : failed r ≡ None = c.new.ensures.failed in
    begins_so c.args.catalog.now c.args.limits r holds state refl refl c.new.ensures.steady fine refl
