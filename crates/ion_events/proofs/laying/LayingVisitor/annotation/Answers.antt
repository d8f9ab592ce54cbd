use Rattle.std.proofs.Common.{option_map, refl}
use Rattle.ion_events.specs.Entries.{annotation_code}
use Rattle.ion_events.proofs.Placed.{annotated_down, labeled}
use Rattle.ion_events.proofs.laying.LayingVisitor.annotation.Goals as goal

pub returns-in-Some : goal.returns-in-Some
returns-in-Some g c = λ h.
    let s = option_map (λ t. t.now) c.args.text in
    let m = c.symbol_place.new.self in
    let b = record m { draft = c.annotation.new.self } in
    annotated_down c.args.self.now b s c.symbol_place.ensures.kept
    (labeled c.args.self.now m b s c.in-Some.place annotation_code 0 (c.symbol_place.ensures.shows c.in-Some.place c.in-Some.is) (c.annotation.ensures h) refl refl)
