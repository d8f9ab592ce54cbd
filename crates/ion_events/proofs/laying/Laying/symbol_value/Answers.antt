use Rattle.std.proofs.Common.{option_map, refl}
use Rattle.ion_events.specs.Entries.{code_of}
use Rattle.ion_events.specs.Names.Below.{Kind}
use Rattle.ion_events.proofs.Placed.{labeled, symbol_down}
use Rattle.ion_events.proofs.laying.Laying.symbol_value.Goals as goal

pub returns-in-Some : goal.returns-in-Some
returns-in-Some g c = λ h.
    let s = option_map (λ t. t.now) c.args.text in
    let m = c.symbol_place.new.self in
    let b = record m { draft = c.symbol.new.self } in
    symbol_down c.args.self.now b s c.symbol_place.ensures.kept
    (labeled c.args.self.now m b s c.in-Some.place (code_of Kind.Symbol) 1 (c.symbol_place.ensures.shows c.in-Some.place c.in-Some.is) (c.symbol.ensures h) refl refl)
