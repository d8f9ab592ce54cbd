-- The visitor that counts values counts those that ended, and nothing inside of them.
use Rattle.std.proofs.Common.{◌≡◌, ◌+◌, ◌-◌, ◌^◌, ◌≤◌, min, List, [], ◌∷◌, ◌++◌, length, None, true≢false, false, refl, sym, ap, ◌∙◌, arith}
use Rattle.ion_visiting.specs.Names.{Built, Count, Event, Led, Open, Value, counted, counts, ended, events_of, stream_events}
use Rattle.ion_visiting.specs.laws.Built.{Awaits, is_end, value_awaited}
use Rattle.ion_visiting.specs.laws.Led.{led_split}

not_counted : (a : Count) (e : Event) → is_end e ≡ false → counted a e ≡ a
not_counted a ended h = absurd (true≢false h)
not_counted a _ h = refl

none_counted : (es : List Event) (x y : Built) (a b : Count) → Led Awaits es x y → Led counts es a b → b ≡ a
none_counted [] x y a b h k = sym k
none_counted (e ∷ es) x y a b h k = none_counted es h.0 y k.0 b h.2 k.2 ∙ k.1 ∙ not_counted a e h.1.inside

-- told what is inside of a value, it is as before
pub value_uncounted : (v : Value) (a b : Count) → Led counts (events_of v) a b → b ≡ a
value_uncounted v a b k = none_counted (events_of v) _ _ a b (value_awaited v (Open.Top None) [] refl) k

-- told values of the top level and that each ended, it has counted so many more
pub values_counted : (vs : List Value) (a b : Count) → a.values ≤ 2 ^ 64 - 1 → Led counts (stream_events vs) a b
    → b.values ≡ min (a.values + length vs) (2 ^ 64 - 1)
values_counted [] a b small k = omega (arith, ap (λ (c : Count). c.values) k, small)
values_counted (v ∷ vs) a b small k =
    let cut = led_split counts (events_of v ++ ended ∷ []) (stream_events vs) a b k in
    let inner = led_split counts (events_of v) (ended ∷ []) a cut.0 cut.1 in
    let one : cut.0 ≡ counted a ended = sym inner.2.2 ∙ inner.2.1 ∙ ap (λ c. counted c ended) (value_uncounted v a inner.0 inner.1) in
    let many : cut.0.values ≡ min (a.values + 1) (2 ^ 64 - 1) = ap (λ (c : Count). c.values) one in
    omega (arith, values_counted vs cut.0 b (omega (arith, many)) cut.2, many)
