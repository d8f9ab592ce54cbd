-- What a second value was told, beside the first or apart from it.
use Rattle.std.proofs.Common.{◌≡◌, ℕ, ◌+◌, List, [], ◌∷◌, ◌++◌, length, true, false, slice_get, append_assoc, append-nil, Option, Some, refl, ap, sym, subst, ◌∙◌, arith}
use Rattle.std.proofs.lemmas.Option.{gets}
use Rattle.std.proofs.lemmas.Grind.{common_steps}
use Rattle.ion_visiting.specs.Names.{Entry, Event, Led, Role, Tape, Twin, Value, events_of}
use Rattle.ion_visiting.specs.Tapes.{Holds, IsBlank, Writes, events_before, events_in, role_event, tapes, told}
use Rattle.ion_visiting.specs.Twins.{IsApart, IsBegun, TellsSecond, ToldBy, WasTold}
use Rattle.ion_visiting.specs.laws.Led.{led_more}
use Rattle.ion_visiting.proofs.Taped.{value_wrote}

-- 1. Along the first tape.

-- the second goes along
pub told_along : (a : Twin) (entry : Entry) (e : Event) → a.parted ≡ false → slice_get a.first.entries.items a.at ≡ Some entry
    → told a.first entry ≡ Some e → TellsSecond a e (record a { at = a.at + 1 })
told_along a entry e along there is = record {
  first = refl;
  told = λ es. subst (λ x. ToldBy x a es → ToldBy x (record a { at = a.at + 1 }) (es ++ e ∷ [])) (sym along)
      (λ h. grind (arith, common_steps, gets, there, is, h));
}

-- the second was told all of the first
pub same_told : (t : Twin) (es : List Event) → t.parted ≡ false → t.at ≡ length t.first.entries.items → WasTold t es → events_in t.first ≡ es
same_told t es along all h = grind (arith, common_steps, all, subst (λ x. ToldBy x t es) along h)

-- 2. Apart.

-- the second parts from the first
pub told_apart : (a : Twin) (blank second : Tape) → a.parted ≡ false → IsBlank blank → Led tapes (events_before a.first a.at) blank second
    → IsApart a (record a { second = second; parted = true })
told_apart a blank second along none led = record {
  first = refl;
  parted = refl;
  told = λ es h. (blank, none, subst (λ x. Led tapes x blank second) (subst (λ x. ToldBy x a es) along h) led);
}

-- the second's own tape is told one event more
pub told_on : (a m : Twin) (e : Event) (second : Tape) → IsApart a m → tapes m.second e second → TellsSecond a e (record m { second = second })
told_on a m e second h one = record {
  first = h.first;
  told = λ es k. subst (λ x. ToldBy x m es → ToldBy x (record m { second = second }) (es ++ e ∷ [])) (sym h.parted)
      (λ w. (w.0, w.1, led_more tapes es e w.0 m.second second w.2 one)) (h.told es k);
}

-- what a symbol writes, whatever it is
pub role_taped : (a b : Tape) (x : Role) (s : Option (List ℕ)) → Writes a b (role_event x s) → tapes a (role_event x s) b
role_taped a b Role.Value s h = h
role_taped a b _ s h = h

-- 3. All events of a value.

told_more : (es fs : List Event) (a b : Twin) → WasTold a es → Led TellsSecond fs a b → (b.first ≡ a.first) × WasTold b (es ++ fs)
told_more es [] a b h k = (ap (λ (x : Twin). x.first) (sym k), subst (λ x. WasTold x (es ++ [])) k (subst (WasTold a) (sym (append-nil es)) h))
told_more es (f ∷ fs) a b h k =
    let rest = told_more (es ++ f ∷ []) fs k.0 b (k.1.told es h) k.2 in (rest.0 ∙ k.1.first, subst (WasTold b) (append_assoc es (f ∷ []) fs) rest.1)

-- the second was told a value's events from nothing, and the first is as it was
pub second_told : (v : Value) (a b : Twin) → IsBegun a → Led TellsSecond (events_of v) a b → (b.first ≡ a.first) × WasTold b (events_of v)
second_told v a b new = told_more [] (events_of v) a b (subst (λ x. ToldBy x a []) (sym new.along) (ap (events_before a.first) new.at))

-- once apart, the second's own tape holds that value
pub second_holds : (v : Value) (a b : Twin) → WasTold a (events_of v) → IsApart a b → Holds b.second v
second_holds v a b h k = let w = subst (λ x. ToldBy x b (events_of v)) k.parted (k.told (events_of v) h) in value_wrote v w.0 b.second w.1 w.2
