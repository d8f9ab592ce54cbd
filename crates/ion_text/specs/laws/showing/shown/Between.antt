-- What octets show that are read without a refusal.
use Rattle.std.proofs.Common.{◌≡◌, ℕ, Bool, true, false, List, [], ◌∷◌, ◌++◌, ◌≤◌, length, refl, ap, ◌∙◌, arith, if◌then◌else◌}
use Rattle.ion_text.specs.Names.{ArePieces, Catalog, Limits, OpenRest, Placed, Scanned, Shows, State, Value, Whole, is_fresh, start_of}
use Rattle.ion_text.specs.laws.reading.sound.Admits.{no_item}
use Rattle.ion_text.specs.laws.reading.sound.Held.{NoLongText}
use Rattle.ion_text.specs.laws.reading.sound.Steps.{Stood}
use Rattle.ion_text.specs.laws.showing.shown.Fronts.{no_tokens, stood_front}
use Rattle.ion_text.specs.laws.showing.shown.Longest.{longest_between}
use Rattle.ion_text.specs.laws.showing.shown.OpenRests.{open_rest}
use Rattle.ion_text.specs.laws.showing.shown.Opened.{longest_open}
use Rattle.ion_text.specs.laws.showing.shown.Symbols.{HasBegun}
use Rattle.ion_text.specs.laws.showing.shown.Within.{Within}
use Rattle.ion_text.specs.laws.showing.tokens.Froms.{Waits}

module _ (g : Catalog) (l : Limits) (u : List ℕ) (vs : List Value) (m : State) (b : Stood g l u vs m) (still : HasBegun g l m.scan m.reading) where
  -- no whole pieces at the front of the octets are longer than this
  abbrev NoneLonger : List ℕ → Type 0
  NoneLonger front = (v rest : List ℕ) (t : List Value) → u ≡ v ++ rest → ArePieces (Whole g l) v rest t → length v ≤ length front

  -- between items, those in front are the longest
  between : is_fresh m.reading ≡ true → NoneLonger (stood_front g l u vs m b still).front
  between f v rest t e w =
      let x = stood_front g l u vs m b still in
      let none = no_item g l Scanned u vs m.scan m.reading [] (NoLongText m.scan.mode) b f in
      let ends : length x.front ≡ start_of m.scan.mode m.scan.start m.scan.used =
      x.ends ∙ ap (λ (y : Bool). if y then start_of m.scan.mode m.scan.start m.scan.used else m.reading.start) f in
      let i = longest_between g l u vs m b none v rest t e w in
      omega (arith, i, ends)

  -- in an item, they are too
  within_item : Waits g l m.scan m.reading.now → is_fresh m.reading ≡ false → (item : List Placed) → b.item ≡ item
      → NoneLonger (stood_front g l u vs m b still).front
  within_item wait f [] e = between (no_tokens g l u vs m.scan m.reading [] [] (NoLongText m.scan.mode) b ([], refl) e).0
  within_item wait f (t ∷ ts) e = λ v rest s i w.
      let x = stood_front g l u vs m b still in
      let ends : length x.front ≡ m.reading.start = x.ends ∙ ap (λ (y : Bool). if y then start_of m.scan.mode m.scan.start m.scan.used else m.reading.start)
      f in
      let n = longest_open g l u vs m b t ts e wait v rest s i w in
      omega (arith, n, ends)

  none_longer : Waits g l m.scan m.reading.now → NoneLonger (stood_front g l u vs m b still).front
  none_longer wait = by (is_fresh m.reading) refl
    where
      by : (x : Bool) → is_fresh m.reading ≡ x → NoneLonger (stood_front g l u vs m b still).front
      by true f = between f
      by false f = within_item wait f b.item refl

  -- The octets show the values given, and what is left stands open.
  pub stood_shows : Waits g l m.scan m.reading.now → Within g l m → Shows (Whole g l) (λ front rest. OpenRest l rest) u vs
  stood_shows wait within =
      let x = stood_front g l u vs m b still in
      record {
        shown = record {
          front = x.front;
          open_rest = x.rest;
          parts = x.parts;
          whole = λ following octets. x.whole following;
          longest = none_longer wait;
        };
        rest = open_rest g l u vs m b within x.front x.rest x.parts x.ends;
      }
