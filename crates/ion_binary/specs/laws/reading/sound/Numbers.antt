-- What an octet of a VarUInt leaves stands for the octets: of a length, a field's name, or annotations.
use Rattle.std.proofs.Common.{◌≡◌, ℕ, ◌+◌, ◌-◌, ◌*◌, ◌^◌, ◌<◌, ◌≤◌, List, [], ◌∷◌, ◌++◌, length, Result, Ok, Err, Option, refl, ap, sym, ◌∙◌, arith, length-append, append_assoc, append-nil, ltb-true, ltb-false, eqb-true, nat_lt, ◌==◌}
use Rattle.std.proofs.lemmas.Bool.{cond_both, eqb-false, cond-true, cond-false, lt-leb, le-leb}
use Rattle.ion_binary.specs.Names.{Catalog, Digits128, EndsNumber, Frame, Ids, Limits, Purpose, Reason, Spot, Value, VarUInt, annotation_came, at, length-one, long, longer, more, no_ids, number_came, on_number, one_id, past, positional, positional_push, resolve, seven_bits, under}
use Rattle.ion_binary.specs.Deciding as deciding
use Rattle.ion_binary.specs.machine.Frames as frames
use Rattle.ion_binary.specs.laws.reading.Openings.{Numbered, numbered}
use Rattle.ion_binary.specs.laws.reading.RefusedRows.{annotation_row, count_row, header_here, long_row, none_row, number_row, value_row}
use Rattle.ion_binary.specs.laws.reading.Stands.{Leaves, MachineStands, NumberStands}
use Rattle.ion_binary.specs.laws.reading.sound.Bounds.{number_awaited, past_going, unless_leaves}
use Rattle.ion_binary.specs.laws.reading.sound.Containers.{length_3, regroup}
use Rattle.ion_binary.specs.laws.reading.sound.Headers.{sized_stands}

-- a VarUInt that ends with this octet
ended : (ds : List ℕ) (a b : ℕ) → Digits128 ds → a ≡ positional 128 ds → 128 ≤ b → 128 * a + (b - 128) < 2 ^ 63 → VarUInt (ds ++ b ∷ []) (128 * a + (b - 128))
ended ds a b s v h m =
    let i = positional_push 128 ds (b - 128) in
    record { digits = ds; last = b - 128; small = s; octets = ap (λ x. ds ++ x ∷ []) (omega arith); value = omega arith; bound = m }

seven_small : (b : ℕ) → b < 128 → seven_bits b ≡ b
seven_small b h = cond-false _ _ _ (lt-leb 128 b h)

seven_large : (b : ℕ) → 128 ≤ b → seven_bits b ≡ b - 128
seven_large b h = cond-true _ _ _ (le-leb 128 b h)

module _ (g : Catalog) (l : Limits) (spot : Spot) (s : List Value) (u : List ℕ) (b : ℕ) (e : spot.used ≡ length (u ++ b ∷ [])) where
  number_on : (fs : List Frame) (p : Purpose) (a : ℕ) (o : NumberStands g l spot.start spot.context s fs p a u) → u ++ b ∷ [] ≡ o.front ++ (o.digits ++ b ∷ [])
  number_on fs p a o = ap (λ x. x ++ b ∷ []) o.whole ∙ append_assoc o.front o.digits (b ∷ [])

  -- a VarUInt goes on
  goes_stands : (fs : List Frame) (p : Purpose) (a : ℕ) → NumberStands g l spot.start spot.context s fs p a u
      → (w : Numbered g l spot.start spot.context s fs p a u) → b < 128 → 128 * a + b < 2 ^ 63
      → Leaves g l (u ++ b ∷ []) s (longer (under g l) spot fs p (128 * a + b))
  goes_stands fs p a o w h bound = unless_leaves g l (u ++ b ∷ []) s _ (past l.item spot.start fs p spot.used)
      (λ x i. number_row g l spot.context spot.start w.ks w.q fs a u b w.frames' w.inside h x (ap (λ q. past l.item spot.start fs q (length u + 1)) w.same
      ∙ (ap (λ k. past l.item spot.start fs p k) (sym (e ∙ length-one u b)) ∙ i)))
      (λ j. record {
        used = e;
        standing = record {
          front = o.front;
          digits = o.digits ++ b ∷ [];
          whole = number_on fs p a o;
          begins = o.begins;
          small = more o.digits b o.small h;
          value = let v = o.value in let i = positional_push 128 o.digits b in omega arith;
          bound = bound;
          going = rw e at (past_going l spot.start fs p spot.used j);
        };
      })

  -- a VarUInt has ended
  came_stands : (fs : List Frame) (p : Purpose) (a n : ℕ) → (o : NumberStands g l spot.start spot.context s fs p a u)
      → (w : Numbered g l spot.start spot.context s fs p a u) → EndsNumber g l spot.context spot.start w.ks w.q n (u ++ b ∷ [])
      → VarUInt (o.digits ++ b ∷ []) n → Leaves g l (u ++ b ∷ []) s (number_came (under g l) spot fs p n)
  came_stands fs (Purpose.Length form) a n o w en v =
      let i = o.begins in
      let whole = rw (i.whole, append_assoc i.before) at (number_on fs (Purpose.Length form) a o) in
      let here = rw whole at (header_here g l spot.context spot.start w.ks w.q fs form n (u ++ b ∷ []) w.frames' w.same en) in
      rw whole (sized_stands g l spot s fs i.before (i.b ∷ (o.digits ++ b ∷ [])) form n i.outer (λ k. i.accepts) (long i.b (o.digits ++ b ∷ []) i.head v)
      (e ∙ ap length whole) i.admits.receives here (long_row g l spot.context spot.start fs form n _ here i.admits.fitting i.admits.named))
  came_stands (frames.Fields end ms ∷ fs) Purpose.FieldName a n o w en v =
      cond_both (nat_lt spot.used end) _ _ (Leaves g l (u ++ b ∷ []) s)
      (λ j.
      let room = ltb-true spot.used end j in
      record {
        used = e;
        standing = record {
          opened = record {
            front = o.front;
            id = o.digits ++ b ∷ [];
            k = n;
            whole = number_on (frames.Fields end ms ∷ fs) Purpose.FieldName a o;
            inside = o.begins;
            number = v;
            named = refl;
            within = omega arith;
          };
          receives = tt;
          more = omega arith;
        };
      })
      (λ j. let late = ltb-false spot.used end j in value_row g l spot.context spot.start w.ks w.q (frames.Fields end ms ∷ fs) fs end n ms (u ++ b ∷ [])
      w.frames' refl w.same en (omega arith))
  came_stands (frames.Annotated end ss ∷ fs) Purpose.AnnotationsLength a n o w en v =
      let whole = number_on (frames.Annotated end ss ∷ fs) Purpose.AnnotationsLength a o in
      let k1 = ap length whole in
      let k2 = length-append o.front (o.digits ++ b ∷ []) in
      cond_both (n == 0) _ _ (Leaves g l (u ++ b ∷ []) s) (λ z. none_row g l spot.context spot.start w.ks w.q (frames.Annotated end ss ∷ fs) n (u ++ b ∷ [])
      w.frames' w.same en (eqb-true n 0 z))
      (λ z.
      let some = eqb-false n 0 z in
      cond_both (nat_lt (spot.used + n) end) _ _ (Leaves g l (u ++ b ∷ []) s)
      (λ j.
      let room = ltb-true (spot.used + n) end j in
      record {
        used = e;
        standing = number_awaited g l spot.start spot.context s (frames.Annotated end ss ∷ fs) (Purpose.Annotation (spot.used + n)) (u ++ b ∷ [])
            (record {
              front = o.front;
              count = o.digits ++ b ∷ [];
              ids = [];
              n = n;
              whole = whole ∙ ap (λ x. o.front ++ x) (sym (append-nil (o.digits ++ b ∷ [])));
              box = o.begins.box;
              bare = o.begins.bare;
              number = v;
              some = omega arith;
              stops = omega arith;
              symbols = rw o.begins.none_yet no_ids;
              room = room;
            })
            (omega arith);
      })
      (λ j. let late = ltb-false (spot.used + n) end j in count_row g l spot.context spot.start w.ks w.q (frames.Annotated end ss ∷ fs) fs end n ss
      (u ++ b ∷ []) w.frames' refl w.same en (omega arith)))
  came_stands (frames.Annotated end ss ∷ fs) (Purpose.Annotation stop) a n o w en v = go (resolve spot.context n) refl
    where
      id : List ℕ
      id = o.digits ++ b ∷ []

      whole : u ++ b ∷ [] ≡ o.begins.front ++ (o.begins.count ++ (o.begins.ids ++ id))
      whole = number_on (frames.Annotated end ss ∷ fs) (Purpose.Annotation stop) a o
          ∙ (ap (λ x. x ++ id) o.begins.whole ∙ regroup o.begins.front o.begins.count o.begins.ids id)

      go : (r : Result (Option (List ℕ)) Reason) → resolve spot.context n ≡ r
          → Leaves g l (u ++ b ∷ []) s (annotation_came spot (frames.Annotated end ss ∷ fs) stop r)
      go (Err x) h = annotation_row g l spot.context spot.start w.ks w.q (frames.Annotated end ss ∷ fs) stop n (u ++ b ∷ []) x w.frames' w.same en h
      go (Ok t) h =
          let i = o.begins in
          let symbols : Ids spot.context (i.ids ++ id) (ss ++ t ∷ []) = one_id i.ids id ss n t i.symbols v h in
          let k1 = ap length whole in
          let k2 = length_3 i.front i.count (i.ids ++ id) in
          let k3 = length-one u b in
          let st = i.stops in
          let rm = i.room in
          let sm = i.some in
          let going = o.going in
          cond_both (spot.used == stop) _ _ (λ ph. MachineStands g l (u ++ b ∷ []) s (at spot (frames.Annotated end (ss ++ t ∷ []) ∷ fs) ph))
          (λ j.
          let here = eqb-true spot.used stop j in
          let full : i.n ≡ length (i.ids ++ id) = omega arith in
          record {
            used = e;
            standing = record {
              opened = record {
                front = i.front;
                count = i.count;
                ids = i.ids ++ id;
                whole = whole;
                box = i.box;
                bare = i.bare;
                number = rw full at i.number;
                some = omega arith;
                symbols = symbols;
                within = omega arith;
              };
              receives = tt;
              more = omega arith;
            };
          })
          (λ j.
          let apart = eqb-false spot.used stop j in
          record {
            used = e;
            standing = number_awaited g l spot.start spot.context s (frames.Annotated end (ss ++ t ∷ []) ∷ fs) (Purpose.Annotation stop) (u ++ b ∷ [])
                (record {
                  front = i.front;
                  count = i.count;
                  ids = i.ids ++ id;
                  n = i.n;
                  whole = whole;
                  box = i.box;
                  bare = i.bare;
                  number = i.number;
                  some = i.some;
                  stops = i.stops;
                  symbols = symbols;
                  room = i.room;
                })
                (omega arith);
          })
  came_stands _ _ a n o w en v = absurd o.begins

  -- what an octet of a number leads to stands for the octets
  pub number_stands : (fs : List Frame) (p : Purpose) (a : ℕ) → NumberStands g l spot.start spot.context s fs p a u
      → Leaves g l (u ++ b ∷ []) s (on_number (under g l) spot fs p a b)
  number_stands fs p a o =
      let w = numbered g l spot.start spot.context s fs p a u o in
      cond_both (nat_lt b 128) _ _ (Leaves g l (u ++ b ∷ []) s)
      (λ j. cond_both (nat_lt (128 * a + b) (2 ^ 63)) _ _ (Leaves g l (u ++ b ∷ []) s)
      (λ k. goes_stands fs p a o w (ltb-true b 128 j) (ltb-true (128 * a + b) (2 ^ 63) k))
      (λ k. let i = ltb-false (128 * a + b) (2 ^ 63) k in let q = seven_small b (ltb-true b 128 j) in
      deciding.too_large spot.context spot.start w.ks w.q a u b w.inside (omega arith)))
      (λ j. cond_both (nat_lt (128 * a + (b - 128)) (2 ^ 63)) _ _ (Leaves g l (u ++ b ∷ []) s) (λ k.
      let i = ltb-true (128 * a + (b - 128)) (2 ^ 63) k in
      let h = ltb-false b 128 j in
      came_stands fs p a _ o w
      (record { before = u; digits = a; last = b - 128; parts = ap (λ x. u ++ x ∷ []) (omega arith); inside = w.inside; value = refl; bound = i })
      (ended o.digits a b o.small o.value h i))
      (λ k. let i = ltb-false (128 * a + (b - 128)) (2 ^ 63) k in let q = seven_large b (ltb-false b 128 j) in
      deciding.too_large spot.context spot.start w.ks w.q a u b w.inside (omega arith)))
