-- Pieces of octets that are used from the front.
use Rattle.std.proofs.Common.{◌≡◌, ℕ, ◌+◌, ◌-◌, ◌≤◌, List, [], ◌++◌, take, drop, refl, ap, sym, subst, ◌∙◌, arith, Option, Some, None, IsNone, append_assoc}
use Rattle.std.proofs.lemmas.List.{take-append-drop, drop-take, drop-drop}
use Rattle.ion_streams.specs.Names.{Begins, Items, PieceReader, Value, Went, between, given_at, left_of}

pub between_drop : (piece : List ℕ) (at end used : ℕ) → used ≤ end - at → drop used (between piece at end) ≡ between piece (at + used) end
between_drop piece at end used h =
    let e : end - at ≡ used + (end - (at + used)) = omega arith in
    ap (λ n. drop used (take n (drop at piece))) e ∙ (drop-take used (end - (at + used)) (drop at piece)
    ∙ ap (take (end - (at + used))) (drop-drop used at piece))

pub between_cut : (piece : List ℕ) (at end used : ℕ) → used ≤ end - at → take used (between piece at end) ++ between piece (at + used) end
    ≡ between piece at end
between_cut piece at end used h = ap (λ x. take used (between piece at end) ++ x) (sym (between_drop piece at end used h))
    ∙ take-append-drop used (between piece at end)

-- between a place and one before it stand no octets
pub between_nil : (piece : List ℕ) (at end : ℕ) → end ≤ at → between piece at end ≡ []
between_nil piece at end h = let e : end - at ≡ 0 = omega arith in ap (λ n. take n (drop at piece)) e

-- octets used from the front of what is left of a piece lead on, with the value that they gave
pub went : {X : Type 0} (I : Items X) (u : List ℕ) (given : List (Value × ℕ)) (piece : List ℕ) (at end used total : ℕ) (after : PieceReader X) (value : Option Value)
    →
    used ≤ end - at → left_of after ≡ between piece (at + used) end → total ≡ after.used
    → I.stands after.items (u ++ take used (between piece at end)) (given ++ given_at value total) → Went I u given (between piece at end) after value
went I u given piece at end used total after value fits rest same h = record {
  to = u ++ take used (between piece at end);
  stood = subst (λ (n : ℕ). I.stands after.items (u ++ take used (between piece at end)) (given ++ given_at value n)) same h;
  octets = ap (λ x. (u ++ take used (between piece at end)) ++ x) rest
      ∙ (append_assoc u (take used (between piece at end)) (between piece (at + used) end) ∙ ap (λ x. u ++ x) (between_cut piece at end used fits));
}

-- what is left behind the octets used begins with the one that is awaited, as it should
pub begins_drop : (awaits : Option ℕ) (piece : List ℕ) (at end used : ℕ) → used ≤ end - at → Begins awaits (drop used (between piece at end))
    → Begins awaits (between piece (at + used) end)
begins_drop None piece at end used fits h = h
begins_drop (Some b) piece at end used fits h = (h.0, sym (between_drop piece at end used fits) ∙ h.1)

-- where nothing is left, nothing is awaited
pub none_awaited : (awaits : Option ℕ) (rest : List ℕ) → rest ≡ [] → Begins awaits rest → IsNone awaits
none_awaited None rest e h = refl
none_awaited (Some b) rest e h = let l = sym h.1 ∙ e in absurd cc
