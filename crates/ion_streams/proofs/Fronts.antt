-- What a writer took, one line after another.
use Rattle.std.proofs.Common.{◌≡◌, ℕ, ◌+◌, List, [], ◌∷◌, ◌++◌, length, ap, sym, ◌∙◌, arith, append-nil, append_assoc}
use Rattle.std.proofs.lemmas.List.{map-append, length-map}
use Rattle.ion_streams.specs.Names.{Catalog, Event, GaveSoFar, Inlet, Items, Limits, Outlet, Outline, ReadState, ShowsSoFar, Stood, TookFront, Value, accepted_line, at_end, at_refusal, in_reading, left_of, line_of, lines_from, lines_of, outline_of, plain, telling}
use Rattle.ion_symtab.specs.laws.Took.{Front-more}

lines_more : (index : ℕ) (s t : List Value) → lines_from index (s ++ t) ≡ lines_from index s ++ lines_from (index + length s) t
lines_more index [] t = ap (λ n. lines_from n t) (omega arith)
lines_more index (v ∷ s) t = ap (λ x. line_of index (outline_of v) ++ x) (lines_more (index + 1) s t)
    ∙ (sym (append_assoc (line_of index (outline_of v)) (lines_from (index + 1) s) (lines_from (index + 1 + length s) t))
    ∙ ap (λ n. (line_of index (outline_of v) ++ lines_from (index + 1) s) ++ lines_from n t) (omega arith))

-- the lines of what a document gave, and of one value more, of which this is told
pub line_next : (given : List (Value × ℕ)) (v : Value) (total : ℕ) (o : Outline) (n : ℕ) → length given ≡ n → outline_of v ≡ o
    → lines_of (plain given) ++ line_of (n + 1) o ≡ lines_of (plain (given ++ (v, total) ∷ []))
line_next given v total o n count told =
    let all : plain (given ++ (v, total) ∷ []) ≡ plain given ++ v ∷ [] = map-append (λ (x : Value × ℕ). x.0) given ((v, total) ∷ []) in
    let same : length (plain given) ≡ n = length-map given (λ (x : Value × ℕ). x.0) ∙ count in
    let index : n + 1 ≡ 1 + length (plain given) = omega (arith, same) in
    let line : line_of (n + 1) o ≡ lines_from (1 + length (plain given)) (v ∷ []) =
    ap (line_of (n + 1)) (sym told) ∙ (ap (λ (k : ℕ). line_of k (outline_of v)) index
    ∙ sym (append-nil (line_of (1 + length (plain given)) (outline_of v)))) in
    ap (λ x. lines_of (plain given) ++ x) line ∙ (sym (lines_more 1 (plain given) (v ∷ [])) ∙ ap lines_of (sym all))

-- where a reader told what octets are, one stands for them
abbrev pub OneStands : {X : Type 0} → Items X → Type 0
OneStands {X} I = (r : X) (u : List ℕ) (s : List (Value × ℕ)) (es : List Event) → I.told r u s es
    → (q : X) × I.stands q u s × (I.catalog q ≡ I.catalog r) × (I.limits q ≡ I.limits r)

-- so where a reader told these values so far, one gave them
pub gave_told : {S X : Type 0} (R : Inlet S) (I : Items X) (g : Catalog) (l : Limits) (first now : S) (s : List Value) (es : List Event)
    → OneStands I → GaveSoFar R (telling I es) g l first now s → GaveSoFar R I g l first now s
gave_told R I g l first now s es stands h =
    let each = h.gave.each in
    let q = stands h.items each.u h.gave.given es each.stood in
    record {
      items = q.0;
      left = h.left;
      ended = h.ended;
      gave = record {
        given = h.gave.given;
        each = record { u = each.u; heard = each.heard; stood = q.1; under = q.2 ∙ each.under; within = q.3 ∙ each.within };
        values = h.gave.values;
      };
    }

module _ {S X T : Type 0} (R : Inlet S) (I : Items X) (W : Outlet T) (g : Catalog) (l : Limits) (stands : OneStands I) where
  -- a front of the lines so far, wherever the document stands between two values
  pub so_far : (first now : S) (old new : T) (place : ReadState X) (s : List Value) → Stood R (telling I []) g l first now place s
      → TookFront W.took W.written old new (lines_of s) → ShowsSoFar R I W g l first now old new
  so_far first now old new (ReadState.Open source) s h front =
      in_reading s (gave_told R I g l first now s [] stands (record { items = source.items; left = left_of source; ended = source.ended; gave = h })) front
  so_far first now old new (ReadState.Refused refusal) s h front = at_refusal s refusal h front
  so_far first now old new ReadState.Ended s h front = at_end s h (Front-more W.took W.written old new (lines_of s) (accepted_line (length s)) front)
