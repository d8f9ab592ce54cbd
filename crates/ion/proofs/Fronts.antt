-- The values that a document gave so far are the front of the stream of what was heard.
use Rattle.std.proofs.Common.{◌≡◌, ℕ, List, [], ◌∷◌, ◌++◌, refl, ap, sym, subst, ◌∙◌, true, Option, Some, None, IsNone, IfSome, option_to_list, append_assoc, append-nil, ◌↔◌}
use Rattle.std.proofs.lemmas.List.{map-append}
use Rattle.ion.specs.Names.{Begins, Catalog, Grows, Inlet, Items, Limits, PieceReader, Reads, Streams, ToldDocument, Trace, Value, format_of, left_of, plain}
use Rattle.ion_symtab.specs.Trace as traces
use Rattle.ion.specs.Given.{GivesFront, IsFront}

-- what stands in front of the values of a trace stands in front of its stream
front_of_trace : (t : Trace) (given : List (Value × ℕ)) (s stream : List Value) → plain given ≡ s → traces.IsFront given t.given → Streams t stream
    → IsFront s stream
front_of_trace t given s stream values front streams =
    let later = plain front.0 ++ option_to_list streams.last in (
      later,
      streams.values ∙ (ap (λ (x : List (Value × ℕ)). plain x ++ option_to_list streams.last) front.1
          ∙ (ap (λ x. x ++ option_to_list streams.last) (map-append (λ (x : Value × ℕ). x.0) given front.0)
          ∙ (append_assoc (plain given) (plain front.0) (option_to_list streams.last)
          ∙ ap (λ x. x ++ later) values))),
    )

front_more : (given mid all : List (Value × ℕ)) → traces.IsFront given mid → traces.IsFront mid all → traces.IsFront given all
front_more given mid all a b = (a.0 ++ b.0, b.1 ∙ (ap (λ x. x ++ b.0) a.1 ∙ append_assoc given a.0 b.0))

-- the octet that is awaited, and behind it the others
awaited_parts : (u left more : List ℕ) (o : ℕ) (rest : List ℕ) → left ≡ o ∷ rest → (u ++ o ∷ []) ++ (rest ++ more) ≡ (u ++ left) ++ more
awaited_parts u left more o rest e =
    append_assoc u (o ∷ []) (rest ++ more) ∙ (sym (append_assoc u (o ∷ rest) more) ∙ ap (λ x. (u ++ x) ++ more) (sym e))

module _ {S X : Type 0} (R : Inlet S) (I : Items X) (g : Catalog) (l : Limits)
    (grows : (u w : List ℕ) → Grows (I.trace g l u) (I.trace g l (u ++ w)))
    (so_far : (r : X) (u : List ℕ) (s : List (Value × ℕ)) → I.stands r u s → IsNone (I.awaits r) → (I.trace (I.catalog r) (I.limits r) u).given ≡ s)
    (with_next : (r : X) (u : List ℕ) (s : List (Value × ℕ)) → I.stands r u s
    → IfSome (I.awaits r) (λ octet. traces.IsFront s (I.trace (I.catalog r) (I.limits r) (u ++ octet ∷ [])).given)) where
  front_given : (awaits : Option ℕ) (u left more : List ℕ) (given : List (Value × ℕ)) → Begins awaits left → (IsNone awaits → (I.trace g l u).given ≡ given) →
      IfSome awaits (λ octet. traces.IsFront given (I.trace g l (u ++ octet ∷ [])).given) → traces.IsFront given (I.trace g l ((u ++ left) ++ more)).given
  front_given None u left more given begins none some =
      let front = (grows u (left ++ more)).given in
      subst (λ (x : List ℕ). traces.IsFront given (I.trace g l x).given) (sym (append_assoc u left more))
      (subst (λ (x : List (Value × ℕ)). traces.IsFront x (I.trace g l (u ++ (left ++ more))).given) (none refl) front)
  front_given (Some o) u left more given begins none some =
      subst (λ (x : List ℕ). traces.IsFront given (I.trace g l x).given) (awaited_parts u left more o begins.0 begins.1)
      (front_more given (I.trace g l (u ++ o ∷ [])).given _ some (grows (u ++ o ∷ []) (begins.0 ++ more)).given)

  -- the values of a document that is open still are the front of the stream of what was heard
  pub front_open : (exact : (u : List ℕ) (s : List Value) → Streams (I.trace g l u) s ↔ I.denotes g l u s) (first now : S) (source : PieceReader X) (s : List Value)
      → Begins (I.awaits source.items) (left_of source) → Reads R I g l first now source s → GivesFront R (format_of I g l) first now s
  front_open exact first now source s begins h =
      let each = h.each in
      let none = rw (each.under, each.within) at (so_far source.items each.u h.given each.stood) in
      let some = rw (each.under, each.within) at (with_next source.items each.u h.given each.stood) in
      record {
        octets = each.u ++ left_of source;
        ended = source.ended;
        heard = each.heard;
        front = λ more t may d. front_of_trace (I.trace g l ((each.u ++ left_of source) ++ more)) h.given s t h.values
            (front_given (I.awaits source.items) each.u (left_of source) more h.given begins none some)
            ((exact ((each.u ++ left_of source) ++ more) t).1 d);
      }

-- a document that has ended gave all of its stream
pub front_ended : {S X : Type 0} (R : Inlet S) (I : Items X) (g : Catalog) (l : Limits) (one : (u : List ℕ) (s t : List Value) → I.denotes g l u s
    → I.denotes g l u t → s ≡ t) (first now : S) (s : List Value) → ToldDocument R (format_of I g l) first now s → GivesFront R (format_of I g l) first now s
front_ended R I g l one first now s h =
    record {
      octets = h.octets;
      ended = true;
      heard = h.heard;
      front = λ more t may d. (
        [],
        one h.octets t s (subst (λ (x : List ℕ). I.denotes g l x t) (ap (λ x. h.octets ++ x) (may refl) ∙ append-nil h.octets) d)
            h.denoted ∙ sym (append-nil s),
      );
    }
