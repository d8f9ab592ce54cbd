-- Catalogs that are loaded value by value.
use Rattle.std.proofs.Common.{◌≡◌, ℕ, List, [], ◌∷◌, ◌++◌, length, refl, ap, sym, subst, ◌∙◌, Option, Some, None, IfSome, IsNone, Result, Ok, Err, inl, true, append_assoc, append-nil}
use Rattle.ion_streams.specs.Names.{Begins, Catalog, Grows, IfOpen, Inlet, IsCatalog, IsFront, IsLoaded, IsReady, Items, Limits, MayFollow, ReadState, Reason, Refusal, StoodEach, Table, Trace, Value, added, catalog_of, format_of, given_last, left_of, then_at}

-- values behind others that describe tables
ok_behind : (r : Result (List Table) Reason) (total : ℕ) (f g : List Table → Result (List Table) Refusal) (h : List Table → Result (List Table) Refusal)
    (tables : List Table) →
    ((more : List Table) → f more ≡ Ok tables → g more ≡ h tables) → then_at total r f ≡ Ok tables → then_at total r g ≡ h tables
ok_behind (Ok more) total f g h tables go e = go more e
ok_behind (Err reason) total f g h tables go e = absurd cc

-- values that describe tables, and others behind them, describe what those do behind these tables
pub catalog_ok : (before : List Table) (given later : List (Value × ℕ)) (tables : List Table) → catalog_of before given ≡ Ok tables
    → catalog_of before (given ++ later) ≡ catalog_of tables later
catalog_ok before [] later tables e = let same : before ≡ tables = cc in ap (λ x. catalog_of x later) same
catalog_ok before (x ∷ given) later tables e =
    ok_behind (added before x.0) x.1 (λ more. catalog_of more given) (λ more. catalog_of more (given ++ later)) (λ more. catalog_of more later) tables
    (λ more. catalog_ok more given later tables) e

-- values behind one that is refused
err_behind : (r : Result (List Table) Reason) (total : ℕ) (f g : List Table → Result (List Table) Refusal) (refusal : Refusal) →
    ((more : List Table) → f more ≡ Err refusal → g more ≡ Err refusal) → then_at total r f ≡ Err refusal → then_at total r g ≡ Err refusal
err_behind (Ok more) total f g refusal go e = go more e
err_behind (Err reason) total f g refusal go e = e

pub catalog_err : (before : List Table) (given later : List (Value × ℕ)) (refusal : Refusal) → catalog_of before given ≡ Err refusal
    → catalog_of before (given ++ later) ≡ Err refusal
catalog_err before [] later refusal e = absurd cc
catalog_err before (x ∷ given) later refusal e =
    err_behind (added before x.0) x.1 (λ more. catalog_of more given) (λ more. catalog_of more (given ++ later)) refusal
    (λ more. catalog_err more given later refusal) e

-- the values given so far are the first that the octets give, whatever follows
pub front_of : (T : List ℕ → Trace) → ((u w : List ℕ) → Grows (T u) (T (u ++ w))) → (awaits : Option ℕ) (u left more : List ℕ) (given : List (Value × ℕ))
    → Begins awaits left →
    (IsNone awaits → (T u).given ≡ given) → IfSome awaits (λ octet. IsFront given (T (u ++ octet ∷ [])).given) → IsFront given (T ((u ++ left) ++ more)).given
front_of T settled None u left more given begins so_far with_next =
    let e = so_far refl in
    let grows = settled u (left ++ more) in
    subst (λ (x : List ℕ). IsFront given (T x).given) (sym (append_assoc u left more)) (grows.given.0, grows.given.1 ∙ ap (λ x. x ++ grows.given.0) e)
front_of T settled (Some octet) u left more given begins so_far with_next =
    let grows = settled (u ++ octet ∷ []) (begins.0 ++ more) in
    let whole : (u ++ octet ∷ []) ++ (begins.0 ++ more) ≡ (u ++ left) ++ more =
    append_assoc u (octet ∷ []) (begins.0 ++ more) ∙ (ap (λ x. u ++ (x ++ more)) (sym begins.1) ∙ sym (append_assoc u left more)) in
    subst (λ (x : List ℕ). IsFront given (T x).given) whole
    (with_next.0 ++ grows.given.0, grows.given.1 ∙ (ap (λ x. x ++ grows.given.0) with_next.1 ∙ append_assoc given with_next.0 grows.given.0))

-- behind an end nothing follows
ended_all : (P : List ℕ → Type 0) (octets more : List ℕ) → MayFollow true more → P octets → P (octets ++ more)
ended_all P octets more none h = subst P (sym (ap (λ x. octets ++ x) (none refl) ∙ append-nil octets)) h

module _ {S X : Type 0} (R : Inlet S) (I : Items X) (g : Catalog) (l : Limits) where
  -- a value is refused, wherever the document stands
  pub value_refused : ((u w : List ℕ) → Grows (I.trace g l u) (I.trace g l (u ++ w))) →
      ((r : X) (u : List ℕ) (given : List (Value × ℕ)) → I.stands r u given → IsNone (I.awaits r) → (I.trace (I.catalog r) (I.limits r) u).given ≡ given) →
      ((r : X) (u : List ℕ) (given : List (Value × ℕ)) → I.stands r u given
      → IfSome (I.awaits r) (λ octet. IsFront given (I.trace (I.catalog r) (I.limits r) (u ++ octet ∷ [])).given)) →
      (first now : S) (place : ReadState X) (given : List (Value × ℕ)) (refusal : Refusal) → StoodEach R I g l first now place given → IfOpen place (IsReady I)
      → catalog_of [] given ≡ Err refusal →
      IsLoaded R (format_of I g l) first now (Err refusal)
  value_refused settled so_far with_next first now (ReadState.Open source) given refusal h ready e =
      record {
        octets = h.u ++ left_of source;
        ended = source.ended;
        heard = h.heard;
        decided = λ more _.
            let front = front_of (λ u. I.trace g l u) settled (I.awaits source.items) h.u (left_of source) more given ready.begins
            (rw (h.under, h.within) at (so_far source.items h.u given h.stood)) (rw (h.under, h.within) at (with_next source.items h.u given h.stood)) in
            let w = (h.u ++ left_of source) ++ more in
            let last = given_last (I.trace g l w).ends (length w) in
            inl (catalog_err [] (I.trace g l w).given last refusal (ap (λ x. catalog_of [] x) front.1 ∙ catalog_err [] given front.0 refusal e));
      }
  value_refused settled so_far with_next first now ReadState.Ended given refusal h ready e =
      record {
        octets = h.octets;
        ended = true;
        heard = h.heard;
        decided = λ more none. ended_all (λ x. IsCatalog (format_of I g l) x (Err refusal)) h.octets more none (inl (ap (λ x. catalog_of [] x) h.ends.all ∙ e));
      }
  value_refused settled so_far with_next first now (ReadState.Refused early) given refusal h ready e =
      record { octets = h.octets; ended = h.ended; heard = h.heard; decided = λ more may. inl (ap (λ x. catalog_of [] x) (h.ends more may).all ∙ e) }
