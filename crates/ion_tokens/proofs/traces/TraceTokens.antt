-- A trace that ends well tells the tokens that the octets are.
use Rattle.std.proofs.Common.{◌≡◌, ℕ, zero, suc, ◌+◌, ◌<◌, false, List, [], ◌∷◌, ◌++◌, refl, sym, ap, ◌∙◌, subst, arith, append_assoc, append-nil}
use Rattle.std.specs.Prelude.{Option, Some, None, Result, Ok, Err, option_to_list}
use Rattle.ion_tokens.specs.Names.{Content, Continues, Given, IsBody, Known, Leads, Left, Lexeme, Lexes, Next, Outcome, Passes, Place, Placed, Places, Reason, Refusal, Refused, Scanned, Stops, Told, Trail, at_end, comes, debt, end_judged, feed, initial, judged, last_judged, over, said, says, takes, then_by, trace, traced}
use Rattle.ion_tokens.specs.laws.Judged.{body_passes}
use Rattle.ion_tokens.specs.laws.Tokens.{AreTold, TellsLexeme}
use Rattle.ion_tokens.proofs.histories.Stepped.{all_since, begun_scanned, end_goes}
use Rattle.ion_tokens.proofs.sound.Told.{ends_in_token}
use Rattle.ion_tokens.proofs.traces.Traced.{debt_small, left_owes}
use Rattle.ion_tokens.proofs.runs.Scans.{scanned_given, scanned_left, scanned_next}

-- what was told before, and one token more
told_one : (places : Places) (before : List Told) (ts : List Placed) (xs : List Told) (t : Placed) (x : Told) → AreTold places before ts xs
    → t.place ≡ places (before ++ xs) → TellsLexeme t.lexeme x
    → AreTold places before (ts ++ t ∷ []) (xs ++ x ∷ [])
told_one places before [] [] t x h p i = (p ∙ ap places (append-nil before), i, tt)
told_one places before (u ∷ us) (y ∷ ys) t x h p i =
    (h.0, h.1, told_one places (before ++ y ∷ []) us ys t x h.2 (p ∙ ap places (sym (append_assoc before (y ∷ []) ys))) i)
told_one places before _ _ t x h p i = absurd h

-- a scanner that told tokens as a trace does, behind these octets
record TellsFurther (places : Places) (told : List Told) (s : Known) (u ahead : List ℕ) : Type 0 where
  ts : List Placed
  are : AreTold places [] ts told
  scanned : (q : Place) → q ≡ places told → Scanned q s u ts ahead

module _ (places : Places) where
  is_told : (l : Lexeme) (s : Known) (c : Content) → said l.kind l.octets ≡ Ok c
      → TellsLexeme l (record { start = l.start; end = l.end; says = c; total = s.used })
  is_told l s c e = record { start = refl; end = refl; says = subst (λ r. IsBody l.kind l.octets r) e (says l.kind l.octets) }

  passes : (l : Lexeme) (c : Content) → said l.kind l.octets ≡ Ok c → Passes l.kind l.octets
  passes l c e = body_passes l.kind l.octets c (subst (λ r. IsBody l.kind l.octets r) e (says l.kind l.octets))

  module _ (told : List Told) (s : Known) (u ahead : List ℕ) (h : TellsFurther places told s u ahead) (o : ℕ) (c : Continues (o ∷ []) ahead) where
    abbrev p : Place
    p = places told

    b : Scanned p s u h.ts ahead
    b = h.scanned p refl

    used : (t : Known) → feed p s o ≡ Next t → TellsFurther places told t (u ++ o ∷ []) []
    used t e = record {
      ts = h.ts;
      are = h.are;
      scanned = λ q same. subst (λ q. Scanned q t (u ++ o ∷ []) h.ts []) (sym same) (scanned_next p s u h.ts ahead b o c t e);
    }

    given : (l : Lexeme) (t : Known) (x : Content) → said l.kind l.octets ≡ Ok x → feed p s o ≡ Given l t
        → TellsFurther places (told ++ record { start = l.start; end = l.end; says = x; total = t.used } ∷ []) t (u ++ o ∷ []) []
    given l t x say e = record {
      ts = h.ts ++ record { place = p; lexeme = l } ∷ [];
      are = told_one places [] h.ts told (record { place = p; lexeme = l }) (record { start = l.start; end = l.end; says = x; total = t.used }) h.are refl
          (is_told l t x say);
      scanned = λ q same. scanned_given p s u h.ts ahead b o c t l e (passes l x say) q;
    }

    left : (l : Lexeme) (t : Known) (x : Content) → said l.kind l.octets ≡ Ok x → feed p s o ≡ Left l t
        → TellsFurther places (told ++ record { start = l.start; end = l.end; says = x; total = t.used } ∷ []) t u (o ∷ [])
    left l t x say e = record {
      ts = h.ts ++ record { place = p; lexeme = l } ∷ [];
      are = told_one places [] h.ts told (record { place = p; lexeme = l }) (record { start = l.start; end = l.end; says = x; total = t.used }) h.are refl
          (is_told l t x say);
      scanned = λ q same. scanned_left p s u h.ts ahead b o c t l e (passes l x say) q;
    }

  told_in : Trail → List Told → List Told
  told_in (Leads ts s) d = ts
  told_in _ d = d

  known_in : Trail → Known → Known
  known_in (Leads ts s) d = s
  known_in _ d = d

  by_names : (told us : List Told) (s t : Known) (u ahead : List ℕ) → Leads us t ≡ Leads told s → TellsFurther places us t u ahead
      → TellsFurther places told s u ahead
  unfolding told_in known_in
  by_names told us s t u ahead e h = subst (λ x. TellsFurther places (told_in x us) (known_in x t) u ahead) e h

  -- one octet
  takes_follows : (n : ℕ) (told : List Told) (s : Known) (u ahead : List ℕ) (o : ℕ) → debt s.mode < n → TellsFurther places told s u ahead
      → Continues (o ∷ []) ahead → (told' : List Told) (s' : Known)
      → takes n places o told s ≡ Leads told' s' → TellsFurther places told' s' (u ++ o ∷ []) []
  takes_follows zero told s u ahead o less h c told' s' e = absurd (omega arith)
  takes_follows (suc n) told s u ahead o less h c told' s' e =
      by (feed (places told) s o) refl e (λ us t small f. takes_follows n us t u (o ∷ []) o small f ([], refl) told' s')
    where
      stopped : (l : Lexeme) (decided : ℕ) (t : Known) (r : Result Content Reason)
          → ((x : Content) → r ≡ Ok x → Leads (told ++ record { start = l.start; end = l.end; says = x; total = t.used } ∷ []) t ≡ Leads told' s'
          → TellsFurther places told' s' (u ++ o ∷ []) [])
          → judged told l decided t r ≡ Leads told' s' → TellsFurther places told' s' (u ++ o ∷ []) []
      stopped l decided t (Ok x) f g = f x refl g
      stopped l decided t (Err r) f g = cc

      again : (l : Lexeme) (t : Known) (r : Result Content Reason)
          → ((x : Content) → r ≡ Ok x → takes n places o (told ++ record { start = l.start; end = l.end; says = x; total = t.used } ∷ []) t ≡ Leads told' s'
          → TellsFurther places told' s' (u ++ o ∷ []) [])
          → then_by (judged told l (t.used + 1) t r) (takes n places o) ≡ Leads told' s' → TellsFurther places told' s' (u ++ o ∷ []) []
      again l t (Ok x) f g = f x refl g
      again l t (Err r) f g = cc

      by : (x : Outcome) → feed (places told) s o ≡ x → comes (takes n places o) told x ≡ Leads told' s'
          → ((us : List Told) (t : Known) → debt t.mode < n → TellsFurther places us t u (o ∷ []) → takes n places o us t ≡ Leads told' s'
          → TellsFurther places told' s' (u ++ o ∷ []) []) → TellsFurther places told' s' (u ++ o ∷ []) []
      by (Next t) f g more = by_names told' told s' t (u ++ o ∷ []) [] g (used told s u ahead h o c t f)
      by (Given l t) f g more = stopped l t.used t (said l.kind l.octets)
          (λ x say same. by_names told' (told ++ record { start = l.start; end = l.end; says = x; total = t.used } ∷ []) s' t (u ++ o ∷ []) [] same
          (given told s u ahead h o c l t x say f)) g
      by (Left l t) f g more = again l t (said l.kind l.octets)
          (λ x say same. let owes = left_owes (places told) s t o l f in
          more (told ++ record { start = l.start; end = l.end; says = x; total = t.used } ∷ []) t (omega arith) (left told s u ahead h o c l t x say f)
          same) g
      by (Refused k r) f g more = cc

  -- all octets
  over_follows : (octets : List ℕ) (told : List Told) (s : Known) (u : List ℕ) → TellsFurther places told s u [] → (told' : List Told) (s' : Known)
      → over places octets told s ≡ Leads told' s' → TellsFurther places told' s' (u ++ octets) []
  over_follows [] told s u h told' s' e = subst (λ v. TellsFurther places told' s' v []) (sym (append-nil u)) (by_names told' told s' s u [] e h)
  over_follows (o ∷ os) told s u h told' s' e = by (takes 3 places o told s) refl e (λ us t f. over_follows os us t (u ++ o ∷ []) f told' s')
    where
      by : (x : Trail) → takes 3 places o told s ≡ x → then_by x (over places os) ≡ Leads told' s'
          → ((us : List Told) (t : Known) → TellsFurther places us t (u ++ o ∷ []) [] → over places os us t ≡ Leads told' s'
          → TellsFurther places told' s' ((u ++ o ∷ []) ++ os) []) → TellsFurther places told' s' (u ++ o ∷ os) []
      by (Leads us t) f g more = subst (λ v. TellsFurther places told' s' v []) (append_assoc u (o ∷ []) os)
          (more us t (takes_follows 3 told s u [] o (debt_small s.mode) h (o ∷ [], refl) us t f) g)
      by (Stops us r) f g more = cc

  begins_follows : TellsFurther places [] initial [] []
  begins_follows = record { ts = []; are = tt; scanned = λ q same. begun_scanned q initial refl }

  -- the octets are the tokens told, and the one that the end shows
  ends_follows : (u : List ℕ) (told : List Told) (s : Known) (last : Option Told) → TellsFurther places told s u [] → end_judged s.used (at_end (places told) s)
      ≡ Ok last
      → (ts : List Placed) × Lexes false 0 u ts × AreTold places [] ts (told ++ option_to_list last)
  ends_follows u told s last h e = by (at_end (places told) s) refl e
    where
      b : Scanned (places told) s u h.ts []
      b = h.scanned (places told) refl

      last_of : Result (Option Told) Refusal → Option Told
      last_of (Ok x) = x
      last_of (Err r) = None

      said_last : (l : Lexeme) (r : Result Content Reason) → said l.kind l.octets ≡ r → at_end (places told) s ≡ Ok (Some l) → last_judged l s.used r ≡ Ok last
          → (ts : List Placed) × Lexes false 0 u ts × AreTold places [] ts (told ++ option_to_list last)
      said_last l (Err r) say end f = cc
      said_last l (Ok c) say end f =
          let k = all_since (places told) s u h.ts b in
          let t : Placed = record { place = places told; lexeme = l } in
          let x : Told = record { start = l.start; end = l.end; says = c; total = s.used } in (
            h.ts ++ t ∷ [],
            subst (λ o. Lexes false 0 o (h.ts ++ t ∷ [])) (sym b.cut)
                (ends_in_token b.behind s b.front h.ts b.left b.since k.0 (places told) l b.told b.pass k.1 b.ran end (passes l c say)),
            subst (λ y. AreTold places [] (h.ts ++ t ∷ []) (told ++ option_to_list y)) (ap last_of f)
                (told_one places [] h.ts told t x h.are refl (is_told l s c say)),
          )

      by : (r : Result (Option Lexeme) Reason) → at_end (places told) s ≡ r → end_judged s.used r ≡ Ok last → (ts : List Placed) × Lexes false 0 u ts
          × AreTold places [] ts (told ++ option_to_list last)
      by (Ok None) end f = (
        h.ts,
        end_goes (places told) s u h.ts b (Ok None) None end refl,
        subst (λ y. AreTold places [] h.ts (told ++ option_to_list y)) (ap last_of f) (subst (λ y. AreTold places [] h.ts y) (sym (append-nil told)) h.are),
      )
      by (Ok (Some l)) end f = said_last l (said l.kind l.octets) refl end f
      by (Err r) end f = cc

-- Where the trace of octets ends well, the octets are the tokens told and the one that the end shows.
pub trace_is_exact : (places : Places) (u : List ℕ) (last : Option Told) → (trace places u).ends ≡ Ok last → (ts : List Placed) × Lexes false 0 u ts
    × AreTold places [] ts ((trace places u).told ++ option_to_list last)
trace_is_exact places u last e = by (over places u [] initial) refl e
  where
    by : (x : Trail) → over places u [] initial ≡ x → (traced places x).ends ≡ Ok last → (ts : List Placed) × Lexes false 0 u ts
        × AreTold places [] ts ((traced places x).told ++ option_to_list last)
    by (Leads told s) f e = ends_follows places u told s last (over_follows places u [] initial [] (begins_follows places) told s f) e
    by (Stops told r) f e = cc
