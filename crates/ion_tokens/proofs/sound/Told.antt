-- What the scanner tells is what the octets are.
use Rattle.std.proofs.Common.{◌≡◌, ℕ, ◌+◌, Bool, false, List, [], ◌∷◌, ◌++◌, length, refl, sym, ap, ◌∙◌, subst, append_assoc, append-nil}
use Rattle.std.specs.Prelude.{Some, None, Ok}
use Rattle.ion_tokens.specs.Names.{AllPass, IsLastBlank, Known, Lexeme, Lexes, LexesTo, Next, Passes, Place, Placed, Stands, at_end, colon_behind, run}
use Rattle.ion_tokens.proofs.sound.Holds.{blank_none}
use Rattle.ion_tokens.proofs.sound.SoundEnds.{EndSound, IsLastToken, end_sound}
use Rattle.ion_tokens.proofs.sound.SoundHistories.{HasTold, stands_tells}
use Rattle.ion_tokens.proofs.sound.Sounds.{RunSound, run_sound}

-- tokens up to some octets, and tokens in the others
pub lexes_behind : (ts others : List Placed) (colon : Bool) (before : ℕ) (octets : List ℕ) (after : Bool) (end : ℕ) (rest : List ℕ)
    → LexesTo colon before octets ts after end rest → Lexes after end rest others → Lexes colon before octets (ts ++ others)
lexes_behind [] others colon before octets after end rest (c, b, o) h =
    subst (λ x. Lexes x before octets others) (sym c) (subst (λ (x : ℕ). Lexes after x octets others) (sym b) (subst (λ x. Lexes after end x others) (sym o) h))
lexes_behind (t ∷ ts) others colon before octets after end rest (q, b, l) h = (q, b, lexes_behind ts others (colon_behind t) t.lexeme.end q after end rest l h)

-- The octets taken up begin with the tokens told, with blanks alone between, before all that may follow.
pub told_right : (s : Known) (u : List ℕ) (ts : List Placed) (ahead : List ℕ) → Stands s u ts ahead → AllPass ts → (r more : List ℕ) → r ≡ ahead ++ more
    → (after : Bool) × (end : ℕ) × (rest : List ℕ) × LexesTo false 0 (u ++ r) ts after end rest
told_right s u ts ahead h pass r more e = let t = stands_tells s u ts ahead h pass in (t.colon, t.end, t.since ++ r, t.lexes r more e)

-- what the scanner knows at the end of the octets
at_the_end : (s s' : Known) (u : List ℕ) (ts : List Placed) (ahead rest : List ℕ) (p : Place) (t : HasTold s u ts ahead) → run p rest s ≡ Next s'
    → EndSound p t.colon t.end (t.since ++ rest) (at_end p s')
at_the_end s s' u ts ahead rest p t e = end_sound p t.colon t.end s' (t.since ++ rest)
    (subst (λ x. RunSound p t.colon t.end t.since rest x) e (run_sound p t.colon t.end rest t.since s (t.holds p)))

-- Where the end shows no token, the octets are the tokens told and a blank.
pub ends_in_blank : (s s' : Known) (u : List ℕ) (ts : List Placed) (ahead rest more : List ℕ) (p : Place) → Stands s u ts ahead → AllPass ts
    → rest ≡ ahead ++ more → run p rest s ≡ Next s' → at_end p s' ≡ Ok None → Lexes false 0 (u ++ rest) ts
ends_in_blank s s' u ts ahead rest more p h pass cut e none =
    let t = stands_tells s u ts ahead h pass in
    let blank : IsLastBlank (t.since ++ rest) = subst (λ x. EndSound p t.colon t.end (t.since ++ rest) x) none (at_the_end s s' u ts ahead rest p t e) in
    subst (λ l. Lexes false 0 (u ++ rest) l) (append-nil ts)
    (lexes_behind ts [] false 0 (u ++ rest) t.colon t.end (t.since ++ rest) (t.lexes rest more cut) blank)

-- Where it shows one, they are the tokens told, a blank and that one.
pub ends_in_token : (s s' : Known) (u : List ℕ) (ts : List Placed) (ahead rest more : List ℕ) (p : Place) (l : Lexeme) → Stands s u ts ahead → AllPass ts
    → rest ≡ ahead ++ more → run p rest s ≡ Next s' → at_end p s' ≡ Ok (Some l) → Passes l.kind l.octets
    → Lexes false 0 (u ++ rest) (ts ++ record { place = p; lexeme = l } ∷ [])
ends_in_token s s' u ts ahead rest more p l h pass cut e some passes =
    let t = stands_tells s u ts ahead h pass in
    let last : IsLastToken p t.colon t.end (t.since ++ rest) l =
    subst (λ x. EndSound p t.colon t.end (t.since ++ rest) x) some (at_the_end s s' u ts ahead rest p t e) in
    lexes_behind ts (record { place = p; lexeme = l } ∷ []) false 0 (u ++ rest) t.colon t.end (t.since ++ rest) (t.lexes rest more cut) (
      [],
      record {
        blank = last.front;
        token = last.token;
        is_blank = last.blank;
        cut = last.cut ∙ sym (append-nil (last.front ++ last.token));
        start =
            last.start;
        end = last.end;
        is = last.found passes;
      },
      inl' blank_none,
    )
  where
    inl' : Rattle.ion_tokens.specs.Blanks.IsBlank [] → IsLastBlank []
    inl' b = Rattle.std.proofs.Common.inl b
