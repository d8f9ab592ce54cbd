-- Which tokens are one word of the form of a version marker.
use Rattle.std.proofs.Common.{◌≡◌, ℕ, ◌-◌, ◌^◌, ◌==◌, min, arith, nat_lt, List, [], ◌∷◌, ◌++◌, length, Bool, true, false, Ok, Option, Some, None, refl, ap, ◌∙◌, if◌then◌else◌, codes, ◌&&◌}
use Rattle.std.proofs.lemmas.Bool.{and_right}
use Rattle.std.proofs.lemmas.Slice.Eq.{bytes_eq-Decides}
use Rattle.std.specs.Str.{bytes_eq}
use Rattle.std.specs.List.{list_all}
use Rattle.std.proofs.lemmas.Bool.Decides.{nat_tests}
use Rattle.ion_text.specs.Names.{Annotations, Content, Held, Id, IsBody, IsWordBody, Kind, Long, Place, Placed, Segments, Slot, Symbols, TokenKind, Word, behind_front, held_word, id_of, is_digit, is_version, is_version_word, joined, no_annotation, number_in, one_annotation, segment, the_marker, version_parts}
use Rattle.ion_text.specs.laws.reading.complete.Complete.{is_unmarked, word_token}

-- a token that says neither a word nor an id isn't of that kind
pub other_word : (t : Placed) (said : Content) → ((w : List ℕ) → said ≡ Word w → ⊥) → ((id : ℕ) → said ≡ Id id → ⊥)
    → IsBody t.lexeme.kind t.lexeme.octets (Ok said) → is_version_word (t ∷ []) ≡ false
other_word t said n m h = go t.lexeme.kind h
  where
    word : (id : Option ℕ) → IsWordBody t.lexeme.octets id (Ok said) → ⊥
    word None h = n t.lexeme.octets h.0
    word (Some id) h = m id (let e : said ≡ Id id = cc in e)

    go : (k : TokenKind) → IsBody k t.lexeme.octets (Ok said)
        → is_version_word (record { place = t.place; lexeme = record { start = t.lexeme.start; end = t.lexeme.end; kind = k; octets = t.lexeme.octets } } ∷ [])
        ≡ false
    go TokenKind.Word h = absurd (word (id_of t.lexeme.octets) h)
    go _ h = refl

-- `$` and digits are no version marker
pub id_no_version : (w : List ℕ) (id : ℕ) → id_of w ≡ Some id → is_version w ≡ false
id_no_version [] id h = refl
id_no_version (o ∷ []) id h = and_right (36 == o) false refl
id_no_version (o ∷ x ∷ xs) id h = and_right (36 == o) _ (go (o == 36) (nat_lt 0 (length (x ∷ xs))) (is_digit x) (list_all is_digit xs) refl h)
  where
    digit : (x : ℕ) → is_digit x ≡ true → (105 == x) ≡ false
    digit x h = grind (arith, nat_tests)

    go : (a m b d : Bool) → is_digit x ≡ b → (if a && m && (b && d) then Some (min (number_in 0 (x ∷ xs)) (2 ^ 64 - 1)) else None) ≡ Some id
        → ((105 == x) && behind_front (codes "on_") xs version_parts) ≡ false
    go a m true d e h = ap (λ b. b && behind_front (codes "on_") xs version_parts) (digit x e)
    go true true false d e h = absurd (let n : None ≡ Some id = h in cc)
    go _ _ false d e h = absurd (let n : None ≡ Some id = h in cc)

-- an id is no version marker
pub id_no_word : (t : Placed) (id : ℕ) → IsBody t.lexeme.kind t.lexeme.octets (Ok (Id id)) → is_version_word (t ∷ []) ≡ false
id_no_word t id h = go t.lexeme.kind h
  where
    word : (x : Option ℕ) → id_of t.lexeme.octets ≡ x → IsWordBody t.lexeme.octets x (Ok (Id id)) → is_version t.lexeme.octets ≡ false
    word None e h = absurd (let e : Id id ≡ Word t.lexeme.octets = h.0 in cc)
    word (Some x) e h = id_no_version t.lexeme.octets x e

    go : (k : TokenKind) → IsBody k t.lexeme.octets (Ok (Id id))
        → is_version_word (record { place = t.place; lexeme = record { start = t.lexeme.start; end = t.lexeme.end; kind = k; octets = t.lexeme.octets } } ∷ [])
        ≡ false
    go TokenKind.Word h = word (id_of t.lexeme.octets) refl h
    go _ h = refl

-- more than one token is no version marker
pub more_words : (t : Placed) (us : List Placed) (u : Placed) → is_version_word (t ∷ (us ++ u ∷ [])) ≡ false
more_words t [] u = refl
more_words t (x ∷ us) u = refl

-- segments are no word of the form of a version marker
pub segments_no_word : (p : Place) (ts : List Placed) (w : List ℕ) → Segments p ts w → is_version_word ts ≡ false
segments_no_word p _ _ (segment t w h) = other_word t (Long w) (λ v e. cc) (λ id e. cc) h.body
segments_no_word p _ _ (joined [] v w t d h) = other_word t (Long w) (λ v e. cc) (λ id e. cc) h.body
segments_no_word p _ _ (joined (x ∷ ts) v w t d h) = more_words x ts t

-- behind annotations there are more tokens
pub noted_no_word : (c : List Slot) (p : Place) (notes us : List Placed) (ss : Symbols) → Annotations c p notes ss → (ss ≡ [] → is_version_word us ≡ false)
    → is_version_word (notes ++ us) ≡ false
noted_no_word c p _ us _ no_annotation h = h refl
noted_no_word c p _ us _ (one_annotation (x ∷ []) rs t colons said s e i j k) h = refl
noted_no_word c p _ us _ _ h = refl

pub unmarked_word : (w : List ℕ) → is_unmarked (held_word w) ≡ true → is_version w ≡ false
unmarked_word w h = go (bytes_eq w (codes "null")) (bytes_eq w (codes "true")) (bytes_eq w (codes "false")) (bytes_eq w (codes "nan")) (is_version w) refl refl
    refl refl refl h
  where
    is : (v : List ℕ) → bytes_eq w v ≡ true → is_version v ≡ false → is_version w ≡ false
    is v e n = ap is_version ((bytes_eq-Decides w v).0 e) ∙ n

    go : (a b d e f : Bool) → bytes_eq w (codes "null") ≡ a → bytes_eq w (codes "true") ≡ b → bytes_eq w (codes "false") ≡ d → bytes_eq w (codes "nan") ≡ e
        → is_version w ≡ f
        → is_unmarked (if a then Held.Null Kind.Null else (if b then Held.Truth true else
        (if d then Held.Truth false else (if e then Held.Nan else (if f then Held.Version (bytes_eq w the_marker) (Some w) else Held.Symbol (Some w))))))
        ≡ true → is_version w ≡ false
    go true b d e f i j k m n h = is (codes "null") i refl
    go false true d e f i j k m n h = is (codes "true") j refl
    go false false true e f i j k m n h = is (codes "false") k refl
    go false false false true f i j k m n h = is (codes "nan") m refl
    go false false false false true i j k m n h = absurd cc
    go false false false false false i j k m n h = n

-- a word that is held as no version marker has not the form of one
pub word_no_word : (t : Placed) (w : List ℕ) → IsBody t.lexeme.kind t.lexeme.octets (Ok (Word w)) → is_unmarked (held_word w) ≡ true → is_version_word (t ∷ [])
    ≡ false
word_no_word t w h n = let e = word_token t.lexeme.kind t.lexeme.octets w h in
    ap (λ k. is_version_word (record { place = t.place; lexeme = record { start = t.lexeme.start; end = t.lexeme.end; kind = k; octets = t.lexeme.octets } }
    ∷ [])) e.0 ∙ (ap is_version e.1 ∙ unmarked_word w n)
