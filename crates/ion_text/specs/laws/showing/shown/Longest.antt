-- No longer front of octets is whole pieces whatever follows: between items, and where the pieces end before the open item.
use Rattle.std.proofs.Common.{◌≡◌, ℕ, ◌+◌, ◌≤◌, Bool, false, List, [], ◌∷◌, ◌++◌, length, refl, sym, ap, ◌∙◌, subst, arith, append_assoc, append-nil, length-append, ◌⊎◌, inl, inr}
use Rattle.ion_text.specs.Names.{ArePieces, Catalog, Continues, Known, Lexeme, LexesTo, Limits, Mode, Next, Place, Placed, Reading, Scanned, State, Value, Whole, colon_behind, end_of, fresh, initial, is_sexp, is_top, place, scan as run, start_of, system_slots}
use Rattle.ion_tokens.proofs.complete.Moves.{at, blank}
use Rattle.ion_tokens.proofs.complete.TakesBlanks.{passes_blank}
use Rattle.ion_tokens.proofs.complete.Wholes.{run_behind}
use Rattle.ion_tokens.proofs.histories.Escapes.{Escapes, Goes, Grows, Refuses, escape}
use Rattle.ion_tokens.proofs.histories.Histories.{begins_completes}
use Rattle.ion_tokens.proofs.runs.Runs.{next_used}
use Rattle.ion_text.specs.laws.reading.Stops.{stood_used}
use Rattle.ion_text.specs.laws.reading.complete.Found.{lexes_operators}
use Rattle.ion_text.specs.laws.reading.complete.Going.{Going, top_place}
use Rattle.ion_text.specs.laws.reading.complete.Meets.{end_spans}
use Rattle.ion_text.specs.laws.reading.complete.Pieces.{pieces_read}
use Rattle.ion_text.specs.laws.reading.sound.Held.{Behind, NoLongText, none_open}
use Rattle.ion_text.specs.laws.reading.sound.StandsOpen.{NowStands}
use Rattle.ion_text.specs.laws.reading.sound.Steps.{Stood}
use Rattle.ion_text.specs.laws.showing.tokens.Compare.{Compared, Found', TokenFrom, TopFirst, begins_after, compare, lexes_once, run_from}
use Rattle.ion_text.specs.laws.showing.tokens.Cuts.{Is, OpenBehind, behind_tokens, lexed_front, one_found, parted, parts_meet}
use Rattle.ion_text.specs.laws.showing.tokens.Once.{begins_lexed, operator_inside, whole_ends, whole_found, whole_going, whole_operators}

-- what escapes from a token that ends within the octets used
pub escaped : (p : Place) (s : Known) (x : List ℕ) (l : Lexeme) → Escapes p s x → Is p l (run p x s) → l.end ≤ s.used → ⊥
escaped p s x l (Refuses n e f) i h = subst (Is p l) f i
escaped p s x l (Goes t f some more) i h = by (subst (Is p l) f i)
  where
    by : Is p l (Next t) → ⊥
    by (inl k) = let j = end_spans t (end_of p t.mode) l k in absurd (omega (arith, h, some, j.1, next_used p x s t (sym f)))
    by (inr k) = more k.0
escaped p s x l (Grows y t f later) i h = let k : y ≡ l = subst (Is p l) f i in absurd (omega (arith, h, later, ap (λ (z : Lexeme). z.end) k))

no_octets : (z : List ℕ) → length z ≤ 0 → z ≡ []
no_octets [] h = refl
no_octets (o ∷ os) h = absurd (omega arith)

module _ (g : Catalog) (l : Limits) (u : List ℕ) (vs : List Value) (s : Known) (r : Reading) (ahead : List ℕ) (A : Type 0)
    (b : Behind g l Scanned u vs s r ahead A) (used : s.used ≡ length u) where
  abbrev p : Place
  p = place r

  -- the tokens that the scanner was told of, and what is open behind them
  abbrev pub k : OpenBehind p s u (b.front ++ b.item) ahead
  k = behind_tokens p s u (b.front ++ b.item) ahead b.scanned

  covers : k.end + length k.since ≡ length u
  covers = sym k.holds.used ∙ used

  pieces_going : Going g l (fresh system_slots) b.front vs
  pieces_going = let x = pieces_read g l b.front vs r.context b.pieces in
      record { vs = x.given; later = x.later; n = x.now; c = r.context; read = x.read; ends = x.settles; whole = x.all }

  -- whole pieces at the front of the octets, before octets that follow
  module _ (v rest following : List ℕ) (t : List Value) (cut : u ≡ v ++ rest) (w : Whole g l v (rest ++ following) t) where
    -- the front and what follows it are the octets and what follows them
    pub octets : v ++ (rest ++ following) ≡ u ++ following
    octets = sym (append_assoc v rest following) ∙ ap (λ x. x ++ following) (sym cut)

    -- the tokens of the whole pieces are those of the octets and what follows
    pub theirs : LexesTo false 0 (u ++ following) w.tokens w.colon w.end (w.blank ++ (rest ++ following))
    theirs = subst (λ x. LexesTo false 0 x w.tokens w.colon w.end (w.blank ++ (rest ++ following))) octets w.lexed

    -- their tokens, and those of the pieces that were read
    compared : (c : Bool) (e : ℕ) (left : List ℕ) → LexesTo false 0 (u ++ following) b.front c e left → Compared b.front w.tokens
    compared c e left ours =
        compare (λ s octets. Unit {0}) g l initial (u ++ following) b.front
        (begins_completes b.front false 0 (u ++ following) [] (u ++ following) initial (begins_lexed b.front false 0 (u ++ following) c e left ours) refl
        (λ p. refl))
        w.tokens (subst (λ x. Found' (λ s octets. Unit {0}) initial x w.tokens) octets (whole_found g l v (rest ++ following) t w))
        (lexes_operators (λ a b' o. (a ≡ c) × (b' ≡ e) × (o ≡ left)) b.front false 0 (u ++ following) ours) (whole_operators g l v (rest ++ following) t w)
        (fresh system_slots) vs t pieces_going (whole_going g l v (rest ++ following) t w)

    -- the whole pieces end where the blank behind their tokens does
    pub size : w.end + length w.blank ≡ length v
    size = whole_ends g l v (rest ++ following) t w

    -- the whole pieces have no more octets than there are
    pub long : length v ≤ length u
    long = omega (arith, ap length cut, length-append v rest)

    -- where they are the fewer, they end before the next token
    fewer : (c : Bool) (e : ℕ) (left : List ℕ) → LexesTo false 0 (u ++ following) b.front c e left → (x : Placed) (more : List Placed)
        → b.front ≡ w.tokens ++ x ∷ more → TopFirst (x ∷ more) → length v ≤ e
    fewer c e left ours x more h top =
        let d = parted w.tokens (x ∷ more) false 0 (u ++ following) c e left (subst (λ z. LexesTo false 0 (u ++ following) z c e left) h ours) in
        let same = lexes_once w.tokens false 0 (u ++ following) d.flag w.colon d.mid w.end d.left (w.blank ++ (rest ++ following)) d.first theirs in
        let y = d.second.1 in
        let plain = operator_inside x.place d.flag y.token d.second.0 x.lexeme.kind x.lexeme.octets y.is (ap is_sexp top) in
        let starts = begins_after d.flag d.mid d.left x d.second.0 w.blank (rest ++ following) y plain w.is_blank same.2 in
        let last = lexed_front more (colon_behind x) x.lexeme.end d.second.0 c e left d.second.2 in
        omega (arith, starts, same.1, size, last.2, y.start, y.end)

    -- a token that they have behind those that the scanner was told of has ended in the octets
    pub token_more : (ts : List Placed) → LexesTo false 0 (u ++ following) ts k.colon k.end (k.since ++ following) → (x : Placed) (xs : List Placed)
        → w.tokens ≡ ts ++ x ∷ xs → x.place ≡ p → Is p x.lexeme (run p following s) × (x.lexeme.end ≤ s.used)
    token_more ts ours x xs e here =
        let d = parted ts (x ∷ xs) false 0 (u ++ following) w.colon w.end (w.blank ++ (rest ++ following))
        (subst (λ z. LexesTo false 0 (u ++ following) z w.colon w.end (w.blank ++ (rest ++ following))) e theirs) in
        let one = lexes_once ts false 0 (u ++ following) d.flag k.colon d.mid k.end d.left (k.since ++ following) d.first ours in
        let found = one_found d.flag d.mid d.left x d.second.0 d.second.1 in
        let there : Is x.place x.lexeme (run x.place (k.since ++ following) (at Mode.Blank [] k.colon k.end k.end)) =
        subst (λ z. Is x.place x.lexeme (run x.place z (at Mode.Blank [] k.colon k.end k.end))) one.2
        (subst (λ (z : ℕ). Is x.place x.lexeme (run x.place d.left (at Mode.Blank [] k.colon z z))) one.1
        (subst (λ z. Is x.place x.lexeme (run x.place d.left (at Mode.Blank [] z d.mid d.mid))) one.0 found)) in
        let placed : Is p x.lexeme (run p (k.since ++ following) (at Mode.Blank [] k.colon k.end k.end)) =
        subst (λ q. Is q x.lexeme (run q (k.since ++ following) (at Mode.Blank [] k.colon k.end k.end))) here there in
        let last = lexed_front xs (colon_behind x) x.lexeme.end d.second.0 w.colon w.end (w.blank ++ (rest ++ following)) d.second.2 in (
          subst (Is p x.lexeme) (run_behind p k.since following (at Mode.Blank [] k.colon k.end k.end) s k.reached) placed,
          omega (arith, last.2, long, size, used),
        )

  -- where no item is open
  module _ (none : b.item ≡ []) where
    top : p ≡ Place.Top
    top =
        let o = none_open r.context r.frames r.notes r.now (subst (λ x. NowStands r.context r.frames r.notes x r.now) none b.stands) in
        top_place r.frames r.now (ap is_top o.0)

    -- before octets that go on with those ahead
    module _ (more : List ℕ) (c : Continues more ahead) (v rest : List ℕ) (t : List Value) (cut : u ≡ v ++ rest) (w : Whole g l v (rest ++ more) t) where
      tokens : LexesTo false 0 (u ++ more) b.front k.colon k.end (k.since ++ more)
      tokens = subst (λ x. LexesTo false 0 (u ++ more) x k.colon k.end (k.since ++ more)) (ap (λ x. b.front ++ x) none ∙ append-nil b.front) (k.lexes more c)

      -- the blank behind them stands at the front of what is behind the tokens
      same_tokens : w.tokens ≡ b.front → length v ≤ start_of s.mode s.start s.used
      same_tokens e = by (parts_meet k.since more w.blank (rest ++ more) one.2)
        where
          one : (k.colon ≡ w.colon) × (k.end ≡ w.end) × (k.since ++ more ≡ w.blank ++ (rest ++ more))
          one =
              lexes_once b.front false 0 (u ++ more) k.colon w.colon k.end w.end (k.since ++ more) (w.blank ++ (rest ++ more)) tokens
              (subst (λ z. LexesTo false 0 (u ++ more) z w.colon w.end (w.blank ++ (rest ++ more))) e (theirs v rest more t cut w))

          from : (y : List ℕ) → k.since ≡ w.blank ++ y → length v ≤ start_of s.mode s.start s.used
          from y f =
              let x = passes_blank p k.colon w.blank w.is_blank k.end k.end in
              let ran : run p y (blank k.colon x.0 (k.end + length w.blank)) ≡ Next s =
              sym (ap (λ z. run p z (at Mode.Blank [] k.colon k.end k.end)) f ∙ x.1 y) ∙ k.reached in
              let i = subst (TokenFrom (k.end + length w.blank)) ran
              (run_from p y (k.end + length w.blank) (blank k.colon x.0 (k.end + length w.blank)) (record { enough = omega arith }) (omega arith)) in
              omega (arith, i, one.1, size v rest more t cut w)

          by : ((y : List ℕ) × (k.since ≡ w.blank ++ y) × (y ++ more ≡ rest ++ more)) ⊎ ((z : List ℕ) × (w.blank ≡ k.since ++ z) × (z ++ (rest ++ more) ≡ more))
              → length v ≤ start_of s.mode s.start s.used
          by (inl (y, f, i)) = from y f
          by (inr (z, f, i)) =
              let n : length z ≤ 0 = omega (arith, covers, long v rest more t cut w, one.1, size v rest more t cut w, ap length f, length-append k.since z) in
              from [] (sym (ap (λ x. k.since ++ x) (no_octets z n) ∙ append-nil k.since) ∙ (sym f ∙ sym (append-nil w.blank)))

      -- no token more has ended in the octets
      abbrev pub NoneHasEnded : Type 0
      NoneHasEnded = (x : Placed) (xs : List Placed) → w.tokens ≡ b.front ++ x ∷ xs → x.place ≡ p → Is p x.lexeme (run p more s) → x.lexeme.end ≤ s.used → ⊥

      never_more : NoneHasEnded → (x : Placed) (xs : List Placed) → w.tokens ≡ b.front ++ x ∷ xs → TopFirst (x ∷ xs) → ⊥
      never_more ended x xs e at_top =
          let y = token_more v rest more t cut w b.front tokens x xs e (at_top ∙ sym top) in
          ended x xs e (at_top ∙ sym top) y.0 y.1

      -- Between items the pieces that were read are the longest.
      pub longest_before : NoneHasEnded → length v ≤ start_of s.mode s.start s.used
      longest_before ended = by (compared v rest more t cut w k.colon k.end (k.since ++ more) tokens)
        where
          by : Compared b.front w.tokens → length v ≤ start_of s.mode s.start s.used
          by (inl ([], e, h)) = same_tokens (e ∙ append-nil b.front)
          by (inl (x ∷ xs, e, h)) = absurd (never_more ended x xs e h)
          by (inr ([], e, h)) = same_tokens (sym (e ∙ append-nil w.tokens))
          by (inr (x ∷ xs, e, h)) = let i = fewer v rest more t cut w k.colon k.end (k.since ++ more) tokens x xs e h in omega (arith, i, k.fronted.at)

-- where no octet is refused
pub longest_between : (g : Catalog) (l : Limits) (u : List ℕ) (vs : List Value) (m : State) (b : Stood g l u vs m) → b.item ≡ []
    → (v rest : List ℕ) (t : List Value) → u ≡ v ++ rest → ArePieces (Whole g l) v rest t → length v ≤ start_of m.scan.mode m.scan.start m.scan.used
longest_between g l u vs m b none v rest t cut whole =
    let h = behind_tokens (place m.reading) m.scan u (b.front ++ b.item) [] b.scanned in
    let f = escape (place m.reading) h.colon h.end m.scan h.since h.holds in
    longest_before g l u vs m.scan m.reading [] (NoLongText m.scan.mode) b (stood_used g l u vs m b) none f.octets (f.octets, refl) v rest t cut
    (whole f.octets f.are) (λ x xs e q i n. escaped (place m.reading) m.scan f.octets x.lexeme f.escapes i n)
