-- Behind octets that aren't refused, whole pieces of a document stand in front of the open item, whatever follows.
use Rattle.std.proofs.Common.{◌≡◌, ℕ, ◌+◌, Bool, true, false, List, [], ◌∷◌, ◌++◌, length, refl, sym, ap, ◌∙◌, subst, arith, append_assoc, append-nil, length-append, ◌⊎◌, inl, inr, if◌then◌else◌}
use Rattle.std.proofs.lemmas.Bool.{and_from, false_from_ne_true}
use Rattle.std.specs.Prelude.{◌&&◌, codes}
use Rattle.ion_text.specs.Names.{BeginsWith, BlankThen, Catalog, Continues, Frame, Known, Lexeme, LexesTo, Limits, Mark, Next, Place, Placed, Reading, Scanned, Slot, Stage, State, Symbols, TokenKind, Value, Whole, at, begins_as_long, ends_long, is_fresh, place, scan as run, start_of}
use Rattle.ion_tokens.proofs.complete.Moves.{blank}
use Rattle.ion_text.specs.laws.reading.sound.Admits.{no_item}
use Rattle.ion_text.specs.laws.reading.sound.Held.{Behind, IsFirst, IsLongNow, NoLongText, none_open}
use Rattle.ion_text.specs.laws.reading.sound.StandsOpen.{NowStands}
use Rattle.ion_text.specs.laws.reading.sound.Steps.{Stood}
use Rattle.ion_text.specs.laws.showing.shown.Symbols.{HasBegun}
use Rattle.ion_text.specs.laws.showing.tokens.Cuts.{BlankInFront, OpenBehind, Parted, begins_once, behind_tokens, lexed_front, parted, parts_same, past_blank}
use Rattle.ion_text.specs.laws.showing.tokens.Firsts.{OpensItem, colons_never, now_first, opens_item, quotes_first, quotes_never}

-- where the whole pieces end and the blank behind them
abbrev pub front_end : Known → Reading → ℕ
front_end s r = if is_fresh r then start_of s.mode s.start s.used else r.start

-- where no container is open, nothing noted and a value may come, no item is open
pub fresh_is : (start : ℕ) (c : List Slot) (fs : List Frame) (ss : Symbols) (now : Stage) → fs ≡ [] → ss ≡ [] → now ≡ Stage.Ready → is_fresh (at start c fs ss now)
    ≡ true
fresh_is start c fs ss now a b d = ap (λ x. is_fresh (at start c x ss now)) a
    ∙ (ap (λ x. is_fresh (at start c [] x now)) b ∙ ap (λ x. is_fresh (at start c [] [] x)) d)

first_as_long : (t : Placed) (ts : List Placed) → begins_as_long (t ∷ []) ≡ true → begins_as_long (t ∷ ts) ≡ true
first_as_long t ts h = h

regroup : (a b c d : List ℕ) → a ++ ((b ++ c) ++ d) ≡ (a ++ b) ++ (c ++ d)
regroup a b c d = ap (λ x. a ++ x) (append_assoc b c d) ∙ sym (append_assoc a b (c ++ d))

module _ (g : Catalog) (l : Limits) where
  -- whole pieces in front of octets, whatever follows them
  pub record Fronted (u : List ℕ) (vs : List Value) (s : Known) (r : Reading) : Type 0 where
    pub front : List ℕ
    pub rest : List ℕ
    pub parts : u ≡ front ++ rest
    pub ends : length front ≡ front_end s r
    pub whole : (following : List ℕ) → Whole g l front (rest ++ following) vs

  -- behind octets, and before `more`
  module _ (u : List ℕ) (vs : List Value) (s : Known) (r : Reading) (ahead more : List ℕ) (A : Type 0) (b : Behind g l Scanned u vs s r ahead A)
      (next : Continues more ahead) where
    abbrev p : Place
    p = place r

    abbrev pub k : OpenBehind p s u (b.front ++ b.item) ahead
    k = behind_tokens p s u (b.front ++ b.item) ahead b.scanned

    -- octets that go on with the one ahead do so whatever follows them
    pub continues : (following : List ℕ) → Continues (more ++ following) ahead
    continues following = (next.0 ++ following, ap (λ x. x ++ following) next.1 ∙ append_assoc ahead next.0 following)

    -- where nothing is open, `::` doesn't go on behind the last token
    abbrev pub NoColonsFollow : Type 0
    NoColonsFollow = is_fresh r ≡ true → k.colon ≡ true → (following : List ℕ) → BlankThen (codes "::") (k.since ++ (more ++ following)) → ⊥

    -- nor does `''` behind a long string
    abbrev pub NoQuotesFollow : Type 0
    NoQuotesFollow = is_fresh r ≡ true → ends_long b.front ≡ true → (following : List ℕ) → BlankThen (codes "''") (k.since ++ (more ++ following)) → ⊥

    -- where no item is open
    pub no_tokens : b.item ≡ [] → (is_fresh r ≡ true) × (IsLongNow r.now → ⊥)
    no_tokens none =
        let o = none_open r.context r.frames r.notes r.now (subst (λ x. NowStands r.context r.frames r.notes x r.now) none b.stands) in
        (fresh_is r.start r.context r.frames r.notes r.now o.0 o.1 o.2, λ h. subst IsLongNow o.2 h)

    module _ (colons : NoColonsFollow) (quotes : NoQuotesFollow) where
      -- where none is open
      module _ (none : b.item ≡ []) where
        f : BlankInFront k.end s.mode s.start s.used k.since
        f = k.fronted

        tokens : (following : List ℕ) → LexesTo false 0 (u ++ (more ++ following)) b.front k.colon k.end (k.since ++ (more ++ following))
        tokens following = subst (λ x. LexesTo false 0 (u ++ (more ++ following)) x k.colon k.end (k.since ++ (more ++ following)))
            (ap (λ x. b.front ++ x) none ∙ append-nil b.front) (k.lexes (more ++ following) (continues following))

        cut : (T : List ℕ) × (u ++ (more ++ []) ≡ T ++ (k.since ++ (more ++ []))) × (k.end ≡ 0 + length T)
        cut = lexed_front b.front false 0 (u ++ (more ++ [])) k.colon k.end (k.since ++ (more ++ [])) (tokens [])

        abbrev open_all : List ℕ
        open_all = f.open' ++ more

        parts : u ++ more ≡ (cut.0 ++ f.blank) ++ open_all
        parts =
            ap (λ x. u ++ x) (sym (append-nil more))
            ∙ (cut.1 ∙ (ap (λ x. cut.0 ++ (k.since ++ x)) (append-nil more)
            ∙ (ap (λ x. cut.0 ++ (x ++ more)) f.cut ∙ (ap (λ x. cut.0 ++ x) (append_assoc f.blank f.open' more) ∙ sym (append_assoc cut.0 f.blank open_all)))))

        left : (following : List ℕ) → k.since ++ (more ++ following) ≡ f.blank ++ (open_all ++ following)
        left following = ap (λ x. x ++ (more ++ following)) f.cut
            ∙ (append_assoc f.blank f.open' (more ++ following) ∙ ap (λ x. f.blank ++ x) (sym (append_assoc f.open' more following)))

        all : (following : List ℕ) → u ++ (more ++ following) ≡ (cut.0 ++ f.blank) ++ (open_all ++ following)
        all following = sym (append_assoc u more following) ∙ (ap (λ x. x ++ following) parts ∙ append_assoc (cut.0 ++ f.blank) open_all following)

        shut_front : Fronted (u ++ more) vs s r
        shut_front = record {
          front = cut.0 ++ f.blank;
          rest = open_all;
          parts = parts;
          ends = omega (arith, length-append cut.0 f.blank, f.at, cut.2)
              ∙ sym (ap (λ (x : Bool). if x then start_of s.mode s.start s.used else r.start) (no_tokens none).0);
          whole = λ following. record {
            tokens = b.front;
            context = r.context;
            colon = k.colon;
            end = k.end;
            blank = f.blank;
            lexed = subst (λ x. LexesTo false 0 x b.front k.colon k.end (f.blank ++ (open_all ++ following))) (all following)
                (subst (LexesTo false 0 (u ++ (more ++ following)) b.front k.colon k.end) (left following) (tokens following));
            is_blank = f.is_blank;
            pieces = b.pieces;
            no_annotation = λ c h. colons (no_tokens none).0 c following (subst (BlankThen (codes "::")) (sym (left following)) h);
            no_segment = λ c h. quotes (no_tokens none).0 c following (subst (BlankThen (codes "''")) (sym (left following)) h);
          };
        }

      -- where an item is open
      module _ (t : Placed) (ts : List Placed) (some : b.item ≡ t ∷ ts) where
        unfresh : is_fresh r ≡ false
        unfresh = false_from_ne_true (is_fresh r) (λ e. let n : [] ≡ t ∷ ts = sym (no_item g l Scanned u vs s r ahead A b e) ∙ some in cc)

        opens : opens_item t.lexeme.kind ≡ true
        opens = subst OpensItem some (now_first r.context r.frames r.notes r.now b.item b.stands)

        starts : t.lexeme.start ≡ r.start
        starts = subst (λ x. IsFirst x r.start) some b.begins

        cutting : (following : List ℕ) → Parted false 0 (u ++ (more ++ following)) b.front (t ∷ ts) k.colon k.end (k.since ++ (more ++ following))
        cutting following =
            parted b.front (t ∷ ts) false 0 (u ++ (more ++ following)) k.colon k.end (k.since ++ (more ++ following))
            (subst (λ x. LexesTo false 0 (u ++ (more ++ following)) (b.front ++ x) k.colon k.end (k.since ++ (more ++ following))) some
            (k.lexes (more ++ following) (continues following)))

        abbrev rest_of : (following : List ℕ) → List ℕ
        rest_of following = (cutting following).second.0

        token_of : (following : List ℕ) → BeginsWith (cutting following).flag (cutting following).mid (cutting following).left t (rest_of following)
        token_of following = (cutting following).second.1

        before : (following : List ℕ) → (T : List ℕ) × (u ++ (more ++ following) ≡ T ++ (cutting following).left) × ((cutting following).mid ≡ 0 + length T)
        before following = lexed_front b.front false 0 (u ++ (more ++ following)) (cutting following).flag (cutting following).mid (cutting following).left
            (cutting following).first

        abbrev front_of : List ℕ → List ℕ
        front_of following = (before following).0 ++ (token_of following).blank

        abbrev behind_of : List ℕ → List ℕ
        behind_of following = (token_of following).token ++ rest_of following

        meets : (following : List ℕ) → u ++ (more ++ following) ≡ front_of following ++ behind_of following
        meets following = (before following).1 ∙ (ap (λ x. (before following).0 ++ x) (token_of following).cut
            ∙ regroup (before following).0 (token_of following).blank (token_of following).token (rest_of following))

        size : (following : List ℕ) → length (front_of following) ≡ r.start
        size following = omega (arith, length-append (before following).0 (token_of following).blank, (token_of following).start, (before following).2, starts)

        whole_parts : u ++ more ≡ front_of [] ++ behind_of []
        whole_parts = ap (λ x. u ++ x) (sym (append-nil more)) ∙ meets []

        reaches : (following : List ℕ) → u ++ (more ++ following) ≡ front_of [] ++ (behind_of [] ++ following)
        reaches following = sym (append_assoc u more following) ∙ (ap (λ x. x ++ following) whole_parts ∙ append_assoc (front_of []) (behind_of []) following)

        same : (following : List ℕ) → (front_of following ≡ front_of []) × (behind_of following ≡ behind_of [] ++ following)
        same following = parts_same (front_of following) (behind_of following) (front_of []) (behind_of [] ++ following)
            (sym (meets following) ∙ reaches following) (size following ∙ sym (size []))

        left_is : (following : List ℕ) → (cutting following).left ≡ (token_of following).blank ++ (behind_of [] ++ following)
        left_is following = (token_of following).cut ∙ (append_assoc (token_of following).blank (token_of following).token (rest_of following)
            ∙ ap (λ x. (token_of following).blank ++ x) (same following).1)

        open_colons : (following : List ℕ) → (cutting following).flag ≡ true
            → BlankThen (codes "::") ((token_of following).blank ++ (behind_of [] ++ following)) → ⊥
        open_colons following c (w, rest, is, e) =
            let found : Lexeme = record {
              start = (cutting following).mid + length w;
              end = ((cutting following).mid + length w) + 2;
              kind =
                  TokenKind.Mark Mark.Colons;
              octets = [];
            } in
            let x = begins_once (cutting following).flag (cutting following).mid (cutting following).left t (record { place = t.place; lexeme = found })
            (rest_of following) rest (token_of following)
            (record { blank = w; token = codes "::"; is_blank = is; cut = left_is following ∙ e; start = refl; end = refl; is = (refl, refl, c, tt) }) refl
            (λ i. cc) in
            let n : true ≡ false = sym opens ∙ ap (λ (y : Lexeme). opens_item y.kind) x in cc

        open_quotes : (following : List ℕ) → ends_long b.front ≡ true → BlankThen (codes "''") ((token_of following).blank ++ (behind_of [] ++ following)) → ⊥
        open_quotes following h (w, rest, is, e) =
            let x = quotes_first (cutting following).flag (cutting following).mid (cutting following).left w rest t (rest_of following) (token_of following)
            (λ i. let n : true ≡ false = sym opens ∙ ap opens_item i in cc) is (left_is following ∙ (e ∙ append_assoc w (codes "''") rest)) in
            let n : true ≡ false = sym (and_from (ends_long b.front) (begins_as_long (t ∷ ts)) h (first_as_long t ts x))
            ∙ subst (λ y. (ends_long b.front && begins_as_long y) ≡ false) some b.first in cc

        open_front : Fronted (u ++ more) vs s r
        open_front = record {
          front = front_of [];
          rest = behind_of [];
          parts = whole_parts;
          ends = size [] ∙ sym (ap (λ (x : Bool). if x then start_of s.mode s.start s.used else r.start) unfresh);
          whole = λ following. record {
            tokens = b.front;
            context = r.context;
            colon = (cutting following).flag;
            end = (cutting following).mid;
            blank = (token_of following).blank;
            lexed =
                subst (λ x. LexesTo false 0 x b.front (cutting following).flag (cutting following).mid
                ((token_of following).blank ++ (behind_of [] ++ following))) (reaches following)
                (subst (LexesTo false 0 (u ++ (more ++ following)) b.front (cutting following).flag (cutting following).mid) (left_is following)
                (cutting following).first);
            is_blank = (token_of following).is_blank;
            pieces = b.pieces;
            no_annotation = open_colons following;
            no_segment = open_quotes following;
          };
        }

      -- Octets that lead so far have whole pieces in front, with the values given.
      pub front_before : Fronted (u ++ more) vs s r
      front_before = go b.item refl
        where
          go : (ts : List Placed) → b.item ≡ ts → Fronted (u ++ more) vs s r
          go [] e = shut_front e
          go (t ∷ ts) e = open_front t ts e

  -- where no octet is refused
  module _ (u : List ℕ) (vs : List Value) (m : State) (b : Stood g l u vs m) (still : HasBegun g l m.scan m.reading) where
    abbrev open' : Type 0
    open' = NoLongText m.scan.mode

    abbrev shut : OpenBehind (place m.reading) m.scan u (b.front ++ b.item) []
    shut = k u vs m.scan m.reading [] [] open' b ([], refl)

    begun_colons : NoColonsFollow u vs m.scan m.reading [] [] open' b ([], refl)
    begun_colons fresh c following (w, more, is, e) =
        let begun = still fresh (shut.holds.flag ∙ c) in
        let x = past_blank (place m.reading) shut.colon shut.end shut.since following w (codes "::" ++ more) m.scan shut.reached b.sane begun is
        (e ∙ append_assoc w (codes "::") more) in
        colons_never (place m.reading) x.now (shut.end + length w) x.token following more m.scan x.same
        (subst (λ y. run (place m.reading) x.token (blank y x.now (shut.end + length w)) ≡ Next m.scan) c x.ran) begun

    begun_quotes : NoQuotesFollow u vs m.scan m.reading [] [] open' b ([], refl)
    begun_quotes fresh h following (w, more, is, e) = by (b.apart (ap ends_long (ap (λ x. b.front ++ x) none ∙ append-nil b.front) ∙ h))
      where
        none : b.item ≡ []
        none = no_item g l Scanned u vs m.scan m.reading [] open' b fresh

        by : IsLongNow m.reading.now ⊎ NoLongText m.scan.mode → ⊥
        by (inl i) = (no_tokens u vs m.scan m.reading [] [] open' b ([], refl) none).1 i
        by (inr i) =
            let x = past_blank (place m.reading) shut.colon shut.end shut.since following w (codes "''" ++ more) m.scan shut.reached b.sane i.0 is
            (e ∙ append_assoc w (codes "''") more) in
            quotes_never (place m.reading) shut.colon x.now (shut.end + length w) x.token following more m.scan x.same x.ran i.0 i.1

    -- where no octet is refused, whole pieces stand in front of the open item, whatever follows
    pub stood_front : Fronted u vs m.scan m.reading
    stood_front = subst (λ x. Fronted x vs m.scan m.reading) (append-nil u)
        (front_before u vs m.scan m.reading [] [] open' b ([], refl) begun_colons begun_quotes)
