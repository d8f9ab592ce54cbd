-- How the scanner comes from one mode to another over octets that it uses.
use Rattle.std.proofs.Common.{◌≡◌, ℕ, ◌+◌, ◌-◌, Bool, true, List, [], ◌∷◌, ◌++◌, length, refl, sym, ap, ◌∙◌, subst, arith, append_assoc, append-nil, length-append}
use Rattle.std.specs.Prelude.{Some, Ok, Err}
use Rattle.ion_tokens.specs.Names.{Action, Each, Given, Keep, Known, Left, Lexeme, Mode, Next, Place, Reason, TokenKind, acts, at_end, begins, begins_word, follow, in_blank, kept_after, past, run, start_of}
use Rattle.ion_tokens.specs.machine.Table.{next}

-- what the scanner knows in this mode, part by part
abbrev pub at : Mode → List ℕ → Bool → ℕ → ℕ → Known
at m kept colon start used = record { mode = m; kept = kept; colon = colon; start = start; used = used }

-- over these octets it comes from the one mode to the other, whatever follows
pub record Moves (p : Place) (m : Mode) (kept os : List ℕ) (m' : Mode) (kept' : List ℕ) : Type 0 where
  pub on : (colon : Bool) (start used : ℕ) (r : List ℕ) → run p (os ++ r) (at m kept colon start used)
      ≡ run p r (at m' kept' colon start (used + length os))

-- over no octets the scanner stays in its mode
pub moves_none : {p : Place} {m : Mode} {kept : List ℕ} → Moves p m kept [] m kept
moves_none {p = p} {m = m} {kept = kept} = record {
  on = λ colon start used r. let none : used ≡ used + length {A = ℕ} [] = omega arith in
      ap (λ (n : ℕ). run p r (at m kept colon start n)) none;
}

-- an open token's start stays
abbrev pub Stays : Mode → Type 0
Stays m = (start used : ℕ) → start_of m start used ≡ start

-- one octet leads from mode to mode as the table says
pub moves_one : (p : Place) (m : Mode) (o : ℕ) (kept : List ℕ) (m' : Mode) (k : Keep) → Stays m → ((colon : Bool) → next p colon m o ≡ Action.Go m' k)
    → Moves p m kept (o ∷ []) m' (kept_after k kept)
moves_one p m o kept m' k stays e = record {
  on = λ colon start used r.
      ap (λ a. follow (acts p (at m kept colon start used) o a) (λ t. run p r t)) (e colon)
      ∙ ap (λ (n : ℕ). run p r (at m' (kept_after k kept) colon n (used + 1))) (stays start used);
}

-- two moves, one behind the other, are one over the octets of both
pub moves_then : {p : Place} {m n l : Mode} {xs ys kept kept' kept'' : List ℕ} → Moves p m kept xs n kept' → Moves p n kept' ys l kept''
    → Moves p m kept (xs ++ ys) l kept''
moves_then {p = p} {m = m} {l = l} {xs = xs} {ys = ys} {kept = kept} {kept'' = kept''} f g = record {
  on = λ colon start used r.
      let longer : (used + length xs) + length ys ≡ used + length (xs ++ ys) = omega (arith, length-append xs ys) in
      ap (λ os. run p os (at m kept colon start used)) (append_assoc xs ys r) ∙ f.on colon start used (ys ++ r) ∙ g.on colon start (used + length xs) r
      ∙ ap (λ (i : ℕ). run p r (at l kept'' colon start i)) longer;
}

-- what is kept behind a move may be spelled otherwise
pub moves_to : {p : Place} {m n : Mode} {os kept kept' kept'' : List ℕ} → kept' ≡ kept'' → Moves p m kept os n kept' → Moves p m kept os n kept''
moves_to {p = p} {m = m} {n = n} {os = os} {kept = kept} e f = subst (λ l. Moves p m kept os n l) e f

-- from a blank, where a token may begin
abbrev pub blank : Bool → ℕ → ℕ → Known
blank colon start used = at Mode.Blank [] colon start used

-- from a blank over these octets into an open token, which begins there
pub record Opens (p : Place) (colon : Bool) (os : List ℕ) (m : Mode) (kept : List ℕ) : Type 0 where
  pub on : (start used : ℕ) (r : List ℕ) → run p (os ++ r) (blank colon start used) ≡ run p r (at m kept colon used (used + length os))

-- one octet opens a token where the table goes on from a blank
pub opens_one : (p : Place) (colon : Bool) (o : ℕ) (m : Mode) (k : Keep) → in_blank p colon o ≡ Action.Go m k → Opens p colon (o ∷ []) m (kept_after k [])
opens_one p colon o m k e = record { on = λ start used r. ap (λ a. follow (acts p (blank colon start used) o a) (λ t. run p r t)) e }

-- a token that is open goes on over the octets of a move from there
pub opens_then : {p : Place} {colon : Bool} {xs ys : List ℕ} {m n : Mode} {kept kept' : List ℕ} → Opens p colon xs m kept → Moves p m kept ys n kept'
    → Opens p colon (xs ++ ys) n kept'
opens_then {p = p} {colon = colon} {xs = xs} {ys = ys} {n = n} {kept' = kept'} f g = record {
  on = λ start used r.
      let longer : (used + length xs) + length ys ≡ used + length (xs ++ ys) = omega (arith, length-append xs ys) in
      ap (λ os. run p os (blank colon start used)) (append_assoc xs ys r) ∙ f.on start used (ys ++ r) ∙ g.on colon used (used + length xs) r
      ∙ ap (λ (i : ℕ). run p r (at n kept' colon used i)) longer;
}

-- the last octet ends the token
pub gives : (p : Place) (colon : Bool) (o : ℕ) (m : Mode) (kept : List ℕ) (kind : TokenKind) (k : Keep) (start used : ℕ) (r : List ℕ) → Stays m
    → next p colon m o ≡ Action.Give kind k
    → run p (o ∷ r) (at m kept colon start used) ≡ Given (record { start = start; end = used + 1; kind = kind; octets = kept_after k kept })
    (past p kind Mode.Blank [] (used + 1) (used + 1))
gives p colon o m kept kind k start used r stays e =
    ap (λ a. follow (acts p (at m kept colon start used) o a) (λ t. run p r t)) e
    ∙ ap (λ (n : ℕ). Given (record { start = n; end = used + 1; kind = kind; octets = kept_after k kept }) (past p kind Mode.Blank [] (used + 1) (used + 1)))
    (stays start used)

-- the octet behind the token ends it
pub leaves : (p : Place) (colon : Bool) (o : ℕ) (m : Mode) (kept : List ℕ) (kind : TokenKind) (k : Keep) (start used : ℕ) (r : List ℕ) → Stays m
    → next p colon m o ≡ Action.Before kind k Mode.Blank
    → run p (o ∷ r) (at m kept colon start used) ≡ Left (record { start = start; end = used; kind = kind; octets = kept_after k kept })
    (past p kind Mode.Blank [] used used)
leaves p colon o m kept kind k start used r stays e =
    let whole : used - 0 ≡ used = omega arith in
    ap (λ a. follow (acts p (at m kept colon start used) o a) (λ t. run p r t)) e
    ∙ ap (λ (n : ℕ). Left (record { start = n; end = used - 0; kind = kind; octets = kept_after k kept }) (past p kind Mode.Blank [] (used - 0) used))
    (stays start used)
    ∙ ap (λ (n : ℕ). Left (record { start = start; end = n; kind = kind; octets = kept_after k kept }) (past p kind Mode.Blank [] n used)) whole

-- over octets of a class, each of which is kept
pub moves_each : (p : Place) (m : Mode) (class : ℕ → Bool) (os kept : List ℕ) → Stays m
    → ((o : ℕ) → class o ≡ true → (colon : Bool) → next p colon m o ≡ Action.Go m (Keep.One o)) → Each class os → Moves p m kept os m (kept ++ os)
moves_each p m class [] kept stays f h = moves_to (sym (append-nil kept)) moves_none
moves_each p m class (o ∷ os) kept stays f h =
    moves_to (append_assoc kept (o ∷ []) os)
    (moves_then (moves_one p m o kept m (Keep.One o) stays (f o h.0)) (moves_each p m class os (kept ++ o ∷ []) stays f h.1))

-- over octets of a class, none of which is kept
pub moves_past : (p : Place) (m : Mode) (class : ℕ → Bool) (os kept : List ℕ) → Stays m
    → ((o : ℕ) → class o ≡ true → (colon : Bool) → next p colon m o ≡ Action.Go m Keep.Nothing) → Each class os → Moves p m kept os m kept
moves_past p m class [] kept stays f h = moves_none
moves_past p m class (o ∷ os) kept stays f h = moves_then (moves_one p m o kept m Keep.Nothing stays (f o h.0)) (moves_past p m class os kept stays f h.1)

-- a token's end shows later: over these octets behind it a blank comes to this mode
abbrev pub Resumes : List ℕ → Mode → List ℕ → Type 0
Resumes ahead m kept = (p : Place) (colon : Bool) (end : ℕ) → run p ahead (at Mode.Blank [] colon end end) ≡ Next (at m kept colon end (end + length ahead))

-- a token with these octets that begins at this offset
abbrev pub lexeme : List ℕ → TokenKind → List ℕ → ℕ → Lexeme
lexeme w kind kept used = record { start = used; end = used + length w; kind = kind; octets = kept }

-- How the scanner, in a blank, reads the octets w before r as a token: it gives it with its last octet; or behind octets ahead, which
-- it takes up already, at an octet that it leaves; or at the end of the input; or the input ends before that shows, in letters that
-- begin a word.
pub data Takes (p : Place) (colon : Bool) (w r : List ℕ) (kind : TokenKind) (kept : List ℕ) : Type 0 where
  Now : ((start used : ℕ) → run p (w ++ r) (blank colon start used)
      ≡ Given (lexeme w kind kept used) (past p kind Mode.Blank [] (used + length w) (used + length w))) → Takes p colon w r kind kept
  Later : (ahead : List ℕ) (x : ℕ) (rest : List ℕ) (m : Mode) (k : List ℕ) → r ≡ ahead ++ x ∷ rest → Resumes ahead m k
      → ((start used : ℕ) → run p (w ++ r) (blank colon start used)
      ≡ Left (lexeme w kind kept used) (past p kind m k (used + length w) ((used + length w) + length ahead))) → Takes p colon w r kind kept
  AtEnd : r ≡ [] → ((start used : ℕ) → (s : Known) × (run p (w ++ r) (blank colon start used) ≡ Next s) × (at_end p s ≡ Ok (Some (lexeme w kind kept used))))
      → Takes p colon w r kind kept
  Open : begins begins_word r ≡ true → kind ≡ TokenKind.Operator → Resumes r Mode.Word r
      → ((start used : ℕ) → (s : Known) × (s.start ≡ used) × (run p (w ++ r) (blank colon start used) ≡ Next s) × (at_end p s ≡ Err Reason.Incomplete))
      → Takes p colon w r kind kept

-- with no octets ahead the scanner is in a blank
pub resumes_none : Resumes [] Mode.Blank []
resumes_none p colon end = let none : end ≡ end + length {A = ℕ} [] = omega arith in ap (λ (n : ℕ). Next (at Mode.Blank [] colon end n)) none

-- a token that its last octet ends
pub takes_now : {p : Place} {colon : Bool} {w r : List ℕ} {kind : TokenKind} {m : Mode} {kept : List ℕ} (o : ℕ) (k : Keep) → Stays m
    → Opens p colon w m kept → ((c : Bool) → next p c m o ≡ Action.Give kind k) → Takes p colon (w ++ o ∷ []) r kind (kept_after k kept)
takes_now {p = p} {colon = colon} {w = w} {r = r} {kind = kind} {m = m} {kept = kept} o k stays f e = Now (λ start used.
    let longer : (used + length w) + 1 ≡ used + length (w ++ o ∷ []) = omega (arith, length-append w (o ∷ [])) in
    ap (λ os. run p os (blank colon start used)) (append_assoc w (o ∷ []) r) ∙ f.on start used (o ∷ r)
    ∙ gives p colon o m kept kind k used (used + length w) r stays (e colon)
    ∙ ap (λ (n : ℕ). Given (record { start = used; end = n; kind = kind; octets = kept_after k kept }) (past p kind Mode.Blank [] n n)) longer)

-- a token that the octet behind it ends
pub takes_left : {p : Place} {colon : Bool} {w : List ℕ} {x : ℕ} {r : List ℕ} {kind : TokenKind} {m : Mode} {kept : List ℕ} (k : Keep) → Stays m
    → Opens p colon w m kept → ((c : Bool) → next p c m x ≡ Action.Before kind k Mode.Blank) → Takes p colon w (x ∷ r) kind (kept_after k kept)
takes_left {p = p} {colon = colon} {w = w} {x = x} {r = r} {kind = kind} {m = m} {kept = kept} k stays f e =
    Later [] x r Mode.Blank [] refl resumes_none (λ start used.
    let none : used + length w ≡ (used + length w) + length {A = ℕ} [] = omega arith in
    f.on start used (x ∷ r) ∙ leaves p colon x m kept kind k used (used + length w) r stays (e colon)
    ∙ ap (λ (n : ℕ). Left (lexeme w kind (kept_after k kept) used) (past p kind Mode.Blank [] (used + length w) n)) none)

-- a token that the end of the input ends
pub takes_end : {p : Place} {colon : Bool} {w : List ℕ} {kind : TokenKind} {m : Mode} {kept kept' : List ℕ} → Opens p colon w m kept
    → ((start used : ℕ) → at_end p (at m kept colon start used) ≡ Ok (Some (record { start = start; end = used; kind = kind; octets = kept' })))
    → Takes p colon w [] kind kept'
takes_end {colon = colon} {w = w} {m = m} {kept = kept} f e =
    AtEnd refl (λ start used. (at m kept colon used (used + length w), f.on start used [], e used (used + length w)))
