-- The promises of the reader, over the grammar.
use Rattle.std.proofs.Common.{◌≡◌, ◌↔◌, ℕ, ◌+◌, ◌≤◌, ◌<◌, List, [], ◌∷◌, ◌++◌, length, Result, Ok, Err, Option, Some, None, false, refl, ap, sym, ◌∙◌, subst, arith, append_assoc, append-nil, length-append, Bool, cond, inl, inr}
use Rattle.std.proofs.lemmas.Bool.{cases_lt}
use Rattle.ion_binary.specs.Names.{Catalog, Decides, Document, EndsValues, Frame, GivesNoTable, Grows, HasPieces, HasReasons, Incomplete, IsFirst, IsReadersReason, IsSmall, Limits, Machine, NoTables, OpenRest, Phase, Pieces, Ready, Reason, Refusal, Refuses, Run, Shown, Shows, Slot, Spaced, Streams, Value, Whole, anew, at, begins, document, ends_of, holds, initial, is_table, marked, no_piece, of_marker, on_now, plain, refused_of, run, run-append, skips, the_marker, trace, trace_of, turns, whole}
use Rattle.ion_symtab.specs.Decided.{IsDecided}
use Rattle.ion_symtab.specs.laws.Promises.{first_refused, shown_once}
use Rattle.ion_symtab.specs.laws.Reasons.{either}
use Rattle.ion_binary.specs.laws.reading.Decided.{row_decides}
use Rattle.ion_binary.specs.laws.reading.Documents.{pieces_run}
use Rattle.ion_binary.specs.laws.reading.OpenRests.{OpenCut, standing_open}
use Rattle.ion_binary.specs.laws.reading.Small.{spaced_on}
use Rattle.ion_binary.specs.laws.reading.Stands.{MachineStands, Standing}
use Rattle.ion_binary.specs.laws.reading.Stops.{Stop, begins_none, stop_of, stop_taken, stopped, whole_within}
use Rattle.ion_binary.specs.laws.reading.sound.Sound.{Ended, feed_stands, initial_stands, run_stands}

-- a document where the end is reached with no open piece
finished : (g : Catalog) (l : Limits) (c : List Slot) (fs : List Frame) (phase : Phase) (start : ℕ) (s : List Value) (body u : List ℕ) (r : Refusal)
    (last : Option Value) → Standing g l start c s fs body phase u → cond (whole phase fs) (Ok None) (Err r) ≡ Ok last → (last ≡ None) × Document g l u s
finished g l c [] Ready start s body u r last o h = (cc, (c, o.opened.0))
finished g l c (f ∷ fs) Ready start s body u r last o h = absurd cc
finished g l c _ _ start s body u r last o h = absurd cc

ended_well : (g : Catalog) (l : Limits) (u : List ℕ) (given : List (Value × ℕ)) (now : Result Machine Refusal) (last : Option Value) → Ended g l u [] given now
    → ends_of now ≡ Ok last → (last ≡ None) × Document g l u (plain given)
ended_well g l u given (Ok m) last o h = finished g l m.spot.context m.frames m.phase m.spot.start (plain given) m.body u _ last o.standing h
ended_well g l u given (Err e) last o h = absurd cc

admits : (g : Catalog) (l : Limits) (u : List ℕ) (s : List Value) → Streams (trace g l u) s → Document g l u s
admits g l u s t =
    let d = ended_well g l u (run g l 0 initial u).given (run g l 0 initial u).now t.last (run_stands g l 0 initial [] u [] (initial_stands g l)) t.ends in
    rw (t.values, d.0, append-nil) d.1

accepts : (g : Catalog) (l : Limits) (u : List ℕ) (s : List Value) → Document g l u s → Streams (trace g l u) s
accepts g l u s d =
    let r = pieces_run g l u s d.0 d.1 in record { last = None; ends = rw r.ran refl; values = rw (append-nil, r.ran) (sym r.gave) }

-- octets denote a stream exactly where they end well
pub exact : (g : Catalog) (l : Limits) (u : List ℕ) (s : List Value) → Streams (trace g l u) s ↔ Document g l u s
exact g l u s = (admits g l u s, accepts g l u s)

-- the octets of a document have one stream alone
pub one_stream : (g : Catalog) (l : Limits) (u : List ℕ) (s t : List Value) → Document g l u s → Document g l u t → s ≡ t
one_stream g l u s t a b =
    let p = pieces_run g l u s a.0 a.1 in
    let q = pieces_run g l u t b.0 b.1 in
    sym p.gave ∙ (ap (λ x. plain x.given) (sym p.ran ∙ q.ran) ∙ q.gave)

-- pieces have an octet
pieces_some : (g : Catalog) (l : Limits) (u : List ℕ) (s : List Value) (c : List Slot) → Pieces g l u s c → 0 < length u
pieces_some g l _ _ _ begins = omega arith
pieces_some g l _ _ _ (marked u s c d) = omega (arith, pieces_some g l u s c d, length-append u the_marker)
pieces_some g l _ _ _ (skips u w s c d p) = omega (arith, pieces_some g l u s c d, length-append u w)
pieces_some g l _ _ _ (turns u w s c e v d b t n p q) = omega (arith, pieces_some g l u s c d, length-append u w)
pieces_some g l _ _ _ (holds u w s c v d b t p q) = omega (arith, pieces_some g l u s c d, length-append u w)

-- whole pieces have one stream
pub one_whole : (g : Catalog) (l : Limits) (u w : List ℕ) (s t : List Value) → u ≡ w → Whole g l u s → Whole g l w t → s ≡ t
one_whole g l _ _ _ _ e no_piece no_piece = refl
one_whole g l _ _ _ _ e no_piece (document w t c d) = absurd (omega (arith, ap length e, pieces_some g l w t c d))
one_whole g l _ _ _ _ e (document u s c d) no_piece = absurd (omega (arith, ap length e, pieces_some g l u s c d))
one_whole g l _ _ _ _ e (document u s c d) (document w t b f) = one_stream g l w s t (c, rw e at d) (b, f)

-- octets show one stream
pub one_shown : (g : Catalog) (l : Limits) (u : List ℕ) (s t : List Value) → Shown (λ front following s. Whole g l front s) u s
    → Shown (λ front following s. Whole g l front s) u t → s ≡ t
one_shown g l u s t a b = shown_once (λ front following s. Whole g l front s) u s t (λ front following p q. one_whole g l front front s t refl p q) a b

-- what the machine holds behind octets stands for them
pub ran_stands : (g : Catalog) (l : Limits) (u : List ℕ) (given : List (Value × ℕ)) (m : Machine) → run g l 0 initial u ≡ record { given = given; now = Ok m }
    → MachineStands g l u (plain given) m
ran_stands g l u given m e = rw e at (run_stands g l 0 initial [] u [] (initial_stands g l))

cut_of : (g : Catalog) (l : Limits) (u : List ℕ) (given : List (Value × ℕ)) (m : Machine) → run g l 0 initial u ≡ record { given = given; now = Ok m }
    → OpenCut g l m.spot.start (plain given) u
cut_of g l u given m e = standing_open g l m.spot.start m.spot.context (plain given) m.frames m.body m.phase u (ran_stands g l u given m e).standing

-- two lists of octets begin alike
pub front_of : (before w v rest : List ℕ) → before ++ w ≡ v ++ rest → length v ≤ length before → (r : List ℕ) × (before ≡ v ++ r)
front_of before w [] rest e h = (before, refl)
front_of [] w (x ∷ v) rest e h = absurd (omega arith)
front_of (y ∷ before) w (x ∷ v) rest e h =
    let p = front_of before w v rest (cc) (omega arith) in (p.0, cc)

shows_now : (g : Catalog) (l : Limits) (u : List ℕ) (given : List (Value × ℕ)) (now : Result Machine Refusal)
    → run g l 0 initial u ≡ record { given = given; now = now } → refused_of now ≡ None
    → Shows (λ front following s. Whole g l front s) (λ front rest. OpenRest l rest) u (plain given)
shows_now g l u given (Err e) ran h = absurd cc
shows_now g l u given (Ok m) ran h =
    let c = cut_of g l u given m ran in
    let i = c.cut.at in
    record {
      shown = record {
        front = c.cut.front;
        open_rest = c.cut.rest;
        parts = c.cut.parts;
        whole = λ following octets. c.cut.whole;
        longest = λ v rest t e w.
            let k = whole_within g l v rest t m (w [] tt) (rw (← e, ran) refl) in omega arith;
      };
      rest = c.open_rest;
    }

-- where nothing was refused, the values given are those shown
pub shown : (g : Catalog) (l : Limits) (u : List ℕ) → (trace g l u).refused ≡ None
    → Shows (λ front following s. Whole g l front s) (λ front rest. OpenRest l rest) u (plain (trace g l u).given)
shown g l u h = shows_now g l u (run g l 0 initial u).given (run g l 0 initial u).now refl h

pub refused_is : (now : Result Machine Refusal) (r : Refusal) → refused_of now ≡ Some r → now ≡ Err r
refused_is (Ok m) r h = absurd cc
refused_is (Err e) r h = cc

-- the octets up to the refused one show what those before it show
stop_shown : (g : Catalog) (l : Limits) (u : List ℕ) (r : Refusal) (p : Stop g l 0 initial u r)
    → Shown (λ front following s. Whole g l front s) (p.before ++ p.b ∷ []) (plain (run g l 0 initial u).given)
stop_shown g l u r p =
    let c = cut_of g l p.before (run g l 0 initial u).given p.n p.ran in
    let i = c.cut.at in
    record {
      front = c.cut.front;
      open_rest = c.cut.rest ++ p.b ∷ [];
      parts = ap (λ x. x ++ p.b ∷ []) c.cut.parts ∙ append_assoc c.cut.front c.cut.rest (p.b ∷ []);
      whole = λ following octets. c.cut.whole;
      longest = λ v rest t e w. let k : length v ≤ p.n.spot.start = longest v rest t e (w [] tt) in omega arith;
    }
  where
    inside : (v rest : List ℕ) (t : List Value) → p.before ++ p.b ∷ [] ≡ v ++ rest → length v ≤ length p.before → Whole g l v t → length v ≤ p.n.spot.start
    inside v rest t e h w =
        let q = front_of p.before (p.b ∷ []) v rest e h in
        whole_within g l v q.0 t p.n w (rw (← q.1, p.ran) refl)

    all : (v : List ℕ) (t : List Value) → p.before ++ p.b ∷ [] ≡ v → length p.before < length v → Whole g l v t → ⊥
    all _ _ e h no_piece = absurd (omega arith)
    all _ _ e h (document v t c d) = begins_none g l (p.before ++ p.b ∷ []) _ (stopped g l u r p) [] t
        (rw (append-nil (p.before ++ p.b ∷ []), e) (c, d))

    no_rest : (v rest : List ℕ) → p.before ++ p.b ∷ [] ≡ v ++ rest → length p.before < length v → rest ≡ []
    no_rest v [] e h = refl
    no_rest v (x ∷ xs) e h = absurd (omega (arith, ap length e, length-append p.before (p.b ∷ []), length-append v (x ∷ xs)))

    longest : (v rest : List ℕ) (t : List Value) → p.before ++ p.b ∷ [] ≡ v ++ rest → Whole g l v t → length v ≤ p.n.spot.start
    longest v rest t e w =
        elim (cases_lt (length p.before) (length v)) [
          | inl lt ↦ absurd (all v t (rw (no_rest v rest e lt, append-nil v) at e) lt w)
          | inr le ↦ inside v rest t e le w
        ]

-- each refusal has a row (specs/laws/reading/sound/Sound.antt, where `Leaves` of a refusal is `Decides`)
pub stopped_decides : (g : Catalog) (l : Limits) (u : List ℕ) (r : Refusal) → (p : Stop g l 0 initial u r) → Decides g l (p.before ++ p.b ∷ []) r.reason
stopped_decides g l u r p =
    let s = ran_stands g l p.before (run g l 0 initial u).given p.n p.ran in
    rw p.refused at (feed_stands g l p.n p.before (plain (run g l 0 initial u).given) p.b s)

stop_decides : (g : Catalog) (l : Limits) (u : List ℕ) (r : Refusal) (p : Stop g l 0 initial u r) → IsDecided r.reason
stop_decides g l u r p = row_decides g l (p.before ++ p.b ∷ []) r.reason (stopped_decides g l u r p)

-- a refusal at n means that no document begins with the first n octets
pub refused : (g : Catalog) (l : Limits) (u : List ℕ) (r : Refusal) → (trace g l u).refused ≡ Some r
    → Refuses (Document g l) (λ front following s. Whole g l front s) u (trace g l u) r
refused g l u r h =
    let e = refused_is (run g l 0 initial u).now r h in
    let p = stop_of g l 0 initial u r e in
    let t = stop_taken g l u r p in
    let d = stop_decides g l u r p in
    record {
      within = t.0;
      none = rw t.1 (begins_none g l (p.before ++ p.b ∷ []) _ (stopped g l u r p));
      shown = rw t.1 (stop_shown g l u r p);
      ends = ap ends_of e;
      whole_memory = λ i. subst IsDecided i d;
      before_end = λ i. subst IsDecided i d;
    }

cond_offset : (b : Bool) (last : Option Value) (q r : Refusal) → cond b (Ok last) (Err q) ≡ Err r → q ≡ r
cond_offset Bool.true last q r h = absurd cc
cond_offset Bool.false last q r h = cc

ends_now : (g : Catalog) (l : Limits) (u : List ℕ) (given : List (Value × ℕ)) (now : Result Machine Refusal) (r : Refusal)
    → run g l 0 initial u ≡ record { given = given; now = now } → refused_of now ≡ None → ends_of now ≡ Err r
    → r ≡ record { offset = length u; reason = Incomplete }
ends_now g l u given (Err e) r ran h k = absurd cc
ends_now g l u given (Ok m) r ran h k =
    let s = ran_stands g l u given m ran in
    sym (cond_offset (whole m.phase m.frames) None _ r k) ∙ ap (λ n. record { offset = n; reason = Incomplete }) s.used

-- where no octet is refused, the end refuses for `Incomplete` alone, behind all octets
pub ends : (g : Catalog) (l : Limits) (u : List ℕ) (r : Refusal) → (trace g l u).refused ≡ None → (trace g l u).ends ≡ Err r
    → r ≡ record { offset = length u; reason = Incomplete }
ends g l u r h k = ends_now g l u (run g l 0 initial u).given (run g l 0 initial u).now r refl h k

-- a refusal at the end counts all octets
pub unfinished : (g : Catalog) (l : Limits) (u : List ℕ) (r : Refusal) → (trace g l u).refused ≡ None → (trace g l u).ends ≡ Err r → r.offset ≡ length u
unfinished g l u r h k = ap (λ (q : Refusal). q.offset) (ends g l u r h k)

readers_reason : (reason : Reason) → IsDecided reason → IsReadersReason reason
readers_reason reason d = record { whole_memory = λ i. subst IsDecided i d; no_duplicate = λ i. subst IsDecided i d; no_bad_table = λ i. subst IsDecided i d }

step_reason : (g : Catalog) (l : Limits) (u : List ℕ) (r : Refusal) → (run g l 0 initial u).now ≡ Err r → IsReadersReason r.reason
step_reason g l u r e = readers_reason r.reason (stop_decides g l u r (stop_of g l 0 initial u r e))

end_reason : (g : Catalog) (l : Limits) (u : List ℕ) (now : Result Machine Refusal) (r : Refusal) → (run g l 0 initial u).now ≡ now → ends_of now ≡ Err r
    → IsReadersReason r.reason
end_reason g l u (Err q) r ran h = let same : q ≡ r = cc in rw same at (step_reason g l u q ran)
end_reason g l u (Ok m) r ran h =
    rw (ends g l u r (ap refused_of ran) (ap ends_of ran ∙ h)) (record { whole_memory = λ i. cc; no_duplicate = λ i. cc; no_bad_table = λ i. cc })

-- neither a step nor the end refuses for want of memory, or for what only a catalog is refused
pub reasons : (g : Catalog) (l : Limits) (u : List ℕ) → HasReasons (trace g l u)
reasons g l u = record {
  step = λ r h. step_reason g l u r (refused_is (run g l 0 initial u).now r h);
  end = λ r h. end_reason g l u (run g l 0 initial u).now r refl h;
}

-- there are as many values as were given
pub plain_long : (given : List (Value × ℕ)) → length (plain given) ≡ length given
plain_long [] = refl
plain_long (v ∷ given) = omega (arith, plain_long given)

no_values : (given : List (Value × ℕ)) → length given ≡ 0 → given ≡ []
no_values [] h = refl
no_values (v ∷ given) h = absurd (omega arith)

spaced_whole : (g : Catalog) (l : Limits) (front rest : List ℕ) (s : List Value) (given : List (Value × ℕ)) (m : Machine) → Whole g l front s
    → run g l 0 initial (front ++ rest) ≡ record { given = given; now = Ok m } → plain given ≡ s → Spaced l.item 0 given (length (front ++ rest))
spaced_whole g l _ rest _ given m no_piece ran e =
    let k = plain_long given in
    let n : length (plain given) ≡ 0 = ap length e in
    rw (no_values given (omega arith)) (omega arith)
spaced_whole g l _ rest _ given m (document front s c d) ran e =
    let r = pieces_run g l front s c d in
    let later = (run g l (length front) (at (anew (length front) c) [] Ready) rest).given in
    let whole_run = rw (ran, r.ran) at (run-append g l 0 (length front) front rest (omega arith) initial) in
    let cut : given ≡ r.given ++ later = ap (λ (x : Run). x.given) whole_run in
    let n : length given ≡ length r.given + length later = ap length cut ∙ length-append r.given later in
    let p = plain_long given in
    let q = plain_long r.given in
    let same : length (plain given) ≡ length (plain r.given) = ap length (e ∙ sym r.gave) in
    let alone : given ≡ r.given = rw (no_values later (omega arith), append-nil) at cut in
    let long = length-append front rest in
    rw alone (spaced_on l.item 0 r.given (length front) (length (front ++ rest)) r.spaced (omega arith))

spaced_ok : (g : Catalog) (l : Limits) (u : List ℕ) (given : List (Value × ℕ)) (m : Machine) → run g l 0 initial u ≡ record { given = given; now = Ok m }
    → Spaced l.item 0 given (length u)
spaced_ok g l u given m ran =
    let c = cut_of g l u given m ran in
    rw c.cut.parts (spaced_whole g l c.cut.front c.cut.rest (plain given) given m c.cut.whole (rw (← c.cut.parts) ran) refl)

spaced_now : (g : Catalog) (l : Limits) (u : List ℕ) (now : Result Machine Refusal) → (run g l 0 initial u).now ≡ now
    → Spaced l.item 0 (run g l 0 initial u).given (length u)
spaced_now g l u (Ok m) e = spaced_ok g l u (run g l 0 initial u).given m (ap (λ x. record { given = (run g l 0 initial u).given; now = x }) e)
spaced_now g l u (Err r) e =
    let p = stop_of g l 0 initial u r e in
    let n : length u ≡ length (p.before ++ p.b ∷ p.rest) = ap length p.parts in
    let k = length-append p.before (p.b ∷ p.rest) in
    spaced_on l.item 0 (run g l 0 initial u).given (length p.before) (length u) (spaced_ok g l p.before (run g l 0 initial u).given p.n p.ran) (omega arith)

no_last : (now : Result Machine Refusal) (v : Value) → ends_of now ≡ Ok (Some v) → ⊥
no_last (Ok m) v = either (λ (x : Result (Option Value) Refusal). x ≡ Ok (Some v) → ⊥) (whole m.phase m.frames) _ _ (λ h. cc) (λ h. cc)
no_last (Err e) v = λ h. cc

-- a value has at most as many nodes as octets were used since the value before it, and as an item may have
pub small : (g : Catalog) (l : Limits) (u : List ℕ) → IsSmall l.item u (trace g l u)
small g l u = record { given = spaced_now g l u (run g l 0 initial u).now refl; last = λ v h. absurd (no_last (run g l 0 initial u).now v h) }

grows_on : (given : List (Value × ℕ)) (now : Result Machine Refusal) (rest : Machine → Run) →
    Grows (trace_of (record { given = given; now = now })) (trace_of (on_now given now rest))
grows_on given (Ok m) rest = record { given = ((rest m).given, refl); refused = λ never. cc }
grows_on given (Err refusal) rest = record { given = ([], sym (append-nil given)); refused = λ _. refl }

-- what was refused stays refused, and what was given stays given
pub grows : (g : Catalog) (l : Limits) (u w : List ℕ) → Grows (trace g l u) (trace g l (u ++ w))
grows g l u w =
    let r = run g l 0 initial u in
    rw (run-append g l 0 (length u) u w (omega arith) initial) (grows_on r.given r.now (λ n. run g l (length u) n w))

-- a refusal names the octet that decides
pub decided : (g : Catalog) (l : Limits) (u : List ℕ) (r : Refusal) → (trace g l u).refused ≡ Some r → IsFirst (trace g l) u r
decided g l u r h =
    let p = stop_of g l 0 initial u r (refused_is (run g l 0 initial u).now r h) in
    let o = p.offset in
    let offset : r.offset ≡ length p.before + 1 = omega arith in
    first_refused (trace g l) (grows g l) u p.before p.rest p.b r p.parts offset (ap (λ (x : Run). refused_of x.now) p.ran)
    (ap refused_of (stopped g l u r p) ∙ ap (λ n. Some (record { offset = n; reason = r.reason })) (sym offset))

-- a document is whole pieces
pub documents_are_pieces : (g : Catalog) (l : Limits) (u : List ℕ) (s : List Value) → Document g l u s
    → HasPieces (λ front following s. Whole g l front s) (λ front rest. OpenRest l rest) u s
documents_are_pieces g l u s d = record {
  front = u;
  open_rest = [];
  parts = sym (append-nil u);
  whole = document u s d.0 d.1;
  rest = of_marker [] (omega arith);
}

-- whole pieces that have an octet are a document
pub pieces_are_documents : (g : Catalog) (l : Limits) (u following : List ℕ) (s : List Value) → Whole g l u s → 0 < length u → Document g l u s
pieces_are_documents g l _ following _ no_piece some = absurd (omega arith)
pieces_are_documents g l _ following _ (document u s c d) some = (c, d)

no_tables_more : (s : List Value) (v : Value) → NoTables s → is_table v ≡ false → NoTables (s ++ v ∷ [])
no_tables_more [] v h e = (e, tt)
no_tables_more (w ∷ s) v h e = (h.0, no_tables_more s v h.1 e)

-- the values of pieces are no tables
pub pieces_values : (g : Catalog) (l : Limits) (w : List ℕ) (s : List Value) (c : List Slot) → Pieces g l w s c → NoTables s
pieces_values g l _ _ _ begins = tt
pieces_values g l _ _ _ (marked u s c d) = pieces_values g l u s c d
pieces_values g l _ _ _ (skips u w s c d p) = pieces_values g l u s c d
pieces_values g l _ _ _ (turns u w s c e v d b t n p q) = pieces_values g l u s c d
pieces_values g l _ _ _ (holds u w s c v d b t p q) = no_tables_more s v (pieces_values g l u s c d) t

-- no value of whole pieces is a local symbol table
pub whole_values : (g : Catalog) (l : Limits) (w : List ℕ) (s : List Value) → Whole g l w s → NoTables s
whole_values g l _ _ no_piece = tt
whole_values g l _ _ (document u s c d) = pieces_values g l u s c d

given_values : (g : Catalog) (l : Limits) (u : List ℕ) (given : List (Value × ℕ)) (m : Machine) → run g l 0 initial u ≡ record { given = given; now = Ok m }
    → NoTables (plain given)
given_values g l u given m ran = let c = cut_of g l u given m ran in whole_values g l c.cut.front (plain given) c.cut.whole

values_now : (g : Catalog) (l : Limits) (u : List ℕ) (now : Result Machine Refusal) → (run g l 0 initial u).now ≡ now
    → NoTables (plain (run g l 0 initial u).given)
values_now g l u (Ok m) e = given_values g l u (run g l 0 initial u).given m (ap (λ x. record { given = (run g l 0 initial u).given; now = x }) e)
values_now g l u (Err r) e = let p = stop_of g l 0 initial u r e in given_values g l p.before (run g l 0 initial u).given p.n p.ran

-- no value given is a local symbol table
pub no_tables : (g : Catalog) (l : Limits) (u : List ℕ) → GivesNoTable (trace g l u)
no_tables g l u = record { given = values_now g l u (run g l 0 initial u).now refl; last = λ v h. absurd (no_last (run g l 0 initial u).now v h) }

-- a value comes with its last octet, so the end gives none
pub ends_values : (g : Catalog) (l : Limits) (u : List ℕ) → EndsValues (trace g l) u
ends_values g l u o last v total later ends given = absurd (no_last (run g l 0 initial u).now last ends)
