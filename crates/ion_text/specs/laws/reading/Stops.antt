-- Where a run is refused, and what the refusal says.
use Rattle.std.proofs.Common.{◌≡◌, ℕ, ◌+◌, ◌≤◌, List, [], ◌∷◌, ◌++◌, length, take, Bool, true, false, Result, Ok, Err, Option, Some, None, refl, ap, sym, ◌∙◌, subst, arith, append_assoc, append-nil, length-append, if◌then◌else◌}
use Rattle.std.proofs.Math.Seq.{take-append-add}
use Rattle.ion_text.specs.Names.{BeginsNone, Catalog, Content, Document, Effect, GivesNoTable, IsFirst, Lexeme, Limits, NoTables, Reading, Reason, Refusal, Run, Stage, State, Turn, Value, at_end, begun, cut_short, eats, end_late, end_now, end_ready, end_said, end_settled, end_turned, end_waiting, ends_of, fails, goes, grows, is_fresh, is_table, late, leaves, on_now, once_more, place, plain, refused_of, run, run-append, run_on, said, settle, token_of, trace, turn}
use Rattle.ion_tokens.proofs.histories.Ended.{stands_used}
use Rattle.ion_tokens.proofs.runs.Runs.{next_used}
use Rattle.ion_symtab.specs.laws.Promises.{first_refused}
use Rattle.ion_text.specs.laws.reading.ValuesKept.{pieces_values}
use Rattle.ion_text.specs.laws.reading.complete.Accepts.{accepts}
use Rattle.ion_text.specs.laws.reading.sound.Admits.{stood_accepted}
use Rattle.ion_text.specs.laws.reading.sound.Steps.{Stood, StoodBehind, begun_stood, run_ran}

module _ (g : Catalog) (l : Limits) where
  -- a state that stands for octets has used just these
  pub stood_used : (u : List ℕ) (vs : List Value) (m : State) → Stood g l u vs m → m.scan.used ≡ length u
  stood_used u vs m b =
      let k = stands_used b.scanned.behind b.scanned.front (b.front ++ b.item) b.scanned.left b.scanned.told in
      omega (
        arith,
        k,
        next_used (place m.reading) b.scanned.since b.scanned.behind m.scan (sym b.scanned.ran),
        ap length b.scanned.cut,
        length-append b.scanned.front b.scanned.since,
      )

  -- Refused octets: those before one go on, and with it they are refused.
  pub record Stop (u : List ℕ) (r : Refusal) : Type 0 where
    pub before : List ℕ
    pub o : ℕ
    pub rest : List ℕ
    pub n : State
    pub parts : u ≡ before ++ o ∷ rest
    pub ran : (run g l 0 begun before).now ≡ Ok n
    pub stopped : (run g l 0 begun (before ++ o ∷ [])).now ≡ Err r
    pub same : run g l 0 begun u ≡ run g l 0 begun (before ++ o ∷ [])

  -- a run over octets and more goes on over these where the first led
  pub behind_run : (u w : List ℕ) → run g l 0 begun (u ++ w) ≡ on_now (run g l 0 begun u).given (run g l 0 begun u).now (λ n. run g l (length u) n w)
  behind_run u w = run-append g l 0 (length u) u w (omega arith) begun

  refused_on : (x : Run) (r : Refusal) (f : State → Run) → x.now ≡ Err r → on_now x.given x.now f ≡ x
  refused_on x r f e = ap (λ y. on_now x.given y f) e ∙ ap (λ y. record { given = x.given; now = y }) (sym e)

  stop_from : (os done : List ℕ) (n : State) (r : Refusal) → (run g l 0 begun done).now ≡ Ok n → (run g l 0 begun (done ++ os)).now ≡ Err r
      → Stop (done ++ os) r
  stop_from [] done n r h e = absurd (let k : Ok n ≡ Err r = sym h ∙ (ap (λ x. (run g l 0 begun x).now) (sym (append-nil done)) ∙ e) in cc)
  stop_from (o ∷ os) done n r h e = go (run g l 0 begun (done ++ o ∷ [])).now refl
      (λ k f. stop_from os (done ++ o ∷ []) k r f (ap (λ x. (run g l 0 begun x).now) (append_assoc done (o ∷ []) os) ∙ e))
    where
      cut : done ++ o ∷ os ≡ (done ++ o ∷ []) ++ os
      cut = sym (append_assoc done (o ∷ []) os)

      go : (x : Result State Refusal) → (run g l 0 begun (done ++ o ∷ [])).now ≡ x
          → ((k : State) → (run g l 0 begun (done ++ o ∷ [])).now ≡ Ok k → Stop ((done ++ o ∷ []) ++ os) r) → Stop (done ++ o ∷ os) r
      go (Ok k) f more = subst (λ x. Stop x r) (append_assoc done (o ∷ []) os) (more k f)
      go (Err q) f more =
          let whole : run g l 0 begun (done ++ o ∷ os) ≡ run g l 0 begun (done ++ o ∷ []) =
          ap (run g l 0 begun) cut ∙ (behind_run (done ++ o ∷ []) os
          ∙ refused_on (run g l 0 begun (done ++ o ∷ [])) q (λ n. run g l (length (done ++ o ∷ [])) n os) f) in
          record { before = done; o = o; rest = os; n = n; parts = refl; ran = h; stopped = ap (λ (x : Run). x.now) (sym whole) ∙ e; same = whole }

  -- where a run is refused, it is by one octet, behind others with which it goes on
  pub stop_of : (u : List ℕ) (r : Refusal) → (run g l 0 begun u).now ≡ Err r → Stop u r
  stop_of u r e = stop_from u [] begun r refl e

  -- one octet is refused where it ends
  one_offset : (to o : ℕ) (r : Refusal) (x : Effect) → (run_on to (λ n. eats g l n o) (λ n. run g l (to + 1) n []) x).now ≡ Err r → r.offset ≡ to + 1
  one_offset to o r (fails y) e = cc
  one_offset to o r (leaves v n) e = by (eats g l n o) e
    where
      by : (x : Effect) → (once_more to (λ n. run g l (to + 1) n []) x).now ≡ Err r → r.offset ≡ to + 1
      by (leaves w k) e = cc
      by _ e = cc
  one_offset to o r _ e = absurd cc

  pub stop_offset : (u : List ℕ) (r : Refusal) (p : Stop u r) → r.offset ≡ length p.before + 1
  stop_offset u r p =
      one_offset (length p.before) p.o r (eats g l p.n p.o)
      (sym (ap (λ (x : Run). x.now) (behind_run p.before (p.o ∷ []))
      ∙ ap (λ y. (on_now (run g l 0 begun p.before).given y (λ n. run g l (length p.before) n (p.o ∷ []))).now) p.ran) ∙ p.stopped)

  -- the octets up to the refused one
  pub stop_taken : (u : List ℕ) (r : Refusal) (p : Stop u r) → take r.offset u ≡ p.before ++ p.o ∷ []
  stop_taken u r p =
      let k = stop_offset u r p in
      ap (λ (x : ℕ). take x u) k ∙ (ap (take (length p.before + 1)) p.parts ∙ take-append-add p.before (p.o ∷ p.rest) 1)

  -- a refusal's offset lies within the octets
  pub stop_within : (u : List ℕ) (r : Refusal) → Stop u r → r.offset ≤ length u
  stop_within u r p = let k = stop_offset u r p in omega (arith, k, ap length p.parts, length-append p.before (p.o ∷ p.rest))

  -- no document begins with octets that are refused
  pub begins_none : (u : List ℕ) (r : Refusal) → (run g l 0 begun u).now ≡ Err r → BeginsNone (Document g l) u
  begins_none u r h rest s d =
      let x = accepts g l (u ++ rest) s d in
      let now : (run g l 0 begun (u ++ rest)).now ≡ Err r = ap (λ (y : Run). y.now) (behind_run u rest)
      ∙ ap (λ y. (on_now (run g l 0 begun u).given y (λ n. run g l (length u) n rest)).now) h in
      let never : Err r ≡ Ok x.last = sym (ap (ends_of g l) now) ∙ x.ends in
      absurd cc

  refused_is : (now : Result State Refusal) (r : Refusal) → refused_of now ≡ Some r → now ≡ Err r
  refused_is (Ok m) r h = absurd cc
  refused_is (Err e) r h = let k : e ≡ r = cc in ap Err k

  -- what the trace says of a refusal is that of the run
  pub refused_run : (u : List ℕ) (r : Refusal) → (trace g l u).refused ≡ Some r → (run g l 0 begun u).now ≡ Err r
  refused_run u r h = refused_is (run g l 0 begun u).now r h

  -- no document begins with the octets up to a refusal's offset
  pub refused_none : (u : List ℕ) (r : Refusal) → (trace g l u).refused ≡ Some r → BeginsNone (Document g l) (take r.offset u)
  refused_none u r h =
      let p = stop_of u r (refused_run u r h) in
      subst (BeginsNone (Document g l)) (sym (stop_taken u r p)) (begins_none (p.before ++ p.o ∷ []) r p.stopped)

  -- the end repeats it
  pub refused_ends : (u : List ℕ) (r : Refusal) → (trace g l u).refused ≡ Some r → (trace g l u).ends ≡ Err r
  refused_ends u r h = ap (ends_of g l) (refused_run u r h)

  -- it names the octet that decides
  pub decided : (u : List ℕ) (r : Refusal) → (trace g l u).refused ≡ Some r → IsFirst (trace g l) u r
  decided u r h =
      let p = stop_of u r (refused_run u r h) in
      first_refused (trace g l) (grows g l) u p.before p.rest p.o r p.parts (stop_offset u r p) (ap refused_of p.ran) (ap refused_of p.stopped)

  -- what the end refuses is at the octets used
  late_offset : (used : ℕ) (e : Reason) (r : Refusal) → end_late used e ≡ Err r → r.offset ≡ used
  late_offset used Reason.Depth r h = cc
  late_offset used _ r h = cc

  fresh_offset : (used : ℕ) (b : Bool) (r : Refusal) → (if b then Ok None else cut_short used) ≡ Err r → r.offset ≡ used
  fresh_offset used true r h = absurd cc
  fresh_offset used false r h = cc

  settled_offset : (used : ℕ) (t : Turn) (r : Refusal) → end_settled used t ≡ Err r → r.offset ≡ used
  settled_offset used (goes n) r h = fresh_offset used (is_fresh n) r h
  settled_offset used (late e n) r h = late_offset used e r h
  settled_offset used _ r h = cc

  turned_offset : (used : ℕ) (t : Turn) (r : Refusal) → end_turned g l used t ≡ Err r → r.offset ≡ used
  turned_offset used (goes n) r h = settled_offset used (settle g l n) r h
  turned_offset used (late e n) r h = late_offset used e r h
  turned_offset used _ r h = cc

  said_offset : (used : ℕ) (n : Reading) (x : Lexeme) (c : Result Content Reason) (r : Refusal) → end_said g l used n x c ≡ Err r → r.offset ≡ used
  said_offset used n x (Ok c) r h = turned_offset used (turn g l n (token_of x c)) r h
  said_offset used n x (Err e) r h = cc

  waiting_offset : (used : ℕ) (x : Result (Option Lexeme) Reason) (t : Turn) (r : Refusal) → end_waiting g l used x t ≡ Err r → r.offset ≡ used
  waiting_offset used (Ok None) t r h = settled_offset used t r h
  waiting_offset used (Ok (Some x)) (late e n) r h = late_offset used e r h
  waiting_offset used (Err y) (late e n) r h = late_offset used e r h
  waiting_offset used _ _ r h = cc

  ready_offset : (used : ℕ) (n : Reading) (x : Result (Option Lexeme) Reason) (r : Refusal) → end_ready g l used n x ≡ Err r → r.offset ≡ used
  ready_offset used n (Ok None) r h = fresh_offset used (is_fresh n) r h
  ready_offset used n (Ok (Some x)) r h = said_offset used n x (said x.kind x.octets) r h
  ready_offset used n (Err y) r h = cc

  now_offset : (used : ℕ) (n : Reading) (x : Result (Option Lexeme) Reason) (now : Stage) (r : Refusal) → end_now g l used n x now ≡ Err r → r.offset ≡ used
  now_offset used n x (Stage.Pending k e) r h = waiting_offset used x (settle g l n) r h
  now_offset used n x (Stage.Long w e) r h = waiting_offset used x (settle g l n) r h
  now_offset used n x (Stage.LongName w) r h = cc
  now_offset used n x _ r h = ready_offset used n x r h

  unfinished_now : (u : List ℕ) (given : List (Value × ℕ)) (now : Result State Refusal) (r : Refusal)
      → StoodBehind g l u [] (record { given = given; now = now }) → refused_of now ≡ None → ends_of g l now ≡ Err r → r.offset ≡ length u
  unfinished_now u given (Ok m) r b h e = now_offset m.scan.used m.reading (at_end (place m.reading) m.scan) m.reading.now r e ∙ stood_used u (plain given) m b
  unfinished_now u given (Err q) r b h e = absurd cc

  -- A refusal at the end counts all octets.
  pub unfinished : (u : List ℕ) (r : Refusal) → (trace g l u).refused ≡ None → (trace g l u).ends ≡ Err r → r.offset ≡ length u
  unfinished u r h e = let x = run g l 0 begun u in unfinished_now u x.given x.now r (run_ran g l u [] [] 0 begun (begun_stood g l)) h e

  front_values : (s : List Value) (v : Value) → NoTables (s ++ v ∷ []) → NoTables s × (is_table v ≡ false)
  front_values [] v h = (tt, h.0)
  front_values (w ∷ s) v h = let k = front_values s v h.1 in ((h.0, k.0), k.1)

  -- behind octets, refused or not, the values given are those of whole pieces
  given_values : (u : List ℕ) (given : List (Value × ℕ)) (now : Result State Refusal) → StoodBehind g l u [] (record { given = given; now = now })
      → NoTables (plain given)
  given_values u given (Ok m) b = pieces_values g l b.front (plain given) m.reading.context b.pieces
  given_values u given (Err e) b = pieces_values g l b.0 (plain given) b.1 b.2

  last_value : (u : List ℕ) (given : List (Value × ℕ)) (now : Result State Refusal) (v : Value) → StoodBehind g l u [] (record { given = given; now = now })
      → ends_of g l now ≡ Ok (Some v) → is_table v ≡ false
  last_value u given (Ok m) v b e = let d = stood_accepted g l u (plain given) m (Some v) b e in
      (front_values (plain given) v (pieces_values g l d.tokens (plain given ++ v ∷ []) d.context d.pieces)).1
  last_value u given (Err q) v b e = absurd cc

  -- No value given is a local symbol table.
  pub no_tables : (u : List ℕ) → GivesNoTable (trace g l u)
  no_tables u =
      let x = run g l 0 begun u in
      let b = run_ran g l u [] [] 0 begun (begun_stood g l) in
      record { given = given_values u x.given x.now b; last = λ v e. last_value u x.given x.now v b e }
