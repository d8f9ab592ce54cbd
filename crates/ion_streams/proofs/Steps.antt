-- How far a document has been read, step by step.
use Rattle.std.proofs.Common.{◌≡◌, inl, inr, ℕ, ◌^◌, ◌≤◌, List, [], ◌∷◌, ◌++◌, length, refl, sym, ◌∙◌, arith, Bool, true, false, Option, Some, None, option_map, option_to_list, append-nil, append_assoc, Result, Ok, Err, OnErr}
use Rattle.std.proofs.lemmas.List.{map-append}
use Rattle.ion_streams.specs.Names.{Catalog, EndsRefused, GaveEach, GaveSoFar, Heard, IfRefused, Inlet, IsReady, IsWithin, Items, Limits, MatchClosed, PieceReader, ReadState, Reads, ReadsEach, Refills, Refusal, Stood, StoodEach, ToldEach, ToldRefusedEach, Value, Went, format_of, given_at, left_of, plain}
use Rattle.ion_symtab.specs.laws.Causes.{WereMade-nil}
use Rattle.ion_symtab.specs.laws.Heard.{Heard-end, Heard-nil, Heard-trans}
use Rattle.ion_streams.specs.Outcomes.{EndsWell}

-- what is so whatever a call answers is so where it answers a fault or a refusal
pub on_err : {A E : Type 0} (result : Result A E) (P : Type 0) → P → OnErr result P
on_err (Ok a) P p = tt
on_err (Err e) P p = p

-- the values without their totals go on with the one that was found
pub plain_next : (given : List (Value × ℕ)) (found : Option (Value × ℕ)) (value : Option Value) (s : List Value) → plain given ≡ s
    → option_map (λ (x : Value × ℕ). x.0) found ≡ value → plain (given ++ option_to_list found) ≡ s ++ option_to_list value
plain_next given None value s values same = let all = map-append (λ (x : Value × ℕ). x.0) given [] in cc
plain_next given (Some x) value s values same = let all = map-append (λ (x : Value × ℕ). x.0) given (x ∷ []) in cc

module _ {S X : Type 0} (R : Inlet S) (I : Items X) (g : Catalog) (l : Limits) where
  -- some octets were used; of the reader something else may be known behind them
  pub reads_by : (J : Items X) (first now : S) (source after : PieceReader X) (given : List (Value × ℕ)) (value : Option Value)
      (h : ReadsEach R I g l first now source given) → Went J h.u given (left_of source) after value → J.catalog after.items ≡ I.catalog source.items
      → J.limits after.items ≡ I.limits source.items → after.ended ≡ source.ended → ReadsEach R J g l first now after (given ++ given_at value after.used)
  reads_by J first now source after given value h w under within ended =
      record { u = w.to; heard = rw (w.octets, ended) h.heard; stood = w.stood; under = cc; within = cc }

  -- behind octets that were used, a document gave the value that they gave
  pub reads_went : (first now : S) (source after : PieceReader X) (given : List (Value × ℕ)) (value : Option Value) → ReadsEach R I g l first now source given
      → ((u : List ℕ) (given : List (Value × ℕ)) → I.stands source.items u given → Went I u given (left_of source) after value)
      → I.catalog after.items ≡ I.catalog source.items → I.limits after.items ≡ I.limits source.items → after.ended ≡ source.ended
      → ReadsEach R I g l first now after (given ++ given_at value after.used)
  reads_went first now source after given value h go under within ended =
      reads_by I first now source after given value h (go h.u given h.stood) under within ended

  -- the device was asked again, and more octets stand behind those that were left
  pub reads_filled : (first now new : S) (source after : PieceReader X) (more : List ℕ) (ended : Bool) (given : List (Value × ℕ))
      → ReadsEach R I g l first now source given → source.ended ≡ false → Heard R now new more ended → left_of after ≡ left_of source ++ more
      → after.items ≡ source.items → GaveEach R I g l first new after.items (left_of after) ended given
  reads_filled first now new source after more ended given h going heard rest same =
      let all = rw append_assoc at (Heard-trans R first now new _ more ended (rw going at h.heard) heard) in
      record { u = h.u; heard = rw rest all; stood = rw same h.stood; under = rw same h.under; within = rw same h.within }

  -- the device told nothing more
  pub reads_kept : (first now new : S) (source : PieceReader X) (given : List (Value × ℕ)) → ReadsEach R I g l first now source given → source.ended ≡ false
      → Heard R now new [] false → GaveEach R I g l first new source.items (left_of source) false given
  reads_kept first now new source given h going heard =
      reads_filled first now new source source [] false given h going heard (sym (append-nil (left_of source))) refl

  -- the values alone, as far as they were read
  pub gave_so_far : (first now : S) (items : X) (left : List ℕ) (ended : Bool) (given : List (Value × ℕ)) (s : List Value) → plain given ≡ s
      → GaveEach R I g l first now items left ended given → GaveSoFar R I g l first now s
  gave_so_far first now items left ended given s values each =
      record { items = items; left = left; ended = ended; gave = record { given = given; each = each; values = values } }

  -- where the device told nothing more, the same values were given so far
  pub kept_so_far : (first now new : S) (source : PieceReader X) (s : List Value) → Reads R I g l first now source s → source.ended ≡ false
      → Heard R now new [] false → GaveSoFar R I g l first new s
  kept_so_far first now new source s h going heard =
      gave_so_far first new source.items (left_of source) false h.given s h.values (reads_kept first now new source h.given h.each going heard)

  -- the device may have been asked again
  pub reads_refilled : (first old now : S) (before after : PieceReader X) (given : List (Value × ℕ)) → Refills R old now before after
      → ReadsEach R I g l first old before given → ReadsEach R I g l first now after given
  reads_refilled first old now before after given h reads = elim h.either [
    | inl both ↦ rw (both.0, both.1) reads
    | inr f ↦ reads_filled first old now before after f.more after.ended given reads f.going f.heard f.left f.items
  ]

  -- a step refused
  pub reads_failed : (first now : S) (source : PieceReader X) (given : List (Value × ℕ)) (r : Refusal) → ReadsEach R I g l first now source given
      → ((u : List ℕ) (given : List (Value × ℕ)) → I.stands source.items u given → (more : List ℕ)
      → EndsRefused (format_of I g l) ((u ++ left_of source) ++ more) given r) → ToldRefusedEach R (format_of I g l) first now given r
  reads_failed first now source given r h refused =
      record { octets = h.u ++ left_of source; ended = source.ended; heard = h.heard; ends = λ more _. refused h.u given h.stood more }

  pub reads_ended : (first now : S) (items : X) (left : List ℕ) (given all : List (Value × ℕ)) (h : GaveEach R I g l first now items left true given)
      → left ≡ [] → EndsWell (format_of I g l) h.u all → ToldEach R (format_of I g l) first now all
  reads_ended first now items left given all h empty ends =
      let heard = rw (empty, append-nil) at h.heard in record { octets = h.u; told = Heard-end R first now h.u heard; heard = heard; ends = ends }

  pub reads_stopped : (first now : S) (items : X) (left : List ℕ) (given : List (Value × ℕ)) (r : Refusal)
      (h : GaveEach R I g l first now items left true given) → left ≡ [] → EndsRefused (format_of I g l) h.u given r
      → ToldRefusedEach R (format_of I g l) first now given r
  reads_stopped first now items left given r h empty refused =
      record { octets = h.u; ended = true; heard = rw (empty, append-nil) at h.heard; ends = λ more none. rw (none refl, append-nil) refused }

  -- some octets were used, and gave no value
  pub reads_none : (first now : S) (source after : PieceReader X) (given : List (Value × ℕ)) → ReadsEach R I g l first now source given
      → ((u : List ℕ) (given : List (Value × ℕ)) → I.stands source.items u given → Went I u given (left_of source) after None)
      → I.catalog after.items ≡ I.catalog source.items → I.limits after.items ≡ I.limits source.items → after.ended ≡ source.ended
      → ReadsEach R I g l first now after given
  reads_none first now source after given h go under within ended =
      rw append-nil at (reads_went first now source after given None h go under within ended)

  -- the end of a document whose octets were all used
  pub last_gives : (first now : S) (source : PieceReader X) (given : List (Value × ℕ)) (place : ReadState X) (last : Option (Value × ℕ)) → left_of source ≡ []
      → (h : GaveEach R I g l first now source.items (left_of source) true given)
      → MatchClosed place (EndsWell (format_of I (I.catalog source.items) (I.limits source.items)) h.u (given ++ option_to_list last))
      (λ r. (last ≡ None) × EndsRefused (format_of I (I.catalog source.items) (I.limits source.items)) h.u given r)
      → StoodEach R I g l first now place (given ++ option_to_list last)
  last_gives first now source given (ReadState.Open after) last empty h ends = absurd ends
  last_gives first now source given ReadState.Ended last empty h ends =
      reads_ended first now source.items (left_of source) given (given ++ option_to_list last) h empty (rw (h.under, h.within) at ends)
  last_gives first now source given (ReadState.Refused r) last empty h ends =
      rw (ends.0, append-nil) (reads_stopped first now source.items (left_of source) given r h empty (rw (h.under, h.within) at ends.1))

  -- one that is refused gives nothing
  pub last_refused : (u : List ℕ) (source : PieceReader X) (given : List (Value × ℕ)) (place : ReadState X) (last : Option (Value × ℕ))
      → MatchClosed place (EndsWell (format_of I (I.catalog source.items) (I.limits source.items)) u (given ++ option_to_list last))
      (λ r. (last ≡ None) × EndsRefused (format_of I (I.catalog source.items) (I.limits source.items)) u given r) → IfRefused place (last ≡ None)
  last_refused u source given (ReadState.Refused r) last ends = ends.0
  last_refused u source given _ last ends = tt

  -- the values alone, wherever the document stands
  pub stood_plain : (first now : S) (place : ReadState X) (given : List (Value × ℕ)) → StoodEach R I g l first now place given
      → Stood R I g l first now place (plain given)
  stood_plain first now (ReadState.Open source) given h = record { given = given; each = h; values = refl }
  stood_plain first now ReadState.Ended given h = record { octets = h.octets; told = h.told; heard = h.heard; denoted = h.ends.denoted }
  stood_plain first now (ReadState.Refused refusal) given h =
      record { octets = h.octets; ended = h.ended; heard = h.heard; refused = λ more may. (h.ends more may).refused }

-- nothing was read yet
pub each_begun : {S X : Type 0} (R : Inlet S) (I : Items X) (now : S) (source : PieceReader X) (items : X) → I.stands items [] [] → source.items ≡ items
    → left_of source ≡ [] → source.ended ≡ false → ReadsEach R I (I.catalog items) (I.limits items) now now source []
each_begun R I now source items stood same empty going =
    record { u = []; heard = rw (empty, going) (Heard-nil R now); stood = rw same stood; under = cc; within = cc }

-- a document of which nothing was read gave no value
pub reads_begun : {S X : Type 0} (R : Inlet S) (I : Items X) (now : S) (source : PieceReader X) (items : X) → I.stands items [] [] → source.items ≡ items
    → left_of source ≡ [] → source.ended ≡ false → Reads R I (I.catalog items) (I.limits items) now now source []
reads_begun R I now source items stood same empty going = record { given = []; each = each_begun R I now source items stood same empty going; values = refl }

-- a document of which nothing was read is ready to be read
pub ready_begun : {X : Type 0} (I : Items X) (source : PieceReader X) (items : X) → I.taken items ≡ 0 → I.awaits items ≡ None → source.items ≡ items
    → (source.at ≡ 0) × (source.end ≡ 0) × (source.used ≡ 0) → length source.piece.items ≡ 4096 → source.reads ≤ 2 ^ 32 → IsReady I source
ready_begun I source items none free same empty piece few =
    record { within = omega arith; fits = omega arith; piece = omega arith; room = rw (same, none) (omega arith); begins = rw (same, free) tt; counted = cc }

-- before any read of the device, all of them may still be made
pub within_begun : {S X : Type 0} (R : Inlet S) (now : S) (source : PieceReader X) (reads : ℕ) → source.reads ≡ reads → IsWithin R reads now now source
within_begun R now source reads e = record { made = 0; were = λ going. WereMade-nil R now; rest = omega arith }

-- a device that wasn't asked
pub within_kept : {S X : Type 0} (R : Inlet S) (reads : ℕ) (first now : S) (source after : PieceReader X) → after.reads ≡ source.reads
    → after.ended ≡ source.ended → IsWithin R reads first now source → IsWithin R reads first now after
within_kept R reads first now source after e ended w =
    record { made = w.made; were = λ going. w.were (sym ended ∙ going); rest = omega (arith, e, w.rest) }
