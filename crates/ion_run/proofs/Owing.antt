-- Why a command was stopped, and what stays so where more names are read.
use Rattle.std.proofs.Common.{◌≡◌, ℕ, List, [], ◌∷◌, codes, Bool, true, Option, Some, None, Result, Ok, Err, refl, sym, subst, MatchResult, ap, ◌++◌, ◌∙◌, ◌⊎◌, inl, inr, arith}
use Rattle.std.specs.List.{Contains}
use Rattle.std.proofs.lemmas.List.{append_assoc, append-nil}
use Rattle.std.proofs.lemmas.List.Elements.{Contains-append_right, Contains-append_cases, Contains-push_cases}
use Rattle.std.proofs.lemmas.Option.{same_Some, none-some}
use Rattle.std.specs.declared.io.Error.{Error}
use Rattle.ion_atoms.specs.declared.refusal.Refusal.{Refusal as the_refusal}
use Rattle.ion_model.specs.declared.value.Value.{Value}
use Rattle.ion_symtab.specs.Cause.{IsReadCause}
use Rattle.ion_symtab.specs.Took.{TookFront}
use Rattle.ion_symtab.specs.declared.catalog.Catalog.{Catalog as the_catalog}
use Rattle.ion_symtab.specs.declared.fault.Fault.{Fault}
use Rattle.ion_symtab.specs.declared.fault.Fault.TheVariants.{Memory, Open, Read, TooLarge, TooManyReads, Write}
use Rattle.ion_symtab.specs.declared.inlet.Inlet.{Ghosts as Inlet}
use Rattle.ion_symtab.specs.declared.items.Items.{Ghosts as Items}
use Rattle.ion_symtab.specs.declared.limits.Limits.{Limits}
use Rattle.ion_symtab.specs.declared.outlet.Outlet.{Ghosts as Outlet}
use Rattle.ion_symtab.specs.laws.Took.{Took-nil}
use Rattle.ion_streams.specs.Checked.{IsChecked}
use Rattle.ion_streams.specs.Compared.{IsCompared}
use Rattle.ion_streams.specs.Listing.{IsWriteCause}
use Rattle.ion_streams.specs.declared.comparison.Verdict.{Verdict}
use Rattle.ion_words.specs.Asked.{Asked, Job, NamesInputOnce, NamesNoInput, asked, check, compare, convert, names_of, names_of_job, names_with, show}
use Rattle.ion_words.specs.declared.request.WordsError.{WordsError}
use Rattle.ion_docs.specs.Converted.{IsConvertCause}
use Rattle.ion_docs.specs.Encodings.{Encoding}
use Rattle.ion_docs.specs.Formats.{documents}
use Rattle.ion_run.specs.Arguments.{Arguments, no_words, words_of}
use Rattle.ion_run.specs.Endings.{PassesOn, answer_line, verdict_line}
use Rattle.ion_run.specs.Lines.{Reports, fault_line, refusal_line, usage_line}
use Rattle.ion_run.specs.Names.{Keeps, Name, Opens, OpensUpTo}
use Rattle.ion_run.specs.Owed.{AreLimitsOf, IsAnswered, IsCatalog, IsDone, IsStopped, IsStoppedAt, JobLacksHasher, NeedsLarge, OwesFor, OwesWithHasher, OwesWithout, WroteFront, WroteSoFar, answered, code_of, is_done, no_memory, untold, usage}
use Rattle.ion_run.specs.declared.command.Ending.{Ending}
use Rattle.ion_run.specs.declared.command.Ending.TheVariants.{Refused}
use Rattle.ion_run.specs.declared.command.Status.{Status}
use Rattle.ion_run.specs.declared.lines.Whose.{Whose}

-- what is so in one of two ways is so in one of three
pub or_more : {A B C : Type 0} → A ⊎ B → A ⊎ B ⊎ C
or_more (inl a) = inl a
or_more (inr b) = inr (inl b)

-- the first of the names is one of them
pub first_of_names : (name : Name) (names : List Name) → Contains (name ∷ names) name
first_of_names name names = (0, omega arith, refl)

-- a name among those behind the first is one of all
pub behind_first : (before name : Name) (names : List Name) → Contains names name → Contains (before ∷ names) name
behind_first before name names h = Contains-append_right (before ∷ []) names name h

-- of two names the second is one
pub second_of_names : (left right : Name) → Contains (left ∷ right ∷ []) right
second_of_names left right = behind_first left right (right ∷ []) (first_of_names right [])

module _ {X : Type 0} (R : Inlet X) (gives : Name → X → Type 0) (refuses : Name → Type 0) (l : Limits) (names : List Name) (lacking large : Type 0) where
  pub stopped_reading : (failed : Bool) (name : Name) → Contains names name → (first now : X) → gives name first → (fault : Fault)
      → IsReadCause R l.reads first now fault → IsStopped R gives refuses l names lacking large failed fault
  stopped_reading failed name within first now given Memory h = tt
  stopped_reading failed name within first now given Read h = inl (name, within, first, now, given, h)
  stopped_reading failed name within first now given TooManyReads h = (name, within, first, now, given, h)
  stopped_reading failed name within first now given _ h = absurd h

  pub stopped_writing : {T : Type 0} (W : Outlet T) (new : T) (fault : Fault) → IsWriteCause W new fault
      → IsStopped R gives refuses l names lacking large (W.has_failed new) fault
  stopped_writing W new Memory h = tt
  stopped_writing W new Write h = h
  stopped_writing W new _ h = absurd h

  -- a fault of reading either document or of writing is why the comparison was stopped
  pub stopped_comparing : (left right : Name) → Contains names left → Contains names right → (l_first l_now r_first r_now : X) → gives left l_first
      → gives right r_first → {T : Type 0} (W : Outlet T) (new : T) (fault : Fault) →
      IsReadCause R l.reads l_first l_now fault ⊎ IsReadCause R l.reads r_first r_now fault ⊎ IsWriteCause W new fault
      → IsStopped R gives refuses l names lacking large (W.has_failed new) fault
  stopped_comparing left right l_in r_in l_first l_now r_first r_now l_given r_given W new fault (inl h) =
      stopped_reading (W.has_failed new) left l_in l_first l_now l_given fault h
  stopped_comparing left right l_in r_in l_first l_now r_first r_now l_given r_given W new fault (inr (inl h)) =
      stopped_reading (W.has_failed new) right r_in r_first r_now r_given fault h
  stopped_comparing left right l_in r_in l_first l_now r_first r_now l_given r_given W new fault (inr (inr h)) = stopped_writing W new fault h

  stopped_putting : (E : Encoding) (WasRead : List Value → Type 0) → ((s : List Value) → WasRead s → E.needs_large_id s → large)
      → {T : Type 0} (W : Outlet T) (new : T) (fault : Fault) → IsConvertCause E WasRead (W.has_failed new) fault
      → IsStopped R gives refuses l names lacking large (W.has_failed new) fault
  stopped_putting E WasRead needs W new Memory h = tt
  stopped_putting E WasRead needs W new Write h = h
  stopped_putting E WasRead needs W new TooLarge h = needs h.0 h.1 h.2
  stopped_putting E WasRead needs W new _ h = absurd h

  -- a conversion was stopped
  pub stopped_converting : (name : Name) → Contains names name → (first now : X) → gives name first → (E : Encoding) (WasRead : List Value → Type 0)
      → ((s : List Value) → WasRead s → E.needs_large_id s → large) → {T : Type 0} (W : Outlet T) (new : T) (fault : Fault) →
      IsReadCause R l.reads first now fault ⊎ IsConvertCause E WasRead (W.has_failed new) fault ⊎ (fault ≡ Read) × lacking
      → IsStopped R gives refuses l names lacking large (W.has_failed new) fault
  stopped_converting name within first now given E WasRead needs W new fault (inl h) = stopped_reading (W.has_failed new) name within first now given fault h
  stopped_converting name within first now given E WasRead needs W new fault (inr (inl h)) = stopped_putting E WasRead needs W new fault h
  stopped_converting name within first now given E WasRead needs W new fault (inr (inr h)) = rw h.0 (inr h.1)

  -- and for more names, whose readers were given before
  pub IsStopped-kept : (gave : Name → X → Type 0) (refused : Name → Type 0) (more : List Name) (scarcer larger : Type 0) (failed failed_too : Bool)
      (fault : Fault) →
      ((name : Name) → Contains names name → Contains more name) → ((name : Name) (input : X) → Contains names name → gives name input → gave name input)
      → ((name : Name) → Contains names name → refuses name → refused name) → (lacking → scarcer) → (large → larger) → (failed ≡ true → failed_too ≡ true) →
      IsStopped R gives refuses l names lacking large failed fault → IsStopped R gave refused l more scarcer larger failed_too fault
  IsStopped-kept gave refused more scarcer larger failed failed_too Memory within kept none lacking_too large_too fails h = tt
  IsStopped-kept gave refused more scarcer larger failed failed_too Read within kept none lacking_too large_too fails (inl h) =
      inl (h.0, within h.0 h.1, h.2, h.3, kept h.0 h.2 h.1 h.4, h.5)
  IsStopped-kept gave refused more scarcer larger failed failed_too Read within kept none lacking_too large_too fails (inr h) = inr (lacking_too h)
  IsStopped-kept gave refused more scarcer larger failed failed_too Write within kept none lacking_too large_too fails h = fails h
  IsStopped-kept gave refused more scarcer larger failed failed_too TooManyReads within kept none lacking_too large_too fails h =
      (h.0, within h.0 h.1, h.2, h.3, kept h.0 h.2 h.1 h.4, h.5)
  IsStopped-kept gave refused more scarcer larger failed failed_too TooLarge within kept none lacking_too large_too fails h = large_too h
  IsStopped-kept gave refused more scarcer larger failed failed_too Open within kept none lacking_too large_too fails h =
      (h.0, within h.0 h.1, none h.0 h.1 h.2)

-- a fault of reading the one document or of writing is why the command was stopped
pub stopped_once : {X T : Type 0} (R : Inlet X) (gives : Name → X → Type 0) (refuses : Name → Type 0) (l : Limits) (lacking large : Type 0) (name : Name)
    (first now : X) → gives name first → (W : Outlet T) (new : T) (fault : Fault) → IsReadCause R l.reads first now fault ⊎ IsWriteCause W new fault
    → IsStopped R gives refuses l (name ∷ []) lacking large (W.has_failed new) fault
stopped_once R gives refuses l lacking large name first now given W new fault (inl h) =
    stopped_reading R gives refuses l (name ∷ []) lacking large (W.has_failed new) name (first_of_names name []) first now given fault h
stopped_once R gives refuses l lacking large name first now given W new fault (inr h) = stopped_writing R gives refuses l (name ∷ []) lacking large W new fault h

-- what was done with readers that names gave later was done with ones that they gave before
module _ {X T : Type 0} (R : Inlet X) (gives gave : Name → X → Type 0) (W : Outlet T) (old new : T) (g : the_catalog) (l : Limits) (ending : Ending) where
  pub IsDone-kept : (job : Job) → ((name : Name) (input : X) → Contains (names_of_job job) name → gives name input → gave name input)
      → IsDone R gives W old new job g l ending → IsDone R gave W old new job g l ending
  IsDone-kept (check file) kept h = (h.0, h.1, kept file h.0 (first_of_names file []) h.2, h.3, h.4, h.5, h.6)
  IsDone-kept (show file) kept h = (h.0, h.1, kept file h.0 (first_of_names file []) h.2, h.3, h.4, h.5, h.6)
  IsDone-kept (convert file to) kept h = (h.0, h.1, kept file h.0 (first_of_names file []) h.2, h.3, h.4, h.5, h.6, h.7)
  IsDone-kept (compare left right) kept h =
      (h.0, h.1, kept left h.0 (first_of_names left (right ∷ [])) h.2, h.3, h.4, kept right h.3 (second_of_names left right) h.5, h.6, h.7, h.8, h.9)

module _ {X Y : Type 0} (R : Inlet X) (gives gave : Name → X → Type 0) (I : Items Y) (g : the_catalog) (l : Limits) where
  pub NeedsLarge-kept : (job : Job) → ((name : Name) (input : X) → Contains (names_of_job job) name → gives name input → gave name input)
      → NeedsLarge R gives I job g l → NeedsLarge R gave I job g l
  NeedsLarge-kept (convert file to) kept h = (h.0, h.1, kept file h.0 (first_of_names file []) h.2, h.3, h.4, h.5)
  NeedsLarge-kept _ kept h = h

-- what went out before a fault
module _ {X T : Type 0} (R : Inlet X) (gives : Name → X → Type 0) (W : Outlet T) (old new : T) (g : the_catalog) (l : Limits) where
  -- what went out of a check before a fault did so for a reader that the file's name gave
  pub front_checking : (file : Name) (first now : X) → gives file first → TookFront W.took W.written old new []
      ⊎ ((answer : Result ℕ the_refusal) × IsChecked R (documents g l) first now answer × TookFront W.took W.written old new (answer_line answer)) →
      TookFront W.took W.written old new [] ⊎ ((first : X) × (now : X) × gives file first × (answer : Result ℕ the_refusal)
      × IsChecked R (documents g l) first now answer × TookFront W.took W.written old new (answer_line answer))
  front_checking file first now given (inl none) = inl none
  front_checking file first now given (inr h) = inr (first, now, given, h.0, h.1, h.2)

  -- what went out of a comparison before a fault did so for readers that both names gave
  pub front_comparing : (left right : Name) (l_first l_now r_first r_now : X) → gives left l_first → gives right r_first →
      TookFront W.took W.written old new [] ⊎ ((verdict : Verdict) × IsCompared R R (documents g l) (documents g l) l_first l_now r_first r_now verdict
      × TookFront W.took W.written old new (verdict_line verdict)) →
      TookFront W.took W.written old new [] ⊎ ((l_first : X) × (l_now : X) × gives left l_first × (r_first : X) × (r_now : X) × gives right r_first
      × (verdict : Verdict) × IsCompared R R (documents g l) (documents g l) l_first l_now r_first r_now verdict
      × TookFront W.took W.written old new (verdict_line verdict))
  front_comparing left right l_first l_now r_first r_now l_given r_given (inl none) = inl none
  front_comparing left right l_first l_now r_first r_now l_given r_given (inr h) = inr (l_first, l_now, l_given, r_first, r_now, r_given, h.0, h.1, h.2)

module _ {X Y T : Type 0} (R : Inlet X) (gives gave : Name → X → Type 0) (I : Items Y) (W : Outlet T) (old new : T) (g : the_catalog) (l : Limits) where
  WroteFront-kept : (job : Job) → ((name : Name) (input : X) → Contains (names_of_job job) name → gives name input → gave name input)
      → WroteFront R gives I W old new job g l → WroteFront R gave I W old new job g l
  WroteFront-kept (check file) kept h = (h.0, h.1, kept file h.0 (first_of_names file []) h.2, h.3, h.4, h.5)
  WroteFront-kept (show file) kept h = (h.0, h.1, kept file h.0 (first_of_names file []) h.2, h.3)
  WroteFront-kept (convert file to) kept h = (h.0, h.1, kept file h.0 (first_of_names file []) h.2, h.3)
  WroteFront-kept (compare left right) kept h =
      (h.0, h.1, kept left h.0 (first_of_names left (right ∷ [])) h.2, h.3, h.4, kept right h.3 (second_of_names left right) h.5, h.6, h.7, h.8)

none_within : {X : Type 0} (x : X) → Contains [] x → ⊥
none_within x h = omega (arith, h.1)

among_one : (next name : Name) {P : Type 0} → Contains [] name ⊎ (next ≡ name) → (next ≡ name) ⊎ P
among_one next name (inl none) = absurd (none_within name none)
among_one next name (inr is) = inl is

first_or_rest : (next name : Name) (names : List Name) → Contains (next ∷ []) name ⊎ Contains names name → (next ≡ name) ⊎ Contains names name
first_or_rest next name names (inl among) = among_one next name (Contains-push_cases [] next name among)
first_or_rest next name names (inr behind) = inr behind

-- a name among others is the first, or one behind it
first_or_behind : (next name : Name) (names : List Name) → Contains (next ∷ names) name → (next ≡ name) ⊎ Contains names name
first_or_behind next name names h = first_or_rest next name names (Contains-append_cases (next ∷ []) names name h)

either : {A B P : Type 0} → A ⊎ B → (A → P) → (B → P) → P
either (inl a) f g = f a
either (inr b) f g = g b

NamesNoInput-each : (names : List Name) → NamesNoInput names → (name : Name) → Contains names name → name ≡ codes "-" → ⊥
NamesNoInput-each [] none name within is = none_within name within
NamesNoInput-each (next ∷ names) none name within is = either (first_or_behind next name names within) (λ same. none.0 (same ∙ is))
    (λ behind. NamesNoInput-each names none.1 name behind is)

-- of names that no two of are the standard input, each behind the first is free when that was taken
pub free_behind : (first name : Name) (names : List Name) → NamesInputOnce (first ∷ names) → Contains names name → name ≡ codes "-" → Some first ≡ Some name → ⊥
free_behind first name names once within is taken = NamesNoInput-each names (once.0 (same_Some first name taken ∙ is)) name within is

pub free_of_catalog : (catalog : Option Name) (names : List Name) → NamesInputOnce (names_with catalog names) → (name : Name) → Contains names name
    → name ≡ codes "-" → catalog ≡ Some name → ⊥
free_of_catalog None names once name within is taken = none-some name taken
free_of_catalog (Some first) names once name within is taken = free_behind first name names once within is taken

-- nothing was opened
pub Opens-none : (opened : List Name) → Opens opened opened []
Opens-none opened = sym (append-nil opened)

-- one name after another
pub Opens-then : (old mid new names more : List Name) → Opens old mid names → Opens mid new more → Opens old new (names ++ more)
Opens-then old mid new names more h k = k ∙ (ap (λ (x : List Name). x ++ more) h ∙ append_assoc old names more)

names_behind : (catalog : Option Name) (names : List Name) → names_with catalog [] ++ names ≡ names_with catalog names
names_behind None names = refl
names_behind (Some first) names = refl

-- the documents, behind the catalog
module _ (catalog : Option Name) (names old mid new : List Name) (before : Opens old mid (names_with catalog [])) where
  Opens-behind : Opens mid new names → Opens old new (names_with catalog names)
  Opens-behind h = Opens-then old mid new (names_with catalog []) names before h ∙ ap (λ (x : List Name). old ++ x) (names_behind catalog names)

  OpensUpTo-behind : (refuses refused : Name → Type 0) → ((name : Name) → Contains names name → refuses name → refused name) → (fault : Fault)
      → OpensUpTo (Opens mid new) refuses names fault → OpensUpTo (Opens old new) refused (names_with catalog names) fault
  OpensUpTo-behind refuses refused kept fault (inl all) = inl (Opens-behind all)
  OpensUpTo-behind refuses refused kept fault (inr h) = inr (
    names_with catalog [] ++ h.0,
    h.1,
    h.2,
    append_assoc (names_with catalog []) h.0 (h.1 ∷ h.2) ∙ (ap (λ (x : List Name). names_with catalog [] ++ x) h.3 ∙ names_behind catalog names),
    subst (λ (x : List Name). Opens old new x) (sym (append_assoc (names_with catalog []) h.0 (h.1 ∷ [])))
        (Opens-then old mid new (names_with catalog []) (h.0 ++ h.1 ∷ []) before h.4),
    refused_of fault h.5,
  )
    where
      within : Contains names h.1
      within = subst (λ (x : List Name). Contains x h.1) h.3 (Contains-append_right h.0 (h.1 ∷ h.2) h.1 (first_of_names h.1 h.2))

      refused_of : (fault : Fault) → (fault ≡ Open) × refuses h.1 ⊎ (fault ≡ Memory) → (fault ≡ Open) × refused h.1 ⊎ (fault ≡ Memory)
      refused_of fault (inl none) = inl (none.0, kept h.1 within none.1)
      refused_of fault (inr memory) = inr memory

module _ {S X Y : Type 0} (R : Inlet X) (gives : S → Name → X → Type 0) (refuses : S → Name → Type 0) (none : Type 0) (I : Items Y) (asked : Asked) (l : Limits)
    (first : S) (old mid new : List Name) where
  -- behind the catalog, that the sources give the other names what they gave
  module _ (then : S) (kept : Keeps gives refuses first then asked.catalog) (once : NamesInputOnce (names_of asked)) (g : the_catalog)
      (catalog : IsCatalog R (gives first) asked.catalog l (Ok g)) where
    -- why the documents' job was stopped behind the catalog is why what is asked for was stopped
    pub stopped_behind : Opens old mid (names_with asked.catalog []) → (failed : Bool) (fault : Fault)
        → OpensUpTo (Opens mid new) (refuses then) (names_of_job asked.job) fault
        → IsStopped R (gives then) (refuses then) l (names_of_job asked.job) (JobLacksHasher none asked.job) (NeedsLarge R (gives then) I asked.job g l) failed
        fault → IsStoppedAt R (gives first) (refuses first) (Opens old new) none I asked l failed fault
    stopped_behind before failed fault opened h =
        let kept_given : (name : Name) (input : X) → Contains (names_of_job asked.job) name → gives then name input → gives first name input =
        λ name input within given. kept.given name input (free_of_catalog asked.catalog (names_of_job asked.job) once name within) given in
        inr (
          g,
          catalog,
          IsStopped-kept R (gives then) (refuses then) l (names_of_job asked.job) _ _ (gives first) (refuses first) (names_of_job asked.job) _ _ failed failed
              fault (λ name within. within) kept_given
              (λ name within refused. kept.refused name (free_of_catalog asked.catalog (names_of_job asked.job) once name within) refused) (λ lacks. lacks)
              (NeedsLarge-kept R (gives then) (gives first) I g l asked.job kept_given) (λ fails. fails) h,
          OpensUpTo-behind asked.catalog (names_of_job asked.job) old mid new before (refuses then) (refuses first)
              (λ name within refused. kept.refused name (free_of_catalog asked.catalog (names_of_job asked.job) once name within) refused) fault opened,
        )

-- where the job was done behind the catalog, what is asked for was answered
pub answered_behind : {S X T : Type 0} (R : Inlet X) (gives : S → Name → X → Type 0) (refuses : S → Name → Type 0) (W : Outlet T) (asked : Asked) (l : Limits)
    (first then : S) → Keeps gives refuses first then asked.catalog → NamesInputOnce (names_of asked) → (g : the_catalog)
    → IsCatalog R (gives first) asked.catalog l (Ok g) →
    (opened opened_mid opened_now : List Name) → Opens opened opened_mid (names_with asked.catalog []) → Opens opened_mid opened_now (names_of_job asked.job) →
    (old new : T) (ending : Ending) → IsDone R (gives then) W old new asked.job g l ending
    → IsAnswered R (gives first) W old new (Opens opened opened_now) asked l ending
answered_behind R gives refuses W asked l first then kept once g catalog opened opened_mid opened_now before behind old new ending h =
    is_done g catalog (IsDone-kept R (gives then) (gives first) W old new g l ending asked.job
    (λ name input within given. kept.given name input (free_of_catalog asked.catalog (names_of_job asked.job) once name within) given) h)
    (Opens-behind asked.catalog (names_of_job asked.job) opened opened_mid opened_now before behind)

-- what went out of the job behind the catalog is what went out of what is asked for
pub front_behind : {S X Y T : Type 0} (R : Inlet X) (gives : S → Name → X → Type 0) (refuses : S → Name → Type 0) (I : Items Y) (W : Outlet T) (asked : Asked)
    (l : Limits) (first then : S) → Keeps gives refuses first then asked.catalog → NamesInputOnce (names_of asked) → (g : the_catalog)
    → IsCatalog R (gives first) asked.catalog l (Ok g) →
    (old new : T) → TookFront W.took W.written old new [] ⊎ WroteFront R (gives then) I W old new asked.job g l → WroteSoFar R (gives first) I W old new asked l
front_behind R gives refuses I W asked l first then kept once g catalog old new (inl none) = inl none
front_behind R gives refuses I W asked l first then kept once g catalog old new (inr h) = inr (
  g,
  catalog,
  WroteFront-kept R (gives then) (gives first) I W old new g l asked.job
      (λ name input within given. kept.given name input (free_of_catalog asked.catalog (names_of_job asked.job) once name within) given) h,
)

module _ {X Y T D : Type 0} (R : Inlet X) (gives : Name → X → Type 0) (refuses : Name → Type 0) (opens : List Name → Type 0) (none : Type 0) (I : Items Y)
    (W : Outlet T) (V : Outlet D) where
  -- a refusal is owed as its line and status, or where no memory is left to tell it as a fault
  pub owes_refused : (request : Asked) (l : Limits) (whose : Whose) (refusal : the_refusal) (out out_now : T) (err err_now : D) (status : Status)
      → AreLimitsOf request l → IsAnswered R gives W out out_now opens request l (Refused whose refusal) → PassesOn W out out_now →
      (status ≡ Status.Refused) ⊎ (status ≡ Status.Fault) → (status ≡ Status.Refused → Reports V err err_now (refusal_line whose refusal))
      → (status ≡ Status.Fault → Reports V err err_now (fault_line Memory)) →
      OwesWithHasher R gives refuses opens none I W V (Some request) out out_now err err_now (code_of status)
  owes_refused request l whose refusal out out_now err err_now status limits h passes (inl is) told failed =
      answered request l (Refused whose refusal) refl limits (ap code_of is) h passes (told is)
  owes_refused request l whose refusal out out_now err err_now status limits h passes (inr is) told failed =
      untold request l whose refusal refl limits (ap code_of is) h passes (failed is)

  -- for words that ask for nothing the usage line is owed, and for want of memory a fault
  pub owes_usage : opens [] → (asked : Option Asked) (error : WordsError) (out : T) (err err_now : D) (status : Status)
      → (error ≡ WordsError.Usage → asked ≡ None) → (error ≡ WordsError.Usage → (status ≡ Status.WrongWords) × Reports V err err_now usage_line)
      → (error ≡ WordsError.Memory → (status ≡ Status.Fault) × Reports V err err_now (fault_line Memory)) →
      OwesWithHasher R gives refuses opens none I W V asked out out err err_now (code_of status)
  owes_usage unopened asked WordsError.Usage out err err_now status none told failed =
      usage (none refl) (ap code_of (told refl).0) unopened (Took-nil W.took W.written out) (λ same. same) (told refl).1
  owes_usage unopened asked WordsError.Memory out err err_now status none told failed =
      no_memory (ap code_of (failed refl).0) unopened (Took-nil W.took W.written out) (λ same. same) (failed refl).1

  -- the arguments are words
  pub owes_words : (arguments : Result Arguments Error) (words : List (List ℕ)) (out out_now : T) (err err_now : D) (status : ℕ)
      → MatchResult arguments (λ all. words ≡ words_of all) (λ why. ⊥) →
      OwesWithHasher R gives refuses opens none I W V (asked words) out out_now err err_now status
      → OwesFor R gives refuses opens none I W V arguments out out_now err err_now status
  owes_words (Ok all) words out out_now err err_now status are h =
      subst (λ (x : List (List ℕ)). OwesWithHasher R gives refuses opens none I W V (asked x) out out_now err err_now status) are h
  owes_words (Err why) words out out_now err err_now status are h = absurd are

  owes_without : opens [] → (error : WordsError) (out : T) (err err_now : D) (status : Status)
      → (error ≡ WordsError.Usage → (status ≡ Status.WrongWords) × Reports V err err_now usage_line)
      → (error ≡ WordsError.Memory → (status ≡ Status.Fault) × Reports V err err_now (fault_line Memory)) →
      OwesWithout R gives refuses opens none I W V error out out err err_now (code_of status)
  owes_without unopened WordsError.Usage out err err_now status told failed =
      (ap code_of (told refl).0, unopened, Took-nil W.took W.written out, (λ same. same), (told refl).1)
  owes_without unopened WordsError.Memory out err err_now status told failed =
      (ap code_of (failed refl).0, unopened, Took-nil W.took W.written out, (λ same. same), (failed refl).1)

  -- there are no words
  pub owes_no_words : opens [] → (arguments : Result Arguments Error) (error : WordsError) (out : T) (err err_now : D) (status : Status)
      → MatchResult arguments (λ all. error ≡ WordsError.Memory) (λ why. error ≡ no_words why) →
      (error ≡ WordsError.Usage → (status ≡ Status.WrongWords) × Reports V err err_now usage_line)
      → (error ≡ WordsError.Memory → (status ≡ Status.Fault) × Reports V err err_now (fault_line Memory)) →
      OwesFor R gives refuses opens none I W V arguments out out err err_now (code_of status)
  owes_no_words unopened (Ok all) error out err err_now status is told failed =
      no_memory (ap code_of (failed is).0) unopened (Took-nil W.took W.written out) (λ same. same) (failed is).1
  owes_no_words unopened (Err why) error out err err_now status is told failed =
      subst (λ (x : WordsError). OwesWithout R gives refuses opens none I W V x out out err err_now (code_of status)) is
      (owes_without unopened error out err err_now status told failed)
