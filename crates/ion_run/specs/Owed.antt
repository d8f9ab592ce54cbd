-- What the program owes for its words.
use Rattle.std.specs.Prelude.{⊤, ◌≡◌, ◌⊎◌, ℕ, ◌^◌, List, [], Bool, true, false, Option, Some, None, Result, Ok, Err}
use Rattle.std.specs.List.{Contains}
use Rattle.std.specs.declared.io.Error.{Error}
use Rattle.ion_atoms.specs.declared.refusal.Refusal.{Refusal as the_refusal}
use Rattle.ion_model.specs.declared.value.Value.{Value}
use Rattle.ion_symtab.specs.Cause.{IsReadCause}
use Rattle.ion_symtab.specs.Tables.{Table}
use Rattle.ion_symtab.specs.Took.{Took, TookFront}
use Rattle.ion_symtab.specs.declared.catalog.Catalog.{Catalog as the_catalog}
use Rattle.ion_symtab.specs.declared.fault.Fault.{Fault}
use Rattle.ion_symtab.specs.declared.fault.Fault.TheVariants.{Memory, Open, Read, TooLarge, TooManyReads, Write}
use Rattle.ion_symtab.specs.declared.inlet.Inlet.{Ghosts as Inlet}
use Rattle.ion_symtab.specs.declared.items.Items.{Ghosts as Items}
use Rattle.ion_symtab.specs.declared.limits.Limits.{Limits}
use Rattle.ion_symtab.specs.declared.outlet.Outlet.{Ghosts as Outlet}
use Rattle.ion_symtab.specs.declared.target.Target.{Target}
use Rattle.ion_streams.specs.Checked.{IsChecked}
use Rattle.ion_streams.specs.Compared.{IsCompared}
use Rattle.ion_streams.specs.Listing.{IsShown, ShowsSoFar}
use Rattle.ion_streams.specs.Loaded.{DescribeTables, IsLoaded}
use Rattle.ion_streams.specs.declared.comparison.Verdict.{Verdict}
use Rattle.ion_words.specs.Asked.{Asked, Job, asked, check, compare, convert, names_of, names_of_job, names_with, show}
use Rattle.ion_words.specs.declared.request.WordsError.{WordsError}
use Rattle.ion_docs.specs.Conversion.{KeepsStream}
use Rattle.ion_docs.specs.Converted.{ConvertsSoFar, IsConverted, ReadSoFar}
use Rattle.ion_docs.specs.Encodings.{encoding_of}
use Rattle.ion_docs.specs.Formats.{documents}
use Rattle.ion_run.specs.Asking.{AreAskedSo, IsAskedSo, IsAskedWhile}
use Rattle.ion_run.specs.Arguments.{Arguments, no_words, words_of}
use Rattle.ion_run.specs.Endings.{EndsChecked, EndsCompared, EndsShown, PassesOn, answer_line, verdict_line}
use Rattle.ion_run.specs.Lines.{Reports, fault_line, refusal_line, usage_line}
use Rattle.ion_run.specs.Names.{Name, OpensUpTo}
use Rattle.ion_run.specs.declared.command.Ending.{Ending}
use Rattle.ion_run.specs.declared.command.Ending.TheVariants.{Accepted, Different, Refused}
use Rattle.ion_run.specs.declared.command.Status.{Status}
use Rattle.ion_run.specs.declared.lines.Whose.{Whose}
use Rattle.ion_run.specs.declared.lines.Whose.TheVariants.{Catalog}

-- the limits are those that are asked for, and the usual limit of reads
abbrev pub AreLimitsOf : Asked → Limits → Type 0
AreLimitsOf asked l = (l.depth ≡ asked.depth) × (l.item ≡ asked.item) × (l.reads ≡ 2 ^ 32)

-- the number of a status
abbrev pub code_of : Status → ℕ
code_of Status.Accepted = 0
code_of Status.Different = 1
code_of Status.Refused = 2
code_of Status.WrongWords = 3
code_of Status.Fault = 4

-- the status where a command ended so
abbrev pub status_of : Ending → ℕ
status_of Accepted = 0
status_of Different = 1
status_of (Refused whose refusal) = 2

-- what readers the names may give
module _ {X : Type 0} (R : Inlet X) (gives : Name → X → Type 0) where
  -- what the catalog is: of no tables where none is named
  abbrev pub IsCatalog : Option Name → Limits → Result (List Table) the_refusal → Type 0
  IsCatalog None l answer = answer ≡ Ok []
  IsCatalog (Some name) l answer = (first : X) × (now : X) × gives name first × IsAskedWhile R (documents [] l) l DescribeTables first now
      × IsLoaded R (documents [] l) first now answer

  -- the values that were read of the document need an id above 2^31-1 in the encoding
  module _ {Y : Type 0} (I : Items Y) where
    -- the job is a conversion, and values read of its document need an id above 2^31-1 in the encoding
    abbrev pub NeedsLarge : Job → the_catalog → Limits → Type 0
    NeedsLarge (convert file to) g l = (first : X) × (now : X) × gives file first
        × (s : List Value) × ReadSoFar R I g l first now s × (encoding_of to).needs_large_id s
    NeedsLarge _ g l = ⊥

  module _ {T : Type 0} (W : Outlet T) (old new : T) where
    -- the job was done under this catalog and within these limits, and ended so
    abbrev pub IsDone : Job → the_catalog → Limits → Ending → Type 0
    IsDone (check file) g l ending = (first : X) × (now : X) × gives file first × IsAskedSo R (documents g l) l first now × (answer : Result ℕ the_refusal)
        × IsChecked R (documents g l) first now answer × EndsChecked W old new answer ending
    IsDone (show file) g l ending = (first : X) × (now : X) × gives file first × IsAskedSo R (documents g l) l first now × (answer : Result ℕ the_refusal)
        × IsShown R W (documents g l) first now old new answer × EndsShown W new answer ending
    IsDone (convert file to) g l ending = (first : X) × (now : X) × gives file first × IsAskedSo R (documents g l) l first now
        × (answer : Result ℕ the_refusal)
        × IsConverted R W (encoding_of to) (documents g l) first now old new answer
        × KeepsStream R W (encoding_of to) g l first now old new answer × EndsShown W new answer ending
    IsDone (compare left right) g l ending = (l_first : X) × (l_now : X) × gives left l_first × (r_first : X) × (r_now : X) × gives right r_first
        × AreAskedSo R R (documents g l) l l_first l_now r_first r_now × (verdict : Verdict)
        × IsCompared R R (documents g l) (documents g l) l_first l_now r_first r_now verdict × EndsCompared W old new verdict ending

    -- What was asked for was answered, and ended so: done under its catalog, with all of its names opened; or the catalog was refused, and none but that
    -- opened.
    pub data IsAnswered (opens : List Name → Type 0) (asked : Asked) (l : Limits) (ending : Ending) : Type 0 where
      is_done : (g : the_catalog) → IsCatalog asked.catalog l (Ok g) → IsDone asked.job g l ending → opens (names_of asked) → IsAnswered opens asked l ending
      no_catalog : (refusal : the_refusal) → IsCatalog asked.catalog l (Err refusal) → ending ≡ Refused Catalog refusal → Took W.took W.written old new []
          → opens (names_with asked.catalog []) → IsAnswered opens asked l ending

  -- a front went out of what the job puts out for readers that the names gave
  module _ {Y T : Type 0} (I : Items Y) (W : Outlet T) (old new : T) where
    -- a front of what the job puts out, for readers that its names gave, went out
    abbrev pub WroteFront : Job → the_catalog → Limits → Type 0
    WroteFront (check file) g l = (first : X) × (now : X) × gives file first
        × (answer : Result ℕ the_refusal) × IsChecked R (documents g l) first now answer × TookFront W.took W.written old new (answer_line answer)
    WroteFront (show file) g l = (first : X) × (now : X) × gives file first × ShowsSoFar R I W g l first now old new
    WroteFront (convert file to) g l = (first : X) × (now : X) × gives file first
        × ConvertsSoFar (encoding_of to) (ReadSoFar R I g l first now) W old new
    WroteFront (compare left right) g l = (l_first : X) × (l_now : X) × gives left l_first × (r_first : X) × (r_now : X) × gives right r_first
        × (verdict : Verdict) × IsCompared R R (documents g l) (documents g l) l_first l_now r_first r_now verdict
        × TookFront W.took W.written old new (verdict_line verdict)

    -- before a fault nothing went out, or such a front under the catalog that was loaded
    abbrev pub WroteSoFar : Asked → Limits → Type 0
    WroteSoFar asked l = TookFront W.took W.written old new [] ⊎ ((g : the_catalog) × IsCatalog asked.catalog l (Ok g) × WroteFront asked.job g l)

-- only binary takes a hasher; `none` is that none can be had
abbrev pub LacksHasher : Type 0 → Target → Type 0
LacksHasher none Target.Text = ⊥
LacksHasher none Target.Binary = none

-- the job is a conversion to binary, and no hasher can be had
abbrev pub JobLacksHasher : Type 0 → Job → Type 0
JobLacksHasher none (convert file to) = LacksHasher none to
JobLacksHasher none _ = ⊥

-- and that a name may give none
module _ {X : Type 0} (R : Inlet X) (gives : Name → X → Type 0) (refuses : Name → Type 0) where
  -- why a command was stopped that reads documents of these names; `lacking` is that no hasher can be had for its output, and
  -- `large` why that can't be written
  abbrev pub IsStopped : Limits → List Name → Type 0 → Type 0 → Bool → Fault → Type 0
  IsStopped l names lacking large failed Memory = ⊤
  IsStopped l names lacking large failed Read = ((name : Name) × Contains names name × (first : X) × (now : X) × gives name first
      × IsReadCause R l.reads first now Read) ⊎ lacking
  IsStopped l names lacking large failed Write = failed ≡ true
  IsStopped l names lacking large failed TooManyReads = (name : Name) × Contains names name × (first : X) × (now : X) × gives name first
      × IsReadCause R l.reads first now TooManyReads
  IsStopped l names lacking large failed TooLarge = large
  IsStopped l names lacking large failed Open = (name : Name) × Contains names name × refuses name

  -- why what is asked for was stopped: at the catalog, where no other name was opened; or at the documents, once the catalog was loaded
  abbrev pub IsStoppedAt : {Y : Type 0} → (List Name → Type 0) → Type 0 → Items Y → Asked → Limits → Bool → Fault → Type 0
  IsStoppedAt opens none I asked l failed fault = IsStopped l (names_with asked.catalog []) ⊥ ⊥ false fault × opens (names_with asked.catalog [])
      ⊎ ((g : the_catalog) × IsCatalog R gives asked.catalog l (Ok g)
      × IsStopped l (names_of_job asked.job) (JobLacksHasher none asked.job) (NeedsLarge R gives I asked.job g l) failed fault
      × OpensUpTo opens refuses (names_of asked) fault)

-- what is told on the errors where a command ended so: whose refusal it was, or nothing
abbrev pub TellsErrors : {D : Type 0} → Outlet D → D → D → Ending → Type 0
TellsErrors V err err_now (Refused whose refusal) = Reports V err err_now (refusal_line whose refusal)
TellsErrors V err err_now _ = Took V.took V.written err err_now []

module _ {X Y T D : Type 0} (R : Inlet X) (gives : Name → X → Type 0) (refuses : Name → Type 0) (opens : List Name → Type 0) (none : Type 0) (I : Items Y)
    (W : Outlet T) (V : Outlet D) where
  -- What the program owes for words: its status, which names were opened, and what went to the output and to the errors; `none` is that no hasher can be had.
  pub data OwesWithHasher (asked : Option Asked) (out out_now : T) (err err_now : D) (status : ℕ) : Type 0 where
    -- they ask for nothing
    usage : asked ≡ None → status ≡ 3 → opens [] → Took W.took W.written out out_now [] → PassesOn W out out_now
        → Reports V err err_now usage_line → OwesWithHasher asked out out_now err err_now status
    -- what they ask for was answered
    answered : (request : Asked) (l : Limits) (ending : Ending) → asked ≡ Some request → AreLimitsOf request l → status ≡ status_of ending
        → IsAnswered R gives W out out_now opens request l ending → PassesOn W out out_now
        → TellsErrors V err err_now ending → OwesWithHasher asked out out_now err err_now status
    -- a fault stopped it
    stopped : (request : Asked) (l : Limits) (fault : Fault) → asked ≡ Some request → AreLimitsOf request l → status ≡ 4
        → IsStoppedAt R gives refuses opens none I request l (W.has_failed out_now) fault → WroteSoFar R gives I W out out_now request l
        → Reports V err err_now (fault_line fault) → OwesWithHasher asked out out_now err err_now status
    -- a document was refused, and there was no memory for the line that says so
    untold : (request : Asked) (l : Limits) (whose : Whose) (refusal : the_refusal) → asked ≡ Some request → AreLimitsOf request l → status ≡ 4
        → IsAnswered R gives W out out_now opens request l (Refused whose refusal) → PassesOn W out out_now
        → Reports V err err_now (fault_line Memory) → OwesWithHasher asked out out_now err err_now status
    -- there was no memory for the words
    no_memory : status ≡ 4 → opens [] → Took W.took W.written out out_now [] → PassesOn W out out_now → Reports V err err_now (fault_line Memory)
        → OwesWithHasher asked out out_now err err_now status

  -- where there are no words: the usage line for an argument that is no text, and a fault for want of memory
  abbrev pub OwesWithout : WordsError → T → T → D → D → ℕ → Type 0
  OwesWithout WordsError.Usage out out_now err err_now status = (status ≡ 3) × opens [] × Took W.took W.written out out_now [] × PassesOn W out out_now
      × Reports V err err_now usage_line
  OwesWithout WordsError.Memory out out_now err err_now status = (status ≡ 4) × opens [] × Took W.took W.written out out_now [] × PassesOn W out out_now
      × Reports V err err_now (fault_line Memory)

  -- What the program owes for the arguments of the process: what it owes for the words that they are, or for want of words.
  abbrev pub OwesFor : Result Arguments Error → T → T → D → D → ℕ → Type 0
  OwesFor (Ok arguments) out out_now err err_now status = OwesWithHasher (asked (words_of arguments)) out out_now err err_now status
  OwesFor (Err why) out out_now err err_now status = OwesWithout (no_words why) out out_now err err_now status

-- What it owes where a hasher can always be had.
abbrev pub Owes : {X Y T D : Type 0} → Inlet X → (Name → X → Type 0) → (Name → Type 0) → (List Name → Type 0) → Items Y → Outlet T → Outlet D → Option Asked → T
    → T → D → D → ℕ → Type 0
Owes R gives refuses opens I W V = OwesWithHasher R gives refuses opens ⊥ I W V
