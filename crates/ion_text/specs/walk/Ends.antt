-- What the end of the octets says to a reader that holds no values, and what a visitor hears there.
use Rattle.std.specs.Prelude.{◌≡◌, ◌≢◌, ℕ, List, [], Bool, true, false, Option, Some, None, Result, Ok, Err}
use Rattle.ion_text.specs.Names.Below.{Event, Hears, Memory, Reason, Refusal, TextWalk, Value, events_of, failure, heard, scanned}
use Rattle.ion_text.specs.machine.Progress.{or_first}

-- the refusal that each call answers, if one came: by the reader or by its scanner
abbrev pub failed : TextWalk → Option Refusal
failed r = or_first r.failed (failure r.scanner)

-- how many octets were used
abbrev pub octets_used : TextWalk → ℕ
octets_used r = (scanned r.scanner).used

module _ {V : Type 0} (takes : V → Event → V → Type 0) (es : List Event) where
  -- The end was answered so, where so much was told before: whether a value ended there, of which a visitor heard what there is to hear; else
  -- there was nothing to hear. Unless memory ran out.
  abbrev pub FinishedSo : Result (Option Value) Refusal → Result Bool Refusal → V → V → Type 0
  FinishedSo wanted (Ok true) a b = (v : Value) × (wanted ≡ Ok (Some v)) × Hears takes (heard es) (events_of v) a b
  FinishedSo wanted (Ok false) a b = (wanted ≡ Ok None) × Hears takes (heard es) [] a b
  FinishedSo wanted (Err refusal) a b = refusal.reason ≢ Memory → wanted ≡ Err refusal

  -- the same behind so many octets
  abbrev pub EndedSo : ℕ → Result (Option Value) Refusal → Result Bool Reason → V → V → Type 0
  EndedSo used wanted (Ok ended) a b = FinishedSo wanted (Ok ended) a b
  EndedSo used wanted (Err reason) a b = reason ≢ Memory → wanted ≡ Err (record { offset = used; reason = reason })
