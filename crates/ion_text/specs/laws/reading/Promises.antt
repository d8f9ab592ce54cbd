-- The promises of the reader of text, over the grammar.
use Rattle.std.proofs.Common.{◌≡◌, ◌↔◌, ℕ, List, ◌++◌, ap, sym, ◌∙◌, option_to_list, ◌⊎◌, inl, inr, subst, Some}
use Rattle.std.specs.Prelude.{◌≢◌}
use Rattle.ion_text.specs.Names.{Catalog, Document, HasReasons, IsReadersReason, Limits, Reason, Refusal, Streams, Trace, Value, plain, trace}
use Rattle.ion_symtab.specs.Decided.{IsDecided}
use Rattle.ion_text.specs.laws.reading.Reasons.{end_reason, step_reason}
use Rattle.ion_text.specs.laws.reading.complete.Accepts.{accepts}
use Rattle.ion_text.specs.laws.reading.sound.Admits.{admits}

-- Octets denote a stream exactly where they end well.
pub exact : (g : Catalog) (l : Limits) (u : List ℕ) (s : List Value) → Streams (trace g l u) s ↔ Document g l u s
exact g l u s = (admits g l u s, accepts g l u s)

one_last : (t : Trace) (r s : List Value) → Streams t r → Streams t s → r ≡ s
one_last t r s a b =
    let same : a.last ≡ b.last = cc in
    a.values ∙ (ap (λ x. plain t.given ++ option_to_list x) same ∙ sym b.values)

-- A document has one stream.
pub one_stream : (g : Catalog) (l : Limits) (u : List ℕ) (s t : List Value) → Document g l u s → Document g l u t → s ≡ t
one_stream g l u s t a b = one_last (trace g l u) s t (accepts g l u s a) (accepts g l u t b)

readers_reason : (reason : Reason) → IsDecided reason → IsReadersReason reason
readers_reason reason d = record {
  whole_memory = λ e. subst IsDecided e d;
  no_duplicate = λ e. subst IsDecided e d;
  no_bad_table = λ e. subst IsDecided e d;
}

end_reason_is : (reason : Reason) → IsDecided reason ⊎ (reason ≡ Reason.Incomplete) → IsReadersReason reason
end_reason_is reason (inl d) = readers_reason reason d
end_reason_is reason (inr e) = subst IsReadersReason (sym e) (record { whole_memory = λ h. cc; no_duplicate = λ h. cc; no_bad_table = λ h. cc })

-- Octets are refused for their own sake, or because there aren't more.
pub has_reasons : (g : Catalog) (l : Limits) (u : List ℕ) → HasReasons (trace g l u)
has_reasons g l u = record {
  step = λ r h. readers_reason r.reason (step_reason g l u r h);
  end = λ r h. end_reason_is r.reason (end_reason g l u r h);
}

-- An octet isn't refused because there aren't more.
pub before_end : (g : Catalog) (l : Limits) (u : List ℕ) (r : Refusal) → (trace g l u).refused ≡ Some r → r.reason ≢ Reason.Incomplete
before_end g l u r h = λ e. subst IsDecided e (step_reason g l u r h)
