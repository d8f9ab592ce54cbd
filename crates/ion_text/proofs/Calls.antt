-- The calls of a writer over a whole stream write its document.
use Rattle.std.proofs.Common.{List, [], ◌∷◌, sym, subst}
use Rattle.ion_text.specs.Names.{Outlet, PutsEach, Took, Value, WritesEach, adds, text_of}
use Rattle.ion_symtab.specs.laws.Took.{Took-kept, Took-nil, Took-trans}

module _ {T : Type 0} (W : Outlet T) where
  puts_each : (old : T) (s : List Value) (new : T) → PutsEach W old s new → Took W.took W.written old new (text_of s)
  puts_each old [] new h = subst (λ (x : T). Took W.took W.written old x []) (sym h) (Took-nil W.took W.written old)
  puts_each old (v ∷ vs) new (mid, first, rest) = Took-trans W.took W.written old mid new (adds v) (text_of vs) first (puts_each mid vs new rest)

  -- where each value was put and the writer finished, the device took the document of the stream
  pub writes_each : (s : List Value) (old new : T) → WritesEach W old s new → Took W.took W.written old new (text_of s)
  writes_each s old new h = Took-kept W.took W.written old h.mid new (text_of s) (puts_each old s h.mid h.each) h.end
