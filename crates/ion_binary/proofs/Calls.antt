-- The calls of a writer over a whole stream write its document.
use Rattle.std.proofs.Common.{List, [], ◌∷◌, sym, subst}
use Rattle.ion_binary.specs.Names.{Outlet, Progress, Took, Value, adds, after, behind, bin_of, bin_puts, nothing_yet, opening, puts}
use Rattle.ion_symtab.specs.laws.Took.{Took-nil, Took-trans}
use Rattle.ion_binary.specs.writer.Calls.{PutsEach, WritesEach}

module _ {T : Type 0} (W : Outlet T) where
  puts_each : (p : Progress) (old : T) (s : List Value) (new : T) → PutsEach W p old s new → Took W.took W.written old new (puts p s)
  puts_each p old [] new h = subst (λ (x : T). Took W.took W.written old x []) (sym h) (Took-nil W.took W.written old)
  puts_each p old (v ∷ vs) new (mid, first, rest) = Took-trans W.took W.written old mid new (adds p v) (puts (after p v) vs) first
      (puts_each (after p v) mid vs new rest)

  -- a `put` for each value of a stream, and then `finish`, write its document
  pub writes_each : (s : List Value) (old new : T) → WritesEach W nothing_yet old s new → Took W.took W.written old new (bin_of s)
  unfolding bin_of
  writes_each s old new h =
      subst (λ x. Took W.took W.written old new x) (bin_puts nothing_yet s)
      (Took-trans W.took W.written old h.mid new (puts nothing_yet s) (opening (behind nothing_yet s).begun) (puts_each nothing_yet old s h.mid h.each) h.end)
