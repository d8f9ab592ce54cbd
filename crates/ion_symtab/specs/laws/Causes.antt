-- How often a device was asked without an end.
use Rattle.std.proofs.Common.{◌≡◌, ◌⊎◌, inl, ℕ, ◌+◌, ◌-◌, ◌^◌, ◌<◌, min, List, [], ◌++◌, length, length-append, false, arith}
use Rattle.ion_symtab.specs.Names.{Ghosts, Heard}
use Rattle.ion_symtab.specs.Cause.{WereMade}
use Rattle.ion_symtab.specs.laws.Heard.{Heard-nil, Heard-trans}

-- a count of calls that stops at its end, after one more
one_more : (end before after from reads : ℕ) → after ≡ min (before + 1) end → (before ≡ from + reads) ⊎ (before ≡ end)
    → (after ≡ from + (reads + 1)) ⊎ (after ≡ end)
one_more end before after from reads e h = grind arith

module _ {S : Type 0} (R : Ghosts S) where
  -- between a device and itself no call was made
  pub WereMade-nil : (s : S) → WereMade R 0 s s
  WereMade-nil s = record { octets = []; made = inl (omega arith); heard = Heard-nil R s; each = omega arith }

  -- one more call was made, which handed over these octets
  pub WereMade-more : (reads : ℕ) (a b c : S) (more : List ℕ) → WereMade R reads a b → Heard R b c more false → 0 < length more
      → R.calls_made c ≡ min (R.calls_made b + 1) (2 ^ 64 - 1) → WereMade R (reads + 1) a c
  WereMade-more reads a b c more h heard some calls = record {
    octets = h.octets ++ more;
    made = one_more (2 ^ 64 - 1) (R.calls_made b) (R.calls_made c) (R.calls_made a) reads calls h.made;
    heard = Heard-trans R a b c h.octets more false h.heard heard;
    each = omega (arith, h.each, some, length-append h.octets more);
  }
