-- How the documents of both encodings grow value by value.
use Rattle.std.proofs.Common.{◌≡◌, List, [], ◌∷◌, ◌++◌, ap, sym, ◌∙◌, append-nil}
use Rattle.std.proofs.lemmas.List.{flat_map_more}
use Rattle.ion_docs.specs.Names.{IsFrontOf, Progress, Value, behind, behind_more, bin_of, bin_puts, nothing_yet, opening, puts, puts_more, text_of}
use Rattle.ion_binary.specs.Output as binary
use Rattle.ion_spelling.specs.Output as text

-- what the values add, and the end, are the document
pub binary_ends : (s : List Value) → puts nothing_yet s ++ opening (behind nothing_yet s).begun ≡ bin_of s
unfolding bin_of
binary_ends s = bin_puts nothing_yet s

-- what values add one after another is the front of their binary document
pub binary_fronts : (s : List Value) → IsFrontOf (puts nothing_yet s) (bin_of s)
binary_fronts s = (opening (behind nothing_yet s).begun, binary_ends s)

-- one value more
pub puts_one : (p : Progress) (s : List Value) (v : Value) → puts p s ++ binary.adds (behind p s) v ≡ puts p (s ++ v ∷ [])
puts_one p s v = ap (λ w. puts p s ++ w) (sym (append-nil (binary.adds (behind p s) v))) ∙ sym (puts_more p s (v ∷ []))

-- the writer's progress behind values and one more is that behind all of them
pub behind_one : (p : Progress) (s : List Value) (v : Value) → binary.after (behind p s) v ≡ behind p (s ++ v ∷ [])
behind_one p s v = sym (behind_more p s (v ∷ []))

-- text adds nothing at its end
pub text_fronts : (s : List Value) → IsFrontOf (text_of s) (text_of s)
text_fronts s = ([], append-nil (text_of s))

-- the text of a stream and a value's line are the text of the stream with that value
pub text_one : (s : List Value) (v : Value) → text_of s ++ text.adds v ≡ text_of (s ++ v ∷ [])
text_one s v = flat_map_more text.adds [] s v
