-- Cutting, the one meaning of a token, and base64.
use Rattle.std.proofs.Common.{◌≡◌, ℕ, ◌++◌, ◌↔◌, refl, sym, ap, ◌∙◌, List, [], ◌∷◌, Option, Some, None, Result, Ok, Err}
use Rattle.std.specs.Result.{result_ok}
use Rattle.base64.specs.declared.decode.DecodeError.{DecodeError}
use Rattle.base64.specs.Engines.{standard}
use Rattle.base64.specs.GeneralPurpose.{decode_of, decoded_of}
use Rattle.base64.proofs.EngineFacts.{decode_of_iff}
use Rattle.ion_tokens.specs.Names.{AreOctets, Content, IsBody, IsWordBody, Known, Next, Number, Number', Outcome, Place, ReadsNumber, Reason, SaysNumber, Spells, TokenKind, Word, base64_of, blob_of, feed, follow, id_of, run}
use Rattle.ion_scalar.specs.text.laws.OneNumber.{one_answer}
use Rattle.ion_tokens.specs.laws.Blobs.{octet_at}

follow_follow : (x : Outcome) (f g : Known → Outcome) → follow (follow x f) g ≡ follow x (λ s. follow (f s) g)
follow_follow (Next s) f g = refl
follow_follow _ f g = refl

follow_same : (x : Outcome) (f g : Known → Outcome) → ((s : Known) → f s ≡ g s) → follow x f ≡ follow x g
follow_same (Next s) f g h = h s
follow_same _ f g h = refl

-- a run over octets is one over a front of them, and from there one over the rest
pub run-append : (p : Place) (xs ys : List ℕ) (s : Known) → run p (xs ++ ys) s ≡ follow (run p xs s) (λ t. run p ys t)
run-append p [] ys s = refl
run-append p (x ∷ xs) ys s = follow_same (feed p s x) _ _ (λ t. run-append p xs ys t) ∙ sym (follow_follow (feed p s x) _ _)

one_spelled : (said : Content) (octets : List ℕ) (a b : Result Content Reason) → Spells said octets a → Spells said octets b → a ≡ b
one_spelled said octets (Ok c) (Ok d) h k = ap Ok (h.0 ∙ sym k.0)
one_spelled said octets (Ok c) (Err e) h k = absurd (k.1 h.1)
one_spelled said octets (Err e) (Ok d) h k = absurd (h.1 k.1)
one_spelled said octets (Err e) (Err f) h k = ap Err (h.0 ∙ sym k.0)

one_word : (octets : List ℕ) (id : Option ℕ) (a b : Result Content Reason) → IsWordBody octets id a → IsWordBody octets id b → a ≡ b
one_word octets None a b h k = one_spelled (Word octets) octets a b h k
one_word octets (Some id) a b h k = h ∙ sym k

same_number : (octets : List ℕ) (n m : Number) → ReadsNumber octets (Ok n) → ReadsNumber octets (Ok m) → Number' n ≡ Number' m
same_number octets n m h k = let e = one_answer octets (Ok n) (Ok m) h k in cc

other_number : (octets : List ℕ) (n : Number) (d : Content) → ReadsNumber octets (Ok n) → SaysNumber octets d → Number' n ≡ d
other_number octets n (Number' m) h k = same_number octets n m h k
other_number octets n _ h k = absurd k

says_one : (octets : List ℕ) (c d : Content) → SaysNumber octets c → SaysNumber octets d → c ≡ d
says_one octets (Number' n) d h k = other_number octets n d h k
says_one octets _ d h k = absurd h

not_both : (octets : List ℕ) (c : Content) (e : Reason) → SaysNumber octets c → ReadsNumber octets (Err e) → ⊥
not_both octets (Number' n) e h k = let f = one_answer octets (Ok n) (Err e) h k in cc
not_both octets _ e h k = h

one_error : (octets : List ℕ) (e f : Reason) → ReadsNumber octets (Err e) → ReadsNumber octets (Err f) → e ≡ f
one_error octets e f h k = let g = one_answer octets (Err e) (Err f) h k in cc

one_number : (octets : List ℕ) (a b : Result Content Reason) → IsBody TokenKind.Number octets a → IsBody TokenKind.Number octets b → a ≡ b
one_number octets (Ok c) (Ok d) h k = ap Ok (says_one octets c d h k)
one_number octets (Ok c) (Err e) h k = absurd (not_both octets c e h k)
one_number octets (Err e) (Ok d) h k = absurd (not_both octets d e k h)
one_number octets (Err e) (Err f) h k = ap Err (one_error octets e f h k)

-- the octets of a token of one kind say one thing alone, or are refused for one reason
pub one_body : (kind : TokenKind) (octets : List ℕ) (a b : Result Content Reason) → IsBody kind octets a → IsBody kind octets b → a ≡ b
one_body TokenKind.Word octets a b h k = one_word octets (id_of octets) a b h k
one_body TokenKind.Number octets a b h k = one_number octets a b h k
one_body TokenKind.Operator octets a b h k = one_spelled _ octets a b h k
one_body TokenKind.QuotedSymbol octets a b h k = one_spelled _ octets a b h k
one_body TokenKind.ShortString octets a b h k = one_spelled _ octets a b h k
one_body TokenKind.LongString octets a b h k = one_spelled _ octets a b h k
one_body _ octets a b h k = h ∙ sym k

ok_of : (r : Result (List ℕ) DecodeError) (b : List ℕ) → result_ok r ≡ Some b → r ≡ Ok b
ok_of (Ok c) b h = cc
ok_of (Err e) b h = cc

-- a text decodes to octets just where it is their base64
pub blob_text : (text octets : List ℕ) → AreOctets text → AreOctets octets → (blob_of text ≡ Some octets) ↔ (text ≡ base64_of octets)
unfolding blob_of decoded_of
blob_text text octets h k =
    let decodes = decode_of_iff standard text octets (refl, refl) (octet_at text h) (octet_at octets k) in
    (λ e. decodes.0 (ok_of (decode_of standard text) octets e), λ e. ap result_ok (decodes.1 e))
