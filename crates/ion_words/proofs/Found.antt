-- The subcommand that was found, and what is asked for by it.
use Rattle.std.proofs.Common.{◌≡◌, ◌∙◌, Bool, true, false, cond, List, [], ◌∷◌, Option, Some, None, is_some, true≢false, option_map, refl, sym, ap, ap₂, subst, inl, inr, arith, ne_eqb, map, length, ◌↔◌, Bor}
use Rattle.std.specs.Prelude.{unwrap_or, option_and_then, ◌==◌}
use Rattle.clap.specs.Walk.{is_empty}
use Rattle.clap.specs.Words.{App, HasMatchesOf, HasKind, Kinds, Row, Text, fault_of, is_simple, is_simple_and_free, kind_of, found_of, rows_of, subcommand_name_of, subcommand_of, subcommand_rows_of}
use Rattle.clap.specs.declared.parser.ArgMatches.{ArgMatches}
use Rattle.clap.specs.declared.error.ErrorKind.TheVariants.{OutOfMemory}
use Rattle.clap.specs.declared.error.Error.{Error}
use Rattle.ion_words.specs.declared.request.WordsError.{WordsError}
use Rattle.ion_words.specs.declared.request.WordsError.TheVariants.{Memory, Usage}
use Rattle.ion_words.specs.Program.{program}
use Rattle.ion_words.specs.Asked.{Asked, asked, asked_by}

fst-map : {A B C : Type 0} (f : A → B) (g : A → C) (o : Option A) → option_map (λ (p : B × C). p.0) (option_map (λ b. (f b, g b)) o) ≡ option_map f o
fst-map f g None = refl
fst-map f g (Some x) = refl

names-same : (m : ArgMatches) → option_map (λ p. p.0) (subcommand_rows_of m) ≡ subcommand_name_of m
names-same m = fst-map _ _ _

joined : {A B X : Type 0} (f : X → A) (g : X → B) (r : Option X) (x : Option (A × B)) → option_map f r ≡ option_map (λ p. p.0) x
    → option_map g r ≡ option_map (λ p. p.1) x
    → option_map (λ y. (f y, g y)) r ≡ x
joined f g None None d e = refl
joined f g None (Some p) d e = absurd (true≢false (sym (ap is_some d)))
joined f g (Some y) None d e = absurd (true≢false (ap is_some d))
joined f g (Some y) (Some p) d e = ap₂ (λ a b. Some (a, b)) (ap (λ o. unwrap_or o (f y)) d) (ap (λ o. unwrap_or o (g y)) e)

-- the command's name and what was found for it make what is found of the words together
pub subcommand-is : (m : ArgMatches) (r : Option (Bor Text × Bor ArgMatches)) → option_map (λ p. p.0.now) r ≡ subcommand_name_of m
    → option_map (λ p. rows_of (found_of p.1.now)) r ≡ option_map (λ p. p.1) (subcommand_rows_of m)
    → option_map (λ p. (p.0.now, rows_of (found_of p.1.now))) r ≡ subcommand_rows_of m
subcommand-is m r name rows = joined _ _ r (subcommand_rows_of m) (name ∙ sym (names-same m)) rows

abbrev by : Option (Text × List Row) → Option Asked
by = option_and_then (λ found. asked_by found.0 found.1)

pub asked-none : (words : List Text) → (words ≡ [] → ⊥) → (fault_of program words ≡ [] → ⊥) → asked words ≡ None
asked-none [] some faults = absurd (some refl)
asked-none (w ∷ ws) some faults = go (fault_of program (w ∷ ws)) faults
  where
    go : (k : Kinds) → (k ≡ [] → ⊥) → cond (is_empty k) (by (subcommand_of program (w ∷ ws))) None ≡ None
    go [] f = absurd (f refl)
    go (x ∷ k) f = ap (λ b. cond b (by (subcommand_of program (w ∷ ws))) None) (ne_eqb _ _ (λ e. omega arith))

pub asked-by : (words : List Text) → (words ≡ [] → ⊥) → fault_of program words ≡ [] → asked words ≡ by (subcommand_of program words)
asked-by [] some e = absurd (some refl)
asked-by (w ∷ ws) some e = ap (λ (k : Kinds). cond (is_empty k) (by (subcommand_of program (w ∷ ws))) None) e

is_usage : WordsError → Bool
is_usage Usage = true
is_usage Memory = false

not_memory : Usage ≡ Memory → ⊥
unfolding is_usage
not_memory e = true≢false (ap is_usage e)

-- an error that isn't of memory comes only where nothing is asked for
pub refused : (words : List Text) → (words ≡ [] → ⊥) → (a : App) → a ≡ program → (e : Error) → (is_simple_and_free a ≡ true → HasKind (fault_of a words) e)
    → (err : WordsError) → (err ≡ Memory) ↔ (kind_of e ≡ OutOfMemory) → err ≡ Usage → asked words ≡ None
refused words some a is e has err same usage = asked-none words some
    (λ none. by_kind (subst (λ k. HasKind k e) (ap (λ (x : App). fault_of x words) is ∙ none) (has (ap is_simple_and_free is))))
  where
    by_kind : HasKind [] e → ⊥
    by_kind (inl out) = not_memory (sym usage ∙ same.1 out)
    by_kind (inr among) = among

-- what was found is what is asked for
pub found : (words : List Text) → (words ≡ [] → ⊥) → (a : App) → a ≡ program → (m : ArgMatches) → (is_simple_and_free a ≡ true → fault_of a words ≡ [])
    → HasMatchesOf a words m
    → asked words ≡ by (subcommand_rows_of m)
found words some a is m free has = asked-by words some (sym (ap (λ (x : App). fault_of x words) is) ∙ free (ap is_simple_and_free is))
    ∙ ap by (sym ((has (ap is_simple is)).1 ∙ ap (λ (x : App). subcommand_of x words) is))

-- what a list that isn't empty is mapped to isn't empty
pub mapped_some : {A : Type 0} (f : A → Text) (xs : List A) → (length xs == 0) ≡ false → map f xs ≡ [] → ⊥
mapped_some f [] some e = true≢false some
mapped_some f (x ∷ xs) some e = is_cons e
  where
    is_cons : {y : Text} {ys : List Text} → y ∷ ys ≡ [] → ⊥
    is_cons e = absurd (omega (arith, ap length e))
