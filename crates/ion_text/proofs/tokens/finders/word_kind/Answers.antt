use Rattle.std.proofs.Common.{rules, ◌≡◌, true, false}
use Rattle.std.specs.Prelude.{codes}
use Rattle.std.specs.Str.{bytes_eq}
use Rattle.ion_text.proofs.Walks.{word_false, word_null, word_symbol, word_true}
use Rattle.ion_text.proofs.tokens.finders.word_kind.Goals as goal

pub returns-then-eq : goal.returns-then-eq
returns-then-eq c =
    let null : bytes_eq c.args.word.now (codes "null") ≡ true = search rules in
    word_null c.args.word.now null

pub returns-then-eq-2 : goal.returns-then-eq-2
returns-then-eq-2 c =
    let null : bytes_eq c.args.word.now (codes "null") ≡ false = search rules in
    let is : bytes_eq c.args.word.now (codes "true") ≡ true = search rules in
    word_true c.args.word.now null is

pub returns-then-eq-3 : goal.returns-then-eq-3
returns-then-eq-3 c =
    let null : bytes_eq c.args.word.now (codes "null") ≡ false = search rules in
    let no : bytes_eq c.args.word.now (codes "true") ≡ false = search rules in
    let is : bytes_eq c.args.word.now (codes "false") ≡ true = search rules in
    word_false c.args.word.now null no is

pub returns : goal.returns
returns c =
    let null : bytes_eq c.args.word.now (codes "null") ≡ false = search rules in
    let yes : bytes_eq c.args.word.now (codes "true") ≡ false = search rules in
    let no : bytes_eq c.args.word.now (codes "false") ≡ false = search rules in
    let nan : bytes_eq c.args.word.now (codes "nan") ≡ false = search rules in
    word_symbol c.args.word.now null yes no nan
