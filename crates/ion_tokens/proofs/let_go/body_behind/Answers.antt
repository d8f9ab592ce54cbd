use Rattle.std.proofs.Common.{◌≡◌, true, false, sym, ap, subst, ◌∙◌, ◌++◌}
use Rattle.std.specs.Prelude.{Ok, IsUtf8}
use Rattle.std.proofs.lemmas.Str.{IsUtf8-append}
use Rattle.ion_tokens.specs.Names.{Content, IsBody}
use Rattle.ion_tokens.specs.machine.LetGo.{is_string_kind, text_content}
use Rattle.ion_tokens.proofs.runs.SaidBehind.{refuses_text, says_text}
use Rattle.ion_tokens.proofs.let_go.body_behind.Goals.{else-is_string-via-then-is_string+else-not-is_utf8, else-is_string-via-else-is_string}
use Rattle.ion_tokens.proofs.let_go.body_behind.Goals as goal

pub returns-then-not-is_utf8-clause-refuses : goal.returns-then-not-is_utf8-clause-refuses
returns-then-not-is_utf8-clause-refuses c = λ _.
    let yes : is_string_kind c.args.kind ≡ true = sym c.is_string.ensures ∙ c.if-is_string.true in
    refuses_text c.args.kind c.args.gone c.args.rest.now yes (c.requires.utf8 yes)
    (λ h. (let n : true ≡ false = sym (c.is_utf8.ensures.1 h) ∙ c.if-not-is_utf8.true in cc))

pub returns-clause-says : goal.returns-clause-says
returns-clause-says c =
    let rest : is_string_kind c.args.kind ≡ true → IsUtf8 c.args.rest.now = elim c.else-is_string.branch [
      | else-is_string-via-then-is_string+else-not-is_utf8 w ↦ λ _. w.is_utf8.ensures.0 w.if-not-is_utf8.false
      | else-is_string-via-else-is_string w ↦ λ yes. absurd (let n : true ≡ false = sym yes ∙ sym c.is_string.ensures ∙ w.if-is_string.false in cc)
    ] in
    subst (λ (x : Content). IsBody c.args.kind (c.args.gone ++ c.args.rest.now) (Ok x))
    (sym (c.said.ensures.says ∙ ap (text_content c.args.kind) c.add.ensures))
    (says_text c.args.kind (c.args.gone ++ c.args.rest.now) c.requires.text (λ yes. IsUtf8-append _ _ (c.requires.utf8 yes) (rest yes)))
