use Rattle.std.proofs.Common.{◌≡◌, refl, subst, sym, ap, ◌∙◌}
use Rattle.std.specs.Prelude.{Err, is_ok, true}
use Rattle.std.specs.Str.{IsUtf8}
use Rattle.ion_binary.specs.Names.{BadUtf8, Scalar, judge}
use Rattle.ion_binary.proofs.Unread.{as_form, blob_unread, clob_unread, cut_text_unread, no_cut_text}
use Rattle.ion_binary.proofs.walking.open_body.OpenBody.judge_unread.Goals as goal

pub returns-in-Str-2-clause-refused : goal.returns-in-Str-2-clause-refused
returns-in-Str-2-clause-refused c = λ other slots.
    let none : judge slots Scalar.Str c.args.self.now ≡ Err BadUtf8 = rw (← c.self.view_is)
    (no_cut_text c.self.inside.let_go c.self.inside.kept.items slots (c.if-not-is_text.ensures refl)
    (λ h. let i = c.if-not-is_utf8.ensures.1 (subst IsUtf8 (sym c.deref.ensures.value) h) in cc)) in
    ap (λ t. judge slots t c.args.self.now) c.in-Str-2.is ∙ none

pub returns-in-Str-3-clause-is : goal.returns-in-Str-3-clause-is
returns-in-Str-3-clause-is c = λ slots.
    let text : is_ok (judge slots Scalar.Str c.args.self.now) ≡ true = rw (← c.self.view_is)
    (cut_text_unread c.self.inside.let_go c.self.inside.kept.items slots (c.if-not-is_text.ensures refl)
    (subst IsUtf8 c.deref.ensures.value (c.if-not-is_utf8.ensures.0 refl))) in
    as_form _ _ _ _ c.in-Str-3.is text

pub returns-in-Clob-clause-is : goal.returns-in-Clob-clause-is
returns-in-Clob-clause-is c = λ slots. as_form _ _ _ _ c.in-Clob.is (clob_unread slots _)

pub returns-in-Blob-clause-is : goal.returns-in-Blob-clause-is
returns-in-Blob-clause-is c = λ slots. as_form _ _ _ _ c.in-Blob.is (blob_unread slots _)
