use Rattle.std.proofs.Common.{[], ◌∷◌, codes, ◌∙◌, Some}
use Rattle.clap.proofs.OnLiterals.{clap_on_literals}
use Rattle.clap.specs.Walk.{idle, nothing_held, option, settled}
use Rattle.ion_words.proofs.Names.{catalog_once, command_of, compare_once, in_check, in_compare, in_convert, in_show, no_hyphen, placed, plain_step}
use Rattle.ion_words.proofs.laws.plain_names.Goals as goal

pub returns : goal.returns
unfolding clap_on_literals
returns c = record {
  check = λ name plain. in_check (name ∷ []) ∙ plain_step (codes "check") (command_of (codes "check")) nothing_held idle 1 name [] plain;
  show = λ name plain. in_show (name ∷ []) ∙ plain_step (codes "show") (command_of (codes "show")) nothing_held idle 1 name [] plain;
  text = λ name plain.
      let target = codes "--to" ∷ codes "text" ∷ [] in
      in_convert (name ∷ target) ∙ plain_step (codes "convert") (command_of (codes "convert")) nothing_held idle 1 name target plain;
  binary = λ name plain.
      let target = codes "--to" ∷ codes "binary" ∷ [] in
      in_convert (name ∷ target) ∙ plain_step (codes "convert") (command_of (codes "convert")) nothing_held idle 1 name target plain;
  compare = λ left right plain right_plain.
      in_compare (left ∷ right ∷ []) ∙ plain_step (codes "compare") (command_of (codes "compare")) nothing_held idle 1 left (right ∷ []) plain
      ∙ plain_step (codes "compare") (command_of (codes "compare")) (placed (codes "LEFT") left) idle 2 right [] right_plain
      ∙ compare_once left right (no_hyphen [] right right_plain);
  catalog = λ name catalog plain other_plain.
      in_check (name ∷ codes "--catalog" ∷ catalog ∷ [])
      ∙ plain_step (codes "check") (command_of (codes "check")) nothing_held idle 1 name (codes "--catalog" ∷ catalog ∷ []) plain
      ∙ plain_step (codes "check") (command_of (codes "check"))
      (record (settled (command_of (codes "check")).rules (placed (codes "FILE") name)) { pending = Some (codes "catalog", []) })
      (option (codes "catalog")) 2 catalog [] other_plain
      ∙ catalog_once name catalog (no_hyphen [] name plain);
}
