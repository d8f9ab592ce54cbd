use Rattle.std.proofs.Common.{◌≡◌, ◌-◌, ◌<◌, false, true, [], ◌++◌, length, get_or, take, drop, refl, rules, arith, append_assoc}
use Rattle.std.proofs.lemmas.Grind.{common_steps}
use Rattle.std.proofs.lemmas.Str.{IsCharBoundary-start, IsCharBoundary-after_ascii}
use Rattle.std.proofs.Output.{has_written_append, has_written_of_eq}
use Rattle.ion_text_writer.specs.Names.{escape, is_raw, of_symbol}
use Rattle.ion_text_writer.proofs.QuotedRuns.{escape_octet, escaped_end, escaped_low, keep_octet}
use Rattle.ion_text_writer.proofs.display.write_escaped.Goals as goal
use Rattle.ion_text_writer.proofs.display.write_escaped.Goals.{else-not-is_raw, then-not-is_raw+in_ok-write_str+in_ok-write_escape}

pub loop-at-init : goal.loop-at-init
loop-at-init g c = (omega arith, IsCharBoundary-start c.args.text.now c.utf8.text, [], refl, search rules)

pub returns : goal.returns
returns g c plain ok =
    let l = c.loop-at in
    let s = c.args.text.now in
    let (low, bound, done, whole, wrote) = l.invariant in
    let at_end : l.at ≡ length s = omega (arith, c.as_bytes-octets.ensures.len) in
    let text = escaped_end of_symbol s done _ l.start l.at low at_end whole in
    has_written_of_eq _ _ _ _ _ text (has_written_append _ _ _ _ _ _ (wrote plain) (search rules))

pub loop-at-preserved : goal.loop-at-preserved
loop-at-preserved g c =
    let l = c.loop-at in
    let s = c.args.text.now in
    let (low, bound, done, whole, wrote) = l.invariant in
    let within : l.at < length s = omega (arith, c.as_bytes-octets.ensures.len) in
    elim c.if-not-is_raw.branch [
      | then-not-is_raw+in_ok-write_str+in_ok-write_escape w ↦
          let hidden : is_raw of_symbol (get_or s l.at 0) ≡ false = grind (arith, common_steps) in
          let next = escape_octet of_symbol s done _ l.start l.at within whole in
          let run = take (l.at - l.start) (drop l.start s) in
          rw (w.start-is, w.f-is) (
            omega arith,
            IsCharBoundary-after_ascii s l.at c.utf8.text within (escaped_low _ hidden),
            done ++ (run ++ escape of_symbol (get_or s l.at 0)),
            next,
            λ plain.
                let sofar = wrote plain in
                let one = w.write_str.ensures.writes sofar.plain (search rules) in
                let two = w.write_escape.ensures one.plain (search rules) in
                has_written_of_eq _ _ _ _ _ (grind (arith, common_steps, append_assoc))
                (has_written_append _ _ _ _ _ _ (has_written_append _ _ _ _ _ _ sofar one) two),
          )
      | else-not-is_raw w ↦
          let raw : is_raw of_symbol (get_or s l.at 0) ≡ true = grind (arith, common_steps) in
          rw (w.start-is, w.f-is) (omega arith, bound, done, keep_octet of_symbol s done _ l.start l.at low within raw whole, wrote)
    ]
