use Rattle.std.proofs.Common.{◌≡◌, ◌≢◌, ◌∙◌, Ok, ap, sym, arith, take, get_or, refl}
use Rattle.ion_text.specs.Names.{Word, held_payload, held_word, payload_of}
use Rattle.ion_text.proofs.TokenSteps.{first_of}
use Rattle.ion_text.proofs.Symbols.{word_said}
use Rattle.ion_text.proofs.Walks.{word_unmarked}
use Rattle.ion_text.proofs.tokens.finders.word_at.Goals as goal

pub returns : goal.returns
returns c = λ here rest.
    let octets = c.args.octets.now in
    let n = c.in_ok-count.count in
    let kept = take n octets in
    let is = c.in_ok-said.ensures in
    let first : get_or octets 0 0 ≢ 36 = λ e. omega (arith, e, c.if-octets-eq36.false) in
    let pays : held_payload (held_word kept) ≡ Ok (payload_of c.in_ok-said.said) = ap (λ w. held_payload (held_word w)) (sym c.from_utf8_unchecked.ensures)
    ∙ is in
    record {
      part = record {
        token = record {
          kept = kept;
          content = Word kept;
          payload = payload_of c.in_ok-said.said;
          found = c.in_ok-count.ensures.found here rest;
          says = word_said here rest octets n (c.in_ok-count.ensures.found here rest) c.in_ok-count.ensures.text first;
          is = pays;
        };
        is = refl;
      };
      waits = refl;
      free = word_unmarked kept (λ d. first (sym (first_of n octets (c.in_ok-count.ensures.found here rest).some) ∙ d));
    }
