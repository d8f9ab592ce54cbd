use Rattle.ion_text.proofs.tokens.annotations.annotation_at.Goals as goal

pub returns : goal.returns
returns c =
    let found = c.in_ok-token.ensures in
    let behind = c.in_ok-between.ensures in
    record { token = found.0; is = found.1; passed = behind.passed; within = behind.within; one = behind.one; two = behind.two }
