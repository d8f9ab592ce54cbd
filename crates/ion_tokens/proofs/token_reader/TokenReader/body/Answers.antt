use Rattle.std.proofs.Common.{◌≡◌, ◌≢◌, ℕ, List, Ok, Err, Result, IfOk, IfErr}
use Rattle.ion_tokens.specs.Names.{Body, IsBody, Memory, Reason, TokenKind, octets_in, said, says}
use Rattle.ion_tokens.specs.Bodies.{content}
use Rattle.ion_tokens.proofs.runs.Cutting.{one_body}
use Rattle.ion_tokens.proofs.token_reader.TokenReader.body.Goals as goal

said_if : (k : TokenKind) (octets : List ℕ) (r : Result Body Reason) → IfOk r (λ b. IsBody k octets (Ok (content b)))
    → IfOk r (λ b. said k octets ≡ Ok (content b))
said_if k octets (Ok b) h = one_body k octets (said k octets) (Ok (content b)) (says k octets) h
said_if k octets (Err e) h = tt

refused_if : (k : TokenKind) (octets : List ℕ) (r : Result Body Reason) → IfErr r (λ e. e ≢ Memory → IsBody k octets (Err e))
    → IfErr r (λ e. e ≢ Memory → said k octets ≡ Err e)
refused_if k octets (Ok b) h = tt
refused_if k octets (Err e) h = λ other. one_body k octets (said k octets) (Err e) (says k octets) (h other)

pub returns-clause-says : goal.returns-clause-says
returns-clause-says c = said_if c.args.kind (octets_in c.args.self.now) c.body_of.result c.body_of.ensures.ok

pub returns-clause-refused : goal.returns-clause-refused
returns-clause-refused c = refused_if c.args.kind (octets_in c.args.self.now) c.body_of.result c.body_of.ensures.err
