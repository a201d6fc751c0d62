use Rattle.std.proofs.Common.{[], ◌∷◌, ◌++◌, ap, ◌∙◌, append_assoc}
use Rattle.soy_lexer.specs.Tokens.{run_token}
use Rattle.soy_lexer.specs.declared.token.Token.{Token}
use Rattle.soy_lexer.proofs.lexer.Lexer.push.Goals as goal

pub returns : goal.returns
returns c = λ tokens run reads.
    let ended = c.in_ok-end_run.ensures tokens run reads in
    let one : Token = record { kind = c.args.kind; span = c.args.span; text = c.args.text } in
    record {
      tokens_are =
          c.in_ok-push.ensures.items ∙ (ap (λ l. l ++ one ∷ []) ended.tokens_are
          ∙ append_assoc tokens (run_token run) (one ∷ []));
      run_is = ended.run_is;
    }
