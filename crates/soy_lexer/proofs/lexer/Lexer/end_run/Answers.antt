use Rattle.std.proofs.Common.{◌++◌, ap, sym, ◌∙◌, append-nil}
use Rattle.soy_lexer.proofs.lexer.Lexer.end_run.Goals as goal

pub returns-then-is_empty : goal.returns-then-is_empty
returns-then-is_empty c = λ tokens run reads.
    let restarts = c.restart.ensures run reads.run_is in
    record {
      tokens_are =
          reads.tokens_are ∙ (sym (append-nil tokens) ∙ ap (λ l. tokens ++ l) restarts.0);
      run_is = restarts.1;
    }
