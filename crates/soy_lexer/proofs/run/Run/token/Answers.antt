use Rattle.std.proofs.Common.{◌++◌, ap, ◌∙◌, sym}
use Rattle.std.specs.Str.{chars}
use Rattle.std.specs.String.{string_bytes}
use Rattle.soy_base.specs.Cuts.{is_nil}
use Rattle.soy_lexer.proofs.Represented.{no_token_represented, token_represented}
use Rattle.soy_lexer.proofs.run.Run.token.Goals as goal

pub returns-then-is_empty : goal.returns-then-is_empty
returns-then-is_empty c = λ run is_run.
    no_token_represented (chars (string_bytes c.push_text.new.out)) is_run
    (c.in_ok-push_text.ensures.ok ∙ ap (λ l. chars (string_bytes c.args.self.text) ++ chars l) c.as_str.ensures.value)
    (ap (λ l. is_nil (chars l)) (sym c.as_str-2.ensures.value) ∙ sym c.if-is_empty.ensures)

pub returns : goal.returns
returns c = λ run is_run.
    token_represented c.new.result is_run
    (c.new.ensures ∙ (c.in_ok-push_text.ensures.ok
    ∙ ap (λ l. chars (string_bytes c.args.self.text) ++ chars l) c.as_str.ensures.value))
    (ap is_nil c.new.ensures ∙ (ap (λ l. is_nil (chars l)) (sym c.as_str-2.ensures.value) ∙ sym c.if-is_empty.ensures))
