use Rattle.std.proofs.Common.{◌+◌, ap}
use Rattle.soy_lexer.proofs.Represented.{skipped_represented, white_represented}
use Rattle.soy_lexer.proofs.run.Run.add_white.Goals as goal

pub returns : goal.returns
returns c = λ run is_run.
    white_represented _ _ _ (record { offset = c.args.offset; character = c.args.c }) is_run c.if-self.false
    c.requires.white c.requires.goes_on
    c.in_ok-push_char.ensures.ok c.start_with-self.ensures (ap (λ n. c.args.offset + n) c.len_utf8.ensures.value)

pub returns-then-self : goal.returns-then-self
returns-then-self c =
    λ run is_run. skipped_represented (record { offset = c.args.offset; character = c.args.c }) is_run c.if-self.true
    c.requires.white c.requires.goes_on
