use Rattle.std.proofs.Common.{sym, ◌∙◌, subst, arith}
use Rattle.std.specs.Str.{chars}
use Rattle.soy_rules.specs.IcuText.{IsPattern}
use Rattle.icu_text.proofs.PatternExact.{read-Answers}
use Rattle.icu_text.proofs.parse.parse_message.Goals as goal

pub overflow_sub-result : goal.overflow_sub-result
overflow_sub-result c =
    let a = read-Answers (chars c.args.text.now) _ (sym c.in-Refused.is ∙ c.in_ok-parts.ensures) in omega
    (arith, a.0, c.byte_len.ensures)

pub returns-in-Done : goal.returns-in-Done
returns-in-Done c =
    subst (λ ps. IsPattern (chars c.args.text.now) ps) (sym c.done.ensures)
    (read-Answers (chars c.args.text.now) _ (sym c.in-Done.is ∙ c.in_ok-parts.ensures))

pub returns-in-Refused : goal.returns-in-Refused
returns-in-Refused c =
    let a = read-Answers (chars c.args.text.now) _ (sym c.in-Refused.is ∙ c.in_ok-parts.ensures) in
    rw c.byte_len.ensures a.1
