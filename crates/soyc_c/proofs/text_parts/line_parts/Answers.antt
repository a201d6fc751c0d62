use Rattle.std.proofs.Common.{◌-◌, ap, length, ◌∙◌}
use Rattle.soyc_c.proofs.LineParts.{line_parts_are}
use Rattle.soyc_c.proofs.text_parts.line_parts.Goals as goal

pub returns-clause-parts : goal.returns-clause-parts
returns-clause-parts c = λ about detail details texts.
    line_parts_are about c.args.code detail c.args.text_len c.args.detail_len c.saturating_sub-line_feed.result
    c.saturating_sub-end.result c.saturating_sub-word.result details texts c.saturating_sub-line_feed.ensures
    c.saturating_sub-end.ensures
    (c.saturating_sub-word.ensures ∙ ap (λ ws. c.saturating_sub-end.result - length ws) c.word.ensures)
