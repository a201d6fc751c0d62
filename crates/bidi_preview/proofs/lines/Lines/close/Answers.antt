use Rattle.bidi_order.specs.Lines.{direction_level}
use Rattle.bidi_preview.specs.LinesSoFar.{view_lines}
use Rattle.bidi_preview.proofs.PageLines.{closes_past}
use Rattle.bidi_preview.proofs.lines.Lines.close.Goals as goal

pub returns-clause-past : goal.returns-clause-past
returns-clause-past c = closes_past (direction_level c.args.self.now.context) (view_lines c.args.self.now)
    c.args.name.now.items c.replace-opened.result c.in_ok-self.field-0 c.closed.new.line.items
    c.replace-opened.ensures.value c.in_ok-self.ensures
