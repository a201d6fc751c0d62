use Rattle.std.proofs.Common.{◌≡◌, ◌==◌, true, map}
use Rattle.std.specs.List.{list_all}
use Rattle.bidi_class.specs.Class.{bidi_class}
use Rattle.bidi_preview.specs.PlainSteps.{is_plain}
use Rattle.bidi_preview.proofs.PlainLines.{plain_is}
use Rattle.bidi_preview.proofs.line.levels.Goals as goal

pub returns-then-are_plain : goal.returns-then-are_plain
returns-then-are_plain c =
    let tested : list_all (is_plain (c.base_level-base.result == 1)) (map bidi_class c.args.line.now) ≡ true = cc (
      c.are_plain.ensures,
      c.deref.ensures.value,
      c.in_ok-classes.ensures,
      c.if-are_plain.true,
    ) in
    cc (
      plain_is c.base_level-base.result c.args.line.now c.base_level-base.ensures.bound tested,
      c.new.ensures,
      c.in_ok-plain_levels.ensures,
      c.deref-then-are_plain.ensures.value,
      c.in_ok-classes.ensures,
      c.base_level-base.ensures.value,
    )
