use Rattle.std.proofs.Common.{◌≡◌, drop, map}
use Rattle.std.specs.Str.{chars}
use Rattle.soy_tree.specs.ViewMessageParts.{view_select_arm}
use Rattle.icu_text.specs.FirstArms.{has_word}
use Rattle.icu_text.proofs.rows.has_word.Given as goal

abbrev pub invariant-loop-arm : goal.invariant-loop-arm
invariant-loop-arm l = has_word (chars l.word) (map view_select_arm (drop l.arm-index l.arms)) ≡ has_word (chars l.word)
    (map view_select_arm l.arms)
