use Rattle.std.proofs.Common.{◌≡◌, ◌++◌, drop}
use Rattle.std.specs.Str.{chars}
use Rattle.std.specs.String.{string_bytes}
use Rattle.bidi_preview.specs.OrderSteps.{visible_characters}
use Rattle.bidi_preview.proofs.shown.show_characters.Given as goal

abbrev pub invariant-loop-x : goal.invariant-loop-x
invariant-loop-x l = chars (string_bytes l.text) ++ visible_characters (drop l.x-index l.order)
    ≡ visible_characters l.order
