use Rattle.std.proofs.Common.{refl}
use Rattle.std.proofs.lemmas.Str.{chars-nil}
use Rattle.bidi_preview.proofs.shown.show_characters.Goals as goal

pub loop-x-init : goal.loop-x-init
loop-x-init c = rw (c.new-text.ensures.bytes, chars-nil) refl
