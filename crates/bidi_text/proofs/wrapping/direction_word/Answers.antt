use Rattle.std.proofs.Common.{rules}
use Rattle.std.specs.Str.{chars}
use Rattle.bidi_text.proofs.wrapping.direction_word.Goals as goal

pub returns-in-Ltr : goal.returns-in-Ltr
unfolding chars
returns-in-Ltr c = search rules

pub returns-in-Rtl : goal.returns-in-Rtl
unfolding chars
returns-in-Rtl c = search rules
