-- The words so far, and then those of the rest, are all words.
use Rattle.std.proofs.Common.{◌≡◌}
use Rattle.soy_top.specs.Words.{command_words}
use Rattle.soyc_c.specs.Call.{text_at, words_at}
use Rattle.soyc_c.proofs.Listed.{after, rest_of}
use Rattle.soyc_c.proofs.parts.words_of.Given as goal

abbrev pub invariant-loop-part : goal.invariant-loop-part
invariant-loop-part l =
    after (command_words l.words.items) (rest_of (text_at l.bytes) l.parts l.part-index) ≡ words_at l.bytes l.parts
