use Rattle.std.proofs.Common.{◌≡◌, drop}
use Rattle.std.specs.Str.{chars, IsUtf8}
use Rattle.icu_text.specs.Heads.{letters_read}
use Rattle.icu_text.proofs.scan.after_letters.Given as goal

abbrev pub invariant-loop-letter : goal.invariant-loop-letter
invariant-loop-letter l = record {
  utf8 : IsUtf8 l.rest;
  same : letters_read (drop l.letter-index l.letters) (chars l.rest) ≡ letters_read l.letters (chars l.text);
}
