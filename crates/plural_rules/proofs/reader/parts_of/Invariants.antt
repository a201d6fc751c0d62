use Rattle.std.proofs.Common.{◌≡◌, ◌+◌, length}
use Rattle.std.specs.Str.{chars, IsUtf8}
use Rattle.std.specs.Str.Iter.{char_indices_rest, char_indices_offset}
use Rattle.plural_rules.proofs.Walk.{IsAt}
use Rattle.plural_rules.proofs.reader.parts_of.Given as goal

-- what is left of the text, and what has been read of it
abbrev pub invariant-loop-at : goal.invariant-loop-at
invariant-loop-at l = record {
  can_next : (goal.iterator-loop-at).can_next l.at-iterator;
  is_finite : (goal.iterator-loop-at).is_finite l.at-iterator;
  utf8 : IsUtf8 (char_indices_rest l.at-iterator);
  length : char_indices_offset l.at-iterator + length (char_indices_rest l.at-iterator) ≡ length l.text;
  is_at : IsAt l.category (chars l.text) l.parts.items l.state (char_indices_offset l.at-iterator)
      (chars (char_indices_rest l.at-iterator));
}
