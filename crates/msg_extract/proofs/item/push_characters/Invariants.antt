use Rattle.std.proofs.Common.{◌≡◌, ◌++◌, length, map}
use Rattle.std.specs.Str.{chars, IsUtf8}
use Rattle.soy_tree.specs.MessageText.{characters}
use Rattle.msg_extract.specs.Views.ViewItems.{view_item}
use Rattle.msg_extract.proofs.item.push_characters.Given as goal

abbrev pub invariant-loop-c : goal.invariant-loop-c
invariant-loop-c l = record {
  utf8 : IsUtf8 l.rest;
  same : map view_item l.items ++ characters (chars l.rest) l.span
      ≡ map view_item l.initial.items ++ characters (chars l.text) l.span;
}

abbrev pub decreases-loop-c : goal.decreases-loop-c
decreases-loop-c l = length (chars l.rest)
