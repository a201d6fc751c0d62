use Rattle.std.proofs.Common.{ap, ◌∙◌}
use Rattle.std.specs.Str.{chars}
use Rattle.std.specs.Str.Iter.{chars_rest}
use Rattle.std.proofs.lemmas.List.{nil_from_length}
use Rattle.std.proofs.lemmas.Str.{chars_past_char, chars-nil, IsUtf8-past_char}
use Rattle.soy_format.proofs.TextLines.{string_step, string_end}
use Rattle.soy_format.proofs.string.push_string_characters.Goals as goal

pub loop-c-preserved : goal.loop-c-preserved
loop-c-preserved c =
    let left = chars_past_char (chars_rest c.loop-c.c-iterator) (chars_rest c.next.new.self) c.in-Some.c
    c.loop-c.invariant.utf8 c.in-Some.ensures.steps.0 in
    record {
      utf8 =
          IsUtf8-past_char (chars_rest c.loop-c.c-iterator) (chars_rest c.next.new.self) c.in-Some.c
          c.loop-c.invariant.utf8 c.in-Some.ensures.steps.0;
      pushed =
          string_step _ _ (chars (chars_rest c.loop-c.c-iterator)) (chars (chars_rest c.next.new.self)) _ c.in-Some.c
          c.in_ok-push_string_character.ensures left c.loop-c.invariant.pushed;
    }

pub returns : goal.returns
returns c =
    string_end _ (chars (chars_rest c.loop-c.c-iterator)) _
    (ap chars (nil_from_length (chars_rest c.loop-c.c-iterator) c.in-None.ensures.steps.0.0) ∙ chars-nil)
    c.loop-c.invariant.pushed
