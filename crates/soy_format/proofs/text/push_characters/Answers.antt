use Rattle.std.proofs.Common.{ap, ◌∙◌}
use Rattle.std.specs.Str.{chars}
use Rattle.std.specs.Str.Iter.{chars_rest}
use Rattle.std.proofs.lemmas.List.{nil_from_length}
use Rattle.std.proofs.lemmas.Str.{chars_past_char, chars-nil, IsUtf8-past_char}
use Rattle.soy_format.proofs.TextLines.{text_step, text_end}
use Rattle.soy_format.proofs.text.push_characters.Goals as goal

pub loop-c-preserved : goal.loop-c-preserved
loop-c-preserved c =
    let left = chars_past_char (chars_rest c.loop-c.c-iterator) (chars_rest c.next.new.self) c.in-Some.c
    c.loop-c.invariant.utf8 c.in-Some.ensures.steps.0 in
    record {
      utf8 =
          IsUtf8-past_char (chars_rest c.loop-c.c-iterator) (chars_rest c.next.new.self) c.in-Some.c
          c.loop-c.invariant.utf8 c.in-Some.ensures.steps.0;
      pushed =
          text_step _ _ _ (chars (chars_rest c.loop-c.c-iterator)) (chars (chars_rest c.next.new.self)) _
          c.loop-c.after_slash c.in-Some.c c.in_ok-push_comment_break.ensures c.in_ok-push_text_character.ensures left
          c.loop-c.invariant.pushed;
    }

pub returns : goal.returns
returns c =
    text_end _ (chars (chars_rest c.loop-c.c-iterator)) _ c.loop-c.after_slash
    (ap chars (nil_from_length (chars_rest c.loop-c.c-iterator) c.in-None.ensures.steps.0.0) ∙ chars-nil)
    c.loop-c.invariant.pushed
