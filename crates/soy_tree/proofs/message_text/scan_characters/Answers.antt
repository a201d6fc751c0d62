use Rattle.std.proofs.Common.{sym, ap, ◌∙◌}
use Rattle.std.specs.Str.{chars}
use Rattle.std.specs.Str.Iter.{chars_rest}
use Rattle.std.proofs.lemmas.List.{nil_from_length}
use Rattle.std.proofs.lemmas.Str.{chars_past_char, chars-nil, IsUtf8-past_char}
use Rattle.soy_tree.specs.TagScan.{after_characters}
use Rattle.soy_tree.proofs.message_text.scan_characters.Goals as goal

pub loop-c-preserved : goal.loop-c-preserved
loop-c-preserved c =
    let left = chars_past_char (chars_rest c.loop-c.c-iterator) (chars_rest c.next.new.self) c.in-Some.c
    c.loop-c.invariant.utf8 c.in-Some.ensures.steps.0 in
    record {
      utf8 =
          IsUtf8-past_char (chars_rest c.loop-c.c-iterator) (chars_rest c.next.new.self) c.in-Some.c
          c.loop-c.invariant.utf8 c.in-Some.ensures.steps.0;
      last =
          ap (λ s. after_characters s (chars (chars_rest c.next.new.self))) c.scan_character-last.ensures
          ∙ (ap (λ cs. after_characters c.loop-c.last cs) (sym left) ∙ c.loop-c.invariant.last);
    }

pub returns : goal.returns
returns c =
    sym (ap (λ cs. after_characters c.loop-c.last cs)
    (ap chars (nil_from_length (chars_rest c.loop-c.c-iterator) c.in-None.ensures.steps.0.0) ∙ chars-nil))
    ∙ c.loop-c.invariant.last
