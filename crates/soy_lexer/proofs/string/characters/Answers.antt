use Rattle.std.proofs.Common.{rules, ap, ◌∙◌}
use Rattle.std.specs.Str.{chars}
use Rattle.std.specs.String.{string_bytes}
use Rattle.std.proofs.lemmas.Str.{chars-nil}
use Rattle.soy_lexer.specs.Strings.{quoted}
use Rattle.soy_lexer.specs.StringSteps.{value_and_rest}
use Rattle.soy_lexer.proofs.StringReading.{read_starts, read_more, with_before}
use Rattle.soy_lexer.proofs.string.characters.Goals as goal

pub loop-c-init : goal.loop-c-init
loop-c-init c =
    record {
      read = read_starts (value_and_rest (quoted (chars c.args.text.now)))
          (chars (string_bytes c.new-value.result)) (ap chars c.new-value.ensures.bytes ∙ chars-nil);
      utf8 = c.utf8.text;
    }

pub loop-c-preserved : goal.loop-c-preserved
loop-c-preserved c =
    record {
      read =
          c.loop-c.invariant.read ∙ ap (with_before (chars (string_bytes c.loop-c.value))) c.in-Character.ensures.read
          ∙ read_more (value_and_rest (quoted (chars c.in-Character.rest.now))) c.in-Character.c
          (chars (string_bytes c.loop-c.value)) (chars (string_bytes c.push_char.new.out))
          c.in_ok-push_char-in-Character.ensures.ok;
      utf8 = search rules;
    }

pub loop-c-smaller : goal.loop-c-smaller
loop-c-smaller c = search rules
