use Rattle.esc_table.proofs.PushedSoFar.{first_pushed}
use Rattle.esc_table.proofs.escape.push_first.Goals as goal

pub returns-in_ok-push_escaped_character-in-Some-clause-ok : goal.returns-in_ok-push_escaped_character-in-Some-clause-ok
returns-in_ok-push_escaped_character-in-Some-clause-ok g c =
    first_pushed _ c.args.text.now c.as_str.result.now c.in-Some.c _ _ c.utf8.text
    (rw (c.as_str.ensures, ← c.chars-characters.ensures.rest) c.in-Some.ensures.steps.0)
    c.in_ok-push_escaped_character-in-Some.ensures.ok
