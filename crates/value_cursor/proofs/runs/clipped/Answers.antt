use Rattle.std.proofs.Common.{subst, sym, take-append-drop}
use Rattle.std.specs.Str.{IsUtf8}
use Rattle.std.proofs.lemmas.Str.{IsUtf8-drop}
use Rattle.value_cursor.proofs.runs.clipped.Goals as goal

pub returns-clause-prefix : goal.returns-clause-prefix
returns-clause-prefix c = (
  c.split_at.result.1.now,
  rw (c.split_at.ensures.front, c.split_at.ensures.back)
      (sym (take-append-drop c.floor_char_boundary.result c.args.text.now)),
  subst IsUtf8 (sym c.split_at.ensures.back) (IsUtf8-drop c.args.text.now c.floor_char_boundary.result c.utf8.text
      c.floor_char_boundary.ensures.boundary),
)
