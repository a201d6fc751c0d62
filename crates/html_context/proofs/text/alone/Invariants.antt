use Rattle.std.proofs.Common.{◌≡◌, ◌∷◌, []}
use Rattle.std.specs.Str.{chars, IsUtf8}
use Rattle.std.specs.Str.Iter.{chars_rest}
use Rattle.soy_meaning.specs.Walks.PageMachine.{page_machine}
use Rattle.soy_meaning.specs.Walks.Walk.{states_after_text}
use Rattle.html_context.proofs.text.alone.Given as goal

abbrev pub invariant-loop-c : goal.invariant-loop-c
invariant-loop-c l = record {
  utf8 : IsUtf8 (chars_rest l.c-iterator);
  rest : states_after_text page_machine (chars (chars_rest l.c-iterator)) (l.now ∷ [])
      ≡ states_after_text page_machine (chars l.text) (l.fn.state ∷ []);
}
