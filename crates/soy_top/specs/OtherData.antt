-- Other data for the template of a page: under the name of each parameter a value of its type, in which no list has
-- more than 2^53 items, and the same choices as of the data that were read. Choices are the arms of conditions, the
-- turns of loops and the texts of messages (soy_meaning, Outcome). Whatever else the values hold is free.
-- Example: where `<b>{$x}</b>` was rendered with `{"x":"a"}`, the string `<script>` is other data; where the body is
-- `{if $x == 'a'}b{/if}`, it isn't, since it takes another arm.
use Rattle.std.specs.Prelude.{◌≡◌}
use Rattle.soy_pieces.specs.Outcome.{choices_of_outcome}
use Rattle.soy_top.specs.Rendered.{Rendered, page_outcome}
use Rattle.soy_rules.specs.ShortLists.{HasShortLists}
use Rattle.soy_tree.specs.Values.{Value}
use Rattle.soy_types.specs.ParamsHave.{ParamsHave}

pub record IsOtherData (page : Rendered) (other : Value) : Type 0 where
  pub have : ParamsHave page.entry.template.params other
  pub short : HasShortLists other
  pub choices : choices_of_outcome (page_outcome page page.input) ≡ choices_of_outcome (page_outcome page other)
