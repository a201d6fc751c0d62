-- A page keeps its markup whatever its values hold: any other data with the same choices give the same static texts
-- with values at the same points, the same tokenizer state before each static character and each value, and the same
-- shape, which is the tags, attribute names, comments, texts and the tokens of scripts and styles, with each value
-- taken whole. Of both pages each inner character of a value has the role of its place (InnerRoles of stable_html).
-- Both end whole, or at the same call.
-- Example: of `<b>{$x}</b>` with "a" the shape is that of `<b>{$x}</b>` with "<script>".
use Rattle.std.specs.Prelude.{◌≡◌}
use Rattle.html_state.specs.Start.{start}
use Rattle.soy_pieces.specs.Outcome.{end_of_outcome}
use Rattle.soy_top.specs.OtherData.{IsOtherData}
use Rattle.soy_top.specs.Rendered.{Rendered, page_outcome, page_pieces}
use Rattle.soy_tree.specs.Values.{Value}
use Rattle.stable_html.specs.InnerRoles.{AllInnerRoles}
use Rattle.stable_html.specs.SameMarkup.{SameMarkup}

pub record KeepsMarkup (page : Rendered) (other : Value) : Type 0 where
  pub same : SameMarkup (start page.entry.template.kind) (page_pieces page page.input) (page_pieces page other)
  pub inner_roles : AllInnerRoles page.accepted.language.dir (start page.entry.template.kind)
      (page_pieces page page.input)
  pub other_inner_roles : AllInnerRoles page.accepted.language.dir (start page.entry.template.kind)
      (page_pieces page other)
  pub ends : end_of_outcome (page_outcome page page.input) ≡ end_of_outcome (page_outcome page other)

abbrev pub MarkupIsKept : Rendered → Type 0
MarkupIsKept page = (other : Value) → IsOtherData page other → KeepsMarkup page other
