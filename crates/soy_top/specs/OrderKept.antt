-- An html page keeps its visual order whatever its values hold: any other data with the same choices give as many
-- lines, and on each line that nests within the limit the same order of the characters around the values, and of the
-- values as wholes among them (UAX #9). So it is in a context of either direction. Both pages end whole, or at the same
-- call.
-- Example: of `<p>a {$x} b</p>` with Latin text and with Hebrew text, `a`, the value and `b` stand in the same order.
use Rattle.std.specs.Prelude.{◌≡◌, List}
use Rattle.bidi_order.specs.Lines.{Line, lines}
use Rattle.soy_base.specs.declared.direction.Dir.{Dir}
use Rattle.soy_base.specs.declared.kind.Kind.TheVariants as kind
use Rattle.soy_pieces.specs.Outcome.{end_of_outcome}
use Rattle.soy_top.specs.OtherData.{IsOtherData}
use Rattle.soy_top.specs.Rendered.{Rendered, page_outcome, page_pieces}
use Rattle.soy_tree.specs.Values.{Value}
use Rattle.stable_bidi.specs.SameVisualOrder.{SameVisualOrder}

-- the lines of a page in a context of a direction
abbrev pub page_lines : Dir → Rendered → Value → List Line
page_lines context page v = lines context (page_pieces page v)

pub record KeepsOrder (page : Rendered) (other : Value) : Type 0 where
  pub same : (context : Dir) → SameVisualOrder (page_lines context page page.input) (page_lines context page other)
  pub ends : end_of_outcome (page_outcome page page.input) ≡ end_of_outcome (page_outcome page other)

abbrev pub OrderIsKept : Rendered → Type 0
OrderIsKept page =
    page.entry.template.kind ≡ kind.Html → (other : Value) → IsOtherData page other → KeepsOrder page other
