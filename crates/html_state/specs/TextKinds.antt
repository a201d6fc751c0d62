-- Elements and values by what their characters run.
--
-- Example: the text of a title runs no table, and that of a script runs the table of scripts.
use Rattle.std.specs.Prelude.{⊤}
use Rattle.html_state.specs.declared.row.AttributeValue.{AttributeValue}
use Rattle.html_state.specs.declared.row.AttributeValue.TheVariants as value
use Rattle.html_state.specs.declared.row.Element.{Element}
use Rattle.html_state.specs.declared.row.Element.TheVariants as element

-- RCDATA
abbrev pub IsRcdata : Element → Type 0
IsRcdata element.Title = ⊤
IsRcdata element.Textarea = ⊤
IsRcdata _ = ⊥

-- RAWTEXT but that of a style
abbrev pub IsPlainRawtext : Element → Type 0
IsPlainRawtext element.Xmp = ⊤
IsPlainRawtext element.Iframe = ⊤
IsPlainRawtext element.Noembed = ⊤
IsPlainRawtext element.Noframes = ⊤
IsPlainRawtext element.Noscript = ⊤
IsPlainRawtext _ = ⊥

-- a value that is neither a URI nor a style
abbrev pub RunsNothing : AttributeValue → Type 0
RunsNothing value.Event = ⊤
RunsNothing value.NoPrint = ⊤
RunsNothing value.Plain = ⊤
RunsNothing _ = ⊥
