-- The tokens of a page: tags with their attributes, comments and DOCTYPEs, text, and runs of scripts and styles.
--
-- A value is one item of what it stands in: of an attribute's value, or of a text. Names are in lower case, as the
-- tokenizer has them. A run of a script or a style is a longest stretch that stands in one state of its table. (WHATWG
-- HTML, 13.2.5.)
-- Example: `<b title="` with a value and `">` is the start tag `b` with the attribute `title`, which holds one item.
use Rattle.std.specs.Prelude.{ℕ, List}
use Rattle.script_state.specs.declared.css_state.CssState.{CssState}
use Rattle.script_state.specs.declared.js_state.JsState.{JsState}
use Rattle.html_state.specs.declared.row.TagKind.{TagKind}
use Rattle.stable_html.specs.Roles.{PageItem}

pub record Attribute : Type 0 where
  pub name : List ℕ
  pub value : List PageItem

pub data Token : Type 0 where
  -- a start or an end tag, its name and its attributes
  TagToken : TagKind → List ℕ → List Attribute → Token
  Comment : List ℕ → Token
  Doctype : List ℕ → Token
  -- of data, `title` and `textarea`
  TextToken : List PageItem → Token
  -- of the RAWTEXT elements but `style`
  RawText : List PageItem → Token
  ScriptRun : JsState → List PageItem → Token
  StyleRun : CssState → List PageItem → Token
  -- what may become an end tag of the element it stands in, or a comment or a DOCTYPE
  Undecided : List ℕ → Token
