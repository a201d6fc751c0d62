-- A text is the page of the words and of the files that are held, whole or up to a call that nests too deep; or a page
-- is refused.
--
-- The words ask to render files and a bundle that are held and accepted. The template is one that may be rendered
-- under its name, the data give its parameters values, and the text is the meaning of the template under them, which
-- ends whole (`IsPage`); or it is the meaning up to a call, with the line of that call (`IsStoppedPage`). A page is
-- refused with 29 where no template may be rendered under the name, else with 27 where the data are no JSON, and else
-- with 28, at the path to the first part that doesn't fit, where they give no values (`IsRefusedPage`).
-- Example: `<b><span dir="ltr">&lt;i&gt;</span></b>` is the page of `render t.m d.json - t.soy` where t.soy has the
-- body line `<b>{$x}</b>` and d.json is `{"x":"<i>"}`.
use Rattle.std.specs.Prelude.{◌≡◌, ℕ, List, [], Some, None, Ok, Err}
use Rattle.msg_extract.specs.LanguageOf.{language_of}
use Rattle.serde_json.specs.Data.{Data}
use Rattle.soy_base.specs.declared.code.Code.TheVariants as code
use Rattle.soy_io.specs.FileOf.{Files}
use Rattle.soy_pieces.specs.Meaning.{meaning}
use Rattle.soy_pieces.specs.Outcome.{StopsAt, WholeRun, end_of_outcome}
use Rattle.soy_pieces.specs.Site.{Site}
use Rattle.soy_top.specs.Commands.AcceptedRender.{AcceptedRender}
use Rattle.soy_top.specs.Answer.{call_fault, entry_of, template_outcome}
use Rattle.soy_top.specs.Line.{entry_line}
use Rattle.soy_top.specs.Numbered.{numbered_line}
use Rattle.soy_top.specs.Pointer.{pointer_line}
use Rattle.soy_top.specs.Words.{Word}
use Rattle.soy_rules.specs.Templates.{Declared, declared}
use Rattle.soy_tree.specs.Values.{Value}
use Rattle.soy_tree.specs.ViewTrees.{view_trees}
use Rattle.soy_base.specs.Path.{Path}
use Rattle.soy_types.specs.ReadData.{data_at, json_of, values_at}
use Rattle.soy_pieces.specs.LanguageContext.{language_context}
use Rattle.soy_pieces.specs.InputEnv.{input_env, names_of}

pub record IsPage (files : Files) (words : List Word) (text : List ℕ) : Type 0 where
  pub render : AcceptedRender files words
  pub d : Declared
  pub v : Value
  pub entry : entry_of render.of render.template ≡ Some d
  pub reads : data_at d.template.params render.json ≡ Ok v
  pub whole : end_of_outcome (template_outcome render.of d v) ≡ WholeRun
  pub text_is : text ≡ meaning
      (language_context (language_of render.of.language) (declared (view_trees render.of.files.trees))) d
      (input_env (names_of d.template.params) v)

pub record IsStoppedPage (files : Files) (words : List Word) (text line : List ℕ) : Type 0 where
  pub render : AcceptedRender files words
  pub d : Declared
  pub v : Value
  -- the call
  pub site : Site
  pub entry : entry_of render.of render.template ≡ Some d
  pub reads : data_at d.template.params render.json ≡ Ok v
  pub stops : end_of_outcome (template_outcome render.of d v) ≡ StopsAt site
  pub text_is : text ≡ meaning
      (language_context (language_of render.of.language) (declared (view_trees render.of.files.trees))) d
      (input_env (names_of d.template.params) v)
  pub line_is : line ≡ numbered_line render.names render.contents (call_fault site)

pub data IsRefusedPage (files : Files) (words : List Word) (line : List ℕ) : Type 0 where
  NoTemplate : (r : AcceptedRender files words) → entry_of r.of r.template ≡ None → line ≡ entry_line r.template
      → IsRefusedPage files words line
  NoJson : (r : AcceptedRender files words) (d : Declared) → entry_of r.of r.template ≡ Some d
      → json_of r.json ≡ None → line ≡ pointer_line r.json_name [] code.NotJson → IsRefusedPage files words line
  NoValues : (r : AcceptedRender files words) (d : Declared) (json : Data) (path : Path)
      → entry_of r.of r.template ≡ Some d → json_of r.json ≡ Some json
      → values_at d.template.params json ≡ Err path → line ≡ pointer_line r.json_name path code.DataType
      → IsRefusedPage files words line
