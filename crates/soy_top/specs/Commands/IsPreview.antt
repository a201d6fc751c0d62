-- A text is what is shown by the words of a `preview` and the files that are held; or a preview ends at a call that
-- nests too deep; or it is refused.
--
-- The words ask to preview files and a bundle that are held and accepted. The template is a public one of kind html
-- that has its name, and the data give its parameters values. Where the meaning of the template under them isn't over
-- 1,048,576 bytes and ends whole, the text is that of its lines as they are seen in a context of the bundle's direction
-- (`IsPreview`); where it ends at a call, nothing is shown, and the line is that of the call (`IsStoppedPreview`). A
-- preview is refused with 29 where no template may be previewed under the name, else with 27 where the data are no
-- JSON, else with 28 where they give no values, and else with 33 where the meaning is longer, however it ends
-- (`IsRefusedPreview`).
-- Example: `b a` and a line feed are shown of `preview t.m d.json b.json t.soy` where t.soy has the body line `a {$x}`,
-- d.json is `{"x":"b"}` and b.json is a bundle from right to left.
use Rattle.std.specs.Prelude.{◌≡◌, ◌≤◌, ◌<◌, ℕ, List, [], Some, None, Ok, Err, length}
use Rattle.soy_pieces.specs.LanguageContext.{language_context}
use Rattle.msg_extract.specs.LanguageOf.{language_of}
use Rattle.serde_json.specs.Data.{Data}
use Rattle.soy_base.specs.declared.code.Code.TheVariants as code
use Rattle.soy_front.specs.FrontAnswer.{Front}
use Rattle.soy_io.specs.FileOf.{Files}
use Rattle.soy_pieces.specs.Meaning.{meaning}
use Rattle.soy_pieces.specs.Outcome.{StopsAt, WholeRun, end_of_outcome}
use Rattle.soy_pieces.specs.Site.{Site}
use Rattle.soy_top.specs.Commands.AcceptedRender.{AcceptedPreview}
use Rattle.soy_top.specs.Answer.{call_fault, shown_of, template_outcome}
use Rattle.soy_top.specs.Line.{entry_line, too_long_line}
use Rattle.soy_top.specs.Numbered.{numbered_line}
use Rattle.soy_top.specs.Pointer.{pointer_line}
use Rattle.soy_top.specs.SeenText.{seen_text, largest_shown}
use Rattle.soy_top.specs.Words.{Word}
use Rattle.soy_rules.specs.Templates.{Declared, declared}
use Rattle.soy_tree.specs.Values.{Value}
use Rattle.soy_tree.specs.ViewTrees.{view_trees}
use Rattle.soy_base.specs.Path.{Path}
use Rattle.soy_types.specs.ReadData.{data_at, json_of, values_at}
use Rattle.soy_pieces.specs.InputEnv.{input_env, names_of}

-- what a template of accepted files means under the values of its parameters
abbrev pub template_meaning : Front → Declared → Value → List ℕ
template_meaning of d v =
    meaning (language_context (language_of of.language) (declared (view_trees of.files.trees))) d
    (input_env (names_of d.template.params) v)

pub record IsPreview (files : Files) (words : List Word) (text : List ℕ) : Type 0 where
  pub preview : AcceptedPreview files words
  pub d : Declared
  pub v : Value
  pub shown : shown_of preview.of preview.template ≡ Some d
  pub reads : data_at d.template.params preview.json ≡ Ok v
  pub few : length (template_meaning preview.of d v) ≤ largest_shown
  pub whole : end_of_outcome (template_outcome preview.of d v) ≡ WholeRun
  pub text_is : text ≡ seen_text preview.of.language.dir (template_meaning preview.of d v)

pub record IsStoppedPreview (files : Files) (words : List Word) (line : List ℕ) : Type 0 where
  pub preview : AcceptedPreview files words
  pub d : Declared
  pub v : Value
  -- the call
  pub site : Site
  pub shown : shown_of preview.of preview.template ≡ Some d
  pub reads : data_at d.template.params preview.json ≡ Ok v
  pub few : length (template_meaning preview.of d v) ≤ largest_shown
  pub stops : end_of_outcome (template_outcome preview.of d v) ≡ StopsAt site
  pub line_is : line ≡ numbered_line preview.names preview.contents (call_fault site)

pub data IsRefusedPreview (files : Files) (words : List Word) (line : List ℕ) : Type 0 where
  NoTemplate : (p : AcceptedPreview files words) → shown_of p.of p.template ≡ None → line ≡ entry_line p.template
      → IsRefusedPreview files words line
  NoJson : (p : AcceptedPreview files words) (d : Declared) → shown_of p.of p.template ≡ Some d
      → json_of p.json ≡ None → line ≡ pointer_line p.json_name [] code.NotJson → IsRefusedPreview files words line
  NoValues : (p : AcceptedPreview files words) (d : Declared) (json : Data) (path : Path)
      → shown_of p.of p.template ≡ Some d → json_of p.json ≡ Some json
      → values_at d.template.params json ≡ Err path → line ≡ pointer_line p.json_name path code.DataType
      → IsRefusedPreview files words line
  TooLong : (p : AcceptedPreview files words) (d : Declared) (v : Value) → shown_of p.of p.template ≡ Some d
      → data_at d.template.params p.json ≡ Ok v → largest_shown < length (template_meaning p.of d v)
      → line ≡ too_long_line → IsRefusedPreview files words line
