-- The reply to a call that opens a page, and what it fills its slot with.
--
-- The name is UTF-8 (7), the data are at most 4 MiB long, a template may be rendered under the name, and the data give
-- its parameters values: or the reply is the first of these that isn't so, with the line of a `render` whose data have
-- the name `data`. Otherwise the slot is filled with a page that has all still to give that a `render` gives.
-- Example: under a name that no template has the line is `t.zz: 29 Entry`.
use Rattle.std.specs.Prelude.{◌≡◌, ℕ, List, [], length, nat_lt, Option, None, Some, Result, Ok, Err, codes}
use Rattle.std.specs.Prelude.{if◌then◌else◌}
use Rattle.std.specs.Str.{is_utf8}
use Rattle.soy_base.specs.declared.code.Code.{Code}
use Rattle.soy_base.specs.declared.code.Code.TheVariants as code
use Rattle.soy_base.specs.declared.path.PathStep.{PathStep}
use Rattle.soy_front.specs.Compiled.{AreCompiled}
use Rattle.soy_front.specs.FrontAnswer.{Front}
use Rattle.soy_page.specs.PageRest.{bytes_left, end_left}
use Rattle.soy_page.specs.PageState.{PageState}
use Rattle.soy_page.specs.declared.templates.Templates.{Templates}
use Rattle.soy_pieces.specs.Outcome.{end_of_outcome}
use Rattle.soy_rules.specs.Templates.{Declared}
use Rattle.soy_top.specs.Answer.{entry_of}
use Rattle.soy_top.specs.Line.{entry_line, too_large_line}
use Rattle.soy_top.specs.Pointer.{pointer, pointer_line}
use Rattle.soy_top.specs.Rendered.{Rendered, page_outcome, page_text, rendered_entry}
use Rattle.soy_tree.specs.Values.{Value}
use Rattle.soy_types.specs.ReadData.{data_at}
use Rattle.soyc_c.specs.Compiling.{refused}
use Rattle.soyc_c.specs.FaultNumbers.{numbers_elsewhere}
use Rattle.soyc_c.specs.FaultParts.{Absent, Has}
use Rattle.soyc_c.specs.SlotReply.{Replies, SlotReply, bare}
use Rattle.soyc_c.specs.TemplateFiles.{file_contents, file_names}
use Rattle.soyc_c.specs.declared.unfilled.Unfilled.{Unfilled}

-- by what the data are read as
abbrev pub data_reply : Result Value (Code × List PathStep) → SlotReply
data_reply (Ok v) = bare 0
data_reply (Err fault) =
    refused (pointer_line (codes "data") fault.1 fault.0) fault.0 (Has (pointer fault.1)) (numbers_elsewhere 4 fault.0)

-- by the template that has the name, if there is one
abbrev pub entry_reply : List ℕ → List ℕ → Option Declared → SlotReply
entry_reply name json None = refused (entry_line name) code.Entry Absent (numbers_elsewhere 3 code.Entry)
entry_reply name json (Some d) = data_reply (data_at d.template.params json)

abbrev pub named_reply : Front → List ℕ → List ℕ → SlotReply
named_reply of name json =
    if nat_lt 4194304 (length json)
    then refused (too_large_line (codes "data")) code.TooLarge Absent (numbers_elsewhere 4 code.TooLarge)
    else entry_reply name json (entry_of of name)

-- **the reply, where the templates are those of what files and a bundle are accepted as, and the page is empty**
abbrev pub open_reply : Front → List ℕ → List ℕ → SlotReply
open_reply of name json = if is_utf8 name then named_reply of name json else bare 7

-- ---- the page

-- the page that is asked for, if there is one
abbrev pub entry_page : Templates → Front → List ℕ → List ℕ → Option Rendered
entry_page templates of name json =
    rendered_entry (file_names templates) (file_contents templates) json of (entry_of of name)

abbrev pub named_page : Templates → Front → List ℕ → List ℕ → Option Rendered
named_page templates of name json =
    if nat_lt 4194304 (length json) then None else entry_page templates of name json

abbrev pub asked_page : Templates → Front → List ℕ → List ℕ → Option Rendered
asked_page templates of name json = if is_utf8 name then named_page templates of name json else None

-- **what the slot is filled with**: a page that shares the templates, and has all bytes and the end still to give of
-- the page that is asked for
pub record IsOpened (templates : Templates) (asked : Option Rendered) (page : PageState) : Type 0 where
  pub shares : page.templates ≡ templates
  pub of : Rendered
  pub is_asked : asked ≡ Some of
  pub bytes : bytes_left page ≡ page_text of
  pub end : end_left page ≡ end_of_outcome (page_outcome of of.input)

-- what is opened by files and a bundle that were accepted as something: a page, and then the reply is that all is well;
-- or why there is none
abbrev pub OpensAs : Templates → SlotReply → Option Rendered → Result PageState Unfilled → Type 0
OpensAs templates reply asked (Ok page) = (reply ≡ bare 0) × IsOpened templates asked page
OpensAs templates reply asked (Err answer) = Replies reply answer

-- the same whatever the files and the bundle were that the templates were compiled of
abbrev pub OpensOf : Templates → (Front → SlotReply) → (Front → Option Rendered) → Result PageState Unfilled → Type 0
OpensOf templates reply asked result =
    (content : Option (List ℕ)) (are : AreCompiled (file_contents templates) content templates.compiled)
    → OpensAs templates (reply are.of) (asked are.of) result
