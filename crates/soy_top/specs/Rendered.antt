-- The page that the words of a `render` give, where they give one: the names and the contents of the template files,
-- what these and the bundle are accepted as, the template, and the data that are read for its parameters.
--
-- It goes the way of the answer, case by case. So there is none where the words ask for anything else, where a file
-- isn't held or is over its limit, and where the files, the bundle, the template's name or the data are refused; and
-- there is one exactly where the answer to a `render` is a text, whole or up to a call that nests too deep.
-- Example: of `render t.m d.json - t.soy` where t.soy has the template `t.m` of `{@param x: string}`, and d.json is
-- `{"x":"a"}`, it is `t.m` with the record of `x` "a".
use Rattle.std.specs.Prelude.{ℕ, List, length, Option, None, Some, Result, Ok, Err, String, option_and_then}
use Rattle.soy_base.specs.Piece.{Piece}
use Rattle.soy_base.specs.declared.code.Code.{Code}
use Rattle.soy_base.specs.declared.path.PathStep.{PathStep}
use Rattle.soy_front.specs.FrontAnswer.{Front, front_answer}
use Rattle.soy_front.specs.declared.fault.FrontFault.{FrontFault}
use Rattle.soy_io.specs.FileOf.{Files}
use Rattle.soy_pieces.specs.Outcome.{Outcome, pieces_of_outcome}
use Rattle.soy_top.specs.Answer.{Answer, ended_page, entry_of, page_answer, run_text, template_outcome}
use Rattle.soy_top.specs.Asked.{Asked, Render, Check, Extract, Gen, Play, Preview, Format, asked_by_words}
use Rattle.soy_top.specs.Asked.{source_files}
use Rattle.soy_top.specs.FilesWanted.{FileWanted, asked_files, contents, first_not_held, first_over_limit, known_files}
use Rattle.soy_top.specs.FilesWanted.{wanted_files}
use Rattle.soy_top.specs.Inputs.{bundle_content, but_last, last}
use Rattle.soy_top.specs.Numbered.{numbered}
use Rattle.soy_top.specs.Words.{Word, command_words}
use Rattle.soy_rules.specs.Templates.{Declared}
use Rattle.soy_tree.specs.Values.{Value}
use Rattle.soy_types.specs.ReadData.{data_at}

pub record Rendered : Type 0 where
  -- of the template files
  pub names : List Word
  pub contents : List (List ℕ)
  -- what they and the bundle are accepted as
  pub accepted : Front
  -- the template
  pub entry : Declared
  -- the data that are read
  pub input : Value

abbrev pub rendered_data : List Word → List (List ℕ) → Front → Declared → Result Value (Code × List PathStep)
    → Option Rendered
rendered_data names files of d (Ok v) =
    Some (record { names = names; contents = files; accepted = of; entry = d; input = v })
rendered_data names files of d (Err fault) = None

abbrev pub rendered_entry : List Word → List (List ℕ) → List ℕ → Front → Option Declared → Option Rendered
rendered_entry names files json of None = None
rendered_entry names files json of (Some d) = rendered_data names files of d (data_at d.template.params json)

abbrev pub rendered_front : List Word → List (List ℕ) → Word → List ℕ → Result Front FrontFault → Option Rendered
rendered_front names files template json (Ok of) = rendered_entry names files json of (entry_of of template)
rendered_front names files template json (Err fault) = None

abbrev pub rendered_inputs : Asked → List (List ℕ) → List (List ℕ) → Option Rendered
rendered_inputs (Render template json_name bundle names) before files =
    rendered_front names files template (numbered 0 before) (front_answer files (bundle_content bundle 1 before))
rendered_inputs (Check bundle names) before files = None
rendered_inputs (Extract names) before files = None
rendered_inputs (Gen number) before files = None
rendered_inputs (Play script first second names) before files = None
rendered_inputs (Preview template json_name bundle names) before files = None
rendered_inputs (Format name) before files = None

abbrev pub rendered_contents : Asked → List (List ℕ) → Option Rendered
rendered_contents asked contents =
    let n : ℕ = length (source_files asked) in rendered_inputs asked (but_last n contents) (last n contents)

-- a page, unless this file stands in its way
abbrev pub unless_file : Option Word → Option Rendered → Option Rendered
unless_file None page = page
unless_file (Some file) page = None

abbrev pub rendered_files : Files → Asked → List FileWanted → Option Rendered
rendered_files files asked wanted =
    unless_file (first_not_held files wanted)
    (unless_file (first_over_limit files wanted) (rendered_contents asked (contents files wanted)))

abbrev pub rendered_asked : Files → Asked → Option Rendered
rendered_asked files asked = rendered_files files asked (asked_files asked)

abbrev pub rendered_words : Files → List Word → Option Rendered
rendered_words files words = option_and_then (rendered_asked files) (asked_by_words words)

-- the page, where the files that the words want are known
abbrev pub known_rendered : Option Files → List Word → Option Rendered
known_rendered held words =
    option_and_then (λ files. rendered_words files words) (known_files held (wanted_files words))

-- **the same for the words of a call**
abbrev pub rendered : {A : Type 0} → Option Files → List (String A) → Option Rendered
rendered held words = known_rendered held (command_words words)

-- what its template gives under values of its parameters, these or others
abbrev pub page_outcome : Rendered → Value → Outcome
page_outcome page v = template_outcome page.accepted page.entry v

abbrev pub page_pieces : Rendered → Value → List Piece
page_pieces page v = pieces_of_outcome (page_outcome page v)

-- the bytes of the page, whole or up to a call that nests too deep
abbrev pub page_text : Rendered → List ℕ
page_text page = run_text (page_outcome page page.input)

-- the answer that it is
abbrev pub rendered_answer : Rendered → Answer
rendered_answer page = page_answer (ended_page page.names page.contents) (page_outcome page page.input)
