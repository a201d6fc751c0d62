-- What opening a page answers, by the name of a template and its data.
--
-- A page that has begun, of the template that may be rendered under the name and of what the data are read as for its
-- parameters; that there is no such template; or why the data give its parameters no values. Memory may run out
-- instead.
-- Example: under a name that no template has, it answers Entry, whatever the data are.
use Rattle.std.specs.Prelude.{◌≡◌, ℕ, List, None, Some, Result, Ok, Err}
use Rattle.std.specs.List.{position}
use Rattle.std.specs.Str.{chars}
use Rattle.soy_base.specs.declared.code.Code.{Code}
use Rattle.soy_base.specs.declared.memory.Refusal.{Refusal}
use Rattle.soy_base.specs.declared.memory.Refusal.TheVariants.{Because, OutOfMemory}
use Rattle.soy_base.specs.declared.path.PathStep.{PathStep}
use Rattle.soy_front.specs.Entries.{is_entry_routine}
use Rattle.soy_rules.specs.ShortLists.{HasShortLists}
use Rattle.soy_rules.specs.Typed.{params_at, templates_of}
use Rattle.soy_tree.specs.Values as values
use Rattle.soy_tree.specs.ViewTrees.{view_params}
use Rattle.soy_tree.specs.ViewValues.{view_value}
use Rattle.soy_tree.specs.declared.value.Value.{Value}
use Rattle.soy_types.specs.ReadData.{data_at}
use Rattle.soy_page.specs.Begun.{HasBegun}
use Rattle.soy_page.specs.declared.fault.PageFault.{PageFault}
use Rattle.soy_page.specs.declared.fault.PageFault.TheVariants as fault
use Rattle.soy_page.specs.PageState.{PageState}
use Rattle.soy_page.specs.declared.templates.Templates.{Templates}

-- what the data are read as for the parameters of the template of a number
abbrev pub data_for : Templates → ℕ → List ℕ → Result values.Value (Code × List PathStep)
data_for templates number json = data_at (view_params (params_at number (templates_of templates.compiled.typed))) json

-- the page of the template of a number
pub record OpenedAt (templates : Templates) (number : ℕ) (json : List ℕ) (page : PageState) : Type 0 where
  pub input : Value
  pub begun : HasBegun templates number input page
  pub reads : data_for templates number json ≡ Ok (view_value input)
  pub short : HasShortLists (view_value input)

abbrev pub OpensAt : Templates → ℕ → List ℕ → Result PageState (Refusal PageFault) → Type 0
OpensAt templates number json (Ok page) = OpenedAt templates number json page
OpensAt templates number json (Err (Because fault.Entry)) = ⊥
OpensAt templates number json (Err (Because (fault.Data fault))) =
    data_for templates number json ≡ Err (fault.code, fault.path)
OpensAt templates number json (Err OutOfMemory) = Unit {0}

-- the template that may be rendered under the name has this number in the program
abbrev pub IsNamed : Templates → List ℕ → ℕ → Type 0
IsNamed templates name number =
    position (is_entry_routine (chars name)) templates.compiled.program.templates ≡ Some number

-- **a page is opened by the name of its template**
abbrev pub OpensPage : Templates → List ℕ → List ℕ → Result PageState (Refusal PageFault) → Type 0
OpensPage templates name json (Ok page) =
    (number : ℕ) × IsNamed templates name number × OpenedAt templates number json page
OpensPage templates name json (Err (Because fault.Entry)) =
    position (is_entry_routine (chars name)) templates.compiled.program.templates ≡ None
OpensPage templates name json (Err (Because (fault.Data fault))) =
    (number : ℕ) × IsNamed templates name number × (data_for templates number json ≡ Err (fault.code, fault.path))
OpensPage templates name json (Err OutOfMemory) = Unit {0}
