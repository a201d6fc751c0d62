-- Canonical source: how the tree of a file is written.
-- After `{namespace N}` on a line of its own there stand for each template, in the order of the tree, an empty line and
-- these lines: `{template NAME}`, with ` kind="K"` where K isn't html and then ` visibility="private"` where it is
-- private; `{@param NAME: TYPE}` for each parameter, with a `?` after `@param` where it isn't required; the body, left
-- out where it is empty; and `{/template}`. Each line ends in LF.
-- Example: the file of a template `m` with the body `a` has the lines `{namespace t}`, an empty one, `{template m}`,
-- `a` and `{/template}`.
use Rattle.std.specs.Prelude.{ℕ, Bool, List, [], ◌∷◌, ◌++◌, codes, if◌then◌else◌}
use Rattle.soy_base.specs.Characters.{line_feed}
use Rattle.soy_base.specs.declared.kind.Kind.{Kind}
use Rattle.soy_base.specs.declared.kind.Kind.TheVariants as kind
use Rattle.soy_tree.specs.Types.{Name}
use Rattle.soy_rules.specs.TypeText.{type_text}
use Rattle.soy_tree.specs.Trees.{Param, Template, Tree}
use Rattle.soy_format.specs.FormattedBody.{attribute_text, kind_text, formatted_nodes}
use Rattle.soy_format.specs.FormattedText.{body_line}

abbrev pub template_kind_text : Kind → List ℕ
template_kind_text kind.Html = []
template_kind_text k = kind_text k

abbrev pub visibility_text : Bool → List ℕ
visibility_text private = if private then attribute_text (codes "visibility") (codes "private") else []

abbrev pub template_line : Name → Kind → Bool → List ℕ
template_line name k private =
    codes "{template " ++ (name ++ (template_kind_text k ++ (visibility_text private ++ codes "}\n")))

abbrev pub param_start : Bool → List ℕ
param_start required = if required then codes "{@param " else codes "{@param? "

abbrev pub param_line : Param → List ℕ
param_line p = param_start p.required ++ (p.name ++ (codes ": " ++ (type_text p.of ++ codes "}\n")))

abbrev pub param_lines : List Param → List ℕ
param_lines [] = []
param_lines (p ∷ ps) = param_line p ++ param_lines ps

abbrev pub formatted_template : Template → List ℕ
formatted_template t =
    template_line t.name t.kind t.private
    ++ (param_lines t.params ++ (body_line (formatted_nodes t.body) ++ codes "{/template}\n"))

-- templates, each after an empty line
abbrev pub formatted_templates : List Template → List ℕ
formatted_templates [] = []
formatted_templates (t ∷ ts) = line_feed ∷ (formatted_template t ++ formatted_templates ts)

abbrev pub formatted_tree : Tree → List ℕ
formatted_tree t = codes "{namespace " ++ (t.namespace ++ (codes "}\n" ++ formatted_templates t.templates))
