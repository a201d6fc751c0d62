-- What is demanded of declarations reads no more of spans than where a fault is.
use Rattle.std.proofs.Common.{◌≡◌, ℕ, Bool, true, false, List, [], ◌∷◌, map, Some, None, refl}
use Rattle.std.specs.Prelude.{option_map, not}
use Rattle.std.specs.Option.{option_or}
use Rattle.soy_base.specs.declared.code.Code.TheVariants as code
use Rattle.soy_tree.specs.Types.{Name, SoyType, Members, FieldTypes, HtmlType, AttributesType, ListType, MapType}
use Rattle.soy_tree.specs.Types.{RecordType, UnionType, no_member, member, no_field, field}
use Rattle.soy_rules.specs.TypeText.{type_text}
use Rattle.soy_rules.specs.Declarations.{declaration_fault, fields_fault, members_fault, misplaced, mixes_blocks}
use Rattle.soy_rules.specs.Declarations.{params_fault, twice, type_fault}
use Rattle.soy_base.specs.Among.{is_among}
use Rattle.soy_rules.specs.Templates.{Declared, full_name}
use Rattle.soy_tree.specs.Trees.{Param}
use Rattle.soy_format.specs.WithoutSpans.{param_without_spans}
use Rattle.alike_files.proofs.DeclaredTemplates.{declared_without_spans}
use Rattle.alike_files.proofs.ExpressionValues.{through_if}
use Rattle.alike_files.proofs.Faults.{fault_placeless, first_same}

twice_same : (at : ℕ) (name : Name) (before : List Name)
    → twice 0 name before ≡ option_map fault_placeless (twice at name before)
twice_same at name before =
    through_if (option_map fault_placeless) (is_among before name)
    (Some (record { code = code.Twice; at = at; left = name; right = [] })) None

misplaced_same : (at : ℕ) (t : SoyType) (fails : Bool)
    → misplaced 0 t fails ≡ option_map fault_placeless (misplaced at t fails)
misplaced_same at t fails =
    through_if (option_map fault_placeless) fails
    (Some (record { code = code.Mistyped; at = at; left = type_text t; right = [] })) None

mutual
  type_fault_same : (t : SoyType) (at : ℕ) (alone : Bool)
      → type_fault t 0 alone ≡ option_map fault_placeless (type_fault t at alone)
  type_fault_same HtmlType at alone = misplaced_same at HtmlType (not alone)
  type_fault_same AttributesType at alone = misplaced_same at AttributesType (not alone)
  type_fault_same (ListType t) at alone = type_fault_same t at false
  type_fault_same (MapType t) at alone = type_fault_same t at false
  type_fault_same (RecordType fields) at alone = fields_fault_same fields at []
  type_fault_same (UnionType ts) at alone =
      first_same fault_placeless (members_fault ts at alone) _
      (misplaced at (UnionType ts) (mixes_blocks (UnionType ts))) _ (members_fault_same ts at alone)
      (misplaced_same at (UnionType ts) (mixes_blocks (UnionType ts)))
  type_fault_same _ at alone = refl

  members_fault_same : (ts : Members) (at : ℕ) (alone : Bool)
      → members_fault ts 0 alone ≡ option_map fault_placeless (members_fault ts at alone)
  members_fault_same no_member at alone = refl
  members_fault_same (member t ts) at alone =
      first_same fault_placeless (type_fault t at alone) _ (members_fault ts at alone) _ (type_fault_same t at alone)
      (members_fault_same ts at alone)

  fields_fault_same : (fields : FieldTypes) (at : ℕ) (before : List Name)
      → fields_fault fields 0 before ≡ option_map fault_placeless (fields_fault fields at before)
  fields_fault_same no_field at before = refl
  fields_fault_same (field name t fields) at before =
      first_same fault_placeless (twice at name before) _
      (option_or (type_fault t at false) (fields_fault fields at (name ∷ before))) _ (twice_same at name before)
      (first_same fault_placeless (type_fault t at false) _ (fields_fault fields at (name ∷ before)) _
      (type_fault_same t at false) (fields_fault_same fields at (name ∷ before)))

params_fault_same : (ps : List Param) (before : List Name)
    → params_fault (map param_without_spans ps) before ≡ option_map fault_placeless (params_fault ps before)
params_fault_same [] before = refl
params_fault_same (p ∷ ps) before =
    first_same fault_placeless (twice p.span.start p.name before) _
    (option_or (type_fault p.of p.span.start true) (params_fault ps (p.name ∷ before))) _
    (twice_same p.span.start p.name before)
    (first_same fault_placeless (type_fault p.of p.span.start true) _ (params_fault ps (p.name ∷ before)) _
    (type_fault_same p.of p.span.start true) (params_fault_same ps (p.name ∷ before)))

-- **of a template's declaration**
pub declaration_same : (d : Declared) (before : List Name)
    → declaration_fault (declared_without_spans d) before ≡ option_map fault_placeless (declaration_fault d before)
declaration_same d before =
    first_same fault_placeless (twice d.template.span.start (full_name d) before) _
    (params_fault d.template.params []) _ (twice_same d.template.span.start (full_name d) before)
    (params_fault_same d.template.params [])
