-- What is demanded of declarations: the first pass over all files.
-- No template's full name, no parameter of a template and no field of a record is given twice (6), and html and
-- attributes stand alone or in a union with null only, and never inside a list, map or record (8). Of one parameter,
-- that its name is given twice goes before the faults of its type; those go from left to right, a union's own after
-- those of its members. Every fault is at the `{` of its command, one inside a parameter's type at the `{` of the
-- parameter's.
-- Example: `{@param a: list<html>}` fails with 8, and `{@param a: html|null|null}` doesn't.
use Rattle.std.specs.Prelude.{ℕ, Bool, true, false, not, ◌&&◌, nat_lt, List, [], ◌∷◌, filter, length, Option, Some}
use Rattle.std.specs.Prelude.{None, if◌then◌else◌}
use Rattle.std.specs.Option.{option_or}
use Rattle.soy_base.specs.declared.code.Code.TheVariants as code
use Rattle.soy_tree.specs.Types.{Name, SoyType, Members, FieldTypes, HtmlType, AttributesType, ListType, MapType}
use Rattle.soy_tree.specs.Types.{RecordType, UnionType, no_member, member, no_field, field}
use Rattle.soy_rules.specs.Members.{members, is_some_type, has_block}
use Rattle.soy_rules.specs.TypeText.{type_text}
use Rattle.soy_rules.specs.Faults.{TypeFault}
use Rattle.soy_tree.specs.Trees.{Param}
use Rattle.soy_rules.specs.Templates.{Declared, full_name}
use Rattle.soy_base.specs.Among.{is_among}

-- the fault of a name that is given again
abbrev pub twice : ℕ → Name → List Name → Option TypeFault
twice at name before =
    if is_among before name then Some (record { code = code.Twice; at = at; left = name; right = [] }) else None

-- the fault of a type that stands where html and attributes may not
abbrev pub misplaced : ℕ → SoyType → Bool → Option TypeFault
misplaced at t fails =
    if fails then Some (record { code = code.Mistyped; at = at; left = type_text t; right = [] }) else None

-- html or attributes beside another member than null
abbrev pub mixes_blocks : SoyType → Bool
mixes_blocks t = has_block t && nat_lt 1 (length (filter is_some_type (members t)))

abbrev mutual
  -- the first fault of a parameter's type; `alone` says that the type stands in no list, map or record
  pub type_fault : SoyType → ℕ → Bool → Option TypeFault
  type_fault HtmlType at alone = misplaced at HtmlType (not alone)
  type_fault AttributesType at alone = misplaced at AttributesType (not alone)
  type_fault (ListType t) at alone = type_fault t at false
  type_fault (MapType t) at alone = type_fault t at false
  type_fault (RecordType fields) at alone = fields_fault fields at []
  type_fault (UnionType ts) at alone =
      option_or (members_fault ts at alone) (misplaced at (UnionType ts) (mixes_blocks (UnionType ts)))
  type_fault _ at alone = None

  pub members_fault : Members → ℕ → Bool → Option TypeFault
  members_fault no_member at alone = None
  members_fault (member t ts) at alone = option_or (type_fault t at alone) (members_fault ts at alone)

  pub fields_fault : FieldTypes → ℕ → List Name → Option TypeFault
  fields_fault no_field at before = None
  fields_fault (field name t fields) at before =
      option_or (twice at name before) (option_or (type_fault t at false) (fields_fault fields at (name ∷ before)))

abbrev pub params_fault : List Param → List Name → Option TypeFault
params_fault [] before = None
params_fault (p ∷ ps) before =
    option_or (twice p.span.start p.name before)
    (option_or (type_fault p.of p.span.start true) (params_fault ps (p.name ∷ before)))

-- the first fault of a template's declaration, after templates of these full names
abbrev pub declaration_fault : Declared → List Name → Option TypeFault
declaration_fault d before =
    option_or (twice d.template.span.start (full_name d) before) (params_fault d.template.params [])
