-- What the selectors of a typed message are: ints of its plurals, strings of its selects.
use Rattle.std.proofs.Common.{Bool, true, false, List, [], ◌∷◌, ◌++◌, Option, Some, None, if◌then◌else◌}
use Rattle.std.specs.Prelude.{bytes_eq}
use Rattle.std.specs.Option.{option_or}
use Rattle.soy_rules.specs.Bodies.{Around}
use Rattle.soy_tree.specs.Expressions.{Expr}
use Rattle.soy_tree.specs.MessageText.{Cut, TextCut, PrintCut, TagCut, cuts_of, message_items}
use Rattle.soy_tree.specs.Nodes.{Message, MessageBody, PluralCases, SelectCases, message, Parts, Plural, Select}
use Rattle.soy_tree.specs.Nodes.{no_plural_case, plural_case, no_select_case, select_case}
use Rattle.soy_rules.specs.Placeholders.{Role, AsPlaceholder, AsPlural, AsSelect, Use, body_uses, cut_uses, found_uses}
use Rattle.soy_rules.specs.Placeholders.{name_of, plural_uses, select_uses}
use Rattle.soy_tree.specs.Types.{Name, SoyType}
use Rattle.soy_rules.specs.TypeOf.{Scope, is_int, is_string}
use Rattle.soy_pieces.specs.Branch.{selector, selector_of_role}
use Rattle.soy_rules.specs.Placeholders.{uses_of}
use Rattle.template_ir.proofs.Demands.{BodyDemands, HasTypeOf, MessageDemands, PluralDemands, SelectDemands}

abbrev RoleSelects : Role → Scope → Type 0
RoleSelects (AsPlaceholder cut) scope = Unit {0}
RoleSelects (AsPlural e) scope = HasTypeOf is_int e scope
RoleSelects (AsSelect e) scope = HasTypeOf is_string e scope

abbrev pub UsesSelect : List Use → Scope → Type 0
UsesSelect [] scope = Unit {0}
UsesSelect (u ∷ uses) scope = RoleSelects u.role scope × UsesSelect uses scope

abbrev pub selector_test : Bool → SoyType → Bool
selector_test true = is_int
selector_test false = is_string

abbrev pub IsSelector : Bool → Option Expr → Scope → Type 0
IsSelector of_plural None scope = Unit {0}
IsSelector of_plural (Some e) scope = HasTypeOf (selector_test of_plural) e scope

role_selects : (of_plural : Bool) (role : Role) (scope : Scope) → RoleSelects role scope
    → IsSelector of_plural (selector_of_role of_plural role) scope
role_selects of_plural (AsPlaceholder cut) scope h = tt
role_selects true (AsPlural e) scope h = h
role_selects false (AsPlural e) scope h = tt
role_selects true (AsSelect e) scope h = tt
role_selects false (AsSelect e) scope h = h

first_selects : (of_plural : Bool) (one other : Option Expr) (scope : Scope) → IsSelector of_plural one scope
    → IsSelector of_plural other scope → IsSelector of_plural (option_or one other) scope
first_selects of_plural None other scope h k = k
first_selects of_plural (Some e) other scope h k = h

selects_if : (test of_plural : Bool) (one other : Option Expr) (scope : Scope) → IsSelector of_plural one scope
    → IsSelector of_plural other scope → IsSelector of_plural (if test then one else other) scope
selects_if true of_plural one other scope h k = h
selects_if false of_plural one other scope h k = k

pub selector_typed : (of_plural : Bool) (name : Name) (all uses : List Use) (scope : Scope) → UsesSelect uses scope
    → IsSelector of_plural (selector of_plural name all uses) scope
selector_typed of_plural name all [] scope h = tt
selector_typed of_plural name all (u ∷ uses) scope h =
    let rest = selector_typed of_plural name all uses scope h.1 in
    selects_if (bytes_eq (name_of all u.base u.content) name) of_plural
    (option_or (selector_of_role of_plural u.role) (selector of_plural name all uses))
    (selector of_plural name all uses) scope
    (first_selects of_plural (selector_of_role of_plural u.role) (selector of_plural name all uses) scope
    (role_selects of_plural u.role scope h.0) rest) rest

-- ---- the uses of a message

cuts_select : (cuts : List Cut) (scope : Scope) → UsesSelect (cut_uses cuts) scope
cuts_select [] scope = tt
cuts_select (TextCut text ∷ cuts) scope = cuts_select cuts scope
cuts_select (PrintCut e phname span ∷ cuts) scope = (tt, cuts_select cuts scope)
cuts_select (TagCut tag ∷ cuts) scope = (tt, cuts_select cuts scope)

found_select : (found : Option (List Cut)) (scope : Scope) → UsesSelect (found_uses found) scope
found_select None scope = tt
found_select (Some cuts) scope = cuts_select cuts scope

all_select : (uses more : List Use) (scope : Scope) → UsesSelect uses scope → UsesSelect more scope
    → UsesSelect (uses ++ more) scope
all_select [] more scope h k = k
all_select (u ∷ uses) more scope h k = (h.0, all_select uses more scope h.1 k)

module _ (a : Around) where
  mutual
    body_selects : (body : MessageBody) (scope : Scope) → BodyDemands a body scope → UsesSelect (body_uses body) scope
    body_selects (Parts ns) scope h = found_select (cuts_of (message_items ns)) scope
    body_selects (Plural e offset cases other) scope h = (
      h.0,
      all_select (plural_uses cases) (body_uses other) scope (plural_selects cases scope h.2)
          (body_selects other scope h.3),
    )
    body_selects (Select e cases other) scope h = (
      h.0,
      all_select (select_uses cases) (body_uses other) scope (select_selects cases scope h.2)
          (body_selects other scope h.3),
    )

    plural_selects : (cases : PluralCases) (scope : Scope) → PluralDemands a cases scope
        → UsesSelect (plural_uses cases) scope
    plural_selects no_plural_case scope h = tt
    plural_selects (plural_case n body cases) scope h =
        all_select (body_uses body) (plural_uses cases) scope (body_selects body scope h.0)
        (plural_selects cases scope h.1)

    select_selects : (cases : SelectCases) (scope : Scope) → SelectDemands a cases scope
        → UsesSelect (select_uses cases) scope
    select_selects no_select_case scope h = tt
    select_selects (select_case word body cases) scope h =
        all_select (body_uses body) (select_uses cases) scope (body_selects body scope h.0)
        (select_selects cases scope h.1)

  pub message_selects : (m : Message) (scope : Scope) → MessageDemands a m scope → UsesSelect (uses_of m) scope
  message_selects (message desc meaning body span) scope h = body_selects body scope h
