-- What some commands demand, by themselves: a print, a let, and a loop before its body.
-- Example: `{for $x, $i in $l}` adds `$i` of type int and `$x` of the type of the items of `$l`.
use Rattle.std.specs.Prelude.{Bool, [], ◌∷◌, Option, Some, None, Ok, if◌then◌else◌}
use Rattle.soy_base.specs.declared.code.Code.TheVariants as code
use Rattle.soy_base.specs.declared.fault.Span.{Span}
use Rattle.soy_tree.specs.Types.{Name, SoyType, IntType, ListType}
use Rattle.soy_rules.specs.Members.{is_simple}
use Rattle.soy_rules.specs.TypeText.{type_text}
use Rattle.soy_tree.specs.Expressions.{Expr}
use Rattle.soy_rules.specs.Faults.{followed_by, fails}
use Rattle.soy_rules.specs.TypeOf.{Scope, type_of, is_int, is_string}
use Rattle.soy_rules.specs.Bodies.{Checked, is_printed, loop_scope, new_variable, new_variables}
use Rattle.soy_check.specs.declared.commands.Takes.{Takes}
use Rattle.soy_check.specs.declared.commands.Takes.TheVariants as takes

abbrev pub printed : Expr → Span → Scope → Checked
printed e span scope =
    followed_by (type_of e scope) (λ t. if is_printed t then Ok scope else fails code.Kind span.start (type_text t) [])

abbrev pub let_scope : Name → Expr → Span → Scope → Checked
let_scope name e span scope =
    followed_by (new_variable name span scope) (λ s. followed_by (type_of e s) (λ t. Ok ((name, t) ∷ s)))

-- the scope of a loop's body
abbrev pub loop_start : Name → Option Name → Expr → Span → Scope → Checked
loop_start name index e span scope =
    followed_by (new_variables name index span scope) (λ s.
    followed_by (type_of e s) (λ t. loop_scope name index e s t))

abbrev pub item_type : SoyType → Option SoyType
item_type (ListType t) = Some t
item_type _ = None

-- the variables of a loop before those around it
abbrev pub with_pair : Name → Option Name → SoyType → Scope → Scope
with_pair name None t scope = (name, t) ∷ scope
with_pair name (Some index) t scope = (index, IntType) ∷ ((name, t) ∷ scope)

abbrev pub is_taken : Takes → SoyType → Bool
is_taken takes.Simple = is_simple
is_taken takes.Int = is_int
is_taken takes.Str = is_string
