-- The types of accesses, of `-` and of `?:` by those of their operands.
-- Example: `?.a` asked of `[a: int]|null` has the type `int|null`.
use Rattle.std.specs.Prelude.{Bool, not, ◌||◌, Result, Ok, [], if◌then◌else◌}
use Rattle.soy_base.specs.declared.fault.Span.{Span}
use Rattle.soy_tree.specs.Types.{Name, SoyType, IntType}
use Rattle.soy_rules.specs.Faults.{TypeFault, followed_by, mistyped}
use Rattle.soy_rules.specs.Members.{has_block, joined, type_without_null}
use Rattle.soy_rules.specs.TypeOf.{accessed_type, fitting, index_type, is_int, member_type, with_null_of}
use Rattle.soy_rules.specs.TypeText.{type_text}

abbrev pub member_access : Bool → Name → Span → SoyType → Result SoyType TypeFault
member_access takes_null name span t =
    followed_by (member_type name span t (accessed_type takes_null t)) (λ u. Ok (with_null_of takes_null t u))

abbrev pub index_access : Bool → Span → SoyType → SoyType → Result SoyType TypeFault
index_access takes_null span t k =
    followed_by (index_type span t (accessed_type takes_null t) k) (λ u. Ok (with_null_of takes_null t u))

abbrev pub minus_type : Span → SoyType → Result SoyType TypeFault
minus_type span t = if is_int t then Ok IntType else mistyped span (type_text t) []

abbrev pub coalesce_type : Span → SoyType → SoyType → Result SoyType TypeFault
coalesce_type span t u = fitting (not (has_block t || has_block u)) (joined (type_without_null t) u) span t u
