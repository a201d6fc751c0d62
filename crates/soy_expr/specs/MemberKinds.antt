-- The kinds of members that a type is searched for.
use Rattle.std.specs.Prelude.{Bool, not}
use Rattle.soy_tree.specs.Types.{SoyType}
use Rattle.soy_rules.specs.Members.{is_null_type, is_block_member, is_simple_member}
use Rattle.soy_expr.specs.declared.member_kind.MemberKind.{MemberKind}
use Rattle.soy_expr.specs.declared.member_kind.MemberKind.TheVariants as kind

abbrev pub is_of_kind : MemberKind → SoyType → Bool
is_of_kind kind.Null t = is_null_type t
is_of_kind kind.Block t = is_block_member t
is_of_kind kind.Other t = not (is_simple_member t)
