-- The text of the members or fields of a type that are left after the first so many.
use Rattle.std.proofs.Common.{ℕ, zero, suc, List}
use Rattle.soy_tree.specs.Types.{Members, FieldTypes}
use Rattle.soy_rules.specs.TypeText.{members_text, more_members_text, fields_text, more_fields_text}

abbrev pub members_left : ℕ → Members → List ℕ
members_left zero ts = members_text ts
members_left (suc n) ts = more_members_text ts

abbrev pub fields_left : ℕ → FieldTypes → List ℕ
fields_left zero fields = fields_text fields
fields_left (suc n) fields = more_fields_text fields
