-- Rows: which type accepts which.
use Rattle.std.proofs.Common.{◌≡◌, true, false}
use mathlib.Core.Path.{refl}
use Rattle.soy_tree.specs.Types.{NullType, BoolType, IntType, StringType, HtmlType, AttributesType, ListType, MapType}
use Rattle.soy_rules.specs.Accepts.{accepts}
use Rattle.soy_rules.proofs.Rows.{a, b, union, alone, none, one_field, two_fields}

-- each member of the other's union is accepted by one of its own
union_of_one_more : accepts (union IntType NullType) IntType ≡ true
union_of_one_more = refl

union_of_one_less : accepts IntType (union IntType NullType) ≡ false
union_of_one_less = refl

union_in_another_order : accepts (union IntType NullType) (union NullType IntType) ≡ true
union_in_another_order = refl

one_member_twice : accepts IntType (union IntType IntType) ≡ true
one_member_twice = refl

every_type_accepts_no_members : accepts BoolType none ≡ true
every_type_accepts_no_members = refl

no_members_accept_nothing : accepts none NullType ≡ false
no_members_accept_nothing = refl

-- the members of a union in a union are members
union_in_a_union : accepts (union IntType NullType) (alone (union NullType IntType)) ≡ true
union_in_a_union = refl

-- null, bool, int, string, html and attributes accept only an equal member
html_accepts_html : accepts HtmlType HtmlType ≡ true
html_accepts_html = refl

html_refuses_string : accepts HtmlType StringType ≡ false
html_refuses_string = refl

string_refuses_html : accepts StringType HtmlType ≡ false
string_refuses_html = refl

attributes_refuse_html : accepts AttributesType HtmlType ≡ false
attributes_refuse_html = refl

-- lists and maps accept what their items accept
list_of_unions : accepts (ListType (union IntType NullType)) (ListType IntType) ≡ true
list_of_unions = refl

list_of_strings : accepts (ListType IntType) (ListType StringType) ≡ false
list_of_strings = refl

list_refuses_map : accepts (ListType IntType) (MapType IntType) ≡ false
list_refuses_map = refl

map_of_ints : accepts (MapType (union IntType NullType)) (MapType IntType) ≡ true
map_of_ints = refl

-- a record accepts one that has each of its fields with an accepted type
record_with_more_fields : accepts (one_field a (union IntType NullType)) (two_fields b StringType a IntType) ≡ true
record_with_more_fields = refl

record_with_a_field_missing : accepts (two_fields a IntType b IntType) (one_field a IntType) ≡ false
record_with_a_field_missing = refl

record_with_another_type : accepts (one_field a IntType) (one_field a StringType) ≡ false
record_with_another_type = refl

first_field_of_a_name_counts : accepts (one_field a IntType) (two_fields a StringType a IntType) ≡ false
first_field_of_a_name_counts = refl
