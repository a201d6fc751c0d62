-- What it means, by members, that a type accepts another.
use Rattle.std.proofs.Common.{◌≡◌, Bool, true, false, ◌&&◌, ◌||◌, List, [], ◌∷◌, ◌++◌}
use Rattle.std.specs.List.{list_any, list_all}
use mathlib.Core.Path.{refl, ap, ◌∙◌}
use Rattle.soy_tree.specs.Types.{SoyType, Members, NullType, BoolType, IntType, StringType, HtmlType, AttributesType}
use Rattle.soy_tree.specs.Types.{ListType, MapType, RecordType, UnionType, no_member, member}
use Rattle.soy_rules.specs.Members.{members, union_members}
use Rattle.soy_rules.specs.Accepts.{accepts, accepts_member, some_accepts}

pub or_false : (b : Bool) → b ≡ (b || false)
or_false true = refl
or_false false = refl

pub or_assoc : (a b c : Bool) → (a || (b || c)) ≡ ((a || b) || c)
or_assoc true b c = refl
or_assoc false b c = refl

pub any_append : (test : SoyType → Bool) (ts us : List SoyType)
    → list_any test (ts ++ us) ≡ (list_any test ts || list_any test us)
any_append test [] us = refl
any_append test (t ∷ ts) us =
    ap (λ b. test t || b) (any_append test ts us) ∙ or_assoc (test t) (list_any test ts) (list_any test us)

mutual
  pub accepts_member-members : (to from : SoyType)
      → accepts_member to from ≡ list_any (λ t. accepts_member t from) (members to)
  accepts_member-members (UnionType ts) from = some_accepts-members ts from
  accepts_member-members NullType from = or_false (accepts_member NullType from)
  accepts_member-members BoolType from = or_false (accepts_member BoolType from)
  accepts_member-members IntType from = or_false (accepts_member IntType from)
  accepts_member-members StringType from = or_false (accepts_member StringType from)
  accepts_member-members HtmlType from = or_false (accepts_member HtmlType from)
  accepts_member-members AttributesType from = or_false (accepts_member AttributesType from)
  accepts_member-members (ListType t) from = or_false (accepts_member (ListType t) from)
  accepts_member-members (MapType t) from = or_false (accepts_member (MapType t) from)
  accepts_member-members (RecordType fields) from = or_false (accepts_member (RecordType fields) from)

  pub some_accepts-members : (ts : Members) (from : SoyType)
      → some_accepts ts from ≡ list_any (λ t. accepts_member t from) (union_members ts)
  some_accepts-members no_member from = refl
  some_accepts-members (member t ts) from =
      let here : accepts_member t from ≡ list_any (λ u. accepts_member u from) (members t) =
      accepts_member-members t from in
      let rest : some_accepts ts from ≡ list_any (λ u. accepts_member u from) (union_members ts) =
      some_accepts-members ts from in
      rw (any_append (λ u. accepts_member u from) (members t) (union_members ts), ← here, ← rest) refl

pub and_true : (b : Bool) → (b && true) ≡ b
and_true true = refl
and_true false = refl

pub and_assoc : (a b c : Bool) → (a && (b && c)) ≡ ((a && b) && c)
and_assoc true b c = refl
and_assoc false b c = refl

-- a test on each of two lists
pub all_append : (test : SoyType → Bool) (ts us : List SoyType)
    → list_all test (ts ++ us) ≡ (list_all test ts && list_all test us)
all_append test [] us = refl
all_append test (t ∷ ts) us =
    ap (λ b. test t && b) (all_append test ts us) ∙ and_assoc (test t) (list_all test ts) (list_all test us)

-- tests that give the same of each
pub all_same : (f g : SoyType → Bool) (ts : List SoyType) → ((t : SoyType) → f t ≡ g t) → list_all f ts ≡ list_all g ts
all_same f g [] same = refl
all_same f g (t ∷ ts) same = let rest : list_all f ts ≡ list_all g ts = all_same f g ts same in rw (same t, rest) refl

-- each member of the one is accepted by a member of the other
pub accepts-members : (to from : SoyType)
    → accepts to from ≡ list_all (λ u. list_any (λ t. accepts_member t u) (members to)) (members from)
accepts-members to from = all_same _ _ (members from) (λ u. accepts_member-members to u)
