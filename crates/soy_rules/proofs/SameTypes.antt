-- Types that are the same are equal.
use Rattle.std.proofs.Common.{◌≡◌, true, ◌&&◌}
use mathlib.Core.Path.{refl, ap}
use Rattle.std.specs.Prelude.{bytes_eq}
use Rattle.soy_tree.specs.Types.{SoyType, Members, FieldTypes, NullType, BoolType, IntType, StringType, HtmlType}
use Rattle.soy_tree.specs.Types.{AttributesType, ListType, MapType, RecordType, UnionType, no_member, member, no_field}
use Rattle.soy_tree.specs.Types.{field}
use Rattle.soy_rules.specs.Members.{is_same_type, are_same_members, are_same_fields}
use Rattle.soy_tree.proofs.SameNames.{both, same_name}

mutual
  pub same_type : (t u : SoyType) → is_same_type t u ≡ true → t ≡ u
  same_type NullType NullType e = refl
  same_type BoolType BoolType e = refl
  same_type IntType IntType e = refl
  same_type StringType StringType e = refl
  same_type HtmlType HtmlType e = refl
  same_type AttributesType AttributesType e = refl
  same_type (ListType t) (ListType u) e = ap (λ x. ListType x) (same_type t u e)
  same_type (MapType t) (MapType u) e = ap (λ x. MapType x) (same_type t u e)
  same_type (RecordType fs) (RecordType gs) e = ap (λ x. RecordType x) (same_fields fs gs e)
  same_type (UnionType ts) (UnionType us) e = ap (λ x. UnionType x) (same_members ts us e)
  same_type _ _ e = let no : ⊥ = cc in absurd no

  pub same_members : (ts us : Members) → are_same_members ts us ≡ true → ts ≡ us
  same_members no_member no_member e = refl
  same_members (member t ts) (member u us) e =
      let p : t ≡ u = same_type t u (both (is_same_type t u) (are_same_members ts us) e).0 in
      let q : ts ≡ us = same_members ts us (both (is_same_type t u) (are_same_members ts us) e).1 in
      cc
  same_members _ _ e = let no : ⊥ = cc in absurd no

  pub same_fields : (fs gs : FieldTypes) → are_same_fields fs gs ≡ true → fs ≡ gs
  same_fields no_field no_field e = refl
  same_fields (field x t fs) (field y u gs) e =
      let here : (bytes_eq x y && is_same_type t u) ≡ true =
      (both (bytes_eq x y && is_same_type t u) (are_same_fields fs gs) e).0 in
      let n : x ≡ y = same_name x y (both (bytes_eq x y) (is_same_type t u) here).0 in
      let p : t ≡ u = same_type t u (both (bytes_eq x y) (is_same_type t u) here).1 in
      let q : fs ≡ gs = same_fields fs gs (both (bytes_eq x y && is_same_type t u) (are_same_fields fs gs) e).1 in
      cc
  same_fields _ _ e = let no : ⊥ = cc in absurd no
