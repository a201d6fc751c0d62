-- Reading at a type that also takes null.
use Rattle.std.proofs.Common.{◌≡◌, Bool, true, false, ◌||◌, List, [], ◌∷◌, ◌++◌, refl, sym, ap, ◌∙◌}
use Rattle.std.specs.Prelude.{if◌then◌else◌, Result, Ok, Err, is_some}
use Rattle.std.specs.List.{list_any}
use Rattle.serde_json.specs.Data.{Data, null, boolean, number, string, array, object}
use Rattle.serde_json.specs.Find.{as_null}
use Rattle.soy_tree.specs.Types.{SoyType, Members, NullType, BoolType, IntType, StringType, HtmlType, AttributesType}
use Rattle.soy_tree.specs.Types.{ListType, MapType, RecordType, UnionType, no_member, member}
use Rattle.soy_rules.specs.Members.{members, union_members, union_of, joined, with_member, is_same_type}
use Rattle.soy_tree.specs.Types.{members_of}
use Rattle.soy_tree.specs.Values.{Value, NullValue}
use Rattle.soy_rules.proofs.SameTypes.{same_type}
use Rattle.soy_types.specs.Paths.{either_read}
use Rattle.soy_base.specs.Path.{Path}
use Rattle.soy_types.specs.Read.{value_at, first_read}

-- the first that fits, of three
pub either_assoc : (a b c : Result Value Path) → either_read (either_read a b) c ≡ either_read a (either_read b c)
either_assoc (Ok v) b c = refl
either_assoc (Err p) b c = refl

pub either_only : (a c : Result Value Path) → either_read a c ≡ either_read (either_read a (Err [])) c
either_only (Ok v) c = refl
either_only (Err p) c = refl

pub first_append : (ts us : List SoyType) (d : Data) (r : Result Value Path)
    → either_read (first_read (members_of (ts ++ us)) d) r
    ≡ either_read (first_read (members_of ts) d) (either_read (first_read (members_of us) d) r)
first_append [] us d r = refl
first_append (t ∷ ts) us d r =
    either_assoc (value_at t d) (first_read (members_of (ts ++ us)) d) r
    ∙ (ap (λ x. either_read (value_at t d) x) (first_append ts us d r)
    ∙ sym
    (either_assoc (value_at t d) (first_read (members_of ts) d) (either_read (first_read (members_of us) d) r)))

-- a type is read as the first of its members that fits, but for the path
mutual
  pub members_read : (t : SoyType) (d : Data) (r : Result Value Path)
      → either_read (value_at t d) r ≡ either_read (first_read (members_of (members t)) d) r
  members_read (UnionType ts) d r = union_read ts d r
  members_read NullType d r = either_only (value_at NullType d) r
  members_read BoolType d r = either_only (value_at BoolType d) r
  members_read IntType d r = either_only (value_at IntType d) r
  members_read StringType d r = either_only (value_at StringType d) r
  members_read HtmlType d r = either_only (value_at HtmlType d) r
  members_read AttributesType d r = either_only (value_at AttributesType d) r
  members_read (ListType t) d r = either_only (value_at (ListType t) d) r
  members_read (MapType t) d r = either_only (value_at (MapType t) d) r
  members_read (RecordType fields) d r = either_only (value_at (RecordType fields) d) r

  pub union_read : (ts : Members) (d : Data) (r : Result Value Path)
      → either_read (first_read ts d) r ≡ either_read (first_read (members_of (union_members ts)) d) r
  union_read no_member d r = refl
  union_read (member t ts) d r =
      either_assoc (value_at t d) (first_read ts d) r
      ∙ (members_read t d (either_read (first_read ts d) r)
      ∙ (ap (λ x. either_read (first_read (members_of (members t)) d) x) (union_read ts d r)
      ∙ sym (first_append (members t) (union_members ts) d r)))

pub union_of_read : (ts : List SoyType) (d : Data) (r : Result Value Path)
    → either_read (value_at (union_of ts) d) r ≡ either_read (first_read (members_of ts) d) r
union_of_read [] d r = refl
union_of_read (t ∷ []) d r = either_only (value_at t d) r
union_of_read (t ∷ (u ∷ us)) d r = refl

-- null that is among the members isn't read again
pub null_again : (n rest r : Result Value Path)
    → either_read (either_read n rest) r ≡ either_read (either_read n rest) (either_read n r)
null_again (Ok v) rest r = refl
null_again (Err p) rest r = refl

pub later_again : (x rest n r : Result Value Path) → either_read rest r ≡ either_read rest (either_read n r)
    → either_read (either_read x rest) r ≡ either_read (either_read x rest) (either_read n r)
later_again (Ok v) rest n r e = refl
later_again (Err p) rest n r e = e

pub among_if : (b : Bool) (t : SoyType) (ts : List SoyType) (d : Data) (r : Result Value Path)
    → is_same_type NullType t ≡ b → (b || list_any (is_same_type NullType) ts) ≡ true
    → (list_any (is_same_type NullType) ts ≡ true
    → either_read (first_read (members_of ts) d) r
    ≡ either_read (first_read (members_of ts) d) (either_read (value_at NullType d) r))
    → either_read (first_read (members_of (t ∷ ts)) d) r
    ≡ either_read (first_read (members_of (t ∷ ts)) d) (either_read (value_at NullType d) r)
among_if true t ts d r is e more =
    rw (sym (same_type NullType t is)) (null_again (value_at NullType d) (first_read (members_of ts) d) r)
among_if false t ts d r is e more =
    later_again (value_at t d) (first_read (members_of ts) d) (value_at NullType d) r (more e)

pub null_among : (ts : List SoyType) (d : Data) (r : Result Value Path) → list_any (is_same_type NullType) ts ≡ true
    → either_read (first_read (members_of ts) d) r
    ≡ either_read (first_read (members_of ts) d) (either_read (value_at NullType d) r)
null_among [] d r e = let no : ⊥ = cc in absurd no
null_among (t ∷ ts) d r e =
    among_if (is_same_type NullType t) t ts d r refl e (λ more. null_among ts d r more)

pub with_null_if : (b : Bool) (ts : List SoyType) (d : Data) (r : Result Value Path)
    → list_any (is_same_type NullType) ts ≡ b
    → either_read (first_read (members_of (if b then ts else ts ++ NullType ∷ [])) d) r
    ≡ either_read (first_read (members_of ts) d) (either_read (value_at NullType d) r)
with_null_if true ts d r e = null_among ts d r e
with_null_if false ts d r e =
    first_append ts (NullType ∷ []) d r
    ∙ ap (λ x. either_read (first_read (members_of ts) d) x) (sym (either_only (value_at NullType d) r))

-- a type and null are read as the type, and else as null
pub joined_read : (t : SoyType) (d : Data) (r : Result Value Path)
    → either_read (value_at (joined t NullType) d) r
    ≡ either_read (value_at t d) (either_read (value_at NullType d) r)
joined_read t d r =
    union_of_read (with_member (members t) NullType) d r
    ∙ (with_null_if (list_any (is_same_type NullType) (members t)) (members t) d r refl
    ∙ sym (members_read t d (either_read (value_at NullType d) r)))

-- where it fits nothing, the path ends there
pub null_path : (d : Data) (p : Path) → value_at NullType d ≡ Err p → p ≡ []
null_path null p e = let no : ⊥ = cc in absurd no
null_path (boolean b) p e = cc
null_path (number n) p e = cc
null_path (string s) p e = cc
null_path (array ds) p e = cc
null_path (object ms) p e = cc

pub either_path : (a b : Result Value Path) (p : Path) → (b ≡ Err p → p ≡ []) → either_read a b ≡ Err p → p ≡ []
either_path (Ok v) b p more e = let no : ⊥ = cc in absurd no
either_path (Err q) b p more e = more e

pub union_path : (ts : Members) (d : Data) (p : Path) → first_read ts d ≡ Err p → p ≡ []
union_path no_member d p e = cc
union_path (member t ts) d p e = either_path (value_at t d) (first_read ts d) p (λ k. union_path ts d p k) e

pub or_only : (b : Bool) → (b || false) ≡ true → b ≡ true
or_only true e = refl
or_only false e = e

pub alone_if : (b : Bool) (t : SoyType) (d : Data) (p : Path) → (is_same_type NullType t || false) ≡ b
    → value_at (union_of (if b then t ∷ [] else t ∷ (NullType ∷ []))) d ≡ Err p → p ≡ []
alone_if true t d p is e =
    let same : is_same_type NullType t ≡ true = or_only (is_same_type NullType t) is in
    null_path d p (rw (sym (same_type NullType t same)) at e)
alone_if false t d p is e = union_path (member t (member NullType no_member)) d p e

pub several_if : (b : Bool) (t u : SoyType) (ts : List SoyType) (d : Data) (p : Path)
    → value_at (union_of (if b then t ∷ (u ∷ ts) else t ∷ (u ∷ (ts ++ NullType ∷ [])))) d ≡ Err p → p ≡ []
several_if true t u ts d p e = union_path (members_of (t ∷ (u ∷ ts))) d p e
several_if false t u ts d p e = union_path (members_of (t ∷ (u ∷ (ts ++ NullType ∷ [])))) d p e

pub with_null_path : (ts : List SoyType) (d : Data) (p : Path)
    → value_at (union_of (with_member ts NullType)) d ≡ Err p → p ≡ []
with_null_path [] d p e = null_path d p e
with_null_path (t ∷ []) d p e = alone_if (is_same_type NullType t || false) t d p refl e
with_null_path (t ∷ (u ∷ ts)) d p e = several_if (list_any (is_same_type NullType) (t ∷ (u ∷ ts))) t u ts d p e

-- what a reading with null gives, by the reading without
pub either_ok : (a : Result Value Path) (v : Value) → either_read a (Err []) ≡ Ok v → a ≡ Ok v
either_ok (Ok w) v e = e
either_ok (Err p) v e = let no : ⊥ = cc in absurd no

pub joined_ok : (t : SoyType) (d : Data) (v : Value) → value_at t d ≡ Ok v → value_at (joined t NullType) d ≡ Ok v
joined_ok t d v e =
    either_ok (value_at (joined t NullType) d) v
    (joined_read t d (Err []) ∙ ap (λ x. either_read x (either_read (value_at NullType d) (Err []))) e)

pub null_read : (d : Data) → true ≡ is_some (as_null d) → value_at NullType d ≡ Ok NullValue
null_read null e = refl
null_read (boolean b) e = let no : ⊥ = cc in absurd no
null_read (number n) e = let no : ⊥ = cc in absurd no
null_read (string s) e = let no : ⊥ = cc in absurd no
null_read (array ds) e = let no : ⊥ = cc in absurd no
null_read (object ms) e = let no : ⊥ = cc in absurd no

pub joined_null : (t : SoyType) (d : Data) (p : Path) → value_at t d ≡ Err p → true ≡ is_some (as_null d)
    → value_at (joined t NullType) d ≡ Ok NullValue
joined_null t d p e is =
    either_ok (value_at (joined t NullType) d) NullValue
    (joined_read t d (Err [])
    ∙ (ap (λ x. either_read x (either_read (value_at NullType d) (Err []))) e
    ∙ ap (λ x. either_read x (Err [])) (null_read d is)))

pub no_null_read : (d : Data) → false ≡ is_some (as_null d) → value_at NullType d ≡ Err []
no_null_read null e = let no : ⊥ = cc in absurd no
no_null_read (boolean b) e = refl
no_null_read (number n) e = refl
no_null_read (string s) e = refl
no_null_read (array ds) e = refl
no_null_read (object ms) e = refl

pub either_err : (a : Result Value Path) → either_read a (Err []) ≡ Err [] → ((p : Path) → a ≡ Err p → p ≡ [])
    → a ≡ Err []
either_err (Ok v) e path = let no : ⊥ = cc in absurd no
either_err (Err p) e path = ap Err (path p refl)

pub joined_err : (t : SoyType) (d : Data) (p : Path) → value_at t d ≡ Err p → false ≡ is_some (as_null d)
    → value_at (joined t NullType) d ≡ Err []
joined_err t d p e is =
    either_err (value_at (joined t NullType) d)
    (joined_read t d (Err [])
    ∙ (ap (λ x. either_read x (either_read (value_at NullType d) (Err []))) e
    ∙ ap (λ x. either_read x (Err [])) (no_null_read d is)))
    (λ q k. with_null_path (members t) d q k)
