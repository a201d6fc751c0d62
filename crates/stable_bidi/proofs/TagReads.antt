-- A static character in a tag, read by two pages that know the value of an attribute apart, as its name isn't `dir`:
-- what they know after it, and the lemmas by which a step of each row is made.
use Rattle.std.proofs.Common.{◌≡◌, ◌⊎◌, ℕ, Bool, true, false, inl, inr, List, [], ◌∷◌, take, refl, sym, ap, ◌∙◌}
use Rattle.std.proofs.Common.{Option, Some, None, Result, Ok, Err, codes, if◌then◌else◌, is_some}
use Rattle.std.specs.Char.{to_ascii_lowercase}
use Rattle.std.specs.Str.{bytes_eq}
use Rattle.soy_base.specs.declared.code.Code.{Code}
use Rattle.html_state.specs.declared.row.TagRow.{TagRow}
use Rattle.html_state.specs.declared.row.TagRow.TheVariants as tag_row
use Rattle.bidi_order.specs.MarkupTokens.{tag_read, with_value}
use Rattle.stable_bidi.proofs.KnownPage.{AtTagRow, Known, tag_of}

-- the row after it is known alike, or the tag has ended
abbrev pub AtNext : Option TagRow → List ℕ → List ℕ → List ℕ → Type 0
AtNext None attribute x y = Unit {0}
AtNext (Some now) attribute x y = AtTagRow now attribute x y

-- what is known of a tag whose last attribute and first `dir` are these
abbrev pub known_tag : Known → List ℕ → Option (List ℕ) → Known
known_tag k attribute dir = record k { attribute = attribute; dir = dir }

-- a character between two rows of a tag: both pages know the same after it but for the attribute's value
pub record TagStep (inner : TagRow) (o : Option TagRow) (c : ℕ) (k : Known) (x y : List ℕ) : Type 0 where
  pub attribute_after : List ℕ
  pub dir_after : Option (List ℕ)
  pub x_after : List ℕ
  pub y_after : List ℕ
  pub one : tag_read inner o c (tag_of k x) ≡ tag_of (known_tag k attribute_after dir_after) x_after
  pub other : tag_read inner o c (tag_of k y) ≡ tag_of (known_tag k attribute_after dir_after) y_after
  pub at : AtNext o attribute_after x_after y_after

-- ---- the value of an attribute, which counts where it is the first `dir`

-- the first `dir` of a tag, after a value of an attribute of this name
abbrev dir_with : List ℕ → List ℕ → Option (List ℕ) → Option (List ℕ)
dir_with attribute given dir =
    if bytes_eq attribute (codes "dir") then (if is_some dir then dir else Some given) else dir

-- by whether the attribute is `dir`
valued_if : (b : Bool) (k : Known) (x given : List ℕ)
    → (if b then record (tag_of k x) { dir = if is_some k.dir then k.dir else Some given } else tag_of k x)
    ≡ tag_of (known_tag k k.attribute (if b then (if is_some k.dir then k.dir else Some given) else k.dir)) x
valued_if true k x given = refl
valued_if false k x given = refl

-- after the value of an attribute the tag is known with the first `dir`
valued : (k : Known) (x given : List ℕ)
    → with_value given (tag_of k x) ≡ tag_of (known_tag k k.attribute (dir_with k.attribute given k.dir)) x
valued k x given = valued_if (bytes_eq k.attribute (codes "dir")) k x given

-- what one page is given the other is given too, or it doesn't count
same_dir : (attribute one other : List ℕ) (dir : Option (List ℕ))
    → (one ≡ other) ⊎ (bytes_eq attribute (codes "dir") ≡ false)
    → dir_with attribute other dir ≡ dir_with attribute one dir
same_dir attribute one other dir (inl same) = ap (λ g. dir_with attribute g dir) (sym same)
same_dir attribute one other dir (inr differs) = rw differs refl

-- ---- steps

module _ (c : ℕ) (k : Known) (x y : List ℕ) where
  -- a step to each row to which the table leads; none is asked where the character is a fault
  abbrev pub TagStepsTo : TagRow → Result (Option TagRow) Code → Type 0
  TagStepsTo inner (Ok o) = TagStep inner o c k x y
  TagStepsTo inner (Err fault) = Unit {0}

  -- a choice of the table
  pub tag_steps_if : (inner : TagRow) (b : Bool) (one other : Result (Option TagRow) Code) → TagStepsTo inner one
      → TagStepsTo inner other → TagStepsTo inner (if b then one else other)
  tag_steps_if inner true one other first second = first
  tag_steps_if inner false one other first second = second

  -- the tag is known as before
  pub same_tag_known : (inner : TagRow) (o : Option TagRow) → tag_read inner o c (tag_of k x) ≡ tag_of k x
      → tag_read inner o c (tag_of k y) ≡ tag_of k y → AtNext o k.attribute x y → TagStep inner o c k x y
  same_tag_known inner o one other at = record {
    attribute_after = k.attribute;
    dir_after = k.dir;
    x_after = x;
    y_after = y;
    one = one;
    other = other;
    at = at;
  }

  -- an attribute ends with a value, which both pages have, or whose name isn't `dir`
  pub attribute_ends : (inner : TagRow) (o : Option TagRow) (given also : List ℕ)
      → (given ≡ also) ⊎ (bytes_eq k.attribute (codes "dir") ≡ false)
      → tag_read inner o c (tag_of k x) ≡ with_value given (tag_of k x)
      → tag_read inner o c (tag_of k y) ≡ with_value also (tag_of k y)
      → AtNext o k.attribute x y → TagStep inner o c k x y
  attribute_ends inner o given also same one other at = record {
    attribute_after = k.attribute;
    dir_after = dir_with k.attribute given k.dir;
    x_after = x;
    y_after = y;
    one = one ∙ valued k x given;
    other = other ∙ valued k y also
        ∙ ap (λ (d : Option (List ℕ)). tag_of (known_tag k k.attribute d) y)
        (same_dir k.attribute given also k.dir same);
    at = at;
  }

  -- the name of an attribute begins
  pub name_begins : (inner : TagRow) (n : List ℕ)
      → ((z : List ℕ) → tag_read inner (Some (tag_row.AttributeName n)) c (tag_of k z)
      ≡ tag_of (known_tag k (to_ascii_lowercase c ∷ []) k.dir) [])
      → n ≡ take 17 (to_ascii_lowercase c ∷ []) → TagStep inner (Some (tag_row.AttributeName n)) c k x y
  name_begins inner n reads is = record {
    attribute_after = to_ascii_lowercase c ∷ [];
    dir_after = k.dir;
    x_after = [];
    y_after = [];
    one = reads x;
    other = reads y;
    at = (refl, is);
  }
