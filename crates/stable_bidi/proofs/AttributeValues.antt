-- A static character at the rows of a tag that stand before and in the value of an attribute.
use Rattle.std.proofs.Common.{◌≡◌, ℕ, Bool, true, false, ◌==◌, inl, inr, List, [], ◌∷◌, ◌++◌, take, refl, sym, ap}
use Rattle.std.proofs.Common.{◌∙◌, Option, Some, None, Result, Ok, Err, codes}
use Rattle.std.proofs.lemmas.Bool.{cases_Bool, both_ways}
use Rattle.std.specs.Char.{is_ascii_whitespace}
use Rattle.std.specs.Str.{bytes_eq}
use Rattle.std.proofs.lemmas.Slice.Eq.{bytes_eq-Decides}
use Rattle.soy_base.specs.Characters.{double_quote, greater_than, single_quote}
use Rattle.soy_base.specs.declared.code.Code.{Code}
use Rattle.soy_base.specs.declared.code.Code.TheVariants as code
use Rattle.script_state.specs.CssNext.{css_next}
use Rattle.script_state.specs.declared.css_state.CssState.{CssState}
use Rattle.html_state.specs.AttributeNamed.{attribute_named}
use Rattle.html_state.specs.PartNext.{part_next}
use Rattle.html_state.specs.QuoteCharacter.{quote_character}
use Rattle.html_state.specs.TagRowNext.{past_value, tag_row_next}
use Rattle.html_state.specs.Texts.{and_then}
use Rattle.html_state.specs.ValueNext.{begun_value, followed, may_end_value, value_next}
use Rattle.html_state.specs.declared.row.Attribute.{Attribute}
use Rattle.html_state.specs.declared.row.AttributeValue.{AttributeValue}
use Rattle.html_state.specs.declared.row.AttributeValue.TheVariants as value
use Rattle.html_state.specs.declared.row.Quote.{Quote}
use Rattle.html_state.specs.declared.row.Quote.TheVariants as quote
use Rattle.html_state.specs.declared.row.TagRow.{TagRow}
use Rattle.html_state.specs.declared.row.TagRow.TheVariants as tag_row
use Rattle.html_state.specs.declared.row.UriName.{UriName}
use Rattle.html_state.specs.declared.row.UriPart.{UriPart}
use Rattle.bidi_order.specs.DecodedReferences.{decoded}
use Rattle.stable_bidi.specs.PagesAlike.{may_print}
use Rattle.stable_bidi.proofs.KnownPage.{AtTagRow, Known}
use Rattle.stable_bidi.proofs.TagReads.{TagStep, TagStepsTo, attribute_ends, same_tag_known, tag_steps_if}

-- ---- a value goes on as one that may hold values where it did

-- a value, as what the tables answer where a character is no fault
abbrev taken_value : AttributeValue → Result AttributeValue Code
taken_value v = Ok v

-- the same value
print_same : (v u : AttributeValue) → taken_value v ≡ Ok u → may_print u ≡ may_print v
print_same v u is = let same : v ≡ u = cc in ap may_print (sym same)

-- a URI goes on as a URI
print_uri : (name : UriName) (o : Result UriPart Code) (u : AttributeValue)
    → and_then (λ following. Ok (value.Uri name following)) o ≡ Ok u → may_print u ≡ true
print_uri name (Ok part) u is = print_same (value.Uri name part) u is
print_uri name (Err fault) u is = let never : ⊥ = cc in absurd never

-- a style goes on as a style
print_style : (o : Option CssState) (u : AttributeValue) → followed value.Style o ≡ Ok u → may_print u ≡ true
print_style (Some state) u is = print_same (value.Style state) u is
print_style None u is = let never : ⊥ = cc in absurd never

-- a value of any kind
pub print_on : (static : Bool) (c : ℕ) (v u : AttributeValue) → value_next static v c ≡ Ok u → may_print u ≡ may_print v
print_on true c (value.Uri name part) u is = print_uri name (part_next part c) u is
print_on false c (value.Uri name part) u is = print_same (value.Uri name part) u is
print_on static c (value.Style state) u is = print_style (css_next state c) u is
print_on static c value.Event u is = print_same value.Event u is
print_on static c value.NoPrint u is = print_same value.NoPrint u is
print_on static c value.Plain u is = print_same value.Plain u is

-- ---- steps

-- texts that are compared as equal are
bytes_same : (one other : List ℕ) → bytes_eq one other ≡ true → one ≡ other
bytes_same one other same = (bytes_eq-Decides one other).0 same

module _ (c : ℕ) (k : Known) (x y : List ℕ) where
  -- an attribute that may hold values isn't `dir`
  not_dir : (a : Attribute) → a ≡ attribute_named (take 17 k.attribute) → may_print (begun_value a) ≡ true
      → bytes_eq k.attribute (codes "dir") ≡ false
  not_dir a is printed =
      elim (cases_Bool (bytes_eq k.attribute (codes "dir"))) [
        | inl same ↦
            let named : a ≡ attribute_named (take 17 (codes "dir")) =
            is ∙ ap (λ (l : List ℕ). attribute_named (take 17 l)) (bytes_same k.attribute (codes "dir") same) in
            absurd (both_ways (may_print (begun_value a)) (ap (λ b. may_print (begun_value b)) named) printed)
        | inr differs ↦ differs
      ]

  -- before a value
  pub value_steps : (a : Attribute) → AtTagRow (tag_row.BeforeValue a) k.attribute x y
      → TagStepsTo c k x y (tag_row.BeforeValue a) (tag_row_next true (tag_row.BeforeValue a) c)
  value_steps a at =
      let inner : TagRow = tag_row.BeforeValue a in
      let opened : (q : Quote) → TagRow = λ q. tag_row.Quoted q (begun_value a) in
      let begun : (q : Quote) → TagStep inner (Some (opened q)) c k x y =
      λ q. same_tag_known c k x y inner (Some (opened q)) refl refl (inl at.0, not_dir a at.1) in
      tag_steps_if c k x y inner (is_ascii_whitespace c) (Ok (Some inner)) _
      (same_tag_known c k x y inner (Some inner) refl refl at)
      (tag_steps_if c k x y inner (c == greater_than) (Ok None) _
      (attribute_ends c k x y inner None [] [] (inl refl) refl refl tt)
      (tag_steps_if c k x y inner (c == double_quote) (Ok (Some (opened quote.Double))) _ (begun quote.Double)
      (tag_steps_if c k x y inner (c == single_quote) (Ok (Some (opened quote.Single))) _ (begun quote.Single)
      (unquoted (value_next true (begun_value a) c)))))
    where
      unquoted : (o : Result AttributeValue Code)
          → TagStepsTo c k x y (tag_row.BeforeValue a)
          (and_then (λ following. Ok (Some (tag_row.Unquoted following))) o)
      unquoted (Err fault) = tt
      unquoted (Ok following) = record {
        attribute_after = k.attribute;
        dir_after = k.dir;
        x_after = c ∷ [];
        y_after = c ∷ [];
        one = refl;
        other = refl;
        at = refl;
      }

  -- a character of a quoted value
  pub quoted_on : (q : Quote) (v u : AttributeValue) → may_print u ≡ may_print v
      → AtTagRow (tag_row.Quoted q v) k.attribute x y
      → TagStep (tag_row.Quoted q v) (Some (tag_row.Quoted q u)) c k x y
  quoted_on q v u same at = record {
    attribute_after = k.attribute;
    dir_after = k.dir;
    x_after = x ++ c ∷ [];
    y_after = y ++ c ∷ [];
    one = refl;
    other = refl;
    at = (
      elim at.0 [ inl is ↦ inl (ap (λ (l : List ℕ). l ++ c ∷ []) is) | inr differs ↦ inr differs ],
      λ printed. at.1 (sym same ∙ printed),
    );
  }

  -- in a quoted value
  pub quoted_steps : (q : Quote) (v : AttributeValue) → AtTagRow (tag_row.Quoted q v) k.attribute x y
      → TagStepsTo c k x y (tag_row.Quoted q v) (tag_row_next true (tag_row.Quoted q v) c)
  quoted_steps q v at =
      let inner : TagRow = tag_row.Quoted q v in
      tag_steps_if c k x y inner (c == quote_character q) (past_value v (Some tag_row.AfterQuoted)) _
      (tag_steps_if c k x y inner (may_end_value v) (Ok (Some tag_row.AfterQuoted)) (Err code.Script)
      (attribute_ends c k x y inner (Some tag_row.AfterQuoted) (decoded x) (decoded y)
      (elim at.0 [ inl is ↦ inl (ap decoded is) | inr differs ↦ inr differs ]) refl refl tt) tt)
      (on (value_next true v c) (λ u is. print_on true c v u is))
    where
      on : (o : Result AttributeValue Code) → ((u : AttributeValue) → o ≡ Ok u → may_print u ≡ may_print v)
          → TagStepsTo c k x y (tag_row.Quoted q v) (and_then (λ following. Ok (Some (tag_row.Quoted q following))) o)
      on (Err fault) same = tt
      on (Ok u) same = quoted_on q v u (same u refl) at

  -- a character of a value without quotes, which both pages have
  pub unquoted_on : (v u : AttributeValue) → AtTagRow (tag_row.Unquoted v) k.attribute x y
      → TagStep (tag_row.Unquoted v) (Some (tag_row.Unquoted u)) c k x y
  unquoted_on v u at = record {
    attribute_after = k.attribute;
    dir_after = k.dir;
    x_after = x ++ c ∷ [];
    y_after = y ++ c ∷ [];
    one = refl;
    other = refl;
    at = ap (λ (l : List ℕ). l ++ c ∷ []) at;
  }

  -- in a value without quotes
  pub unquoted_steps : (v : AttributeValue) → AtTagRow (tag_row.Unquoted v) k.attribute x y
      → TagStepsTo c k x y (tag_row.Unquoted v) (tag_row_next true (tag_row.Unquoted v) c)
  unquoted_steps v at =
      let inner : TagRow = tag_row.Unquoted v in
      tag_steps_if c k x y inner (is_ascii_whitespace c) (past_value v (Some tag_row.BeforeName)) _
      (tag_steps_if c k x y inner (may_end_value v) (Ok (Some tag_row.BeforeName)) (Err code.Script)
      (attribute_ends c k x y inner (Some tag_row.BeforeName) x y (inl at) refl refl tt) tt)
      (tag_steps_if c k x y inner (c == greater_than) (past_value v None) _
      (tag_steps_if c k x y inner (may_end_value v) (Ok None) (Err code.Script)
      (attribute_ends c k x y inner None x y (inl at) refl refl tt) tt)
      (on (value_next true v c)))
    where
      on : (o : Result AttributeValue Code)
          → TagStepsTo c k x y (tag_row.Unquoted v) (and_then (λ following. Ok (Some (tag_row.Unquoted following))) o)
      on (Err fault) = tt
      on (Ok u) = unquoted_on v u at
