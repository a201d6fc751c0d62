-- The rows within a tag: the page as one text goes on as the page in pieces does.
use Rattle.std.proofs.Common.{Bool, [], ap, eqb, false, refl, subst, sym, true, ℕ, ◌∙◌, ◌≡◌}
use Rattle.std.specs.Char.{is_ascii_whitespace}
use Rattle.std.specs.Prelude.{Err, None, Ok, Option, Result, Some, if◌then◌else◌}
use Rattle.soy_base.specs.Characters.{double_quote, equals_sign, greater_than, single_quote, slash}
use Rattle.soy_base.specs.declared.code.Code.{Code}
use Rattle.soy_base.specs.declared.code.Code.TheVariants as code
use Rattle.html_state.specs.AttributeNamed.{attribute_named}
use Rattle.html_state.specs.EndsName.{ends_name}
use Rattle.html_state.specs.Kept.{name_with}
use Rattle.html_state.specs.QuoteCharacter.{quote_character}
use Rattle.html_state.specs.TagRowNext.{before_name, before_value, past_name, tag_row_next}
use Rattle.html_state.specs.Texts.{and_then}
use Rattle.html_state.specs.ValueNext.{begun_value, may_end_value, value_next}
use Rattle.html_state.specs.declared.row.Attribute.{Attribute}
use Rattle.html_state.specs.declared.row.AttributeValue.{AttributeValue}
use Rattle.html_state.specs.declared.row.Quote.{Quote}
use Rattle.html_state.specs.declared.row.Quote.TheVariants as quote
use Rattle.html_state.specs.declared.row.TagRow.{TagRow}
use Rattle.html_state.specs.declared.row.TagRow.TheVariants as tag_row
use Rattle.html_state.specs.declared.row.UriPart.{UriPart}
use Rattle.html_state.specs.declared.row.UriPart.TheVariants as part
use Rattle.stable_html.proofs.AsOne.{IsReadable, TagOn, ValueOn, tag_row_as_one, value_as_one}
use Rattle.stable_html.proofs.OneAttributeValues.{begun_value_self, value_may_end, value_on}

-- ---- rows within a tag

-- either way
tag_if : (test : Bool) (one other two also : Result (Option TagRow) Code) → TagOn one two → TagOn other also
    → TagOn (if test then one else other) (if test then two else also)
tag_if true one other two also on on_other = on
tag_if false one other two also on on_other = on_other

-- either way, as itself
some_if : (test : Bool) (one other : Option TagRow) → TagOn (Ok one) (Ok one) → TagOn (Ok other) (Ok other)
    → TagOn (Ok (if test then one else other)) (Ok (if test then one else other))
some_if true one other on on_other = on
some_if false one other on on_other = on_other

-- a row that is read as itself
some_leaf : (now : TagRow) → now ≡ tag_row_as_one part.Path now → TagOn (Ok (Some now)) (Ok (Some now))
some_leaf now is = (part.Path, tt, ap (λ i. Ok (Some i)) is)

-- the end of the tag
none_leaf : TagOn (Ok None) (Ok None)
none_leaf = refl

-- a fault of the page
fault_leaf : (fault : Code) → TagOn (Err fault) (Err fault)
fault_leaf fault = tt

-- past a name nothing of the page in pieces is left
pub past_name_self : (c : ℕ) → TagOn (Ok (past_name c)) (Ok (past_name c))
past_name_self c =
    some_if (eqb c slash) (Some tag_row.SelfClosing) (if eqb c greater_than then None else Some tag_row.BeforeName)
    (some_leaf tag_row.SelfClosing refl)
    (some_if (eqb c greater_than) None (Some tag_row.BeforeName) none_leaf (some_leaf tag_row.BeforeName refl))

-- so it is before a name
before_name_self : (c : ℕ) → TagOn (before_name c) (before_name c)
before_name_self c =
    tag_if (ends_name c) _ _ _ _ (past_name_self c)
    (tag_if (eqb c equals_sign) _ _ _ _ (fault_leaf code.InName)
    (some_leaf (tag_row.AttributeName (name_with [] c)) refl))

-- a row that holds the value
value_row : (holding : AttributeValue → TagRow) → ((p : UriPart) (now : AttributeValue) → holding (value_as_one p now)
    ≡ tag_row_as_one p (holding now))
    → (o one : Result AttributeValue Code) → ValueOn o one
    → TagOn (and_then (λ following. Ok (Some (holding following))) o)
    (and_then (λ following. Ok (Some (holding following))) one)
value_row holding same (Err fault) one on = tt
value_row holding same (Ok now) one on = (
  on.0,
  on.1,
  ap (and_then (λ following. Ok (Some (holding following)))) on.2 ∙ ap (λ i. Ok (Some i)) (same on.0 now),
)

-- past a value, which ends where it may
past_value_on : (test same : Bool) (o : Option TagRow) → (test ≡ true → same ≡ true) → TagOn (Ok o) (Ok o)
    → TagOn (if test then Ok o else Err code.Script) (if same then Ok o else Err code.Script)
past_value_on true same o is on = subst (λ b. TagOn (Ok o) (if b then Ok o else Err code.Script)) (sym (is refl)) on
past_value_on false same o is on = tt

-- a value that a quote begins
quoted_leaf : (quote : Quote) (now : Attribute) → TagOn (Ok (Some (tag_row.Quoted quote (begun_value now))))
    (Ok (Some (tag_row.Quoted quote (begun_value now))))
quoted_leaf quote now =
    let b = begun_value_self now in (b.0, b.1, ap (λ v. Ok (Some (tag_row.Quoted quote v))) b.2)

-- before a value
before_value_self : (now : Attribute) (c : ℕ) → TagOn (before_value true now c) (before_value true now c)
before_value_self now c =
    let b = begun_value_self now in
    tag_if (is_ascii_whitespace c) _ _ _ _ (some_leaf (tag_row.BeforeValue now) refl)
    (tag_if (eqb c greater_than) _ _ _ _ none_leaf
    (tag_if (eqb c double_quote) _ _ _ _ (quoted_leaf quote.Double now)
    (tag_if (eqb c single_quote) _ _ _ _ (quoted_leaf quote.Single now)
    (value_row tag_row.Unquoted (λ p v. refl) (value_next true (begun_value now) c)
    (value_next true (begun_value now) c)
    (subst (λ v. ValueOn (value_next true (begun_value now) c) (value_next true v c)) (sym b.2)
    (value_on b.0 b.1 (begun_value now) c))))))

-- every row within a tag
pub tag_row_on : (p : UriPart) → IsReadable p → (inner : TagRow) (c : ℕ)
    → TagOn (tag_row_next true inner c) (tag_row_next true (tag_row_as_one p inner) c)
tag_row_on p is tag_row.BeforeName c = before_name_self c
tag_row_on p is tag_row.AfterPrinted c =
    tag_if (ends_name c) _ _ _ _ (past_name_self c) (fault_leaf code.InName)
tag_row_on p is (tag_row.AttributeName name) c =
    tag_if (ends_name c) _ _ _ _ (past_name_self c)
    (tag_if (eqb c equals_sign) _ _ _ _ (some_leaf (tag_row.BeforeValue (attribute_named name)) refl)
    (some_leaf (tag_row.AttributeName (name_with name c)) refl))
tag_row_on p is (tag_row.BeforeValue now) c = before_value_self now c
tag_row_on p is (tag_row.Quoted quote now) c =
    tag_if (eqb c (quote_character quote)) _ _ _ _
    (past_value_on (may_end_value now) (may_end_value (value_as_one p now)) (Some tag_row.AfterQuoted)
    (value_may_end p now) (some_leaf tag_row.AfterQuoted refl))
    (value_row (tag_row.Quoted quote) (λ p v. refl) (value_next true now c) (value_next true (value_as_one p now) c)
    (value_on p is now c))
tag_row_on p is (tag_row.Unquoted now) c =
    tag_if (is_ascii_whitespace c) _ _ _ _
    (past_value_on (may_end_value now) (may_end_value (value_as_one p now)) (Some tag_row.BeforeName)
    (value_may_end p now) (some_leaf tag_row.BeforeName refl))
    (tag_if (eqb c greater_than) _ _ _ _
    (past_value_on (may_end_value now) (may_end_value (value_as_one p now)) None (value_may_end p now) none_leaf)
    (value_row tag_row.Unquoted (λ p v. refl) (value_next true now c) (value_next true (value_as_one p now) c)
    (value_on p is now c)))
tag_row_on p is tag_row.AfterQuoted c = before_name_self c
tag_row_on p is tag_row.SelfClosing c = before_name_self c
