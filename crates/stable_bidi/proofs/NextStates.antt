-- What a step of the tokenizer's state is: the row moves by its table, or stays while a reference isn't decided.
use Rattle.std.proofs.Common.{◌≡◌, ℕ, Bool, true, false, ◌==◌, ◌&&◌, not, List, [], ◌∷◌, refl, subst, Result, Ok, Err}
use Rattle.std.proofs.Common.{if◌then◌else◌}
use Rattle.std.specs.Char.{is_ascii_alphanumeric}
use Rattle.soy_base.specs.Among.{is_among}
use Rattle.soy_base.specs.Characters.{ampersand, equals_sign, number_sign, semicolon}
use Rattle.soy_base.specs.declared.code.Code.{Code}
use Rattle.soy_base.specs.declared.code.Code.TheVariants as code
use Rattle.html_state.specs.Kept.{prefix_with}
use Rattle.html_state.specs.Next.{ampersand_next, begun_reference, is_decided, is_quoted, is_style_value, is_unquoted}
use Rattle.html_state.specs.Next.{is_uri_value, name_end, next, numeric_next, pending, plain_next}
use Rattle.html_state.specs.Next.{reference_begun_next, reference_next}
use Rattle.html_state.specs.References.{name_begun, reference_names}
use Rattle.html_state.specs.RowNext.{row_next}
use Rattle.html_state.specs.Texts.{and_then}
use Rattle.html_state.specs.declared.row.HtmlRow.{HtmlRow}
use Rattle.html_state.specs.declared.row.Reference.{Reference}
use Rattle.html_state.specs.declared.row.Reference.TheVariants as reference
use Rattle.html_state.specs.declared.row.State.{State}

-- the row moves by its table, or stays while a reference isn't decided
pub data NextIs (now : HtmlRow) (before : Reference) (c : ℕ) (u : State) : Type 0 where
  Moved : row_next true now c ≡ Ok u.row → u.reference ≡ begun_reference u.row c → NextIs now before c u
  Stayed : u.row ≡ now → is_decided before ≡ false → NextIs now before c u

module _ (now : HtmlRow) (before : Reference) (c : ℕ) where
  -- what a step is, where the character is no fault
  abbrev pub On : Result State Code → Type 0
  On (Ok u) = NextIs now before c u
  On (Err fault) = Unit {0}

  -- a choice of the table
  on_if : (b : Bool) (one other : Result State Code) → On one → On other → On (if b then one else other)
  on_if true one other first second = first
  on_if false one other first second = second

  -- by the table of rows
  on_plain : On (plain_next now c)
  on_plain =
      on_if (c == ampersand && is_style_value now) (Err code.Reference) _ tt
      (moves (row_next true now c) (λ f is. Moved is refl))
    where
      moves : (o : Result HtmlRow Code)
          → ((f : HtmlRow) → o ≡ Ok f → NextIs now before c (pending f (begun_reference f c)))
          → On (and_then (λ following. Ok (pending following (begun_reference following c))) o)
      moves (Ok f) step = step f refl
      moves (Err fault) step = tt

  module _ (undecided : is_decided before ≡ false) where
    -- behind a `&`
    on_ampersand : On (ampersand_next now c)
    on_ampersand =
        on_if (c == number_sign) _ _
        (on_if (is_uri_value now) (Err code.Reference) (Ok (pending now (reference.Begun (prefix_with [] c)))) tt
        (Stayed refl undecided))
        (on_if (is_ascii_alphanumeric c && not (is_unquoted now)) (Ok (pending now (name_begun (prefix_with [] c)))) _
        (Stayed refl undecided) on_plain)

    -- in a numeric reference
    on_numeric : (o : Result Reference Code) → On (and_then (λ following. Ok (pending now following)) o)
    on_numeric (Ok following) = Stayed refl undecided
    on_numeric (Err fault) = tt

    -- behind a name that ends
    on_end : (is_name : Bool) → On (name_end now is_name c)
    on_end is_name =
        on_if (c == semicolon) _ _ (on_if is_name (Ok (pending now reference.Decided)) (Err code.Reference)
        (Stayed refl undecided) tt)
        (on_if (c == equals_sign && is_quoted now) (plain_next now c) (Err code.Ampersand) on_plain tt)

    -- in a reference that may be known
    on_begun : (prefix : List ℕ) → On (reference_begun_next now prefix c)
    on_begun [] = on_ampersand
    on_begun (first ∷ rest) =
        on_if (first == number_sign) _ _ (on_numeric (numeric_next rest c))
        (on_if (is_ascii_alphanumeric c) (Ok (pending now (name_begun (prefix_with (first ∷ rest) c)))) _
        (Stayed refl undecided) (on_end (is_among reference_names (first ∷ rest))))

    -- in a name that no reference has
    on_none : On (reference_next now reference.NoName c)
    on_none =
        on_if (is_ascii_alphanumeric c) (Ok (pending now reference.NoName)) _ (Stayed refl undecided) (on_end false)

-- any step
on_next : (now : HtmlRow) (before : Reference) (c : ℕ) → On now before c (reference_next now before c)
on_next now reference.Decided c = on_plain now reference.Decided c
on_next now (reference.Begun prefix) c = on_begun now (reference.Begun prefix) c refl prefix
on_next now reference.NoName c = on_none now reference.NoName c refl

-- a step between two states
pub next_is : (s u : State) (c : ℕ) → next s c ≡ Ok u → NextIs s.row s.reference c u
next_is s u c is = subst (On s.row s.reference c) is (on_next s.row s.reference c)
