-- What of a page's text may be a reference: after each character nothing is, where the state has decided.
use Rattle.std.proofs.Common.{◌≡◌, ◌⊎◌, ℕ, Bool, true, false, ◌==◌, ◌&&◌, inl, inr, List, [], ◌∷◌, refl, sym, subst}
use Rattle.std.proofs.Common.{Option, Some, None, Result, Ok, Err, if◌then◌else◌, drop, eqb-true}
use Rattle.std.proofs.lemmas.Bool.{cases_Bool, both_ways}
use Rattle.std.specs.Char.{is_ascii_alphabetic, is_ascii_alphanumeric}
use Rattle.soy_base.specs.Among.{is_among}
use Rattle.soy_base.specs.Characters.{ampersand, equals_sign, exclamation_mark, less_than, number_sign, question_mark}
use Rattle.soy_base.specs.Characters.{semicolon, slash}
use Rattle.soy_base.specs.declared.code.Code.{Code}
use Rattle.soy_base.specs.declared.code.Code.TheVariants as code
use Rattle.html_state.specs.Kept.{name_with, prefix_with}
use Rattle.html_state.specs.Next.{ampersand_next, begun_reference, has_references, is_decided, name_end, next}
use Rattle.html_state.specs.Next.{numeric_next, pending, plain_next, reference_begun_next, reference_next}
use Rattle.html_state.specs.References.{begins_numeric, is_numeric, name_begun, reference_names}
use Rattle.html_state.specs.RowNext.{data_next, row_next}
use Rattle.html_state.specs.Texts.{and_then, is_prefix_among}
use Rattle.html_state.specs.declared.row.DeclarationRow.TheVariants as declaration
use Rattle.html_state.specs.declared.row.HtmlRow.{HtmlRow}
use Rattle.html_state.specs.declared.row.HtmlRow.TheVariants as row
use Rattle.html_state.specs.declared.row.Reference.{Reference}
use Rattle.html_state.specs.declared.row.Reference.TheVariants as reference
use Rattle.html_state.specs.declared.row.State.{State}
use Rattle.html_state.specs.declared.row.TagKind.TheVariants as kind
use Rattle.bidi_order.specs.DecodedReferences.{character_pending, goes_on_reference}
use Rattle.bidi_order.specs.MarkupTokens.{text_pending}
use Rattle.stable_bidi.proofs.KnownPage.{IsPending}
use Rattle.stable_bidi.proofs.NextStates.{NextIs, next_is}
use Rattle.stable_bidi.proofs.NextStates.NextIs.{Moved, Stayed}
use Rattle.stable_bidi.proofs.RowReads.{reference_after}

-- nothing and false is false
pub and_no : (b : Bool) → (b && false) ≡ false
and_no true = refl
and_no false = refl

-- ---- what may be a reference

-- where nothing is pending, it holds at any state
none_pending : (now : HtmlRow) (r : Reference) → IsPending now r None
none_pending row.Data reference.Decided = refl
none_pending row.Data (reference.Begun prefix) = tt
none_pending row.Data reference.NoName = tt
none_pending row.TagOpen r = refl
none_pending row.EndTagOpen r = refl
none_pending (row.TagName k n) r = refl
none_pending (row.InTag t i) r = refl
none_pending (row.MarkupDeclaration p) r = refl
none_pending (row.InDeclaration d) r = refl
none_pending (row.Within e) r = refl
none_pending (row.BegunEndTag e b) r = refl
none_pending row.Outside r = refl
none_pending row.Plain r = refl

-- after a character in data
module _ (held : Option (List ℕ)) (c : ℕ) where
  -- it holds after a character in data, where the character is no fault
  abbrev Pends : Result State Code → Type 0
  Pends (Ok u) = IsPending u.row u.reference (text_pending held c)
  Pends (Err fault) = Unit {0}

  -- a choice of the table
  pends_if : (b : Bool) (one other : Result State Code) → Pends one → Pends other → Pends (if b then one else other)
  pends_if true one other first second = first
  pends_if false one other first second = second

  -- nothing is pending where the state has decided
  abbrev Decides : HtmlRow → Type 0
  Decides f = IsPending f (begun_reference f c) (text_pending held c)

  -- by the table of data
  decides_data : ((c == less_than) ≡ false → (c == ampersand) ≡ false → character_pending held c ≡ None)
      → Decides (data_next c)
  decides_data plain =
      elim (cases_Bool (c == less_than)) [
        | inl opens ↦ rw opens (none_pending row.TagOpen (begun_reference row.TagOpen c))
        | inr stays ↦ elim (cases_Bool (c == ampersand)) [
          | inl begins ↦ rw (stays, begins) tt
          | inr differs ↦ rw (stays, differs) (plain stays differs)
        ]
      ]

  -- where the state had decided
  pends_plain : ((c == less_than) ≡ false → (c == ampersand) ≡ false → character_pending held c ≡ None)
      → Pends (plain_next row.Data c)
  pends_plain plain =
      pends_if (c == ampersand && false) (Err code.Reference)
      (Ok (pending (data_next c) (begun_reference (data_next c) c))) tt (decides_data plain)

  -- in a name
  undecided_name : (prefix : List ℕ) → Pends (Ok (pending row.Data (name_begun prefix)))
  undecided_name prefix = begun (is_prefix_among reference_names prefix)
    where
      begun : (b : Bool) → IsPending row.Data (if b then reference.Begun prefix else reference.NoName)
          (text_pending held c)
      begun true = tt
      begun false = tt

  -- a `;` ends what is pending
  ended_pending : (c == semicolon) ≡ true → text_pending held c ≡ None
  ended_pending ends = subst (λ x. text_pending held x ≡ None) (sym (eqb-true c semicolon ends)) (go held)
    where
      go : (h : Option (List ℕ)) → text_pending h 59 ≡ None
      go None = refl
      go (Some begun) = refl

  -- and so does what can't go on with it
  broken_pending : (c == number_sign) ≡ false → is_ascii_alphanumeric c ≡ false → (c == ampersand) ≡ false
      → character_pending held c ≡ None
  broken_pending no_sign no_letter differs = go held
    where
      goes_on : (begun : List ℕ) → goes_on_reference begun c ≡ false
      goes_on [] = rw (no_letter, no_sign) refl
      goes_on (d ∷ begun) = no_letter

      go : (h : Option (List ℕ)) → character_pending h c ≡ None
      go None = rw differs refl
      go (Some begun) = elim (cases_Bool (c == semicolon)) [
        | inl ends ↦ rw ends refl
        | inr other ↦ rw (other, goes_on begun, differs) refl
      ]

  -- behind a name that ends
  pends_end : (is_name : Bool) → Pends (name_end row.Data is_name c)
  pends_end is_name =
      elim (cases_Bool (c == semicolon)) [
        | inl ends ↦ rw ends (pends_if is_name (Ok (pending row.Data reference.Decided)) (Err code.Reference)
            (ended_pending ends) tt)
        | inr differs ↦ rw (differs, and_no (c == equals_sign)) tt
      ]

  -- behind a `&`
  pends_ampersand : Pends (ampersand_next row.Data c)
  pends_ampersand =
      elim (cases_Bool (c == number_sign)) [
        | inl sign ↦ rw sign tt
        | inr no_sign ↦ elim (cases_Bool (is_ascii_alphanumeric c)) [
          | inl letter ↦ rw (no_sign, letter) (undecided_name (prefix_with [] c))
          | inr no_letter ↦
              rw (no_sign, no_letter) (pends_plain (λ stays differs. broken_pending no_sign no_letter differs))
        ]
      ]

  -- in a numeric reference
  pends_numeric : (digits : List ℕ) → Pends (and_then (λ following. Ok (pending row.Data following))
      (numeric_next digits c))
  pends_numeric digits =
      elim (cases_Bool (c == semicolon)) [
        | inl ends ↦ rw ends (decided (is_numeric digits) (ended_pending ends))
        | inr differs ↦
            rw differs
            (goes (is_ascii_alphanumeric c && begins_numeric (drop 1 (prefix_with (number_sign ∷ digits) c))))
      ]
    where
      decided : (b : Bool) → text_pending held c ≡ None → Pends (and_then (λ following. Ok (pending row.Data following))
          (if b then Ok reference.Decided else Err code.Reference))
      decided true none = none
      decided false none = tt

      goes : (b : Bool) → Pends (and_then (λ following. Ok (pending row.Data following))
          (if b then Ok (reference.Begun (prefix_with (number_sign ∷ digits) c)) else Err code.Reference))
      goes true = tt
      goes false = tt

  -- in a reference that may be known
  pends_begun : (prefix : List ℕ) → Pends (reference_begun_next row.Data prefix c)
  pends_begun [] = pends_ampersand
  pends_begun (first ∷ rest) =
      pends_if (first == number_sign) _ _ (pends_numeric rest)
      (pends_if (is_ascii_alphanumeric c) (Ok (pending row.Data (name_begun (prefix_with (first ∷ rest) c)))) _
      (undecided_name (prefix_with (first ∷ rest) c)) (pends_end (is_among reference_names (first ∷ rest))))

  -- in a name that no reference has
  pends_none : Pends (reference_next row.Data reference.NoName c)
  pends_none =
      pends_if (is_ascii_alphanumeric c) (Ok (pending row.Data reference.NoName)) _ tt (pends_end false)

-- from nothing that is pending
plain_none : (c : ℕ) → (c == less_than) ≡ false → (c == ampersand) ≡ false → character_pending None c ≡ None
plain_none c stays differs = rw differs refl

-- any character in data
data_pends : (before : Reference) (held : Option (List ℕ)) (c : ℕ) → IsPending row.Data before held
    → Pends held c (reference_next row.Data before c)
data_pends reference.Decided held c none =
    subst (λ h. Pends h c (plain_next row.Data c)) (sym none) (pends_plain None c (plain_none c))
data_pends (reference.Begun prefix) held c is = pends_begun held c prefix
data_pends reference.NoName held c is = pends_none held c

-- after a `<` in data
module _ (c : ℕ) where
  -- it holds after a row to which a `<` leads on
  abbrev Opens : HtmlRow → Type 0
  Opens f = IsPending f (begun_reference f c) (reference_after row.TagOpen f None c)

  -- a choice of the table
  opens_if : (b : Bool) (one other : HtmlRow) → Opens one → Opens other → Opens (if b then one else other)
  opens_if true one other first second = first
  opens_if false one other first second = second

  -- to data, or to the next `<`
  opens_data : Opens (data_next c)
  opens_data =
      elim (cases_Bool (c == less_than)) [
        | inl opens ↦ rw opens (rw opens refl)
        | inr stays ↦ elim (cases_Bool (c == ampersand)) [
          | inl begins ↦ rw (stays, begins) tt
          | inr differs ↦ rw (stays, differs) (rw stays refl)
        ]
      ]

  -- where the character is no fault
  abbrev OpensOn : Result HtmlRow Code → Type 0
  OpensOn (Ok g) = Opens g
  OpensOn (Err fault) = Unit {0}

  -- any character behind a `<`
  opens_rows : (f : HtmlRow) → row_next true row.TagOpen c ≡ Ok f → Opens f
  opens_rows f is =
      subst OpensOn is
      (opens_if (c == exclamation_mark) (row.MarkupDeclaration []) _ refl
      (opens_if (c == slash) row.EndTagOpen _ refl
      (opens_if (is_ascii_alphabetic c) (row.TagName kind.Start (name_with [] c)) _ refl
      (opens_if (c == question_mark) (row.InDeclaration declaration.BogusComment) _ refl opens_data))))

-- any character at any state
pub pending_next : (s u : State) (held : Option (List ℕ)) (c : ℕ) → IsPending s.row s.reference held
    → (is_decided s.reference ≡ true) ⊎ (has_references s.row ≡ true) → next s c ≡ Ok u
    → IsPending u.row u.reference (reference_after s.row u.row held c)
pending_next s u held c is decided moves = rows s.row s.reference is decided moves
  where
    silent : (now : HtmlRow) (r : Reference) → held ≡ None → IsPending u.row u.reference held
    silent now r none = subst (IsPending u.row u.reference) (sym none) (none_pending u.row u.reference)

    open_next : (o : NextIs row.TagOpen reference.Decided c u)
        → IsPending u.row u.reference (reference_after row.TagOpen u.row None c)
    open_next (Moved row_is reference_is) =
        subst (λ r. IsPending u.row r (reference_after row.TagOpen u.row None c)) (sym reference_is)
        (opens_rows c u.row row_is)
    open_next (Stayed row_is differs) = absurd (both_ways _ differs refl)

    rows : (now : HtmlRow) (r : Reference) → IsPending now r held → (is_decided r ≡ true) ⊎ (has_references now ≡ true)
        → reference_next now r c ≡ Ok u → IsPending u.row u.reference (reference_after now u.row held c)
    rows row.Data r is decided moves = subst (Pends held c) moves (data_pends r held c is)
    rows row.TagOpen reference.Decided none decided moves =
        subst (λ h. IsPending u.row u.reference (reference_after row.TagOpen u.row h c)) (sym none)
        (open_next (next_is (pending row.TagOpen reference.Decided) u c moves))
    rows row.TagOpen (reference.Begun p) none (inl differs) moves = absurd (both_ways _ refl differs)
    rows row.TagOpen (reference.Begun p) none (inr differs) moves = absurd (both_ways _ refl differs)
    rows row.TagOpen reference.NoName none (inl differs) moves = absurd (both_ways _ refl differs)
    rows row.TagOpen reference.NoName none (inr differs) moves = absurd (both_ways _ refl differs)
    rows row.EndTagOpen r none decided moves = silent row.EndTagOpen r none
    rows (row.TagName k n) r none decided moves = silent (row.TagName k n) r none
    rows (row.InTag t i) r none decided moves = silent (row.InTag t i) r none
    rows (row.MarkupDeclaration p) r none decided moves = silent (row.MarkupDeclaration p) r none
    rows (row.InDeclaration d) r none decided moves = silent (row.InDeclaration d) r none
    rows (row.Within e) r none decided moves = silent (row.Within e) r none
    rows (row.BegunEndTag e b) r none decided moves = silent (row.BegunEndTag e b) r none
    rows row.Outside r none decided moves = silent row.Outside r none
    rows row.Plain r none decided moves = silent row.Plain r none
