-- A static character in data, and behind a `<` or `</` in it.
use Rattle.std.proofs.Common.{◌≡◌, ℕ, true, ◌==◌, inl, inr, List, [], ◌∷◌, refl, sym, subst, None, if◌then◌else◌}
use Rattle.std.proofs.lemmas.Bool.{cases_Bool}
use Rattle.std.specs.Char.{is_ascii_alphabetic, to_ascii_lowercase}
use Rattle.soy_base.specs.Characters.{exclamation_mark, greater_than, less_than, question_mark, slash}
use Rattle.html_state.specs.Kept.{name_with}
use Rattle.html_state.specs.RowNext.{data_next, opened, row_next}
use Rattle.html_state.specs.declared.row.DeclarationRow.TheVariants as declaration
use Rattle.html_state.specs.declared.row.HtmlRow.{HtmlRow}
use Rattle.html_state.specs.declared.row.HtmlRow.TheVariants as row
use Rattle.html_state.specs.declared.row.State.{State}
use Rattle.html_state.specs.declared.row.TagKind.TheVariants as kind
use Rattle.bidi_order.specs.MarkupTokens.{character_read, labelled_characters, text_given, text_pending}
use Rattle.bidi_order.specs.MarkupTokens.{less_than_read}
use Rattle.bidi_order.specs.MarkupTokens.MarkupToken.{Character}
use Rattle.stable_bidi.proofs.KnownPage.{AtRow, IsOpened, Known, reading}
use Rattle.stable_bidi.proofs.RowReads.{RowStep, RowStepsTo, name_read, nothing_read, reference_after, row_step_if}
use Rattle.stable_bidi.proofs.RowReads.{static_characters}

module _ (s : State) (c : ℕ) (k : Known) (x y : List ℕ) where
  -- what is known of a character of text
  abbrev text_known : Known
  text_known = record k { reference = text_pending k.reference c; opening = if c == less_than then None else k.opening }

  -- a character of text
  pub in_text : (after : HtmlRow) → AtRow after k.attribute x y → IsOpened after text_known.opening
      → RowStep s row.Data after c k x y
  in_text after at opened = record {
    tokens = labelled_characters None (text_given k.reference c);
    are = static_characters (text_given k.reference c);
    next = text_known;
    x_after = x;
    y_after = y;
    one = refl;
    other = refl;
    at = at;
    opened = opened;
    pending = refl;
  }

  -- in data
  pub data_step : RowStep s row.Data (data_next c) c k x y
  data_step =
      elim (cases_Bool (c == less_than)) [
        | inl opens ↦ subst (λ after. RowStep s row.Data after c k x y) (sym (rw opens refl))
            (in_text row.TagOpen tt (rw opens refl))
        | inr stays ↦ subst (λ after. RowStep s row.Data after c k x y) (sym (rw stays refl)) (in_text row.Data tt tt)
      ]

  -- the `<` before this character begins nothing, so it is text too
  text_less_than : (after : HtmlRow) → k.opening ≡ None
      → ((z : List ℕ) → character_read row.TagOpen after None c (reading s k z)
      ≡ less_than_read None c (reading s k z))
      → AtRow after k.attribute x y → IsOpened after text_known.opening
      → text_pending k.reference c ≡ reference_after row.TagOpen after k.reference c
      → RowStep s row.TagOpen after c k x y
  text_less_than after none reads at opened pending = record {
    tokens = Character less_than k.opening ∷ labelled_characters None (text_given k.reference c);
    are = (none, static_characters (text_given k.reference c));
    next = text_known;
    x_after = x;
    y_after = y;
    one = reads x;
    other = reads y;
    at = at;
    opened = opened;
    pending = pending;
  }

  -- to data, or to the next `<`
  begun_text : k.opening ≡ None → RowStep s row.TagOpen (data_next c) c k x y
  begun_text none =
      elim (cases_Bool (c == less_than)) [
        | inl opens ↦ subst (λ after. RowStep s row.TagOpen after c k x y) {x = row.TagOpen} (sym (rw opens refl))
            (text_less_than row.TagOpen none (λ z. refl) tt (rw opens refl) refl)
        | inr stays ↦ subst (λ after. RowStep s row.TagOpen after c k x y) {x = row.Data} (sym (rw stays refl))
            (text_less_than row.Data none (λ z. refl) tt tt refl)
      ]

  -- behind a `<`
  pub open_step : k.opening ≡ None → RowStepsTo s c k x y row.TagOpen (row_next true row.TagOpen c)
  open_step none =
      row_step_if s c k x y row.TagOpen (c == exclamation_mark) (row.MarkupDeclaration []) _
      (nothing_read s c k x y row.TagOpen (row.MarkupDeclaration []) (λ z. refl) tt none refl)
      (row_step_if s c k x y row.TagOpen (c == slash) row.EndTagOpen _
      (nothing_read s c k x y row.TagOpen row.EndTagOpen (λ z. refl) tt none refl)
      (row_step_if s c k x y row.TagOpen (is_ascii_alphabetic c) (row.TagName kind.Start (name_with [] c)) _
      (name_read s c k x y row.TagOpen (row.TagName kind.Start (name_with [] c)) (to_ascii_lowercase c ∷ [])
      (λ z. refl) tt none refl)
      (row_step_if s c k x y row.TagOpen (c == question_mark) (row.InDeclaration declaration.BogusComment) _
      (nothing_read s c k x y row.TagOpen (row.InDeclaration declaration.BogusComment) (λ z. refl) tt none refl)
      (begun_text none))))

  -- behind a `</`
  pub end_open_step : k.opening ≡ None → RowStepsTo s c k x y row.EndTagOpen (row_next true row.EndTagOpen c)
  end_open_step none =
      row_step_if s c k x y row.EndTagOpen (is_ascii_alphabetic c) (row.TagName kind.End (name_with [] c)) _
      (name_read s c k x y row.EndTagOpen (row.TagName kind.End (name_with [] c)) (to_ascii_lowercase c ∷ [])
      (λ z. refl) tt none refl)
      (row_step_if s c k x y row.EndTagOpen (c == greater_than) row.Data _
      (nothing_read s c k x y row.EndTagOpen row.Data (λ z. refl) tt tt refl)
      (nothing_read s c k x y row.EndTagOpen (row.InDeclaration declaration.BogusComment) (λ z. refl) tt none refl))
