-- What holds of each row's text and of each character without a row holds of every text escaped by the rows.
use Rattle.std.proofs.Common.{◌≡◌, ℕ, eqb, List, [], ◌∷◌, ◌++◌, None, Some, unwrap_or, refl, sym, ◌∙◌, subst, ⊎_elim}
use Rattle.std.specs.List.{AllByRecursion}
use Rattle.std.proofs.lemmas.Bool.{cases_Bool, cond-true, cond-false}
use Rattle.esc_table.specs.EscapedText.{escaped_character, escaped_text}
use Rattle.esc_table.specs.RowText.{row_text}

-- the fact stays as this piece is put before a text
abbrev pub Keeps : (List ℕ → Type 0) → List ℕ → Type 0
Keeps P piece = (rest : List ℕ) → P rest → P (piece ++ rest)

module _ (P : List ℕ → Type 0) where
  -- what stands for one character, whether it has a row or not
  row_kept : (rows : List (ℕ × List ℕ)) (c : ℕ) → AllByRecursion (λ row. Keeps P row.1) rows
      → (row_text rows c ≡ None → Keeps P (c ∷ [])) → Keeps P (escaped_character rows c)
  row_kept [] c each plain = plain refl
  row_kept (row ∷ rows) c each plain =
      ⊎_elim
      (λ same. subst (λ o. Keeps P (unwrap_or o (c ∷ [])))
      (sym (cond-true (eqb row.0 c) (Some row.1) (row_text rows c) same)) each.0)
      (λ other.
      let skip : row_text (row ∷ rows) c ≡ row_text rows c = cond-false (eqb row.0 c) (Some row.1) (row_text rows c)
      other in
      subst (λ o. Keeps P (unwrap_or o (c ∷ []))) (sym skip) (row_kept rows c each.1 (λ none. plain (skip ∙ none))))
      (cases_Bool (eqb row.0 c))

  -- what stands for a whole text
  pub escaped_keeps : (rows : List (ℕ × List ℕ)) → AllByRecursion (λ row. Keeps P row.1) rows
      → ((c : ℕ) → row_text rows c ≡ None → Keeps P (c ∷ [])) → P [] → (text : List ℕ) → P (escaped_text rows text)
  escaped_keeps rows each plain empty [] = empty
  escaped_keeps rows each plain empty (c ∷ text) =
      row_kept rows c each (plain c) (escaped_text rows text) (escaped_keeps rows each plain empty text)
