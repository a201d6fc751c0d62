-- Texts that keep a set of states, joined.
use Rattle.std.proofs.Common.{◌≡◌, ℕ, List, [], ◌∷◌, ◌++◌, Bool, Option, None, Some, refl, unwrap_or}
use Rattle.std.specs.Prelude.{IsSomeAnd, IsTrue, option_and_then}
use Rattle.std.specs.List.{flat_map}
use Rattle.esc_table.specs.EscapedText.{escaped_character}
use Rattle.esc_table.specs.RowText.{row_text}
use Rattle.esc_table.specs.StateAfter.{state_after, KeepsStates}

-- a text is read as its prefix and then the rest
pub state_after-append : {S : Type 0} (next : S → ℕ → Option S) (state : S) (prefix rest : List ℕ) →
    state_after next state (prefix ++ rest) ≡ option_and_then (λ s. state_after next s rest)
    (state_after next state prefix)
state_after-append next state [] rest = refl
state_after-append {S = S} next state (c ∷ cs) rest =
    from_next (next state c) (λ s. state_after-append next s cs rest) where
      from_next : (o : Option S)
          → ((s : S) → state_after next s (cs ++ rest) ≡ option_and_then (λ t. state_after next t rest)
          (state_after next s cs)) →
          option_and_then (λ s. state_after next s (cs ++ rest)) o ≡ option_and_then (λ s. state_after next s rest)
          (option_and_then (λ s. state_after next s cs) o)
      from_next None further = refl
      from_next (Some s) further = further s

-- from a state of the set to a state of the set, and on from there
onward : {S : Type 0} (next : S → ℕ → Option S) (kept : S → Bool) (rest : List ℕ) → KeepsStates next kept rest →
    (o : Option S) → IsSomeAnd o (λ s. IsTrue (kept s)) → IsSomeAnd (option_and_then (λ s. state_after next s rest) o)
    (λ s. IsTrue (kept s))
onward next kept rest keeps None never = never
onward next kept rest keeps (Some s) held = keeps s held

module _ {S : Type 0} (next : S → ℕ → Option S) (kept : S → Bool) where
  -- two texts that keep the set, joined
  append_keeps : (prefix rest : List ℕ) → KeepsStates next kept prefix → KeepsStates next kept rest
      → KeepsStates next kept (prefix ++ rest)
  append_keeps prefix rest keeps keeps' state held =
      rw (state_after-append next state prefix rest)
      (onward next kept rest keeps' (state_after next state prefix) (keeps state held))

  -- the texts of any characters, joined
  pub joined_texts_keep : (form : ℕ → List ℕ) → ((c : ℕ) → KeepsStates next kept (form c)) → (text : List ℕ)
      → KeepsStates next kept (flat_map form text)
  joined_texts_keep form each [] = λ state held. held
  joined_texts_keep form each (c ∷ cs) =
      append_keeps (form c) (flat_map form cs) (each c) (joined_texts_keep form each cs)

  -- what stands for a character by a table
  pub escaped_character_keeps : (rows : List (ℕ × List ℕ)) →
      ((c : ℕ) (to : List ℕ) → row_text rows c ≡ Some to → KeepsStates next kept to) →
      ((c : ℕ) → row_text rows c ≡ None → KeepsStates next kept (c ∷ [])) →
      (c : ℕ) → KeepsStates next kept (escaped_character rows c)
  escaped_character_keeps rows of_row of_none c = by_row (row_text rows c) refl where
    by_row : (row : Option (List ℕ)) → row_text rows c ≡ row → KeepsStates next kept (unwrap_or row (c ∷ []))
    by_row None is = of_none c is
    by_row (Some to) is = of_row c to is
