-- Lemmas on comments: those between `/*` and `*/`, for any table that has their two rows, and those
-- that end at a line terminator.
use Rattle.std.proofs.Common.{◌≡◌, ◌≢◌, ◌⊎◌, ℕ, List, [], ◌∷◌, ◌++◌, refl, ◌∙◌, ap, subst, inl, inr}
use Rattle.std.specs.Prelude.{Option, Some, IsSomeAnd, codes}
use Rattle.std.proofs.lemmas.Bool.{cases_eq, ne_eqb}
use Rattle.std.proofs.lemmas.List.Elements.{All-head, All-tail}
use Rattle.soy_base.specs.Characters.{asterisk, slash, line_feed, carriage_return, line_separator, paragraph_separator}
use Rattle.soy_base.specs.Among.{HasNone}
use Rattle.script_state.specs.IsLineText.{IsInLine, IsLineTerminator, IsLineText}
use Rattle.script_state.specs.CommentNext.{comment_next, comment_star_next}
use Rattle.script_state.specs.CssNext.{css_next}
use Rattle.script_state.specs.IsStyleCode.{IsStyleCode}
use Rattle.script_state.specs.JsNext.{js_next}
use Rattle.script_state.specs.JsPlacing.{js_placing}
use Rattle.script_state.specs.CssPlacing.{css_placing}
use Rattle.soy_base.specs.declared.code.Code.TheVariants as refusal
use Rattle.soy_base.specs.declared.place.Placing.TheVariants as placing
use Rattle.soy_base.specs.StateAfter.{state_after}
use Rattle.script_state.specs.declared.css_state.CssState.{CssState}
use Rattle.script_state.specs.declared.css_state.CssState.TheVariants as css
use Rattle.script_state.specs.declared.js_state.JsState.TheVariants as js
use Rattle.script_state.proofs.StyleCode.{style_code_next}
use Rattle.soy_base.proofs.States.{state_after-cons, state_after-append_some}

-- what stands nowhere in a text stands nowhere in its rest
pub HasNone-tail : (part : List ℕ) (c : ℕ) (rest : List ℕ) → HasNone part (c ∷ rest) → HasNone part rest
HasNone-tail part c rest none before after is = none (c ∷ before) after (ap (λ xs. c ∷ xs) is)

-- one of the two states of a comment
abbrev pub IsIn : {S : Type 0} → S → S → Option S → Type 0
IsIn inside starred o = (o ≡ Some inside) ⊎ (o ≡ Some starred)

-- a text without `*/` stays in the comment, and after an asterisk too where it doesn't begin with `/`
abbrev pub Stays : {S : Type 0} → (S → ℕ → Option S) → S → S → List ℕ → Type 0
Stays next inside starred text =
    (HasNone (codes "*/") text → IsIn inside starred (state_after next inside text))
    × (HasNone (codes "*/") (asterisk ∷ text) → IsIn inside starred (state_after next starred text))

module _ {S : Type 0} (next : S → ℕ → Option S) (inside starred past : S)
    (row : (c : ℕ) → next inside c ≡ Some (comment_next inside starred c))
    (star_row : (c : ℕ) → next starred c ≡ Some (comment_star_next inside starred past c)) where
  inside_other : (c : ℕ) → c ≢ asterisk → next inside c ≡ Some inside
  inside_other c other = row c ∙ rw (ne_eqb c asterisk other) refl

  starred_other : (c : ℕ) → c ≢ slash → c ≢ asterisk → next starred c ≡ Some inside
  starred_other c other more = star_row c ∙ rw (ne_eqb c slash other, ne_eqb c asterisk more) refl

  along : (from to : S) (c : ℕ) (rest : List ℕ) → next from c ≡ Some to → IsIn inside starred (state_after next to rest)
      → IsIn inside starred (state_after next from (c ∷ rest))
  along from to c rest leads is = rw (state_after-cons next from to c rest leads) is

  from_inside : (c : ℕ) (rest : List ℕ) → (c ≡ asterisk) ⊎ (c ≢ asterisk) → HasNone (codes "*/") (c ∷ rest)
      → Stays next inside starred rest → IsIn inside starred (state_after next inside (c ∷ rest))
  from_inside c rest (inl is) none stays =
      along inside starred c rest (ap (next inside) is ∙ row asterisk)
      (stays.1 (subst (λ x. HasNone (codes "*/") (x ∷ rest)) is none))
  from_inside c rest (inr other) none stays =
      along inside inside c rest (inside_other c other) (stays.0 (HasNone-tail (codes "*/") c rest none))

  from_starred : (c : ℕ) (rest : List ℕ) → (c ≡ slash) ⊎ (c ≢ slash) → (c ≡ asterisk) ⊎ (c ≢ asterisk)
      → HasNone (codes "*/") (asterisk ∷ c ∷ rest) → Stays next inside starred rest
      → IsIn inside starred (state_after next starred (c ∷ rest))
  from_starred c rest (inl is) _ none stays = absurd (none [] rest (ap (λ x. asterisk ∷ x ∷ rest) is))
  from_starred c rest (inr other) (inl is) none stays =
      along starred starred c rest (ap (next starred) is ∙ star_row asterisk)
      (stays.1 (subst (λ x. HasNone (codes "*/") (x ∷ rest)) is
      (HasNone-tail (codes "*/") asterisk (c ∷ rest) none)))
  from_starred c rest (inr other) (inr more) none stays =
      along starred inside c rest (starred_other c other more)
      (stays.0 (HasNone-tail (codes "*/") c rest (HasNone-tail (codes "*/") asterisk (c ∷ rest) none)))

  -- a text without `*/` leads nowhere out of a comment
  pub stays_in_comment : (text : List ℕ) → Stays next inside starred text
  stays_in_comment [] = (λ none. inl refl, λ none. inr refl)
  stays_in_comment (c ∷ rest) = (
    λ none. from_inside c rest (cases_eq c asterisk) none (stays_in_comment rest),
    λ none. from_starred c rest
        (cases_eq c slash) (cases_eq c asterisk) none (stays_in_comment rest),
  )

  ends : (text : List ℕ) → IsIn inside starred (state_after next inside text)
      → state_after next inside (text ++ codes "*/") ≡ Some past
  ends text (inl is) =
      state_after-append_some next inside inside text (codes "*/") is
      ∙ (state_after-cons next inside starred asterisk (slash ∷ []) (row asterisk)
      ∙ state_after-cons next starred past slash [] (star_row slash))
  ends text (inr is) =
      state_after-append_some next inside starred text (codes "*/") is
      ∙ (state_after-cons next starred starred asterisk (slash ∷ []) (star_row asterisk)
      ∙ state_after-cons next starred past slash [] (star_row slash))

  -- a comment ends at its `*/`
  pub comment_ends : (text : List ℕ) → HasNone (codes "*/") text
      → state_after next inside (text ++ codes "*/") ≡ Some past
  comment_ends text none = ends text ((stays_in_comment text).0 none)

-- a character of a line stays in a line comment
js_next-in_line : (c : ℕ) → IsInLine c → js_next js.Line c ≡ Some js.Line
js_next-in_line c is =
    rw (
      ne_eqb c line_feed is.0,
      ne_eqb c carriage_return is.1,
      ne_eqb c line_separator is.2,
      ne_eqb c
          paragraph_separator is.3,
    ) refl

-- a line terminator leads out of it
js_next-line_terminator : (c : ℕ) → IsLineTerminator c → js_next js.Line c ≡ Some js.Code
js_next-line_terminator c (inl is) = ap (js_next js.Line) is
js_next-line_terminator c (inr (inl is)) = ap (js_next js.Line) is
js_next-line_terminator c (inr (inr (inl is))) = ap (js_next js.Line) is
js_next-line_terminator c (inr (inr (inr is))) = ap (js_next js.Line) is

-- a line's text stays in the comment
stays_in_line : (text : List ℕ) → IsLineText text → state_after js_next js.Line text ≡ Some js.Line
stays_in_line [] is = refl
stays_in_line (c ∷ rest) is =
    state_after-cons js_next js.Line js.Line c rest (js_next-in_line c (All-head IsInLine c rest is))
    ∙ stays_in_line rest (All-tail IsInLine c rest is)

-- a line comment ends at a line terminator
pub line_comment_ends : (text : List ℕ) (end : ℕ) → IsLineText text → IsLineTerminator end
    → state_after js_next js.Line (text ++ end ∷ []) ≡ Some js.Code
line_comment_ends text end is is_terminator =
    state_after-append_some js_next js.Line js.Line text (end ∷ []) (stays_in_line text is)
    ∙ state_after-cons js_next js.Line js.Code end [] (js_next-line_terminator end is_terminator)

-- a comment of a style leads to the same state from wherever it may begin
pub style_comment_begins : (state : CssState) (text : List ℕ) → IsStyleCode state
    → state_after css_next state (codes "/*" ++ text) ≡ state_after css_next css.Comment text
style_comment_begins state text outside =
    state_after-cons css_next state css.Slash slash (asterisk ∷ text) (style_code_next state slash refl outside)

-- what holds of both states of a comment holds after any text in it
pub either_state : {S : Type 0} (P : S → Type 0) (inside starred : S) (o : Option S) → IsIn inside starred o → P inside
    → P starred → IsSomeAnd o P
either_state P inside starred o (inl is) at_inside at_starred = rw is at_inside
either_state P inside starred o (inr is) at_inside at_starred = rw is at_starred

-- within a comment of a script no value is taken
pub within_block : (text : List ℕ) → HasNone (codes "*/") text
    → IsSomeAnd (state_after js_next js.Block text) (λ state. js_placing state ≡ placing.Refuses refusal.Place)
within_block text none =
    either_state (λ state. js_placing state ≡ placing.Refuses refusal.Place) js.Block js.BlockStar
    (state_after js_next js.Block text)
    ((stays_in_comment js_next js.Block js.BlockStar js.Code (λ c. refl) (λ c. refl) text).0 none) refl refl

-- nor within one that a line terminator ends
pub within_line : (text : List ℕ) → IsLineText text
    → IsSomeAnd (state_after js_next js.Line text) (λ state. js_placing state ≡ placing.Refuses refusal.Place)
within_line text is = rw (stays_in_line text is) refl

-- nor within a comment of a style
pub within_style_comment : (state : CssState) (text : List ℕ) → IsStyleCode state → HasNone (codes "*/") text
    → IsSomeAnd (state_after css_next state (codes "/*" ++ text))
    (λ after. css_placing after ≡ placing.Refuses refusal.Place)
within_style_comment state text outside none =
    rw (style_comment_begins state text outside)
    (either_state (λ after. css_placing after ≡ placing.Refuses refusal.Place) css.Comment css.CommentStar
    (state_after css_next css.Comment text)
    ((stays_in_comment css_next css.Comment css.CommentStar css.Code (λ c. refl) (λ c. refl) text).0 none) refl refl)

-- a whole comment of a style leads to Code
pub style_comment_ends : (state : CssState) (text : List ℕ) → IsStyleCode state → HasNone (codes "*/") text
    → state_after css_next state (codes "/*" ++ text ++ codes "*/") ≡ Some css.Code
style_comment_ends state text outside none =
    style_comment_begins state (text ++ codes "*/") outside
    ∙ comment_ends css_next css.Comment css.CommentStar css.Code (λ c. refl) (λ c. refl) text none
