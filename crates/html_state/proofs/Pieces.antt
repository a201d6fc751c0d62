-- The state after a text: in pieces, and where the text stays within something.
use Rattle.std.proofs.Common.{◌≡◌, ℕ, Bool, true, false, not, ◌&&◌, ◌||◌, List, [], ◌∷◌, ◌++◌, refl, ap, ◌∙◌}
use Rattle.std.proofs.lemmas.Bool.{and_parts}
use Rattle.std.specs.Prelude.{Option, Some, None, Result, Ok, Err, IsTrue, option_and_then}
use Rattle.soy_base.specs.Among.{is_one_of, lacks}
use Rattle.soy_base.specs.StateAfter.{state_after}
use Rattle.soy_base.specs.declared.code.Code.{Code}
use Rattle.html_state.specs.AfterAll.{after_all}
use Rattle.html_state.specs.Texts.{and_then}
use Rattle.html_state.specs.ValueNext.{followed}

-- two pieces are read one after the other
pub after_all-append : {S A : Type 0} (step : S → A → Result S Code) (now : S) (first second : List A) →
    after_all step now (first ++ second) ≡ and_then (λ middle. after_all step middle second)
    (after_all step now first)
after_all-append step now [] second = refl
after_all-append step now (c ∷ first) second =
    elim (step now c) as (λ o. and_then (λ past. after_all step past (first ++ second)) o
    ≡ and_then (λ middle. after_all step middle second) (and_then (λ past. after_all step past first) o))
    [ Ok past ↦ after_all-append step past first second | Err fault ↦ refl ]

-- a text of characters that each stay within something is read within it
module _ {S X : Type 0} (step : S → ℕ → Result S Code) (inner : X → ℕ → Result X Code) (inside : X → S) (these : List ℕ)
    (one : (x : X) (c : ℕ) → not (is_one_of these c) ≡ true →
    step (inside x) c ≡ and_then (λ y. Ok (inside y)) (inner x c)) where
  pub within_text : (x : X) (text : List ℕ) → IsTrue (lacks these text) →
      after_all step (inside x) text ≡ and_then (λ y. Ok (inside y)) (after_all inner x text)
  within_text x [] none = refl
  within_text x (c ∷ rest) none =
      let parts = and_parts _ _ none in
      ap (and_then (λ s. after_all step s rest)) (one x c parts.0)
      ∙ elim (inner x c) as (λ o. and_then (λ s. after_all step s rest) (and_then (λ y. Ok (inside y)) o)
      ≡ and_then (λ y. Ok (inside y)) (and_then (λ y. after_all inner y rest) o))
      [ Ok y ↦ within_text y rest parts.1 | Err fault ↦ refl ]

-- what runs a table alone goes as the table does
module _ {X Y : Type 0} (table : X → ℕ → Option X) (holding : X → Y) (inner : Y → ℕ → Result Y Code)
    (one : (x : X) (c : ℕ) → inner (holding x) c ≡ followed holding (table x c)) where
  pub table_text : (x : X) (text : List ℕ) → after_all inner (holding x) text
      ≡ followed holding (state_after table x text)
  table_text x [] = refl
  table_text x (c ∷ rest) =
      ap (and_then (λ y. after_all inner y rest)) (one x c)
      ∙ elim (table x c) as (λ o. and_then (λ y. after_all inner y rest) (followed holding o)
      ≡ followed holding (option_and_then (λ s. state_after table s rest) o))
      [ Some s ↦ table_text s rest | None ↦ refl ]

-- what no character changes stays
pub still_text : {Y : Type 0} (inner : Y → ℕ → Result Y Code) (y : Y) → ((c : ℕ) → inner y c ≡ Ok y) → (text : List ℕ) →
    after_all inner y text ≡ Ok y
still_text inner y still [] = refl
still_text inner y still (c ∷ rest) = ap (and_then (λ z. after_all inner z rest)) (still c)
    ∙ still_text inner y still rest

-- a character that is none of these
pub none_of_one : (a : Bool) → not (a || false) ≡ true → a ≡ false
none_of_one true is = cc
none_of_one false is = refl

pub none_of_two : (a b : Bool) → not (a || (b || false)) ≡ true → (a ≡ false) × (b ≡ false)
none_of_two true b is = cc
none_of_two false true is = cc
none_of_two false false is = (refl, refl)

pub and_no : (b : Bool) → (b && false) ≡ false
and_no true = refl
and_no false = refl
