-- A tokenizer as paths and the walk see it: a record of functions on states.
--
-- A step reads a character of static text, and `text_end` asks whether a static text may end. The placing says what
-- happens to a value, and `value` is the state after one. A text of a kind begins in `start`, and `may_end` says where
-- it may end. `same` compares two states.
-- Example: the tokenizer of HTML is PageMachine; a machine with one state that takes each value is that of kind text.
use Rattle.std.specs.Prelude.{◌≡◌, ℕ, Bool, true, Result}
use Rattle.soy_base.specs.declared.code.Code.{Code}
use Rattle.soy_base.specs.declared.kind.Kind.{Kind}
use Rattle.soy_base.specs.declared.place.Placing.{Placing}

pub record Machine (S : Type 0) : Type 0 where
  pub same : S → S → Bool
  pub step : S → ℕ → Result S Code
  pub text_end : S → Result S Code
  pub placing : S → Placing
  pub value : S → S
  pub start : Kind → S
  pub may_end : Kind → S → Bool

-- its test of states is equality
pub record ComparesEqual {S : Type 0} (m : Machine S) : Type 0 where
  pub equal : (s t : S) → m.same s t ≡ true → s ≡ t
  pub itself : (s : S) → m.same s s ≡ true
