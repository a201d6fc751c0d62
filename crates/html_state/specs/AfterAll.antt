-- The state after a whole list, or the first fault in it: a step taken over all items in their order.
--
-- The items are the characters of a text, and the step that of static characters, `next`, or that of a value's
-- characters, `value_character_next`; or they are pieces.
-- Example: after `<b>` from data the state is data, and in `<b =` the `=` is fault 14.
use Rattle.std.specs.Prelude.{List, [], ◌∷◌, Result, Ok}
use Rattle.soy_base.specs.declared.code.Code.{Code}
use Rattle.html_state.specs.Texts.{and_then}

abbrev pub after_all : {S A : Type 0} → (S → A → Result S Code) → S → List A → Result S Code
after_all step now [] = Ok now
after_all step now (item ∷ rest) = and_then (λ following. after_all step following rest) (step now item)
