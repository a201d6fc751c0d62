-- What is written to the output once the input was accepted: its text, and how it ends.
--
-- It is whole, or it ends before a call that nests too deep, whose line is then for standard error.
-- Example: a page of a template that calls itself without end is the text up to the call at the depth of 101.
use Rattle.std.specs.Prelude.{ℕ, List, [], ◌∷◌}
use Rattle.soy_top.specs.Answer.{Answer, Done, TooDeep}

pub data End : Type 0 where
  Whole : End
  -- the line, without its line break
  AtCall : List ℕ → End

pub record Output : Type 0 where
  pub text : List ℕ
  pub end : End

-- a fact where the text is empty
abbrev pub OnEmpty : List ℕ → Type 0 → Type 0
OnEmpty [] P = P
OnEmpty (c ∷ text) P = Unit {0}

-- a fact where nothing is for the output, since the text ends too deep before its first character
abbrev pub OnNoText : List ℕ → End → Type 0 → Type 0
OnNoText text Whole P = Unit {0}
OnNoText text (AtCall line) P = OnEmpty text P

-- the answer that it is
abbrev pub ended_answer : List ℕ → End → Answer
ended_answer text Whole = Done text
ended_answer text (AtCall line) = TooDeep text line

abbrev pub output_answer : Output → Answer
output_answer output = ended_answer output.text output.end
