-- Two readings of a script that open the same have the same steps.
use Rattle.std.proofs.Common.{◌≡◌, ℕ, ◌+◌, List, [], ◌∷◌, Option, None, Some, refl, ap, ◌∙◌}
use Rattle.std.specs.Prelude.{Result}
use Rattle.soy_base.specs.declared.code.Code.{Code}
use Rattle.soy_tree.specs.Trees.{Param}
use Rattle.soy_tree.specs.Types.{Name}
use Rattle.soy_tree.specs.Values.{Value}
use Rattle.soy_top.specs.Scripts.Played.{PlayStep}
use Rattle.soy_top.specs.Scripts.Script.{ScriptLine, Open, Pull, Close, Publish, script_line}
use Rattle.soy_top.specs.Scripts.ScriptSteps.{and_steps, line_step, open_step, opening, steps_from}

module _ {E F : Type 0} (entry : Name → Option E) (params : E → List Param) (opens : E → Value → PlayStep)
    (other_entry : Name → Option F) (other_params : F → List Param) (other_opens : F → Value → PlayStep) where
  -- an `open` opens the same
  abbrev pub OpensSame : Name → List ℕ → Type 0
  OpensSame template json =
      open_step entry params opens (opening entry params template json)
      ≡ open_step other_entry other_params other_opens (opening other_entry other_params template json)

  abbrev pub LineSame : Option ScriptLine → Type 0
  LineSame line = line_step entry params opens line ≡ line_step other_entry other_params other_opens line

  pub line_same : (line : Option ScriptLine)
      → ((template : Name) (json : List ℕ) → line ≡ Some (Open template json) → OpensSame template json)
      → LineSame line
  line_same None same = refl
  line_same (Some (Open template json)) same = same template json refl
  line_same (Some (Pull name count)) same = refl
  line_same (Some (Close name)) same = refl
  line_same (Some (Publish bundle)) same = refl

  pub steps_same : ((template : Name) (json : List ℕ) → OpensSame template json)
      → (number : ℕ) (lines : List (List ℕ))
      → steps_from entry params opens number lines ≡ steps_from other_entry other_params other_opens number lines
  steps_same same number [] = refl
  steps_same same number (line ∷ lines) =
      ap (λ (r : Result PlayStep Code). and_steps number r (steps_from entry params opens (number + 1) lines))
      (line_same (script_line line) (λ template json is. same template json))
      ∙ ap (and_steps number (line_step other_entry other_params other_opens (script_line line)))
      (steps_same same (number + 1) lines)
