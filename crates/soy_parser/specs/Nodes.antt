-- What commands make: nodes, and lists of nodes in which neighbouring texts are one.
-- A text stands from the first of its commands that has characters, or from its first command where none has.
-- Example: a text of the run `a`, the command `{sp}` and the literal `b` is the text `a b`, from `a` on.
use Rattle.std.specs.Prelude.{ℕ, ℤ, List, [], ◌∷◌, map}
use Rattle.soy_base.specs.declared.fault.Span.{Span}
use Rattle.soy_tree.specs.declared.expr.Expr.{Expr}
use Rattle.soy_tree.specs.declared.node.Argument.{Argument}
use Rattle.soy_tree.specs.declared.node.Arm.{Arm, roll-Arm}
use Rattle.soy_tree.specs.declared.node.Case.{Case, roll-Case}
use Rattle.soy_tree.specs.declared.node.Form.{Form}
use Rattle.soy_tree.specs.declared.node.Given.{Given}
use Rattle.soy_tree.specs.declared.node.Message.{Message}
use Rattle.soy_tree.specs.declared.node.MessageBody.{MessageBody}
use Rattle.soy_tree.specs.declared.node.Node.{Node}
use Rattle.soy_tree.specs.declared.node.PluralCase.{PluralCase}
use Rattle.soy_tree.specs.declared.node.SelectCase.{SelectCase}

abbrev pub node_of : Form → Span → Node
node_of form span = record { form = form; span = span }

abbrev pub arm_of : Expr → List Node → Arm
arm_of when body = roll-Arm (record { when = when; body = body })

abbrev pub case_of : List Expr → List Node → Case
case_of values body = roll-Case (record { values = values; body = body })

abbrev pub argument_of : List ℕ → Given → Span → Argument
argument_of name given span = record { name = name; given = given; span = span }

abbrev pub whole_message : List ℕ → List ℕ → MessageBody → Span → Message
whole_message desc meaning body span = record { desc = desc; meaning = meaning; body = body; span = span }

-- a case for each of the values
abbrev pub plural_cases : List ℤ → MessageBody → List PluralCase
plural_cases values body = map (λ n. record { is = n; body = body }) values

abbrev pub select_cases : List (List ℕ) → MessageBody → List SelectCase
select_cases values body = map (λ word. record { is = word; body = body }) values

-- where the one text begins that two neighbouring texts are
abbrev pub text_start : List ℕ → List ℕ → Span → Span → ℕ
text_start [] (c ∷ cs) a b = b.start
text_start _ _ a b = a.start

abbrev pub text_span : List ℕ → List ℕ → Span → Span → Span
text_span text more a b = record { start = text_start text more a b; end = b.end }

-- the span of a template, and of a let or param that is a block: up to its closing command, where a fault of its end is
abbrev pub up_to : Span → Span → Span
up_to a b = record { start = a.start; end = b.start }
