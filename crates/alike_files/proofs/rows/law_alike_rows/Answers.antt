use Rattle.std.proofs.Common.{◌≡◌, ℕ, List, [], ◌∷◌, refl, ap, arith}
use Rattle.soy_tree.specs.Expressions.{Variable}
use Rattle.soy_tree.specs.Nodes.{Nodes, Print, node}
use Rattle.soy_tree.specs.Trees.{Template, Tree}
use Rattle.alike_files.proofs.rows.law_alike_rows.Goals as goal

-- the first character of the variable that a tree prints
abbrev first_code : List ℕ → ℕ
first_code [] = 0
first_code (c ∷ cs) = c

abbrev printed_code : Nodes → ℕ
printed_code (node (Print (Variable name inner) phname span) ns) = first_code name
printed_code _ = 0

abbrev template_code : List Template → ℕ
template_code [] = 0
template_code (t ∷ ts) = printed_code t.body

apart : ◌≡◌ {A = ℕ} 120 121 → ⊥
apart e = omega (arith, e)

pub returns-clause-alike : goal.returns-clause-alike
returns-clause-alike c = (refl, tt)

pub returns-clause-other_name : goal.returns-clause-other_name
returns-clause-other_name c = λ h. apart (ap (λ (t : Tree). template_code t.templates) h.0)

pub returns-clause-fewer : goal.returns-clause-fewer
returns-clause-fewer c = λ h. h

pub returns-clause-refused : goal.returns-clause-refused
returns-clause-refused c = refl

pub returns-clause-without_position : goal.returns-clause-without_position
returns-clause-without_position c = refl
