-- The templates of a file, one after the other.
use Rattle.std.proofs.Common.{◌≡◌, ℕ, zero, suc, ◌+◌, ◌<◌, List, [], ◌∷◌, ◌++◌, drop, length, map, arith}
use Rattle.std.proofs.Common.{slice_index_or}
use Rattle.std.proofs.Common.{refl, sym, ap, ◌∙◌}
use Rattle.std.specs.Prelude.{codes}
use Rattle.soy_tree.specs.declared.tree.Template.{Template}
use Rattle.soy_tree.specs.Trees as trees
use Rattle.soy_tree.specs.ViewTrees.{view_template}
use Rattle.soy_format.specs.Formatted.{formatted_template, formatted_templates}
use Rattle.soy_format.proofs.Pushes.{append_assoc}

-- the template at an index stands before those from the next index on
templates_drop : (ts : List Template) (n : ℕ) (t : Template) → n < length ts → t ≡ slice_index_or ts n t
    → map view_template (drop n ts) ≡ view_template t ∷ map view_template (drop (n + 1) ts)
templates_drop [] n t below is = absurd (omega arith)
templates_drop (x ∷ ts) zero t below is = rw is refl
templates_drop (x ∷ ts) (suc n) t below is =
    let e : suc n + 1 ≡ suc (n + 1) = omega arith in rw e (templates_drop ts n t (omega arith) is)

-- what is left of a file of which a line break and a template were added
pub template_step : (ts : List Template) (n : ℕ) (t : Template) (old mid new whole : List ℕ) → n < length ts
    → t ≡ slice_index_or ts n t → mid ≡ old ++ codes "\n" → new ≡ mid ++ formatted_template (view_template t)
    → old ++ formatted_templates (map view_template (drop n ts)) ≡ whole
    → new ++ formatted_templates (map view_template (drop (n + 1) ts)) ≡ whole
template_step ts n t old mid new whole below is e f inv =
    let text : List ℕ = formatted_template (view_template t) in
    let rest : List ℕ = formatted_templates (map view_template (drop (n + 1) ts)) in
    ap (λ (l : List ℕ). l ++ rest) (f ∙ ap (λ (l : List ℕ). l ++ text) e)
    ∙ (append_assoc (old ++ codes "\n") text rest
    ∙ (append_assoc old (codes "\n") (text ++ rest)
    ∙ (ap (λ (l : List trees.Template). old ++ formatted_templates l) (sym (templates_drop ts n t below is)) ∙ inv)))
