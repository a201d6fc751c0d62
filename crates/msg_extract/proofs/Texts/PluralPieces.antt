-- The pieces that a plural or select adds, one call after another.
use Rattle.std.proofs.Common.{◌≡◌, ℕ, Bool, true, false, List, [], ◌∷◌, ◌++◌, ap, ◌∙◌}
use Rattle.std.specs.Prelude.{codes}
use Rattle.soy_tree.specs.declared.expr.Expr as code_expr
use Rattle.soy_tree.specs.declared.node.MessageBody as code_body
use Rattle.soy_tree.specs.declared.node.PluralCase as code_plural_case
use Rattle.soy_tree.specs.declared.node.SelectCase as code_select_case
use Rattle.soy_rules.specs.BaseNames.{base_of_expr}
use Rattle.soy_rules.specs.Placeholders.{AsPlural, AsSelect, ExprContent}
use Rattle.soy_tree.specs.ViewExpressions.{view_expr}
use Rattle.soy_tree.specs.ViewNodes.{view_body, view_plural_cases, view_select_cases}
use Rattle.msg_extract.specs.Canonical.CanonicalText.{written_offset}
use Rattle.msg_extract.specs.Canonical.Pieces.{Piece, TextPiece, body_pieces, plural_case_pieces, select_case_pieces}
use Rattle.msg_extract.specs.Canonical.Pieces.{selector_pieces}
use Rattle.msg_extract.proofs.Texts.PieceLists.{six_added}
use Rattle.msg_extract.proofs.ViewBodies.{view_plural_is, view_select_is}

-- six lists, each made of the one before
six_steps : {A : Type 0} (p as_ : List A) (b : A) (cs : List A) (d : A) (es : List A) (f : A) (q r s t u w : List A)
    → q ≡ p ++ as_ → r ≡ q ++ (b ∷ []) → s ≡ r ++ cs → t ≡ s ++ (d ∷ []) → u ≡ t ++ es → w ≡ u ++ (f ∷ [])
    → w ≡ p ++ (as_ ++ (b ∷ (cs ++ (d ∷ (es ++ (f ∷ []))))))
six_steps p as_ b cs d es f q r s t u w e1 e2 e3 e4 e5 e6 =
    e6 ∙ (ap (λ x. x ++ (f ∷ [])) (e5 ∙ ap (λ x. x ++ es) (e4 ∙ ap (λ x. x ++ (d ∷ []))
    (e3 ∙ ap (λ x. x ++ cs) (e2 ∙ ap (λ x. x ++ (b ∷ [])) e1))))
    ∙ six_added p as_ b cs d es f)

pub plural_steps : (flag : Bool) (body : code_body.MessageBody) (e : code_expr.Expr) (offset : ℕ)
    (cases given : List code_plural_case.PluralCase) (other default : code_body.MessageBody)
    (p q r s t u w : List Piece) → body ≡ code_body.Plural e offset cases other → given ≡ cases → default ≡ other
    → q ≡ p ++ selector_pieces (record {
      base = base_of_expr (view_expr e);
      content = ExprContent (view_expr e);
      role = AsPlural (view_expr e);
    })
    → r ≡ q ++ (TextPiece (codes ", plural, " ++ written_offset offset) ∷ [])
    → s ≡ r ++ plural_case_pieces (view_plural_cases given) → t ≡ s ++ (TextPiece (codes "other {") ∷ [])
    → u ≡ t ++ body_pieces true (view_body default) → w ≡ u ++ (TextPiece (codes "}}") ∷ [])
    → w ≡ p ++ body_pieces flag (view_body body)
plural_steps flag body e offset cases given other default p q r s t u w is is_given is_default e1 e2 e3 e4 e5 e6 =
    rw (is, view_plural_is e offset cases other)
    (six_steps p _ _ _ _ _ _ q r s t u w e1 e2 (e3 ∙ ap (λ x. r ++ plural_case_pieces (view_plural_cases x)) is_given)
    e4 (e5 ∙ ap (λ x. t ++ body_pieces true (view_body x)) is_default) e6)

pub select_steps : (flag : Bool) (body : code_body.MessageBody) (e : code_expr.Expr)
    (cases given : List code_select_case.SelectCase) (other default : code_body.MessageBody)
    (p q r s t u w : List Piece) → body ≡ code_body.Select e cases other → given ≡ cases → default ≡ other
    → q ≡ p ++ selector_pieces (record {
      base = base_of_expr (view_expr e);
      content = ExprContent (view_expr e);
      role = AsSelect (view_expr e);
    })
    → r ≡ q ++ (TextPiece (codes ", select, ") ∷ [])
    → s ≡ r ++ select_case_pieces (view_select_cases given) → t ≡ s ++ (TextPiece (codes "other {") ∷ [])
    → u ≡ t ++ body_pieces false (view_body default) → w ≡ u ++ (TextPiece (codes "}}") ∷ [])
    → w ≡ p ++ body_pieces flag (view_body body)
select_steps flag body e cases given other default p q r s t u w is is_given is_default e1 e2 e3 e4 e5 e6 =
    rw (is, view_select_is e cases other)
    (six_steps p _ _ _ _ _ _ q r s t u w e1 e2 (e3 ∙ ap (λ x. r ++ select_case_pieces (view_select_cases x)) is_given)
    e4 (e5 ∙ ap (λ x. t ++ body_pieces false (view_body x)) is_default) e6)
