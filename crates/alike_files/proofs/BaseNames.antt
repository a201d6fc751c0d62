-- The base names of prints, selectors and tags read none of their spans.
use Rattle.std.proofs.Common.{◌≡◌, Bool, List, [], ◌∷◌, ◌++◌, Option, Some, None, refl, sym, ap, ◌∙◌}
use Rattle.std.specs.Prelude.{reverse, if◌then◌else◌}
use Rattle.std.proofs.lemmas.List.{map-append, reverse-append}
use Rattle.soy_rules.specs.BaseNames.{base_of_expr, base_of_print, base_of_tag, begins_as_closed, is_closed_tag}
use Rattle.soy_rules.specs.BaseNames.{is_end_tag, leading_name, tag_name}
use Rattle.soy_tree.specs.Expressions.{Expr, NullLiteral, BoolLiteral, IntLiteral, StringLiteral, Variable, Member}
use Rattle.soy_tree.specs.Expressions.{Index, Minus, Not, Binary, Coalesce, Conditional}
use Rattle.soy_tree.specs.MessageText.{Character, MessageItem, Printed}
use Rattle.soy_tree.specs.Types.{Name}
use Rattle.soy_format.specs.WithoutSpans.{expr_without_spans}
use Rattle.alike_files.proofs.ExpressionValues.{through_if}
use Rattle.alike_files.proofs.MessageCuts.{item_without_spans, items_without_spans}

pub base_of_expr_same : (e : Expr) → base_of_expr (expr_without_spans e) ≡ base_of_expr e
base_of_expr_same (NullLiteral span) = refl
base_of_expr_same (BoolLiteral b span) = refl
base_of_expr_same (IntLiteral n span) = refl
base_of_expr_same (StringLiteral text span) = refl
base_of_expr_same (Variable name span) = refl
base_of_expr_same (Member e name takes_null span) = refl
base_of_expr_same (Index e i takes_null span) = refl
base_of_expr_same (Minus e span) = refl
base_of_expr_same (Not e span) = refl
base_of_expr_same (Binary o a b span) = refl
base_of_expr_same (Coalesce a b span) = refl
base_of_expr_same (Conditional c a b span) = refl

pub base_of_print_same : (e : Expr) (phname : Option Name)
    → base_of_print (expr_without_spans e) phname ≡ base_of_print e phname
base_of_print_same e None = base_of_expr_same e
base_of_print_same e (Some phname) = refl

-- ---- tags

end_tag_same : (tag : List MessageItem) → is_end_tag (items_without_spans tag) ≡ is_end_tag tag
end_tag_same [] = refl
end_tag_same (first ∷ []) = refl
end_tag_same (first ∷ (Character c span ∷ rest)) = refl
end_tag_same (first ∷ (Printed e phname span ∷ rest)) = refl

leading_same : (items : List MessageItem) → leading_name (items_without_spans items) ≡ leading_name items
leading_same [] = refl
leading_same (Character c span ∷ rest) = rw (leading_same rest) refl
leading_same (Printed e phname span ∷ rest) = refl

tag_name_same : (tag : List MessageItem) → tag_name (items_without_spans tag) ≡ tag_name tag
tag_name_same [] = refl
tag_name_same (first ∷ []) = refl
tag_name_same (first ∷ (second ∷ rest)) =
    let is_end : Bool = is_end_tag (first ∷ (second ∷ rest)) in
    rw (
      end_tag_same (first ∷ (second ∷ rest)),
      through_if items_without_spans is_end rest (second ∷ rest),
      leading_same (if is_end then rest else second ∷ rest),
    ) refl

begins_closed_same : (items : List MessageItem)
    → begins_as_closed (items_without_spans items) ≡ begins_as_closed items
begins_closed_same [] = refl
begins_closed_same (last ∷ []) = refl
begins_closed_same (last ∷ (Character c span ∷ rest)) = refl
begins_closed_same (last ∷ (Printed e phname span ∷ rest)) = refl

reversed_same : (items : List MessageItem)
    → items_without_spans (reverse items) ≡ reverse (items_without_spans items)
reversed_same [] = refl
reversed_same (item ∷ items) =
    ap items_without_spans (reverse-append (item ∷ []) items)
    ∙ (map-append item_without_spans (reverse items) (item ∷ [])
    ∙ (ap (λ l. l ++ (item_without_spans item ∷ [])) (reversed_same items)
    ∙ sym (reverse-append (item_without_spans item ∷ []) (items_without_spans items))))

closed_same : (tag : List MessageItem) → is_closed_tag (items_without_spans tag) ≡ is_closed_tag tag
closed_same tag = ap begins_as_closed (sym (reversed_same tag)) ∙ begins_closed_same (reverse tag)

pub base_of_tag_same : (tag : List MessageItem) → base_of_tag (items_without_spans tag) ≡ base_of_tag tag
base_of_tag_same tag = rw (tag_name_same tag, end_tag_same tag, closed_same tag) refl
