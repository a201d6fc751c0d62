-- The canonical text and the id of a message read none of its spans.
use Rattle.std.proofs.Common.{◌≡◌, Bool, true, false, List, [], ◌∷◌, ◌++◌, map, Option, Some, None, refl, ap, ◌∙◌}
use Rattle.std.specs.Prelude.{codes, option_map}
use Rattle.soy_base.specs.Characters.{left_brace, right_brace}
use Rattle.soy_rules.specs.BaseNames.{base_of_expr, base_of_print, base_of_tag}
use Rattle.soy_tree.specs.Expressions.{Expr}
use Rattle.soy_tree.specs.MessageText.{Character, Cut, MessageItem, PrintCut, Printed, TagCut, TextCut, cuts_of}
use Rattle.soy_tree.specs.MessageText.{message_items}
use Rattle.soy_tree.specs.Nodes.{Message, MessageBody, PluralCases, SelectCases, message, Parts, Plural, Select}
use Rattle.soy_tree.specs.Nodes.{no_plural_case, plural_case, no_select_case, select_case}
use Rattle.soy_rules.specs.Placeholders.{ExprContent, TagContent, Use, body_uses, name_of}
use Rattle.soy_tree.specs.Types.{Name}
use Rattle.msg_extract.specs.Canonical.CanonicalText.{canonical_text, text_of_items, written_body, written_case}
use Rattle.msg_extract.specs.Canonical.CanonicalText.{written_cuts}
use Rattle.msg_extract.specs.Canonical.CanonicalText.{written_found, written_name, written_offset, written_plural_cases}
use Rattle.msg_extract.specs.Canonical.CanonicalText.{written_select_cases}
use Rattle.msg_extract.specs.MessageId.{id_of}
use Rattle.soy_format.specs.WithoutSpans.{body_without_spans, expr_without_spans, message_without_spans}
use Rattle.soy_format.specs.WithoutSpans.{plural_cases_without_spans}
use Rattle.soy_format.specs.WithoutSpans.{select_cases_without_spans}
use Rattle.alike_files.proofs.BaseNames.{base_of_expr_same, base_of_print_same, base_of_tag_same}
use Rattle.alike_files.proofs.MessageCuts.{cut_without_spans, cuts_same, items_without_spans}
use Rattle.alike_files.proofs.PlaceholderNames.{body_uses_same, name_of_same, uses_without_spans}

pub text_same : (items : List MessageItem) → text_of_items (items_without_spans items) ≡ text_of_items items
text_same [] = refl
text_same (Character c span ∷ items) = rw (text_same items) refl
text_same (Printed e phname span ∷ items) = text_same items

module _ (uses : List Use) where
  print_name : (e : Expr) (phname : Option Name)
      → name_of (uses_without_spans uses) (base_of_print (expr_without_spans e) phname)
      (ExprContent (expr_without_spans e))
      ≡ name_of uses (base_of_print e phname) (ExprContent e)
  print_name e phname =
      ap (λ base. name_of (uses_without_spans uses) base (ExprContent (expr_without_spans e)))
      (base_of_print_same e phname)
      ∙ name_of_same uses (base_of_print e phname) (ExprContent e)

  tag_name : (tag : List MessageItem)
      → name_of (uses_without_spans uses) (base_of_tag (items_without_spans tag))
      (TagContent (items_without_spans tag))
      ≡ name_of uses (base_of_tag tag) (TagContent tag)
  tag_name tag =
      ap (λ base. name_of (uses_without_spans uses) base (TagContent (items_without_spans tag)))
      (base_of_tag_same tag)
      ∙ name_of_same uses (base_of_tag tag) (TagContent tag)

  selector_name : (e : Expr)
      → name_of (uses_without_spans uses) (base_of_expr (expr_without_spans e)) (ExprContent (expr_without_spans e))
      ≡ name_of uses (base_of_expr e) (ExprContent e)
  selector_name e =
      ap (λ base. name_of (uses_without_spans uses) base (ExprContent (expr_without_spans e))) (base_of_expr_same e)
      ∙ name_of_same uses (base_of_expr e) (ExprContent e)

  cuts_written : (in_plural : Bool) (cuts : List Cut)
      → written_cuts (uses_without_spans uses) in_plural (map cut_without_spans cuts)
      ≡ written_cuts uses in_plural cuts
  cuts_written in_plural [] = refl
  cuts_written in_plural (TextCut items ∷ cuts) = rw (text_same items, cuts_written in_plural cuts) refl
  cuts_written in_plural (PrintCut e phname span ∷ cuts) =
      ap (λ name. written_name name ++ written_cuts (uses_without_spans uses) in_plural (map cut_without_spans cuts))
      (print_name e phname)
      ∙ ap (λ text. written_name (name_of uses (base_of_print e phname) (ExprContent e)) ++ text)
      (cuts_written in_plural cuts)
  cuts_written in_plural (TagCut tag ∷ cuts) =
      ap (λ name. written_name name ++ written_cuts (uses_without_spans uses) in_plural (map cut_without_spans cuts))
      (tag_name tag)
      ∙ ap (λ text. written_name (name_of uses (base_of_tag tag) (TagContent tag)) ++ text)
      (cuts_written in_plural cuts)

  found_written : (in_plural : Bool) (o : Option (List Cut))
      → written_found (uses_without_spans uses) in_plural (option_map (map cut_without_spans) o)
      ≡ written_found uses in_plural o
  found_written in_plural None = refl
  found_written in_plural (Some cuts) = cuts_written in_plural cuts

  mutual
    body_written : (in_plural : Bool) (b : MessageBody)
        → written_body (uses_without_spans uses) in_plural (body_without_spans b) ≡ written_body uses in_plural b
    body_written in_plural (Parts ns) = rw (cuts_same ns) (found_written in_plural (cuts_of (message_items ns)))
    body_written in_plural (Plural e offset cases other) =
        rw (plural_cases_written cases, body_written true other)
        (ap (λ name. left_brace ∷ (name ++ (codes ", plural, " ++ (written_offset offset
        ++ (written_plural_cases uses cases
        ++ (written_case (codes "other") (written_body uses true other) ++ right_brace ∷ []))))))
        (selector_name e))
    body_written in_plural (Select e cases other) =
        rw (select_cases_written cases, body_written false other)
        (ap (λ name. left_brace ∷ (name ++ (codes ", select, " ++ (written_select_cases uses cases
        ++ (written_case (codes "other") (written_body uses false other) ++ right_brace ∷ [])))))
        (selector_name e))

    plural_cases_written : (cases : PluralCases)
        → written_plural_cases (uses_without_spans uses) (plural_cases_without_spans cases)
        ≡ written_plural_cases uses cases
    plural_cases_written no_plural_case = refl
    plural_cases_written (plural_case n body cases) = rw (body_written true body, plural_cases_written cases) refl

    select_cases_written : (cases : SelectCases)
        → written_select_cases (uses_without_spans uses) (select_cases_without_spans cases)
        ≡ written_select_cases uses cases
    select_cases_written no_select_case = refl
    select_cases_written (select_case word body cases) =
        rw (body_written false body, select_cases_written cases) refl

-- **the canonical text**
pub canonical_same : (b : MessageBody) → canonical_text (body_without_spans b) ≡ canonical_text b
canonical_same b = rw (body_uses_same b) (body_written (body_uses b) false b)

-- **the id**
pub id_same : (m : Message) → id_of (message_without_spans m) ≡ id_of m
id_same (message desc meaning body span) = rw (canonical_same body) refl
