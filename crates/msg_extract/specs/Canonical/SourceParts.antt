-- The parts of a message's source, as a translation of it would have them.
-- Example: `{plural $n}{case 1}one{default}{$n}{/plural}` is one plural part with an arm for 1 and one for other.
use Rattle.std.specs.Prelude.{ℕ, false, List, [], ◌∷◌, ◌++◌, Option, Some, None, codes}
use Rattle.plural_rules.specs.declared.category.Category.TheVariants as category
use Rattle.soy_tree.specs.Nodes.{MessageBody, PluralCases, SelectCases, Parts, Plural, Select, no_plural_case}
use Rattle.soy_tree.specs.Nodes.{plural_case, no_select_case, select_case}
use Rattle.soy_tree.specs.MessageText.{Cut, TextCut, PrintCut, TagCut, cuts_of, message_items}
use Rattle.soy_tree.specs.MessageParts.{MsgParts, Placeholder, PluralPart, SelectPart, no_part, part}
use Rattle.soy_rules.specs.BaseNames.{base_of_expr, base_of_print, base_of_tag}
use Rattle.soy_rules.specs.Placeholders.{Use, ExprContent, TagContent, name_of, body_uses}
use Rattle.soy_rules.specs.IcuText.{Key, Exact, Named, exact_arms, named_arms, select_arms, with_text}
use Rattle.msg_extract.specs.Canonical.CanonicalText.{text_of_items}

module _ (uses : List Use) where
  abbrev pub cut_parts : List Cut → MsgParts
  cut_parts [] = no_part
  cut_parts (TextCut items ∷ cuts) = with_text (text_of_items items) (cut_parts cuts)
  cut_parts (PrintCut e phname span ∷ cuts) =
      part (Placeholder (name_of uses (base_of_print e phname) (ExprContent e))) (cut_parts cuts)
  cut_parts (TagCut tag ∷ cuts) = part (Placeholder (name_of uses (base_of_tag tag) (TagContent tag))) (cut_parts cuts)

  abbrev pub found_parts : Option (List Cut) → MsgParts
  found_parts None = no_part
  found_parts (Some cuts) = cut_parts cuts

  abbrev mutual
    pub body_parts : MessageBody → MsgParts
    body_parts (Parts ns) = found_parts (cuts_of (message_items ns))
    body_parts (Plural e offset cases other) =
        let arms : List (Key × MsgParts) = plural_case_parts cases ++ (Named category.Other, body_parts other) ∷ [] in
        part (PluralPart false (name_of uses (base_of_expr e) (ExprContent e)) offset (exact_arms [] arms)
        (named_arms [] arms)) no_part
    body_parts (Select e cases other) =
        part (SelectPart (name_of uses (base_of_expr e) (ExprContent e))
        (select_arms [] (select_case_parts cases ++ (codes "other", body_parts other) ∷ []))) no_part

    pub plural_case_parts : PluralCases → List (Key × MsgParts)
    plural_case_parts no_plural_case = []
    plural_case_parts (plural_case n body cases) = (Exact n, body_parts body) ∷ plural_case_parts cases

    pub select_case_parts : SelectCases → List (List ℕ × MsgParts)
    select_case_parts no_select_case = []
    select_case_parts (select_case word body cases) = (word, body_parts body) ∷ select_case_parts cases

abbrev pub source_parts : MessageBody → MsgParts
source_parts body = body_parts (body_uses body) body
