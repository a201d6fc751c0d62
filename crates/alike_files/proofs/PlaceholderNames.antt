-- The uses of names in a message and the names of its contents read none of its spans.
use Rattle.std.proofs.Common.{◌≡◌, ℕ, zero, suc, ◌+◌, List, [], ◌∷◌, ◌++◌, map, Option, Some, None}
use Rattle.std.proofs.Common.{bytes_eq, length, refl, sym, ap, ◌∙◌}
use Rattle.std.specs.Prelude.{option_map, ◌||◌, if◌then◌else◌}
use Rattle.std.specs.List.{list_any}
use Rattle.std.proofs.lemmas.List.{length-map, map-append}
use Rattle.soy_tree.specs.Expressions.{Expr, NullLiteral, BoolLiteral, IntLiteral, StringLiteral, Variable, Member}
use Rattle.soy_tree.specs.Expressions.{Index, Minus, Not, Binary, Coalesce, Conditional}
use Rattle.soy_tree.specs.MessageText.{Character, Cut, MessageItem, PrintCut, Printed, TagCut, TextCut, cuts_of}
use Rattle.soy_tree.specs.MessageText.{message_items}
use Rattle.soy_tree.specs.Nodes.{MessageBody, PluralCases, SelectCases, Parts, Plural, Select, no_plural_case}
use Rattle.soy_tree.specs.Nodes.{plural_case, no_select_case, select_case}
use Rattle.soy_rules.specs.Placeholders.{AsPlaceholder, AsPlural, AsSelect, Content, ExprContent, Role, TagContent, Use}
use Rattle.soy_rules.specs.Placeholders.{are_same_message_items, body_uses, content_name, contents_after, cut_uses}
use Rattle.soy_rules.specs.Placeholders.{found_uses, free_number, has_base, is_same_content, is_same_message_item}
use Rattle.soy_rules.specs.Placeholders.{name_of}
use Rattle.soy_rules.specs.Placeholders.{named_contents, numbered, numbered_name, plural_uses, select_uses}
use Rattle.soy_rules.specs.Placeholders.{with_content}
use Rattle.soy_rules.specs.SameExpression.{is_same_expr}
use Rattle.soy_tree.specs.Types.{Name}
use Rattle.soy_format.specs.WithoutSpans.{body_without_spans, expr_without_spans, plural_cases_without_spans}
use Rattle.soy_format.specs.WithoutSpans.{select_cases_without_spans}
use Rattle.alike_files.proofs.BaseNames.{base_of_expr_same, base_of_print_same, base_of_tag_same}
use Rattle.alike_files.proofs.ExpressionValues.{through_if}
use Rattle.alike_files.proofs.MessageCuts.{cut_without_spans, cuts_same, either_same, item_without_spans}
use Rattle.alike_files.proofs.MessageCuts.{items_without_spans}

abbrev pub content_without_spans : Content → Content
content_without_spans (ExprContent e) = ExprContent (expr_without_spans e)
content_without_spans (TagContent tag) = TagContent (items_without_spans tag)

abbrev pub role_without_spans : Role → Role
role_without_spans (AsPlaceholder cut) = AsPlaceholder (cut_without_spans cut)
role_without_spans (AsPlural e) = AsPlural (expr_without_spans e)
role_without_spans (AsSelect e) = AsSelect (expr_without_spans e)

abbrev pub use_without_spans : Use → Use
use_without_spans u =
    record { base = u.base; content = content_without_spans u.content; role = role_without_spans u.role }

abbrev pub uses_without_spans : List Use → List Use
uses_without_spans = map use_without_spans

-- ---- the same contents

same_expr_same : (e f : Expr) → is_same_expr (expr_without_spans e) (expr_without_spans f) ≡ is_same_expr e f
same_expr_same (NullLiteral s) (NullLiteral t) = refl
same_expr_same (BoolLiteral a s) (BoolLiteral b t) = refl
same_expr_same (IntLiteral m s) (IntLiteral n t) = refl
same_expr_same (StringLiteral a s) (StringLiteral b t) = refl
same_expr_same (Variable x s) (Variable y t) = refl
same_expr_same (Member a x p s) (Member b y q t) = rw (same_expr_same a b) refl
same_expr_same (Index a i p s) (Index b j q t) = rw (same_expr_same a b, same_expr_same i j) refl
same_expr_same (Minus a s) (Minus b t) = same_expr_same a b
same_expr_same (Not a s) (Not b t) = same_expr_same a b
same_expr_same (Binary f a c s) (Binary g b d t) = rw (same_expr_same a b, same_expr_same c d) refl
same_expr_same (Coalesce a c s) (Coalesce b d t) = rw (same_expr_same a b, same_expr_same c d) refl
same_expr_same (Conditional a c e s) (Conditional b d f t) =
    rw (same_expr_same a b, same_expr_same c d, same_expr_same e f) refl
same_expr_same _ _ = refl

same_item_same : (p q : MessageItem)
    → is_same_message_item (item_without_spans p) (item_without_spans q) ≡ is_same_message_item p q
same_item_same (Character c s) (Character d t) = refl
same_item_same (Printed e m s) (Printed f n t) = same_expr_same e f
same_item_same (Character c s) (Printed f n t) = refl
same_item_same (Printed e m s) (Character d t) = refl

same_items_same : (ps qs : List MessageItem)
    → are_same_message_items (items_without_spans ps) (items_without_spans qs) ≡ are_same_message_items ps qs
same_items_same [] [] = refl
same_items_same [] (q ∷ qs) = refl
same_items_same (p ∷ ps) [] = refl
same_items_same (p ∷ ps) (q ∷ qs) = rw (same_item_same p q, same_items_same ps qs) refl

same_content_same : (a b : Content)
    → is_same_content (content_without_spans a) (content_without_spans b) ≡ is_same_content a b
same_content_same (ExprContent e) (ExprContent f) = same_expr_same e f
same_content_same (TagContent ps) (TagContent qs) = same_items_same ps qs
same_content_same (ExprContent e) (TagContent qs) = refl
same_content_same (TagContent ps) (ExprContent f) = refl

-- ---- the uses of names

cut_uses_same : (cuts : List Cut) → cut_uses (map cut_without_spans cuts) ≡ uses_without_spans (cut_uses cuts)
cut_uses_same [] = refl
cut_uses_same (TextCut text ∷ cuts) = cut_uses_same cuts
cut_uses_same (PrintCut e phname span ∷ cuts) = rw (base_of_print_same e phname, cut_uses_same cuts) refl
cut_uses_same (TagCut tag ∷ cuts) = rw (base_of_tag_same tag, cut_uses_same cuts) refl

found_uses_same : (o : Option (List Cut))
    → found_uses (option_map (map cut_without_spans) o) ≡ uses_without_spans (found_uses o)
found_uses_same None = refl
found_uses_same (Some cuts) = cut_uses_same cuts

mutual
  pub body_uses_same : (b : MessageBody) → body_uses (body_without_spans b) ≡ uses_without_spans (body_uses b)
  body_uses_same (Parts ns) = rw (cuts_same ns) (found_uses_same (cuts_of (message_items ns)))
  body_uses_same (Plural e offset cases other) =
      rw (
        base_of_expr_same e,
        plural_uses_same cases,
        body_uses_same other,
        map-append use_without_spans (plural_uses cases) (body_uses other),
      ) refl
  body_uses_same (Select e cases other) =
      rw (
        base_of_expr_same e,
        select_uses_same cases,
        body_uses_same other,
        map-append use_without_spans (select_uses cases) (body_uses other),
      ) refl

  plural_uses_same : (cases : PluralCases)
      → plural_uses (plural_cases_without_spans cases) ≡ uses_without_spans (plural_uses cases)
  plural_uses_same no_plural_case = refl
  plural_uses_same (plural_case n body cases) =
      rw (
        body_uses_same body,
        plural_uses_same cases,
        map-append use_without_spans (body_uses body) (plural_uses cases),
      ) refl

  select_uses_same : (cases : SelectCases)
      → select_uses (select_cases_without_spans cases) ≡ uses_without_spans (select_uses cases)
  select_uses_same no_select_case = refl
  select_uses_same (select_case word body cases) =
      rw (
        body_uses_same body,
        select_uses_same cases,
        map-append use_without_spans (body_uses body) (select_uses cases),
      ) refl

-- ---- the names of contents

has_base_same : (base : Name) (uses : List Use) → has_base base (uses_without_spans uses) ≡ has_base base uses
has_base_same base [] = refl
has_base_same base (u ∷ uses) = ap (λ b. bytes_eq u.base base || b) (has_base_same base uses)

among_same : (content : Content) (contents : List Content)
    → list_any (is_same_content (content_without_spans content)) (map content_without_spans contents)
    ≡ list_any (is_same_content content) contents
among_same content [] = refl
among_same content (c ∷ contents) = rw (same_content_same content c, among_same content contents) refl

with_content_same : (contents : List Content) (content : Content)
    → with_content (map content_without_spans contents) (content_without_spans content)
    ≡ map content_without_spans (with_content contents content)
with_content_same contents content =
    rw (among_same content contents, sym (map-append content_without_spans contents (content ∷ [])))
    (through_if (map content_without_spans) (list_any (is_same_content content) contents) contents
    (contents ++ (content ∷ [])))

contents_same : (contents : List Content) (base : Name) (uses : List Use)
    → contents_after (map content_without_spans contents) base (uses_without_spans uses)
    ≡ map content_without_spans (contents_after contents base uses)
contents_same contents base [] = refl
contents_same contents base (u ∷ uses) =
    ap (λ l. contents_after l base (uses_without_spans uses))
    (either_same (map content_without_spans) (bytes_eq u.base base) (with_content contents u.content) contents _ _
    (with_content_same contents u.content) refl)
    ∙ contents_same (if bytes_eq u.base base then with_content contents u.content else contents) base uses

free_number_same : (tries : ℕ) (base : Name) (n : ℕ) (uses : List Use)
    → free_number tries base n (uses_without_spans uses) ≡ free_number tries base n uses
free_number_same zero base n uses = refl
free_number_same (suc tries) base n uses =
    rw (has_base_same (numbered_name base n) uses, free_number_same tries base (n + 1) uses) refl

abbrev named_without_spans : Content × Name → Content × Name
named_without_spans row = (content_without_spans row.0, row.1)

numbered_same : (base : Name) (uses : List Use) (n : ℕ) (contents : List Content)
    → numbered base (uses_without_spans uses) n (map content_without_spans contents)
    ≡ map named_without_spans (numbered base uses n contents)
numbered_same base uses n [] = refl
numbered_same base uses n (content ∷ contents) =
    let free : ℕ = free_number (length uses) base n uses in
    rw (
      length-map uses use_without_spans,
      free_number_same (length uses) base n uses,
      numbered_same base uses (free + 1) contents,
    ) refl

named_contents_same : (base : Name) (uses : List Use) (contents : List Content)
    → named_contents base (uses_without_spans uses) (map content_without_spans contents)
    ≡ map named_without_spans (named_contents base uses contents)
named_contents_same base uses [] = refl
named_contents_same base uses (content ∷ []) = refl
named_contents_same base uses (content ∷ (other ∷ contents)) =
    numbered_same base uses 1 (content ∷ (other ∷ contents))

content_name_same : (content : Content) (base : Name) (rows : List (Content × Name))
    → content_name (content_without_spans content) base (map named_without_spans rows) ≡ content_name content base rows
content_name_same content base [] = refl
content_name_same content base (row ∷ rows) =
    rw (same_content_same row.0 content, content_name_same content base rows) refl

-- **the name of a content**
pub name_of_same : (uses : List Use) (base : Name) (content : Content)
    → name_of (uses_without_spans uses) base (content_without_spans content) ≡ name_of uses base content
name_of_same uses base content =
    let contents : List Content = contents_after [] base uses in
    rw (contents_same [] base uses, named_contents_same base uses contents)
    (content_name_same content base (named_contents base uses contents))
