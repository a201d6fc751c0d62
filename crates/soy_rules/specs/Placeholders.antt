-- The names of a message's placeholders and selectors.
-- Prints and selectors of the same expression have the same content, and so have tags of the same texts and prints. One
-- content of a base name has the base name as its name. Several have `_1`, `_2` and so on, in order of first
-- appearance; a number is passed over where the name so made is another base name of the message. The uses of names are
-- a message's prints, tags and selectors, in the order of its text; what a placeholder is, is the cut of the first use
-- that has its name and is no selector.
-- Example: a message with two contents of the base name NAME and one of NAME_1 has the names NAME_2, NAME_3 and NAME_1.
use Rattle.std.specs.Prelude.{ℕ, zero, suc, ◌+◌, Bool, true, false, ◌&&◌, ◌==◌, List, [], ◌∷◌, ◌++◌, length, Option}
use Rattle.std.specs.Prelude.{Some, None, if◌then◌else◌, bytes_eq}
use Rattle.std.specs.List.{list_any}
use Rattle.std.specs.Fmt.{decimal}
use Rattle.soy_base.specs.Characters.{underscore}
use Rattle.soy_tree.specs.Types.{Name}
use Rattle.soy_tree.specs.Expressions.{Expr}
use Rattle.soy_rules.specs.SameExpression.{is_same_expr}
use Rattle.soy_tree.specs.Nodes.{MessageBody, PluralCases, SelectCases, Parts, Plural, Select, no_plural_case}
use Rattle.soy_tree.specs.Nodes.{plural_case, no_select_case, select_case, Message, message}
use Rattle.soy_tree.specs.MessageText.{MessageItem, Character, Printed, Cut, TextCut, PrintCut, TagCut, message_items}
use Rattle.soy_tree.specs.MessageText.{cuts_of}
use Rattle.soy_rules.specs.BaseNames.{base_of_expr, base_of_print, base_of_tag}
use Rattle.std.specs.Option.{option_or}

pub data Content : Type 0 where
  ExprContent : Expr → Content
  TagContent : List MessageItem → Content

abbrev pub is_same_message_item : MessageItem → MessageItem → Bool
is_same_message_item (Character c s) (Character d t) = c == d
is_same_message_item (Printed e m s) (Printed f n t) = is_same_expr e f
is_same_message_item _ _ = false

abbrev pub are_same_message_items : List MessageItem → List MessageItem → Bool
are_same_message_items [] [] = true
are_same_message_items (p ∷ ps) (q ∷ qs) = is_same_message_item p q && are_same_message_items ps qs
are_same_message_items _ _ = false

abbrev pub is_same_content : Content → Content → Bool
is_same_content (ExprContent e) (ExprContent f) = is_same_expr e f
is_same_content (TagContent ps) (TagContent qs) = are_same_message_items ps qs
is_same_content _ _ = false

-- what a use of a name is: a placeholder of this cut, or a selector of a plural or select
pub data Role : Type 0 where
  AsPlaceholder : Cut → Role
  AsPlural : Expr → Role
  AsSelect : Expr → Role

pub record Use : Type 0 where
  pub base : Name
  pub content : Content
  pub role : Role

abbrev pub cut_uses : List Cut → List Use
cut_uses [] = []
cut_uses (TextCut text ∷ cuts) = cut_uses cuts
cut_uses (PrintCut e phname span ∷ cuts) =
    record { base = base_of_print e phname; content = ExprContent e; role = AsPlaceholder (PrintCut e phname span) }
    ∷ cut_uses cuts
cut_uses (TagCut tag ∷ cuts) =
    record { base = base_of_tag tag; content = TagContent tag; role = AsPlaceholder (TagCut tag) } ∷ cut_uses cuts

abbrev pub found_uses : Option (List Cut) → List Use
found_uses None = []
found_uses (Some cuts) = cut_uses cuts

abbrev mutual
  -- the uses of names, in the order of the text; a selector stands before its cases
  pub body_uses : MessageBody → List Use
  body_uses (Parts ns) = found_uses (cuts_of (message_items ns))
  body_uses (Plural e offset cases other) =
      record { base = base_of_expr e; content = ExprContent e; role = AsPlural e }
      ∷ (plural_uses cases ++ body_uses other)
  body_uses (Select e cases other) =
      record { base = base_of_expr e; content = ExprContent e; role = AsSelect e }
      ∷ (select_uses cases ++ body_uses other)

  pub plural_uses : PluralCases → List Use
  plural_uses no_plural_case = []
  plural_uses (plural_case n body cases) = body_uses body ++ plural_uses cases

  pub select_uses : SelectCases → List Use
  select_uses no_select_case = []
  select_uses (select_case word body cases) = body_uses body ++ select_uses cases

abbrev pub has_base : Name → List Use → Bool
has_base base uses = list_any (λ u. bytes_eq u.base base) uses

abbrev pub with_content : List Content → Content → List Content
with_content contents content =
    if list_any (is_same_content content) contents then contents else contents ++ content ∷ []

-- the contents of a base name, each once, in order of first appearance, after some
abbrev pub contents_after : List Content → Name → List Use → List Content
contents_after contents base [] = contents
contents_after contents base (u ∷ uses) =
    contents_after (if bytes_eq u.base base then with_content contents u.content else contents) base uses

abbrev pub numbered_name : Name → ℕ → Name
numbered_name base n = base ++ (underscore ∷ decimal n)

-- the first number from n on that makes no other base name; no more of them are taken than there are uses
abbrev pub free_number : ℕ → Name → ℕ → List Use → ℕ
free_number zero base n uses = n
free_number (suc tries) base n uses =
    if has_base (numbered_name base n) uses then free_number tries base (n + 1) uses else n

abbrev pub numbered : Name → List Use → ℕ → List Content → List (Content × Name)
numbered base uses n [] = []
numbered base uses n (content ∷ contents) =
    let free : ℕ = free_number (length uses) base n uses in
    (content, numbered_name base free) ∷ numbered base uses (free + 1) contents

abbrev pub named_contents : Name → List Use → List Content → List (Content × Name)
named_contents base uses (content ∷ []) = (content, base) ∷ []
named_contents base uses contents = numbered base uses 1 contents

abbrev pub content_name : Content → Name → List (Content × Name) → Name
content_name content base [] = base
content_name content base (row ∷ rows) = if is_same_content row.0 content then row.1 else content_name content base rows

-- the name of a content of a base name among the uses of a message
abbrev pub name_of : List Use → Name → Content → Name
name_of uses base content = content_name content base (named_contents base uses (contents_after [] base uses))

abbrev pub cut_of_role : Role → Option Cut
cut_of_role (AsPlaceholder cut) = Some cut
cut_of_role _ = None

-- what the placeholder of a name is, among uses of all uses of the message
abbrev pub placeholder_cut : Name → List Use → List Use → Option Cut
placeholder_cut name all [] = None
placeholder_cut name all (u ∷ uses) =
    if bytes_eq (name_of all u.base u.content) name
    then option_or (cut_of_role u.role) (placeholder_cut name all uses)
    else placeholder_cut name all uses

abbrev pub uses_of : Message → List Use
uses_of (message desc meaning body span) = body_uses body
