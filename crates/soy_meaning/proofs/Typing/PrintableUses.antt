-- What the placeholders of a typed message print is typed.
use Rattle.std.proofs.Common.{◌≡◌, ℕ, Bool, true, false, List, [], ◌∷◌, ◌++◌, Option, Some, None, if◌then◌else◌, refl}
use Rattle.std.proofs.Common.{subst}
use Rattle.std.specs.Prelude.{option_map, ◌&&◌, ◌==◌}
use Rattle.soy_base.specs.Characters.{less_than}
use Rattle.soy_base.specs.declared.fault.Span.{Span}
use Rattle.soy_rules.specs.Bodies.{Around}
use Rattle.soy_tree.specs.MessageText.{MessageItem, Character, Printed, Cut, TextCut, PrintCut, TagCut, characters}
use Rattle.soy_tree.specs.MessageText.{cuts_after_text, cuts_in_tag, cuts_of, ends_tag, goes_on_as_tag, joined_items}
use Rattle.soy_tree.specs.MessageText.{message_items, quote_after, text_cut}
use Rattle.soy_tree.specs.Nodes.{Nodes, Message, MessageBody, PluralCases, SelectCases, TextNode, Print, If, Switch}
use Rattle.soy_tree.specs.Nodes.{For, Let, LetBlock, Call, MessageNode, no_node, node, message, Parts, Plural, Select}
use Rattle.soy_tree.specs.Nodes.{no_plural_case, plural_case, no_select_case, select_case}
use Rattle.soy_rules.specs.Placeholders.{Use, body_uses, cut_uses, found_uses, plural_uses, select_uses}
use Rattle.soy_rules.specs.TypeOf.{Scope}
use Rattle.soy_rules.specs.Placeholders.{uses_of}
use Rattle.soy_meaning.proofs.Typing.TypedNodes.{BodyTyped, CutPrintable, ItemsPrintable, MessageTyped, NodesTyped}
use Rattle.soy_meaning.proofs.Typing.TypedNodes.{PluralTyped}
use Rattle.soy_meaning.proofs.Typing.TypedNodes.{SelectTyped, UsesPrintable}

abbrev CutsPrintable : List Cut → Scope → Type 0
CutsPrintable [] scope = Unit {0}
CutsPrintable (cut ∷ more) scope = CutPrintable (Some cut) scope × CutsPrintable more scope

is_listed : {A : Type 0} (x y : List A) → Some x ≡ Some y → x ≡ y
is_listed x y e = cc

none_listed : {A P : Type 0} (x : A) → ◌≡◌ {A = Option A} None (Some x) → P
none_listed x e = let no : ⊥ = cc in absurd no

items_joined : (scope : Scope) (first more : List MessageItem) → ItemsPrintable first scope
    → ItemsPrintable more scope → ItemsPrintable (first ++ more) scope
items_joined scope [] more h k = k
items_joined scope (Character c span ∷ first) more h k = items_joined scope first more h k
items_joined scope (Printed e phname span ∷ first) more h k = (h.0, items_joined scope first more h.1 k)

text_printable : (text : List ℕ) (span : Span) (scope : Scope) → ItemsPrintable (characters text span) scope
text_printable [] span scope = tt
text_printable (c ∷ text) span scope = text_printable text span scope

joined_printable : (scope : Scope) (first : List MessageItem) (rest : Option (List MessageItem))
    (items : List MessageItem) → ItemsPrintable first scope
    → ((more : List MessageItem) → rest ≡ Some more → ItemsPrintable more scope)
    → joined_items (Some first) rest ≡ Some items → ItemsPrintable items scope
joined_printable scope first None items h later is = none_listed items is
joined_printable scope first (Some more) items h later is =
    subst (λ l. ItemsPrintable l scope) (is_listed (first ++ more) items is)
    (items_joined scope first more h (later more refl))

module _ (a : Around) where
  items_printable : (ns : Nodes) (scope : Scope) (items : List MessageItem) → NodesTyped a ns scope
      → message_items ns ≡ Some items → ItemsPrintable items scope
  items_printable no_node scope items typed is = subst (λ l. ItemsPrintable l scope) (is_listed [] items is) tt
  items_printable (node (TextNode text span) ns) scope items typed is =
      joined_printable scope (characters text span) (message_items ns) items (text_printable text span scope)
      (λ more there. items_printable ns scope more typed.1 there) is
  items_printable (node (Print e phname span) ns) scope items typed is =
      joined_printable scope (Printed e phname span ∷ []) (message_items ns) items (typed.0, tt)
      (λ more there. items_printable ns scope more typed.1 there) is
  items_printable (node (If arms other span) ns) scope items typed is = none_listed items is
  items_printable (node (Switch e cases other span) ns) scope items typed is = none_listed items is
  items_printable (node (For name index e body span) ns) scope items typed is = none_listed items is
  items_printable (node (Let name e span) ns) scope items typed is = none_listed items is
  items_printable (node (LetBlock name kind body span) ns) scope items typed is = none_listed items is
  items_printable (node (Call name all given span) ns) scope items typed is = none_listed items is
  items_printable (node (MessageNode m other span) ns) scope items typed is = none_listed items is

cuts_joined : (scope : Scope) (first more : List Cut) → CutsPrintable first scope → CutsPrintable more scope
    → CutsPrintable (first ++ more) scope
cuts_joined scope [] more h k = k
cuts_joined scope (cut ∷ first) more h k = (h.0, cuts_joined scope first more h.1 k)

text_cut_printable : (scope : Scope) (text : List MessageItem) → CutsPrintable (text_cut text) scope
text_cut_printable scope [] = tt
text_cut_printable scope (p ∷ text) = (tt, tt)

mapped_cuts : (scope : Scope) (f : List Cut → List Cut) (found : Option (List Cut)) (all : List Cut)
    → ((more : List Cut) → found ≡ Some more → CutsPrintable (f more) scope) → option_map f found ≡ Some all
    → CutsPrintable all scope
mapped_cuts scope f None all h is = none_listed all is
mapped_cuts scope f (Some more) all h is =
    subst (λ l. CutsPrintable l scope) (is_listed (f more) all is) (h more refl)

found_if : (test : Bool) (one other : Option (List Cut)) (P : Type 0) (all : List Cut) → (one ≡ Some all → P)
    → (other ≡ Some all → P) → (if test then one else other) ≡ Some all → P
found_if true one other P all f g is = f is
found_if false one other P all f g is = g is

mutual
  after_text : (scope : Scope) (items text : List MessageItem) (all : List Cut) → ItemsPrintable items scope
      → cuts_after_text items text ≡ Some all → CutsPrintable all scope
  after_text scope [] text all h is =
      subst (λ l. CutsPrintable l scope) (is_listed (text_cut text) all is) (text_cut_printable scope text)
  after_text scope (Printed e phname span ∷ rest) text all h is =
      mapped_cuts scope (λ more. text_cut text ++ PrintCut e phname span ∷ more) (cuts_after_text rest []) all
      (λ more there. cuts_joined scope (text_cut text) (PrintCut e phname span ∷ more) (text_cut_printable scope text)
      (h.0, after_text scope rest [] more h.1 there)) is
  after_text scope (Character c span ∷ rest) text all h is =
      found_if (c == less_than && goes_on_as_tag rest)
      (option_map (λ more. text_cut text ++ more) (cuts_in_tag rest None (Character c span ∷ [])))
      (cuts_after_text rest (text ++ Character c span ∷ [])) (CutsPrintable all scope) all
      (λ tagged. mapped_cuts scope (λ more. text_cut text ++ more) (cuts_in_tag rest None (Character c span ∷ [])) all
      (λ more there. cuts_joined scope (text_cut text) more (text_cut_printable scope text)
      (in_tag scope rest None (Character c span ∷ []) more h tt there)) tagged)
      (λ plain. after_text scope rest (text ++ Character c span ∷ []) all h plain) is

  in_tag : (scope : Scope) (items : List MessageItem) (quote : Option ℕ) (tag : List MessageItem) (all : List Cut)
      → ItemsPrintable items scope → ItemsPrintable tag scope → cuts_in_tag items quote tag ≡ Some all
      → CutsPrintable all scope
  in_tag scope [] quote tag all h k is = none_listed all is
  in_tag scope (Printed e phname span ∷ rest) quote tag all h k is =
      in_tag scope rest quote (tag ++ Printed e phname span ∷ []) all h.1
      (items_joined scope tag (Printed e phname span ∷ []) k (h.0, tt)) is
  in_tag scope (Character c span ∷ rest) quote tag all h k is =
      let longer : ItemsPrintable (tag ++ Character c span ∷ []) scope =
      items_joined scope tag (Character c span ∷ []) k tt in
      found_if (ends_tag quote c)
      (option_map (λ more. TagCut (tag ++ Character c span ∷ []) ∷ more) (cuts_after_text rest []))
      (cuts_in_tag rest (quote_after quote c) (tag ++ Character c span ∷ [])) (CutsPrintable all scope) all
      (λ ended. mapped_cuts scope (λ more. TagCut (tag ++ Character c span ∷ []) ∷ more) (cuts_after_text rest []) all
      (λ more there. (longer, after_text scope rest [] more h there)) ended)
      (λ open_. in_tag scope rest (quote_after quote c) (tag ++ Character c span ∷ []) all h longer open_) is

uses_of_cuts : (scope : Scope) (all : List Cut) → CutsPrintable all scope → UsesPrintable (cut_uses all) scope
uses_of_cuts scope [] h = tt
uses_of_cuts scope (TextCut text ∷ all) h = uses_of_cuts scope all h.1
uses_of_cuts scope (PrintCut e phname span ∷ all) h = (h.0, uses_of_cuts scope all h.1)
uses_of_cuts scope (TagCut tag ∷ all) h = (h.0, uses_of_cuts scope all h.1)

found_printable : (scope : Scope) (found : Option (List Cut))
    → ((all : List Cut) → found ≡ Some all → CutsPrintable all scope) → UsesPrintable (found_uses found) scope
found_printable scope None h = tt
found_printable scope (Some all) h = uses_of_cuts scope all (h all refl)

cut_found : (scope : Scope) (found : Option (List MessageItem))
    → ((items : List MessageItem) → found ≡ Some items → ItemsPrintable items scope) → (all : List Cut)
    → cuts_of found ≡ Some all → CutsPrintable all scope
cut_found scope None h all is = none_listed all is
cut_found scope (Some items) h all is = after_text scope items [] all (h items refl) is

uses_joined : (scope : Scope) (uses more : List Use) → UsesPrintable uses scope → UsesPrintable more scope
    → UsesPrintable (uses ++ more) scope
uses_joined scope [] more h k = k
uses_joined scope (u ∷ uses) more h k = (h.0, uses_joined scope uses more h.1 k)

module _ (a : Around) where
  mutual
    body_printable : (body : MessageBody) (scope : Scope) → BodyTyped a body scope
        → UsesPrintable (body_uses body) scope
    body_printable (Parts ns) scope h =
        found_printable scope (cuts_of (message_items ns))
        (cut_found scope (message_items ns) (λ items is. items_printable a ns scope items h is))
    body_printable (Plural e offset cases other) scope h = (
      tt,
      uses_joined scope (plural_uses cases) (body_uses other) (plural_printable cases scope h.0)
          (body_printable other scope h.1),
    )
    body_printable (Select e cases other) scope h = (
      tt,
      uses_joined scope (select_uses cases) (body_uses other) (select_printable cases scope h.0)
          (body_printable other scope h.1),
    )

    plural_printable : (cases : PluralCases) (scope : Scope) → PluralTyped a cases scope
        → UsesPrintable (plural_uses cases) scope
    plural_printable no_plural_case scope h = tt
    plural_printable (plural_case n body cases) scope h =
        uses_joined scope (body_uses body) (plural_uses cases) (body_printable body scope h.0)
        (plural_printable cases scope h.1)

    select_printable : (cases : SelectCases) (scope : Scope) → SelectTyped a cases scope
        → UsesPrintable (select_uses cases) scope
    select_printable no_select_case scope h = tt
    select_printable (select_case word body cases) scope h =
        uses_joined scope (body_uses body) (select_uses cases) (body_printable body scope h.0)
        (select_printable cases scope h.1)

  pub message_printable : (m : Message) (scope : Scope) → MessageTyped a m scope → UsesPrintable (uses_of m) scope
  message_printable (message desc meaning body span) scope h = body_printable body scope h
