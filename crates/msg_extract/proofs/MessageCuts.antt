-- The cuts of a formed message: texts are apart, and what has a name has one that is a name.
use Rattle.std.proofs.Common.{◌≡◌, ℕ, ◌==◌, ◌&&◌, ◌||◌, not, Bool, true, false, List, [], ◌∷◌, ◌++◌, Option, Some, None}
use Rattle.std.proofs.Common.{option_map, refl, ◌∙◌, ap, subst, append_assoc, IsTrue}
use Rattle.std.specs.Char.{is_ascii_alphabetic}
use Rattle.std.proofs.lemmas.Bool.{eqb-true}
use Rattle.soy_base.specs.Characters.{less_than, greater_than, slash}
use Rattle.soy_base.specs.Names.{is_name}
use Rattle.soy_base.specs.declared.fault.Span.{Span}
use Rattle.soy_tree.specs.Types.{Name}
use Rattle.soy_tree.specs.Expressions.{Expr, NullLiteral, BoolLiteral, IntLiteral, StringLiteral, Variable, Member}
use Rattle.soy_tree.specs.Expressions.{Index, Minus, Not, Binary, Coalesce, Conditional}
use Rattle.soy_tree.specs.Nodes.{Node, Nodes, TextNode, Print, If, Switch, For, Let, LetBlock, Call, MessageNode}
use Rattle.soy_tree.specs.Nodes.{no_node, node}
use Rattle.soy_tree.specs.MessageText.{MessageItem, Character, Printed, Cut, TextCut, PrintCut, TagCut, characters}
use Rattle.soy_tree.specs.MessageText.{node_message_items, joined_items, message_items, begins_with_letter}
use Rattle.soy_tree.specs.MessageText.{goes_on_as_tag, text_cut, quote_after, ends_tag, cuts_after_text, cuts_in_tag}
use Rattle.soy_tree.specs.MessageText.{cuts_of}
use Rattle.soy_rules.specs.BaseNames.{base_of_expr, base_of_print}
use Rattle.soy_tree.specs.Formed.{is_formed_expr, if_there, is_formed_node, are_formed_nodes, is_text, begins_with_text}
use Rattle.msg_extract.proofs.JoinedTests.{holds_or, and_left, and_right}
use Rattle.msg_extract.proofs.Naming.MessageNames.{IsTag, base_name}

abbrev pub Holds : {A : Type 0} → (A → Type 0) → Option A → Type 0
Holds P None = Unit {0}
Holds P (Some a) = P a

-- the base names of expressions

pub expr_base : (e : Expr) → is_formed_expr e ≡ true → IsTrue (is_name (base_of_expr e))
expr_base (NullLiteral span) h = refl
expr_base (BoolLiteral b span) h = refl
expr_base (IntLiteral n span) h = refl
expr_base (StringLiteral text span) h = refl
expr_base (Variable name span) h = base_name name h
expr_base (Member e name takes_null span) h = base_name name (and_right (is_formed_expr e) (is_name name) h)
expr_base (Index e i takes_null span) h = refl
expr_base (Minus e span) h = refl
expr_base (Not e span) h = refl
expr_base (Binary op a b span) h = refl
expr_base (Coalesce a b span) h = refl
expr_base (Conditional c a b span) h = refl

print_base : (e : Expr) (phname : Option Name) → (is_formed_expr e && if_there is_name phname) ≡ true
    → IsTrue (is_name (base_of_print e phname))
print_base e None h = expr_base e (and_left (is_formed_expr e) true h)
print_base e (Some phname) h = base_name phname (and_right (is_formed_expr e) (is_name phname) h)

-- items whose prints have names

abbrev pub AreItems : List MessageItem → Type 0
AreItems [] = Unit {0}
AreItems (Character c span ∷ items) = AreItems items
AreItems (Printed e phname span ∷ items) = IsTrue (is_name (base_of_print e phname)) × AreItems items

items_append : (a b : List MessageItem) → AreItems a → AreItems b → AreItems (a ++ b)
items_append [] b f g = g
items_append (Character c span ∷ a) b f g = items_append a b f g
items_append (Printed e phname span ∷ a) b f g = (f.0, items_append a b f.1 g)

text_items : (text : List ℕ) (span : Span) → AreItems (characters text span)
text_items [] span = tt
text_items (c ∷ cs) span = text_items cs span

node_items : (n : Node) → is_formed_node n ≡ true → Holds AreItems (node_message_items n)
node_items (TextNode text span) h = text_items text span
node_items (Print e phname span) h = (print_base e phname h, tt)
node_items (If arms other span) h = tt
node_items (Switch e cases other span) h = tt
node_items (For name index e body span) h = tt
node_items (Let name e span) h = tt
node_items (LetBlock name kind body span) h = tt
node_items (Call name all given span) h = tt
node_items (MessageNode m other span) h = tt

joined : (a b : Option (List MessageItem)) → Holds AreItems a → Holds AreItems b → Holds AreItems (joined_items a b)
joined None None f g = tt
joined None (Some b) f g = tt
joined (Some a) None f g = tt
joined (Some a) (Some b) f g = items_append a b f g

pub nodes_items : (ns : Nodes) → are_formed_nodes ns ≡ true → Holds AreItems (message_items ns)
nodes_items no_node h = tt
nodes_items (node n ns) h =
    joined (node_message_items n) (message_items ns)
    (node_items n (first (is_formed_node n) (not (is_text n && begins_with_text ns)) (are_formed_nodes ns) h))
    (nodes_items ns (last (is_formed_node n) (not (is_text n && begins_with_text ns)) (are_formed_nodes ns) h))
  where
    first : (a b c : Bool) → (a && b && c) ≡ true → a ≡ true
    first true true true e = refl
    first true true false e = refl
    first true false c e = refl
    first false b c e = absurd (cc e)

    last : (a b c : Bool) → (a && b && c) ≡ true → c ≡ true
    last true true true e = refl
    last true true false e = absurd (cc e)
    last true false true e = refl
    last true false false e = absurd (cc e)
    last false b true e = refl
    last false b false e = absurd (cc e)

-- cuts: no text follows another; the flag says whether a text may come first

abbrev pub AreCuts : Bool → List Cut → Type 0
AreCuts first [] = Unit {0}
AreCuts true (TextCut items ∷ cuts) = AreCuts false cuts
AreCuts false (TextCut items ∷ cuts) = ⊥
AreCuts first (PrintCut e phname span ∷ cuts) = IsTrue (is_name (base_of_print e phname)) × AreCuts true cuts
AreCuts first (TagCut tag ∷ cuts) = IsTag tag × AreCuts true cuts

weaker : (cuts : List Cut) → AreCuts false cuts → AreCuts true cuts
weaker [] h = tt
weaker (TextCut items ∷ cuts) h = absurd h
weaker (PrintCut e phname span ∷ cuts) h = h
weaker (TagCut tag ∷ cuts) h = h

after_text : (text : List MessageItem) (cuts : List Cut) → AreCuts false cuts → AreCuts true (text_cut text ++ cuts)
after_text [] cuts h = weaker cuts h
after_text (i ∷ text) cuts h = h

mapped : (P Q : List Cut → Type 0) (f : List Cut → List Cut) → ((cuts : List Cut) → P cuts → Q (f cuts))
    → (o : Option (List Cut)) → Holds P o → Holds Q (option_map f o)
mapped P Q f step None h = tt
mapped P Q f step (Some cuts) h = step cuts h

-- the items of a tag up to its end
ends_tag_is : (quote : Option ℕ) (c : ℕ) → ends_tag quote c ≡ true → c ≡ greater_than
ends_tag_is None c h = eqb-true c 62 h
ends_tag_is (Some quote) c h = absurd (cc h)

tag_prefix : (t : List MessageItem) (c : ℕ) (span : Span) (rest : List MessageItem) → c ≡ greater_than
    → goes_on_as_tag (t ++ Character c span ∷ rest) ≡ true
    → goes_on_as_tag (t ++ Character c span ∷ []) ≡ true
tag_prefix [] c span rest e h =
    absurd (cc (subst (λ d. (is_ascii_alphabetic d || d == slash && begins_with_letter rest) ≡ true) e h))
tag_prefix (Printed x m s ∷ t) c span rest e h = h
tag_prefix (Character d s ∷ []) c span rest e h = h
tag_prefix (Character d s ∷ (Character a b ∷ t)) c span rest e h = h
tag_prefix (Character d s ∷ (Printed x m u ∷ t)) c span rest e h = h

last_text : (text : List MessageItem) → AreCuts true (text_cut text)
last_text [] = tt
last_text (i ∷ text) = tt

mutual
  pub after_cuts : (items text : List MessageItem) → AreItems items → Holds (AreCuts true) (cuts_after_text items text)
  after_cuts [] text h = last_text text
  after_cuts (Printed e phname span ∷ rest) text h =
      mapped (AreCuts true) (AreCuts true) (λ cuts. text_cut text ++ PrintCut e phname span ∷ cuts)
      (λ cuts k. after_text text (PrintCut e phname span ∷ cuts) (h.0, k)) (cuts_after_text rest [])
      (after_cuts rest [] h.1)
  after_cuts (Character c span ∷ rest) text h =
      holds_or _ (c == less_than && goes_on_as_tag rest)
      (λ k. rw k (mapped (AreCuts false) (AreCuts true) (λ cuts. text_cut text ++ cuts)
      (λ cuts q. after_text text cuts q) (cuts_in_tag rest None (Character c span ∷ []))
      (in_cuts rest None (Character c span) [] (and_right (c == less_than) (goes_on_as_tag rest) k) h)))
      (λ k. rw k (after_cuts rest (text ++ Character c span ∷ []) h))

  in_cuts : (items : List MessageItem) (quote : Option ℕ) (first : MessageItem) (t : List MessageItem)
      → goes_on_as_tag (t ++ items) ≡ true → AreItems items
      → Holds (AreCuts false) (cuts_in_tag items quote (first ∷ t))
  in_cuts [] quote first t g h = tt
  in_cuts (Printed e phname span ∷ rest) quote first t g h =
      in_cuts rest quote first (t ++ Printed e phname span ∷ [])
      (ap goes_on_as_tag (append_assoc t (Printed e phname span ∷ []) rest) ∙ g) h.1
  in_cuts (Character c span ∷ rest) quote first t g h =
      holds_or _ (ends_tag quote c)
      (λ k. rw k (mapped (AreCuts true) (AreCuts false) (λ cuts. TagCut (first ∷ (t ++ Character c span ∷ [])) ∷ cuts)
      (λ cuts q. (tag_prefix t c span rest (ends_tag_is quote c k) g, q)) (cuts_after_text rest [])
      (after_cuts rest [] h)))
      (λ k. rw k (in_cuts rest (quote_after quote c) first (t ++ Character c span ∷ [])
      (ap goes_on_as_tag (append_assoc t (Character c span ∷ []) rest) ∙ g) h))

of_items : (o : Option (List MessageItem)) → Holds AreItems o → Holds (AreCuts true) (cuts_of o)
of_items None h = tt
of_items (Some items) h = after_cuts items [] h

-- the cuts of a formed text
pub text_cuts : (ns : Nodes) → are_formed_nodes ns ≡ true → Holds (AreCuts true) (cuts_of (message_items ns))
text_cuts ns h = of_items (message_items ns) (nodes_items ns h)
