-- Rows: base names, and the names of placeholders and selectors.
use Rattle.std.proofs.Common.{◌≡◌, ℕ, List, [], ◌∷◌, true, false}
use Rattle.std.specs.Prelude.{codes, Some, None}
use Rattle.std.specs.Fmt.{digits}
use mathlib.Core.Path.{refl}
use Rattle.soy_tree.specs.Types.{Name}
use Rattle.soy_tree.specs.Expressions.{Member, Index}
use Rattle.soy_tree.specs.Nodes.{MessageBody, Nodes, TextNode, Print, Parts, Plural, no_plural_case, no_node, node}
use Rattle.soy_tree.specs.MessageText.{characters}
use Rattle.soy_rules.specs.BaseNames.{base_of_expr, base_of_print, base_of_tag}
use Rattle.soy_rules.specs.Placeholders.{Use, body_uses, name_of}
use Rattle.soy_rules.proofs.Rows.{at, a, b, n, var, int}

abbrev tag_base : List ℕ → List ℕ
tag_base text = base_of_tag (characters text (at 0))

base_of_a_variable : base_of_print (var (codes "userName2Go") 0) None ≡ codes "USER_NAME2_GO"
base_of_a_variable = refl

base_of_an_access : base_of_expr (Member (var a 0) (codes "userName") true (at 0)) ≡ codes "USER_NAME"
base_of_an_access = refl

base_of_an_index : base_of_expr (Index (var a 0) (int 0 3) false (at 0)) ≡ codes "XXX"
base_of_an_index = refl

base_of_a_given_name : base_of_print (var a 0) (Some (codes "userName")) ≡ codes "USER_NAME"
base_of_a_given_name = refl

base_of_a_start_tag : tag_base (codes "<a href='/x'>") ≡ codes "START_LINK"
base_of_a_start_tag = refl

base_of_an_end_tag : tag_base (codes "</A >") ≡ codes "END_LINK"
base_of_an_end_tag = refl

base_of_a_lone_tag : tag_base (codes "<br>") ≡ codes "BREAK"
base_of_a_lone_tag = refl

base_of_a_lone_tag_without_a_name : tag_base (codes "<hr>") ≡ codes "HR"
base_of_a_lone_tag_without_a_name = refl

base_of_a_closed_tag : tag_base (codes "<my-tag/>") ≡ codes "MY_TAG"
base_of_a_closed_tag = refl

base_of_another_tag : tag_base (codes "<fooBar>") ≡ codes "START_FOOBAR"
base_of_another_tag = refl

-- all names of a message, in the order of its text
abbrev names_of : List Use → List Use → List Name
names_of all [] = []
names_of all (u ∷ uses) = name_of all u.base u.content ∷ names_of all uses

abbrev names : MessageBody → List Name
names body = names_of (body_uses body) (body_uses body)

abbrev printed : Name → Name → Nodes → Nodes
printed name field ns = node (Print (Member (var name 0) field false (at 0)) None (at 0)) ns

abbrev written : List ℕ → Nodes → Nodes
written text ns = node (TextNode text (at 0)) ns

-- <a href="/x">{$a.name}</a> {$b.name}
two_contents :
    names
    (Parts
    (written (codes "<a href='/x'>")
    (printed a (codes "name") (written (codes "</a> ") (printed b (codes "name") no_node)))))
    ≡ codes "START_LINK" ∷ codes "NAME_1" ∷ codes "END_LINK" ∷ codes "NAME_2" ∷ []
unfolding digits
two_contents = refl

-- {$a.name}{$b.name}{$n.name_1}
number_passed_over :
    names (Parts (printed a (codes "name") (printed b (codes "name") (printed n (codes "name_1") no_node))))
    ≡ codes "NAME_2" ∷ codes "NAME_3" ∷ codes "NAME_1" ∷ []
unfolding digits
number_passed_over = refl

-- {$a.name}{$a.name}
one_content_twice :
    names (Parts (printed a (codes "name") (printed a (codes "name") no_node))) ≡ codes "NAME" ∷ codes "NAME" ∷ []
one_content_twice = refl

-- {plural $n}{default}{$n}{/plural}
selector_and_print :
    names (Plural (var n 0) 0 no_plural_case (Parts (node (Print (var n 9) None (at 8)) no_node)))
    ≡ codes "N" ∷ codes "N" ∷ []
selector_and_print = refl
