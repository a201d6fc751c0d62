-- A set of the names of params: what is among them after one more.
use Rattle.std.proofs.Common.{◌≡◌, ℕ, ℤ, zero, suc, ◌+◌, ◌<◌, ◌≤◌, Bool, true, false, ◌||◌, List, [], ◌∷◌, refl, ap}
use Rattle.std.proofs.Common.{sym, subst, ◌∙◌, MatchBool, drop, length, slice_index_or, arith}
use Rattle.std.specs.Str.{bytes_eq}
use Rattle.std.proofs.lemmas.Slice.Eq.{bytes_eq-Decides}
use Rattle.soy_base.specs.declared.fault.Span.{Span}
use Rattle.soy_tree.specs.declared.node.Argument as code
use Rattle.soy_tree.specs.Types.{Name}
use Rattle.soy_tree.specs.Expressions.{Expr}
use Rattle.soy_tree.specs.Nodes.{Node, Nodes, Given, Message, MessageBody}
use Rattle.soy_rules.specs.Bodies.{names_given}
use Rattle.soy_base.specs.Among.{is_among}
use Rattle.soy_tree.specs.ViewNodes.{view_argument, view_arguments, form_layer, given_layer, body_layer, argument_layer}
use Rattle.soy_tree.specs.ViewNodes.{arm_layer, case_layer, message_layer, node_layer, plural_case_layer}
use Rattle.soy_tree.specs.ViewNodes.{select_case_layer}

added_first : (e a r : Bool) → ((e || a) || r) ≡ (a || (e || r))
added_first true true r = refl
added_first true false r = refl
added_first false a r = refl

known_before : (e a r : Bool) → (e ≡ true → a ≡ true) → (a || r) ≡ (a || (e || r))
known_before e true r h = refl
known_before true false r h = let absurd_too : false ≡ true = h refl in cc
known_before false false r h = refl

-- where a name moves from those that are left to those that were seen, the same names are among both
pub name_added : (names new : List Name) (n : Name) (is_new : Bool)
    → MatchBool is_new ((is_among names n ≡ false) × (new ≡ n ∷ names)) ((is_among names n ≡ true) × (new ≡ names))
    → (rest : List Name) (name : Name)
    → (is_among new name || is_among rest name) ≡ (is_among names name || is_among (n ∷ rest) name)
name_added names new n true h rest name =
    ap (λ (ns : List Name). is_among ns name || is_among rest name) h.1
    ∙ added_first (bytes_eq name n) (is_among names name) (is_among rest name)
name_added names new n false h rest name =
    ap (λ (ns : List Name). is_among ns name || is_among rest name) h.1
    ∙ known_before (bytes_eq name n) (is_among names name) (is_among rest name)
    (λ e. subst (λ (x : Name). is_among names x ≡ true) (sym ((bytes_eq-Decides name n).0 e)) h.0)

name_of_view : (a : code.Argument) → (view_argument a).0 ≡ a.name
name_of_view a =
    ap (λ (x : Name × Given × Span). x.0)
    (code.fold_out-Argument (Span → Node) Given MessageBody (Name × Given × Span) (Expr × Nodes) (List Expr × Nodes)
    Message Node (ℤ × MessageBody) (List ℕ × MessageBody) form_layer given_layer body_layer argument_layer arm_layer
    case_layer message_layer node_layer plural_case_layer select_case_layer a)

pub names_drop : (given : List code.Argument) (i : ℕ) (a : code.Argument) → i < length given
    → a ≡ slice_index_or given i a
    → names_given (view_arguments (drop i given)) ≡ a.name ∷ names_given (view_arguments (drop (i + 1) given))
names_drop [] i a below is = absurd (omega arith)
names_drop (x ∷ given) zero a below is =
    ap (λ (n : Name). n ∷ names_given (view_arguments given))
    (name_of_view x ∙ ap (λ (y : code.Argument). y.name) (sym is))
names_drop (x ∷ given) (suc i) a below is =
    let e : suc i + 1 ≡ suc (i + 1) = omega arith in rw e (names_drop given i a (omega arith) is)

or_none : (b : Bool) → b ≡ (b || false)
or_none true = refl
or_none false = refl

drop_all : (given : List code.Argument) (i : ℕ) → length given ≤ i → drop i given ≡ []
drop_all [] zero over = refl
drop_all [] (suc i) over = refl
drop_all (x ∷ given) zero over = absurd (omega arith)
drop_all (x ∷ given) (suc i) over = drop_all given i (omega arith)

pub none_left : (name : Name) (names : List Name) (given : List code.Argument) (i : ℕ) → length given ≤ i
    → is_among names name ≡ (is_among names name || is_among (names_given (view_arguments (drop i given))) name)
none_left name names given i over = rw (drop_all given i over) (or_none (is_among names name))
