-- What commands are is formed, where what they say is and the blocks around them are few enough.
use Rattle.std.proofs.Common.{◌≡◌, ℕ, ℤ, ◌+◌, ◌-◌, ◌≤◌, Bool, true, false, not, ◌&&◌, List, [], ◌∷◌, ◌++◌}
use Rattle.std.proofs.Common.{map, Some, None, refl, ap, subst, ◌∙◌, arith}
use Rattle.std.specs.Prelude.{nat_le, max}
use Rattle.std.specs.List.{list_all}
use Rattle.std.proofs.lemmas.Bool.Decides.{nat_tests}
use Rattle.soy_base.specs.Names.{is_name, is_dotted_name}
use Rattle.soy_base.specs.declared.fault.Span.{Span}
use Rattle.soy_lexer.specs.Tokens.{Tokens}
use Rattle.soy_lexer.specs.declared.token.Token.{Token}
use Rattle.soy_tree.specs.Formed.{is_formed_int, is_formed_expr, is_formed_type, is_case_word, if_there, is_text}
use Rattle.soy_tree.specs.Formed.{is_message_text, nesting, plural_nesting, select_nesting}
use Rattle.soy_tree.specs.Formed.{is_formed_node, are_formed_nodes, are_formed_arms, are_formed_cases}
use Rattle.soy_tree.specs.Formed.{are_formed_arguments, is_formed_given, is_formed_message, is_formed_body}
use Rattle.soy_tree.specs.Formed.{are_formed_plural_cases, are_formed_select_cases, is_formed_param}
use Rattle.soy_tree.specs.Formed.{is_formed_template, is_formed_tree}
use Rattle.soy_base.specs.Limits.{largest}
use Rattle.soy_tree.specs.Nodes as tree
use Rattle.soy_tree.specs.ViewExpressions.{view_expr, view_exprs}
use Rattle.soy_tree.specs.ViewNodes.{view_node, view_nodes, view_arm, view_arms, view_case, view_cases, view_argument}
use Rattle.soy_tree.specs.ViewNodes.{view_arguments, view_given, view_message, view_body, view_plural_case}
use Rattle.soy_tree.specs.ViewNodes.{view_plural_cases, view_select_case, view_select_cases, arms_of, cases_of}
use Rattle.soy_tree.specs.ViewNodes.{arguments_of}
use Rattle.soy_tree.specs.ViewTrees.{view_param, view_params, view_template, view_tree}
use Rattle.soy_tree.specs.ViewTypes.{view_type}
use Rattle.soy_tree.specs.declared.expr.Expr.{Expr}
use Rattle.soy_tree.specs.declared.node.Argument.{Argument}
use Rattle.soy_tree.specs.declared.node.Arm.{Arm}
use Rattle.soy_tree.specs.declared.node.Case.{Case}
use Rattle.soy_tree.specs.declared.node.Form.TheVariants as form
use Rattle.soy_tree.specs.declared.node.Given.{Given}
use Rattle.soy_tree.specs.declared.node.Given.TheVariants as given
use Rattle.soy_tree.specs.declared.node.MessageBody.{MessageBody}
use Rattle.soy_tree.specs.declared.node.MessageBody.TheVariants as message_body
use Rattle.soy_tree.specs.declared.node.Node.{Node}
use Rattle.soy_tree.specs.declared.node.PluralCase.{PluralCase}
use Rattle.soy_tree.specs.declared.node.SelectCase.{SelectCase}
use Rattle.soy_tree.specs.declared.tree.Param.{Param}
use Rattle.soy_tree.specs.declared.tree.Template.{Template}
use Rattle.soy_tree.specs.declared.tree.Tree.{Tree}
use Rattle.expr_parser.specs.AreNamed.{AreNamed}
use Rattle.expr_parser.specs.Depths.{AreWithin}
use Rattle.expr_parser.specs.Operands.{joined}
use Rattle.expr_parser.proofs.TokenNames.{text_named}
use Rattle.soy_parser.specs.declared.command.Command.{Command}
use Rattle.soy_parser.specs.declared.command.Middle.TheVariants as middle
use Rattle.soy_parser.specs.declared.command.Opening.TheVariants as opening
use Rattle.soy_parser.specs.declared.command.Single.TheVariants as single
use Rattle.soy_parser.specs.declared.command.CommandForm.{CommandForm}
use Rattle.soy_parser.specs.declared.command.CommandForm.TheVariants as says
use Rattle.soy_parser.specs.Depth.{none_deep, inside_blocks}
use Rattle.soy_parser.specs.Nodes.{node_of, arm_of, case_of, argument_of, whole_message, plural_cases, select_cases}
use Rattle.soy_parser.specs.Nodes.{up_to}
use Rattle.soy_parser.specs.ParsesFile.{IsFile}
use Rattle.soy_parser.specs.SpellsCommand.{SpellsCommand, SpellsCommands}
use Rattle.soy_parser.specs.SpellsFile.{SpellsFile}
use Rattle.soy_parser.specs.SpellsTree.{SpellsPrints, SpellsParts, SpellsMessageBody, SpellsChoice, SpellsPluralCases}
use Rattle.soy_parser.specs.SpellsTree.{SpellsSelectCases, SpellsNodes, SpellsBody, SpellsNode, SpellsArms, SpellsCases}
use Rattle.soy_parser.specs.SpellsTree.{SpellsArguments, SpellsParams, SpellsTemplates, SpellsTree, as_param}
use Rattle.soy_parser.specs.SpellsTree.{template_of}
use Rattle.soy_parser.proofs.DottedNames.{both, all_three, first_of, second_of}
use Rattle.soy_parser.proofs.OfCommands.FormedCommands.{FormedForm, AllFormed, commands_formed, formed_left, formed_right}
use Rattle.soy_parser.proofs.NodeViews.{view_text, view_print}
use Rattle.soy_parser.proofs.ViewForms.{view-If, view-IfElse, view-Switch, view-SwitchDefault, view-For, view-Let}
use Rattle.soy_parser.proofs.ViewForms.{view-LetBlock, view-Call, view-Message, view-MessageFallback, view-arm}
use Rattle.soy_parser.proofs.ViewForms.{view-case, view-argument, view-Plain, view-Block, view-message, view-Parts}
use Rattle.soy_parser.proofs.ViewForms.{view-Plural, view-Select, view-plural-case, view-select-case}

-- of three the last may be another
third : (a b c d : Bool) → (c ≡ true → d ≡ true) → (a && b && c) ≡ true → (a && b && d) ≡ true
third true true c d f h = f h
third true false c d f h = absurd (cc h)
third false b c d f h = absurd (cc h)

-- what a command says is formed, where it says this
said : (of : CommandForm) (c : Command) → c.form ≡ of → FormedForm c.form → FormedForm of
said of c e f = subst FormedForm e f

-- levels that are no larger than a number

abbrev AllUnder : ℕ → List ℕ → Type 0
AllUnder n [] = Unit {0}
AllUnder n (l ∷ ls) = (l ≤ n) × AllUnder n ls

under_left : (n : ℕ) (ls ms : List ℕ) → AllUnder n (ls ++ ms) → AllUnder n ls
under_left n [] ms u = tt
under_left n (l ∷ ls) ms u = (u.0, under_left n ls ms u.1)

under_right : (n : ℕ) (ls ms : List ℕ) → AllUnder n (ls ++ ms) → AllUnder n ms
under_right n [] ms u = u
under_right n (l ∷ ls) ms u = under_right n ls ms u.1

under_inside : (n : ℕ) (ls : List ℕ) → AllUnder n (inside_blocks 1 ls) → AllUnder (n - 1) ls
under_inside n [] u = tt
under_inside n (l ∷ ls) u = (omega (arith, u.0), under_inside n ls u.1)

under_block : (n : ℕ) (ls : List ℕ) → AllUnder n (inside_blocks 1 ls) → AllUnder n ls
under_block n [] u = tt
under_block n (l ∷ ls) u = (omega (arith, u.0), under_block n ls u.1)

-- the levels inside a block, from one of them on
from_inside : (n : ℕ) (ls ms : List ℕ) → AllUnder n (inside_blocks 1 (ls ++ ms)) → AllUnder n (inside_blocks 1 ms)
from_inside n [] ms u = u
from_inside n (l ∷ ls) ms u = from_inside n ls ms u.1

-- how deep plurals and selects nest: no deeper than the levels of their commands

max_within : (a b n : ℕ) → a ≤ n → b ≤ n → max a b ≤ n
max_within a b n p q = omega (arith, p, q)

-- each of these nests no deeper
abbrev NestUnder : {C : Type 0} → (C → ℕ) → ℕ → List C → Type 0
NestUnder depth n [] = Unit {0}
NestUnder depth n (c ∷ cs) = (depth c ≤ n) × NestUnder depth n cs

nest_append : {C : Type 0} (depth : C → ℕ) (n : ℕ) (cs ds : List C) → NestUnder depth n cs → NestUnder depth n ds
    → NestUnder depth n (cs ++ ds)
nest_append depth n [] ds h k = k
nest_append depth n (c ∷ cs) ds h k = (h.0, nest_append depth n cs ds h.1 k)

nest_copies : {C V : Type 0} (depth : C → ℕ) (n : ℕ) (make : V → C) (values : List V) → ((v : V) → depth (make v) ≤ n)
    → NestUnder depth n (map make values)
nest_copies depth n make [] h = tt
nest_copies depth n make (v ∷ values) h = (h v, nest_copies depth n make values h)

abbrev plural_depth : PluralCase → ℕ
plural_depth c = nesting (view_plural_case c).1

abbrev select_depth : SelectCase → ℕ
select_depth c = nesting (view_select_case c).1

plurals_within : (n : ℕ) (cases : List PluralCase) → NestUnder plural_depth n cases
    → plural_nesting (view_plural_cases cases) ≤ n
plurals_within n [] h = omega arith
plurals_within n (c ∷ cs) h =
    max_within (plural_depth c) (plural_nesting (view_plural_cases cs)) n h.0 (plurals_within n cs h.1)

selects_within : (n : ℕ) (cases : List SelectCase) → NestUnder select_depth n cases
    → select_nesting (view_select_cases cases) ≤ n
selects_within n [] h = omega arith
selects_within n (c ∷ cs) h =
    max_within (select_depth c) (select_nesting (view_select_cases cs)) n h.0 (selects_within n cs h.1)

one_deeper : (a b n : ℕ) → 1 ≤ n → a ≤ n - 1 → b ≤ n - 1 → 1 + max a b ≤ n
one_deeper a b n some p q = let m = max_within a b (n - 1) p q in omega (arith, some, m)

moved_bound : (a b n : ℕ) → a ≡ b → b ≤ n → a ≤ n
moved_bound a b n e h = rw e h

mutual
  body_nests : (n : ℕ) (cs : List Command) (ls : List ℕ) (body : MessageBody) → AllUnder n ls
      → SpellsMessageBody cs ls body → nesting (view_body body) ≤ n
  body_nests n _ _ _ u (SpellsMessageBody.parts_ cs ls ns s h) =
      moved_bound (nesting (view_body (message_body.Parts ns))) 0 n (ap nesting (view-Parts ns)) (omega arith)
  body_nests n _ _ _ u (SpellsMessageBody.choice_ cs bs ds ls ks ms body w s v) =
      choice_nests n bs ks body (under_left n ks ms (under_right n ls (ks ++ ms) u)) s

  choice_nests : (n : ℕ) (cs : List Command) (ls : List ℕ) (body : MessageBody) → AllUnder n ls
      → SpellsChoice cs ls body → nesting (view_body body) ≤ n
  choice_nests n _ _ _ u (SpellsChoice.plural_ c d z cs bs ds ls ks ms e offset cases other a w s b r g) =
      let i = under_inside n (ms ++ (ls ++ (0 ∷ (ks ++ (0 ∷ []))))) u.1 in
      let j = under_right (n - 1) ms (ls ++ (0 ∷ (ks ++ (0 ∷ [])))) i in
      let k = under_right (n - 1) ls (0 ∷ (ks ++ (0 ∷ []))) j in
      let some = from_inside n ls (0 ∷ (ks ++ (0 ∷ []))) (from_inside n ms (ls ++ (0 ∷ (ks ++ (0 ∷ [])))) u.1) in
      moved_bound (nesting (view_body (message_body.Plural e offset cases other)))
      (1 + max (plural_nesting (view_plural_cases cases)) (nesting (view_body other))) n
      (ap nesting (view-Plural e offset cases other))
      (one_deeper (plural_nesting (view_plural_cases cases)) (nesting (view_body other)) n (omega (arith, some.0))
      (plurals_within (n - 1) cases
      (plural_cases_nest (n - 1) cs ls cases (under_left (n - 1) ls (0 ∷ (ks ++ (0 ∷ []))) j) s))
      (body_nests (n - 1) bs ks other (under_left (n - 1) ks (0 ∷ []) k.1) r))
  choice_nests n _ _ _ u (SpellsChoice.select_ c d z cs bs ds ls ks ms e cases other a w s b r g) =
      let i = under_inside n (ms ++ (ls ++ (0 ∷ (ks ++ (0 ∷ []))))) u.1 in
      let j = under_right (n - 1) ms (ls ++ (0 ∷ (ks ++ (0 ∷ [])))) i in
      let k = under_right (n - 1) ls (0 ∷ (ks ++ (0 ∷ []))) j in
      let some = from_inside n ls (0 ∷ (ks ++ (0 ∷ []))) (from_inside n ms (ls ++ (0 ∷ (ks ++ (0 ∷ [])))) u.1) in
      moved_bound (nesting (view_body (message_body.Select e cases other)))
      (1 + max (select_nesting (view_select_cases cases)) (nesting (view_body other))) n
      (ap nesting (view-Select e cases other))
      (one_deeper (select_nesting (view_select_cases cases)) (nesting (view_body other)) n (omega (arith, some.0))
      (selects_within (n - 1) cases
      (select_cases_nest (n - 1) cs ls cases (under_left (n - 1) ls (0 ∷ (ks ++ (0 ∷ []))) j) s))
      (body_nests (n - 1) bs ks other (under_left (n - 1) ks (0 ∷ []) k.1) r))

  plural_cases_nest : (n : ℕ) (cs : List Command) (ls : List ℕ) (cases : List PluralCase) → AllUnder n ls
      → SpellsPluralCases cs ls cases → NestUnder plural_depth n cases
  plural_cases_nest n _ _ _ u SpellsPluralCases.no_plural_case_ = tt
  plural_cases_nest n _ _ _ u (SpellsPluralCases.plural_case_ cs bs ls ks cases c values body s a b) =
      let m = body_nests n bs ks body (under_right n ls (0 ∷ ks) u).1 b in
      nest_append plural_depth n cases (plural_cases values body)
      (plural_cases_nest n cs ls cases (under_left n ls (0 ∷ ks) u) s)
      (nest_copies plural_depth n (λ k. record { is = k; body = body }) values (λ k.
      moved_bound (plural_depth (record { is = k; body = body })) (nesting (view_body body)) n
      (ap (λ p. nesting p.1) (view-plural-case k body)) m))

  select_cases_nest : (n : ℕ) (cs : List Command) (ls : List ℕ) (cases : List SelectCase) → AllUnder n ls
      → SpellsSelectCases cs ls cases → NestUnder select_depth n cases
  select_cases_nest n _ _ _ u SpellsSelectCases.no_select_case_ = tt
  select_cases_nest n _ _ _ u (SpellsSelectCases.select_case_ cs bs ls ks cases c values body s a b) =
      let m = body_nests n bs ks body (under_right n ls (0 ∷ ks) u).1 b in
      nest_append select_depth n cases (select_cases values body)
      (select_cases_nest n cs ls cases (under_left n ls (0 ∷ ks) u) s)
      (nest_copies select_depth n (λ k. record { is = k; body = body }) values (λ k.
      moved_bound (select_depth (record { is = k; body = body })) (nesting (view_body body)) n
      (ap (λ p. nesting p.1) (view-select-case k body)) m))

-- nodes, one after the other

abbrev last_is_text : List Node → Bool
last_is_text [] = false
last_is_text (n ∷ []) = is_text (view_node n)
last_is_text (n ∷ (m ∷ ns)) = last_is_text (m ∷ ns)

last_more : (ns : List Node) (n : Node) → last_is_text (ns ++ (n ∷ [])) ≡ is_text (view_node n)
last_more [] n = refl
last_more (m ∷ []) n = refl
last_more (m ∷ (k ∷ ns)) n = last_more (k ∷ ns) n

-- a node alone, and one after another
node_alone : (t : Bool) (a : Bool) → a ≡ true → (a && not (t && false) && true) ≡ true
node_alone true a h = rw h refl
node_alone false a h = rw h refl

node_after : (t u a b : Bool) → (t && u) ≡ false → b ≡ true → (a && not (t && false) && true) ≡ true
    → (a && not (t && u) && b) ≡ true
node_after true u true b e k h = rw (e, k) refl
node_after false u true b e k h = rw k refl
node_after true u false b e k h = absurd (cc h)
node_after false u false b e k h = absurd (cc h)

nodes_more : (ns : List Node) (n : Node) → are_formed_nodes (view_nodes ns) ≡ true
    → is_formed_node (view_node n) ≡ true → (last_is_text ns && is_text (view_node n)) ≡ false
    → are_formed_nodes (view_nodes (ns ++ (n ∷ []))) ≡ true
nodes_more [] n h k e = node_alone (is_text (view_node n)) (is_formed_node (view_node n)) k
nodes_more (m ∷ []) n h k e =
    node_after (is_text (view_node m)) (is_text (view_node n)) (is_formed_node (view_node m)) _ e
    (node_alone (is_text (view_node n)) (is_formed_node (view_node n)) k) h
nodes_more (m ∷ (o ∷ ns)) n h k e =
    third (is_formed_node (view_node m)) (not (is_text (view_node m) && is_text (view_node o)))
    (are_formed_nodes (view_nodes (o ∷ ns))) (are_formed_nodes (view_nodes (o ∷ (ns ++ (n ∷ [])))))
    (λ l. nodes_more (o ∷ ns) n l k e) h

no_first : (a b : Bool) → a ≡ false → (a && b) ≡ false
no_first a b e = rw e refl

no_second : (a b : Bool) → b ≡ false → (a && b) ≡ false
no_second true b e = e
no_second false b e = refl

-- formed nodes of which the last is no text
record NodesFormed (ns : List Node) : Type 0 where
  pub formed : are_formed_nodes (view_nodes ns) ≡ true
  pub last : last_is_text ns ≡ false

-- a formed node that is no text
record NodeFormed (n : Node) : Type 0 where
  pub formed : is_formed_node (view_node n) ≡ true
  pub no_text : is_text (view_node n) ≡ false

formed_as : (n : Node) (v : tree.Node) → view_node n ≡ v → is_text v ≡ false → is_formed_node v ≡ true → NodeFormed n
formed_as n v e t f = record { formed = ap is_formed_node e ∙ f; no_text = ap is_text e ∙ t }

with_node : (ns : List Node) (n : Node) → are_formed_nodes (view_nodes ns) ≡ true → NodeFormed n
    → NodesFormed (ns ++ (n ∷ []))
with_node ns n h k = record {
  formed = nodes_more ns n h k.formed (no_second (last_is_text ns) (is_text (view_node n)) k.no_text);
  last = last_more ns n ∙ k.no_text;
}

with_text_node : (ns : List Node) (text : List ℕ) (span : Span) → NodesFormed ns
    → are_formed_nodes (view_nodes (ns ++ (node_of (form.Text text) span ∷ []))) ≡ true
with_text_node ns text span h =
    nodes_more ns (node_of (form.Text text) span) h.formed (ap is_formed_node (view_text text span))
    (no_first (last_is_text ns) (is_text (view_node (node_of (form.Text text) span))) h.last)

-- messages

mutual
  prints_formed : (cs : List Command) (ls : List ℕ) (ns : List Node) → AllFormed cs → SpellsPrints cs ls ns
      → NodesFormed ns
  prints_formed _ _ _ f SpellsPrints.none_ = record { formed = refl; last = refl }
  prints_formed _ _ _ f (SpellsPrints.print_ cs ls ns c e phname s h) =
      let i = said (says.Single (single.MessagePrint e phname)) c h (formed_right cs (c ∷ []) f).0 in
      with_node ns (node_of (form.Print e phname) c.span) (parts_formed cs ls ns (formed_left cs (c ∷ []) f) s)
      (formed_as (node_of (form.Print e phname) c.span) (tree.Print (view_expr e) phname c.span)
      (view_print e phname c.span) refl (both (is_formed_expr (view_expr e)) (if_there is_name phname) i.0 i.1))

  parts_formed : (cs : List Command) (ls : List ℕ) (ns : List Node) → AllFormed cs → SpellsParts cs ls ns
      → are_formed_nodes (view_nodes ns) ≡ true
  parts_formed _ _ _ f (SpellsParts.plain_ cs ls ns s) = (prints_formed cs ls ns f s).formed
  parts_formed _ _ _ f (SpellsParts.text_ cs ds ls ms ns text span s t) =
      with_text_node ns text span (prints_formed cs ls ns (formed_left cs ds f) s)

plurals_append : (cs ds : List PluralCase) → are_formed_plural_cases (view_plural_cases cs) ≡ true
    → are_formed_plural_cases (view_plural_cases ds) ≡ true
    → are_formed_plural_cases (view_plural_cases (cs ++ ds)) ≡ true
plurals_append [] ds h k = k
plurals_append (c ∷ cs) ds h k =
    third (is_formed_int (view_plural_case c).0) (is_formed_body (view_plural_case c).1)
    (are_formed_plural_cases (view_plural_cases cs)) (are_formed_plural_cases (view_plural_cases (cs ++ ds)))
    (λ l. plurals_append cs ds l k) h

plural_copies : (values : List ℤ) (body : MessageBody) → list_all is_formed_int values ≡ true
    → is_formed_body (view_body body) ≡ true
    → are_formed_plural_cases (view_plural_cases (plural_cases values body)) ≡ true
plural_copies [] body h k = refl
plural_copies (n ∷ values) body h k =
    all_three (is_formed_int (view_plural_case (record { is = n; body = body })).0)
    (is_formed_body (view_plural_case (record { is = n; body = body })).1)
    (are_formed_plural_cases (view_plural_cases (plural_cases values body)))
    (ap (λ p. is_formed_int p.0) (view-plural-case n body)
    ∙ first_of (is_formed_int n) (list_all is_formed_int values) h)
    (ap (λ p. is_formed_body p.1) (view-plural-case n body) ∙ k)
    (plural_copies values body (second_of (is_formed_int n) (list_all is_formed_int values) h) k)

selects_append : (cs ds : List SelectCase) → are_formed_select_cases (view_select_cases cs) ≡ true
    → are_formed_select_cases (view_select_cases ds) ≡ true
    → are_formed_select_cases (view_select_cases (cs ++ ds)) ≡ true
selects_append [] ds h k = k
selects_append (c ∷ cs) ds h k =
    third (is_case_word (view_select_case c).0) (is_formed_body (view_select_case c).1)
    (are_formed_select_cases (view_select_cases cs)) (are_formed_select_cases (view_select_cases (cs ++ ds)))
    (λ l. selects_append cs ds l k) h

select_copies : (values : List (List ℕ)) (body : MessageBody) → list_all is_case_word values ≡ true
    → is_formed_body (view_body body) ≡ true
    → are_formed_select_cases (view_select_cases (select_cases values body)) ≡ true
select_copies [] body h k = refl
select_copies (word ∷ values) body h k =
    all_three (is_case_word (view_select_case (record { is = word; body = body })).0)
    (is_formed_body (view_select_case (record { is = word; body = body })).1)
    (are_formed_select_cases (view_select_cases (select_cases values body)))
    (ap (λ p. is_case_word p.0) (view-select-case word body)
    ∙ first_of (is_case_word word) (list_all is_case_word values) h)
    (ap (λ p. is_formed_body p.1) (view-select-case word body) ∙ k)
    (select_copies values body (second_of (is_case_word word) (list_all is_case_word values) h) k)

all_four : (a b c d : Bool) → a ≡ true → b ≡ true → c ≡ true → d ≡ true → (a && b && c && d) ≡ true
all_four a b c d p q r s = rw (p, q, r, s) refl

mutual
  message_formed : (cs : List Command) (ls : List ℕ) (body : MessageBody) → AllFormed cs
      → SpellsMessageBody cs ls body → is_formed_body (view_body body) ≡ true
  message_formed _ _ _ f (SpellsMessageBody.parts_ cs ls ns s h) =
      ap is_formed_body (view-Parts ns)
      ∙ both (are_formed_nodes (view_nodes ns)) (is_message_text (view_nodes ns)) (parts_formed cs ls ns f s) h
  message_formed _ _ _ f (SpellsMessageBody.choice_ cs bs ds ls ks ms body w s v) =
      choice_formed bs ks body (formed_left bs ds (formed_right cs (bs ++ ds) f)) s

  choice_formed : (cs : List Command) (ls : List ℕ) (body : MessageBody) → AllFormed cs
      → SpellsChoice cs ls body → is_formed_body (view_body body) ≡ true
  choice_formed _ _ _ f (SpellsChoice.plural_ c d z cs bs ds ls ks ms e offset cases other a w s b r g) =
      let i = said (says.Opens (opening.Plural e offset)) c a f.0 in
      let j = formed_right ds (cs ++ (d ∷ (bs ++ (z ∷ [])))) f.1 in
      let k = formed_right cs (d ∷ (bs ++ (z ∷ []))) j in
      ap is_formed_body (view-Plural e offset cases other)
      ∙ all_four (is_formed_expr (view_expr e)) (nat_le offset largest)
      (are_formed_plural_cases (view_plural_cases cases)) (is_formed_body (view_body other)) i.0 i.1
      (plural_cases_formed cs ls cases (formed_left cs (d ∷ (bs ++ (z ∷ []))) j) s)
      (message_formed bs ks other (formed_left bs (z ∷ []) k.1) r)
  choice_formed _ _ _ f (SpellsChoice.select_ c d z cs bs ds ls ks ms e cases other a w s b r g) =
      let i = said (says.Opens (opening.Select e)) c a f.0 in
      let j = formed_right ds (cs ++ (d ∷ (bs ++ (z ∷ [])))) f.1 in
      let k = formed_right cs (d ∷ (bs ++ (z ∷ []))) j in
      ap is_formed_body (view-Select e cases other)
      ∙ all_three (is_formed_expr (view_expr e)) (are_formed_select_cases (view_select_cases cases))
      (is_formed_body (view_body other)) i
      (select_cases_formed cs ls cases (formed_left cs (d ∷ (bs ++ (z ∷ []))) j) s)
      (message_formed bs ks other (formed_left bs (z ∷ []) k.1) r)

  plural_cases_formed : (cs : List Command) (ls : List ℕ) (cases : List PluralCase) → AllFormed cs
      → SpellsPluralCases cs ls cases → are_formed_plural_cases (view_plural_cases cases) ≡ true
  plural_cases_formed _ _ _ f SpellsPluralCases.no_plural_case_ = refl
  plural_cases_formed _ _ _ f (SpellsPluralCases.plural_case_ cs bs ls ks cases c values body s a b) =
      let i = formed_right cs (c ∷ bs) f in
      plurals_append cases (plural_cases values body) (plural_cases_formed cs ls cases (formed_left cs (c ∷ bs) f) s)
      (plural_copies values body (said (says.GoesOn (middle.PluralCase values)) c a i.0)
      (message_formed bs ks body i.1 b))

  select_cases_formed : (cs : List Command) (ls : List ℕ) (cases : List SelectCase) → AllFormed cs
      → SpellsSelectCases cs ls cases → are_formed_select_cases (view_select_cases cases) ≡ true
  select_cases_formed _ _ _ f SpellsSelectCases.no_select_case_ = refl
  select_cases_formed _ _ _ f (SpellsSelectCases.select_case_ cs bs ls ks cases c values body s a b) =
      let i = formed_right cs (c ∷ bs) f in
      selects_append cases (select_cases values body) (select_cases_formed cs ls cases (formed_left cs (c ∷ bs) f) s)
      (select_copies values body (said (says.GoesOn (middle.SelectCase values)) c a i.0)
      (message_formed bs ks body i.1 b))

-- a message with the levels of its commands
whole_formed : (cs : List Command) (ls : List ℕ) (desc meaning : List ℕ) (body : MessageBody) (span : Span)
    → AllFormed cs → AllUnder 63 ls → SpellsMessageBody cs ls body
    → is_formed_message (view_message (whole_message desc meaning body span)) ≡ true
whole_formed cs ls desc meaning body span f u s =
    let n = body_nests 63 cs ls body u s in
    let within : nat_le (nesting (view_body body)) 63 ≡ true = grind (arith, nat_tests, n) in
    ap is_formed_message (view-message desc meaning body span)
    ∙ both (is_formed_body (view_body body)) (nat_le (nesting (view_body body)) 63)
    (message_formed cs ls body f s) within

-- lists that go on

arms_append : (arms : List Arm) (e : Expr) (body : List Node) → are_formed_arms (view_arms arms) ≡ true
    → is_formed_expr (view_expr e) ≡ true → are_formed_nodes (view_nodes body) ≡ true
    → are_formed_arms (view_arms (arms ++ (arm_of e body ∷ []))) ≡ true
arms_append [] e body h k l =
    ap (λ a. are_formed_arms (arms_of (a ∷ []))) (view-arm e body)
    ∙ all_three (is_formed_expr (view_expr e)) (are_formed_nodes (view_nodes body)) true k l refl
arms_append (a ∷ arms) e body h k l =
    third (is_formed_expr (view_arm a).0) (are_formed_nodes (view_arm a).1) (are_formed_arms (view_arms arms))
    (are_formed_arms (view_arms (arms ++ (arm_of e body ∷ [])))) (λ m. arms_append arms e body m k l) h

cases_append : (cases : List Case) (values : List Expr) (body : List Node) → are_formed_cases (view_cases cases) ≡ true
    → list_all is_formed_expr (view_exprs values) ≡ true → are_formed_nodes (view_nodes body) ≡ true
    → are_formed_cases (view_cases (cases ++ (case_of values body ∷ []))) ≡ true
cases_append [] values body h k l =
    ap (λ c. are_formed_cases (cases_of (c ∷ []))) (view-case values body)
    ∙ all_three (list_all is_formed_expr (view_exprs values)) (are_formed_nodes (view_nodes body)) true k l refl
cases_append (c ∷ cases) values body h k l =
    third (list_all is_formed_expr (view_case c).0) (are_formed_nodes (view_case c).1)
    (are_formed_cases (view_cases cases)) (are_formed_cases (view_cases (cases ++ (case_of values body ∷ []))))
    (λ m. cases_append cases values body m k l) h

arguments_append : (arguments : List Argument) (name : List ℕ) (g : Given) (span : Span)
    → are_formed_arguments (view_arguments arguments) ≡ true → is_name name ≡ true
    → is_formed_given (view_given g) ≡ true
    → are_formed_arguments (view_arguments (arguments ++ (argument_of name g span ∷ []))) ≡ true
arguments_append [] name g span h k l =
    ap (λ a. are_formed_arguments (arguments_of (a ∷ []))) (view-argument name g span)
    ∙ all_three (is_name name) (is_formed_given (view_given g)) true k l refl
arguments_append (a ∷ arguments) name g span h k l =
    third (is_name (view_argument a).0) (is_formed_given (view_argument a).1)
    (are_formed_arguments (view_arguments arguments))
    (are_formed_arguments (view_arguments (arguments ++ (argument_of name g span ∷ []))))
    (λ m. arguments_append arguments name g span m k l) h

-- bodies

mutual
  nodes_formed : (cs : List Command) (ls : List ℕ) (ns : List Node) → AllFormed cs → AllUnder 63 ls
      → SpellsNodes cs ls ns → NodesFormed ns
  nodes_formed _ _ _ f u SpellsNodes.no_node_ = record { formed = refl; last = refl }
  nodes_formed _ _ _ f u (SpellsNodes.node_ cs ds ls ms ns n b o) =
      with_node ns n (body_formed cs ls ns (formed_left cs ds f) (under_left 63 ls ms u) b)
      (node_formed ds ms n (formed_right cs ds f) (under_right 63 ls ms u) o)

  body_formed : (cs : List Command) (ls : List ℕ) (ns : List Node) → AllFormed cs → AllUnder 63 ls
      → SpellsBody cs ls ns → are_formed_nodes (view_nodes ns) ≡ true
  body_formed _ _ _ f u (SpellsBody.plain_ cs ls ns s) = (nodes_formed cs ls ns f u s).formed
  body_formed _ _ _ f u (SpellsBody.text_ cs ds ls ms ns text span s t) =
      with_text_node ns text span (nodes_formed cs ls ns (formed_left cs ds f) (under_left 63 ls ms u) s)

  node_formed : (cs : List Command) (ls : List ℕ) (n : Node) → AllFormed cs → AllUnder 63 ls → SpellsNode cs ls n
      → NodeFormed n
  node_formed _ _ _ f u (SpellsNode.print_ c e h) =
      formed_as (node_of (form.Print e None) c.span) (tree.Print (view_expr e) None c.span) (view_print e None c.span)
      refl (both (is_formed_expr (view_expr e)) true (said (says.Single (single.Print e)) c h f.0) refl)
  node_formed _ _ _ f u (SpellsNode.let_ c name e h) =
      let i = said (says.Single (single.Let name e)) c h f.0 in
      formed_as (node_of (form.Let name e) c.span) (tree.Let name (view_expr e) c.span) (view-Let name e c.span) refl
      (both (is_name name) (is_formed_expr (view_expr e)) i.0 i.1)
  node_formed _ _ _ f u (SpellsNode.call_alone_ c name all h) =
      formed_as (node_of (form.Call name all []) c.span) (tree.Call name all tree.no_argument c.span)
      (view-Call name all [] c.span) refl
      (both (is_dotted_name name) true (said (says.Single (single.Call name all)) c h f.0) refl)
  node_formed _ _ _ f u (SpellsNode.if_ z cs ls arms start s h) =
      let span = joined start z.span in
      formed_as (node_of (form.If arms None) span) (tree.If (view_arms arms) tree.no_otherwise span) (view-If arms span)
      refl (both (are_formed_arms (view_arms arms)) true
      (arms_formed cs ls arms start (formed_left cs (z ∷ []) f) (under_left 63 ls (1 ∷ []) u) s) refl)
  node_formed _ _ _ f u (SpellsNode.if_else_ d z cs bs ls ks arms body start s e b h) =
      let span = joined start z.span in
      let i = formed_right cs (d ∷ (bs ++ (z ∷ []))) f in
      let v = under_block 63 (0 ∷ (ks ++ (0 ∷ []))) (under_right 63 ls (inside_blocks 1 (0 ∷ (ks ++ (0 ∷ [])))) u) in
      formed_as (node_of (form.If arms (Some body)) span)
      (tree.If (view_arms arms) (tree.otherwise (view_nodes body)) span) (view-IfElse arms body span) refl
      (both (are_formed_arms (view_arms arms)) (are_formed_nodes (view_nodes body))
      (arms_formed cs ls arms start (formed_left cs (d ∷ (bs ++ (z ∷ []))) f)
      (under_left 63 ls (inside_blocks 1 (0 ∷ (ks ++ (0 ∷ [])))) u) s)
      (body_formed bs ks body (formed_left bs (z ∷ []) i.1) (under_left 63 ks (0 ∷ []) v.1) b))
  node_formed _ _ _ f u (SpellsNode.switch_ c z ds cs ms ls e cases a w s h) =
      let span = joined c.span z.span in
      let v = under_block 63 (ms ++ (ls ++ (0 ∷ []))) u.1 in
      formed_as (node_of (form.Switch e cases None) span)
      (tree.Switch (view_expr e) (view_cases cases) tree.no_otherwise span) (view-Switch e cases span) refl
      (all_three (is_formed_expr (view_expr e)) (are_formed_cases (view_cases cases)) true
      (said (says.Opens (opening.Switch e)) c a f.0)
      (cases_formed cs ls cases (formed_left cs (z ∷ []) (formed_right ds (cs ++ (z ∷ [])) f.1))
      (under_left 63 ls (0 ∷ []) (under_right 63 ms (ls ++ (0 ∷ [])) v)) s) refl)
  node_formed _ _ _ f u (SpellsNode.switch_default_ c d z ds cs bs ms ls ks e cases body a w s b r h) =
      let span = joined c.span z.span in
      let v = under_block 63 (ms ++ (ls ++ (0 ∷ (ks ++ (0 ∷ []))))) u.1 in
      let x = under_right 63 ms (ls ++ (0 ∷ (ks ++ (0 ∷ [])))) v in
      let y = under_right 63 ls (0 ∷ (ks ++ (0 ∷ []))) x in
      let i = formed_right ds (cs ++ (d ∷ (bs ++ (z ∷ [])))) f.1 in
      let j = formed_right cs (d ∷ (bs ++ (z ∷ []))) i in
      formed_as (node_of (form.Switch e cases (Some body)) span)
      (tree.Switch (view_expr e) (view_cases cases) (tree.otherwise (view_nodes body)) span)
      (view-SwitchDefault e cases body span) refl
      (all_three (is_formed_expr (view_expr e)) (are_formed_cases (view_cases cases))
      (are_formed_nodes (view_nodes body)) (said (says.Opens (opening.Switch e)) c a f.0)
      (cases_formed cs ls cases (formed_left cs (d ∷ (bs ++ (z ∷ []))) i)
      (under_left 63 ls (0 ∷ (ks ++ (0 ∷ []))) x) s)
      (body_formed bs ks body (formed_left bs (z ∷ []) j.1) (under_left 63 ks (0 ∷ []) y.1) r))
  node_formed _ _ _ f u (SpellsNode.for_ c z bs ks name index e body a b h) =
      let span = joined c.span z.span in
      let i = said (says.Opens (opening.For name index e)) c a f.0 in
      let v = under_block 63 (ks ++ (0 ∷ [])) u.1 in
      formed_as (node_of (form.For name index e body) span)
      (tree.For name index (view_expr e) (view_nodes body) span) (view-For name index e body span) refl
      (all_four (is_name name) (if_there is_name index) (is_formed_expr (view_expr e))
      (are_formed_nodes (view_nodes body)) i.0 i.1 i.2
      (body_formed bs ks body (formed_left bs (z ∷ []) f.1) (under_left 63 ks (0 ∷ []) v) b))
  node_formed _ _ _ f u (SpellsNode.let_block_ c z bs ks name kind body a b h) =
      let span = up_to c.span z.span in
      let v = under_block 63 (ks ++ (0 ∷ [])) u.1 in
      formed_as (node_of (form.LetBlock name kind body) span) (tree.LetBlock name kind (view_nodes body) span)
      (view-LetBlock name kind body span) refl
      (both (is_name name) (are_formed_nodes (view_nodes body)) (said (says.Opens (opening.Let name kind)) c a f.0)
      (body_formed bs ks body (formed_left bs (z ∷ []) f.1) (under_left 63 ks (0 ∷ []) v) b))
  node_formed _ _ _ f u (SpellsNode.call_ c z cs ls name all arguments a s h) =
      let span = joined c.span z.span in
      let v = under_block 63 (ls ++ (0 ∷ [])) u.1 in
      formed_as (node_of (form.Call name all arguments) span) (tree.Call name all (view_arguments arguments) span)
      (view-Call name all arguments span) refl
      (both (is_dotted_name name) (are_formed_arguments (view_arguments arguments))
      (said (says.Opens (opening.Call name all)) c a f.0)
      (arguments_formed cs ls arguments (formed_left cs (z ∷ []) f.1) (under_left 63 ls (0 ∷ []) v) s))
  node_formed _ _ _ f u (SpellsNode.message_ c z bs ks desc meaning body a b h) =
      let span = joined c.span z.span in
      let m = whole_message desc meaning body c.span in
      let v = under_block 63 (ks ++ (0 ∷ [])) u.1 in
      formed_as (node_of (form.Message m None) span) (tree.MessageNode (view_message m) tree.no_fallback span)
      (view-Message m span) refl
      (both (is_formed_message (view_message m)) true
      (whole_formed bs ks desc meaning body c.span (formed_left bs (z ∷ []) f.1) (under_left 63 ks (0 ∷ []) v) b) refl)
  node_formed _ _ _ f u
      (SpellsNode.message_fallback_ c d z bs es ks js desc meaning older older_meaning body other a b e s h) =
      let span = joined c.span z.span in
      let m = whole_message desc meaning body c.span in
      let o = whole_message older older_meaning other d.span in
      let v = under_block 63 (ks ++ (0 ∷ (js ++ (0 ∷ [])))) u.1 in
      let w = under_right 63 ks (0 ∷ (js ++ (0 ∷ []))) v in
      let i = formed_right bs (d ∷ (es ++ (z ∷ []))) f.1 in
      formed_as (node_of (form.Message m (Some o)) span)
      (tree.MessageNode (view_message m) (tree.fallback (view_message o)) span) (view-MessageFallback m o span) refl
      (both (is_formed_message (view_message m)) (is_formed_message (view_message o))
      (whole_formed bs ks desc meaning body c.span (formed_left bs (d ∷ (es ++ (z ∷ []))) f.1)
      (under_left 63 ks (0 ∷ (js ++ (0 ∷ []))) v) b)
      (whole_formed es js older older_meaning other d.span (formed_left es (z ∷ []) i.1)
      (under_left 63 js (0 ∷ []) w.1) s))

  arms_formed : (cs : List Command) (ls : List ℕ) (arms : List Arm) (start : Span) → AllFormed cs → AllUnder 63 ls
      → SpellsArms cs ls arms start → are_formed_arms (view_arms arms) ≡ true
  arms_formed _ _ _ _ f u (SpellsArms.first_arm_ c bs ks e body h b) =
      arms_append [] e body refl (said (says.Opens (opening.If e)) c h f.0)
      (body_formed bs ks body f.1 (under_block 63 ks u.1) b)
  arms_formed _ _ _ _ f u (SpellsArms.next_arm_ cs bs ls ks arms start d e body s h b) =
      let i = formed_right cs (d ∷ bs) f in
      let v = under_block 63 (0 ∷ ks) (under_right 63 ls (inside_blocks 1 (0 ∷ ks)) u) in
      arms_append arms e body
      (arms_formed cs ls arms start (formed_left cs (d ∷ bs) f) (under_left 63 ls (inside_blocks 1 (0 ∷ ks)) u) s)
      (said (says.GoesOn (middle.ElseIf e)) d h i.0) (body_formed bs ks body i.1 v.1 b)

  cases_formed : (cs : List Command) (ls : List ℕ) (cases : List Case) → AllFormed cs → AllUnder 63 ls
      → SpellsCases cs ls cases → are_formed_cases (view_cases cases) ≡ true
  cases_formed _ _ _ f u SpellsCases.no_case_ = refl
  cases_formed _ _ _ f u (SpellsCases.case_ cs bs ls ks cases c values body s h b) =
      let i = formed_right cs (c ∷ bs) f in
      cases_append cases values body
      (cases_formed cs ls cases (formed_left cs (c ∷ bs) f) (under_left 63 ls (0 ∷ ks) u) s)
      (said (says.GoesOn (middle.Case values)) c h i.0)
      (body_formed bs ks body i.1 (under_right 63 ls (0 ∷ ks) u).1 b)

  arguments_formed : (cs : List Command) (ls : List ℕ) (arguments : List Argument) → AllFormed cs → AllUnder 63 ls
      → SpellsArguments cs ls arguments → are_formed_arguments (view_arguments arguments) ≡ true
  arguments_formed _ _ _ f u SpellsArguments.no_argument_ = refl
  arguments_formed _ _ _ f u (SpellsArguments.white_ cs ls arguments c text s h w) =
      arguments_formed cs ls arguments (formed_left cs (c ∷ []) f) (under_left 63 ls (0 ∷ []) u) s
  arguments_formed _ _ _ f u (SpellsArguments.param_ cs ls arguments c name e s h) =
      let i = said (says.Single (single.Param name e)) c h (formed_right cs (c ∷ []) f).0 in
      arguments_append arguments name (given.Plain e) c.span
      (arguments_formed cs ls arguments (formed_left cs (c ∷ []) f) (under_left 63 ls (0 ∷ []) u) s) i.0
      (ap is_formed_given (view-Plain e) ∙ i.1)
  arguments_formed _ _ _ f u (SpellsArguments.param_block_ cs bs ls ks arguments c z name kind body s h b e) =
      let i = formed_right cs (c ∷ (bs ++ (z ∷ []))) f in
      let v = under_right 63 ls (0 ∷ inside_blocks 1 (ks ++ (0 ∷ []))) u in
      let w = under_block 63 (ks ++ (0 ∷ [])) v.1 in
      arguments_append arguments name (given.Block kind body) (up_to c.span z.span)
      (arguments_formed cs ls arguments (formed_left cs (c ∷ (bs ++ (z ∷ []))) f)
      (under_left 63 ls (0 ∷ inside_blocks 1 (ks ++ (0 ∷ []))) u) s)
      (said (says.Opens (opening.Param name kind)) c h i.0)
      (ap is_formed_given (view-Block kind body)
      ∙ body_formed bs ks body (formed_left bs (z ∷ []) i.1) (under_left 63 ks (0 ∷ []) w) b)

-- files

params_formed : (cs : List Command) (ls : List ℕ) (params : List Param) → AllFormed cs → SpellsParams cs ls params
    → list_all is_formed_param (view_params params) ≡ true
params_formed _ _ _ f SpellsParams.none_ = refl
params_formed _ _ _ f (SpellsParams.param_ cs ls params c name required of s h) =
    let i = said (says.TemplateParam name required of) c h (formed_right cs (c ∷ []) f).0 in
    one_more params (as_param name of required c.span) (params_formed cs ls params (formed_left cs (c ∷ []) f) s)
    (both (is_name name) (is_formed_type (view_type of)) i.0 i.1)
  where
    one_more : (ps : List Param) (p : Param) → list_all is_formed_param (view_params ps) ≡ true
        → is_formed_param (view_param p) ≡ true → list_all is_formed_param (view_params (ps ++ (p ∷ []))) ≡ true
    one_more [] p h k = both (is_formed_param (view_param p)) true k refl
    one_more (q ∷ ps) p h k =
        let rest = list_all is_formed_param (view_params ps) in
        both (is_formed_param (view_param q)) (list_all is_formed_param (view_params (ps ++ (p ∷ []))))
        (first_of (is_formed_param (view_param q)) rest h)
        (one_more ps p (second_of (is_formed_param (view_param q)) rest h) k)

templates_append : (ts : List Template) (t : Template) → list_all is_formed_template (map view_template ts) ≡ true
    → is_formed_template (view_template t) ≡ true
    → list_all is_formed_template (map view_template (ts ++ (t ∷ []))) ≡ true
templates_append [] t h k = both (is_formed_template (view_template t)) true k refl
templates_append (u ∷ ts) t h k =
    let rest = list_all is_formed_template (map view_template ts) in
    both (is_formed_template (view_template u)) (list_all is_formed_template (map view_template (ts ++ (t ∷ []))))
    (first_of (is_formed_template (view_template u)) rest h)
    (templates_append ts t (second_of (is_formed_template (view_template u)) rest h) k)

templates_formed : (cs : List Command) (ls : List ℕ) (templates : List Template) → AllFormed cs → AllUnder 64 ls
    → SpellsTemplates cs ls templates → list_all is_formed_template (map view_template templates) ≡ true
templates_formed _ _ _ f u SpellsTemplates.none_ = refl
templates_formed _ _ _ f u (SpellsTemplates.white_ cs ls templates c text s h w) =
    templates_formed cs ls templates (formed_left cs (c ∷ []) f) (under_left 64 ls (0 ∷ []) u) s
templates_formed _ _ _ f u (SpellsTemplates.template_ cs ps bs ls ms ks templates c z h params body s a p b e) =
    let i = formed_right cs (c ∷ (ps ++ (bs ++ (z ∷ [])))) f in
    let j = formed_right ps (bs ++ (z ∷ [])) i.1 in
    let v = under_right 64 ls (0 ∷ inside_blocks 1 (ms ++ (ks ++ (0 ∷ [])))) u in
    let w = under_inside 64 (ms ++ (ks ++ (0 ∷ []))) v.1 in
    templates_append templates (template_of h params body (up_to c.span z.span))
    (templates_formed cs ls templates (formed_left cs (c ∷ (ps ++ (bs ++ (z ∷ [])))) f)
    (under_left 64 ls (0 ∷ inside_blocks 1 (ms ++ (ks ++ (0 ∷ [])))) u) s)
    (all_three (is_name h.name) (list_all is_formed_param (view_params params)) (are_formed_nodes (view_nodes body))
    (said (says.Opens (opening.Template h)) c a i.0)
    (params_formed ps ms params (formed_left ps (bs ++ (z ∷ [])) i.1) p)
    (body_formed bs ks body (formed_left bs (z ∷ []) j)
    (under_left 63 ks (0 ∷ []) (under_right 63 ms (ks ++ (0 ∷ [])) w)) b))

tree_formed : (cs : List Command) (ls : List ℕ) (t : Tree) → AllFormed cs → AllUnder 64 ls → SpellsTree cs ls t
    → is_formed_tree (view_tree t) ≡ true
tree_formed _ _ _ f u (SpellsTree.tree_ ds cs ms ls c name templates w h s) =
    let i = formed_right ds (c ∷ cs) f in
    let v = under_right 64 ms (0 ∷ ls) u in
    both (is_dotted_name name) (list_all is_formed_template (map view_template templates))
    (said (says.Namespace name) c h i.0) (templates_formed cs ls templates i.1 v.1 s)

-- the levels of commands of which no token lies too deep

record BeginsLevel (ds : List ℕ) : Type 0 where
  pub more : List ℕ
  pub is : ds ≡ 0 ∷ more

begins_level : (ts : List Token) (ds : List ℕ) (ws : List Bool) (c : Command) → SpellsCommand ts ds ws c
    → BeginsLevel ds
begins_level _ _ _ _ (SpellsCommand.text_ t e) = record { more = []; is = refl }
begins_level _ _ _ _ (SpellsCommand.command_ opening_ close ts us ds ws h a of e s b i) = record {
  more = ds ++ none_deep (us ++ (close ∷ []));
  is = refl;
}

within_right : (ds es : List ℕ) → AreWithin 0 (ds ++ es) → AreWithin 0 es
within_right [] es h = h
within_right (d ∷ ds) es h = within_right ds es h.1

first_level : (l : ℕ) (ds es : List ℕ) → BeginsLevel ds → AreWithin 0 (inside_blocks l ds ++ es) → l ≤ 64
first_level l ds es b h = let w = subst (λ ds. AreWithin 0 (inside_blocks l ds ++ es)) b.is h in omega (arith, w.0)

levels_within : (ts : List Token) (ds : List ℕ) (ws : List Bool) (cs : List Command) (ls : List ℕ)
    → AreWithin 0 ds → SpellsCommands ts ds ws cs ls → AllUnder 64 ls
levels_within _ _ _ _ _ h SpellsCommands.none_ = tt
levels_within _ _ _ _ _ h (SpellsCommands.more_ ts us ds es ws vs c cs level levels s r) = (
  first_level level ds es (begins_level ts ds ws c s) h,
  levels_within us es vs cs levels (within_right (inside_blocks level ds) es h) r,
)

-- **A file that tokens spell whose words and variables are names, and of which none lies too deep, is formed.**
pub file_formed : (tokens : List Token) (ds : List ℕ) (ws : List Bool) (t : Tree) → AreNamed tokens → AreWithin 0 ds
    → SpellsFile tokens ds ws t → is_formed_tree (view_tree t) ≡ true
file_formed tokens ds ws t n h s =
    tree_formed s.commands s.levels t (commands_formed tokens ds ws s.commands s.levels n s.spell)
    (levels_within tokens ds ws s.commands s.levels h s.spell) s.are

-- **What a text's tokens are as a file is formed.**
pub text_formed : (text : List ℕ) (tokens : List Token) (t : Tree) → Tokens text tokens → IsFile tokens t
    → is_formed_tree (view_tree t) ≡ true
text_formed text tokens t s i = file_formed tokens i.depths i.words t (text_named text tokens s) i.within i.spells
