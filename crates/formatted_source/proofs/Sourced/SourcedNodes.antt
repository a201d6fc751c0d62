-- The tree of a text is one that a text may have: what its commands say lacks what its tokens lack.
use Rattle.std.proofs.Common.{◌≡◌, ℕ, ℤ, ◌&&◌, Bool, true, false, List, [], ◌∷◌, ◌++◌, map, Some, None}
use Rattle.std.proofs.Common.{refl, ap}
use Rattle.std.proofs.Common.{subst, ◌∙◌}
use Rattle.std.specs.List.{list_all}
use Rattle.soy_base.specs.declared.fault.Span.{Span}
use Rattle.soy_lexer.specs.Tokens.{Tokens}
use Rattle.soy_lexer.specs.declared.token.Token.{Token}
use Rattle.soy_tree.specs.ViewExpressions.{view_exprs}
use Rattle.soy_tree.specs.ViewNodes.{view_node, view_nodes, view_arm, view_arms, view_case, view_cases, view_argument}
use Rattle.soy_tree.specs.ViewNodes.{view_arguments, view_given, view_message, view_body, view_plural_case}
use Rattle.soy_tree.specs.ViewNodes.{view_plural_cases, view_select_case, view_select_cases, arms_of, cases_of}
use Rattle.soy_tree.specs.ViewNodes.{arguments_of}
use Rattle.soy_tree.specs.ViewTrees.{view_template, view_tree}
use Rattle.soy_tree.specs.Trees as trees
use Rattle.soy_tree.specs.declared.expr.Expr.{Expr}
use Rattle.soy_tree.specs.declared.node.Argument.{Argument}
use Rattle.soy_tree.specs.declared.node.Arm.{Arm}
use Rattle.soy_tree.specs.declared.node.Case.{Case}
use Rattle.soy_tree.specs.declared.node.Form.TheVariants as form
use Rattle.soy_tree.specs.declared.node.Given.{Given}
use Rattle.soy_tree.specs.declared.node.Given.TheVariants as given
use Rattle.soy_tree.specs.declared.node.MessageBody.{MessageBody}
use Rattle.soy_tree.specs.declared.node.Node.{Node}
use Rattle.soy_tree.specs.declared.node.PluralCase.{PluralCase}
use Rattle.soy_tree.specs.declared.node.SelectCase.{SelectCase}
use Rattle.soy_tree.specs.declared.tree.Template.{Template}
use Rattle.soy_tree.specs.declared.tree.Tree.{Tree}
use Rattle.expr_parser.specs.Operands.{joined}
use Rattle.soy_parser.specs.declared.command.Command.{Command}
use Rattle.soy_parser.specs.declared.command.CommandForm.{CommandForm}
use Rattle.soy_parser.specs.declared.command.CommandForm.TheVariants as says
use Rattle.soy_parser.specs.declared.command.Middle.TheVariants as middle
use Rattle.soy_parser.specs.declared.command.Opening.TheVariants as opening
use Rattle.soy_parser.specs.Nodes.{node_of, arm_of, case_of, argument_of, whole_message, plural_cases, select_cases}
use Rattle.soy_parser.specs.Nodes.{up_to}
use Rattle.soy_parser.specs.ParsesFile.{IsFile}
use Rattle.soy_parser.specs.SpellsTree.{SpellsText, SpellsPrints, SpellsParts, SpellsMessageBody, SpellsChoice, text_of}
use Rattle.soy_parser.specs.SpellsTree.{SpellsPluralCases, SpellsSelectCases, SpellsNodes, SpellsBody, SpellsNode}
use Rattle.soy_parser.specs.SpellsTree.{SpellsArms, SpellsCases, SpellsArguments, SpellsTemplates, SpellsTree}
use Rattle.soy_parser.specs.SpellsTree.{template_of}
use Rattle.soy_parser.proofs.NodeViews.{view_text, view_print}
use Rattle.soy_parser.proofs.ViewForms.{view-If, view-IfElse, view-Switch, view-SwitchDefault, view-For, view-Let}
use Rattle.soy_parser.proofs.ViewForms.{view-LetBlock, view-Call, view-Message, view-MessageFallback, view-arm}
use Rattle.soy_parser.proofs.ViewForms.{view-case, view-argument, view-Plain, view-Block, view-message, view-Parts}
use Rattle.soy_parser.proofs.ViewForms.{view-Plural, view-Select, view-plural-case, view-select-case}
use Rattle.formatted_source.specs.SourcedTrees.{are_sourced_arguments, are_sourced_arms, are_sourced_cases}
use Rattle.formatted_source.specs.SourcedTrees.{are_sourced_nodes, are_sourced_plural_cases, are_sourced_select_cases}
use Rattle.formatted_source.specs.SourcedTrees.{has_arm, has_value, is_source_text, is_source_value, is_sourced_body}
use Rattle.formatted_source.specs.SourcedTrees.{is_sourced_given, is_sourced_message, is_sourced_node, is_sourced_tree}
use Rattle.formatted_source.proofs.Sourced.SourcedCommands.{AllSourced, SourcedForm, all_left, all_right}
use Rattle.formatted_source.proofs.Sourced.SourcedCommands.{commands_sourced}
use Rattle.formatted_source.proofs.Sourced.TokenTexts.{text_sourced}
use Rattle.formatted_source.proofs.Written.Values.{lacks-append}

two : (a b : Bool) → a ≡ true → b ≡ true → (a && b) ≡ true
two a b p q = rw (p, q) refl

three : (a b c : Bool) → a ≡ true → b ≡ true → c ≡ true → (a && b && c) ≡ true
three a b c p q r = rw (p, q, r) refl

-- the last of two, or of three, may be another
second : (a b d : Bool) → (b ≡ true → d ≡ true) → (a && b) ≡ true → (a && d) ≡ true
second true b d f h = f h
second false b d f h = absurd (cc h)

third : (a b c d : Bool) → (c ≡ true → d ≡ true) → (a && b && c) ≡ true → (a && b && d) ≡ true
third true true c d f h = f h
third true false c d f h = absurd (cc h)
third false b c d f h = absurd (cc h)

said : (of : CommandForm) (c : Command) → c.form ≡ of → SourcedForm c.form → SourcedForm of
said of c e f = subst SourcedForm e f

-- neighbouring texts
form_text : (f : CommandForm) (text : List ℕ) → text_of f ≡ Some text → SourcedForm f → is_source_text text ≡ true
form_text (says.Text t) text e s = let same : t ≡ text = cc in subst (λ x. is_source_text x ≡ true) same s
form_text (says.Character t) text e s = let same : t ≡ text = cc in subst (λ x. is_source_text x ≡ true) same s
form_text (says.Namespace n) text e s = absurd (cc)
form_text (says.TemplateParam n required of) text e s = absurd (cc)
form_text (says.Single of) text e s = absurd (cc)
form_text (says.Opens of) text e s = absurd (cc)
form_text (says.GoesOn m) text e s = absurd (cc)
form_text (says.Closes n) text e s = absurd (cc)

text_is : (cs : List Command) (ls : List ℕ) (text : List ℕ) (span : Span) → AllSourced cs → SpellsText cs ls text span
    → is_source_text text ≡ true
text_is _ _ _ _ f (SpellsText.first_ c text e) = form_text c.form text e f.0
text_is _ _ _ _ f (SpellsText.next_ cs ls c text more span s e) =
    lacks-append (0 ∷ []) text more (text_is cs ls text span (all_left cs (c ∷ []) f) s)
    (form_text c.form more e (all_right cs (c ∷ []) f).0)

-- one more node
nodes_more : (m : Bool) (ns : List Node) (n : Node) → are_sourced_nodes m (view_nodes ns) ≡ true
    → is_sourced_node m (view_node n) ≡ true → are_sourced_nodes m (view_nodes (ns ++ (n ∷ []))) ≡ true
nodes_more m [] n h k = two (is_sourced_node m (view_node n)) true k refl
nodes_more m (o ∷ ns) n h k =
    second (is_sourced_node m (view_node o)) (are_sourced_nodes m (view_nodes ns))
    (are_sourced_nodes m (view_nodes (ns ++ (n ∷ [])))) (λ l. nodes_more m ns n l k) h

with_text : (m : Bool) (ns : List Node) (text : List ℕ) (span : Span) → are_sourced_nodes m (view_nodes ns) ≡ true
    → is_source_text text ≡ true → are_sourced_nodes m (view_nodes (ns ++ (node_of (form.Text text) span ∷ []))) ≡ true
with_text m ns text span h k =
    nodes_more m ns (node_of (form.Text text) span) h (ap (is_sourced_node m) (view_text text span) ∙ k)

-- messages

mutual
  prints_are : (cs : List Command) (ls : List ℕ) (ns : List Node) → AllSourced cs → SpellsPrints cs ls ns
      → are_sourced_nodes true (view_nodes ns) ≡ true
  prints_are _ _ _ f SpellsPrints.none_ = refl
  prints_are _ _ _ f (SpellsPrints.print_ cs ls ns c e phname s h) =
      nodes_more true ns (node_of (form.Print e phname) c.span) (parts_are cs ls ns (all_left cs (c ∷ []) f) s)
      (ap (is_sourced_node true) (view_print e phname c.span))

  parts_are : (cs : List Command) (ls : List ℕ) (ns : List Node) → AllSourced cs → SpellsParts cs ls ns
      → are_sourced_nodes true (view_nodes ns) ≡ true
  parts_are _ _ _ f (SpellsParts.plain_ cs ls ns s) = prints_are cs ls ns f s
  parts_are _ _ _ f (SpellsParts.text_ cs ds ls ms ns text span s t) =
      with_text true ns text span (prints_are cs ls ns (all_left cs ds f) s)
      (text_is ds ms text span (all_right cs ds f) t)

plurals_append : (cs ds : List PluralCase) → are_sourced_plural_cases (view_plural_cases cs) ≡ true
    → are_sourced_plural_cases (view_plural_cases ds) ≡ true
    → are_sourced_plural_cases (view_plural_cases (cs ++ ds)) ≡ true
plurals_append [] ds h k = k
plurals_append (c ∷ cs) ds h k =
    second (is_sourced_body (view_plural_case c).1) (are_sourced_plural_cases (view_plural_cases cs))
    (are_sourced_plural_cases (view_plural_cases (cs ++ ds))) (λ l. plurals_append cs ds l k) h

plural_copies : (values : List ℤ) (body : MessageBody) → is_sourced_body (view_body body) ≡ true
    → are_sourced_plural_cases (view_plural_cases (plural_cases values body)) ≡ true
plural_copies [] body k = refl
plural_copies (n ∷ values) body k =
    two (is_sourced_body (view_plural_case (record { is = n; body = body })).1)
    (are_sourced_plural_cases (view_plural_cases (plural_cases values body)))
    (ap (λ p. is_sourced_body p.1) (view-plural-case n body) ∙ k) (plural_copies values body k)

selects_append : (cs ds : List SelectCase) → are_sourced_select_cases (view_select_cases cs) ≡ true
    → are_sourced_select_cases (view_select_cases ds) ≡ true
    → are_sourced_select_cases (view_select_cases (cs ++ ds)) ≡ true
selects_append [] ds h k = k
selects_append (c ∷ cs) ds h k =
    second (is_sourced_body (view_select_case c).1) (are_sourced_select_cases (view_select_cases cs))
    (are_sourced_select_cases (view_select_cases (cs ++ ds))) (λ l. selects_append cs ds l k) h

select_copies : (values : List (List ℕ)) (body : MessageBody) → is_sourced_body (view_body body) ≡ true
    → are_sourced_select_cases (view_select_cases (select_cases values body)) ≡ true
select_copies [] body k = refl
select_copies (word ∷ values) body k =
    two (is_sourced_body (view_select_case (record { is = word; body = body })).1)
    (are_sourced_select_cases (view_select_cases (select_cases values body)))
    (ap (λ p. is_sourced_body p.1) (view-select-case word body) ∙ k) (select_copies values body k)

mutual
  message_is : (cs : List Command) (ls : List ℕ) (body : MessageBody) → AllSourced cs
      → SpellsMessageBody cs ls body → is_sourced_body (view_body body) ≡ true
  message_is _ _ _ f (SpellsMessageBody.parts_ cs ls ns s h) =
      ap is_sourced_body (view-Parts ns) ∙ parts_are cs ls ns f s
  message_is _ _ _ f (SpellsMessageBody.choice_ cs bs ds ls ks ms body w s v) =
      choice_is bs ks body (all_left bs ds (all_right cs (bs ++ ds) f)) s

  choice_is : (cs : List Command) (ls : List ℕ) (body : MessageBody) → AllSourced cs
      → SpellsChoice cs ls body → is_sourced_body (view_body body) ≡ true
  choice_is _ _ _ f (SpellsChoice.plural_ c d z cs bs ds ls ks ms e offset cases other a w s b r g) =
      let j = all_right ds (cs ++ (d ∷ (bs ++ (z ∷ [])))) f.1 in
      let k = all_right cs (d ∷ (bs ++ (z ∷ []))) j in
      ap is_sourced_body (view-Plural e offset cases other)
      ∙ two (are_sourced_plural_cases (view_plural_cases cases)) (is_sourced_body (view_body other))
      (plural_cases_are cs ls cases (all_left cs (d ∷ (bs ++ (z ∷ []))) j) s)
      (message_is bs ks other (all_left bs (z ∷ []) k.1) r)
  choice_is _ _ _ f (SpellsChoice.select_ c d z cs bs ds ls ks ms e cases other a w s b r g) =
      let j = all_right ds (cs ++ (d ∷ (bs ++ (z ∷ [])))) f.1 in
      let k = all_right cs (d ∷ (bs ++ (z ∷ []))) j in
      ap is_sourced_body (view-Select e cases other)
      ∙ two (are_sourced_select_cases (view_select_cases cases)) (is_sourced_body (view_body other))
      (select_cases_are cs ls cases (all_left cs (d ∷ (bs ++ (z ∷ []))) j) s)
      (message_is bs ks other (all_left bs (z ∷ []) k.1) r)

  plural_cases_are : (cs : List Command) (ls : List ℕ) (cases : List PluralCase) → AllSourced cs
      → SpellsPluralCases cs ls cases → are_sourced_plural_cases (view_plural_cases cases) ≡ true
  plural_cases_are _ _ _ f SpellsPluralCases.no_plural_case_ = refl
  plural_cases_are _ _ _ f (SpellsPluralCases.plural_case_ cs bs ls ks cases c values body s a b) =
      plurals_append cases (plural_cases values body) (plural_cases_are cs ls cases (all_left cs (c ∷ bs) f) s)
      (plural_copies values body (message_is bs ks body (all_right cs (c ∷ bs) f).1 b))

  select_cases_are : (cs : List Command) (ls : List ℕ) (cases : List SelectCase) → AllSourced cs
      → SpellsSelectCases cs ls cases → are_sourced_select_cases (view_select_cases cases) ≡ true
  select_cases_are _ _ _ f SpellsSelectCases.no_select_case_ = refl
  select_cases_are _ _ _ f (SpellsSelectCases.select_case_ cs bs ls ks cases c values body s a b) =
      selects_append cases (select_cases values body) (select_cases_are cs ls cases (all_left cs (c ∷ bs) f) s)
      (select_copies values body (message_is bs ks body (all_right cs (c ∷ bs) f).1 b))

whole_is : (cs : List Command) (ls : List ℕ) (desc meaning : List ℕ) (body : MessageBody) (span : Span)
    → AllSourced cs → is_source_value desc ≡ true → is_source_value meaning ≡ true → SpellsMessageBody cs ls body
    → is_sourced_message (view_message (whole_message desc meaning body span)) ≡ true
whole_is cs ls desc meaning body span f d m s =
    ap is_sourced_message (view-message desc meaning body span)
    ∙ three (is_source_value desc) (is_source_value meaning) (is_sourced_body (view_body body)) d m
    (message_is cs ls body f s)

-- lists that go on

-- arms of which there is one
record ArmsAre (arms : List Arm) : Type 0 where
  pub some : has_arm (view_arms arms) ≡ true
  pub are : are_sourced_arms (view_arms arms) ≡ true

arms_append : (arms : List Arm) (e : Expr) (body : List Node) → are_sourced_arms (view_arms arms) ≡ true
    → are_sourced_nodes false (view_nodes body) ≡ true
    → are_sourced_arms (view_arms (arms ++ (arm_of e body ∷ []))) ≡ true
arms_append [] e body h l =
    ap (λ a. are_sourced_arms (arms_of (a ∷ []))) (view-arm e body)
    ∙ two (are_sourced_nodes false (view_nodes body)) true l refl
arms_append (a ∷ arms) e body h l =
    second (are_sourced_nodes false (view_arm a).1) (are_sourced_arms (view_arms arms))
    (are_sourced_arms (view_arms (arms ++ (arm_of e body ∷ [])))) (λ m. arms_append arms e body m l) h

some_arm : (arms : List Arm) (a : Arm) → has_arm (view_arms (arms ++ (a ∷ []))) ≡ true
some_arm [] a = refl
some_arm (b ∷ arms) a = refl

cases_append : (cases : List Case) (values : List Expr) (body : List Node)
    → are_sourced_cases (view_cases cases) ≡ true → has_value (view_exprs values) ≡ true
    → are_sourced_nodes false (view_nodes body) ≡ true
    → are_sourced_cases (view_cases (cases ++ (case_of values body ∷ []))) ≡ true
cases_append [] values body h k l =
    ap (λ c. are_sourced_cases (cases_of (c ∷ []))) (view-case values body)
    ∙ three (has_value (view_exprs values)) (are_sourced_nodes false (view_nodes body)) true k l refl
cases_append (c ∷ cases) values body h k l =
    third (has_value (view_case c).0) (are_sourced_nodes false (view_case c).1) (are_sourced_cases (view_cases cases))
    (are_sourced_cases (view_cases (cases ++ (case_of values body ∷ [])))) (λ m. cases_append cases values body m k l) h

arguments_append : (arguments : List Argument) (name : List ℕ) (g : Given) (span : Span)
    → are_sourced_arguments (view_arguments arguments) ≡ true → is_sourced_given (view_given g) ≡ true
    → are_sourced_arguments (view_arguments (arguments ++ (argument_of name g span ∷ []))) ≡ true
arguments_append [] name g span h l =
    ap (λ a. are_sourced_arguments (arguments_of (a ∷ []))) (view-argument name g span)
    ∙ two (is_sourced_given (view_given g)) true l refl
arguments_append (a ∷ arguments) name g span h l =
    second (is_sourced_given (view_argument a).1) (are_sourced_arguments (view_arguments arguments))
    (are_sourced_arguments (view_arguments (arguments ++ (argument_of name g span ∷ []))))
    (λ m. arguments_append arguments name g span m l) h

-- bodies

mutual
  nodes_are : (cs : List Command) (ls : List ℕ) (ns : List Node) → AllSourced cs → SpellsNodes cs ls ns
      → are_sourced_nodes false (view_nodes ns) ≡ true
  nodes_are _ _ _ f SpellsNodes.no_node_ = refl
  nodes_are _ _ _ f (SpellsNodes.node_ cs ds ls ms ns n b o) =
      nodes_more false ns n (body_is cs ls ns (all_left cs ds f) b) (node_is ds ms n (all_right cs ds f) o)

  body_is : (cs : List Command) (ls : List ℕ) (ns : List Node) → AllSourced cs → SpellsBody cs ls ns
      → are_sourced_nodes false (view_nodes ns) ≡ true
  body_is _ _ _ f (SpellsBody.plain_ cs ls ns s) = nodes_are cs ls ns f s
  body_is _ _ _ f (SpellsBody.text_ cs ds ls ms ns text span s t) =
      with_text false ns text span (nodes_are cs ls ns (all_left cs ds f) s)
      (text_is ds ms text span (all_right cs ds f) t)

  node_is : (cs : List Command) (ls : List ℕ) (n : Node) → AllSourced cs → SpellsNode cs ls n
      → is_sourced_node false (view_node n) ≡ true
  node_is _ _ _ f (SpellsNode.print_ c e h) = ap (is_sourced_node false) (view_print e None c.span)
  node_is _ _ _ f (SpellsNode.let_ c name e h) = ap (is_sourced_node false) (view-Let name e c.span)
  node_is _ _ _ f (SpellsNode.call_alone_ c name all h) = ap (is_sourced_node false) (view-Call name all [] c.span)
  node_is _ _ _ f (SpellsNode.if_ z cs ls arms start s h) =
      let a = arms_are cs ls arms start (all_left cs (z ∷ []) f) s in
      ap (is_sourced_node false) (view-If arms (joined start z.span))
      ∙ three (has_arm (view_arms arms)) (are_sourced_arms (view_arms arms)) true a.some a.are refl
  node_is _ _ _ f (SpellsNode.if_else_ d z cs bs ls ks arms body start s e b h) =
      let a = arms_are cs ls arms start (all_left cs (d ∷ (bs ++ (z ∷ []))) f) s in
      let i = all_right cs (d ∷ (bs ++ (z ∷ []))) f in
      ap (is_sourced_node false) (view-IfElse arms body (joined start z.span))
      ∙ three (has_arm (view_arms arms)) (are_sourced_arms (view_arms arms)) (are_sourced_nodes false (view_nodes body))
      a.some a.are (body_is bs ks body (all_left bs (z ∷ []) i.1) b)
  node_is _ _ _ f (SpellsNode.switch_ c z ds cs ms ls e cases a w s h) =
      ap (is_sourced_node false) (view-Switch e cases (joined c.span z.span))
      ∙ two (are_sourced_cases (view_cases cases)) true
      (cases_are cs ls cases (all_left cs (z ∷ []) (all_right ds (cs ++ (z ∷ [])) f.1)) s) refl
  node_is _ _ _ f (SpellsNode.switch_default_ c d z ds cs bs ms ls ks e cases body a w s b r h) =
      let i = all_right ds (cs ++ (d ∷ (bs ++ (z ∷ [])))) f.1 in
      let j = all_right cs (d ∷ (bs ++ (z ∷ []))) i in
      ap (is_sourced_node false) (view-SwitchDefault e cases body (joined c.span z.span))
      ∙ two (are_sourced_cases (view_cases cases)) (are_sourced_nodes false (view_nodes body))
      (cases_are cs ls cases (all_left cs (d ∷ (bs ++ (z ∷ []))) i) s)
      (body_is bs ks body (all_left bs (z ∷ []) j.1) r)
  node_is _ _ _ f (SpellsNode.for_ c z bs ks name index e body a b h) =
      ap (is_sourced_node false) (view-For name index e body (joined c.span z.span))
      ∙ body_is bs ks body (all_left bs (z ∷ []) f.1) b
  node_is _ _ _ f (SpellsNode.let_block_ c z bs ks name kind body a b h) =
      ap (is_sourced_node false) (view-LetBlock name kind body (up_to c.span z.span))
      ∙ body_is bs ks body (all_left bs (z ∷ []) f.1) b
  node_is _ _ _ f (SpellsNode.call_ c z cs ls name all arguments a s h) =
      ap (is_sourced_node false) (view-Call name all arguments (joined c.span z.span))
      ∙ arguments_are cs ls arguments (all_left cs (z ∷ []) f.1) s
  node_is _ _ _ f (SpellsNode.message_ c z bs ks desc meaning body a b h) =
      let m = whole_message desc meaning body c.span in
      let v = said (says.Opens (opening.Message desc meaning)) c a f.0 in
      ap (is_sourced_node false) (view-Message m (joined c.span z.span))
      ∙ two (is_sourced_message (view_message m)) true
      (whole_is bs ks desc meaning body c.span (all_left bs (z ∷ []) f.1) v.0 v.1 b) refl
  node_is _ _ _ f
      (SpellsNode.message_fallback_ c d z bs es ks js desc meaning older older_meaning body other a b e s h) =
      let m = whole_message desc meaning body c.span in
      let o = whole_message older older_meaning other d.span in
      let i = all_right bs (d ∷ (es ++ (z ∷ []))) f.1 in
      let v = said (says.Opens (opening.Message desc meaning)) c a f.0 in
      let w = said (says.GoesOn (middle.Fallback older older_meaning)) d e i.0 in
      ap (is_sourced_node false) (view-MessageFallback m o (joined c.span z.span))
      ∙ two (is_sourced_message (view_message m)) (is_sourced_message (view_message o))
      (whole_is bs ks desc meaning body c.span (all_left bs (d ∷ (es ++ (z ∷ []))) f.1) v.0 v.1 b)
      (whole_is es js older older_meaning other d.span (all_left es (z ∷ []) i.1) w.0 w.1 s)

  arms_are : (cs : List Command) (ls : List ℕ) (arms : List Arm) (start : Span) → AllSourced cs
      → SpellsArms cs ls arms start → ArmsAre arms
  arms_are _ _ _ _ f (SpellsArms.first_arm_ c bs ks e body h b) =
      record { some = refl; are = arms_append [] e body refl (body_is bs ks body f.1 b) }
  arms_are _ _ _ _ f (SpellsArms.next_arm_ cs bs ls ks arms start d e body s h b) =
      let a = arms_are cs ls arms start (all_left cs (d ∷ bs) f) s in
      record {
        some = some_arm arms (arm_of e body);
        are = arms_append arms e body a.are (body_is bs ks body (all_right cs (d ∷ bs) f).1 b);
      }

  cases_are : (cs : List Command) (ls : List ℕ) (cases : List Case) → AllSourced cs → SpellsCases cs ls cases
      → are_sourced_cases (view_cases cases) ≡ true
  cases_are _ _ _ f SpellsCases.no_case_ = refl
  cases_are _ _ _ f (SpellsCases.case_ cs bs ls ks cases c values body s h b) =
      let i = all_right cs (c ∷ bs) f in
      cases_append cases values body (cases_are cs ls cases (all_left cs (c ∷ bs) f) s)
      (said (says.GoesOn (middle.Case values)) c h i.0) (body_is bs ks body i.1 b)

  arguments_are : (cs : List Command) (ls : List ℕ) (arguments : List Argument) → AllSourced cs
      → SpellsArguments cs ls arguments → are_sourced_arguments (view_arguments arguments) ≡ true
  arguments_are _ _ _ f SpellsArguments.no_argument_ = refl
  arguments_are _ _ _ f (SpellsArguments.white_ cs ls arguments c text s h w) =
      arguments_are cs ls arguments (all_left cs (c ∷ []) f) s
  arguments_are _ _ _ f (SpellsArguments.param_ cs ls arguments c name e s h) =
      arguments_append arguments name (given.Plain e) c.span (arguments_are cs ls arguments (all_left cs (c ∷ []) f) s)
      (ap is_sourced_given (view-Plain e))
  arguments_are _ _ _ f (SpellsArguments.param_block_ cs bs ls ks arguments c z name kind body s h b e) =
      let i = all_right cs (c ∷ (bs ++ (z ∷ []))) f in
      arguments_append arguments name (given.Block kind body) (up_to c.span z.span)
      (arguments_are cs ls arguments (all_left cs (c ∷ (bs ++ (z ∷ []))) f) s)
      (ap is_sourced_given (view-Block kind body) ∙ body_is bs ks body (all_left bs (z ∷ []) i.1) b)

-- files

abbrev is_sourced_template : trees.Template → Bool
is_sourced_template t = are_sourced_nodes false t.body

templates_append : (ts : List Template) (t : Template)
    → list_all (λ t. are_sourced_nodes false t.body) (map view_template ts) ≡ true
    → are_sourced_nodes false (view_nodes t.body) ≡ true
    → list_all (λ t. are_sourced_nodes false t.body) (map view_template (ts ++ (t ∷ []))) ≡ true
templates_append [] t h k = two (are_sourced_nodes false (view_nodes t.body)) true k refl
templates_append (u ∷ ts) t h k =
    second (are_sourced_nodes false (view_nodes u.body))
    (list_all (λ t. are_sourced_nodes false t.body) (map view_template ts))
    (list_all (λ t. are_sourced_nodes false t.body) (map view_template (ts ++ (t ∷ []))))
    (λ l. templates_append ts t l k) h

templates_are : (cs : List Command) (ls : List ℕ) (templates : List Template) → AllSourced cs
    → SpellsTemplates cs ls templates
    → list_all (λ t. are_sourced_nodes false t.body) (map view_template templates) ≡ true
templates_are _ _ _ f SpellsTemplates.none_ = refl
templates_are _ _ _ f (SpellsTemplates.white_ cs ls templates c text s h w) =
    templates_are cs ls templates (all_left cs (c ∷ []) f) s
templates_are _ _ _ f (SpellsTemplates.template_ cs ps bs ls ms ks templates c z h params body s a p b e) =
    let i = all_right cs (c ∷ (ps ++ (bs ++ (z ∷ [])))) f in
    let j = all_right ps (bs ++ (z ∷ [])) i.1 in
    templates_append templates (template_of h params body (up_to c.span z.span))
    (templates_are cs ls templates (all_left cs (c ∷ (ps ++ (bs ++ (z ∷ [])))) f) s)
    (body_is bs ks body (all_left bs (z ∷ []) j) b)

tree_is : (cs : List Command) (ls : List ℕ) (t : Tree) → AllSourced cs → SpellsTree cs ls t
    → is_sourced_tree (view_tree t) ≡ true
tree_is _ _ _ f (SpellsTree.tree_ ds cs ms ls c name templates w h s) =
    templates_are cs ls templates (all_right ds (c ∷ cs) f).1 s

-- **The tree of a text is one that a text may have.**
pub text_tree : (text : List ℕ) (tokens : List Token) (t : Tree) → Tokens text tokens → IsFile tokens t
    → is_sourced_tree (view_tree t) ≡ true
text_tree text tokens t s i =
    tree_is i.spells.commands i.spells.levels t
    (commands_sourced tokens i.depths i.words i.spells.commands i.spells.levels (text_sourced text tokens s)
    i.spells.spell) i.spells.are
