-- The spans of a tree are among those of its commands, in their order; so they ascend where those do.
use Rattle.std.proofs.Common.{◌≡◌, ℕ, ℤ, Bool, true, false, List, [], ◌∷◌, ◌++◌, map, Some, None, refl}
use Rattle.std.proofs.Common.{ap, subst, sym, ◌∙◌, arith, append_assoc, append-nil}
use Rattle.std.specs.Prelude.{if◌then◌else◌}
use Rattle.std.specs.Str.{bytes_eq}
use Rattle.std.proofs.lemmas.Slice.Eq.{bytes_eq-Decides}
use Rattle.soy_base.specs.ByteLength.{byte_len}
use Rattle.soy_base.specs.declared.fault.Span.{Span}
use Rattle.soy_lexer.specs.InOrder.{InOrder}
use Rattle.soy_lexer.specs.Tokens.{Tokens}
use Rattle.soy_lexer.specs.declared.token.Token.{Token}
use Rattle.soy_lexer.proofs.Ordered.{tokens_in_order}
use Rattle.soy_tree.specs.Nodes as tree
use Rattle.soy_tree.specs.ViewExpressions.{view_expr, view_exprs}
use Rattle.soy_tree.specs.ViewNodes.{view_node, view_nodes, view_arm, view_arms, view_case, view_cases, view_argument}
use Rattle.soy_tree.specs.ViewNodes.{view_arguments, view_given, view_message, view_body, view_plural_case}
use Rattle.soy_tree.specs.ViewNodes.{view_plural_cases, view_select_case, view_select_cases, arms_of, cases_of}
use Rattle.soy_tree.specs.ViewNodes.{arguments_of}
use Rattle.soy_tree.specs.ViewTrees.{view_params, view_template, view_tree}
use Rattle.soy_tree.specs.declared.expr.Expr.{Expr}
use Rattle.soy_tree.specs.declared.node.Argument.{Argument}
use Rattle.soy_tree.specs.declared.node.Arm.{Arm}
use Rattle.soy_tree.specs.declared.node.Case.{Case}
use Rattle.soy_tree.specs.declared.node.Form.TheVariants as form
use Rattle.soy_tree.specs.declared.node.Given.{Given}
use Rattle.soy_tree.specs.declared.node.Given.TheVariants as given
use Rattle.soy_tree.specs.declared.node.MessageBody.{MessageBody}
use Rattle.soy_tree.specs.declared.node.MessageBody.TheVariants as message_body
use Rattle.soy_tree.specs.declared.node.Node.{Node}
use Rattle.soy_tree.specs.declared.node.PluralCase.{PluralCase}
use Rattle.soy_tree.specs.declared.node.SelectCase.{SelectCase}
use Rattle.soy_tree.specs.declared.tree.Param.{Param}
use Rattle.soy_tree.specs.declared.tree.Template.{Template}
use Rattle.soy_tree.specs.declared.tree.Tree.{Tree}
use Rattle.expr_parser.specs.Operands.{joined}
use Rattle.soy_parser.specs.declared.command.Command.{Command}
use Rattle.soy_parser.specs.declared.command.CommandForm.{CommandForm}
use Rattle.soy_parser.specs.declared.command.CommandForm.TheVariants as says
use Rattle.soy_parser.specs.declared.command.Middle.TheVariants as middle
use Rattle.soy_parser.specs.declared.command.Opening.TheVariants as opening
use Rattle.soy_parser.specs.declared.command.Single.TheVariants as single
use Rattle.soy_parser.specs.FileSpans.{Ascend, held, expr_offsets, exprs_offsets, unless_same, once, node_offsets}
use Rattle.soy_parser.specs.FileSpans.{nodes_offsets, arms_offsets, cases_offsets, arguments_offsets, given_offsets}
use Rattle.soy_parser.specs.FileSpans.{message_offsets, body_offsets, plural_bodies, select_bodies, params_offsets}
use Rattle.soy_parser.specs.FileSpans.{templates_offsets, TreeAscends}
use Rattle.soy_parser.specs.Nodes.{node_of, arm_of, case_of, argument_of, whole_message, plural_cases, select_cases}
use Rattle.soy_parser.specs.Nodes.{text_span, up_to}
use Rattle.soy_parser.specs.ParsesFile.{IsFile}
use Rattle.soy_parser.specs.SpellsFile.{SpellsFile}
use Rattle.soy_parser.specs.SpellsTree.{SpellsText, SpellsPrints, SpellsParts, SpellsMessageBody, SpellsChoice}
use Rattle.soy_parser.specs.SpellsTree.{SpellsPluralCases, SpellsSelectCases, SpellsNodes, SpellsBody, SpellsNode}
use Rattle.soy_parser.specs.SpellsTree.{SpellsArms, SpellsCases, SpellsArguments, SpellsParams, SpellsTemplates}
use Rattle.soy_parser.specs.SpellsTree.{SpellsTree, as_param, template_of}
use Rattle.soy_parser.proofs.OfCommands.AscendingCommands.{form_offsets, command_offsets, commands_offsets}
use Rattle.soy_parser.proofs.OfCommands.AscendingCommands.{commands_ascend}
use Rattle.soy_parser.proofs.NodeViews.{view_text, view_print}
use Rattle.soy_parser.proofs.ViewForms.{view-If, view-IfElse, view-Switch, view-SwitchDefault, view-For, view-Let}
use Rattle.soy_parser.proofs.ViewForms.{view-LetBlock, view-Call, view-Message, view-MessageFallback, view-arm}
use Rattle.soy_parser.proofs.ViewForms.{view-case, view-argument, view-Plain, view-Block, view-message, view-Parts}
use Rattle.soy_parser.proofs.ViewForms.{view-Plural, view-Select, view-plural-case, view-select-case}

-- the first offsets are among the second, in their order
data Part : List ℕ → List ℕ → Type 0 where
  Nothing : Part [] []
  Same : (n : ℕ) (xs ys : List ℕ) → Part xs ys → Part (n ∷ xs) (n ∷ ys)
  LeftOut : (n : ℕ) (xs ys : List ℕ) → Part xs ys → Part xs (n ∷ ys)

part_ascends : (from to : ℕ) (xs ys : List ℕ) → Part xs ys → Ascend from to ys → Ascend from to xs
part_ascends from to _ _ Nothing a = a
part_ascends from to _ _ (Same n xs ys p) a = (a.0, part_ascends n to xs ys p a.1)
part_ascends from to _ _ (LeftOut n xs ys p) a = sooner xs (part_ascends n to xs ys p a.1)
  where
    sooner : (xs : List ℕ) → Ascend n to xs → Ascend from to xs
    sooner [] b = omega (arith, a.0, b)
    sooner (x ∷ xs) b = (omega (arith, a.0, b.0), b.1)

none_in : (ys : List ℕ) → Part [] ys
none_in [] = Nothing
none_in (y ∷ ys) = LeftOut y [] ys (none_in ys)

whole : (xs : List ℕ) → Part xs xs
whole [] = Nothing
whole (x ∷ xs) = Same x xs xs (whole xs)

both_in : (xs ys us vs : List ℕ) → Part xs us → Part ys vs → Part (xs ++ ys) (us ++ vs)
both_in _ ys _ vs Nothing q = q
both_in _ ys _ vs (Same n xs us p) q = Same n (xs ++ ys) (us ++ vs) (both_in xs ys us vs p q)
both_in _ ys _ vs (LeftOut n xs us p) q = LeftOut n (xs ++ ys) (us ++ vs) (both_in xs ys us vs p q)

in_part : (xs ys zs : List ℕ) → Part xs ys → Part ys zs → Part xs zs
in_part xs _ _ p Nothing = p
in_part xs _ _ p (LeftOut n ys zs q) = LeftOut n xs zs (in_part xs ys zs p q)
in_part _ _ _ (Same n xs ys p) (Same _ _ zs q) = Same n xs zs (in_part xs ys zs p q)
in_part xs _ _ (LeftOut n _ ys p) (Same _ _ zs q) = LeftOut n xs zs (in_part xs ys zs p q)

after : (us xs vs : List ℕ) → Part xs vs → Part xs (us ++ vs)
after us xs vs p = both_in [] xs us vs (none_in us) p

before : (xs us vs : List ℕ) → Part xs us → Part xs (us ++ vs)
before xs us vs p = subst (λ l. Part l (us ++ vs)) (append-nil xs) (both_in xs [] us vs p (none_in vs))

grouped : (xs ys zs us : List ℕ) → Part (xs ++ (ys ++ zs)) us → Part ((xs ++ ys) ++ zs) us
grouped xs ys zs us p = subst (λ l. Part l us) (sym (append_assoc xs ys zs)) p

with_none : (xs us : List ℕ) → Part xs us → Part (xs ++ []) us
with_none xs us p = subst (λ l. Part l us) (sym (append-nil xs)) p

-- among the offsets of commands

abbrev Among : List ℕ → List Command → Type 0
Among xs cs = Part xs (commands_offsets cs)

commands_append : (cs ds : List Command) → commands_offsets (cs ++ ds) ≡ commands_offsets cs ++ commands_offsets ds
commands_append [] ds = refl
commands_append (c ∷ cs) ds =
    ap (λ os. command_offsets c ++ os) (commands_append cs ds)
    ∙ sym (append_assoc (command_offsets c) (commands_offsets cs) (commands_offsets ds))

in_both : (xs ys : List ℕ) (cs ds : List Command) → Among xs cs → Among ys ds → Among (xs ++ ys) (cs ++ ds)
in_both xs ys cs ds p q =
    subst (Part (xs ++ ys)) (sym (commands_append cs ds))
    (both_in xs ys (commands_offsets cs) (commands_offsets ds) p q)

in_second : (xs : List ℕ) (cs ds : List Command) → Among xs ds → Among xs (cs ++ ds)
in_second xs cs ds p = in_both [] xs cs ds (none_in (commands_offsets cs)) p

in_first : (xs : List ℕ) (cs ds : List Command) → Among xs cs → Among xs (cs ++ ds)
in_first xs cs ds p =
    subst (Part xs) (sym (commands_append cs ds)) (before xs (commands_offsets cs) (commands_offsets ds) p)

past : (xs : List ℕ) (c : Command) (cs : List Command) → Among xs cs → Among xs (c ∷ cs)
past xs c cs p = after (command_offsets c) xs (commands_offsets cs) p

-- what a command says, and what follows it
said_in : (c : Command) (of : CommandForm) (xs : List ℕ) (cs : List Command) → c.form ≡ of → Among xs cs
    → Part (form_offsets of ++ xs) ((form_offsets c.form ++ (c.span.end ∷ [])) ++ commands_offsets cs)
said_in c of xs cs e p =
    subst (λ f. Part (form_offsets f ++ xs) ((form_offsets c.form ++ (c.span.end ∷ [])) ++ commands_offsets cs)) e
    (both_in (form_offsets c.form) xs (form_offsets c.form ++ (c.span.end ∷ [])) (commands_offsets cs)
    (before (form_offsets c.form) (form_offsets c.form) (c.span.end ∷ []) (whole (form_offsets c.form))) p)

says_in : (c : Command) (of : CommandForm) (xs : List ℕ) (cs : List Command) → c.form ≡ of → Among xs cs
    → Among (form_offsets of ++ xs) (c ∷ cs)
says_in c of xs cs e p =
    let rest = (form_offsets c.form ++ (c.span.end ∷ [])) ++ commands_offsets cs in
    LeftOut c.span.start (form_offsets of ++ xs) (c.span.start ∷ rest)
    (LeftOut c.span.start (form_offsets of ++ xs) rest (said_in c of xs cs e p))

-- its start, what it says, and what follows it
opens_in : (c : Command) (of : CommandForm) (xs : List ℕ) (cs : List Command) → c.form ≡ of → Among xs cs
    → Among (c.span.start ∷ (form_offsets of ++ xs)) (c ∷ cs)
opens_in c of xs cs e p =
    let rest = (form_offsets c.form ++ (c.span.end ∷ [])) ++ commands_offsets cs in
    Same c.span.start (form_offsets of ++ xs) (c.span.start ∷ rest)
    (LeftOut c.span.start (form_offsets of ++ xs) rest (said_in c of xs cs e p))

starts_in : (c : Command) → Among (c.span.start ∷ []) (c ∷ [])
starts_in c =
    let rest = (form_offsets c.form ++ (c.span.end ∷ [])) ++ [] in
    Same c.span.start [] (c.span.start ∷ rest) (none_in (c.span.start ∷ rest))

ends_in : (c : Command) → Among (c.span.end ∷ []) (c ∷ [])
ends_in c =
    before (c.span.end ∷ []) (command_offsets c) []
    (after (c.span.start ∷ (c.span.start ∷ form_offsets c.form)) (c.span.end ∷ []) (c.span.end ∷ [])
    (whole (c.span.end ∷ [])))

-- a command alone: its span and what it says
alone_in : (c : Command) (of : CommandForm) → c.form ≡ of → Among (held c.span (form_offsets of)) (c ∷ [])
alone_in c of e =
    subst (λ f. Among (held c.span (form_offsets f)) (c ∷ [])) e
    (before (held c.span (form_offsets c.form)) (command_offsets c) []
    (LeftOut c.span.start (held c.span (form_offsets c.form)) (held c.span (form_offsets c.form))
    (whole (held c.span (form_offsets c.form)))))

-- a node from its opening command on
node_in : (c : Command) (of : CommandForm) (xs : List ℕ) (end : ℕ) (cs : List Command) → c.form ≡ of
    → Among (xs ++ (end ∷ [])) cs
    → Among (held (record { start = c.span.start; end = end }) (form_offsets of ++ xs)) (c ∷ cs)
node_in c of xs end cs e p =
    subst (λ l. Among (c.span.start ∷ l) (c ∷ cs)) (sym (append_assoc (form_offsets of) xs (end ∷ [])))
    (opens_in c of (xs ++ (end ∷ [])) cs e p)

-- by what a node stands for
as_node : (n : Node) (v : tree.Node) (cs : List Command) → view_node n ≡ v → Among (node_offsets v) cs
    → Among (node_offsets (view_node n)) cs
as_node n v cs e p = subst (λ m. Among (node_offsets m) cs) (sym e) p

nodes_append : (ns : List Node) (n : Node) → nodes_offsets (view_nodes (ns ++ (n ∷ [])))
    ≡ nodes_offsets (view_nodes ns) ++ node_offsets (view_node n)
nodes_append [] n = append-nil (node_offsets (view_node n))
nodes_append (m ∷ ns) n =
    ap (λ os. node_offsets (view_node m) ++ os) (nodes_append ns n)
    ∙ sym (append_assoc (node_offsets (view_node m)) (nodes_offsets (view_nodes ns)) (node_offsets (view_node n)))

one_more : (ns : List Node) (n : Node) (cs ds : List Command) → Among (nodes_offsets (view_nodes ns)) cs
    → Among (node_offsets (view_node n)) ds → Among (nodes_offsets (view_nodes (ns ++ (n ∷ [])))) (cs ++ ds)
one_more ns n cs ds p q =
    subst (λ l. Among l (cs ++ ds)) (sym (nodes_append ns n))
    (in_both (nodes_offsets (view_nodes ns)) (node_offsets (view_node n)) cs ds p q)

-- texts

spans_in : (c : Command) → Among (held c.span []) (c ∷ [])
spans_in c =
    in_part (held c.span []) (held c.span (form_offsets c.form)) (commands_offsets (c ∷ []))
    (Same c.span.start (c.span.end ∷ []) (form_offsets c.form ++ (c.span.end ∷ []))
    (after (form_offsets c.form) (c.span.end ∷ []) (c.span.end ∷ []) (whole (c.span.end ∷ []))))
    (alone_in c c.form refl)

-- from the start of the earlier ones to the end of one more
longer_in : (span : Span) (c : Command) (cs : List Command) → Among (held span []) cs
    → Among (span.start ∷ (c.span.end ∷ [])) (cs ++ (c ∷ []))
longer_in span c cs p =
    in_both (span.start ∷ []) (c.span.end ∷ []) cs (c ∷ [])
    (in_part (span.start ∷ []) (held span []) (commands_offsets cs)
    (Same span.start [] (span.end ∷ []) (none_in (span.end ∷ []))) p) (ends_in c)

joined_in : (text more : List ℕ) (span : Span) (c : Command) (cs : List Command) → Among (held span []) cs
    → Among (held (text_span text more span c.span) []) (cs ++ (c ∷ []))
joined_in [] [] span c cs p = longer_in span c cs p
joined_in [] (x ∷ xs) span c cs p = in_second (held c.span []) cs (c ∷ []) (spans_in c)
joined_in (x ∷ xs) more span c cs p = longer_in span c cs p

text_in : (cs : List Command) (ls : List ℕ) (text : List ℕ) (span : Span) → SpellsText cs ls text span
    → Among (held span []) cs
text_in _ _ _ _ (SpellsText.first_ c text e) = spans_in c
text_in _ _ _ _ (SpellsText.next_ cs ls c text more span s e) =
    joined_in text more span c cs (text_in cs ls text span s)

text_node_in : (cs : List Command) (ls : List ℕ) (text : List ℕ) (span : Span) → SpellsText cs ls text span
    → Among (node_offsets (view_node (node_of (form.Text text) span))) cs
text_node_in cs ls text span s =
    as_node (node_of (form.Text text) span) (tree.TextNode text span) cs (view_text text span)
    (text_in cs ls text span s)

-- the texts and prints of a message

mutual
  prints_in : (cs : List Command) (ls : List ℕ) (ns : List Node) → SpellsPrints cs ls ns
      → Among (nodes_offsets (view_nodes ns)) cs
  prints_in _ _ _ SpellsPrints.none_ = Nothing
  prints_in _ _ _ (SpellsPrints.print_ cs ls ns c e phname s h) =
      one_more ns (node_of (form.Print e phname) c.span) cs (c ∷ []) (parts_in cs ls ns s)
      (as_node (node_of (form.Print e phname) c.span) (tree.Print (view_expr e) phname c.span) (c ∷ [])
      (view_print e phname c.span) (alone_in c (says.Single (single.MessagePrint e phname)) h))

  parts_in : (cs : List Command) (ls : List ℕ) (ns : List Node) → SpellsParts cs ls ns
      → Among (nodes_offsets (view_nodes ns)) cs
  parts_in _ _ _ (SpellsParts.plain_ cs ls ns s) = prints_in cs ls ns s
  parts_in _ _ _ (SpellsParts.text_ cs ds ls ms ns text span s t) =
      one_more ns (node_of (form.Text text) span) cs ds (prints_in cs ls ns s) (text_node_in ds ms text span t)

-- bodies of cases, once

abbrev AllAre : List ℕ → List (List ℕ) → Type 0
AllAre os [] = Unit {0}
AllAre os (b ∷ bodies) = (b ≡ os) × AllAre os bodies

same_once : (os : List ℕ) → unless_same os os ≡ []
same_once os = ap (λ b. if b then [] else os) ((bytes_eq-Decides os os).1 refl)

none_again : (os : List ℕ) (bodies : List (List ℕ)) → AllAre os bodies → once os bodies ≡ []
none_again os [] h = refl
none_again os (b ∷ bodies) h =
    ap (λ l. unless_same os l ++ once l bodies) h.0
    ∙ (ap (λ l. l ++ once os bodies) (same_once os) ∙ none_again os bodies h.1)

unless_in : (last os : List ℕ) → Part (unless_same last os) os
unless_in last os = either (bytes_eq last os)
  where
    either : (b : Bool) → Part (if b then [] else os) os
    either true = none_in os
    either false = whole os

copies_in : (last os : List ℕ) (bodies : List (List ℕ)) → AllAre os bodies → Part (once last bodies) os
copies_in last os [] h = none_in os
copies_in last os (b ∷ bodies) h =
    subst (λ l. Part l os)
    (sym (ap (λ l. unless_same last l ++ once l bodies) h.0
    ∙ (ap (λ l. unless_same last os ++ l) (none_again os bodies h.1) ∙ append-nil (unless_same last os))))
    (unless_in last os)

once_more : (last os : List ℕ) (bodies copies : List (List ℕ)) → AllAre os copies
    → Part (once last (bodies ++ copies)) (once last bodies ++ os)
once_more last os [] copies h = copies_in last os copies h
once_more last os (b ∷ bodies) copies h =
    subst (Part (unless_same last b ++ once b (bodies ++ copies)))
    (sym (append_assoc (unless_same last b) (once b bodies) os))
    (both_in (unless_same last b) (once b (bodies ++ copies)) (unless_same last b) (once b bodies ++ os)
    (whole (unless_same last b)) (once_more b os bodies copies h))

-- one more case, with its copies
cases_in : (os : List ℕ) (bodies copies all : List (List ℕ)) (cs : List Command) (c : Command) (bs : List Command)
    → all ≡ bodies ++ copies → AllAre os copies → Among (once [] bodies) cs → Among os bs
    → Among (once [] all) (cs ++ (c ∷ bs))
cases_in os bodies copies all cs c bs e h p q =
    subst (λ l. Among (once [] l) (cs ++ (c ∷ bs))) (sym e)
    (in_part (once [] (bodies ++ copies)) (once [] bodies ++ os) (commands_offsets (cs ++ (c ∷ bs)))
    (once_more [] os bodies copies h) (in_both (once [] bodies) os cs (c ∷ bs) p (past os c bs q)))

plurals_append : (cs ds : List PluralCase) → plural_bodies (view_plural_cases (cs ++ ds))
    ≡ plural_bodies (view_plural_cases cs) ++ plural_bodies (view_plural_cases ds)
plurals_append [] ds = refl
plurals_append (c ∷ cs) ds = ap (λ l. body_offsets (view_plural_case c).1 ∷ l) (plurals_append cs ds)

plural_copies : (values : List ℤ) (body : MessageBody) → AllAre (body_offsets (view_body body))
    (plural_bodies (view_plural_cases (plural_cases values body)))
plural_copies [] body = tt
plural_copies (n ∷ values) body = (ap (λ p. body_offsets p.1) (view-plural-case n body), plural_copies values body)

selects_append : (cs ds : List SelectCase) → select_bodies (view_select_cases (cs ++ ds))
    ≡ select_bodies (view_select_cases cs) ++ select_bodies (view_select_cases ds)
selects_append [] ds = refl
selects_append (c ∷ cs) ds = ap (λ l. body_offsets (view_select_case c).1 ∷ l) (selects_append cs ds)

select_copies : (values : List (List ℕ)) (body : MessageBody) → AllAre (body_offsets (view_body body))
    (select_bodies (view_select_cases (select_cases values body)))
select_copies [] body = tt
select_copies (w ∷ values) body = (ap (λ p. body_offsets p.1) (view-select-case w body), select_copies values body)

as_body : (b : MessageBody) (v : tree.MessageBody) (cs : List Command) → view_body b ≡ v → Among (body_offsets v) cs
    → Among (body_offsets (view_body b)) cs
as_body b v cs e p = subst (λ m. Among (body_offsets m) cs) (sym e) p

-- what a plural or select holds, after the white text in it and before its end
choice_rest : (bodies other : List ℕ) (ds cs : List Command) (d : Command) (bs : List Command) (z : Command)
    → Among bodies cs → Among other bs → Among (bodies ++ other) (ds ++ (cs ++ (d ∷ (bs ++ (z ∷ [])))))
choice_rest bodies other ds cs d bs z p q =
    in_second (bodies ++ other) ds (cs ++ (d ∷ (bs ++ (z ∷ []))))
    (in_both bodies other cs (d ∷ (bs ++ (z ∷ []))) p
    (past other d (bs ++ (z ∷ [])) (in_first other bs (z ∷ []) q)))

mutual
  message_in : (cs : List Command) (ls : List ℕ) (body : MessageBody) → SpellsMessageBody cs ls body
      → Among (body_offsets (view_body body)) cs
  message_in _ _ _ (SpellsMessageBody.parts_ cs ls ns s h) =
      as_body (message_body.Parts ns) (tree.Parts (view_nodes ns)) cs (view-Parts ns) (parts_in cs ls ns s)
  message_in _ _ _ (SpellsMessageBody.choice_ cs bs ds ls ks ms body w s v) =
      in_second (body_offsets (view_body body)) cs (bs ++ ds)
      (in_first (body_offsets (view_body body)) bs ds (choice_in bs ks body s))

  choice_in : (cs : List Command) (ls : List ℕ) (body : MessageBody) → SpellsChoice cs ls body
      → Among (body_offsets (view_body body)) cs
  choice_in _ _ _ (SpellsChoice.plural_ c d z cs bs ds ls ks ms e offset cases other a w s b r g) =
      let bodies = once [] (plural_bodies (view_plural_cases cases)) in
      let last = body_offsets (view_body other) in
      as_body (message_body.Plural e offset cases other)
      (tree.Plural (view_expr e) offset (view_plural_cases cases) (view_body other))
      (c ∷ (ds ++ (cs ++ (d ∷ (bs ++ (z ∷ [])))))) (view-Plural e offset cases other)
      (says_in c (says.Opens (opening.Plural e offset)) (bodies ++ last) (ds ++ (cs ++ (d ∷ (bs ++ (z ∷ []))))) a
      (choice_rest bodies last ds cs d bs z (plural_cases_in cs ls cases s) (message_in bs ks other r)))
  choice_in _ _ _ (SpellsChoice.select_ c d z cs bs ds ls ks ms e cases other a w s b r g) =
      let bodies = once [] (select_bodies (view_select_cases cases)) in
      let last = body_offsets (view_body other) in
      as_body (message_body.Select e cases other)
      (tree.Select (view_expr e) (view_select_cases cases) (view_body other))
      (c ∷ (ds ++ (cs ++ (d ∷ (bs ++ (z ∷ [])))))) (view-Select e cases other)
      (says_in c (says.Opens (opening.Select e)) (bodies ++ last) (ds ++ (cs ++ (d ∷ (bs ++ (z ∷ []))))) a
      (choice_rest bodies last ds cs d bs z (select_cases_in cs ls cases s) (message_in bs ks other r)))

  plural_cases_in : (cs : List Command) (ls : List ℕ) (cases : List PluralCase) → SpellsPluralCases cs ls cases
      → Among (once [] (plural_bodies (view_plural_cases cases))) cs
  plural_cases_in _ _ _ SpellsPluralCases.no_plural_case_ = Nothing
  plural_cases_in _ _ _ (SpellsPluralCases.plural_case_ cs bs ls ks cases c values body s a b) =
      cases_in (body_offsets (view_body body)) (plural_bodies (view_plural_cases cases))
      (plural_bodies (view_plural_cases (plural_cases values body)))
      (plural_bodies (view_plural_cases (cases ++ plural_cases values body))) cs c bs
      (plurals_append cases (plural_cases values body)) (plural_copies values body) (plural_cases_in cs ls cases s)
      (message_in bs ks body b)

  select_cases_in : (cs : List Command) (ls : List ℕ) (cases : List SelectCase) → SpellsSelectCases cs ls cases
      → Among (once [] (select_bodies (view_select_cases cases))) cs
  select_cases_in _ _ _ SpellsSelectCases.no_select_case_ = Nothing
  select_cases_in _ _ _ (SpellsSelectCases.select_case_ cs bs ls ks cases c values body s a b) =
      cases_in (body_offsets (view_body body)) (select_bodies (view_select_cases cases))
      (select_bodies (view_select_cases (select_cases values body)))
      (select_bodies (view_select_cases (cases ++ select_cases values body))) cs c bs
      (selects_append cases (select_cases values body)) (select_copies values body) (select_cases_in cs ls cases s)
      (message_in bs ks body b)

-- a message that has its body
whole_offsets : (desc meaning : List ℕ) (body : MessageBody) (span : Span)
    → message_offsets (view_message (whole_message desc meaning body span))
    ≡ span.start ∷ (span.end ∷ body_offsets (view_body body))
whole_offsets desc meaning body span = ap message_offsets (view-message desc meaning body span)

-- the message of an opening command and of one that begins a fallback
whole_in : (c : Command) (xs : List ℕ) (cs : List Command) → Among xs cs
    → Part (c.span.start ∷ (c.span.end ∷ xs)) (held c.span (form_offsets c.form) ++ commands_offsets cs)
whole_in c xs cs p =
    both_in (held c.span []) xs (held c.span (form_offsets c.form)) (commands_offsets cs)
    (Same c.span.start (c.span.end ∷ []) (form_offsets c.form ++ (c.span.end ∷ []))
    (after (form_offsets c.form) (c.span.end ∷ []) (c.span.end ∷ []) (whole (c.span.end ∷ [])))) p

-- lists that go on

arms_append : (arms : List Arm) (e : Expr) (body : List Node) → arms_offsets (view_arms (arms ++ (arm_of e body ∷ [])))
    ≡ arms_offsets (view_arms arms) ++ (expr_offsets (view_expr e) ++ nodes_offsets (view_nodes body))
arms_append [] e body =
    ap (λ a. arms_offsets (arms_of (a ∷ []))) (view-arm e body)
    ∙ ap (λ os. expr_offsets (view_expr e) ++ os) (append-nil (nodes_offsets (view_nodes body)))
arms_append (a ∷ arms) e body =
    let x = expr_offsets (view_arm a).0 in let y = nodes_offsets (view_arm a).1 in
    let z = arms_offsets (view_arms arms) in
    let w = expr_offsets (view_expr e) ++ nodes_offsets (view_nodes body) in
    ap (λ os. x ++ (y ++ os)) (arms_append arms e body)
    ∙ (ap (λ os. x ++ os) (sym (append_assoc y z w)) ∙ sym (append_assoc x (y ++ z) w))

cases_append : (cases : List Case) (values : List Expr) (body : List Node)
    → cases_offsets (view_cases (cases ++ (case_of values body ∷ [])))
    ≡ cases_offsets (view_cases cases) ++ (exprs_offsets (view_exprs values) ++ nodes_offsets (view_nodes body))
cases_append [] values body =
    ap (λ c. cases_offsets (cases_of (c ∷ []))) (view-case values body)
    ∙ ap (λ os. exprs_offsets (view_exprs values) ++ os) (append-nil (nodes_offsets (view_nodes body)))
cases_append (c ∷ cases) values body =
    let x = exprs_offsets (view_case c).0 in let y = nodes_offsets (view_case c).1 in
    let z = cases_offsets (view_cases cases) in
    let w = exprs_offsets (view_exprs values) ++ nodes_offsets (view_nodes body) in
    ap (λ os. x ++ (y ++ os)) (cases_append cases values body)
    ∙ (ap (λ os. x ++ os) (sym (append_assoc y z w)) ∙ sym (append_assoc x (y ++ z) w))

arguments_append : (arguments : List Argument) (name : List ℕ) (g : Given) (v : tree.Given) (span : Span)
    → view_given g ≡ v → arguments_offsets (view_arguments (arguments ++ (argument_of name g span ∷ [])))
    ≡ arguments_offsets (view_arguments arguments) ++ held span (given_offsets v)
arguments_append [] name g v span e =
    ap (λ a. arguments_offsets (arguments_of (a ∷ []))) (view-argument name g span)
    ∙ (append-nil (held span (given_offsets (view_given g))) ∙ ap (λ k. held span (given_offsets k)) e)
arguments_append (a ∷ arguments) name g v span e =
    let x = held (view_argument a).2 (given_offsets (view_argument a).1) in
    ap (λ os. x ++ os) (arguments_append arguments name g v span e)
    ∙ sym (append_assoc x (arguments_offsets (view_arguments arguments)) (held span (given_offsets v)))

-- the rest of a command that may lack its last part, up to its end
closed_in : (xs : List ℕ) (cs : List Command) (z : Command) → Among xs cs
    → Among ((xs ++ []) ++ (z.span.end ∷ [])) (cs ++ (z ∷ []))
closed_in xs cs z p =
    in_both (xs ++ []) (z.span.end ∷ []) cs (z ∷ []) (with_none xs (commands_offsets cs) p) (ends_in z)

-- and of one that has it
closed_with : (xs ys : List ℕ) (cs : List Command) (d : Command) (bs : List Command) (z : Command) → Among xs cs
    → Among ys bs → Among ((xs ++ ys) ++ (z.span.end ∷ [])) (cs ++ (d ∷ (bs ++ (z ∷ []))))
closed_with xs ys cs d bs z p q =
    grouped xs ys (z.span.end ∷ []) (commands_offsets (cs ++ (d ∷ (bs ++ (z ∷ [])))))
    (in_both xs (ys ++ (z.span.end ∷ [])) cs (d ∷ (bs ++ (z ∷ []))) p
    (past (ys ++ (z.span.end ∷ [])) d (bs ++ (z ∷ []))
    (in_both ys (z.span.end ∷ []) bs (z ∷ []) q (ends_in z))))

-- a body, up to a closing command or to its end
ended_in : (xs : List ℕ) (cs : List Command) (z : Command) → Among xs cs
    → Among (xs ++ (z.span.end ∷ [])) (cs ++ (z ∷ []))
ended_in xs cs z p = in_both xs (z.span.end ∷ []) cs (z ∷ []) p (ends_in z)

up_to_in : (xs : List ℕ) (cs : List Command) (z : Command) → Among xs cs
    → Among (xs ++ (z.span.start ∷ [])) (cs ++ (z ∷ []))
up_to_in xs cs z p = in_both xs (z.span.start ∷ []) cs (z ∷ []) p (starts_in z)

mutual
  nodes_in : (cs : List Command) (ls : List ℕ) (ns : List Node) → SpellsNodes cs ls ns
      → Among (nodes_offsets (view_nodes ns)) cs
  nodes_in _ _ _ SpellsNodes.no_node_ = Nothing
  nodes_in _ _ _ (SpellsNodes.node_ cs ds ls ms ns n b o) =
      one_more ns n cs ds (body_in cs ls ns b) (a_node_in ds ms n o)

  body_in : (cs : List Command) (ls : List ℕ) (ns : List Node) → SpellsBody cs ls ns
      → Among (nodes_offsets (view_nodes ns)) cs
  body_in _ _ _ (SpellsBody.plain_ cs ls ns s) = nodes_in cs ls ns s
  body_in _ _ _ (SpellsBody.text_ cs ds ls ms ns text span s t) =
      one_more ns (node_of (form.Text text) span) cs ds (nodes_in cs ls ns s) (text_node_in ds ms text span t)

  a_node_in : (cs : List Command) (ls : List ℕ) (n : Node) → SpellsNode cs ls n → Among (node_offsets (view_node n)) cs
  a_node_in _ _ _ (SpellsNode.print_ c e h) =
      as_node (node_of (form.Print e None) c.span) (tree.Print (view_expr e) None c.span) (c ∷ [])
      (view_print e None c.span) (alone_in c (says.Single (single.Print e)) h)
  a_node_in _ _ _ (SpellsNode.let_ c name e h) =
      as_node (node_of (form.Let name e) c.span) (tree.Let name (view_expr e) c.span) (c ∷ []) (view-Let name e c.span)
      (alone_in c (says.Single (single.Let name e)) h)
  a_node_in _ _ _ (SpellsNode.call_alone_ c name all h) =
      as_node (node_of (form.Call name all []) c.span) (tree.Call name all tree.no_argument c.span) (c ∷ [])
      (view-Call name all [] c.span) (alone_in c (says.Single (single.Call name all)) h)
  a_node_in _ _ _ (SpellsNode.if_ z cs ls arms start s h) =
      let span = joined start z.span in let xs = arms_offsets (view_arms arms) in
      as_node (node_of (form.If arms None) span) (tree.If (view_arms arms) tree.no_otherwise span) (cs ++ (z ∷ []))
      (view-If arms span) (closed_in (start.start ∷ xs) cs z (arms_in cs ls arms start s))
  a_node_in _ _ _ (SpellsNode.if_else_ d z cs bs ls ks arms body start s e b h) =
      let span = joined start z.span in let xs = arms_offsets (view_arms arms) in
      let ys = nodes_offsets (view_nodes body) in
      as_node (node_of (form.If arms (Some body)) span)
      (tree.If (view_arms arms) (tree.otherwise (view_nodes body)) span) (cs ++ (d ∷ (bs ++ (z ∷ []))))
      (view-IfElse arms body span)
      (closed_with (start.start ∷ xs) ys cs d bs z (arms_in cs ls arms start s) (body_in bs ks body b))
  a_node_in _ _ _ (SpellsNode.switch_ c z ds cs ms ls e cases a w s h) =
      let span = joined c.span z.span in let xs = cases_offsets (view_cases cases) in
      as_node (node_of (form.Switch e cases None) span)
      (tree.Switch (view_expr e) (view_cases cases) tree.no_otherwise span) (c ∷ (ds ++ (cs ++ (z ∷ []))))
      (view-Switch e cases span)
      (node_in c (says.Opens (opening.Switch e)) (xs ++ []) z.span.end (ds ++ (cs ++ (z ∷ []))) a
      (in_second ((xs ++ []) ++ (z.span.end ∷ [])) ds (cs ++ (z ∷ []))
      (closed_in xs cs z (switch_cases_in cs ls cases s))))
  a_node_in _ _ _ (SpellsNode.switch_default_ c d z ds cs bs ms ls ks e cases body a w s b r h) =
      let span = joined c.span z.span in let xs = cases_offsets (view_cases cases) in
      let ys = nodes_offsets (view_nodes body) in
      as_node (node_of (form.Switch e cases (Some body)) span)
      (tree.Switch (view_expr e) (view_cases cases) (tree.otherwise (view_nodes body)) span)
      (c ∷ (ds ++ (cs ++ (d ∷ (bs ++ (z ∷ [])))))) (view-SwitchDefault e cases body span)
      (node_in c (says.Opens (opening.Switch e)) (xs ++ ys) z.span.end (ds ++ (cs ++ (d ∷ (bs ++ (z ∷ []))))) a
      (in_second ((xs ++ ys) ++ (z.span.end ∷ [])) ds (cs ++ (d ∷ (bs ++ (z ∷ []))))
      (closed_with xs ys cs d bs z (switch_cases_in cs ls cases s) (body_in bs ks body r))))
  a_node_in _ _ _ (SpellsNode.for_ c z bs ks name index e body a b h) =
      let span = joined c.span z.span in let xs = nodes_offsets (view_nodes body) in
      as_node (node_of (form.For name index e body) span)
      (tree.For name index (view_expr e) (view_nodes body) span) (c ∷ (bs ++ (z ∷ [])))
      (view-For name index e body span)
      (node_in c (says.Opens (opening.For name index e)) xs z.span.end (bs ++ (z ∷ [])) a
      (ended_in xs bs z (body_in bs ks body b)))
  a_node_in _ _ _ (SpellsNode.let_block_ c z bs ks name kind body a b h) =
      let span = up_to c.span z.span in let xs = nodes_offsets (view_nodes body) in
      as_node (node_of (form.LetBlock name kind body) span) (tree.LetBlock name kind (view_nodes body) span)
      (c ∷ (bs ++ (z ∷ []))) (view-LetBlock name kind body span)
      (node_in c (says.Opens (opening.Let name kind)) xs z.span.start (bs ++ (z ∷ [])) a
      (up_to_in xs bs z (body_in bs ks body b)))
  a_node_in _ _ _ (SpellsNode.call_ c z cs ls name all arguments a s h) =
      let span = joined c.span z.span in let xs = arguments_offsets (view_arguments arguments) in
      as_node (node_of (form.Call name all arguments) span) (tree.Call name all (view_arguments arguments) span)
      (c ∷ (cs ++ (z ∷ []))) (view-Call name all arguments span)
      (node_in c (says.Opens (opening.Call name all)) xs z.span.end (cs ++ (z ∷ [])) a
      (ended_in xs cs z (arguments_in cs ls arguments s)))
  a_node_in _ _ _ (SpellsNode.message_ c z bs ks desc meaning body a b h) =
      let span = joined c.span z.span in let m = whole_message desc meaning body c.span in
      let xs = body_offsets (view_body body) in
      as_node (node_of (form.Message m None) span) (tree.MessageNode (view_message m) tree.no_fallback span)
      (c ∷ (bs ++ (z ∷ []))) (view-Message m span)
      (subst (λ l. Among (c.span.start ∷ ((l ++ []) ++ (z.span.end ∷ []))) (c ∷ (bs ++ (z ∷ []))))
      (sym (whole_offsets desc meaning body c.span))
      (subst (λ l. Among (c.span.start ∷ (l ++ (z.span.end ∷ []))) (c ∷ (bs ++ (z ∷ []))))
      (sym (append-nil (held c.span [] ++ xs)))
      (Same c.span.start (held c.span [] ++ (xs ++ (z.span.end ∷ [])))
      (held c.span (form_offsets c.form) ++ commands_offsets (bs ++ (z ∷ [])))
      (whole_in c (xs ++ (z.span.end ∷ [])) (bs ++ (z ∷ [])) (ended_in xs bs z (message_in bs ks body b))))))
  a_node_in _ _ _
      (SpellsNode.message_fallback_ c d z bs es ks js desc meaning older older_meaning body other a b e s h) =
      let span = joined c.span z.span in let m = whole_message desc meaning body c.span in
      let o = whole_message older older_meaning other d.span in
      let xs = body_offsets (view_body body) in let ys = body_offsets (view_body other) in
      let cs = bs ++ (d ∷ (es ++ (z ∷ []))) in
      as_node (node_of (form.Message m (Some o)) span)
      (tree.MessageNode (view_message m) (tree.fallback (view_message o)) span) (c ∷ cs) (view-MessageFallback m o span)
      (subst (λ l. Among (c.span.start ∷ ((l ++ message_offsets (view_message o)) ++ (z.span.end ∷ []))) (c ∷ cs))
      (sym (whole_offsets desc meaning body c.span))
      (subst (λ l. Among (c.span.start ∷ (((held c.span [] ++ xs) ++ l) ++ (z.span.end ∷ []))) (c ∷ cs))
      (sym (whole_offsets older older_meaning other d.span))
      (Same c.span.start (((held c.span [] ++ xs) ++ (held d.span [] ++ ys)) ++ (z.span.end ∷ []))
      (held c.span (form_offsets c.form) ++ commands_offsets cs)
      (grouped (held c.span [] ++ xs) (held d.span [] ++ ys) (z.span.end ∷ [])
      (held c.span (form_offsets c.form) ++ commands_offsets cs)
      (grouped (held c.span []) xs (held d.span [] ++ (ys ++ (z.span.end ∷ [])))
      (held c.span (form_offsets c.form) ++ commands_offsets cs)
      (whole_in c (xs ++ (held d.span [] ++ (ys ++ (z.span.end ∷ [])))) cs
      (in_both xs (held d.span [] ++ (ys ++ (z.span.end ∷ []))) bs (d ∷ (es ++ (z ∷ [])))
      (message_in bs ks body b)
      (LeftOut d.span.start (held d.span [] ++ (ys ++ (z.span.end ∷ [])))
      (held d.span (form_offsets d.form) ++ commands_offsets (es ++ (z ∷ [])))
      (whole_in d (ys ++ (z.span.end ∷ [])) (es ++ (z ∷ [])) (ended_in ys es z (message_in es js other s)))))))))))

  -- from the start of an if on
  arms_in : (cs : List Command) (ls : List ℕ) (arms : List Arm) (start : Span) → SpellsArms cs ls arms start
      → Among (start.start ∷ arms_offsets (view_arms arms)) cs
  arms_in _ _ _ _ (SpellsArms.first_arm_ c bs ks e body h b) =
      subst (λ l. Among (c.span.start ∷ l) (c ∷ bs)) (sym (arms_append [] e body))
      (opens_in c (says.Opens (opening.If e)) (nodes_offsets (view_nodes body)) bs h (body_in bs ks body b))
  arms_in _ _ _ _ (SpellsArms.next_arm_ cs bs ls ks arms start d e body s h b) =
      let xs = arms_offsets (view_arms arms) in let ys = nodes_offsets (view_nodes body) in
      subst (λ l. Among (start.start ∷ l) (cs ++ (d ∷ bs))) (sym (arms_append arms e body))
      (in_both (start.start ∷ xs) (expr_offsets (view_expr e) ++ ys) cs (d ∷ bs) (arms_in cs ls arms start s)
      (says_in d (says.GoesOn (middle.ElseIf e)) ys bs h (body_in bs ks body b)))

  switch_cases_in : (cs : List Command) (ls : List ℕ) (cases : List Case) → SpellsCases cs ls cases
      → Among (cases_offsets (view_cases cases)) cs
  switch_cases_in _ _ _ SpellsCases.no_case_ = Nothing
  switch_cases_in _ _ _ (SpellsCases.case_ cs bs ls ks cases c values body s h b) =
      let xs = cases_offsets (view_cases cases) in let ys = nodes_offsets (view_nodes body) in
      subst (λ l. Among l (cs ++ (c ∷ bs))) (sym (cases_append cases values body))
      (in_both xs (exprs_offsets (view_exprs values) ++ ys) cs (c ∷ bs) (switch_cases_in cs ls cases s)
      (says_in c (says.GoesOn (middle.Case values)) ys bs h (body_in bs ks body b)))

  arguments_in : (cs : List Command) (ls : List ℕ) (arguments : List Argument) → SpellsArguments cs ls arguments
      → Among (arguments_offsets (view_arguments arguments)) cs
  arguments_in _ _ _ SpellsArguments.no_argument_ = Nothing
  arguments_in _ _ _ (SpellsArguments.white_ cs ls arguments c text s h w) =
      in_first (arguments_offsets (view_arguments arguments)) cs (c ∷ []) (arguments_in cs ls arguments s)
  arguments_in _ _ _ (SpellsArguments.param_ cs ls arguments c name e s h) =
      let xs = arguments_offsets (view_arguments arguments) in
      subst (λ l. Among l (cs ++ (c ∷ [])))
      (sym (arguments_append arguments name (given.Plain e) (tree.Plain (view_expr e)) c.span (view-Plain e)))
      (in_both xs (held c.span (expr_offsets (view_expr e))) cs (c ∷ []) (arguments_in cs ls arguments s)
      (alone_in c (says.Single (single.Param name e)) h))
  arguments_in _ _ _ (SpellsArguments.param_block_ cs bs ls ks arguments c z name kind body s h b e) =
      let xs = arguments_offsets (view_arguments arguments) in let ys = nodes_offsets (view_nodes body) in
      subst (λ l. Among l (cs ++ (c ∷ (bs ++ (z ∷ [])))))
      (sym (arguments_append arguments name (given.Block kind body) (tree.Block kind (view_nodes body))
      (up_to c.span z.span) (view-Block kind body)))
      (in_both xs (held (up_to c.span z.span) ys) cs (c ∷ (bs ++ (z ∷ []))) (arguments_in cs ls arguments s)
      (node_in c (says.Opens (opening.Param name kind)) ys z.span.start (bs ++ (z ∷ [])) h
      (up_to_in ys bs z (body_in bs ks body b))))

-- files

params_append : (params : List Param) (p : Param) → params_offsets (view_params (params ++ (p ∷ [])))
    ≡ params_offsets (view_params params) ++ held p.span []
params_append [] p = refl
params_append (q ∷ params) p = ap (λ os. held q.span [] ++ os) (params_append params p)

params_in : (cs : List Command) (ls : List ℕ) (params : List Param) → SpellsParams cs ls params
    → Among (params_offsets (view_params params)) cs
params_in _ _ _ SpellsParams.none_ = Nothing
params_in _ _ _ (SpellsParams.param_ cs ls params c name required of s h) =
    subst (λ l. Among l (cs ++ (c ∷ []))) (sym (params_append params (as_param name of required c.span)))
    (in_both (params_offsets (view_params params)) (held c.span []) cs (c ∷ []) (params_in cs ls params s)
    (alone_in c (says.TemplateParam name required of) h))

templates_append : (templates : List Template) (t : Template)
    → templates_offsets (map view_template (templates ++ (t ∷ [])))
    ≡ templates_offsets (map view_template templates)
    ++ held t.span (params_offsets (view_params t.params) ++ nodes_offsets (view_nodes t.body))
templates_append [] t =
    append-nil (held t.span (params_offsets (view_params t.params) ++ nodes_offsets (view_nodes t.body)))
templates_append (u ∷ templates) t =
    let x = held u.span (params_offsets (view_params u.params) ++ nodes_offsets (view_nodes u.body)) in
    let z = held t.span (params_offsets (view_params t.params) ++ nodes_offsets (view_nodes t.body)) in
    ap (λ os. x ++ os) (templates_append templates t)
    ∙ sym (append_assoc x (templates_offsets (map view_template templates)) z)

templates_in : (cs : List Command) (ls : List ℕ) (templates : List Template) → SpellsTemplates cs ls templates
    → Among (templates_offsets (map view_template templates)) cs
templates_in _ _ _ SpellsTemplates.none_ = Nothing
templates_in _ _ _ (SpellsTemplates.white_ cs ls templates c text s h w) =
    in_first (templates_offsets (map view_template templates)) cs (c ∷ []) (templates_in cs ls templates s)
templates_in _ _ _ (SpellsTemplates.template_ cs ps bs ls ms ks templates c z h params body s a p b e) =
    let t = template_of h params body (up_to c.span z.span) in
    let xs = params_offsets (view_params params) in let ys = nodes_offsets (view_nodes body) in
    let rest = ps ++ (bs ++ (z ∷ [])) in
    subst (λ l. Among l (cs ++ (c ∷ rest))) (sym (templates_append templates t))
    (in_both (templates_offsets (map view_template templates)) (held (up_to c.span z.span) (xs ++ ys)) cs (c ∷ rest)
    (templates_in cs ls templates s)
    (node_in c (says.Opens (opening.Template h)) (xs ++ ys) z.span.start rest a
    (grouped xs ys (z.span.start ∷ []) (commands_offsets rest)
    (in_both xs (ys ++ (z.span.start ∷ [])) ps (bs ++ (z ∷ [])) (params_in ps ms params p)
    (up_to_in ys bs z (body_in bs ks body b))))))

tree_in : (cs : List Command) (ls : List ℕ) (t : Tree) → SpellsTree cs ls t
    → Among (templates_offsets (map view_template t.templates)) cs
tree_in _ _ _ (SpellsTree.tree_ ds cs ms ls c name templates w h s) =
    let xs = templates_offsets (map view_template templates) in
    in_second xs ds (c ∷ cs) (past xs c cs (templates_in cs ls templates s))

-- **The spans of a file that tokens in order spell lie within those of the tokens, and ascend.**
pub file_ascends : (tokens : List Token) (ds : List ℕ) (ws : List Bool) (t : Tree) (from to : ℕ)
    → InOrder from to tokens → SpellsFile tokens ds ws t → TreeAscends from to (view_tree t)
file_ascends tokens ds ws t from to o s =
    part_ascends from to (templates_offsets (map view_template t.templates)) (commands_offsets s.commands)
    (tree_in s.commands s.levels t s.are)
    (commands_ascend tokens ds ws s.commands s.levels from to o s.spell)

-- **So do those of what a text's tokens are as a file, within the text.**
pub text_ascends : (text : List ℕ) (tokens : List Token) (t : Tree) → Tokens text tokens → IsFile tokens t
    → TreeAscends 0 (byte_len text) (view_tree t)
text_ascends text tokens t s i =
    file_ascends tokens i.depths i.words t 0 (byte_len text) (tokens_in_order text tokens s) i.spells
