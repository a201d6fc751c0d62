-- The bodies of messages, as they are written, are read as bodies that are alike: texts and prints, or a plural or
-- select, of which each case has one value.
use Rattle.std.proofs.Common.{◌≡◌, ℕ, ℤ, pos, negsuc, ◌+◌, ◌≤◌, ◌&&◌, true, List, [], ◌∷◌, ◌++◌, Option, Some, None}
use Rattle.std.proofs.Common.{refl, ap, subst, ◌∙◌, arith, append-nil}
use Rattle.std.specs.Prelude.{codes, is_some, nat_le, not}
use Rattle.std.specs.Fmt.{signed_decimal}
use Rattle.std.proofs.lemmas.Bool.Decides.{nat_tests}
use Rattle.soy_base.specs.declared.fault.Span.{Span}
use Rattle.soy_base.specs.Limits.{largest}
use Rattle.soy_lexer.specs.declared.token.TokenKind.TheVariants as kind
use Rattle.soy_tree.specs.Expressions.{Expr}
use Rattle.soy_tree.specs.Formed.{are_formed_nodes, are_formed_plural_cases, are_formed_select_cases, if_there}
use Rattle.soy_tree.specs.Formed.{begins_with_text, is_case_word, is_formed_body, is_formed_expr, is_formed_int}
use Rattle.soy_tree.specs.Formed.{is_message_text}
use Rattle.soy_tree.specs.MessageText.{MessageItem, characters, cuts_of, joined_items, message_items, Printed}
use Rattle.soy_tree.specs.Nodes.{Nodes, MessageBody, PluralCases, SelectCases, TextNode, Print, If, Switch, For, Let}
use Rattle.soy_tree.specs.Nodes.{LetBlock, Call, MessageNode, no_node, node, Parts, Plural, Select, no_plural_case}
use Rattle.soy_tree.specs.Nodes.{plural_case, no_select_case, select_case}
use Rattle.soy_tree.specs.Types.{Name}
use Rattle.soy_tree.specs.ViewNodes.{view_body, view_nodes, view_plural_cases, view_select_cases}
use Rattle.soy_tree.specs.declared.expr.Expr as code_expr
use Rattle.soy_tree.specs.declared.node.Form.TheVariants as form
use Rattle.soy_tree.specs.declared.node.MessageBody as code_body
use Rattle.soy_tree.specs.declared.node.MessageBody.TheVariants as message_body
use Rattle.soy_tree.specs.declared.node.Node as code
use Rattle.soy_tree.specs.declared.node.PluralCase.{PluralCase}
use Rattle.soy_tree.specs.declared.node.SelectCase.{SelectCase}
use Rattle.soy_base.specs.Names.{is_name}
use Rattle.soy_parser.specs.declared.command.Command.{Command}
use Rattle.soy_parser.specs.declared.command.CommandForm.TheVariants as says
use Rattle.soy_parser.specs.declared.command.Middle.TheVariants as middle
use Rattle.soy_parser.specs.declared.command.Opening.TheVariants as opening
use Rattle.soy_parser.specs.declared.command.Single.TheVariants as single
use Rattle.soy_parser.specs.declared.terminal.BlockName.TheVariants as block_name
use Rattle.soy_parser.specs.Nodes.{node_of}
use Rattle.soy_parser.specs.SpellsTree.{SpellsChoice, SpellsMessageBody, SpellsParts, SpellsPluralCases, SpellsPrints}
use Rattle.soy_parser.specs.SpellsTree.{SpellsSelectCases, SpellsWhite}
use Rattle.soy_parser.proofs.NodeViews.{view_print}
use Rattle.soy_parser.proofs.ViewForms.{view-Parts, view-Plural, view-Select, view-plural-case, view-select-case}
use Rattle.soy_format.specs.FormattedBody.{case_text, plural_text, print_text, expr_command as expr_command_text}
use Rattle.soy_format.specs.FormattedExpression.{begins_with_variable}
use Rattle.soy_format.specs.FormattedString.{formatted_string}
use Rattle.soy_format.specs.WithoutSpans.{body_without_spans, expr_without_spans, no_span, node_without_spans}
use Rattle.soy_format.specs.WithoutSpans.{plural_cases_without_spans, select_cases_without_spans}
use Rattle.formatted_source.specs.CommandPieces.{braced, offset_lexemes, phname_lexemes, print_word}
use Rattle.formatted_source.specs.ExprLexemes.{expr_lexemes}
use Rattle.formatted_source.specs.Lexemes.{Lexeme}
use Rattle.formatted_source.specs.NodePieces.{body_pieces, node_pieces, nodes_pieces, plural_cases_pieces}
use Rattle.formatted_source.specs.NodePieces.{select_cases_pieces}
use Rattle.formatted_source.proofs.Commands.BareCommands.{bare_command, default_says, plural_closes, select_closes}
use Rattle.formatted_source.proofs.Branching.{branch_pieces, branched}
use Rattle.formatted_source.proofs.Commands.CaseCommands.{plural_case_command, select_case_command}
use Rattle.formatted_source.proofs.Commands.CommandRows.{Rows, gathered}
use Rattle.formatted_source.proofs.Conditions.{three}
use Rattle.formatted_source.proofs.EdgedNodes.{Opened, own_pieces}
use Rattle.formatted_source.proofs.Commands.ExprCommands.{SaysExpr, expr_command, select_head}
use Rattle.formatted_source.proofs.Fitting.FittingTrees.{BodyFits, NodesFit, PluralCasesFit, SelectCasesFit}
use Rattle.formatted_source.proofs.LineLexemes.{MayOpen, one_piece, row_pieces}
use Rattle.formatted_source.proofs.Commands.MessageCommands.{message_print, plural_command}
use Rattle.formatted_source.proofs.MessageTexts.{text_alike}
use Rattle.formatted_source.proofs.Written.Names.{both}
use Rattle.formatted_source.proofs.NodeAlike.{NodeAs}
use Rattle.formatted_source.proofs.NodeLexemes.{all_lexemes}
use Rattle.formatted_source.proofs.NodeRows.{GathersNodes, rows_gathered}
use Rattle.formatted_source.proofs.NodesWalked.{EachSpeaks, RowsAs, nodes_walked}
use Rattle.formatted_source.proofs.Speaking.{IsCommandOf, Speaks, as_part, command_then, no_part, one_command}
use Rattle.formatted_source.proofs.Speaking.{same_part, two_parts}

-- ---- texts and prints

-- a print in a message
pub data OnePrint : List Command → List ℕ → code.Node → Type 0 where
  print_ : (c : Command) (e : code_expr.Expr) (phname : Option Name)
      → c.form ≡ says.Single (single.MessagePrint e phname)
      → OnePrint (c ∷ []) (0 ∷ []) (node_of (form.Print e phname) c.span)

one_print : (cs ds : List Command) (ks ns : List ℕ) (done : List code.Node) (n : code.Node) → SpellsParts cs ks done
    → OnePrint ds ns n → SpellsPrints (cs ++ ds) (ks ++ ns) (done ++ (n ∷ []))
one_print cs _ ks _ done _ s (OnePrint.print_ c e phname h) = SpellsPrints.print_ cs ks done c e phname s h

parts_gather : GathersNodes OnePrint SpellsPrints SpellsParts
parts_gather = record {
  none = SpellsPrints.none_;
  plain = λ cs ks done s. SpellsParts.plain_ cs ks done s;
  text = λ cs ds ks ns done text span s t. SpellsParts.text_ cs ds ks ns done text span s t;
  more = λ cs ds ks ns done n s one. one_print cs ds ks ns done n s one;
}

print_speaks : (b : ℕ) (e : Expr) (phname : Option Name) (span : Span) → b ≤ 64 → is_formed_expr e ≡ true
    → if_there is_name phname ≡ true → NodesFit b (node (Print e phname span) no_node)
    → Speaks b (all_lexemes [] (node_pieces (Print e phname span))) (NodeAs OnePrint (Print e phname span))
print_speaks b e phname span le f named fits =
    same_part b (braced (print_word (begins_with_variable e) ++ (expr_lexemes e ++ phname_lexemes phname))) _
    (NodeAs OnePrint (Print e phname span)) (one_piece (print_text e phname) _)
    (one_command b (braced (print_word (begins_with_variable e) ++ (expr_lexemes e ++ phname_lexemes phname)))
    (SaysExpr (λ x. says.Single (single.MessagePrint x phname)) e) (NodeAs OnePrint (Print e phname span))
    (λ ts same. message_print b ts (begins_with_variable e) e phname le f named fits.0 same)
    (λ c s. record {
      own = node_of (form.Print s.expr phname) c.span;
      spells = OnePrint.print_ c s.expr phname s.is;
      alike = ap node_without_spans (view_print s.expr phname c.span) ∙ ap (λ x. Print x phname no_span) s.alike;
    }))

-- what has cuts has items, and so have its parts

some_items : (o : Option (List MessageItem)) → is_some (cuts_of o) ≡ true → is_some o ≡ true
some_items None h = h
some_items (Some items) h = refl

more_items : (items : List MessageItem) (o : Option (List MessageItem)) → is_some (joined_items (Some items) o) ≡ true
    → is_some o ≡ true
more_items items None h = h
more_items items (Some more) h = refl

prints_speak : (b : ℕ) (ns : Nodes) → b ≤ 64 → is_some (message_items ns) ≡ true → are_formed_nodes ns ≡ true
    → NodesFit b ns → EachSpeaks OnePrint b ns
prints_speak b no_node le items f fits = tt
prints_speak b (node (TextNode text span) ns) le items f fits = (
  λ no. absurd (cc),
  prints_speak b ns le (more_items (characters text span) (message_items ns) items)
      (three true (not (begins_with_text ns)) (are_formed_nodes ns) f).2 fits.1,
)
prints_speak b (node (Print e phname span) ns) le items f fits =
    let fs = three (is_formed_expr e && if_there is_name phname) true (are_formed_nodes ns) f in
    let own = both (is_formed_expr e) (if_there is_name phname) fs.0 in (
      λ no. print_speaks b e phname span le own.0 own.1 (fits.0, tt),
      prints_speak b ns le
          (more_items (Printed e phname span ∷ []) (message_items ns) items) fs.2 fits.1,
    )
prints_speak b (node (If arms other span) ns) le items f fits = absurd (cc)
prints_speak b (node (Switch e cases other span) ns) le items f fits = absurd (cc)
prints_speak b (node (For name index e body span) ns) le items f fits = absurd (cc)
prints_speak b (node (Let name e span) ns) le items f fits = absurd (cc)
prints_speak b (node (LetBlock name k body span) ns) le items f fits = absurd (cc)
prints_speak b (node (Call name all given span) ns) le items f fits = absurd (cc)
prints_speak b (node (MessageNode m other span) ns) le items f fits = absurd (cc)

-- ---- bodies

pub record MessageBodyIs (body : MessageBody) (cs : List Command) (ks : List ℕ) : Type 0 where
  pub own : code_body.MessageBody
  pub spells : SpellsMessageBody cs ks own
  pub alike : body_without_spans (view_body own) ≡ body_without_spans body

parts_speak : (b : ℕ) (ns : Nodes) → b ≤ 64 → is_formed_body (Parts ns) ≡ true → NodesFit b ns
    → Speaks b (all_lexemes [] (nodes_pieces ns)) (MessageBodyIs (Parts ns))
parts_speak b ns le f fits =
    let fs = both (are_formed_nodes ns) (is_message_text ns) f in
    as_part b (all_lexemes [] (nodes_pieces ns)) (RowsAs OnePrint true ns) (MessageBodyIs (Parts ns))
    (nodes_walked OnePrint b true ns (nodes_pieces ns) le (own_pieces ns) fs.0 tt
    (prints_speak b ns le (some_items (message_items ns) fs.1) fs.0 fits))
    (λ cs ks r. record {
      own = message_body.Parts r.own;
      spells = SpellsMessageBody.parts_ cs ks r.own
          (rows_gathered OnePrint SpellsPrints SpellsParts parts_gather cs ks r.own r.rows)
          (text_alike (view_nodes r.own) ns r.alike fs.1);
      alike = ap body_without_spans (view-Parts r.own) ∙ ap Parts r.alike;
    })

-- one plural or select, with no white text beside it
choice_alone : (cs : List Command) (ks : List ℕ) (body : code_body.MessageBody) → SpellsChoice cs ks body
    → SpellsMessageBody cs ks body
choice_alone cs ks body s =
    subst (λ l. SpellsMessageBody l ks body) (append-nil cs)
    (subst (λ l. SpellsMessageBody (cs ++ []) l body) (append-nil ks)
    (SpellsMessageBody.choice_ [] cs [] [] ks [] body SpellsWhite.none_ s SpellsWhite.none_))

-- ---- cases

pub data OnePlural : List Command → List ℕ → PluralCase → Type 0 where
  plural_ : (c : Command) (bs : List Command) (ks : List ℕ) (n : ℤ) (body : code_body.MessageBody)
      → c.form ≡ says.GoesOn (middle.PluralCase (n ∷ [])) → SpellsMessageBody bs ks body
      → OnePlural (c ∷ bs) (0 ∷ ks) (record { is = n; body = body })

pub data OneSelect : List Command → List ℕ → SelectCase → Type 0 where
  select_ : (c : Command) (bs : List Command) (ks : List ℕ) (word : List ℕ) (body : code_body.MessageBody)
      → c.form ≡ says.GoesOn (middle.SelectCase (word ∷ [])) → SpellsMessageBody bs ks body
      → OneSelect (c ∷ bs) (0 ∷ ks) (record { is = word; body = body })

record PluralsAre (cases : PluralCases) (cs : List Command) (ks : List ℕ) : Type 0 where
  pub own : List PluralCase
  pub rows : Rows PluralCase OnePlural cs ks own
  pub alike : plural_cases_without_spans (view_plural_cases own) ≡ plural_cases_without_spans cases

record SelectsAre (cases : SelectCases) (cs : List Command) (ks : List ℕ) : Type 0 where
  pub own : List SelectCase
  pub rows : Rows SelectCase OneSelect cs ks own
  pub alike : select_cases_without_spans (view_select_cases own) ≡ select_cases_without_spans cases

one_plural : (cs ds : List Command) (ks ns : List ℕ) (done : List PluralCase) (a : PluralCase)
    → SpellsPluralCases cs ks done → OnePlural ds ns a → SpellsPluralCases (cs ++ ds) (ks ++ ns) (done ++ (a ∷ []))
one_plural cs _ ks _ done _ s (OnePlural.plural_ c bs ns n body h r) =
    SpellsPluralCases.plural_case_ cs bs ks ns done c (n ∷ []) body s h r

one_select : (cs ds : List Command) (ks ns : List ℕ) (done : List SelectCase) (a : SelectCase)
    → SpellsSelectCases cs ks done → OneSelect ds ns a → SpellsSelectCases (cs ++ ds) (ks ++ ns) (done ++ (a ∷ []))
one_select cs _ ks _ done _ s (OneSelect.select_ c bs ns word body h r) =
    SpellsSelectCases.select_case_ cs bs ks ns done c (word ∷ []) body s h r

plurals_gathered : (cs : List Command) (ks : List ℕ) (own : List PluralCase) → Rows PluralCase OnePlural cs ks own
    → SpellsPluralCases cs ks own
plurals_gathered cs ks own rows =
    gathered PluralCase OnePlural SpellsPluralCases one_plural [] cs [] ks [] own SpellsPluralCases.no_plural_case_ rows

selects_gathered : (cs : List Command) (ks : List ℕ) (own : List SelectCase) → Rows SelectCase OneSelect cs ks own
    → SpellsSelectCases cs ks own
selects_gathered cs ks own rows =
    gathered SelectCase OneSelect SpellsSelectCases one_select [] cs [] ks [] own SpellsSelectCases.no_select_case_ rows

plurals_open : (cases : PluralCases) → MayOpen (plural_cases_pieces cases)
plurals_open no_plural_case = MayOpen.empty_
plurals_open (plural_case n body cases) = MayOpen.open_ _ (Opened.opened_ _ _ _)

selects_open : (cases : SelectCases) → MayOpen (select_cases_pieces cases)
selects_open no_select_case = MayOpen.empty_
selects_open (select_case word body cases) = MayOpen.open_ _ (Opened.opened_ _ _ _)

-- one case
record PluralIs (n : ℤ) (body : MessageBody) (cs : List Command) (ks : List ℕ) : Type 0 where
  pub own : code_body.MessageBody
  pub spells : OnePlural cs ks (record { is = n; body = own })
  pub alike : body_without_spans (view_body own) ≡ body_without_spans body

record SelectIs (word : List ℕ) (body : MessageBody) (cs : List Command) (ks : List ℕ) : Type 0 where
  pub own : code_body.MessageBody
  pub spells : OneSelect cs ks (record { is = word; body = own })
  pub alike : body_without_spans (view_body own) ≡ body_without_spans body

-- a case whose number is formed
plural_case_speaks : (b : ℕ) (n : ℤ) → b ≤ 64 → is_formed_int n ≡ true → (ls : List Lexeme)
    → ls ≡ braced ((kind.Word, codes "case") ∷ ((kind.Int, signed_decimal n) ∷ []))
    → IsCommandOf b ls (λ f. f ≡ says.GoesOn (middle.PluralCase (n ∷ [])))
plural_case_speaks b (pos n) le f ls is ts same =
    let within : n ≤ largest = grind (arith, nat_tests, f) in
    plural_case_command b ts n le within (same ∙ is)
plural_case_speaks b (negsuc n) le f ls is ts same = absurd (cc)

mutual
  pub body_speaks : (b : ℕ) (body : MessageBody) → b ≤ 64 → is_formed_body body ≡ true → BodyFits b body
      → Speaks b (all_lexemes [] (body_pieces body)) (MessageBodyIs body)
  body_speaks b (Parts ns) le f fits = parts_speak b ns le f fits
  body_speaks b (Plural e offset cases other) le f fits =
      let fs = both (is_formed_expr e && nat_le offset largest && are_formed_plural_cases cases) (is_formed_body other) f in
      let gs = three (is_formed_expr e) (nat_le offset largest) (are_formed_plural_cases cases) fs.0 in
      let small : offset ≤ largest = grind (arith, nat_tests, gs.1) in
      same_part b _ _ (MessageBodyIs (Plural e offset cases other))
      (branch_pieces (plural_text e offset) (braced ((kind.Word, codes "plural") ∷ (expr_lexemes e ++ offset_lexemes offset)))
      (plural_cases_pieces cases) (codes "{default}") (braced ((kind.Word, codes "default") ∷ [])) (body_pieces other)
      (codes "{/plural}")
      (braced ((kind.BeginClose, codes "plural") ∷ [])))
      (branched b (braced ((kind.Word, codes "plural") ∷ (expr_lexemes e ++ offset_lexemes offset)))
      (all_lexemes [] (plural_cases_pieces cases)) (braced ((kind.Word, codes "default") ∷ []))
      (all_lexemes [] (body_pieces other)) (braced ((kind.BeginClose, codes "plural") ∷ []))
      (SaysExpr (λ x. says.Opens (opening.Plural x offset)) e) (PluralsAre cases) (λ f. f ≡ says.GoesOn middle.Default)
      (MessageBodyIs other) (λ f. f ≡ says.Closes block_name.Plural) (MessageBodyIs (Plural e offset cases other))
      (λ ts same. plural_command b ts e offset le gs.0 fits.1 small same)
      (plurals_speak (b + 1) cases fits.0 gs.2 fits.2)
      (λ ts same. bare_command (b + 1) ts (kind.Word, codes "default") (says.GoesOn middle.Default) fits.0 default_says
      same)
      (body_speaks (b + 1) other fits.0 fs.1 fits.3)
      (λ ts same. bare_command (b + 1) ts (kind.BeginClose, codes "plural") (says.Closes block_name.Plural) fits.0
      plural_closes same)
      (λ c d z cs bs ks js x p g q h. record {
        own = message_body.Plural x.expr offset p.own q.own;
        spells = choice_alone _ _ _ (SpellsChoice.plural_ c d z cs bs [] ks js [] x.expr offset p.own q.own x.is
            SpellsWhite.none_ (plurals_gathered cs ks p.own p.rows) g q.spells h);
        alike = ap body_without_spans (view-Plural x.expr offset p.own q.own)
            ∙ (ap (λ (y : Expr). Plural y offset (plural_cases_without_spans (view_plural_cases p.own))
            (body_without_spans (view_body q.own))) x.alike
            ∙ (ap (λ l. Plural (expr_without_spans e) offset l (body_without_spans (view_body q.own))) p.alike
            ∙ ap (λ l. Plural (expr_without_spans e) offset (plural_cases_without_spans cases) l) q.alike));
      }))
  body_speaks b (Select e cases other) le f fits =
      let gs = three (is_formed_expr e) (are_formed_select_cases cases) (is_formed_body other) f in
      same_part b _ _ (MessageBodyIs (Select e cases other))
      (branch_pieces (expr_command_text (codes "{select ") e) (braced ((kind.Word, codes "select") ∷ expr_lexemes e)) (select_cases_pieces cases)
      (codes "{default}") (braced ((kind.Word, codes "default") ∷ [])) (body_pieces other) (codes "{/select}")
      (braced ((kind.BeginClose, codes "select") ∷ [])))
      (branched b (braced ((kind.Word, codes "select") ∷ expr_lexemes e)) (all_lexemes [] (select_cases_pieces cases))
      (braced ((kind.Word, codes "default") ∷ [])) (all_lexemes [] (body_pieces other))
      (braced ((kind.BeginClose, codes "select") ∷ []))
      (SaysExpr (λ x. says.Opens (opening.Select x)) e) (SelectsAre cases) (λ f. f ≡ says.GoesOn middle.Default)
      (MessageBodyIs other) (λ f. f ≡ says.Closes block_name.Select) (MessageBodyIs (Select e cases other))
      (λ ts same. expr_command b ts (codes "select") (λ x. says.Opens (opening.Select x)) e le gs.0 fits.1 select_head
      same)
      (selects_speak (b + 1) cases fits.0 gs.1 fits.2)
      (λ ts same. bare_command (b + 1) ts (kind.Word, codes "default") (says.GoesOn middle.Default) fits.0 default_says
      same)
      (body_speaks (b + 1) other fits.0 gs.2 fits.3)
      (λ ts same. bare_command (b + 1) ts (kind.BeginClose, codes "select") (says.Closes block_name.Select) fits.0
      select_closes same)
      (λ c d z cs bs ks js x p g q h. record {
        own = message_body.Select x.expr p.own q.own;
        spells = choice_alone _ _ _ (SpellsChoice.select_ c d z cs bs [] ks js [] x.expr p.own q.own x.is
            SpellsWhite.none_ (selects_gathered cs ks p.own p.rows) g q.spells h);
        alike = ap body_without_spans (view-Select x.expr p.own q.own)
            ∙ (ap (λ (y : Expr). Select y (select_cases_without_spans (view_select_cases p.own))
            (body_without_spans (view_body q.own))) x.alike
            ∙ (ap (λ l. Select (expr_without_spans e) l (body_without_spans (view_body q.own))) p.alike
            ∙ ap (λ l. Select (expr_without_spans e) (select_cases_without_spans cases) l) q.alike));
      }))

  plurals_speak : (b : ℕ) (cases : PluralCases) → b ≤ 64 → are_formed_plural_cases cases ≡ true
      → PluralCasesFit b cases → Speaks b (all_lexemes [] (plural_cases_pieces cases)) (PluralsAre cases)
  plurals_speak b no_plural_case le f fits =
      no_part b (PluralsAre no_plural_case) (record { own = []; rows = Rows.no_row_; alike = refl })
  plurals_speak b (plural_case n body cases) le f fits =
      let fs = three (is_formed_int n) (is_formed_body body) (are_formed_plural_cases cases) f in
      let ls : List Lexeme = braced ((kind.Word, codes "case") ∷ ((kind.Int, signed_decimal n) ∷ [])) in
      same_part b _ _ (PluralsAre (plural_case n body cases))
      (row_pieces (case_text (signed_decimal n)) ls (body_pieces body) (plural_cases_pieces cases) (plurals_open cases))
      (two_parts b (ls ++ all_lexemes [] (body_pieces body)) (all_lexemes [] (plural_cases_pieces cases))
      (PluralIs n body) (PluralsAre cases) (PluralsAre (plural_case n body cases))
      (command_then b ls (all_lexemes [] (body_pieces body)) (λ f. f ≡ says.GoesOn (middle.PluralCase (n ∷ [])))
      (MessageBodyIs body) (PluralIs n body) (plural_case_speaks b n le fs.0 ls refl)
      (body_speaks b body le fs.1 fits.0)
      (λ c bs ks h r. record { own = r.own; spells = OnePlural.plural_ c bs ks n r.own h r.spells; alike = r.alike }))
      (plurals_speak b cases le fs.2 fits.1)
      (λ cs ds ks ns p q. record {
        own = record { is = n; body = p.own } ∷ q.own;
        rows = Rows.row_ cs ds ks ns (record { is = n; body = p.own }) q.own p.spells q.rows;
        alike = ap (λ (c : ℤ × MessageBody). plural_case c.0 (body_without_spans c.1) (plural_cases_without_spans
            (view_plural_cases q.own))) (view-plural-case n p.own)
            ∙ (ap (λ x. plural_case n x (plural_cases_without_spans (view_plural_cases q.own))) p.alike
            ∙ ap (λ l. plural_case n (body_without_spans body) l) q.alike);
      }))

  selects_speak : (b : ℕ) (cases : SelectCases) → b ≤ 64 → are_formed_select_cases cases ≡ true
      → SelectCasesFit b cases → Speaks b (all_lexemes [] (select_cases_pieces cases)) (SelectsAre cases)
  selects_speak b no_select_case le f fits =
      no_part b (SelectsAre no_select_case) (record { own = []; rows = Rows.no_row_; alike = refl })
  selects_speak b (select_case word body cases) le f fits =
      let fs = three (is_case_word word) (is_formed_body body) (are_formed_select_cases cases) f in
      let ls : List Lexeme = braced ((kind.Word, codes "case") ∷ ((kind.Str, word) ∷ [])) in
      same_part b _ _ (SelectsAre (select_case word body cases))
      (row_pieces (case_text (formatted_string word)) ls (body_pieces body) (select_cases_pieces cases) (selects_open cases))
      (two_parts b (ls ++ all_lexemes [] (body_pieces body)) (all_lexemes [] (select_cases_pieces cases))
      (SelectIs word body) (SelectsAre cases) (SelectsAre (select_case word body cases))
      (command_then b ls (all_lexemes [] (body_pieces body)) (λ f. f ≡ says.GoesOn (middle.SelectCase (word ∷ [])))
      (MessageBodyIs body) (SelectIs word body) (λ ts same. select_case_command b ts word le fs.0 same)
      (body_speaks b body le fs.1 fits.0)
      (λ c bs ks h r. record { own = r.own; spells = OneSelect.select_ c bs ks word r.own h r.spells; alike = r.alike }))
      (selects_speak b cases le fs.2 fits.1)
      (λ cs ds ks ns p q. record {
        own = record { is = word; body = p.own } ∷ q.own;
        rows = Rows.row_ cs ds ks ns (record { is = word; body = p.own }) q.own p.spells q.rows;
        alike = ap (λ (c : List ℕ × MessageBody). select_case c.0 (body_without_spans c.1) (select_cases_without_spans
            (view_select_cases q.own))) (view-select-case word p.own)
            ∙ (ap (λ x. select_case word x (select_cases_without_spans (view_select_cases q.own))) p.alike
            ∙ ap (λ l. select_case word (body_without_spans body) l) q.alike);
      }))
