-- Parts of the tree of a text fit the limit on depth as they are written: their commands do.
use Rattle.std.proofs.Common.{◌≡◌, ℕ, ℤ, ◌+◌, ◌≤◌, List, [], ◌∷◌, ◌++◌, refl, sym, ap, subst}
use Rattle.std.proofs.Common.{◌∙◌, arith}
use Rattle.soy_base.specs.declared.fault.Span.{Span}
use Rattle.soy_tree.specs.ViewExpressions.{view_expr, view_exprs}
use Rattle.soy_tree.specs.ViewNodes.{view_node, view_nodes, view_arms, view_cases}
use Rattle.soy_tree.specs.ViewNodes.{view_arguments, view_given, view_message, view_body}
use Rattle.soy_tree.specs.ViewNodes.{view_plural_cases, view_select_cases, arms_of, cases_of}
use Rattle.soy_tree.specs.ViewNodes.{arguments_of}
use Rattle.soy_tree.specs.declared.expr.Expr.{Expr}
use Rattle.soy_tree.specs.declared.node.Argument.{Argument}
use Rattle.soy_tree.specs.declared.node.Arm.{Arm}
use Rattle.soy_tree.specs.declared.node.Case.{Case}
use Rattle.soy_tree.specs.declared.node.Form.TheVariants as form
use Rattle.soy_tree.specs.declared.node.Given.{Given}
use Rattle.soy_tree.specs.declared.node.MessageBody.{MessageBody}
use Rattle.soy_tree.specs.declared.node.Node.{Node}
use Rattle.soy_tree.specs.declared.node.PluralCase.{PluralCase}
use Rattle.soy_tree.specs.declared.node.SelectCase.{SelectCase}
use Rattle.soy_parser.specs.declared.command.Command.{Command}
use Rattle.soy_parser.specs.declared.command.CommandForm.{CommandForm}
use Rattle.soy_parser.specs.declared.command.CommandForm.TheVariants as says
use Rattle.soy_parser.specs.declared.command.Opening.TheVariants as opening
use Rattle.soy_parser.specs.declared.command.Single.TheVariants as single
use Rattle.soy_parser.specs.Depth.{inside_blocks}
use Rattle.soy_parser.specs.Nodes.{node_of, arm_of, case_of, argument_of, whole_message, plural_cases, select_cases}
use Rattle.soy_parser.specs.SpellsTree.{SpellsText, SpellsPrints, SpellsParts, SpellsMessageBody, SpellsChoice}
use Rattle.soy_parser.specs.SpellsTree.{SpellsPluralCases, SpellsSelectCases}
use Rattle.soy_parser.proofs.NodeViews.{view_text, view_print}
use Rattle.soy_parser.proofs.ViewForms.{view-arm}
use Rattle.soy_parser.proofs.ViewForms.{view-case, view-argument, view-message, view-Parts}
use Rattle.soy_parser.proofs.ViewForms.{view-Plural, view-Select, view-plural-case, view-select-case}
use Rattle.formatted_source.proofs.Commands.CommandLevels.{Even, choice_even}
use Rattle.formatted_source.proofs.Commands.CommandLevels.{message_even, parts_even}
use Rattle.formatted_source.proofs.Commands.CommandLevels.{plural_even, prints_even, select_even, text_even}
use Rattle.formatted_source.proofs.Commands.CommandLevels.{white_even}
use Rattle.formatted_source.proofs.Fitting.FittingCommands.{AllFit, CommandFits, FormFits}
use Rattle.formatted_source.proofs.Fitting.FittingTrees.{ArgumentsFit, ArmsFit, BodyFits, CasesFit, ExprFits, FirstFits}
use Rattle.formatted_source.proofs.Fitting.FittingTrees.{GivenFits}
use Rattle.formatted_source.proofs.Fitting.FittingTrees.{MessageFits, NodeFits, NodesFit, PluralCasesFit}
use Rattle.formatted_source.proofs.Fitting.FittingTrees.{SelectCasesFit}
use Rattle.formatted_source.proofs.Fitting.FittingTrees.{ValuesFit}

-- the commands of a part of a tree that stands inside so many blocks
abbrev pub Fit : ℕ → List Command → List ℕ → Type 0
Fit b cs ls = AllFit cs (inside_blocks b ls)

pub fit_left : (b : ℕ) (cs ds : List Command) (ls ms : List ℕ) → Even cs ls → Fit b (cs ++ ds) (ls ++ ms) → Fit b cs ls
fit_left b [] ds [] ms e f = tt
fit_left b [] ds (l ∷ ls) ms e f = absurd (omega (arith, e))
fit_left b (c ∷ cs) ds [] ms e f = absurd (omega (arith, e))
fit_left b (c ∷ cs) ds (l ∷ ls) ms e f = (f.0, fit_left b cs ds ls ms (omega (arith, e)) f.1)

pub fit_right : (b : ℕ) (cs ds : List Command) (ls ms : List ℕ) → Even cs ls → Fit b (cs ++ ds) (ls ++ ms) → Fit b ds ms
fit_right b [] ds [] ms e f = f
fit_right b [] ds (l ∷ ls) ms e f = absurd (omega (arith, e))
fit_right b (c ∷ cs) ds [] ms e f = absurd (omega (arith, e))
fit_right b (c ∷ cs) ds (l ∷ ls) ms e f = fit_right b cs ds ls ms (omega (arith, e)) f.1

inside_twice : (b : ℕ) (ls : List ℕ) → inside_blocks b (inside_blocks 1 ls) ≡ inside_blocks (b + 1) ls
inside_twice b [] = refl
inside_twice b (l ∷ ls) =
    let one : b + (1 + l) ≡ (b + 1) + l = omega arith in
    ap (λ n. n ∷ inside_blocks b (inside_blocks 1 ls)) one ∙ ap (λ m. ((b + 1) + l) ∷ m) (inside_twice b ls)

pub fit_deeper : (b : ℕ) (cs : List Command) (ls : List ℕ) → Fit b cs (inside_blocks 1 ls) → Fit (b + 1) cs ls
fit_deeper b cs ls f = subst (λ l. AllFit cs l) (inside_twice b ls) f

pub inside_none : (ls : List ℕ) → inside_blocks 0 ls ≡ ls
inside_none [] = refl
inside_none (l ∷ ls) =
    let same : 0 + l ≡ l = omega arith in
    ap (λ n. n ∷ inside_blocks 0 ls) same ∙ ap (λ m. l ∷ m) (inside_none ls)

-- a command at the level of its part
pub level_is : (b : ℕ) (of : CommandForm) → CommandFits (b + 0) of → b ≤ 64
level_is b of f = let l : b + 0 ≤ 64 = f.level in omega (arith, l)

pub fits_as : (b : ℕ) (c : Command) (of : CommandForm) → c.form ≡ of → CommandFits (b + 0) c.form → FormFits b of
fits_as b c of e f =
    let same : b + 0 ≡ b = omega arith in
    subst (λ n. FormFits n of) same (subst (λ x. FormFits (b + 0) x) e f.form)

-- the last command of a part
pub last_level : (b : ℕ) (cs : List Command) (ls : List ℕ) (z : Command) → Even cs ls
    → Fit b (cs ++ (z ∷ [])) (ls ++ (0 ∷ []))
    → b ≤ 64
last_level b cs ls z e f = level_is b z.form (fit_right b cs (z ∷ []) ls (0 ∷ []) e f).0

pub text_level : (b : ℕ) (cs : List Command) (ls : List ℕ) (text : List ℕ) (span : Span) → Fit b cs ls
    → SpellsText cs ls text span → b ≤ 64
text_level b _ _ _ _ f (SpellsText.first_ c text e) = level_is b c.form f.0
text_level b _ _ _ _ f (SpellsText.next_ cs ls c text more span s e) =
    text_level b cs ls text span (fit_left b cs (c ∷ []) ls (0 ∷ []) (text_even cs ls text span s) f) s

-- one more node
pub nodes_more : (b : ℕ) (ns : List Node) (n : Node) → NodesFit b (view_nodes ns) → NodeFits b (view_node n)
    → NodesFit b (view_nodes (ns ++ (n ∷ [])))
nodes_more b [] n h k = (k, tt)
nodes_more b (o ∷ ns) n h k = (h.0, nodes_more b ns n h.1 k)

pub with_text : (b : ℕ) (ns : List Node) (text : List ℕ) (span : Span) → NodesFit b (view_nodes ns) → b ≤ 64
    → NodesFit b (view_nodes (ns ++ (node_of (form.Text text) span ∷ [])))
with_text b ns text span h k =
    nodes_more b ns (node_of (form.Text text) span) h (subst (λ x. NodeFits b x) (sym (view_text text span)) k)

-- messages

mutual
  prints_fit : (b : ℕ) (cs : List Command) (ls : List ℕ) (ns : List Node) → Fit b cs ls → SpellsPrints cs ls ns
      → NodesFit b (view_nodes ns)
  prints_fit b _ _ _ f SpellsPrints.none_ = tt
  prints_fit b _ _ _ f (SpellsPrints.print_ cs ls ns c e phname s h) =
      let even = parts_even cs ls ns s in
      let last = fit_right b cs (c ∷ []) ls (0 ∷ []) even f in
      nodes_more b ns (node_of (form.Print e phname) c.span)
      (parts_fit b cs ls ns (fit_left b cs (c ∷ []) ls (0 ∷ []) even f) s)
      (subst (λ x. NodeFits b x) (sym (view_print e phname c.span))
      (fits_as b c (says.Single (single.MessagePrint e phname)) h last.0))

  parts_fit : (b : ℕ) (cs : List Command) (ls : List ℕ) (ns : List Node) → Fit b cs ls → SpellsParts cs ls ns
      → NodesFit b (view_nodes ns)
  parts_fit b _ _ _ f (SpellsParts.plain_ cs ls ns s) = prints_fit b cs ls ns f s
  parts_fit b _ _ _ f (SpellsParts.text_ cs ds ls ms ns text span s t) =
      let even = prints_even cs ls ns s in
      with_text b ns text span (prints_fit b cs ls ns (fit_left b cs ds ls ms even f) s)
      (text_level b ds ms text span (fit_right b cs ds ls ms even f) t)

plurals_append : (b : ℕ) (cs ds : List PluralCase) → PluralCasesFit b (view_plural_cases cs)
    → PluralCasesFit b (view_plural_cases ds) → PluralCasesFit b (view_plural_cases (cs ++ ds))
plurals_append b [] ds h k = k
plurals_append b (c ∷ cs) ds h k = (h.0, plurals_append b cs ds h.1 k)

plural_copies : (b : ℕ) (values : List ℤ) (body : MessageBody) → BodyFits b (view_body body)
    → PluralCasesFit b (view_plural_cases (plural_cases values body))
plural_copies b [] body k = tt
plural_copies b (n ∷ values) body k =
    (subst (λ p. BodyFits b p.1) (sym (view-plural-case n body)) k, plural_copies b values body k)

selects_append : (b : ℕ) (cs ds : List SelectCase) → SelectCasesFit b (view_select_cases cs)
    → SelectCasesFit b (view_select_cases ds) → SelectCasesFit b (view_select_cases (cs ++ ds))
selects_append b [] ds h k = k
selects_append b (c ∷ cs) ds h k = (h.0, selects_append b cs ds h.1 k)

select_copies : (b : ℕ) (values : List (List ℕ)) (body : MessageBody) → BodyFits b (view_body body)
    → SelectCasesFit b (view_select_cases (select_cases values body))
select_copies b [] body k = tt
select_copies b (word ∷ values) body k =
    (subst (λ p. BodyFits b p.1) (sym (view-select-case word body)) k, select_copies b values body k)

mutual
  message_fits : (b : ℕ) (cs : List Command) (ls : List ℕ) (body : MessageBody) → Fit b cs ls
      → SpellsMessageBody cs ls body → BodyFits b (view_body body)
  message_fits b _ _ _ f (SpellsMessageBody.parts_ cs ls ns s h) =
      subst (λ x. BodyFits b x) (sym (view-Parts ns)) (parts_fit b cs ls ns f s)
  message_fits b _ _ _ f (SpellsMessageBody.choice_ cs bs ds ls ks ms body w s v) =
      choice_fits b bs ks body (fit_left b bs ds ks ms (choice_even bs ks body s)
      (fit_right b cs (bs ++ ds) ls (ks ++ ms) (white_even cs ls w) f)) s

  choice_fits : (b : ℕ) (cs : List Command) (ls : List ℕ) (body : MessageBody) → Fit b cs ls
      → SpellsChoice cs ls body → BodyFits b (view_body body)
  choice_fits b _ _ _ f (SpellsChoice.plural_ c d z cs bs ds ls ks ms e offset cases other a w s g r h) =
      let i = fit_deeper b (ds ++ (cs ++ (d ∷ (bs ++ (z ∷ []))))) (ms ++ (ls ++ (0 ∷ (ks ++ (0 ∷ []))))) f.1 in
      let j = fit_right (b + 1) ds (cs ++ (d ∷ (bs ++ (z ∷ [])))) ms (ls ++ (0 ∷ (ks ++ (0 ∷ [])))) (white_even ds ms w)
      i in
      let even = plural_even cs ls cases s in
      let k = fit_right (b + 1) cs (d ∷ (bs ++ (z ∷ []))) ls (0 ∷ (ks ++ (0 ∷ []))) even j in
      subst (λ x. BodyFits b x) (sym (view-Plural e offset cases other)) (
        level_is (b + 1) d.form k.0,
        fits_as b c (says.Opens (opening.Plural e offset)) a f.0,
        plural_cases_fit (b + 1) cs ls cases
            (fit_left (b + 1) cs (d ∷ (bs ++ (z ∷ []))) ls (0 ∷ (ks ++ (0 ∷ []))) even j) s,
        message_fits (b + 1) bs ks other (fit_left (b + 1) bs (z ∷ []) ks (0 ∷ []) (message_even bs ks other r) k.1) r,
      )
  choice_fits b _ _ _ f (SpellsChoice.select_ c d z cs bs ds ls ks ms e cases other a w s g r h) =
      let i = fit_deeper b (ds ++ (cs ++ (d ∷ (bs ++ (z ∷ []))))) (ms ++ (ls ++ (0 ∷ (ks ++ (0 ∷ []))))) f.1 in
      let j = fit_right (b + 1) ds (cs ++ (d ∷ (bs ++ (z ∷ [])))) ms (ls ++ (0 ∷ (ks ++ (0 ∷ [])))) (white_even ds ms w)
      i in
      let even = select_even cs ls cases s in
      let k = fit_right (b + 1) cs (d ∷ (bs ++ (z ∷ []))) ls (0 ∷ (ks ++ (0 ∷ []))) even j in
      subst (λ x. BodyFits b x) (sym (view-Select e cases other)) (
        level_is (b + 1) d.form k.0,
        fits_as b c (says.Opens (opening.Select e)) a f.0,
        select_cases_fit (b + 1) cs ls cases
            (fit_left (b + 1) cs (d ∷ (bs ++ (z ∷ []))) ls (0 ∷ (ks ++ (0 ∷ []))) even j) s,
        message_fits (b + 1) bs ks other (fit_left (b + 1) bs (z ∷ []) ks (0 ∷ []) (message_even bs ks other r) k.1) r,
      )

  plural_cases_fit : (b : ℕ) (cs : List Command) (ls : List ℕ) (cases : List PluralCase) → Fit b cs ls
      → SpellsPluralCases cs ls cases → PluralCasesFit b (view_plural_cases cases)
  plural_cases_fit b _ _ _ f SpellsPluralCases.no_plural_case_ = tt
  plural_cases_fit b _ _ _ f (SpellsPluralCases.plural_case_ cs bs ls ks cases c values body s a r) =
      let even = plural_even cs ls cases s in
      let i = fit_right b cs (c ∷ bs) ls (0 ∷ ks) even f in
      plurals_append b cases (plural_cases values body)
      (plural_cases_fit b cs ls cases (fit_left b cs (c ∷ bs) ls (0 ∷ ks) even f) s)
      (plural_copies b values body (message_fits b bs ks body i.1 r))

  select_cases_fit : (b : ℕ) (cs : List Command) (ls : List ℕ) (cases : List SelectCase) → Fit b cs ls
      → SpellsSelectCases cs ls cases → SelectCasesFit b (view_select_cases cases)
  select_cases_fit b _ _ _ f SpellsSelectCases.no_select_case_ = tt
  select_cases_fit b _ _ _ f (SpellsSelectCases.select_case_ cs bs ls ks cases c values body s a r) =
      let even = select_even cs ls cases s in
      let i = fit_right b cs (c ∷ bs) ls (0 ∷ ks) even f in
      selects_append b cases (select_cases values body)
      (select_cases_fit b cs ls cases (fit_left b cs (c ∷ bs) ls (0 ∷ ks) even f) s)
      (select_copies b values body (message_fits b bs ks body i.1 r))

pub whole_fits : (b : ℕ) (cs : List Command) (ls : List ℕ) (desc meaning : List ℕ) (body : MessageBody) (span : Span)
    → Fit b cs ls → SpellsMessageBody cs ls body
    → MessageFits b (view_message (whole_message desc meaning body span))
whole_fits b cs ls desc meaning body span f s =
    subst (λ m. MessageFits b m) (sym (view-message desc meaning body span)) (message_fits b cs ls body f s)

-- lists that go on

pub arms_append : (b : ℕ) (arms : List Arm) (e : Expr) (body : List Node) → ArmsFit b (view_arms arms)
    → ExprFits b (view_expr e) → NodesFit b (view_nodes body)
    → ArmsFit b (view_arms (arms ++ (arm_of e body ∷ [])))
arms_append b [] e body h k l = subst (λ a. ArmsFit b (arms_of (a ∷ []))) (sym (view-arm e body)) (k, l, tt)
arms_append b (a ∷ arms) e body h k l = (h.0, h.1, arms_append b arms e body h.2 k l)

-- arms of which there is one
pub record ArmsAre (b : ℕ) (arms : List Arm) : Type 0 where
  pub first : Arm
  pub more : List Arm
  pub are : arms ≡ first ∷ more
  pub fit : FirstFits b (view_arms (first ∷ more))

pub cases_append : (b : ℕ) (cases : List Case) (values : List Expr) (body : List Node) → CasesFit b (view_cases cases)
    → ValuesFit b (view_exprs values) → NodesFit b (view_nodes body)
    → CasesFit b (view_cases (cases ++ (case_of values body ∷ [])))
cases_append b [] values body h k l =
    subst (λ c. CasesFit b (cases_of (c ∷ []))) (sym (view-case values body)) (k, l, tt)
cases_append b (c ∷ cases) values body h k l = (h.0, h.1, cases_append b cases values body h.2 k l)

pub arguments_append : (b : ℕ) (arguments : List Argument) (name : List ℕ) (g : Given) (span : Span)
    → ArgumentsFit b (view_arguments arguments) → b ≤ 64 → GivenFits b (view_given g)
    → ArgumentsFit b (view_arguments (arguments ++ (argument_of name g span ∷ [])))
arguments_append b [] name g span h k l =
    subst (λ a. ArgumentsFit b (arguments_of (a ∷ []))) (sym (view-argument name g span)) (k, l, tt)
arguments_append b (a ∷ arguments) name g span h k l =
    (h.0, h.1, arguments_append b arguments name g span h.2 k l)
