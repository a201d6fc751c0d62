-- **Each head is read, where its kind is admitted.**
use Rattle.std.proofs.Common.{◌≡◌, ℕ, ◌+◌, ℤ, pos, Bool, true, false, List, [], ◌∷◌, ◌++◌, length, Option, Some}
use Rattle.std.proofs.Common.{None, refl, sym, ◌∙◌, ap, subst, append_assoc}
use Rattle.std.specs.Prelude.{if◌then◌else◌, ◌&&◌}
use Rattle.soy_base.specs.declared.fault.Span.{Span}
use Rattle.soy_lexer.specs.CommandSegment.{number_after}
use Rattle.soy_lexer.specs.declared.token.Token.{Token}
use Rattle.soy_lexer.specs.LongestToken.{is_int}
use Rattle.soy_tree.specs.Formed.{is_case_word}
use Rattle.soy_tree.specs.declared.expr.Expr.{Expr}
use Rattle.expr_parser.specs.declared.operand.Operand.{Operand}
use Rattle.expr_parser.specs.declared.state.ExprState.{ExprState}
use Rattle.expr_parser.specs.ExprRuns.{expr_run, expr_run_from, expr_depths, expr_depths_from, expr_start}
use Rattle.expr_parser.specs.ExprSteps.{expr_next, expr_step, expr_depth, step_of, whole_expr}
use Rattle.expr_parser.specs.SpellsExpr.{SpellsExpr}
use Rattle.expr_parser.specs.SpellsType.{SpellsType}
use Rattle.expr_parser.specs.TypeRuns.{type_start}
use Rattle.expr_parser.specs.declared.type_frame.TypeOperand.{TypeOperand}
use Rattle.expr_parser.proofs.ExprExact.{SpellsExpr-whole_expr}
use Rattle.expr_parser.proofs.ExprMachine.{spelled_depths, next_is}
use Rattle.soy_parser.specs.declared.block.Block.{Block}
use Rattle.soy_parser.specs.declared.block.Block.TheVariants as block
use Rattle.soy_parser.specs.declared.block.CommandState.{CommandState}
use Rattle.soy_parser.specs.declared.block.Content.{Content}
use Rattle.soy_parser.specs.declared.block.Content.TheVariants as content
use Rattle.soy_parser.specs.declared.command.Middle.TheVariants as middle
use Rattle.soy_parser.specs.declared.command.CommandForm.TheVariants as says
use Rattle.soy_parser.specs.declared.head.Head.{Head}
use Rattle.soy_parser.specs.declared.head.Head.TheVariants as head
use Rattle.soy_parser.specs.declared.head.HeadKind.{HeadKind}
use Rattle.soy_parser.specs.declared.head.HeadKind.TheVariants as kind
use Rattle.soy_parser.specs.declared.spot.DottedUse.{DottedUse}
use Rattle.soy_parser.specs.declared.spot.DottedUse.TheVariants as dotted
use Rattle.soy_parser.specs.declared.spot.FileState.{FileState}
use Rattle.soy_parser.specs.declared.spot.Spot.{Spot}
use Rattle.soy_parser.specs.declared.spot.Spot.TheVariants as spot
use Rattle.soy_parser.specs.declared.spot.Use.{Use}
use Rattle.soy_parser.specs.declared.spot.Use.TheVariants as use_
use Rattle.soy_parser.specs.declared.terminal.CommandTerminal.{CommandTerminal}
use Rattle.soy_parser.specs.declared.terminal.CommandTerminal.TheVariants as terminal
use Rattle.soy_parser.specs.declared.terminal.CommandWord.{CommandWord}
use Rattle.soy_parser.specs.declared.terminal.CommandWord.TheVariants as word
use Rattle.soy_parser.specs.CommandSteps.{has_whole_tags}
use Rattle.soy_parser.specs.CommandTerminals.{command_terminal_of}
use Rattle.soy_parser.specs.Depth.{none_deep}
use Rattle.soy_parser.specs.TypeWords.{no_words}
use Rattle.soy_parser.specs.FileSteps.{stands, admits, admits_at, body_admits, message_admits, cases_admit, top_admits}
use Rattle.soy_parser.specs.FileSteps.{opens_if}
use Rattle.soy_parser.specs.FileSteps.{bare_expr, bare_opens, case_opens, print_opens, print_use, head_kind, head_of}
use Rattle.soy_parser.specs.FileSteps.{head_done}
use Rattle.soy_parser.specs.FileSteps.{opened_step, file_step, in_expr, next_value, dotted_step, dotted_head, if_word}
use Rattle.soy_parser.specs.FileSteps.{if_variable}
use Rattle.soy_parser.specs.FileSteps.{if_in, if_int, if_case_word, if_colon, template_param_step}
use Rattle.soy_parser.specs.FileSteps.{template_param_word_step}
use Rattle.soy_parser.specs.FileSteps.{template_step}
use Rattle.soy_parser.specs.FileSteps.{call_step, spot_depth, spot_word, for_in_step, let_colon_step, param_colon_step}
use Rattle.soy_parser.specs.FileSteps.{after_int_step, after_case_word_step}
use Rattle.soy_parser.specs.Heads.{no_attributes}
use Rattle.soy_parser.specs.SpellsHead.{SpellsHead, SpellsDotted, SpellsValues, SpellsInts, SpellsCaseWords, SpellsDot}
use Rattle.soy_parser.specs.SpellsHead.{SpellsRequired, SpellsVariables, bare_head, expr_head}
use Rattle.soy_parser.proofs.AttributesComplete.{in_at, FollowsHead, HasHead, has_attributes, if_then, none_append}
use Rattle.soy_parser.proofs.AttributesComplete.{plain_append}
use Rattle.soy_parser.proofs.OfFiles.FileRunning.{Leads, then_leads, step_leads}
use Rattle.soy_parser.proofs.OfHeads.HeadsComplete.{opened, HeadLeads, next_is_head, expr_head_leads, before_head, opens}
use Rattle.soy_parser.proofs.OfHeads.HeadsComplete.{WordBefore, word_leads}
use Rattle.soy_parser.proofs.OfHeads.HeadsComplete.{let_leads, param_leads, use_depth}
use Rattle.soy_parser.proofs.OfHeads.Seam.{comma_, colon_, dot_, expr_leads, whole_ends}
use Rattle.soy_parser.proofs.OfHeads.SeamComma.{ends_at_comma}
use Rattle.soy_parser.proofs.OfHeads.Starts.{plain_start}
use Rattle.soy_parser.proofs.OfHeads.TypeSeam.{type_head_leads}

-- a head of one token

bare_opened : (s : CommandState) (from : Span) (t : Token) (m : CommandTerminal) (h : Head) → bare_head m ≡ Some h →
    opened_step s from t m ≡ opens_if s from (head_kind h) (spot.Attributes h no_attributes)
bare_opened s from t terminal.At h e = absurd (cc e)
bare_opened s from t (terminal.Word word.Namespace) h e = absurd (cc e)
bare_opened s from t (terminal.Word word.Template) h e = absurd (cc e)
bare_opened s from t (terminal.Word word.Print) h e = absurd (cc e)
bare_opened s from t (terminal.Word word.If) h e = absurd (cc e)
bare_opened s from t (terminal.Word word.ElseIf) h e = absurd (cc e)
bare_opened s from t (terminal.Word word.Switch) h e = absurd (cc e)
bare_opened s from t (terminal.Word word.Plural) h e = absurd (cc e)
bare_opened s from t (terminal.Word word.Select) h e = absurd (cc e)
bare_opened s from t (terminal.Word word.Case) h e = absurd (cc e)
bare_opened s from t (terminal.Word word.For) h e = absurd (cc e)
bare_opened s from t (terminal.Word word.Let) h e = absurd (cc e)
bare_opened s from t (terminal.Word word.Call) h e = absurd (cc e)
bare_opened s from t (terminal.Word word.Param) h e = absurd (cc e)
bare_opened s from t m h e = ap (λ o. bare_opens s from o t) e

bare_leads : (s : CommandState) (from : Span) (t : Token) (h : Head) → bare_head (command_terminal_of t) ≡ Some h →
    admits s (head_kind h) ≡ true → HeadLeads s from (opened s from) (t ∷ []) (0 ∷ []) (false ∷ []) h
bare_leads s from t h e ok =
    let to = in_at s from (spot.Attributes h no_attributes) in
    record {
      to = to;
      leads = step_leads (length s.blocks) 0 false (opened s from) t to
          (bare_opened s from t (command_terminal_of t) h e
          ∙ opens s from (head_kind h) (spot.Attributes h no_attributes) ok)
          refl refl;
      has = has_attributes s from h no_attributes;
    }

-- kinds of which no block admits one

never : (admit : Block → HeadKind → Bool) (k : HeadKind) → ((b : Block) → admit b k ≡ false) → (bs : List Block) →
    top_admits admit bs k ≡ false
never admit k e [] = refl
never admit k e (b ∷ bs) = e b

not_both : (a b : Bool) → b ≡ false → (a && b) ≡ false
not_both true b e = e
not_both false b e = refl

clash : {b : Bool} → b ≡ false → b ≡ true → ⊥
clash e f = cc (e, f)

no_print : (b : Block) → message_admits b kind.Print ≡ false
no_print (block.Message m) = refl
no_print (block.PluralCase p values) = refl
no_print (block.SelectCase s values) = refl
no_print _ = refl

no_message_print : (b : Block) → message_admits b kind.MessagePrint ≡ false
no_message_print (block.Message m) = refl
no_message_print (block.PluralCase p values) = refl
no_message_print (block.SelectCase s values) = refl
no_message_print _ = refl

no_body_print : (b : Block) → body_admits b kind.MessagePrint ≡ false
no_body_print (block.Arm i when) = refl
no_body_print (block.Case s values) = refl
no_body_print _ = refl

no_case_print : (b : Block) → cases_admit b kind.MessagePrint ≡ false
no_case_print (block.Switch before start e) = refl
no_case_print (block.Plural e offset) = refl
no_case_print (block.Select e) = refl
no_case_print _ = refl

-- a print in a message is none in a body
message_print_alone : (k : Content) (bs : List Block) → admits_at k bs kind.MessagePrint ≡ true →
    admits_at k bs kind.Print ≡ false
message_print_alone content.White bs e = refl
message_print_alone (content.Templates n templates) bs e = refl
message_print_alone (content.Body nodes) bs e =
    absurd (clash (never body_admits kind.MessagePrint no_body_print bs) e)
message_print_alone (content.Arguments arguments) bs e = refl
message_print_alone content.BeforeCases bs e =
    absurd (clash (never cases_admit kind.MessagePrint no_case_print bs) e)
message_print_alone (content.Parts nodes white) bs e =
    not_both (has_whole_tags nodes) _ (never message_admits kind.Print no_print bs)
message_print_alone (content.Choice body) bs e = never message_admits kind.Print no_print bs

no_case : (b : Block) → message_admits b kind.Case ≡ false
no_case (block.Message m) = refl
no_case (block.PluralCase p values) = refl
no_case (block.SelectCase s values) = refl
no_case _ = refl

no_plural_case : (b : Block) → body_admits b kind.PluralCase ≡ false
no_plural_case (block.Arm i when) = refl
no_plural_case (block.Case s values) = refl
no_plural_case _ = refl

no_select_case : (b : Block) → body_admits b kind.SelectCase ≡ false
no_select_case (block.Arm i when) = refl
no_select_case (block.Case s values) = refl
no_select_case _ = refl

cases_plural : (bs : List Block) → top_admits cases_admit bs kind.PluralCase ≡ true
    → top_admits cases_admit bs kind.Case ≡ false
cases_plural (block.Switch before start e ∷ bs) h = absurd (cc h)
cases_plural (block.Plural e offset ∷ bs) h = refl
cases_plural (block.Select e ∷ bs) h = refl
cases_plural _ h = absurd (cc h)

cases_select : (bs : List Block) → top_admits cases_admit bs kind.SelectCase ≡ true →
    (top_admits cases_admit bs kind.Case ≡ false) × (top_admits cases_admit bs kind.PluralCase ≡ false)
cases_select (block.Switch before start e ∷ bs) h = absurd (cc h)
cases_select (block.Plural e offset ∷ bs) h = absurd (cc h)
cases_select (block.Select e ∷ bs) h = (refl, refl)
cases_select _ h = absurd (cc h)

message_select : (bs : List Block) → top_admits message_admits bs kind.SelectCase ≡ true →
    top_admits message_admits bs kind.PluralCase ≡ false
message_select (block.Message m ∷ bs) h = absurd (cc h)
message_select (block.PluralCase p values ∷ bs) h = absurd (cc h)
message_select (block.SelectCase s values ∷ bs) h = refl
message_select _ h = absurd (cc h)

second : (a b : Bool) → (a && b) ≡ true → b ≡ true
second true b e = e
second false b e = absurd (cc e)

-- a case is of one kind

plural_case_alone : (k : Content) (bs : List Block) → admits_at k bs kind.PluralCase ≡ true
    → admits_at k bs kind.Case ≡ false
plural_case_alone content.White bs e = refl
plural_case_alone (content.Templates n templates) bs e = refl
plural_case_alone (content.Body nodes) bs e = absurd (clash (never body_admits kind.PluralCase no_plural_case bs) e)
plural_case_alone (content.Arguments arguments) bs e = refl
plural_case_alone content.BeforeCases bs e = cases_plural bs e
plural_case_alone (content.Parts nodes white) bs e =
    not_both (has_whole_tags nodes) _ (never message_admits kind.Case no_case bs)
plural_case_alone (content.Choice body) bs e = never message_admits kind.Case no_case bs

select_case_alone : (k : Content) (bs : List Block) → admits_at k bs kind.SelectCase ≡ true →
    (admits_at k bs kind.Case ≡ false) × (admits_at k bs kind.PluralCase ≡ false)
select_case_alone content.White bs e = (refl, refl)
select_case_alone (content.Templates n templates) bs e = (refl, refl)
select_case_alone (content.Body nodes) bs e = absurd (clash (never body_admits kind.SelectCase no_select_case bs) e)
select_case_alone (content.Arguments arguments) bs e = (refl, refl)
select_case_alone content.BeforeCases bs e = cases_select bs e
select_case_alone (content.Parts nodes white) bs e = (
  not_both (has_whole_tags nodes) _ (never message_admits kind.Case no_case bs),
  not_both (has_whole_tags nodes) _ (message_select bs (second (has_whole_tags nodes) _ e)),
)
select_case_alone (content.Choice body) bs e = (never message_admits kind.Case no_case bs, message_select bs e)

printed_use : (s : CommandState) → admits s kind.Print ≡ true → print_use s ≡ Some use_.Print
printed_use s e =
    ap (λ b. if b then Some use_.Print else (if admits s kind.MessagePrint then Some use_.MessagePrint else None)) e

message_use : (s : CommandState) → admits s kind.MessagePrint ≡ true → print_use s ≡ Some use_.MessagePrint
message_use s e =
    ap (λ b. if b then Some use_.Print else (if admits s kind.MessagePrint then Some use_.MessagePrint else None))
    (message_print_alone s.content s.blocks e)
    ∙ ap (λ b. if b then Some use_.MessagePrint else None) e

-- an expression that begins a command

bare_run : (s : CommandState) (from : Span) (for_ : Use) (us : List Token) (r : ExprState) (x : Operand) →
    print_use s ≡ Some for_ → expr_run us expr_start ≡ Some r → whole_expr r ≡ Some x →
    Leads (length s.blocks) (opened s from) us (expr_depths us expr_start) (no_words us)
    (in_at s from (spot.Expr for_ r))
bare_run s from for_ [] r x u e w = absurd (nothing (subst (λ k. whole_expr k ≡ Some x) (sym (same e)) w))
  where
    unwrap : Option ExprState → ExprState
    unwrap None = r
    unwrap (Some k) = k

    same : Some expr_start ≡ Some r → expr_start ≡ r
    same q = ap unwrap q

    nothing : None ≡ Some x → ⊥
    nothing q = cc q
bare_run s from for_ (t ∷ us) r x u e w = over (expr_next expr_start t) refl e
  where
    over : (to : Option ExprState) → expr_next expr_start t ≡ to → expr_run_from (expr_run us) to ≡ Some r →
        Leads (length s.blocks) (opened s from) (t ∷ us) (expr_depths_from (expr_depths us) to) (no_words (t ∷ us))
        (in_at s from (spot.Expr for_ r))
    over None q h = absurd (cc h)
    over (Some m) q h =
        let plain = plain_start t m q in
        then_leads
        (step_leads (length s.blocks) (expr_depth m) false (opened s from) t (in_at s from (spot.Expr for_ m))
        (plain.is s from t
        ∙ (ap (λ o. bare_expr s from o (expr_step expr_start t)) u
        ∙ ap (bare_expr s from (Some for_)) (next_is expr_start.expected expr_start.frames t
        ∙ ap (λ o. step_of o (whole_expr expr_start)) q))) refl refl)
        (expr_leads s from for_ us m r h)

bare_expr_leads : (s : CommandState) (from : Span) (for_ : Use) (us : List Token) (ds : List ℕ) (x : Operand) →
    print_use s ≡ Some for_ → SpellsExpr 9 us ds x → HeadLeads s from (opened s from) us ds (no_words us)
    (head_of for_ x)
bare_expr_leads s from for_ us ds x u p =
    let i = SpellsExpr-whole_expr us ds x p in
    record {
      to = in_at s from (spot.Expr for_ i.state);
      leads = subst
          (λ l. Leads (length s.blocks) (opened s from) us l (no_words us) (in_at s from (spot.Expr for_ i.state)))
          (sym (spelled_depths us ds x p)) (bare_run s from for_ us i.state x u i.goes.runs i.finishes);
      has = record {
        commands_are = refl;
        takes = λ t f. ap (in_expr s from for_ t) (whole_ends i.state t x i.finishes f)
            ∙ next_is_head s from for_ x t (command_terminal_of t) f;
      };
    }

-- the word `print` before it
print_word_leads : (s : CommandState) (from : Span) (for_ : Use) (t : Token) (us : List Token) (ds : List ℕ)
    (x : Operand) →
    command_terminal_of t ≡ terminal.Word word.Print → print_use s ≡ Some for_ → SpellsExpr 9 us ds x →
    HeadLeads s from (opened s from) (t ∷ us) (0 ∷ ds) (false ∷ no_words us) (head_of for_ x)
print_word_leads s from for_ t us ds x ht u p =
    before_head s from (opened s from) (spot.Expr for_ expr_start) t us ds (no_words us) (head_of for_ x)
    (use_depth s from for_ t (ap (opened_step s from t) ht ∙ ap (print_opens s from) u))
    (expr_head_leads s from for_ us ds x p)

-- a word and an expression

expression_leads : (s : CommandState) (from : Span) (t : Token) (us : List Token) (ds : List ℕ) (x : Operand) (h : Head)
    (m : CommandTerminal) → command_terminal_of t ≡ m → SpellsExpr 9 us ds x → expr_head m x.expr ≡ Some h →
    admits s (head_kind h) ≡ true → HeadLeads s from (opened s from) (t ∷ us) (0 ∷ ds) (false ∷ no_words us) h
expression_leads s from t us ds x h m ht p e ok = over m ht e
  where
    unwrap : Option Head → Head
    unwrap None = h
    unwrap (Some k) = k

    moved : (k : Head) → Some k ≡ Some h →
        (admits s (head_kind k) ≡ true → HeadLeads s from (opened s from) (t ∷ us) (0 ∷ ds) (false ∷ no_words us) k) →
        HeadLeads s from (opened s from) (t ∷ us) (0 ∷ ds) (false ∷ no_words us) h
    moved k q f =
        let same : k ≡ h = ap unwrap q in
        subst (HeadLeads s from (opened s from) (t ∷ us) (0 ∷ ds) (false ∷ no_words us)) same
        (f (subst (λ g. admits s (head_kind g) ≡ true) (sym same) ok))

    before : (for_ : Use) (k : HeadKind) (g : CommandTerminal) → command_terminal_of t ≡ g → WordBefore g for_ k →
        admits s k ≡ true → HeadLeads s from (opened s from) (t ∷ us) (0 ∷ ds) (false ∷ no_words us) (head_of for_ x)
    before for_ k g q w a = word_leads s from t us ds x for_ k (subst (λ g. WordBefore g for_ k) (sym q) w) a p

    over : (g : CommandTerminal) → command_terminal_of t ≡ g → expr_head g x.expr ≡ Some h →
        HeadLeads s from (opened s from) (t ∷ us) (0 ∷ ds) (false ∷ no_words us) h
    over (terminal.Word word.Print) q f =
        moved (head_of use_.Print x) f (λ a. print_word_leads s from use_.Print t us ds x q (printed_use s a) p)
    over (terminal.Word word.If) q f = moved (head_of use_.If x) f (λ a. before use_.If kind.If _ q WordBefore.if_ a)
    over (terminal.Word word.ElseIf) q f =
        moved (head_of use_.ElseIf x) f (λ a. before use_.ElseIf kind.ElseIf _ q WordBefore.else_if_ a)
    over (terminal.Word word.Switch) q f =
        moved (head_of use_.Switch x) f (λ a. before use_.Switch kind.Switch _ q WordBefore.switch_ a)
    over (terminal.Word word.Plural) q f =
        moved (head_of use_.Plural x) f (λ a. before use_.Plural kind.Plural _ q WordBefore.plural_ a)
    over (terminal.Word word.Select) q f =
        moved (head_of use_.Select x) f (λ a. before use_.Select kind.Select _ q WordBefore.select_ a)
    over _ q f = absurd (cc f)

-- tokens outside of expressions and types
pub none_then : {n : ℕ} {a m b : FileState} {ts us : List Token} → Leads n a ts (none_deep ts) (no_words ts) m →
    Leads n m us (none_deep us) (no_words us) b → Leads n a (ts ++ us) (none_deep (ts ++ us)) (no_words (ts ++ us)) b
none_then {n} {a} {m} {b} {ts} {us} p q =
    subst (λ l. Leads n a (ts ++ us) l (no_words (ts ++ us)) b) (sym (none_append ts us))
    (subst (λ l. Leads n a (ts ++ us) (none_deep ts ++ none_deep us) l b) (sym (plain_append ts us)) (then_leads p q))

-- the values of a case

pub record ValuesLead (s : CommandState) (from : Span) (ts : List Token) (ds : List ℕ) (values : List Expr) : Type 0
  where
    pub before : List Expr
    pub last : Operand
    pub state : ExprState
    pub leads : Leads (length s.blocks) (in_at s from (spot.Expr (use_.Case []) expr_start)) ts ds (no_words ts)
        (in_at s from (spot.Expr (use_.Case before) state))
    pub whole : whole_expr state ≡ Some last
    pub are : before ++ (last.expr ∷ []) ≡ values

value_leads : (s : CommandState) (from : Span) (for_ : Use) (us : List Token) (ds : List ℕ) (x : Operand)
    (r : ExprState) →
    SpellsExpr 9 us ds x → expr_run us expr_start ≡ Some r →
    Leads (length s.blocks) (in_at s from (spot.Expr for_ expr_start)) us ds (no_words us)
    (in_at s from (spot.Expr for_ r))
value_leads s from for_ us ds x r p e =
    subst (λ l. Leads (length s.blocks) (in_at s from (spot.Expr for_ expr_start)) us l (no_words us)
    (in_at s from (spot.Expr for_ r))) (sym (spelled_depths us ds x p)) (expr_leads s from for_ us expr_start r e)

values_lead : (s : CommandState) (from : Span) (ts : List Token) (ds : List ℕ) (values : List Expr) →
    SpellsValues ts ds values → ValuesLead s from ts ds values
values_lead s from _ _ _ (SpellsValues.one_ ts ds x p) =
    let i = SpellsExpr-whole_expr ts ds x p in
    record {
      before = [];
      last = x;
      state = i.state;
      leads = value_leads s from (use_.Case []) ts ds x i.state p i.goes.runs;
      whole = i.finishes;
      are = refl;
    }
values_lead s from _ _ _ (SpellsValues.more_ ts us ds es values comma x w hc p) =
    let g = values_lead s from ts ds values w in
    let i = SpellsExpr-whole_expr us es x p in
    let at_ = in_at s from (spot.Expr (use_.Case values) expr_start) in
    let step : file_step (in_at s from (spot.Expr (use_.Case g.before) g.state)) comma ≡ Some at_ =
    ap (in_expr s from (use_.Case g.before) comma) (ends_at_comma g.state comma g.last g.whole hc)
    ∙ (ap (next_value s from (use_.Case g.before) g.last comma) hc
    ∙ ap (λ l. stands s from (spot.Expr (use_.Case l) expr_start)) g.are) in
    record {
      before = values;
      last = x;
      state = i.state;
      leads = subst (λ l. Leads (length s.blocks) (in_at s from (spot.Expr (use_.Case []) expr_start))
          (ts ++ (comma ∷ us))
          (ds ++ (0 ∷ es)) l (in_at s from (spot.Expr (use_.Case values) i.state)))
          (sym (plain_append ts (comma ∷ us)))
          (then_leads g.leads (then_leads {ts = comma ∷ []} {ds = 0 ∷ []} {ws = false ∷ []}
          (step_leads (length s.blocks) 0 false (in_at s from (spot.Expr (use_.Case g.before) g.state)) comma at_ step
          refl refl)
          (value_leads s from (use_.Case values) us es x i.state p i.goes.runs)));
      whole = i.finishes;
      are = refl;
    }

case_opened : (s : CommandState) (from : Span) → admits s kind.Case ≡ true →
    case_opens s from ≡ stands s from (spot.Expr (use_.Case []) expr_start)
case_opened s from e =
    ap (λ b. if b then stands s from (spot.Expr (use_.Case []) expr_start) else
    (if admits s kind.PluralCase then stands s from (spot.IntValue []) else
    opens_if s from kind.SelectCase (spot.CaseWord []))) e

-- where no case of a switch is admitted
other_case : (s : CommandState) (from : Span) → admits s kind.Case ≡ false → case_opens s from ≡
    (if admits s kind.PluralCase then stands s from (spot.IntValue []) else
    opens_if s from kind.SelectCase (spot.CaseWord []))
other_case s from e =
    ap (λ b. if b then stands s from (spot.Expr (use_.Case []) expr_start) else
    (if admits s kind.PluralCase then stands s from (spot.IntValue []) else
    opens_if s from kind.SelectCase (spot.CaseWord []))) e

plural_case_opened : (s : CommandState) (from : Span) → admits s kind.PluralCase ≡ true →
    case_opens s from ≡ stands s from (spot.IntValue [])
plural_case_opened s from e =
    other_case s from (plural_case_alone s.content s.blocks e)
    ∙ ap (λ b. if b then stands s from (spot.IntValue []) else opens_if s from kind.SelectCase (spot.CaseWord [])) e

select_case_opened : (s : CommandState) (from : Span) → admits s kind.SelectCase ≡ true →
    case_opens s from ≡ stands s from (spot.CaseWord [])
select_case_opened s from e =
    let a = select_case_alone s.content s.blocks e in
    other_case s from a.0
    ∙ (ap (λ b. if b then stands s from (spot.IntValue []) else opens_if s from kind.SelectCase (spot.CaseWord [])) a.1
    ∙ opens s from kind.SelectCase (spot.CaseWord []) e)

-- the word of a head, from which further tokens lead to its end
from_word : (s : CommandState) (from : Span) (t : Token) (m : CommandTerminal) (at : Spot) (to : Option FileState) →
    command_terminal_of t ≡ m → opened_step s from t m ≡ to → to ≡ stands s from at →
    file_step (opened s from) t ≡ Some (in_at s from at)
from_word s from t m at to ht e f = ap (opened_step s from t) ht ∙ (e ∙ f)

case_leads : (s : CommandState) (from : Span) (t : Token) (us : List Token) (ds : List ℕ) (values : List Expr) →
    command_terminal_of t ≡ terminal.Word word.Case → admits s kind.Case ≡ true → SpellsValues us ds values →
    HeadLeads s from (opened s from) (t ∷ us) (0 ∷ ds) (false ∷ no_words us)
    (head.Whole (says.GoesOn (middle.Case values)))
case_leads s from t us ds values ht ok p =
    let g = values_lead s from us ds values p in
    let to = in_at s from (spot.Expr (use_.Case g.before) g.state) in
    record {
      to = to;
      leads = then_leads {ts = t ∷ []} {ds = 0 ∷ []} {ws = false ∷ []}
          (use_depth s from (use_.Case []) t
          (from_word s from t (terminal.Word word.Case) _ _ ht refl (case_opened s from ok)))
          g.leads;
      has = record {
        commands_are = refl;
        takes = λ z f. ap (in_expr s from (use_.Case g.before) z) (whole_ends g.state z g.last g.whole f)
            ∙ (next_is_head s from (use_.Case g.before) g.last z (command_terminal_of z) f
            ∙ ap (λ l. head_done s from (head.Whole (says.GoesOn (middle.Case l))) z) g.are);
      };
    }

-- a token in a command that is no part of an expression or type
token_leads : (s : CommandState) (from : Span) (a b : Spot) (t : Token) →
    file_step (in_at s from a) t ≡ Some (in_at s from b) →
    length s.blocks + spot_depth b ≡ length s.blocks + 0 → spot_word b ≡ false →
    Leads (length s.blocks) (in_at s from a) (t ∷ []) (0 ∷ []) (false ∷ []) (in_at s from b)
token_leads s from a b t e deep plain = step_leads (length s.blocks) 0 false (in_at s from a) t (in_at s from b) e
    deep plain

opened_leads : (s : CommandState) (from : Span) (b : Spot) (t : Token) →
    file_step (opened s from) t ≡ Some (in_at s from b) →
    length s.blocks + spot_depth b ≡ length s.blocks + 0 → spot_word b ≡ false →
    Leads (length s.blocks) (opened s from) (t ∷ []) (0 ∷ []) (false ∷ []) (in_at s from b)
opened_leads s from b t e deep plain = step_leads (length s.blocks) 0 false (opened s from) t (in_at s from b) e deep
    plain

-- the ints of a plural's case, and the words of a select's

int_taken : (m : CommandTerminal) (text : List ℕ) (to : Option FileState) → m ≡ terminal.Int → is_int text ≡ true →
    if_int m text to ≡ to
int_taken m text to h w = ap (λ k. if_int k text to) h ∙ if_then (is_int text) to w

ints_lead : (s : CommandState) (from : Span) (ts : List Token) (values : List ℤ) → SpellsInts ts values →
    Leads (length s.blocks) (in_at s from (spot.IntValue [])) ts (none_deep ts) (no_words ts)
    (in_at s from (spot.AfterInt values))
ints_lead s from _ _ (SpellsInts.one_ t h w) =
    let next = spot.AfterInt (pos (number_after 0 t.text) ∷ []) in
    token_leads s from (spot.IntValue []) next t (int_taken (command_terminal_of t) t.text (stands s from next) h w)
    refl refl
ints_lead s from _ _ (SpellsInts.more_ ts values comma t p hc h w) =
    let next = spot.AfterInt (values ++ (pos (number_after 0 t.text) ∷ [])) in
    none_then {us = comma ∷ (t ∷ [])} (ints_lead s from ts values p)
    (then_leads {ts = comma ∷ []} {ds = 0 ∷ []} {ws = false ∷ []}
    (token_leads s from (spot.AfterInt values) (spot.IntValue values) comma
    (ap (after_int_step s from values comma) hc) refl refl)
    (token_leads s from (spot.IntValue values) next t
    (int_taken (command_terminal_of t) t.text (stands s from next) h w) refl refl))

after_int_takes : (s : CommandState) (from : Span) (values : List ℤ) (t : Token) (m : CommandTerminal) → FollowsHead m →
    after_int_step s from values t m ≡ head_done s from (head.Whole (says.GoesOn (middle.PluralCase values))) t
after_int_takes s from values t terminal.Comma f = absurd (comma_ f)
after_int_takes s from values t m f = refl

plural_case_leads : (s : CommandState) (from : Span) (t : Token) (us : List Token) (values : List ℤ) →
    command_terminal_of t ≡ terminal.Word word.Case → admits s kind.PluralCase ≡ true → SpellsInts us values →
    HeadLeads s from (opened s from) (t ∷ us) (none_deep (t ∷ us)) (no_words (t ∷ us))
    (head.Whole (says.GoesOn (middle.PluralCase values)))
plural_case_leads s from t us values ht ok p = record {
  to = in_at s from (spot.AfterInt values);
  leads = then_leads {ts = t ∷ []} {ds = 0 ∷ []} {ws = false ∷ []}
      (opened_leads s from (spot.IntValue []) t
      (from_word s from t (terminal.Word word.Case) _ _ ht refl (plural_case_opened s from ok)) refl refl)
      (ints_lead s from us values p);
  has = record { commands_are = refl; takes = λ z f. after_int_takes s from values z (command_terminal_of z) f };
}

case_word_taken : (m : CommandTerminal) (text : List ℕ) (to : Option FileState) → m ≡ terminal.Str
    → is_case_word text ≡ true →
    if_case_word m text to ≡ to
case_word_taken m text to h w = ap (λ k. if_case_word k text to) h ∙ if_then (is_case_word text) to w

case_words_lead : (s : CommandState) (from : Span) (ts : List Token) (values : List (List ℕ))
    → SpellsCaseWords ts values →
    Leads (length s.blocks) (in_at s from (spot.CaseWord [])) ts (none_deep ts) (no_words ts)
    (in_at s from (spot.AfterCaseWord values))
case_words_lead s from _ _ (SpellsCaseWords.one_ t h w) =
    token_leads s from (spot.CaseWord []) (spot.AfterCaseWord (t.text ∷ [])) t
    (case_word_taken (command_terminal_of t) t.text (stands s from (spot.AfterCaseWord (t.text ∷ []))) h w) refl refl
case_words_lead s from _ _ (SpellsCaseWords.more_ ts values comma t p hc h w) =
    let next = spot.AfterCaseWord (values ++ (t.text ∷ [])) in
    none_then {us = comma ∷ (t ∷ [])} (case_words_lead s from ts values p)
    (then_leads {ts = comma ∷ []} {ds = 0 ∷ []} {ws = false ∷ []}
    (token_leads s from (spot.AfterCaseWord values) (spot.CaseWord values) comma
    (ap (after_case_word_step s from values comma) hc) refl refl)
    (token_leads s from (spot.CaseWord values) next t
    (case_word_taken (command_terminal_of t) t.text (stands s from next) h w) refl refl))

after_case_word_takes : (s : CommandState) (from : Span) (values : List (List ℕ)) (t : Token) (m : CommandTerminal) →
    FollowsHead m →
    after_case_word_step s from values t m ≡ head_done s from (head.Whole (says.GoesOn (middle.SelectCase values))) t
after_case_word_takes s from values t terminal.Comma f = absurd (comma_ f)
after_case_word_takes s from values t m f = refl

select_case_leads : (s : CommandState) (from : Span) (t : Token) (us : List Token) (values : List (List ℕ)) →
    command_terminal_of t ≡ terminal.Word word.Case → admits s kind.SelectCase ≡ true → SpellsCaseWords us values →
    HeadLeads s from (opened s from) (t ∷ us) (none_deep (t ∷ us)) (no_words (t ∷ us))
    (head.Whole (says.GoesOn (middle.SelectCase values)))
select_case_leads s from t us values ht ok p = record {
  to = in_at s from (spot.AfterCaseWord values);
  leads = then_leads {ts = t ∷ []} {ds = 0 ∷ []} {ws = false ∷ []}
      (opened_leads s from (spot.CaseWord []) t
      (from_word s from t (terminal.Word word.Case) _ _ ht refl (select_case_opened s from ok)) refl refl)
      (case_words_lead s from us values p);
  has = record { commands_are = refl; takes = λ z f. after_case_word_takes s from values z (command_terminal_of z) f };
}

-- a loop

in_leads : (s : CommandState) (from : Span) (at : Spot) (n : List ℕ) (index : Option (List ℕ)) (i : Token)
    (us : List Token)
    (ds : List ℕ) (x : Operand) →
    file_step (in_at s from at) i ≡ Some (in_at s from (spot.Expr (use_.For n index) expr_start))
    → SpellsExpr 9 us ds x →
    HeadLeads s from (in_at s from at) (i ∷ us) (0 ∷ ds) (no_words (i ∷ us)) (head_of (use_.For n index) x)
in_leads s from at n index i us ds x e p =
    before_head s from (in_at s from at) (spot.Expr (use_.For n index) expr_start) i us ds (no_words us) _
    (token_leads s from at (spot.Expr (use_.For n index) expr_start) i e refl refl)
    (expr_head_leads s from (use_.For n index) us ds x p)

for_leads : (s : CommandState) (from : Span) (t i : Token) (ts us : List Token) (ds : List ℕ) (n : List ℕ)
    (index : Option (List ℕ)) (x : Operand) → command_terminal_of t ≡ terminal.Word word.For
    → admits s kind.For ≡ true →
    SpellsVariables ts n index → command_terminal_of i ≡ terminal.Word word.In → SpellsExpr 9 us ds x →
    HeadLeads s from (opened s from) (t ∷ (ts ++ (i ∷ us))) (none_deep (t ∷ ts) ++ (0 ∷ ds))
    (no_words (t ∷ (ts ++ (i ∷ us))))
    (head_of (use_.For n index) x)
for_leads s from t i _ us ds _ _ x ht ok (SpellsVariables.one_ v hv) hi p =
    before_head s from (opened s from) spot.For t (v ∷ (i ∷ us)) (0 ∷ (0 ∷ ds)) (no_words (v ∷ (i ∷ us))) _
    (opened_leads s from spot.For t
    (from_word s from t (terminal.Word word.For) _ _ ht refl (opens s from kind.For spot.For ok))
    refl refl)
    (before_head s from (in_at s from spot.For) (spot.ForIn v.text) v (i ∷ us) (0 ∷ ds) (no_words (i ∷ us)) _
    (token_leads s from spot.For (spot.ForIn v.text) v
    (ap (λ m. if_variable m (stands s from (spot.ForIn v.text))) hv) refl refl)
    (in_leads s from (spot.ForIn v.text) v.text None i us ds x (ap (for_in_step s from v.text) hi) p))
for_leads s from t i _ us ds _ _ x ht ok (SpellsVariables.two_ v comma j hv hc hj) hi p =
    before_head s from (opened s from) spot.For t (v ∷ (comma ∷ (j ∷ (i ∷ us)))) (0 ∷ (0 ∷ (0 ∷ (0 ∷ ds))))
    (no_words (v ∷ (comma ∷ (j ∷ (i ∷ us))))) _
    (opened_leads s from spot.For t
    (from_word s from t (terminal.Word word.For) _ _ ht refl (opens s from kind.For spot.For ok))
    refl refl)
    (before_head s from (in_at s from spot.For) (spot.ForIn v.text) v (comma ∷ (j ∷ (i ∷ us))) (0 ∷ (0 ∷ (0 ∷ ds)))
    (no_words (comma ∷ (j ∷ (i ∷ us)))) _
    (token_leads s from spot.For (spot.ForIn v.text) v
    (ap (λ m. if_variable m (stands s from (spot.ForIn v.text))) hv) refl refl)
    (before_head s from (in_at s from (spot.ForIn v.text)) (spot.ForIndex v.text) comma (j ∷ (i ∷ us)) (0 ∷ (0 ∷ ds))
    (no_words (j ∷ (i ∷ us))) _
    (token_leads s from (spot.ForIn v.text) (spot.ForIndex v.text) comma (ap (for_in_step s from v.text) hc) refl refl)
    (before_head s from (in_at s from (spot.ForIndex v.text)) (spot.ForIndexIn v.text j.text) j (i ∷ us) (0 ∷ ds)
    (no_words (i ∷ us)) _
    (token_leads s from (spot.ForIndex v.text) (spot.ForIndexIn v.text j.text) j
    (ap (λ m. if_variable m (stands s from (spot.ForIndexIn v.text j.text))) hj) refl refl)
    (in_leads s from (spot.ForIndexIn v.text j.text) v.text (Some j.text) i us ds x
    (ap (λ m. if_in m (stands s from (spot.Expr (use_.For v.text (Some j.text)) expr_start))) hi) p))))

-- the names of a let and a param with a block

let_takes : (s : CommandState) (from : Span) (n : List ℕ) (t : Token) (m : CommandTerminal) → FollowsHead m →
    let_colon_step s from n t m ≡ head_done s from (head.Let n) t
let_takes s from n t terminal.Colon f = absurd (colon_ f)
let_takes s from n t m f = refl

let_block_leads : (s : CommandState) (from : Span) (t v : Token) → command_terminal_of t ≡ terminal.Word word.Let →
    command_terminal_of v ≡ terminal.Variable → admits s kind.Let ≡ true →
    HeadLeads s from (opened s from) (t ∷ (v ∷ [])) (0 ∷ (0 ∷ [])) (false ∷ (false ∷ [])) (head.Let v.text)
let_block_leads s from t v ht hv ok = record {
  to = in_at s from (spot.LetColon v.text);
  leads = then_leads {ts = t ∷ []} {ds = 0 ∷ []} {ws = false ∷ []}
      (opened_leads s from spot.Let t
      (from_word s from t (terminal.Word word.Let) _ _ ht refl (opens s from kind.Let spot.Let ok))
      refl refl)
      (token_leads s from spot.Let (spot.LetColon v.text) v
      (ap (λ m. if_variable m (stands s from (spot.LetColon v.text))) hv) refl refl);
  has = record { commands_are = refl; takes = λ z f. let_takes s from v.text z (command_terminal_of z) f };
}

param_takes : (s : CommandState) (from : Span) (n : List ℕ) (t : Token) (m : CommandTerminal) → FollowsHead m →
    param_colon_step s from n t m ≡ head_done s from (head.Param n) t
param_takes s from n t terminal.Colon f = absurd (colon_ f)
param_takes s from n t m f = refl

param_block_leads : (s : CommandState) (from : Span) (t n : Token) (w : CommandWord) →
    command_terminal_of t ≡ terminal.Word word.Param → command_terminal_of n ≡ terminal.Word w
    → admits s kind.Param ≡ true →
    HeadLeads s from (opened s from) (t ∷ (n ∷ [])) (0 ∷ (0 ∷ [])) (false ∷ (false ∷ [])) (head.Param n.text)
param_block_leads s from t n w ht hn ok = record {
  to = in_at s from (spot.ParamColon n.text);
  leads = then_leads {ts = t ∷ []} {ds = 0 ∷ []} {ws = false ∷ []}
      (opened_leads s from spot.Param t
      (from_word s from t (terminal.Word word.Param) _ _ ht refl (opens s from kind.Param spot.Param ok)) refl refl)
      (token_leads s from spot.Param (spot.ParamColon n.text) n
      (ap (λ m. if_word m (stands s from (spot.ParamColon n.text))) hn) refl refl);
  has = record { commands_are = refl; takes = λ z f. param_takes s from n.text z (command_terminal_of z) f };
}

-- names joined by dots

dotted_leads : (s : CommandState) (from : Span) (for_ : DottedUse) (at : Spot) →
    ((t : Token) (w : CommandWord) → command_terminal_of t ≡ terminal.Word w →
    file_step (in_at s from at) t ≡ Some (in_at s from (spot.Dotted for_ t.text))) →
    (ts : List Token) (text : List ℕ) → SpellsDotted ts text →
    Leads (length s.blocks) (in_at s from at) ts (none_deep ts) (no_words ts) (in_at s from (spot.Dotted for_ text))
dotted_leads s from for_ at first _ _ (SpellsDotted.one_ t w h) =
    token_leads s from at (spot.Dotted for_ t.text) t (first t w h) refl refl
dotted_leads s from for_ at first _ _ (SpellsDotted.more_ ts text dot t w p hd h) =
    let next = spot.Dotted for_ (text ++ (46 ∷ t.text)) in
    let after_dot = spot.DottedName for_ (text ++ (46 ∷ [])) in
    none_then {us = dot ∷ (t ∷ [])} (dotted_leads s from for_ at first ts text p)
    (then_leads {ts = dot ∷ []} {ds = 0 ∷ []} {ws = false ∷ []}
    (token_leads s from (spot.Dotted for_ text) after_dot dot (ap (dotted_step s from for_ text dot) hd) refl refl)
    (token_leads s from after_dot next t
    (ap (λ m. if_word m (stands s from (spot.Dotted for_ ((text ++ (46 ∷ [])) ++ t.text)))) h
    ∙ ap (λ l. stands s from (spot.Dotted for_ l)) (append_assoc text (46 ∷ []) t.text)) refl refl))

dotted_takes : (s : CommandState) (from : Span) (for_ : DottedUse) (text : List ℕ) (t : Token) (m : CommandTerminal) →
    FollowsHead m → dotted_step s from for_ text t m ≡ head_done s from (dotted_head for_ text) t
dotted_takes s from for_ text t terminal.Dot f = absurd (dot_ f)
dotted_takes s from for_ text t m f = refl

has_dotted : (s : CommandState) (from : Span) (for_ : DottedUse) (text : List ℕ) →
    HasHead s from (dotted_head for_ text) no_attributes (in_at s from (spot.Dotted for_ text))
has_dotted s from for_ text =
    record { commands_are = refl; takes = λ z f. dotted_takes s from for_ text z (command_terminal_of z) f }

after_dot_first : (s : CommandState) (from : Span) (for_ : DottedUse) (t : Token) (w : CommandWord) →
    command_terminal_of t ≡ terminal.Word w →
    file_step (in_at s from (spot.DottedName for_ [])) t ≡ Some (in_at s from (spot.Dotted for_ t.text))
after_dot_first s from for_ t w h = ap (λ m. if_word m (stands s from (spot.Dotted for_ t.text))) h

namespace_leads : (s : CommandState) (from : Span) (t : Token) (ts : List Token) (n : List ℕ) →
    command_terminal_of t ≡ terminal.Word word.Namespace → admits s kind.Namespace ≡ true → SpellsDotted ts n →
    HeadLeads s from (opened s from) (t ∷ ts) (none_deep (t ∷ ts)) (no_words (t ∷ ts)) (head.Whole (says.Namespace n))
namespace_leads s from t ts n ht ok p = record {
  to = in_at s from (spot.Dotted dotted.Namespace n);
  leads = then_leads {ts = t ∷ []} {ds = 0 ∷ []} {ws = false ∷ []}
      (opened_leads s from (spot.DottedName dotted.Namespace []) t
      (from_word s from t (terminal.Word word.Namespace) _ _ ht refl (opens s from kind.Namespace _ ok)) refl refl)
      (dotted_leads s from dotted.Namespace (spot.DottedName dotted.Namespace [])
      (after_dot_first s from dotted.Namespace) ts n p);
  has = has_dotted s from dotted.Namespace n;
}

call_leads : (s : CommandState) (from : Span) (t : Token) (ts us : List Token) (n : List ℕ) →
    command_terminal_of t ≡ terminal.Word word.Call → admits s kind.Call ≡ true → SpellsDot ts → SpellsDotted us n →
    HeadLeads s from (opened s from) (t ∷ (ts ++ us)) (none_deep (t ∷ (ts ++ us))) (no_words (t ∷ (ts ++ us)))
    (head.Call n)
call_leads s from t _ us n ht ok SpellsDot.without_ p = record {
  to = in_at s from (spot.Dotted dotted.Call n);
  leads = then_leads {ts = t ∷ []} {ds = 0 ∷ []} {ws = false ∷ []}
      (opened_leads s from spot.Call t
      (from_word s from t (terminal.Word word.Call) _ _ ht refl (opens s from kind.Call _ ok)) refl refl)
      (dotted_leads s from dotted.Call spot.Call (λ v w h. ap (call_step s from v) h) us n p);
  has = has_dotted s from dotted.Call n;
}
call_leads s from t _ us n ht ok (SpellsDot.with_ d hd) p = record {
  to = in_at s from (spot.Dotted dotted.Call n);
  leads = then_leads {ts = t ∷ []} {ds = 0 ∷ []} {ws = false ∷ []}
      (opened_leads s from spot.Call t
      (from_word s from t (terminal.Word word.Call) _ _ ht refl (opens s from kind.Call _ ok)) refl refl)
      (then_leads {ts = d ∷ []} {ds = 0 ∷ []} {ws = false ∷ []}
      (token_leads s from spot.Call (spot.DottedName dotted.Call []) d (ap (call_step s from d) hd) refl refl)
      (dotted_leads s from dotted.Call (spot.DottedName dotted.Call []) (after_dot_first s from dotted.Call) us n p));
  has = has_dotted s from dotted.Call n;
}

template_leads : (s : CommandState) (from : Span) (t n : Token) (w : CommandWord) (ts : List Token) →
    command_terminal_of t ≡ terminal.Word word.Template → admits s kind.Template ≡ true → SpellsDot ts →
    command_terminal_of n ≡ terminal.Word w →
    HeadLeads s from (opened s from) (t ∷ (ts ++ (n ∷ []))) (none_deep (t ∷ (ts ++ (n ∷ []))))
    (no_words (t ∷ (ts ++ (n ∷ [])))) (head.Template n.text)
template_leads s from t n w _ ht ok SpellsDot.without_ hn =
    let at = spot.Attributes (head.Template n.text) no_attributes in
    record {
      to = in_at s from at;
      leads = then_leads {ts = t ∷ []} {ds = 0 ∷ []} {ws = false ∷ []}
          (opened_leads s from spot.Template t
          (from_word s from t (terminal.Word word.Template) _ _ ht refl (opens s from kind.Template _ ok)) refl refl)
          (token_leads s from spot.Template at n (ap (template_step s from n) hn) refl refl);
      has = has_attributes s from (head.Template n.text) no_attributes;
    }
template_leads s from t n w _ ht ok (SpellsDot.with_ d hd) hn =
    let at = spot.Attributes (head.Template n.text) no_attributes in
    record {
      to = in_at s from at;
      leads = then_leads {ts = t ∷ []} {ds = 0 ∷ []} {ws = false ∷ []}
          (opened_leads s from spot.Template t
          (from_word s from t (terminal.Word word.Template) _ _ ht refl (opens s from kind.Template _ ok)) refl refl)
          (then_leads {ts = d ∷ []} {ds = 0 ∷ []} {ws = false ∷ []}
          (token_leads s from spot.Template spot.TemplateName d (ap (template_step s from d) hd) refl refl)
          (token_leads s from spot.TemplateName at n (ap (λ m. if_word m (stands s from at)) hn) refl refl));
      has = has_attributes s from (head.Template n.text) no_attributes;
    }

-- a parameter of a template

template_param_leads : (s : CommandState) (from : Span) (sign t n colon : Token) (w : CommandWord) (ts us : List Token)
    (ds : List ℕ)
    (ws : List Bool) (required : Bool) (x : TypeOperand) → command_terminal_of sign ≡ terminal.At →
    command_terminal_of t ≡ terminal.Word word.Param → SpellsRequired ts required
    → command_terminal_of n ≡ terminal.Word w →
    command_terminal_of colon ≡ terminal.Colon → SpellsType us ds ws x → admits s kind.TemplateParam ≡ true →
    HeadLeads s from (opened s from) (sign ∷ (t ∷ (ts ++ (n ∷ (colon ∷ us)))))
    (none_deep (sign ∷ (t ∷ ts)) ++ (0 ∷ (0 ∷ ds))) (no_words (sign ∷ (t ∷ ts)) ++ (false ∷ (false ∷ ws)))
    (head.Whole (says.TemplateParam n.text required x.of))
template_param_leads s from sign t n colon w _ us ds ws _ x hs ht SpellsRequired.required_ hn hc p ok =
    before_head s from (opened s from) spot.TemplateParam sign (t ∷ (n ∷ (colon ∷ us))) (0 ∷ (0 ∷ (0 ∷ ds)))
    (false ∷ (false ∷ (false ∷ ws))) _
    (opened_leads s from spot.TemplateParam sign
    (from_word s from sign terminal.At _ _ hs refl (opens s from kind.TemplateParam _ ok)) refl refl)
    (before_head s from (in_at s from spot.TemplateParam) spot.TemplateParamWord t (n ∷ (colon ∷ us)) (0 ∷ (0 ∷ ds))
    (false ∷ (false ∷ ws)) _
    (token_leads s from spot.TemplateParam spot.TemplateParamWord t (ap (template_param_step s from) ht) refl refl)
    (before_head s from (in_at s from spot.TemplateParamWord) (spot.TemplateParamColon n.text true) n
    (colon ∷ us) (0 ∷ ds)
    (false ∷ ws) _
    (token_leads s from spot.TemplateParamWord (spot.TemplateParamColon n.text true) n
    (ap (template_param_word_step s from n) hn)
    refl refl)
    (before_head s from (in_at s from (spot.TemplateParamColon n.text true)) (spot.Type n.text true type_start) colon us
    ds ws _
    (token_leads s from (spot.TemplateParamColon n.text true) (spot.Type n.text true type_start) colon
    (ap (λ m. if_colon m (stands s from (spot.Type n.text true type_start))) hc) refl refl)
    (type_head_leads s from n.text true us ds ws x p))))
template_param_leads s from sign t n colon w _ us ds ws _ x hs ht (SpellsRequired.optional_ q hq) hn hc p ok =
    before_head s from (opened s from) spot.TemplateParam sign (t ∷ (q ∷ (n ∷ (colon ∷ us)))) (0 ∷ (0 ∷ (0 ∷ (0 ∷ ds))))
    (false ∷ (false ∷ (false ∷ (false ∷ ws)))) _
    (opened_leads s from spot.TemplateParam sign
    (from_word s from sign terminal.At _ _ hs refl (opens s from kind.TemplateParam _ ok)) refl refl)
    (before_head s from (in_at s from spot.TemplateParam) spot.TemplateParamWord t (q ∷ (n ∷ (colon ∷ us)))
    (0 ∷ (0 ∷ (0 ∷ ds)))
    (false ∷ (false ∷ (false ∷ ws))) _
    (token_leads s from spot.TemplateParam spot.TemplateParamWord t (ap (template_param_step s from) ht) refl refl)
    (before_head s from (in_at s from spot.TemplateParamWord) spot.TemplateParamName q (n ∷ (colon ∷ us)) (0 ∷ (0 ∷ ds))
    (false ∷ (false ∷ ws)) _
    (token_leads s from spot.TemplateParamWord spot.TemplateParamName q
    (ap (template_param_word_step s from q) hq) refl refl)
    (before_head s from (in_at s from spot.TemplateParamName) (spot.TemplateParamColon n.text false) n
    (colon ∷ us) (0 ∷ ds)
    (false ∷ ws) _
    (token_leads s from spot.TemplateParamName (spot.TemplateParamColon n.text false) n
    (ap (λ m. if_word m (stands s from (spot.TemplateParamColon n.text false))) hn) refl refl)
    (before_head s from (in_at s from (spot.TemplateParamColon n.text false))
    (spot.Type n.text false type_start) colon us
    ds ws _
    (token_leads s from (spot.TemplateParamColon n.text false) (spot.Type n.text false type_start) colon
    (ap (λ m. if_colon m (stands s from (spot.Type n.text false type_start))) hc) refl refl)
    (type_head_leads s from n.text false us ds ws x p)))))

-- **Each head that is spelled is read.**
pub head_leads : (s : CommandState) (from : Span) (ts : List Token) (ds : List ℕ) (ws : List Bool) (h : Head) →
    SpellsHead ts ds ws h → admits s (head_kind h) ≡ true → HeadLeads s from (opened s from) ts ds ws h
head_leads s from _ _ _ _ (SpellsHead.bare_ t h e) ok = bare_leads s from t h e ok
head_leads s from _ _ _ _ (SpellsHead.printed_ ts ds x p) ok =
    bare_expr_leads s from use_.Print ts ds x (printed_use s ok) p
head_leads s from _ _ _ _ (SpellsHead.message_printed_ ts ds x p) ok =
    bare_expr_leads s from use_.MessagePrint ts ds x (message_use s ok) p
head_leads s from _ _ _ _ (SpellsHead.message_print_ t ts ds x ht p) ok =
    print_word_leads s from use_.MessagePrint t ts ds x ht (message_use s ok) p
head_leads s from _ _ _ _ (SpellsHead.expression_ t ts ds x h p e) ok =
    expression_leads s from t ts ds x h (command_terminal_of t) refl p e ok
head_leads s from _ _ _ _ (SpellsHead.case_ t ts ds values ht p) ok = case_leads s from t ts ds values ht ok p
head_leads s from _ _ _ _ (SpellsHead.plural_case_ t ts values ht p) ok = plural_case_leads s from t ts values ht ok p
head_leads s from _ _ _ _ (SpellsHead.select_case_ t ts values ht p) ok = select_case_leads s from t ts values ht ok p
head_leads s from _ _ _ _ (SpellsHead.for_ t i ts us ds n index x ht v hi p) ok =
    for_leads s from t i ts us ds n index x ht ok v hi p
head_leads s from _ _ _ _ (SpellsHead.let_ t v colon ts ds x ht hv hc p) ok = let_leads s from t v colon ts ds x ht hv
    hc ok p
head_leads s from _ _ _ _ (SpellsHead.let_block_ t v ht hv) ok = let_block_leads s from t v ht hv ok
head_leads s from _ _ _ _ (SpellsHead.call_ t ts us n ht d p) ok = call_leads s from t ts us n ht ok d p
head_leads s from _ _ _ _ (SpellsHead.param_ t n colon w ts ds x ht hn hc p) ok =
    param_leads s from t n colon w ts ds x ht hn hc ok p
head_leads s from _ _ _ _ (SpellsHead.param_block_ t n w ht hn) ok = param_block_leads s from t n w ht hn ok
head_leads s from _ _ _ _ (SpellsHead.namespace_ t ts n ht p) ok = namespace_leads s from t ts n ht ok p
head_leads s from _ _ _ _ (SpellsHead.template_ t n w ts ht d hn) ok = template_leads s from t n w ts ht ok d hn
head_leads s from _ _ _ _ (SpellsHead.template_param_ sign t n colon w ts us ds ws required x hs ht q hn hc p) ok =
    template_param_leads s from sign t n colon w ts us ds ws required x hs ht q hn hc p ok
