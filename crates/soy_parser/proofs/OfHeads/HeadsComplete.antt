-- The heads of commands are read: those of one token, of an expression, of a let and of a param.
use Rattle.std.proofs.Common.{◌≡◌, ℕ, Bool, true, false, List, [], ◌∷◌, length, Some}
use Rattle.std.proofs.Common.{refl, sym, ◌∙◌, ap, subst}
use Rattle.soy_base.specs.declared.fault.Span.{Span}
use Rattle.soy_lexer.specs.declared.token.Token.{Token}
use Rattle.expr_parser.specs.declared.operand.Operand.{Operand}
use Rattle.expr_parser.specs.ExprRuns.{expr_start}
use Rattle.expr_parser.specs.SpellsExpr.{SpellsExpr}
use Rattle.expr_parser.proofs.ExprExact.{SpellsExpr-whole_expr}
use Rattle.expr_parser.proofs.ExprMachine.{spelled_depths}
use Rattle.soy_parser.specs.declared.block.CommandState.{CommandState}
use Rattle.soy_parser.specs.declared.head.Head.{Head}
use Rattle.soy_parser.specs.declared.head.HeadKind.{HeadKind}
use Rattle.soy_parser.specs.declared.head.HeadKind.TheVariants as kind
use Rattle.soy_parser.specs.declared.spot.CommandSpot.TheVariants as where_
use Rattle.soy_parser.specs.declared.spot.FileState.{FileState}
use Rattle.soy_parser.specs.declared.spot.Spot.{Spot}
use Rattle.soy_parser.specs.declared.spot.Spot.TheVariants as spot
use Rattle.soy_parser.specs.declared.spot.Use.{Use}
use Rattle.soy_parser.specs.declared.spot.Use.TheVariants as use_
use Rattle.soy_parser.specs.declared.terminal.CommandTerminal.{CommandTerminal}
use Rattle.soy_parser.specs.declared.terminal.CommandTerminal.TheVariants as terminal
use Rattle.soy_parser.specs.declared.terminal.CommandWord.{CommandWord}
use Rattle.soy_parser.specs.declared.terminal.CommandWord.TheVariants as word
use Rattle.soy_parser.specs.CommandTerminals.{command_terminal_of}
use Rattle.soy_parser.specs.TypeWords.{no_words}
use Rattle.soy_parser.specs.FileSteps.{stands, admits, opens_if, in_expr, next_value, head_of, head_done}
use Rattle.soy_parser.specs.FileSteps.{file_step}
use Rattle.soy_parser.specs.FileSteps.{opened_step, if_variable, if_word, let_colon_step, param_colon_step}
use Rattle.soy_parser.specs.Heads.{no_attributes}
use Rattle.soy_parser.proofs.AttributesComplete.{in_at, FollowsHead, HasHead, if_then, plain_step}
use Rattle.soy_parser.proofs.OfFiles.FileRunning.{Leads, then_leads, step_leads}
use Rattle.soy_parser.proofs.OfHeads.Seam.{comma_, whole_ends, expr_leads}

abbrev pub opened : CommandState → Span → FileState
opened s from = record { commands = s; spot = where_.Opened from }

-- a head is read from one state on
pub record HeadLeads (s : CommandState) (from : Span) (st : FileState) (ts : List Token) (ds : List ℕ) (ws : List Bool)
    (h : Head) : Type 0 where
  pub to : FileState
  pub leads : Leads (length s.blocks) st ts ds ws to
  pub has : HasHead s from h no_attributes to

pub next_is_head : (s : CommandState) (from : Span) (for_ : Use) (x : Operand) (t : Token) (m : CommandTerminal)
    → FollowsHead m →
    next_value s from for_ x t m ≡ head_done s from (head_of for_ x) t
next_is_head s from (use_.Case values) x t terminal.Comma f = absurd (comma_ f)
next_is_head s from (use_.Case values) x t _ f = refl
next_is_head s from _ x t m f = refl

-- an expression, in a command for which it is a head
pub expr_head_leads : (s : CommandState) (from : Span) (for_ : Use) (us : List Token) (ds : List ℕ) (x : Operand) →
    SpellsExpr 9 us ds x →
    HeadLeads s from (in_at s from (spot.Expr for_ expr_start)) us ds (no_words us) (head_of for_ x)
expr_head_leads s from for_ us ds x p =
    let i = SpellsExpr-whole_expr us ds x p in
    record {
      to = in_at s from (spot.Expr for_ i.state);
      leads = subst
          (λ l. Leads (length s.blocks) (in_at s from (spot.Expr for_ expr_start)) us l (no_words us)
          (in_at s from (spot.Expr for_ i.state)))
          (sym (spelled_depths us ds x p)) (expr_leads s from for_ us expr_start i.state i.goes.runs);
      has = record {
        commands_are = refl;
        takes = λ t f. ap (in_expr s from for_ t) (whole_ends i.state t x i.finishes f)
            ∙ next_is_head s from for_ x t (command_terminal_of t) f;
      };
    }

-- a token before what leads to a head
pub before_head : (s : CommandState) (from : Span) (st : FileState) (at : Spot) (t : Token) (ts : List Token)
    (ds : List ℕ)
    (ws : List Bool) (h : Head) → Leads (length s.blocks) st (t ∷ []) (0 ∷ []) (false ∷ []) (in_at s from at) →
    HeadLeads s from (in_at s from at) ts ds ws h → HeadLeads s from st (t ∷ ts) (0 ∷ ds) (false ∷ ws) h
before_head s from st at t ts ds ws h a b =
    record { to = b.to; leads = then_leads {ts = t ∷ []} {ds = 0 ∷ []} {ws = false ∷ []} a b.leads; has = b.has }

pub opens : (s : CommandState) (from : Span) (k : HeadKind) (at : Spot) → admits s k ≡ true
    → opens_if s from k at ≡ stands s from at
opens s from k at e = if_then (admits s k) (stands s from at) e

-- the words before an expression, where they are admitted
pub data WordBefore : CommandTerminal → Use → HeadKind → Type 0 where
  if_ : WordBefore (terminal.Word word.If) use_.If kind.If
  else_if_ : WordBefore (terminal.Word word.ElseIf) use_.ElseIf kind.ElseIf
  switch_ : WordBefore (terminal.Word word.Switch) use_.Switch kind.Switch
  plural_ : WordBefore (terminal.Word word.Plural) use_.Plural kind.Plural
  select_ : WordBefore (terminal.Word word.Select) use_.Select kind.Select

word_opens : (s : CommandState) (from : Span) (t : Token) (m : CommandTerminal) (for_ : Use) (k : HeadKind)
    → WordBefore m for_ k →
    admits s k ≡ true → opened_step s from t m ≡ stands s from (spot.Expr for_ expr_start)
word_opens s from t _ _ _ WordBefore.if_ e = opens s from kind.If _ e
word_opens s from t _ _ _ WordBefore.else_if_ e = opens s from kind.ElseIf _ e
word_opens s from t _ _ _ WordBefore.switch_ e = opens s from kind.Switch _ e
word_opens s from t _ _ _ WordBefore.plural_ e = opens s from kind.Plural _ e
word_opens s from t _ _ _ WordBefore.select_ e = opens s from kind.Select _ e

pub use_depth : (s : CommandState) (from : Span) (for_ : Use) (t : Token) →
    file_step (opened s from) t ≡ Some (in_at s from (spot.Expr for_ expr_start)) →
    Leads (length s.blocks) (opened s from) (t ∷ []) (0 ∷ []) (false ∷ []) (in_at s from (spot.Expr for_ expr_start))
use_depth s from for_ t e = step_leads (length s.blocks) 0 false (opened s from) t _ e refl refl

-- **An if, elseif, switch, plural or select with its expression**
pub word_leads : (s : CommandState) (from : Span) (t : Token) (us : List Token) (ds : List ℕ) (x : Operand) (for_ : Use)
    (k : HeadKind) → WordBefore (command_terminal_of t) for_ k → admits s k ≡ true → SpellsExpr 9 us ds x →
    HeadLeads s from (opened s from) (t ∷ us) (0 ∷ ds) (false ∷ no_words us) (head_of for_ x)
word_leads s from t us ds x for_ k w e p =
    before_head s from (opened s from) (spot.Expr for_ expr_start) t us ds (no_words us) (head_of for_ x)
    (use_depth s from for_ t (word_opens s from t (command_terminal_of t) for_ k w e))
    (expr_head_leads s from for_ us ds x p)

-- **A let, and the name of one with a block**
pub let_leads : (s : CommandState) (from : Span) (t v colon : Token) (us : List Token) (ds : List ℕ) (x : Operand) →
    command_terminal_of t ≡ terminal.Word word.Let → command_terminal_of v ≡ terminal.Variable →
    command_terminal_of colon ≡ terminal.Colon → admits s kind.Let ≡ true → SpellsExpr 9 us ds x →
    HeadLeads s from (opened s from) (t ∷ (v ∷ (colon ∷ us))) (0 ∷ (0 ∷ (0 ∷ ds))) (no_words (t ∷ (v ∷ (colon ∷ us))))
    (head_of (use_.Let v.text) x)
let_leads s from t v colon us ds x ht hv hc e p =
    before_head s from (opened s from) spot.Let t (v ∷ (colon ∷ us)) (0 ∷ (0 ∷ ds)) (no_words (v ∷ (colon ∷ us))) _
    (step_leads (length s.blocks) 0 false (opened s from) t (in_at s from spot.Let)
    (ap (opened_step s from t) ht ∙ opens s from kind.Let spot.Let e) refl refl)
    (before_head s from (in_at s from spot.Let) (spot.LetColon v.text) v (colon ∷ us) (0 ∷ ds) (no_words (colon ∷ us)) _
    (plain_step s from (in_at s from spot.Let) (spot.LetColon v.text) v refl
    (ap (λ m. if_variable m (stands s from (spot.LetColon v.text))) hv) refl refl)
    (before_head s from (in_at s from (spot.LetColon v.text)) (spot.Expr (use_.Let v.text) expr_start) colon us ds
    (no_words us) _
    (step_leads (length s.blocks) 0 false (in_at s from (spot.LetColon v.text)) colon _
    (ap (let_colon_step s from v.text colon) hc) refl refl)
    (expr_head_leads s from (use_.Let v.text) us ds x p)))

-- **A param**
pub param_leads : (s : CommandState) (from : Span) (t n colon : Token) (w : CommandWord) (us : List Token) (ds : List ℕ)
    (x : Operand) → command_terminal_of t ≡ terminal.Word word.Param → command_terminal_of n ≡ terminal.Word w →
    command_terminal_of colon ≡ terminal.Colon → admits s kind.Param ≡ true → SpellsExpr 9 us ds x →
    HeadLeads s from (opened s from) (t ∷ (n ∷ (colon ∷ us))) (0 ∷ (0 ∷ (0 ∷ ds))) (no_words (t ∷ (n ∷ (colon ∷ us))))
    (head_of (use_.Param n.text) x)
param_leads s from t n colon w us ds x ht hn hc e p =
    before_head s from (opened s from) spot.Param t (n ∷ (colon ∷ us)) (0 ∷ (0 ∷ ds)) (no_words (n ∷ (colon ∷ us))) _
    (step_leads (length s.blocks) 0 false (opened s from) t (in_at s from spot.Param)
    (ap (opened_step s from t) ht ∙ opens s from kind.Param spot.Param e) refl refl)
    (before_head s from (in_at s from spot.Param) (spot.ParamColon n.text) n (colon ∷ us) (0 ∷ ds)
    (no_words (colon ∷ us)) _
    (plain_step s from (in_at s from spot.Param) (spot.ParamColon n.text) n refl
    (ap (λ m. if_word m (stands s from (spot.ParamColon n.text))) hn) refl refl)
    (before_head s from (in_at s from (spot.ParamColon n.text)) (spot.Expr (use_.Param n.text) expr_start) colon us ds
    (no_words us) _
    (step_leads (length s.blocks) 0 false (in_at s from (spot.ParamColon n.text)) colon _
    (ap (param_colon_step s from n.text colon) hc) refl refl)
    (expr_head_leads s from (use_.Param n.text) us ds x p)))
