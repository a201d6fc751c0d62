-- No expression goes on with a token that follows a head, so an expression in a command is read as it is alone.
use Rattle.std.proofs.Common.{◌≡◌, ℕ, Bool, true, false, List, [], ◌∷◌, length, Option, Some, None}
use Rattle.std.proofs.Common.{refl, ◌∙◌, ap, subst}
use Rattle.std.specs.Prelude.{if◌then◌else◌, codes, encode_utf8_all}
use Rattle.std.specs.Str.{bytes_eq}
use Rattle.std.proofs.lemmas.Slice.Eq.{bytes_eq-Decides}
use Rattle.soy_base.specs.declared.fault.Span.{Span}
use Rattle.soy_lexer.specs.declared.token.Token.{Token}
use Rattle.soy_lexer.specs.declared.token.TokenKind.{TokenKind}
use Rattle.soy_lexer.specs.declared.token.TokenKind.TheVariants as token_kind
use Rattle.expr_parser.specs.declared.frame.Frame.{Frame}
use Rattle.expr_parser.specs.declared.operand.Operand.{Operand}
use Rattle.expr_parser.specs.declared.state.Expected.{Expected}
use Rattle.expr_parser.specs.declared.state.Expected.TheVariants as expected
use Rattle.expr_parser.specs.declared.state.ExprState.{ExprState}
use Rattle.expr_parser.specs.ExprSteps.{ExprStep as expr_does}
use Rattle.expr_parser.specs.declared.terminal.Terminal.{Terminal}
use Rattle.expr_parser.specs.declared.terminal.Terminal.TheVariants as expr_terminal
use Rattle.expr_parser.specs.ExprRuns.{expr_run, expr_run_from, expr_depths, expr_depths_from}
use Rattle.expr_parser.specs.ExprSteps.{expr_next, expr_step, expr_depth, step_of, next_at, operator_next, whole_at}
use Rattle.expr_parser.specs.ExprSteps.{whole_expr}
use Rattle.expr_parser.specs.Terminals.{terminal_of, kind_terminal, word_terminal}
use Rattle.expr_parser.proofs.ExprMachine.{next_is}
use Rattle.soy_parser.specs.declared.block.CommandState.{CommandState}
use Rattle.soy_parser.specs.declared.spot.Spot.TheVariants as spot
use Rattle.soy_parser.specs.declared.spot.Use.{Use}
use Rattle.soy_parser.specs.declared.terminal.CommandTerminal.{CommandTerminal}
use Rattle.soy_parser.specs.declared.terminal.CommandTerminal.TheVariants as terminal
use Rattle.soy_parser.specs.CommandTerminals.{command_terminal, command_terminal_of, command_word, command_symbol}
use Rattle.soy_parser.specs.TypeWords.{no_words}
use Rattle.soy_parser.specs.FileSteps.{in_expr}
use Rattle.soy_parser.specs.Heads.{attribute_name}
use Rattle.soy_parser.proofs.AttributesComplete.{in_at, FollowsHead}
use Rattle.soy_parser.proofs.OfFiles.FileRunning.{Leads, none_leads, step_leads, then_leads}

-- a symbol follows no head
pub record NoFollow (m : CommandTerminal) : Type 0 where
  pub no : FollowsHead m → ⊥

picked : (b : Bool) (x y : CommandTerminal) → NoFollow x → NoFollow y → NoFollow (if b then x else y)
picked true x y p q = p
picked false x y p q = q

pub dot_ : FollowsHead terminal.Dot → ⊥
dot_ (FollowsHead.attribute_ _ n e) = cc e

pub comma_ : FollowsHead terminal.Comma → ⊥
comma_ (FollowsHead.attribute_ _ n e) = cc e

pub colon_ : FollowsHead terminal.Colon → ⊥
colon_ (FollowsHead.attribute_ _ n e) = cc e

pub question_ : FollowsHead terminal.Question → ⊥
question_ (FollowsHead.attribute_ _ n e) = cc e

pub equals_ : FollowsHead terminal.Equals → ⊥
equals_ (FollowsHead.attribute_ _ n e) = cc e

pub at_ : FollowsHead terminal.At → ⊥
at_ (FollowsHead.attribute_ _ n e) = cc e

line_ : FollowsHead terminal.LineFeed → ⊥
line_ (FollowsHead.attribute_ _ n e) = cc e

return_ : FollowsHead terminal.CarriageReturn → ⊥
return_ (FollowsHead.attribute_ _ n e) = cc e

tab_ : FollowsHead terminal.Tab → ⊥
tab_ (FollowsHead.attribute_ _ n e) = cc e

other_ : FollowsHead terminal.Other → ⊥
other_ (FollowsHead.attribute_ _ n e) = cc e

pub variable_ : FollowsHead terminal.Variable → ⊥
variable_ (FollowsHead.attribute_ _ n e) = cc e

int_ : FollowsHead terminal.Int → ⊥
int_ (FollowsHead.attribute_ _ n e) = cc e

string_ : FollowsHead terminal.Str → ⊥
string_ (FollowsHead.attribute_ _ n e) = cc e

pub symbol_follows : (text : List ℕ) → NoFollow (command_symbol text)
symbol_follows text =
    picked (bytes_eq text (codes ".")) terminal.Dot _ (record { no = dot_ })
    (picked (bytes_eq text (codes ",")) terminal.Comma _ (record { no = comma_ })
    (picked (bytes_eq text (codes ":")) terminal.Colon _ (record { no = colon_ })
    (picked (bytes_eq text (codes "?")) terminal.Question _ (record { no = question_ })
    (picked (bytes_eq text (codes "=")) terminal.Equals _ (record { no = equals_ })
    (picked (bytes_eq text (codes "@")) terminal.At _ (record { no = at_ })
    (picked (bytes_eq text (codes "\\n")) terminal.LineFeed _ (record { no = line_ })
    (picked (bytes_eq text (codes "\\r")) terminal.CarriageReturn _ (record { no = return_ })
    (picked (bytes_eq text (codes "\\t")) terminal.Tab _ (record { no = tab_ })
    (record { no = other_ })))))))))

-- a word that an expression knows names no attribute
known_word : (text known : List ℕ) → attribute_name (terminal.Word (command_word known)) ≡ None
    → bytes_eq text known ≡ true →
    FollowsHead (terminal.Word (command_word text)) → ⊥
known_word text known none e f =
    let same = (bytes_eq-Decides text known).0 e in
    clash (subst (λ t. FollowsHead (terminal.Word (command_word t))) same f)
  where
    clash : FollowsHead (terminal.Word (command_word known)) → ⊥
    clash (FollowsHead.attribute_ _ n g) = cc (none, g)

unless_known : (text known : List ℕ) (m rest : Terminal) → attribute_name (terminal.Word (command_word known)) ≡ None →
    FollowsHead (terminal.Word (command_word text)) → rest ≡ expr_terminal.Other →
    (if bytes_eq text known then m else rest) ≡ expr_terminal.Other
unless_known text known m rest none f r = over (bytes_eq text known) refl
  where
    over : (b : Bool) → bytes_eq text known ≡ b → (if b then m else rest) ≡ expr_terminal.Other
    over true e = absurd (known_word text known none e f)
    over false e = r

word_follows : (text : List ℕ) → FollowsHead (terminal.Word (command_word text))
    → word_terminal text ≡ expr_terminal.Other
word_follows text f =
    unless_known text (codes "null") _ _ refl f
    (unless_known text (codes "true") _ _ refl f
    (unless_known text (codes "false") _ _ refl f
    (unless_known text (codes "not") _ _ refl f
    (unless_known text (codes "and") _ _ refl f
    (unless_known text (codes "or") _ _ refl f refl)))))

kind_follows : (k : TokenKind) (text : List ℕ) → FollowsHead (command_terminal k text)
    → kind_terminal k text ≡ expr_terminal.Other
kind_follows token_kind.Word text f = word_follows text f
kind_follows token_kind.Symbol text f = absurd ((symbol_follows text).no f)
kind_follows token_kind.Variable text f = absurd (variable_ f)
kind_follows token_kind.Int text f = absurd (int_ f)
kind_follows token_kind.Str text f = absurd (string_ f)
kind_follows _ text f = refl

-- **No expression goes on with it.**
pub follows_other : (t : Token) → FollowsHead (command_terminal_of t) → terminal_of t ≡ expr_terminal.Other
follows_other t f = kind_follows t.kind (encode_utf8_all t.text) f

pub whole_ends_at : (p : Expected) (fs : List Frame) (t : Token) (x : Operand) → whole_at p fs ≡ Some x →
    terminal_of t ≡ expr_terminal.Other → next_at p fs t ≡ None
whole_ends_at expected.Operand fs t x w e = absurd (cc w)
whole_ends_at (expected.Name y takes_null) fs t x w e = absurd (cc w)
whole_ends_at (expected.Operator y) fs t x w e = ap (operator_next fs y t) e

-- so an expression that was read ends there
pub whole_ends : (r : ExprState) (t : Token) (x : Operand) → whole_expr r ≡ Some x
    → FollowsHead (command_terminal_of t) →
    expr_step r t ≡ expr_does.End (Some x)
whole_ends r t x w f =
    next_is r.expected r.frames t
    ∙ (ap (λ o. step_of o (whole_expr r)) (whole_ends_at r.expected r.frames t x w (follows_other t f))
    ∙ ap expr_does.End w)

-- the tokens of an expression are read in a command as they are alone
pub expr_leads : (s : CommandState) (from : Span) (for_ : Use) (us : List Token) (r r' : ExprState) →
    expr_run us r ≡ Some r' →
    Leads (length s.blocks) (in_at s from (spot.Expr for_ r)) us (expr_depths us r) (no_words us)
    (in_at s from (spot.Expr for_ r'))
expr_leads s from for_ [] r r' e =
    subst (λ k. Leads (length s.blocks) (in_at s from (spot.Expr for_ r)) [] [] [] (in_at s from (spot.Expr for_ k)))
    (same e)
    (none_leads (length s.blocks) (in_at s from (spot.Expr for_ r)))
  where
    unwrap : Option ExprState → ExprState
    unwrap None = r
    unwrap (Some k) = k

    same : Some r ≡ Some r' → r ≡ r'
    same e = ap unwrap e
expr_leads s from for_ (t ∷ us) r r' e = over (expr_next r t) refl e (λ m. expr_leads s from for_ us m r')
  where
    over : (to : Option ExprState) → expr_next r t ≡ to → expr_run_from (expr_run us) to ≡ Some r' →
        ((m : ExprState) → expr_run us m ≡ Some r' → Leads (length s.blocks) (in_at s from (spot.Expr for_ m)) us
        (expr_depths us m) (no_words us) (in_at s from (spot.Expr for_ r'))) →
        Leads (length s.blocks) (in_at s from (spot.Expr for_ r)) (t ∷ us) (expr_depths_from (expr_depths us) to)
        (no_words (t ∷ us)) (in_at s from (spot.Expr for_ r'))
    over None n h inside_ = absurd (cc h)
    over (Some m) n h inside_ =
        then_leads
        (step_leads (length s.blocks) (expr_depth m) false (in_at s from (spot.Expr for_ r)) t
        (in_at s from (spot.Expr for_ m))
        (ap (in_expr s from for_ t) (next_is r.expected r.frames t ∙ ap (λ o. step_of o (whole_expr r)) n)) refl refl)
        (inside_ m h)
