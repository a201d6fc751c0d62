-- No type goes on with a token that follows a head, so a type in a command is read as it is alone.
use Rattle.std.proofs.Common.{◌≡◌, ℕ, Bool, List, [], ◌∷◌, length, Option, Some, None, refl, sym, ◌∙◌, ap}
use Rattle.std.proofs.Common.{subst}
use Rattle.std.specs.Prelude.{encode_utf8_all}
use Rattle.soy_base.specs.declared.fault.Span.{Span}
use Rattle.soy_lexer.specs.declared.token.Token.{Token}
use Rattle.soy_lexer.specs.declared.token.TokenKind.{TokenKind}
use Rattle.soy_lexer.specs.declared.token.TokenKind.TheVariants as token_kind
use Rattle.expr_parser.specs.declared.type_frame.TypeFrame.{TypeFrame}
use Rattle.expr_parser.specs.declared.type_frame.TypeOperand.{TypeOperand}
use Rattle.expr_parser.specs.declared.type_state.ExpectedInType.{ExpectedInType}
use Rattle.expr_parser.specs.declared.type_state.ExpectedInType.TheVariants as expected
use Rattle.expr_parser.specs.declared.type_state.TypeState.{TypeState}
use Rattle.expr_parser.specs.declared.type_state.TypeStep.TheVariants as type_does
use Rattle.expr_parser.specs.declared.type_terminal.TypeName.{TypeName}
use Rattle.expr_parser.specs.declared.type_terminal.TypeTerminal.{TypeTerminal}
use Rattle.expr_parser.specs.declared.type_terminal.TypeTerminal.TheVariants as type_terminal_
use Rattle.expr_parser.specs.SpellsType.{SpellsType}
use Rattle.expr_parser.specs.TypeRuns.{type_run, type_run_from, type_depths, type_depths_from, type_words}
use Rattle.expr_parser.specs.TypeRuns.{type_words_from, type_start, is_after_name}
use Rattle.expr_parser.specs.TypeSteps.{type_next, type_next_at, type_step, type_step_of, type_depth, whole_type}
use Rattle.expr_parser.specs.TypeSteps.{whole_type_at}
use Rattle.expr_parser.specs.TypeTerminals.{type_terminal, type_terminal_of}
use Rattle.expr_parser.proofs.TypeExact.{SpellsType-whole_type}
use Rattle.expr_parser.proofs.TypeMachine.{spelled_depths, spelled_words}
use Rattle.soy_parser.specs.declared.block.CommandState.{CommandState}
use Rattle.soy_parser.specs.declared.head.Head.TheVariants as head
use Rattle.soy_parser.specs.declared.command.CommandForm.TheVariants as says
use Rattle.soy_parser.specs.declared.spot.Spot.TheVariants as spot
use Rattle.soy_parser.specs.CommandTerminals.{command_terminal, command_terminal_of}
use Rattle.soy_parser.specs.FileSteps.{in_type}
use Rattle.soy_parser.proofs.AttributesComplete.{in_at, FollowsHead}
use Rattle.soy_parser.proofs.OfFiles.FileRunning.{Leads, none_leads, step_leads, then_leads}
use Rattle.soy_parser.proofs.OfHeads.HeadsComplete.{HeadLeads}
use Rattle.soy_parser.proofs.OfHeads.Seam.{symbol_follows}

-- a token with which no whole type goes on
pub data EndsType : TypeTerminal → Type 0 where
  word_ : (n : TypeName) → EndsType (type_terminal_.Word n)
  other_ : EndsType type_terminal_.Other

kind_ends : (k : TokenKind) (text : List ℕ) → FollowsHead (command_terminal k text) → EndsType (type_terminal k text)
kind_ends token_kind.Word text f = EndsType.word_ _
kind_ends token_kind.Symbol text f = absurd ((symbol_follows text).no f)
kind_ends _ text f = EndsType.other_

follows_ends : (t : Token) → FollowsHead (command_terminal_of t) → EndsType (type_terminal_of t)
follows_ends t f = kind_ends t.kind (encode_utf8_all t.text) f

whole_ends_at : (p : ExpectedInType) (fs : List TypeFrame) (t : Token) (x : TypeOperand) (m : TypeTerminal) →
    whole_type_at p fs ≡ Some x → EndsType m → type_next_at p fs t m ≡ None
whole_ends_at (expected.AfterName n offset) fs t x _ w (EndsType.word_ k) = refl
whole_ends_at (expected.AfterName n offset) fs t x _ w EndsType.other_ = refl
whole_ends_at (expected.Delimiter y) fs t x _ w (EndsType.word_ k) = refl
whole_ends_at (expected.Delimiter y) fs t x _ w EndsType.other_ = refl
whole_ends_at expected.Type fs t x m w e = absurd (cc w)
whole_ends_at expected.Key fs t x m w e = absurd (cc w)
whole_ends_at expected.KeyComma fs t x m w e = absurd (cc w)
whole_ends_at (expected.FieldName fields h) fs t x m w e = absurd (cc w)
whole_ends_at (expected.FieldColon fields h n) fs t x m w e = absurd (cc w)

-- so a type that was read ends there
pub whole_type_ends : (r : TypeState) (t : Token) (x : TypeOperand) → whole_type r ≡ Some x →
    FollowsHead (command_terminal_of t) → type_step r t ≡ type_does.End (Some x)
whole_type_ends r t x w f =
    ap (λ o. type_step_of o (whole_type r))
    (whole_ends_at r.expected r.frames t x (type_terminal_of t) w (follows_ends t f))
    ∙ ap type_does.End w

-- the tokens of a type are read in a command as they are alone
pub type_leads : (s : CommandState) (from : Span) (n : List ℕ) (required : Bool) (us : List Token) (r r' : TypeState) →
    type_run us r ≡ Some r' →
    Leads (length s.blocks) (in_at s from (spot.Type n required r)) us (type_depths us r) (type_words us r)
    (in_at s from (spot.Type n required r'))
type_leads s from n required [] r r' e =
    subst (λ k. Leads (length s.blocks) (in_at s from (spot.Type n required r)) [] [] []
    (in_at s from (spot.Type n required k))) (same e)
    (none_leads (length s.blocks) (in_at s from (spot.Type n required r)))
  where
    unwrap : Option TypeState → TypeState
    unwrap None = r
    unwrap (Some k) = k

    same : Some r ≡ Some r' → r ≡ r'
    same e = ap unwrap e
type_leads s from n required (t ∷ us) r r' e = over (type_next r t) refl e (λ m. type_leads s from n required us m r')
  where
    over : (to : Option TypeState) → type_next r t ≡ to → type_run_from (type_run us) to ≡ Some r' →
        ((m : TypeState) → type_run us m ≡ Some r' → Leads (length s.blocks) (in_at s from (spot.Type n required m)) us
        (type_depths us m) (type_words us m) (in_at s from (spot.Type n required r'))) →
        Leads (length s.blocks) (in_at s from (spot.Type n required r)) (t ∷ us) (type_depths_from (type_depths us) to)
        (type_words_from (type_words us) to) (in_at s from (spot.Type n required r'))
    over None q h inside_ = absurd (cc h)
    over (Some m) q h inside_ =
        then_leads
        (step_leads (length s.blocks) (type_depth m) (is_after_name m.expected)
        (in_at s from (spot.Type n required r)) t
        (in_at s from (spot.Type n required m))
        (ap (in_type s from n required t) (ap (λ o. type_step_of o (whole_type r)) q)) refl refl)
        (inside_ m h)

-- a type, in a parameter of which it is the last part
pub type_head_leads : (s : CommandState) (from : Span) (n : List ℕ) (required : Bool) (us : List Token) (ds : List ℕ)
    (ws : List Bool) (x : TypeOperand) → SpellsType us ds ws x →
    HeadLeads s from (in_at s from (spot.Type n required type_start)) us ds ws
    (head.Whole (says.TemplateParam n required x.of))
type_head_leads s from n required us ds ws x p =
    let i = SpellsType-whole_type us ds ws x p in
    let to = in_at s from (spot.Type n required i.state) in
    record {
      to = to;
      leads = subst
          (λ l. Leads (length s.blocks) (in_at s from (spot.Type n required type_start)) us l ws to)
          (sym (spelled_depths us ds ws x p))
          (subst
          (λ l. Leads (length s.blocks) (in_at s from (spot.Type n required type_start)) us
          (type_depths us type_start) l to)
          (sym (spelled_words us ds ws x p)) (type_leads s from n required us type_start i.state i.goes.runs));
      has = record {
        commands_are = refl;
        takes = λ t f. ap (in_type s from n required t) (whole_type_ends i.state t x i.finishes f);
      };
    }
