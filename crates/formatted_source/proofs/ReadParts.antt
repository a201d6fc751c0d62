-- Expressions and types of a text, as they are written, are read as what they are.
use Rattle.std.proofs.Common.{◌≡◌, ℕ, ◌+◌, ◌≤◌, Bool, true, List, [], refl, sym}
use Rattle.std.proofs.Common.{◌∙◌, arith}
use Rattle.soy_lexer.specs.declared.token.Token.{Token}
use Rattle.soy_tree.specs.Expressions.{Expr}
use Rattle.soy_tree.specs.Formed.{is_formed_expr}
use Rattle.soy_rules.specs.TypeText.{type_text}
use Rattle.soy_tree.specs.ViewExpressions.{view_expr}
use Rattle.soy_tree.specs.ViewTypes.{view_type}
use Rattle.expr_parser.specs.declared.operand.Operand.{Operand}
use Rattle.expr_parser.specs.declared.type_frame.TypeOperand.{TypeOperand}
use Rattle.expr_parser.specs.AreNamed.{AreNamed}
use Rattle.expr_parser.specs.Depths.{AreWithin}
use Rattle.expr_parser.specs.ParsesType.{NameTypes}
use Rattle.expr_parser.specs.SpellsExpr.{SpellsExpr}
use Rattle.expr_parser.specs.SpellsType.{SpellsType}
use Rattle.expr_parser.proofs.ExprForms.{formed}
use Rattle.expr_parser.proofs.TypeForms.{formed_type}
use Rattle.soy_format.specs.FormattedExpression.{formatted_expr}
use Rattle.formatted_source.specs.CommandLexemes.{ends_name, ends_type}
use Rattle.formatted_source.proofs.Fitting.WrittenHeight.{expr_height}
use Rattle.formatted_source.specs.ExprLexemes.{expr_lexemes}
use Rattle.formatted_source.specs.Lexemes.{lexemes}
use Rattle.formatted_source.specs.ReadsAs.{IsReadAsExpr, IsReadAsType, SpellAlike}
use Rattle.formatted_source.specs.TypeLexemes.{type_lexemes}
use Rattle.formatted_source.proofs.Fitting.ExprHeights.{height_within, within_height}
use Rattle.formatted_source.proofs.Fitting.ExprsLower.{whole_lower, written_lower}
use Rattle.formatted_source.proofs.ExprsSpelled.{expr_spelled, levels_end}
use Rattle.formatted_source.proofs.Written.ExprsWritten.{expr_written}
use Rattle.formatted_source.proofs.TypesRespelled.{type_again}
use Rattle.formatted_source.proofs.TypesSpelled.{spelled_lexemes}
use Rattle.formatted_source.proofs.Written.TypesWritten.{type_written}

-- tokens of an expression's lexemes spell it where its height is within the limit
pub spelled_within : (blocks : ℕ) (e : Expr) → is_formed_expr e ≡ true → blocks + expr_height e ≤ 64
    → (tokens : List Token) → lexemes tokens ≡ expr_lexemes e → SpellAlike blocks tokens e
spelled_within blocks e f within tokens same =
    let s = expr_spelled e f 9 tokens (levels_end e) same in
    let le : blocks + s.operand.height ≤ 64 = omega (arith, s.height_is, within) in
    record {
      depths = s.depths;
      operand = s.operand;
      spells = s.spells;
      within = within_height blocks 9 tokens s.depths s.operand s.spells le;
      alike = s.alike;
    }

-- the height of an expression as it is written is within the limit
pub written_within : (blocks : ℕ) (tokens : List Token) (depths : List ℕ) (x : Operand) → SpellsExpr 9 tokens depths x
    → AreWithin blocks depths → blocks + expr_height (view_expr x.expr) ≤ 64
written_within blocks tokens depths x d w =
    let reached = height_within blocks 9 tokens depths x d w in
    let lower = whole_lower (view_expr x.expr) x.height (written_lower 9 tokens depths x (omega arith) d) in
    omega (arith, reached, lower)

pub expr_read : (blocks : ℕ) (tokens : List Token) (depths : List ℕ) (x : Operand) → AreNamed tokens
    → SpellsExpr 9 tokens depths x → AreWithin blocks depths → (rest : List ℕ) → ends_name rest ≡ true
    → IsReadAsExpr blocks (formatted_expr (view_expr x.expr)) rest (view_expr x.expr)
expr_read blocks tokens depths x named d w rest h =
    let f = formed 9 tokens depths x named d in
    record {
      are = expr_lexemes (view_expr x.expr);
      written = expr_written (view_expr x.expr) f rest h;
      spell = spelled_within blocks (view_expr x.expr) f (written_within blocks tokens depths x d w);
    }

pub type_read : (tokens : List Token) (depths : List ℕ) (words : List Bool) (x : TypeOperand) → AreNamed tokens
    → SpellsType tokens depths words x → NameTypes tokens words [] → (rest : List ℕ) → ends_type rest ≡ true
    → IsReadAsType (type_text (view_type x.of)) rest depths words x
type_read tokens depths words x named d names rest h =
    let same = spelled_lexemes tokens depths words x [] d names refl in
    record {
      are = type_lexemes (view_type x.of);
      written = type_written (view_type x.of) (formed_type tokens depths words x named d) rest h;
      spell = λ us e. type_again tokens us depths words x d (e ∙ sym same);
    }
