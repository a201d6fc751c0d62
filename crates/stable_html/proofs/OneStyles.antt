-- The table of styles: the page as one text goes on as the page in pieces does.
use Rattle.std.proofs.Common.{Bool, ap, eqb, false, refl, subst, sym, true, ℕ, ◌||◌, ◌≡◌}
use Rattle.std.proofs.lemmas.Bool.{eqb-true}
use Rattle.std.specs.Char.{is_ascii_whitespace}
use Rattle.std.specs.Prelude.{None, Option, Some, if◌then◌else◌}
use Rattle.soy_base.specs.Characters.{asterisk, backslash, comma, double_quote, exclamation_mark, right_brace}
use Rattle.soy_base.specs.Characters.{right_parenthesis, semicolon, single_quote, slash}
use Rattle.script_state.specs.CssNext.{css_code_next, css_next, is_before_value}
use Rattle.script_state.specs.declared.css_state.CssState.{CssState}
use Rattle.script_state.specs.declared.css_state.CssState.TheVariants as css
use Rattle.stable_html.proofs.AsOne.{CssOn, unmarked}

-- ---- styles

-- either way a state that stays the same without the mark
css_if : (test : Bool) (one other : Option CssState) → CssOn one one → CssOn other other
    → CssOn (if test then one else other) (if test then one else other)
css_if true one other on on_other = on
css_if false one other on on_other = on_other

-- the same of states that are there
state_if : (test : Bool) (one other : CssState) → one ≡ unmarked one → other ≡ unmarked other
    → (if test then one else other) ≡ unmarked (if test then one else other)
state_if true one other is is_other = is
state_if false one other is is_other = is_other

-- what follows Code has no mark
code_self : (c : ℕ) → css_code_next c ≡ unmarked (css_code_next c)
code_self c =
    state_if (is_before_value c) css.Ready
    (if eqb c slash then css.Slash else (if eqb c backslash then css.CodeEscape
    else (if eqb c single_quote then css.Single else (if eqb c double_quote then css.Double else css.Code)))) refl
    (state_if (eqb c slash) css.Slash
    (if eqb c backslash then css.CodeEscape
    else (if eqb c single_quote then css.Single else (if eqb c double_quote then css.Double else css.Code))) refl
    (state_if (eqb c backslash) css.CodeEscape
    (if eqb c single_quote then css.Single else (if eqb c double_quote then css.Double else css.Code)) refl
    (state_if (eqb c single_quote) css.Single (if eqb c double_quote then css.Double else css.Code) refl
    (state_if (eqb c double_quote) css.Double css.Code refl refl))))

-- what follows within a string has none
string_self : (quote c : ℕ) (within escape : CssState) → within ≡ unmarked within → escape ≡ unmarked escape →
    CssOn (if eqb c backslash then Some escape else (if eqb c quote then Some css.Code
    else (if eqb c 0x0a || eqb c 0x0d then None else Some within)))
    (if eqb c backslash then Some escape else (if eqb c quote then Some css.Code
    else (if eqb c 0x0a || eqb c 0x0d then None else Some within)))
string_self quote c within escape is escapes =
    css_if (eqb c backslash) (Some escape)
    (if eqb c quote then Some css.Code else (if eqb c 0x0a || eqb c 0x0d then None else Some within)) (ap Some escapes)
    (css_if (eqb c quote) (Some css.Code) (if eqb c 0x0a || eqb c 0x0d then None else Some within) refl
    (css_if (eqb c 0x0a || eqb c 0x0d) None (Some within) tt (ap Some is)))

-- a character that may follow a value leads on from Code as from AfterValue
ready_if : (white : Bool) (c : ℕ) → is_ascii_whitespace c ≡ white → (white || eqb c comma) ≡ true
    → css_code_next c ≡ css.Ready
ready_if true c same is = rw same refl
ready_if false c same is = subst (λ d. css_code_next d ≡ css.Ready) (sym (eqb-true c comma is)) refl

-- a character that ends a value leads on from Code to Code
code_if : (a b d e : Bool) (c : ℕ) → eqb c semicolon ≡ a → eqb c right_parenthesis ≡ b → eqb c exclamation_mark ≡ d
    → eqb c right_brace ≡ e → (((a || b) || d) || e) ≡ true → css_code_next c ≡ css.Code
code_if true b d e c is_a is_b is_d is_e is = subst (λ x. css_code_next x ≡ css.Code)
    (sym (eqb-true c semicolon is_a)) refl
code_if false true d e c is_a is_b is_d is_e is = subst (λ x. css_code_next x ≡ css.Code)
    (sym (eqb-true c right_parenthesis is_b)) refl
code_if false false true e c is_a is_b is_d is_e is = subst (λ x. css_code_next x ≡ css.Code)
    (sym (eqb-true c exclamation_mark is_d)) refl
code_if false false false true c is_a is_b is_d is_e is = subst (λ x. css_code_next x ≡ css.Code)
    (sym (eqb-true c right_brace is_e)) refl
code_if false false false false c is_a is_b is_d is_e is = let never : ⊥ = cc in absurd never

-- behind a value: white space or a comma, what ends a value, or a fault
past_if : (first second : Bool) (one : Option CssState) → (first ≡ true → one ≡ Some css.Ready)
    → (second ≡ true → one ≡ Some css.Code)
    → CssOn (if first then Some css.Ready else (if second then Some css.Code else None)) one
past_if true second one ready code = ready refl
past_if false true one ready code = code refl
past_if false false one ready code = tt

-- every state of the table
pub css_on : (now : CssState) (c : ℕ) → CssOn (css_next now c) (css_next (unmarked now) c)
css_on css.Code c = ap Some (code_self c)
css_on css.Ready c = ap Some (code_self c)
css_on css.Slash c = css_if (eqb c asterisk) (Some css.Comment) (Some (css_code_next c)) refl (ap Some (code_self c))
css_on css.Comment c = ap Some (state_if (eqb c asterisk) css.CommentStar css.Comment refl refl)
css_on css.CommentStar c =
    ap Some (state_if (eqb c slash) css.Code (if eqb c asterisk then css.CommentStar else css.Comment) refl
    (state_if (eqb c asterisk) css.CommentStar css.Comment refl refl))
css_on css.CodeEscape c = refl
css_on css.Single c = string_self single_quote c css.Single css.SingleEscape refl refl
css_on css.Double c = string_self double_quote c css.Double css.DoubleEscape refl refl
css_on css.SingleEscape c = refl
css_on css.DoubleEscape c = refl
css_on css.AfterValue c =
    past_if (is_ascii_whitespace c || eqb c comma)
    (((eqb c semicolon || eqb c right_parenthesis) || eqb c exclamation_mark) || eqb c right_brace)
    (Some (css_code_next c)) (λ is. ap Some (ready_if (is_ascii_whitespace c) c refl is))
    (λ is. ap Some (code_if (eqb c semicolon) (eqb c right_parenthesis) (eqb c exclamation_mark) (eqb c right_brace) c
    refl refl refl refl is))
