-- A text has one list of tokens or one first fault, and no token and no fault lies past its end.
use Rattle.std.proofs.Common.{◌≡◌, ℕ, ◌≤◌, List, [], ◌∷◌, ◌++◌, Some, None, sym, subst, ap, ◌∙◌, arith}
use Rattle.std.proofs.Common.{append-nil}
use Rattle.expr_parser.specs.Offsets.{end_after, offset_after}
use Rattle.soy_lexer.specs.InOrder.{InOrder}
use Rattle.soy_lexer.specs.Tokens.{Tokens, FirstFault, tokens_of}
use Rattle.soy_lexer.specs.declared.token.Token.{Token}
use Rattle.soy_lexer.proofs.OneSegments.{one_segments}

none_some : (n : ℕ) → None ≡ Some n → ⊥
none_some n e = cc

same_some : (m n : ℕ) → Some m ≡ Some n → m ≡ n
same_some m n e = cc

pub one_list : (text : List ℕ) (first second : List Token) → Tokens text first → Tokens text second → first ≡ second
one_list text first second one two =
    one.tokens_are ∙ ap (tokens_of 0 []) (one_segments _ _ _ _ _ _ _ one.whole two.whole).0 ∙ sym two.tokens_are

pub one_fault : (text : List ℕ) (first second : ℕ) → FirstFault text first → FirstFault text second → first ≡ second
one_fault text first second one two =
    same_some first second (one_segments _ _ _ _ _ _ _ one.prefix two.prefix).1

pub never_both : (text : List ℕ) (tokens : List Token) (offset : ℕ) → Tokens text tokens → FirstFault text offset → ⊥
never_both text tokens offset one two = none_some offset (one_segments _ _ _ _ _ _ _ one.whole two.prefix).1

-- tokens in their order end at most where their text does
ordered : (from to : ℕ) (tokens : List Token) → InOrder from to tokens → from ≤ to
ordered from to [] h = h
ordered from to (t ∷ ts) h = omega (arith, h.0, h.1, ordered t.span.end to ts h.2)

last_within : (from to : ℕ) (tokens : List Token) → InOrder from to tokens → end_after from tokens ≤ to
last_within from to [] h = h
last_within from to (t ∷ ts) h = last_within t.span.end to ts h.2

-- and so each of them begins there
pub token_within : (from to : ℕ) (prefix : List Token) (t : Token) (rest : List Token)
    → InOrder from to (prefix ++ t ∷ rest) → t.span.start ≤ to
token_within from to [] t rest h = omega (arith, h.1, ordered t.span.end to rest h.2)
token_within from to (p ∷ prefix) t rest h = token_within p.span.end to prefix t rest h.2

-- and so where tokens are refused
pub offset_within : (to : ℕ) (prefix rest : List Token) → InOrder 0 to (prefix ++ rest)
    → offset_after prefix rest ≤ to
offset_within to prefix [] h = last_within 0 to prefix (subst (InOrder 0 to) (append-nil prefix) h)
offset_within to prefix (t ∷ rest) h = token_within 0 to prefix t rest h
