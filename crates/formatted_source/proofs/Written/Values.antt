-- Values in double quotes, as they are written in a command.
use Rattle.std.proofs.Common.{◌≡◌, ℕ, Bool, true, false, ◌&&◌, List, [], ◌∷◌, ◌++◌, refl, sym, ap}
use Rattle.std.proofs.Common.{subst}
use Rattle.std.proofs.Common.{◌∙◌, append_assoc}
use Rattle.soy_base.specs.Among.{lacks}
use Rattle.soy_base.proofs.CutAt.{cut-at, cut-lacks}
use Rattle.soy_lexer.specs.CommandSegment.{command_segment, value_segment}
use Rattle.soy_lexer.specs.Found.Found.{Begins}
use Rattle.soy_lexer.specs.Segment.Segment.{CommandToken}
use Rattle.soy_lexer.specs.declared.token.TokenKind.TheVariants as kind
use Rattle.soy_lexer.proofs.CommandSegments.{null_free}
use Rattle.formatted_source.specs.CommandLexemes.{CommandLexemes, HasLexemes, before_any}
use Rattle.formatted_source.specs.CommandLexemes.CommandLexemes.{here_, token_}

-- a text lacks what both of its parts lack
pub lacks-append : (these a b : List ℕ) → lacks these a ≡ true → lacks these b ≡ true → lacks these (a ++ b) ≡ true
lacks-append these [] b h k = k
lacks-append these (c ∷ cs) b h k = over _ h (λ more. lacks-append these cs b more k)
  where
    over : (t : Bool) → (t && lacks these cs) ≡ true → (lacks these cs ≡ true → lacks these (cs ++ b) ≡ true)
        → (t && lacks these (cs ++ b)) ≡ true
    over true h next = next h
    over false h next = h

value_found : (value rest : List ℕ) → lacks (34 ∷ []) value ≡ true → lacks (0 ∷ []) value ≡ true
    → command_segment (34 ∷ (value ++ (34 ∷ rest)))
    ≡ Begins (CommandToken kind.Attribute (34 ∷ (value ++ 34 ∷ [])) value) rest
value_found value rest no_quote no_null =
    ap value_segment (cut-at 34 value rest no_quote)
    ∙ null_free (CommandToken kind.Attribute (34 ∷ (value ++ 34 ∷ [])) value) (34 ∷ (value ++ 34 ∷ [])) rest refl
    (sym (cut-lacks 0 (34 ∷ (value ++ 34 ∷ [])) (lacks-append (0 ∷ []) value (34 ∷ []) no_null refl)))

-- a value after its `=`
pub value_written : (value : List ℕ) → lacks (34 ∷ []) value ≡ true → lacks (0 ∷ []) value ≡ true
    → HasLexemes before_any (61 ∷ (34 ∷ (value ++ 34 ∷ []))) ((kind.Symbol, 61 ∷ []) ∷ (kind.Attribute, value) ∷ [])
value_written value no_quote no_null rest h =
    token_ (61 ∷ (34 ∷ ((value ++ 34 ∷ []) ++ rest))) (61 ∷ []) (61 ∷ []) (34 ∷ ((value ++ 34 ∷ []) ++ rest)) rest
    kind.Symbol ((kind.Attribute, value) ∷ []) refl refl
    (subst (λ text. CommandLexemes (34 ∷ text) ((kind.Attribute, value) ∷ []) rest)
    (sym (append_assoc value (34 ∷ []) rest))
    (token_ (34 ∷ (value ++ (34 ∷ rest))) (34 ∷ (value ++ 34 ∷ [])) value rest rest kind.Attribute []
    (value_found value rest no_quote no_null) refl (here_ rest)))
