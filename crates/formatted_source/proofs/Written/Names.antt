-- Names, variables, ints and values in double quotes, as they are written in a command.
use Rattle.std.proofs.Common.{◌≡◌, ℕ, Bool, true, false, not, ◌&&◌, List, [], ◌∷◌, ◌++◌}
use Rattle.std.proofs.Common.{unwrap_or, refl, ap, ◌∙◌, arith}
use Rattle.std.specs.List.{list_all}
use Rattle.std.proofs.lemmas.Bool.Decides.{nat_tests}
use Rattle.soy_base.specs.Cuts.{prefix_while, after_while}
use Rattle.soy_base.specs.Names.{begins_name, continues_name, is_name}
use Rattle.soy_base.specs.WhiteSpace.{is_template_space}
use Rattle.soy_lexer.specs.CommandSegment.{command_segment, name_prefix}
use Rattle.soy_lexer.specs.Found.Found.{Begins, Fails}
use Rattle.soy_lexer.specs.Segment.Segment.{CommandToken}
use Rattle.soy_lexer.specs.declared.token.TokenKind.TheVariants as kind
use Rattle.soy_lexer.proofs.CommandSegments.{begins_named, begins_variable, name_at, name_after, some_parts}
use Rattle.formatted_source.specs.CommandLexemes.{HasLexemes, ends_name}
use Rattle.formatted_source.specs.CommandLexemes.CommandLexemes.{here_, token_}

pub both : (a b : Bool) → (a && b) ≡ true → (a ≡ true) × (b ≡ true)
both true b h = (refl, h)
both false b h = cc

-- a text begins with no character that passes a test
abbrev pub stops : (ℕ → Bool) → List ℕ → Bool
stops passes [] = true
stops passes (c ∷ cs) = not (passes c)

-- the longest prefix that passes a test goes up to where it stops
pub prefix_while-stops : (passes : ℕ → Bool) (text rest : List ℕ) → list_all passes text ≡ true
    → stops passes rest ≡ true
    → (prefix_while passes (text ++ rest) ≡ text) × (after_while passes (text ++ rest) ≡ rest)
prefix_while-stops passes [] [] all h = (refl, refl)
prefix_while-stops passes [] (c ∷ cs) all h =
    let none : passes c ≡ false = grind (arith, nat_tests, h) in
    (rw none refl, rw none refl)
prefix_while-stops passes (c ∷ cs) rest all h =
    let parts = both (passes c) (list_all passes cs) all in
    let more = prefix_while-stops passes cs rest parts.1 h in
    (rw (parts.0, more.0) refl, rw (parts.0, more.1) refl)

ends-stops : (rest : List ℕ) → ends_name rest ≡ true → stops continues_name rest ≡ true
ends-stops [] h = h
ends-stops (c ∷ cs) h = h

-- a name is what a text begins with, where it ends there
pub name_prefix-name : (name rest : List ℕ) → is_name name ≡ true → ends_name rest ≡ true
    → some_parts name rest ≡ name_prefix (name ++ rest)
name_prefix-name [] rest is h = cc
name_prefix-name (c ∷ cs) rest is h =
    let parts = both (begins_name c) (list_all continues_name cs) is in
    let more = prefix_while-stops continues_name cs rest parts.1 (ends-stops rest h) in
    rw (parts.0, more.0, more.1) refl

named : (name rest : List ℕ) → is_name name ≡ true → ends_name rest ≡ true
    → command_segment (name ++ rest) ≡ Begins (CommandToken kind.Word name name) rest
named [] rest is h = cc
named (c ∷ cs) rest is h =
    let begins : begins_name c ≡ true = (both (begins_name c) (list_all continues_name cs) is).0 in
    let black : is_template_space c ≡ false = grind (arith, nat_tests, begins) in
    begins_named c (cs ++ rest) black begins
    ∙ ap (λ o. unwrap_or o (Fails 0)) (name_at kind.Word ((c ∷ cs) ++ rest) (c ∷ cs) rest
    (name_prefix-name (c ∷ cs) rest is h))

-- a word
pub word_written : (name : List ℕ) → is_name name ≡ true → HasLexemes ends_name name ((kind.Word, name) ∷ [])
word_written name is rest h =
    token_ (name ++ rest) name name rest rest kind.Word [] (named name rest is h) refl (here_ rest)

-- a variable
pub variable_written : (name : List ℕ) → is_name name ≡ true
    → HasLexemes ends_name (36 ∷ name) ((kind.Variable, name) ∷ [])
variable_written name is rest h =
    token_ (36 ∷ (name ++ rest)) (36 ∷ name) name rest rest kind.Variable []
    (begins_variable 36 (name ++ rest) refl
    ∙ ap (λ o. unwrap_or o (Fails 0)) (name_after kind.Variable 36 (name ++ rest) name rest (λ z. cc)
    (name_prefix-name name rest is h)))
    refl (here_ rest)
