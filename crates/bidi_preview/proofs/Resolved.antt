-- The rules from W1 to I2 over two lists, of classes and of brackets.
use Rattle.std.proofs.Common.{◌≡◌, ℕ, List, [], ◌∷◌, map, length, refl, sym, ap, ◌∙◌, arith, Option}
use Rattle.bidi_class.specs.declared.class.Class.{Class}
use Rattle.bidi_class.specs.declared.brackets.Bracket.{Bracket}
use Rattle.bidi_order.specs.DirectionalStatus.{is_odd}
use Rattle.bidi_order.specs.Explicit.{SequenceCharacter}
use Rattle.bidi_order.specs.Resolve.{bracket_pairs_from, brackets_of, implicit, is_nonspacing, n0, n1}
use Rattle.bidi_order.specs.Resolve.{neutral_bracket}
use Rattle.bidi_order.specs.Resolve.{pairs_in_order, resolve, weak_types}
use Rattle.bidi_text.specs.Estimate.{is_right_to_left}
use Rattle.bidi_preview.specs.NeutralSteps.{characters_of, counting_brackets}

classes-of : (given : List Class) (brackets : List (Option Bracket)) → length brackets ≡ length given
    → map (λ (s : SequenceCharacter). s.class) (characters_of given brackets) ≡ given
classes-of [] brackets long = refl
classes-of (c ∷ given) [] long = absurd (omega arith)
classes-of (c ∷ given) (b ∷ brackets) long = ap (λ l. c ∷ l) (classes-of given brackets (omega arith))

counting : (weakened given : List Class) (brackets : List (Option Bracket)) → length weakened ≡ length given
    → length brackets ≡ length given → brackets_of weakened (characters_of given brackets)
    ≡ counting_brackets weakened brackets
counting [] given brackets long also = refl
counting (w ∷ weakened) [] brackets long also = absurd (omega arith)
counting (w ∷ weakened) (c ∷ given) [] long also = absurd (omega arith)
counting (w ∷ weakened) (c ∷ given) (b ∷ brackets) long also =
    ap (λ l. neutral_bracket w b ∷ l) (counting weakened given brackets (omega arith) (omega arith))

pub resolved_by : (level : ℕ) (sos eos : Class) (given : List Class) (brackets : List (Option Bracket))
    → length brackets ≡ length given → length (weak_types sos given) ≡ length given
    → map (implicit level) (n1 (is_odd level) (is_right_to_left sos) (is_right_to_left eos)
    (n0 (is_odd level) (is_right_to_left sos) (map is_nonspacing given)
    (pairs_in_order (bracket_pairs_from 0 [] (counting_brackets (weak_types sos given) brackets)))
    (weak_types sos given)))
    ≡ resolve level sos eos (characters_of given brackets)
unfolding resolve
resolved_by level sos eos given brackets long weak = sym (
    ap (λ g. by g (brackets_of (weak_types sos g) (characters_of given brackets))) (classes-of given brackets long)
    ∙ ap (by given) (counting (weak_types sos given) given brackets weak long))
  where
    by : List Class → List (Option Bracket) → List ℕ
    by g bs = map (implicit level) (n1 (is_odd level) (is_right_to_left sos) (is_right_to_left eos)
        (n0 (is_odd level) (is_right_to_left sos) (map is_nonspacing g)
        (pairs_in_order (bracket_pairs_from 0 [] bs)) (weak_types sos g)))
