use Rattle.std.proofs.Common.{◌≡◌, ℕ, [], None, Some, true, sym, ◌∙◌, ap}
use Rattle.soy_lexer.specs.declared.mode.Mode.TheVariants.{Outside}
use Rattle.soy_lexer.specs.Tokens.{tokens_of}
use Rattle.soy_lexer.proofs.OneSegments.{one_segments}
use Rattle.soy_lexer.proofs.SomeSegments.{tokens_or_fault}
use Rattle.soy_lexer.proofs.laws.law_tokens_unique.Goals as goal

none_some : (n : ℕ) → None ≡ Some n → ⊥
none_some n e = cc

same_some : (m n : ℕ) → Some m ≡ Some n → m ≡ n
same_some m n e = cc

pub returns-clause-one_list : goal.returns-clause-one_list
returns-clause-one_list c = λ text first second one two.
    one.tokens_are
    ∙ ap (λ ps. tokens_of 0 [] ps)
    (one_segments 0 (Outside true) text one.segments two.segments None None one.whole two.whole).0
    ∙ sym two.tokens_are

pub returns-clause-one_fault : goal.returns-clause-one_fault
returns-clause-one_fault c = λ text first second one two.
    same_some first second (one_segments 0 (Outside true) text one.segments two.segments (Some first) (Some second)
    one.prefix
    two.prefix).1

pub returns-clause-never_both : goal.returns-clause-never_both
returns-clause-never_both c = λ text tokens offset one two.
    none_some offset (one_segments 0 (Outside true) text one.segments two.segments None (Some offset) one.whole
    two.prefix).1

pub returns-clause-either : goal.returns-clause-either
returns-clause-either c = tokens_or_fault
