use Rattle.std.proofs.Common.{◌≡◌, ℕ, ◌≤◌, List, true, subst}
use Rattle.soy_tree.specs.Nodes.{MessageBody}
use Rattle.soy_tree.specs.Formed.{is_formed_body, nesting}
use Rattle.soy_rules.specs.IcuText.{IsPattern}
use Rattle.icu_text.proofs.PatternComplete.{one_pattern}
use Rattle.msg_extract.specs.Canonical.CanonicalText.{canonical_text}
use Rattle.msg_extract.specs.Canonical.SourceParts.{source_parts}
use Rattle.msg_extract.proofs.Texts.CanonicalReads.{canonical_reads}
use Rattle.msg_extract.proofs.Texts.TextOfParts.{equal_texts}
use Rattle.msg_bundle.proofs.laws.law_equal_texts.Goals as goal

-- a text is one pattern at most
equal_parts : (a b : MessageBody) → is_formed_body a ≡ true → is_formed_body b ≡ true → nesting a ≤ 63 → nesting b ≤ 63
    → canonical_text a ≡ canonical_text b → source_parts a ≡ source_parts b
equal_parts a b f g m n same =
    one_pattern (canonical_text b) (source_parts a) (source_parts b)
    (subst (λ (text : List ℕ). IsPattern text (source_parts a)) same (canonical_reads a f m)) (canonical_reads b g n)

pub returns-clause-exactly : goal.returns-clause-exactly
returns-clause-exactly c = λ a b f g m n d e. (equal_parts a b f g m n, equal_texts a b f g d e)

pub returns-clause-same_parts : goal.returns-clause-same_parts
returns-clause-same_parts c = equal_parts
