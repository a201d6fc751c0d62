use Rattle.std.proofs.Common.{ℕ, false, List, [], refl, subst, append-nil}
use Rattle.soy_tree.specs.MessageParts.{no_part}
use Rattle.soy_rules.specs.IcuText.{AtTop, Reads, stop, with_text}
use Rattle.msg_extract.specs.Canonical.CanonicalText.{written_text}
use Rattle.msg_extract.proofs.Texts.WrittenText.{text_reads}
use Rattle.msg_extract.proofs.laws.law_written_text.Goals as goal

pub returns-clause-before_more : goal.returns-clause-before_more
returns-clause-before_more c =
    λ mode n text rest end ps no_quote reads. text_reads mode n rest ps end no_quote reads text

pub returns-clause-pattern : goal.returns-clause-pattern
returns-clause-pattern c = λ text.
    subst (λ t. Reads AtTop 64 t (with_text text no_part) []) (append-nil (written_text false text))
    (text_reads AtTop 64 [] no_part [] refl (stop []) text)
