use Rattle.msg_extract.specs.Canonical.CanonicalText.{canonical_text}
use Rattle.msg_extract.proofs.Texts.CanonicalReads.{canonical_reads}
use Rattle.msg_extract.proofs.NoTranslation.{no_translation}
use Rattle.msg_extract.proofs.Naming.OwnNames.{own_names}
use Rattle.msg_extract.proofs.laws.law_fits.Goals as goal

pub returns-clause-own_text : goal.returns-clause-own_text
returns-clause-own_text c = λ desc meaning body span formed within. record {
  text = canonical_text body;
  pattern = canonical_reads body formed within;
  names = own_names desc meaning body span;
}

pub returns-clause-no_translations : goal.returns-clause-no_translations
returns-clause-no_translations c = no_translation
