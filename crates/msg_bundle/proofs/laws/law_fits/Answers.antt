use Rattle.msg_extract.proofs.NoTranslation.{no_translation}
use Rattle.msg_bundle.specs.Translations.{messages_of}
use Rattle.msg_bundle.proofs.FittingNames.{bundle_fits}
use Rattle.msg_bundle.proofs.laws.law_fits.Goals as goal

pub returns-clause-read : goal.returns-clause-read
returns-clause-read c = λ bytes rows bundle trees is catalogue formed.
    bundle_fits rows (messages_of is.json) bundle.messages trees is.is.messages catalogue formed

pub returns-clause-source : goal.returns-clause-source
returns-clause-source c = no_translation
