-- What a bundle is to the compiler (`language_of`): its translations are those that the walk chooses, and bundles that
-- bring the same are one language.
use Rattle.std.proofs.Common.{◌≡◌, ℕ, List, [], Option, Some, None, refl, sym, ap, ◌∙◌}
use Rattle.std.proofs.Common.{subst}
use Rattle.std.specs.Prelude.{Ok}
use Rattle.plural_rules.specs.Condition.{Alternatives}
use Rattle.plural_rules.specs.declared.category.Category.{Category}
use Rattle.soy_base.specs.declared.direction.Dir.{Dir}
use Rattle.soy_base.specs.declared.place.Place.{Place}
use Rattle.soy_tree.specs.declared.bundle.Bundle.{Bundle}
use Rattle.soy_tree.specs.Formed.{AreFormed}
use Rattle.soy_tree.specs.MessageParts.{MsgParts}
use Rattle.soy_tree.specs.Nodes.{Message}
use Rattle.soy_tree.specs.Trees.{Tree}
use Rattle.msg_extract.specs.Catalogue.{catalogue_of}
use Rattle.msg_extract.specs.Fits.{FitsTrees}
use Rattle.msg_extract.proofs.NoTranslation.{no_translation}
use Rattle.msg_extract.specs.declared.catalogue.Listed.{Listed}
use Rattle.msg_bundle.specs.BundlesAlike.{BundlesAlike}
use Rattle.msg_bundle.specs.Translations.{messages_of}
use Rattle.msg_bundle.proofs.FittingNames.{bundle_fits}
use Rattle.soy_meaning.specs.Walks.AcceptedTrees.{walk_trees}
use Rattle.soy_meaning.specs.Walks.Walk.{walked}
use Rattle.soy_rules.specs.Language.{Language}
use Rattle.html_context.specs.ChosenTranslation.{chosen_translation}
use Rattle.msg_extract.specs.Translations.{translation_of}
use Rattle.msg_extract.specs.LanguageOf.{language_of}
use Rattle.soy_front.specs.Accepted.{Brings}
use Rattle.soy_front.proofs.BundleTranslations.{chosen_alike}

-- ---- the translation of a message

same_translations : (bundle : Bundle) → chosen_translation bundle.messages ≡ (language_of bundle).translation
same_translations bundle = refl

-- **the walk under a bundle is the walk under the language that the compiler takes of it**
pub language_walk : (bundle : Bundle) (trees : List Tree) (places : List Place)
    → walk_trees (chosen_translation bundle.messages) trees ≡ Ok (walked [] places)
    → walk_trees (language_of bundle).translation trees ≡ Ok (walked [] places)
language_walk bundle trees places is =
    subst (λ t. walk_trees t trees ≡ Ok (walked [] places)) (same_translations bundle) is

-- ---- bundles that bring the same

abbrev language_with : (Message → Option MsgParts) → Dir → List (Category × Alternatives)
    → List (Category × Alternatives) → Language
language_with translation direction plural ordinal =
    record { translation = translation; direction = direction; plural = plural; ordinal = ordinal }

-- **bundles that bring the same are one language to the compiler**
pub languages_alike : (one other : Bundle) → BundlesAlike one other → language_of one ≡ language_of other
languages_alike one other alike =
    let translation : (language_of one).translation ≡ (language_of other).translation =
    sym (same_translations one) ∙ (chosen_alike one other alike ∙ same_translations other) in
    ap (λ t. language_with t one.dir one.plural one.ordinal) translation
    ∙ (ap (λ d. language_with (language_of other).translation d one.plural one.ordinal) alike.dir
    ∙ (ap (λ p. language_with (language_of other).translation other.dir p one.ordinal) alike.plural
    ∙ ap (λ o. language_with (language_of other).translation other.dir other.plural o) alike.ordinal))

-- ---- what is brought fits

-- **the language that a bundle brings fits the trees**
pub language_fits : (bundle : Option (List ℕ)) (rows : List Listed) (language : Bundle) (trees : List Tree)
    → Brings bundle rows language → catalogue_of trees ≡ Ok rows → AreFormed trees
    → FitsTrees (translation_of language.messages) trees
language_fits None rows language trees brings catalogue formed =
    subst (λ (l : Bundle). FitsTrees (translation_of l.messages) trees) (sym brings) (no_translation trees)
language_fits (Some bytes) rows language trees brings catalogue formed =
    bundle_fits rows (messages_of brings.json) language.messages trees brings.is.messages catalogue formed
