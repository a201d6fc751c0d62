-- What goes with a refusal of files and a bundle is what goes with its fault by the rule that finds it.
use Rattle.std.proofs.Common.{◌≡◌, ℕ, List, Option, refl, ap, ◌∙◌, subst, inl, inr}
use Rattle.soy_base.specs.declared.fault.Fault.{Fault}
use Rattle.soy_tree.specs.declared.tree.Tree.{Tree}
use Rattle.msg_bundle.proofs.OneAnswer.{bundle_apart}
use Rattle.msg_extract.specs.declared.catalogue.Listed.{Listed}
use Rattle.soy_front.specs.Accepted.FilesFault.{Large, Own, Demand, Clash}
use Rattle.soy_front.specs.Accepted.FirstFault.{OfFiles, OfLanguage}
use Rattle.soy_front.specs.Accepted.LanguageFault.{Unread, Walk}
use Rattle.soy_front.specs.Accepted.{Brings, FilesFault, FirstFault, LanguageFault}
use Rattle.soy_front.specs.DetailAnswer.{demand_detail, detail_by_files, files_detail, front_detail, language_detail}
use Rattle.soy_front.specs.DetailAnswer.{trees_detail, walk_detail}
use Rattle.soy_front.specs.Details.{fault_detail, files_fault_detail, language_fault_detail}
use Rattle.soy_front.specs.FilesAnswer.{trees_from, unless_large}
use Rattle.soy_front.specs.FilesDeserve.{AreWithin}
use Rattle.soy_front.specs.FrontAnswer.{LanguageOrFault, language_or_fault}
use Rattle.soy_front.specs.declared.fault.FrontFault.{FrontFault}
use Rattle.soy_front.proofs.DetailParts.{language_walked}
use Rattle.soy_front.proofs.FilesLaws.{fault_had, files_had, large_had, none_large, own_fault, trees_had, trees_within}

-- of files within the limit
within_detail : (contents : List (List ℕ)) → AreWithin contents
    → files_detail contents ≡ trees_detail (trees_from 0 contents)
within_detail contents within =
    ap (λ o. trees_detail (unless_large o (trees_from 0 contents))) (none_large 0 contents within)

files_rule : (contents : List (List ℕ)) (fault : Fault) (f : FilesFault contents fault)
    → files_detail contents ≡ files_fault_detail contents fault f
files_rule contents fault (Large large) =
    ap (λ o. trees_detail (unless_large o (trees_from 0 contents))) (large_had contents fault large)
files_rule contents fault (Own within own) =
    within_detail contents within ∙ ap trees_detail (own_fault contents fault own)
files_rule contents fault (Demand trees found have fails is) =
    within_detail contents (trees_within contents trees have)
    ∙ (ap trees_detail (trees_had 0 contents trees have) ∙ ap demand_detail fails)
files_rule contents fault (Clash trees have demands clash) =
    within_detail contents (trees_within contents trees have)
    ∙ (ap trees_detail (trees_had 0 contents trees have) ∙ ap demand_detail demands)

language_rule : (trees : List Tree) (rows : List Listed) (bundle : Option (List ℕ)) (fault : FrontFault)
    (f : LanguageFault trees rows bundle fault) (either : LanguageOrFault bundle rows)
    → language_detail trees rows bundle either ≡ language_fault_detail trees rows bundle fault f
language_rule trees rows bundle _ (Unread bytes fault is refuses) (inl brought) =
    absurd (bundle_apart bytes rows brought.0 fault (subst (λ b. Brings b rows brought.0) is brought.1) refuses)
language_rule trees rows bundle _ (Unread bytes fault is refuses) (inr refused) = refl
language_rule trees rows bundle _ (Walk language f brings fails) either =
    language_walked trees rows bundle language brings either ∙ ap walk_detail fails

pub detail_rule : (contents : List (List ℕ)) (bundle : Option (List ℕ)) (fault : FrontFault)
    (first : FirstFault contents bundle fault)
    → front_detail contents bundle ≡ fault_detail contents bundle fault first
detail_rule contents bundle _ (OfFiles fault f) =
    ap (detail_by_files bundle (files_detail contents)) (fault_had contents fault f) ∙ files_rule contents fault f
detail_rule contents bundle fault (OfLanguage trees rows _ are f) =
    ap (detail_by_files bundle (files_detail contents)) (files_had contents trees rows are)
    ∙ language_rule trees rows bundle fault f (language_or_fault bundle rows)
