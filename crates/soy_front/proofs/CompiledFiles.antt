-- The program that is built of accepted files stands for them, and gives what they give.
use Rattle.std.proofs.Common.{◌≡◌, ℕ, List, [], Option, sym, subst}
use Rattle.std.specs.Prelude.{Ok, Err}
use Rattle.soy_base.specs.declared.memory.Refusal.{Refusal}
use Rattle.soy_base.specs.declared.memory.Refusal.TheVariants.{Because, OutOfMemory}
use Rattle.soy_tree.specs.Formed.{AreFormed}
use Rattle.soy_rules.specs.Templates.{declared}
use Rattle.soy_tree.specs.ViewTrees.{view_trees}
use Rattle.msg_extract.specs.Fits.{FitsTrees}
use Rattle.soy_meaning.specs.Walks.AcceptedTrees.{walk_trees}
use Rattle.soy_meaning.specs.Runs.TypedData.{AreTypedTrees}
use Rattle.soy_meaning.specs.Walks.Walk.{walked}
use Rattle.template_ir.specs.Compiles.{Compiles}
use Rattle.soy_rules.specs.Language.{Language}
use Rattle.template_ir.specs.ViewOps.{view_program}
use Rattle.template_ir.specs.declared.program.ProgramParts.{ProgramParts}
use Rattle.template_ir.proofs.CompiledRuns.{compiled_input}
use Rattle.ir_build.proofs.FittingTrees.{trees_fit}
use Rattle.msg_extract.specs.Translations.{translation_of}
use Rattle.msg_extract.specs.LanguageOf.{language_of}
use Rattle.soy_front.specs.Accepts.{Accepts, AreAcceptedAs, Decides}
use Rattle.soy_front.specs.Compiled.{AreCompiled, CompilesFiles, GivesTheSame}
use Rattle.soy_front.specs.HasDetail.{without_detail}
use Rattle.soy_front.specs.declared.accepting.AcceptedFiles.{AcceptedFiles}
use Rattle.soy_front.specs.declared.fault.Detailed.{Detailed}
use Rattle.soy_front.specs.declared.fault.FrontFault.{FrontFault}
use Rattle.soy_front.proofs.EntryNumbers.{entries_same}
use Rattle.soy_front.proofs.FormedSources.{trees_formed}
use Rattle.soy_front.proofs.FrontAnswers.{accepted_answered}
use Rattle.soy_front.proofs.LanguageOf.{language_fits, language_walk, languages_alike}

-- ---- the program

module _ (contents : List (List ℕ)) (bundle : Option (List ℕ)) (a : AcceptedFiles)
    (accepted : AreAcceptedAs contents bundle a) where
  formed : AreFormed (view_trees a.files.typed)
  formed = trees_formed contents a.files.typed accepted.files.have

  pub accepted_fits : FitsTrees (translation_of a.language.bundle.messages) (view_trees a.files.typed)
  accepted_fits =
      language_fits bundle a.files.catalogue.messages a.language.bundle (view_trees a.files.typed)
      accepted.language.brings accepted.files.catalogue formed

  pub accepted_walk : walk_trees (language_of a.language.bundle).translation (view_trees a.files.typed)
      ≡ Ok (walked [] a.language.places.prints)
  accepted_walk =
      language_walk a.language.bundle (view_trees a.files.typed) a.language.places.prints accepted.language.walk

  module _ (p : ProgramParts)
      (compiles : Compiles (view_trees a.files.typed) a.language.places.prints (language_of a.language.bundle)
      (view_program p)) where
    gives : GivesTheSame (view_trees a.files.typed) (language_of a.language.bundle) (view_program p)
    gives number d found input fits =
        let typed : AreTypedTrees (view_trees a.files.typed) =
        record { demands = accepted.files.demands; formed = formed } in
        let all = trees_fit (translation_of a.language.bundle.messages) 0 (view_trees a.files.typed) formed
        accepted_fits in
        compiled_input (view_trees a.files.typed) (language_of a.language.bundle)
        (walked [] a.language.places.prints) (view_program p) typed all.0 accepted_walk compiles number d found input
        fits

    -- **the program is that of what is answered of the files and the bundle**
    pub compiled_as : AreCompiled contents bundle (record {
      typed = a.files.typed;
      catalogue = a.files.catalogue;
      program = p;
      dir = a.language.bundle.dir;
    })
    compiled_as =
        let front = accepted_answered contents bundle a accepted in
        let same : language_of a.language.bundle ≡ language_of front.of.language =
        sym (languages_alike front.of.language a.language.bundle front.language) in
        let trees = view_trees a.files.typed in
        let places = a.language.places.prints in
        record {
          of = front.of;
          answered = front.answered;
          files = front.files;
          direction = sym front.language.dir;
          places = places;
          walk = subst (λ (l : Language). walk_trees l.translation trees ≡ Ok (walked [] places)) same accepted_walk;
          compiles = subst (λ (l : Language). Compiles trees places l (view_program p)) same compiles;
          gives = subst (λ (l : Language). GivesTheSame trees l (view_program p)) same gives;
          entries = λ name. entries_same (language_of a.language.bundle) (declared trees) places (view_program p).ops
              name p.templates compiles.templates;
        }

-- ---- refusals

pub refused_same : (contents : List (List ℕ)) (bundle : Option (List ℕ)) (refusal : Refusal (Detailed FrontFault))
    → Accepts contents bundle (without_detail (Err refusal))
    → CompilesFiles contents bundle (without_detail (Err refusal))
refused_same contents bundle (Because r) is = is
refused_same contents bundle OutOfMemory is = tt

pub refused_decides : (A B : Type 0) (holds : Type 0) (refusal : Refusal (Detailed FrontFault))
    → Decides {A = A} holds (without_detail (Err refusal)) → Decides {A = B} holds (without_detail (Err refusal))
refused_decides A B holds (Because r) is = is
refused_decides A B holds OutOfMemory is = tt
