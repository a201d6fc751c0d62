-- Files that are held and within their limits don't stand in the way of an answer, which is then that by their
-- contents.
use Rattle.std.proofs.Common.{◌≡◌, ◌≤◌, ℕ, Bool, true, false, cond, List, [], ◌∷◌, ◌++◌, length, map, Option}
use Rattle.std.proofs.Common.{Some, None, refl, ap, ◌∙◌, codes}
use Rattle.std.specs.Prelude.{is_some, unwrap_or, nat_lt}
use Rattle.std.specs.Option.{option_map_or}
use Rattle.std.proofs.lemmas.Bool.{le-ltb}
use Rattle.std.proofs.lemmas.Slice.Eq.{bytes_eq-Decides}
use Rattle.soy_front.specs.FilesDeserve.{AreWithin}
use Rattle.soy_front.specs.FrontAnswer.{Front}
use Rattle.soy_front.proofs.FilesLaws.{trees_within}
use Rattle.soy_io.specs.FileOf.{Files, file_of}
use Rattle.soy_top.specs.Answer.{Answer, Read, Refused, Usage, accepted_then}
use Rattle.soy_top.specs.Answer.{answer, asked_answer, contents_answer}
use Rattle.soy_top.specs.Answer.{limits_answer}
use Rattle.soy_top.specs.Asked.{Asked, asked_by_words}
use Rattle.soy_top.specs.FilesWanted.{FileWanted, asked_files, bundle_files, content, contents, data_file}
use Rattle.soy_top.specs.FilesWanted.{first_not_held, first_over_limit, is_source_language, source_file}
use Rattle.soy_top.specs.Commands.HoldsInputs.{HoldsBundle, HoldsData}
use Rattle.soy_top.specs.Inputs.{bundle_content, but_last, last}
use Rattle.soy_top.specs.Line.{too_large_line}
use Rattle.soy_top.specs.Numbered.{numbered}
use Rattle.soy_top.specs.Words.{Word}
use Rattle.soy_top.specs.Commands.AcceptedRender.{AcceptedPage}
use Rattle.soy_top.proofs.Contents.HeldContents.{before_named, last_named}

module _ (files : Files) where
  -- a file of data doesn't stand in the way of those behind it
  pub data_not_missing : (name : Word) (bytes : List ℕ) (rest : List FileWanted) → HoldsData files name bytes
      → first_not_held files (data_file name ∷ rest) ≡ first_not_held files rest
  data_not_missing name bytes rest held =
      ap (λ o. cond (is_some o) (first_not_held files rest) (Some name)) held.0

  -- its content is its bytes
  pub data_content : (name : Word) (bytes : List ℕ) → HoldsData files name bytes
      → content files (data_file name) ≡ bytes
  data_content name bytes held = ap (λ o. unwrap_or o []) held.0

  -- nor does it by its size
  pub data_not_large : (name : Word) (bytes : List ℕ) (rest : List FileWanted) → HoldsData files name bytes
      → first_over_limit files (data_file name ∷ rest) ≡ first_over_limit files rest
  data_not_large name bytes rest held =
      ap (λ bs. cond (nat_lt 4194304 (length bs)) (Some name) (first_over_limit files rest))
      (data_content name bytes held)
      ∙ ap (λ b. cond b (Some name) (first_over_limit files rest)) (le-ltb 4194304 (length bytes) held.1)

  -- files by their names and contents, none of which stands in the way
  pub record AreReady (wanted : List FileWanted) (bytes : List (List ℕ)) : Type 0 where
    pub held : first_not_held files wanted ≡ None
    pub within : first_over_limit files wanted ≡ None
    pub same : contents files wanted ≡ bytes

  -- one more template file before others
  pub source_ready : (name : Word) (bytes : List ℕ) (names : List Word) (rest : List (List ℕ))
      → file_of files name ≡ Some bytes → length bytes ≤ 1048576 → AreReady (map source_file names) rest
      → AreReady (map source_file (name ∷ names)) (bytes ∷ rest)
  source_ready name bytes names rest held few ready =
      let same : content files (source_file name) ≡ bytes = ap (λ o. unwrap_or o []) held in
      record {
        held = ap (λ o. cond (is_some o) (first_not_held files (map source_file names)) (Some name)) held ∙ ready.held;
        within = ap (λ bs. cond (nat_lt 1048576 (length bs)) (Some name)
            (first_over_limit files (map source_file names))) same
            ∙ (ap (λ b. cond b (Some name) (first_over_limit files (map source_file names)))
            (le-ltb 1048576 (length bytes) few) ∙ ready.within);
        same = ap (λ bs. bs ∷ contents files (map source_file names)) same ∙ ap (λ bss. bytes ∷ bss) ready.same;
      }

  -- template files that are held, within the limit of what is accepted
  pub sources_ready : (names : List Word) (bytes : List (List ℕ)) → map (file_of files) names ≡ map Some bytes
      → AreWithin bytes → AreReady (map source_file names) bytes
  sources_ready [] [] held within = record { held = refl; within = refl; same = refl }
  sources_ready [] (b ∷ bytes) held within = let no : ⊥ = cc in absurd no
  sources_ready (name ∷ names) [] held within = let no : ⊥ = cc in absurd no
  sources_ready (name ∷ names) (b ∷ bytes) held within =
      let first : file_of files name ≡ Some b = cc in
      let rest : map (file_of files) names ≡ map Some bytes = cc in
      source_ready name b names bytes first within.0 (sources_ready names bytes rest within.1)

  -- a bundle before them: the content is that of its number, where so many are before it
  pub record BundleReady (bundle : Word) (bytes : Option (List ℕ)) (sources : List FileWanted) : Type 0 where
    pub held : first_not_held files (bundle_files bundle ++ sources) ≡ None
    pub within : first_over_limit files (bundle_files bundle ++ sources) ≡ None
    pub alone : bundle_content bundle 0 (contents files (bundle_files bundle)) ≡ bytes
    pub behind : (first : List ℕ) → bundle_content bundle 1 (first ∷ contents files (bundle_files bundle)) ≡ bytes

  -- the bundle `-` is the source language, and no other is
  pub is_language : (bundle : Word) → bundle ≡ codes "-" → is_source_language bundle ≡ true
  is_language bundle is = (bytes_eq-Decides bundle (codes "-")).1 is

  pub no_language : (bundle : Word) (b : Bool) → is_source_language bundle ≡ b → (bundle ≡ codes "-" → ⊥)
      → is_source_language bundle ≡ false
  no_language bundle true e never = absurd (never ((bytes_eq-Decides bundle (codes "-")).0 e))
  no_language bundle false e never = e

  -- a bundle that is held, or none, before files none of which stands in the way
  pub bundle_ready : (bundle : Word) (bytes : Option (List ℕ)) (sources : List FileWanted)
      → HoldsBundle files bundle bytes → first_not_held files sources ≡ None → first_over_limit files sources ≡ None
      → BundleReady bundle bytes sources
  bundle_ready bundle None sources held none within =
      let is = is_language bundle held in
      record {
        held = ap (λ b. first_not_held files (cond b [] (data_file bundle ∷ []) ++ sources)) is ∙ none;
        within = ap (λ b. first_over_limit files (cond b [] (data_file bundle ∷ []) ++ sources)) is ∙ within;
        alone = ap (λ b. cond b None (Some (numbered 0 (contents files (cond b [] (data_file bundle ∷ [])))))) is;
        behind = λ first.
            ap (λ b. cond b None (Some (numbered 1 (first ∷ contents files (cond b [] (data_file bundle ∷ [])))))) is;
      }
  bundle_ready bundle (Some bytes) sources held none within =
      let is = no_language bundle (is_source_language bundle) refl held.0 in
      let same = ap Some (data_content bundle bytes held.1) in
      record {
        held = ap (λ b. first_not_held files (cond b [] (data_file bundle ∷ []) ++ sources)) is
            ∙ (data_not_missing bundle bytes sources held.1 ∙ none);
        within = ap (λ b. first_over_limit files (cond b [] (data_file bundle ∷ []) ++ sources)) is
            ∙ (data_not_large bundle bytes sources held.1 ∙ within);
        alone = ap (λ b. cond b None (Some (numbered 0 (contents files (cond b [] (data_file bundle ∷ [])))))) is
            ∙ same;
        behind = λ first.
            ap (λ b. cond b None (Some (numbered 1 (first ∷ contents files (cond b [] (data_file bundle ∷ [])))))) is
            ∙ same;
      }

  -- where none of the files that are wanted stands in the way, the answer is that by their contents
  pub ready_answer : (words : List Word) (asked : Asked) → asked_by_words words ≡ Some asked
      → first_not_held files (asked_files asked) ≡ None → first_over_limit files (asked_files asked) ≡ None
      → answer files words ≡ contents_answer asked (contents files (asked_files asked))
  ready_answer words asked is held within =
      ap (λ o. option_map_or (asked_answer files) o Usage) is
      ∙ (ap (λ o. option_map_or Read o (limits_answer files asked (asked_files asked))) held
      ∙ ap (λ o. option_map_or (λ file. Refused (too_large_line file)) o
      (contents_answer asked (contents files (asked_files asked)))) within)

-- ---- inputs that are accepted

-- of the words of a command that wants a page
module _ (command : Word) (files : Files) (words : List Word) (r : AcceptedPage command files words) where
  abbrev pub before : List FileWanted
  before = data_file r.json_name ∷ bundle_files r.bundle

  abbrev pub sources : List FileWanted
  sources = map source_file r.names

  ready : AreReady files sources r.contents
  ready =
      sources_ready files r.names r.contents r.files_held.1
      (trees_within r.contents r.of.files.trees r.deserved.files.have)

  with_bundle : BundleReady files r.bundle r.content sources
  with_bundle = bundle_ready files r.bundle r.content sources r.bundle_held ready.held ready.within

  -- none of its files stands in the way
  pub not_missing : first_not_held files (before ++ sources) ≡ None
  not_missing =
      data_not_missing files r.json_name r.json (bundle_files r.bundle ++ sources) r.json_held ∙ with_bundle.held

  pub not_large : first_over_limit files (before ++ sources) ≡ None
  not_large =
      data_not_large files r.json_name r.json (bundle_files r.bundle ++ sources) r.json_held ∙ with_bundle.within

  json_is : numbered 0 (contents files before) ≡ r.json
  json_is = data_content files r.json_name r.json r.json_held

  -- **what is answered by all contents is answered by those that are accepted**
  pub accepted_is : (inputs : List (List ℕ) → List (List ℕ) → Answer) (answer : List ℕ → Front → Answer)
      → ((given : List (List ℕ)) → inputs given r.contents
      ≡ accepted_then r.names r.contents r.bundle (bundle_content r.bundle 1 given) (answer (numbered 0 given)))
      → inputs (but_last (length r.names) (contents files (before ++ sources)))
      (last (length r.names) (contents files (before ++ sources)))
      ≡ accepted_then r.names r.contents r.bundle r.content (answer r.json)
  accepted_is inputs answer is =
      ap (λ x. inputs x (last (length r.names) (contents files (before ++ sources))))
      (before_named files before r.names)
      ∙ (ap (inputs (contents files before)) (last_named files before r.names ∙ ready.same)
      ∙ (is (contents files before)
      ∙ (ap (λ j. accepted_then r.names r.contents r.bundle (bundle_content r.bundle 1 (contents files before))
      (answer j)) json_is
      ∙ ap (λ c. accepted_then r.names r.contents r.bundle c (answer r.json))
      (with_bundle.behind (content files (data_file r.json_name))))))
