-- The trees of files, one after the other.
use Rattle.std.proofs.Common.{◌≡◌, ℕ, zero, suc, ◌+◌, ◌<◌, List, [], ◌∷◌, ◌++◌, length, drop, slice_index_or, refl, sym}
use Rattle.std.proofs.Common.{ap, ◌∙◌, subst, arith, append_assoc, append-nil}
use Rattle.std.specs.Prelude.{Result, Ok, Err}
use Rattle.soy_base.specs.declared.fault.Fault.{Fault}
use Rattle.soy_base.specs.declared.memory.Refusal.{Refusal}
use Rattle.soy_base.specs.declared.memory.Refusal.TheVariants.{Because, OutOfMemory}
use Rattle.soy_tree.specs.declared.tree.Tree.{Tree}
use Rattle.soy_rules.specs.Faults.{followed_by}
use Rattle.soy_front.specs.FilesAnswer.{trees_from, with_tree}
use Rattle.soy_front.specs.ReadsFiles.{InFile, ReadsTrees}
use Rattle.soy_front.specs.ReadsSource.{ReadsSource}
use Rattle.soy_front.specs.Sources.{source_answer}
use Rattle.soy_front.specs.ViewSources.{view_contents}
use Rattle.soy_front.specs.declared.source.Source.{Source}

-- trees, and then those of the files that follow
abbrev pub after_trees : List Tree → Result (List Tree) Fault → Result (List Tree) Fault
after_trees done rest = followed_by rest (λ trees. Ok (done ++ trees))

contents-drop : (sources : List Source) (i : ℕ) (s : Source) → i < length sources → s ≡ slice_index_or sources i s
    → view_contents (drop i sources) ≡ s.bytes ∷ view_contents (drop (i + 1) sources)
contents-drop [] i s below is = absurd (omega arith)
contents-drop (x ∷ sources) zero s below is = rw is refl
contents-drop (x ∷ sources) (suc i) s below is =
    let e : suc i + 1 ≡ suc (i + 1) = omega arith in rw e (contents-drop sources i s (omega arith) is)

-- the files from an index on
pub trees_left : (sources : List Source) (i : ℕ) (s : Source) → i < length sources → s ≡ slice_index_or sources i s
    → trees_from i (view_contents (drop i sources))
    ≡ with_tree i (source_answer s.bytes) (trees_from (i + 1) (view_contents (drop (i + 1) sources)))
trees_left sources i s below is = ap (trees_from i) (contents-drop sources i s below is)

one_more : (done : List Tree) (tree : Tree) (file : ℕ) (rest : Result (List Tree) Fault)
    → after_trees done (with_tree file (Ok tree) rest) ≡ after_trees (done ++ tree ∷ []) rest
one_more done tree file (Ok trees) = ap Ok (sym (append_assoc done (tree ∷ []) trees))
one_more done tree file (Err fault) = refl

pub goes_on : (whole : Result (List Tree) Fault) (done : List Tree) (file : ℕ) (bytes : List ℕ) (tree : Tree)
    (rest : Result (List Tree) Fault) → whole ≡ after_trees done (with_tree file (source_answer bytes) rest)
    → source_answer bytes ≡ Ok tree → whole ≡ after_trees (done ++ tree ∷ []) rest
goes_on whole done file bytes tree rest e read =
    e ∙ (ap (λ r. after_trees done (with_tree file r rest)) read ∙ one_more done tree file rest)

pub stops : (whole : Result (List Tree) Fault) (done : List Tree) (file : ℕ) (bytes : List ℕ)
    (rest : Result (List Tree) Fault) (refusal out : Refusal Fault)
    → whole ≡ after_trees done (with_tree file (source_answer bytes) rest)
    → ReadsSource (source_answer bytes) (Err refusal) → InFile file refusal out → ReadsTrees whole (Err out)
stops whole done file bytes rest (Because fault) out e read is =
    subst (λ o. ReadsTrees whole (Err o)) (sym is)
    (e ∙ ap (λ r. after_trees done (with_tree file r rest)) read)
stops whole done file bytes rest OutOfMemory out e read is = subst (λ o. ReadsTrees whole (Err o)) (sym is) tt

pub ends : (whole : Result (List Tree) Fault) (done : List Tree) (file : ℕ) (left : List Source)
    → whole ≡ after_trees done (trees_from file (view_contents left)) → left ≡ [] → whole ≡ Ok done
ends whole done file left e none =
    e ∙ (ap (λ (l : List Source). after_trees done (trees_from file (view_contents l))) none ∙ ap Ok (append-nil done))
