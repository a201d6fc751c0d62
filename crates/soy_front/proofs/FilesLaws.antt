-- What files are answered by is what they deserve, and nothing else.
use Rattle.std.proofs.Common.{◌≡◌, ℕ, ◌+◌, List, [], ◌∷◌, ◌++◌, length, Option, Some, None, refl, sym, ap, ◌∙◌, subst}
use Rattle.std.proofs.Common.{◌≤◌, ◌<◌, Bool, true, false, nat_lt, arith}
use Rattle.std.proofs.lemmas.Bool.{lt-ltb, ltb-true, ltb-false}
use Rattle.std.specs.Prelude.{Result, Ok, Err, if◌then◌else◌}
use Rattle.soy_base.specs.declared.fault.Fault.{Fault}
use Rattle.soy_base.specs.Limits.{largest_file}
use Rattle.soy_tree.specs.declared.tree.Tree.{Tree}
use Rattle.soy_rules.specs.Demands.{CheckFault, check_fault}
use Rattle.soy_rules.specs.Faults.{followed_by}
use Rattle.soy_tree.specs.ViewTrees.{view_trees}
use Rattle.msg_extract.specs.Catalogue.{catalogue_of}
use Rattle.msg_extract.specs.declared.catalogue.Listed.{Listed}
use Rattle.soy_front.specs.Accepted.{AreFiles, FilesFault}
use Rattle.soy_front.specs.Accepted.FilesFault.{Large, Own, Demand, Clash}
use Rattle.soy_front.specs.Deserves.{Deserves}
use Rattle.soy_front.specs.Deserves.Deserves.{NotUtf8, TooLarge, NoToken, NoFile, File}
use Rattle.soy_front.specs.FilesAnswer.{ReadFiles, catalogued, demanded, fault_in, files_answer, large_from}
use Rattle.soy_front.specs.FilesAnswer.{too_large, trees_answer, trees_from, unless_found, unless_large, with_tree}
use Rattle.soy_front.specs.FilesDeserve.{AreWithin, HaveTrees, HasLargeFile, HasOwnFault}
use Rattle.soy_front.specs.FilesDeserve.HaveTrees.{none, one_more}
use Rattle.soy_front.specs.Sources.{source_answer}
use Rattle.soy_front.proofs.SourceLaws.{deserved, only}

-- ---- only what is deserved is answered

pub trees_had : (file : ℕ) (contents : List (List ℕ)) (trees : List Tree) → HaveTrees contents trees
    → trees_from file contents ≡ Ok trees
trees_had file _ _ none = refl
trees_had file _ _ (one_more bytes tree contents trees d h) =
    ap (λ r. with_tree file r (trees_from (file + 1) contents)) (only bytes (Ok tree) d)
    ∙ ap (λ r. with_tree file (Ok tree) r) (trees_had (file + 1) contents trees h)

own_first : (file : ℕ) (before : List (List ℕ)) (trees : List Tree) (bytes : List ℕ) (after : List (List ℕ))
    (own : Fault) → HaveTrees before trees → source_answer bytes ≡ Err own
    → trees_from file (before ++ bytes ∷ after) ≡ Err (fault_in (file + length before) own)
own_first file _ _ bytes after own none read =
    let same : file ≡ file + 0 = omega arith in
    ap (λ r. with_tree file r (trees_from (file + 1) after)) read ∙ ap (λ n. Err (fault_in n own)) same
own_first file _ _ bytes after own (one_more first tree before trees d h) read =
    let same : (file + 1) + length before ≡ file + length (first ∷ before) = omega arith in
    ap (λ r. with_tree file r (trees_from (file + 1) (before ++ bytes ∷ after))) (only first (Ok tree) d)
    ∙ (ap (λ r. with_tree file (Ok tree) r) (own_first (file + 1) before trees bytes after own h read)
    ∙ ap (λ n. Err (fault_in n own)) same)

pub own_fault : (contents : List (List ℕ)) (fault : Fault) → HasOwnFault contents fault
    → trees_from 0 contents ≡ Err fault
own_fault contents fault own =
    let same : 0 + length own.before ≡ length own.before = omega arith in
    ap (trees_from 0) own.are
    ∙ (own_first 0 own.before own.trees own.bytes own.after own.own own.have (only own.bytes (Err own.own) own.deserves)
    ∙ (ap (λ n. Err (fault_in n own.own)) same ∙ ap Err (sym own.is)))

-- files that have trees are within the limit

abbrev IsWithin : List ℕ → Result Tree Fault → Type 0
IsWithin bytes (Ok tree) = length bytes ≤ largest_file
IsWithin bytes (Err fault) = Unit {0}

within_by : (bytes : List ℕ) (read : Result Tree Fault) → Deserves bytes read → IsWithin bytes read
within_by bytes _ (NotUtf8 offset v) = tt
within_by bytes _ (TooLarge utf8 over) = tt
within_by bytes _ (NoToken offset is first) = tt
within_by bytes _ (NoFile tokens fault is are refused) = tt
within_by bytes _ (File tokens tree is are parsed) = is.within

pub trees_within : (contents : List (List ℕ)) (trees : List Tree) → HaveTrees contents trees → AreWithin contents
trees_within _ _ none = tt
trees_within _ _ (one_more bytes tree contents trees d h) =
    (within_by bytes (Ok tree) d, trees_within contents trees h)

test_within : (n : ℕ) (over : Bool) → nat_lt largest_file n ≡ over → n ≤ largest_file → over ≡ false
test_within n true e h = let more : largest_file < n = ltb-true largest_file n e in absurd (omega (arith, more, h))
test_within n false e h = refl

pub none_large : (file : ℕ) (contents : List (List ℕ)) → AreWithin contents → large_from file contents ≡ None
none_large file [] within = refl
none_large file (bytes ∷ contents) within =
    ap (λ b. if b then Some (too_large file) else large_from (file + 1) contents)
    (test_within (length bytes) (nat_lt largest_file (length bytes)) refl within.0)
    ∙ none_large (file + 1) contents within.1

first_large : (file : ℕ) (before : List (List ℕ)) (bytes : List ℕ) (after : List (List ℕ)) → AreWithin before
    → largest_file < length bytes → large_from file (before ++ bytes ∷ after) ≡ Some (too_large (file + length before))
first_large file [] bytes after within over =
    let same : file ≡ file + 0 = omega arith in
    ap (λ b. if b then Some (too_large file) else large_from (file + 1) after) (lt-ltb largest_file (length bytes) over)
    ∙ ap (λ n. Some (too_large n)) same
first_large file (first ∷ before) bytes after within over =
    let same : (file + 1) + length before ≡ file + length (first ∷ before) = omega arith in
    ap (λ b. if b then Some (too_large file) else large_from (file + 1) (before ++ bytes ∷ after))
    (test_within (length first) (nat_lt largest_file (length first)) refl within.0)
    ∙ (first_large (file + 1) before bytes after within.1 over ∙ ap (λ n. Some (too_large n)) same)

pub large_had : (contents : List (List ℕ)) (fault : Fault) → HasLargeFile contents fault
    → large_from 0 contents ≡ Some fault
large_had contents fault large =
    let same : 0 + length large.before ≡ length large.before = omega arith in
    ap (large_from 0) large.are
    ∙ (first_large 0 large.before large.bytes large.after large.within large.over
    ∙ (ap (λ n. Some (too_large n)) same ∙ ap Some (sym large.is)))

-- what is answered of files of which one is over the limit, and of files within it
pub large_refused : (contents : List (List ℕ)) (fault : Fault) → Some fault ≡ large_from 0 contents
    → files_answer contents ≡ Err fault
large_refused contents fault e = ap (λ o. unless_large o (trees_answer contents)) (sym e)

pub none_refused : (contents : List (List ℕ)) → None ≡ large_from 0 contents
    → files_answer contents ≡ trees_answer contents
none_refused contents e = ap (λ o. unless_large o (trees_answer contents)) (sym e)

answer_within : (contents : List (List ℕ)) → AreWithin contents
    → files_answer contents ≡ trees_answer contents
answer_within contents within =
    none_refused contents (sym (none_large 0 contents within))

pub files_had : (contents : List (List ℕ)) (trees : List Tree) (rows : List Listed) → AreFiles contents trees rows
    → files_answer contents ≡ Ok (record { trees = trees; rows = rows })
files_had contents trees rows are =
    answer_within contents (trees_within contents trees are.have)
    ∙ (ap (λ r. followed_by r demanded) (trees_had 0 contents trees are.have)
    ∙ (ap (λ f. followed_by (unless_found trees f) catalogued) are.demands
    ∙ ap (λ r. followed_by r (λ rs. Ok (record { trees = trees; rows = rs }))) are.catalogue))

pub fault_had : (contents : List (List ℕ)) (fault : Fault) → FilesFault contents fault
    → files_answer contents ≡ Err fault
fault_had contents fault (Large large) =
    large_refused contents fault (sym (large_had contents fault large))
fault_had contents fault (Own within own) =
    answer_within contents within ∙ ap (λ r. followed_by r demanded) (own_fault contents fault own)
fault_had contents fault (Demand trees found have fails is) =
    answer_within contents (trees_within contents trees have)
    ∙ (ap (λ r. followed_by r demanded) (trees_had 0 contents trees have)
    ∙ (ap (λ f. followed_by (unless_found trees f) catalogued) fails ∙ ap Err (sym is)))
fault_had contents fault (Clash trees have demands clash) =
    answer_within contents (trees_within contents trees have)
    ∙ (ap (λ r. followed_by r demanded) (trees_had 0 contents trees have)
    ∙ (ap (λ f. followed_by (unless_found trees f) catalogued) demands
    ∙ ap (λ r. followed_by r (λ rs. Ok (record { trees = trees; rows = rs }))) clash))

-- ---- what is answered is deserved

-- a file from a number on deserves a fault
record OwnFrom (file : ℕ) (contents : List (List ℕ)) (fault : Fault) : Type 0 where
  pub before : List (List ℕ)
  pub trees : List Tree
  pub bytes : List ℕ
  pub after : List (List ℕ)
  pub own : Fault
  pub are : contents ≡ before ++ bytes ∷ after
  pub have : HaveTrees before trees
  pub deserves : Deserves bytes (Err own)
  pub is : fault ≡ fault_in (file + length before) own

abbrev Deserved : ℕ → List (List ℕ) → Result (List Tree) Fault → Type 0
Deserved file contents (Ok trees) = HaveTrees contents trees
Deserved file contents (Err fault) = OwnFrom file contents fault

behind : (file : ℕ) (bytes : List ℕ) (contents : List (List ℕ)) (tree : Tree) (rest : Result (List Tree) Fault)
    → Deserves bytes (Ok tree) → Deserved (file + 1) contents rest
    → Deserved file (bytes ∷ contents) (with_tree file (Ok tree) rest)
behind file bytes contents tree (Ok trees) d h = one_more bytes tree contents trees d h
behind file bytes contents tree (Err fault) d own =
    let same : (file + 1) + length own.before ≡ file + length (bytes ∷ own.before) = omega arith in
    record {
      before = bytes ∷ own.before;
      trees = tree ∷ own.trees;
      bytes = own.bytes;
      after = own.after;
      own = own.own;
      are = ap (λ cs. bytes ∷ cs) own.are;
      have = one_more bytes tree own.before own.trees d own.have;
      deserves = own.deserves;
      is = own.is ∙ ap (λ n. fault_in n own.own) same;
    }

headed : (file : ℕ) (bytes : List ℕ) (contents : List (List ℕ)) (read : Result Tree Fault) → Deserves bytes read
    → Deserved (file + 1) contents (trees_from (file + 1) contents)
    → Deserved file (bytes ∷ contents) (with_tree file read (trees_from (file + 1) contents))
headed file bytes contents (Ok tree) d rest =
    behind file bytes contents tree (trees_from (file + 1) contents) d rest
headed file bytes contents (Err own) d rest =
    let same : file ≡ file + 0 = omega arith in
    record {
      before = [];
      trees = [];
      bytes = bytes;
      after = contents;
      own = own;
      are = refl;
      have = none;
      deserves = d;
      is = ap (λ n. fault_in n own) same;
    }

all_deserved : (file : ℕ) (contents : List (List ℕ)) → Deserved file contents (trees_from file contents)
all_deserved file [] = none
all_deserved file (bytes ∷ contents) =
    headed file bytes contents (source_answer bytes) (deserved bytes) (all_deserved (file + 1) contents)

-- the trees, or the fault of one file
from_first : (contents : List (List ℕ)) (fault : Fault) → OwnFrom 0 contents fault → HasOwnFault contents fault
from_first contents fault own =
    let same : 0 + length own.before ≡ length own.before = omega arith in
    record {
      before = own.before;
      trees = own.trees;
      bytes = own.bytes;
      after = own.after;
      own = own.own;
      are = own.are;
      have = own.have;
      deserves = own.deserves;
      is = own.is ∙ ap (λ n. fault_in n own.own) same;
    }

pub have_trees : (contents : List (List ℕ)) (trees : List Tree) → trees_from 0 contents ≡ Ok trees
    → HaveTrees contents trees
have_trees contents trees e = subst (Deserved 0 contents) e (all_deserved 0 contents)

abbrev pub AreRead : List (List ℕ) → Result ReadFiles Fault → Type 0
AreRead contents (Ok files) = AreFiles contents files.trees files.rows
AreRead contents (Err fault) = FilesFault contents fault

rows_read : (contents : List (List ℕ)) (trees : List Tree) (rows : Result (List Listed) Fault)
    → HaveTrees contents trees → check_fault (view_trees trees) ≡ None → catalogue_of (view_trees trees) ≡ rows
    → AreRead contents (followed_by rows (λ rs. Ok (record { trees = trees; rows = rs })))
rows_read contents trees (Ok rows) have demands e = record { have = have; demands = demands; catalogue = e }
rows_read contents trees (Err fault) have demands e = Clash trees have demands e

demands_read : (contents : List (List ℕ)) (trees : List Tree) (found : Option CheckFault) → HaveTrees contents trees
    → check_fault (view_trees trees) ≡ found
    → AreRead contents (followed_by (unless_found trees found) catalogued)
demands_read contents trees None have e =
    rows_read contents trees (catalogue_of (view_trees trees)) have e refl
demands_read contents trees (Some found) have e = Demand trees found have e refl

trees_read : (contents : List (List ℕ)) (trees : Result (List Tree) Fault) → AreWithin contents
    → Deserved 0 contents trees → AreRead contents (followed_by trees demanded)
trees_read contents (Ok trees) within have = demands_read contents trees (check_fault (view_trees trees)) have refl
trees_read contents (Err fault) within own = Own within (from_first contents fault own)

-- a file from a number on is over the limit, or all are within it
record LargeFrom (file : ℕ) (contents : List (List ℕ)) (fault : Fault) : Type 0 where
  pub before : List (List ℕ)
  pub bytes : List ℕ
  pub after : List (List ℕ)
  pub are : contents ≡ before ++ bytes ∷ after
  pub within : AreWithin before
  pub over : largest_file < length bytes
  pub is : fault ≡ too_large (file + length before)

abbrev Sized : ℕ → List (List ℕ) → Option Fault → Type 0
Sized file contents None = AreWithin contents
Sized file contents (Some fault) = LargeFrom file contents fault

sized_behind : (file : ℕ) (bytes : List ℕ) (contents : List (List ℕ)) (rest : Option Fault)
    → length bytes ≤ largest_file → Sized (file + 1) contents rest → Sized file (bytes ∷ contents) rest
sized_behind file bytes contents None here later = (here, later)
sized_behind file bytes contents (Some fault) here later =
    let same : (file + 1) + length later.before ≡ file + length (bytes ∷ later.before) = omega arith in
    record {
      before = bytes ∷ later.before;
      bytes = later.bytes;
      after = later.after;
      are = ap (λ cs. bytes ∷ cs) later.are;
      within = (here, later.within);
      over = later.over;
      is = later.is ∙ ap too_large same;
    }

sized_first : (file : ℕ) (bytes : List ℕ) (contents : List (List ℕ)) (over : Bool)
    → nat_lt largest_file (length bytes) ≡ over → Sized (file + 1) contents (large_from (file + 1) contents)
    → Sized file (bytes ∷ contents) (if over then Some (too_large file) else large_from (file + 1) contents)
sized_first file bytes contents true e later =
    let same : file ≡ file + 0 = omega arith in
    record {
      before = [];
      bytes = bytes;
      after = contents;
      are = refl;
      within = tt;
      over = ltb-true largest_file (length bytes) e;
      is = ap too_large same;
    }
sized_first file bytes contents false e later =
    sized_behind file bytes contents (large_from (file + 1) contents) (ltb-false largest_file (length bytes) e) later

all_sized : (file : ℕ) (contents : List (List ℕ)) → Sized file contents (large_from file contents)
all_sized file [] = tt
all_sized file (bytes ∷ contents) =
    sized_first file bytes contents (nat_lt largest_file (length bytes)) refl (all_sized (file + 1) contents)

from_large : (contents : List (List ℕ)) (fault : Fault) → LargeFrom 0 contents fault → HasLargeFile contents fault
from_large contents fault large =
    let same : 0 + length large.before ≡ length large.before = omega arith in
    record {
      before = large.before;
      bytes = large.bytes;
      after = large.after;
      are = large.are;
      within = large.within;
      over = large.over;
      is = large.is ∙ ap too_large same;
    }

sized_read : (contents : List (List ℕ)) (large : Option Fault) → Sized 0 contents large
    → AreRead contents (unless_large large (trees_answer contents))
sized_read contents None within =
    trees_read contents (trees_from 0 contents) within (all_deserved 0 contents)
sized_read contents (Some fault) large = Large (from_large contents fault large)

pub files_read : (contents : List (List ℕ)) → AreRead contents (files_answer contents)
files_read contents = sized_read contents (large_from 0 contents) (all_sized 0 contents)

pub read_as : (contents : List (List ℕ)) (files : ReadFiles) → files_answer contents ≡ Ok files
    → AreFiles contents files.trees files.rows
read_as contents files e = subst (AreRead contents) e (files_read contents)

pub refused_as : (contents : List (List ℕ)) (fault : Fault) → files_answer contents ≡ Err fault
    → FilesFault contents fault
refused_as contents fault e = subst (AreRead contents) e (files_read contents)
