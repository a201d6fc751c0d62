-- Canonical source is read back.
use Rattle.std.proofs.Common.{◌≡◌, ℕ, ◌≤◌, List, [], ◌∷◌, Some, length, sym, ap, ◌∙◌, subst, encode_utf8_all}
use Rattle.std.specs.Prelude.{Result, Ok, Err}
use Rattle.std.specs.Str.{IsUtf8, chars}
use Rattle.std.proofs.lemmas.Str.{chars_from_encodes}
use Rattle.soy_base.specs.declared.fault.Fault.{Fault}
use Rattle.soy_lexer.specs.Tokens.{Tokens}
use Rattle.soy_lexer.specs.declared.token.Token.{Token}
use Rattle.soy_parser.specs.ParsesFile.{IsFile}
use Rattle.soy_format.specs.Formatted.{formatted_tree}
use Rattle.soy_format.proofs.AlikeTrees.{alike_formats}
use Rattle.soy_front.specs.Deserves.{Deserves}
use Rattle.soy_front.specs.Deserves.Deserves.{File, NoFile, NoToken, NotUtf8, TooLarge}
use Rattle.soy_front.specs.FilesDeserve.HaveTrees.{none, one_more}
use Rattle.soy_io.specs.FileOf.{Files, file_of}
use Rattle.soy_tree.specs.ViewTrees.{view_tree}
use Rattle.soy_tree.specs.declared.tree.Tree.{Tree}
use Rattle.formatted_source.proofs.ReadFiles.{own_tokens, source_spelled}
use Rattle.soy_top.specs.AlikeFiles.{AlikeFiles}
use Rattle.soy_top.specs.Answer.{Done, answer, canonical_source}
use Rattle.soy_top.specs.Commands.IsFormatted.{IsFormatted}
use Rattle.soy_top.specs.Commands.IsRefusedFormat.{AreFormat}
use Rattle.soy_top.specs.Commands.IsText.IsText.{Formatted}
use Rattle.soy_top.specs.ReadBack.{AreCanonical, IsCanonicalOf, IsReadBack}
use Rattle.soy_top.specs.Words.{Word}
use Rattle.soy_top.proofs.AnsweredTexts.{text_answered}

-- a file that has a tree has the tokens that spell it
record HasSource (bytes : List ℕ) (tree : Tree) : Type 0 where
  pub tokens : List Token
  pub are : Tokens (chars bytes) tokens
  pub file : IsFile tokens tree

abbrev SourceOf : List ℕ → Result Tree Fault → Type 0
SourceOf bytes (Ok tree) = HasSource bytes tree
SourceOf bytes (Err fault) = Unit {0}

source_of : (bytes : List ℕ) (answer : Result Tree Fault) → Deserves bytes answer → SourceOf bytes answer
source_of bytes _ (NotUtf8 offset v) = tt
source_of bytes _ (TooLarge utf8 over) = tt
source_of bytes _ (NoToken offset is first) = tt
source_of bytes _ (NoFile tokens fault is are refused) = tt
source_of bytes _ (File tokens tree is are parsed) = record { tokens = tokens; are = are; file = parsed }

-- **by itself it has a tree that is alike**
pub read_back : (bytes text : List ℕ) (is : IsCanonicalOf bytes text) → IsReadBack text is.tree
read_back bytes text is =
    let source : HasSource bytes is.tree = source_of bytes (Ok is.tree) is.deserves in
    let characters : formatted_tree (view_tree is.tree) ≡ chars text =
    chars_from_encodes (formatted_tree (view_tree is.tree)) text is.utf8 (sym is.text_is) in
    let own = own_tokens (chars bytes) source.tokens is.tree source.are source.file in
    let read = source_spelled (chars bytes) source.tokens is.tree source.are source.file own.tokens own.whole in
    record {
      own = read.tree;
      deserves = File own.tokens read.tree (record { utf8 = is.utf8; within = is.within })
          (subst (λ t. Tokens t own.tokens) characters own.whole) read.file;
      alike = read.alike;
    }

-- **so it is its own canonical source**
pub own_source : (bytes text : List ℕ) (is : IsCanonicalOf bytes text)
    → text ≡ canonical_source (read_back bytes text is).own
own_source bytes text is =
    let read = read_back bytes text is in
    is.text_is ∙ ap encode_utf8_all (alike_formats (view_tree is.tree) (view_tree read.own) read.alike)

pub formatted_again : (files : Files) (words : List Word) (name : Word) (bytes text : List ℕ) → IsCanonicalOf bytes text
    → AreFormat words name → file_of files name ≡ Some text → answer files words ≡ Done text
formatted_again files words name bytes text is are held =
    let read = read_back bytes text is in
    text_answered files words text
    (Formatted
    (record {
      name = name;
      bytes = text;
      tree = read.own;
      words_are = are;
      file_held = held;
      deserves = read.deserves;
      text_is = own_source bytes text is;
    }))

-- **and files and their canonical sources are alike**
pub canonical_alike : (contents texts : List (List ℕ)) → AreCanonical contents texts → AlikeFiles contents texts
canonical_alike [] [] are = record { trees = []; other_trees = []; have = none; others_have = none; alike = tt }
canonical_alike (bytes ∷ contents) (text ∷ texts) are =
    let rest = canonical_alike contents texts are.1 in
    let read = read_back bytes text are.0 in
    record {
      trees = are.0.tree ∷ rest.trees;
      other_trees = read.own ∷ rest.other_trees;
      have = one_more bytes are.0.tree contents rest.trees are.0.deserves rest.have;
      others_have = one_more text read.own texts rest.other_trees read.deserves rest.others_have;
      alike = (read.alike, rest.alike);
    }
canonical_alike _ _ are = absurd are

-- what a `format` answers is such a text
pub formatted_canonical : (files : Files) (words : List Word) (text : List ℕ) (is : IsFormatted files words text)
    → IsUtf8 text → length text ≤ 1048576 → IsCanonicalOf is.bytes text
formatted_canonical files words text is utf8 within = record {
  tree = is.tree;
  deserves = is.deserves;
  text_is = is.text_is;
  utf8 = utf8;
  within = within;
}
