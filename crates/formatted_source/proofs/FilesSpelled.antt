-- Tokens of the lexemes of a tree of a text, as it is written, are a file whose tree is alike.
use Rattle.std.proofs.Common.{◌≡◌, ℕ, true, List, [], refl, sym, ap, subst, arith}
use Rattle.std.specs.List.{list_all}
use Rattle.soy_base.specs.Names.{is_dotted_name}
use Rattle.soy_lexer.specs.Tokens.{Tokens}
use Rattle.soy_lexer.specs.declared.token.Token.{Token}
use Rattle.soy_tree.specs.Formed.{is_formed_template, is_formed_tree}
use Rattle.soy_tree.specs.Trees as trees
use Rattle.soy_tree.specs.ViewTrees.{view_tree}
use Rattle.soy_tree.specs.declared.tree.Tree.{Tree}
use Rattle.soy_parser.specs.declared.command.Command.{Command}
use Rattle.soy_parser.specs.declared.command.CommandForm.TheVariants as says
use Rattle.soy_parser.specs.ParsesFile.{IsFile}
use Rattle.soy_parser.specs.SpellsTree.{SpellsTree, SpellsWhite}
use Rattle.soy_parser.proofs.FormedTrees.{text_formed}
use Rattle.soy_format.specs.WithoutSpans.{AreAlike}
use Rattle.formatted_source.specs.Lexemes.{lexemes}
use Rattle.formatted_source.specs.ReadsAlike.{IsFileAlike}
use Rattle.formatted_source.specs.SourcedTrees.{is_sourced_tree}
use Rattle.formatted_source.specs.TreeLexemes.{namespace_lexemes, templates_lexemes, tree_lexemes}
use Rattle.formatted_source.proofs.Fitting.FittingNodes.{TemplatesFit, tree_fit}
use Rattle.formatted_source.proofs.Fitting.FittingParts.{inside_none}
use Rattle.formatted_source.proofs.Commands.NameCommands.{namespace_command}
use Rattle.formatted_source.proofs.Written.Names.{both}
use Rattle.formatted_source.proofs.Sourced.SourcedNodes.{text_tree}
use Rattle.formatted_source.proofs.Speaking.{Speaks, command_then}
use Rattle.formatted_source.proofs.Sourced.SpokenCommands.{Spoken}
use Rattle.formatted_source.proofs.TemplatesSpelled.{TemplatesAre, templates_gathered, templates_speak}

-- commands that are the file of a tree that is alike
record TreeIs (t : Tree) (cs : List Command) (ks : List ℕ) : Type 0 where
  pub own : Tree
  pub spells : SpellsTree cs ks own
  pub alike : AreAlike (view_tree t) (view_tree own)

tree_speaks : (t : Tree) → is_formed_tree (view_tree t) ≡ true → is_sourced_tree (view_tree t) ≡ true
    → TemplatesFit (view_tree t).templates → Speaks 0 (tree_lexemes (view_tree t)) (TreeIs t)
tree_speaks t formed sourced fits =
    let v = view_tree t in
    let f = both (is_dotted_name v.namespace) (list_all is_formed_template v.templates) formed in
    command_then 0 (namespace_lexemes v) (templates_lexemes v.templates) (λ f. f ≡ says.Namespace v.namespace)
    (TemplatesAre v.templates) (TreeIs t) (λ ts same. namespace_command 0 ts v.namespace (omega arith) same)
    (templates_speak v.templates f.1 sourced fits)
    (λ c cs ks h s. record {
      own = record { namespace = v.namespace; templates = s.own };
      spells = SpellsTree.tree_ [] cs [] ks c v.namespace s.own SpellsWhite.none_ h
          (templates_gathered cs ks s.own s.rows);
      alike = ap (λ (l : List trees.Template). record { namespace = v.namespace; templates = l }) (sym s.alike);
    })

-- **Tokens of the lexemes of a tree are a file that is alike, where the tree is formed, one that a text may have, and
-- fits the limit on depth.**
pub tree_spelled : (us : List Token) (t : Tree) → is_formed_tree (view_tree t) ≡ true
    → is_sourced_tree (view_tree t) ≡ true → TemplatesFit (view_tree t).templates
    → lexemes us ≡ tree_lexemes (view_tree t) → IsFileAlike us t
tree_spelled us t formed sourced fits same =
    let s = tree_speaks t formed sourced fits us same in
    let spoken = subst (Spoken us s.commands) (inside_none s.levels) s.spoken in
    record {
      tree = s.said.own;
      file = record {
        depths = spoken.depths;
        words = spoken.words;
        spells = record {
          commands = s.commands;
          levels = s.levels;
          spell = spoken.spell;
          are = s.said.spells;
        };
        within = spoken.within;
        known = spoken.names [] refl;
      };
      alike = s.said.alike;
    }

-- **And so of a tree of a text.**
pub text_spelled : (text : List ℕ) (tokens : List Token) (t : Tree) → Tokens text tokens
    → IsFile tokens t → (us : List Token) → lexemes us ≡ tree_lexemes (view_tree t) → IsFileAlike us t
text_spelled text tokens t are file us same =
    tree_spelled us t (text_formed text tokens t are file) (text_tree text tokens t are file)
    (tree_fit tokens t file) same
