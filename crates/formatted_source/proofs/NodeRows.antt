-- Nodes in the order of the text, with texts between them, as the nodes of the grammar, which are gathered at their
-- ends: no text follows a text.
use Rattle.std.proofs.Common.{ℕ, Bool, true, false, List, [], ◌∷◌, ◌++◌, sym, subst, append_assoc, append-nil}
use Rattle.soy_base.specs.declared.fault.Span.{Span}
use Rattle.soy_tree.specs.declared.node.Form.TheVariants as form
use Rattle.soy_tree.specs.declared.node.Node as code
use Rattle.soy_parser.specs.declared.command.Command.{Command}
use Rattle.soy_parser.specs.Nodes.{node_of}
use Rattle.soy_parser.specs.SpellsTree.{SpellsBody, SpellsNode, SpellsNodes, SpellsText}

-- by whether a text may come first
pub data NodeRows (One : List Command → List ℕ → code.Node → Type 0)
    : Bool → List Command → List ℕ → List code.Node → Type 0 where
  no_node_ : (may : Bool) → NodeRows One may [] [] []
  text_ : (cs ds : List Command) (ks ns : List ℕ) (text : List ℕ) (span : Span) (others : List code.Node)
      → SpellsText cs ks text span → NodeRows One false ds ns others
      → NodeRows One true (cs ++ ds) (ks ++ ns) (node_of (form.Text text) span ∷ others)
  node_ : (may : Bool) (cs ds : List Command) (ks ns : List ℕ) (n : code.Node) (others : List code.Node)
      → One cs ks n → NodeRows One true ds ns others → NodeRows One may (cs ++ ds) (ks ++ ns) (n ∷ others)

-- nodes that are gathered: all of them, and those of which the last is no text
pub record GathersNodes (One : List Command → List ℕ → code.Node → Type 0)
    (S B : List Command → List ℕ → List code.Node → Type 0) : Type 0 where
  pub none : S [] [] []
  pub plain : (cs : List Command) (ks : List ℕ) (done : List code.Node) → S cs ks done → B cs ks done
  pub text : (cs ds : List Command) (ks ns : List ℕ) (done : List code.Node) (text : List ℕ) (span : Span)
      → S cs ks done → SpellsText ds ns text span
      → B (cs ++ ds) (ks ++ ns) (done ++ (node_of (form.Text text) span ∷ []))
  pub more : (cs ds : List Command) (ks ns : List ℕ) (done : List code.Node) (n : code.Node) → B cs ks done
      → One ds ns n → S (cs ++ ds) (ks ++ ns) (done ++ (n ∷ []))

-- those so far, before a text and before another node
abbrev SoFar : (List Command → List ℕ → List code.Node → Type 0) → (List Command → List ℕ → List code.Node → Type 0)
    → Bool → List Command → List ℕ → List code.Node → Type 0
SoFar S B true cs ks done = S cs ks done
SoFar S B false cs ks done = B cs ks done

all_so_far : (One : List Command → List ℕ → code.Node → Type 0)
    (S B : List Command → List ℕ → List code.Node → Type 0) → GathersNodes One S B → (may : Bool)
    (cs : List Command) (ks : List ℕ) (done : List code.Node) → SoFar S B may cs ks done → B cs ks done
all_so_far One S B g true cs ks done s = g.plain cs ks done s
all_so_far One S B g false cs ks done s = s

-- instead of the parts of two appended lists
again : (T : List Command → List ℕ → List code.Node → Type 0) (cs bs ds : List Command) (ks ms ns : List ℕ)
    (done : List code.Node) (n : code.Node) (others : List code.Node)
    → T ((cs ++ bs) ++ ds) ((ks ++ ms) ++ ns) ((done ++ (n ∷ [])) ++ others)
    → T (cs ++ (bs ++ ds)) (ks ++ (ms ++ ns)) (done ++ (n ∷ others))
again T cs bs ds ks ms ns done n others t =
    subst (λ l. T l (ks ++ (ms ++ ns)) (done ++ (n ∷ others))) (append_assoc cs bs ds)
    (subst (λ l. T ((cs ++ bs) ++ ds) l (done ++ (n ∷ others))) (append_assoc ks ms ns)
    (subst (λ l. T ((cs ++ bs) ++ ds) ((ks ++ ms) ++ ns) l) (append_assoc done (n ∷ []) others) t))

pub rows_after : (One : List Command → List ℕ → code.Node → Type 0)
    (S B : List Command → List ℕ → List code.Node → Type 0) → GathersNodes One S B → (may : Bool)
    (cs ds : List Command) (ks ns : List ℕ) (done others : List code.Node) → SoFar S B may cs ks done
    → NodeRows One may ds ns others → B (cs ++ ds) (ks ++ ns) (done ++ others)
rows_after One S B g _ cs _ ks _ done _ s (NodeRows.no_node_ may) =
    let b = all_so_far One S B g may cs ks done s in
    subst (λ l. B l (ks ++ []) (done ++ [])) (sym (append-nil cs))
    (subst (λ l. B cs l (done ++ [])) (sym (append-nil ks)) (subst (λ l. B cs ks l) (sym (append-nil done)) b))
rows_after One S B g _ cs _ ks _ done _ s (NodeRows.text_ bs ds ms ns text span others t rest) =
    again B cs bs ds ks ms ns done (node_of (form.Text text) span) others
    (rows_after One S B g false (cs ++ bs) ds (ks ++ ms) ns (done ++ (node_of (form.Text text) span ∷ [])) others
    (g.text cs bs ks ms done text span s t) rest)
rows_after One S B g _ cs _ ks _ done _ s (NodeRows.node_ may bs ds ms ns n others one rest) =
    again B cs bs ds ks ms ns done n others
    (rows_after One S B g true (cs ++ bs) ds (ks ++ ms) ns (done ++ (n ∷ [])) others
    (g.more cs bs ks ms done n (all_so_far One S B g may cs ks done s) one) rest)

-- **Nodes in the order of the text are gathered.**
pub rows_gathered : (One : List Command → List ℕ → code.Node → Type 0)
    (S B : List Command → List ℕ → List code.Node → Type 0) → GathersNodes One S B → (ds : List Command)
    (ns : List ℕ) (others : List code.Node) → NodeRows One true ds ns others → B ds ns others
rows_gathered One S B g ds ns others rows = rows_after One S B g true [] ds [] ns [] others g.none rows

body_gathers : GathersNodes SpellsNode SpellsNodes SpellsBody
body_gathers = record {
  none = SpellsNodes.no_node_;
  plain = λ cs ks done s. SpellsBody.plain_ cs ks done s;
  text = λ cs ds ks ns done text span s t. SpellsBody.text_ cs ds ks ns done text span s t;
  more = λ cs ds ks ns done n b one. SpellsNodes.node_ cs ds ks ns done n b one;
}

-- as a body is
pub body_of_rows : (ds : List Command) (ns : List ℕ) (others : List code.Node)
    → NodeRows SpellsNode true ds ns others → SpellsBody ds ns others
body_of_rows = rows_gathered SpellsNode SpellsNodes SpellsBody body_gathers
