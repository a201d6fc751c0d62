-- A block in two parts: its command, what stands in it, a command with which it goes on, what stands then, and its end.
use Rattle.std.proofs.Common.{◌≡◌, ℕ, ◌+◌, List, [], ◌∷◌, ◌++◌, ap, ◌∙◌}
use Rattle.soy_parser.specs.declared.command.Command.{Command}
use Rattle.soy_parser.specs.declared.command.CommandForm.{CommandForm}
use Rattle.soy_parser.specs.Depth.{inside_blocks}
use Rattle.formatted_source.specs.Lexemes.{Lexeme}
use Rattle.formatted_source.specs.Pieces.{Piece, Written}
use Rattle.formatted_source.proofs.EdgedNodes.{Opened}
use Rattle.formatted_source.proofs.LineLexemes.{block_pieces}
use Rattle.formatted_source.proofs.NodeLexemes.{all_lexemes, from_command}
use Rattle.formatted_source.proofs.PartLexemes.{before_command}
use Rattle.formatted_source.proofs.Speaking.{Ended, IsCommandOf, Speaks, Within, command_then, deeper, then_command}
use Rattle.formatted_source.proofs.Speaking.{two_parts}

-- from the command with which it goes on
data Late (G : CommandForm → Type 0) (Q : List Command → List ℕ → Type 0) (H : CommandForm → Type 0)
    : List Command → List ℕ → Type 0 where
  late_ : (d z : Command) (bs : List Command) (js : List ℕ) → G d.form → Q bs js → H z.form
      → Late G Q H (d ∷ (bs ++ (z ∷ []))) (0 ∷ (js ++ (0 ∷ [])))

-- and from its own command
data Branches (P : List Command → List ℕ → Type 0) (G : CommandForm → Type 0) (Q : List Command → List ℕ → Type 0)
    (H : CommandForm → Type 0) : List Command → List ℕ → Type 0 where
  branches_ : (d z : Command) (cs bs : List Command) (ks js : List ℕ) → P cs ks → G d.form → Q bs js → H z.form
      → Branches P G Q H (cs ++ (d ∷ (bs ++ (z ∷ [])))) (ks ++ (0 ∷ (js ++ (0 ∷ []))))

pub branched : (b : ℕ) (ls ms ns os ps : List Lexeme) (F : CommandForm → Type 0) (P : List Command → List ℕ → Type 0)
    (G : CommandForm → Type 0) (Q : List Command → List ℕ → Type 0) (H : CommandForm → Type 0)
    (R : List Command → List ℕ → Type 0)
    → IsCommandOf b ls F → Speaks (b + 1) ms P → IsCommandOf (b + 1) ns G → Speaks (b + 1) os Q
    → IsCommandOf (b + 1) ps H
    → ((c d z : Command) (cs bs : List Command) (ks js : List ℕ) → F c.form → P cs ks → G d.form → Q bs js → H z.form
    → R (c ∷ (cs ++ (d ∷ (bs ++ (z ∷ []))))) (0 ∷ inside_blocks 1 (ks ++ (0 ∷ (js ++ (0 ∷ []))))))
    → Speaks b (ls ++ (ms ++ (ns ++ (os ++ ps)))) R
branched b ls ms ns os ps F P G Q H R opening first middle second closing then_ =
    command_then b ls (ms ++ (ns ++ (os ++ ps))) F (Within (Branches P G Q H)) R opening
    (deeper b (ms ++ (ns ++ (os ++ ps))) (Branches P G Q H) (Within (Branches P G Q H))
    (two_parts (b + 1) ms (ns ++ (os ++ ps)) P (Late G Q H) (Branches P G Q H) first
    (command_then (b + 1) ns (os ++ ps) G (Ended Q H) (Late G Q H) middle
    (then_command (b + 1) os ps Q H (Ended Q H) second closing (λ bs z js q h. Ended.ended_ bs z js q h))
    (λ d ds ns g e. late d ds ns g e))
    (λ cs ds ks ns p l. branches cs ds ks ns p l))
    (λ cs ks e. Within.within_ cs ks e))
    (λ c ds ks f w. over c ds ks f w)
  where
    late : (d : Command) (ds : List Command) (ns : List ℕ) → G d.form → Ended Q H ds ns → Late G Q H (d ∷ ds) (0 ∷ ns)
    late d _ _ g (Ended.ended_ bs z js q h) = Late.late_ d z bs js g q h

    branches : (cs ds : List Command) (ks ns : List ℕ) → P cs ks → Late G Q H ds ns
        → Branches P G Q H (cs ++ ds) (ks ++ ns)
    branches cs _ ks _ p (Late.late_ d z bs js g q h) = Branches.branches_ d z cs bs ks js p g q h

    over : (c : Command) (ds : List Command) (ks : List ℕ) → F c.form → Within (Branches P G Q H) ds ks
        → R (c ∷ ds) (0 ∷ ks)
    over c _ _ f (Within.within_ _ _ (Branches.branches_ d z cs bs ks js p g q h)) = then_ c d z cs bs ks js f p g q h

-- the lexemes of such pieces
pub branch_pieces : (text : List ℕ) (ls : List Lexeme) (ps : List Piece) (middle : List ℕ) (ms : List Lexeme)
    (qs : List Piece) (close : List ℕ) (ns : List Lexeme)
    → all_lexemes [] (Written text ls ∷ (ps ++ (Written middle ms ∷ (qs ++ (Written close ns ∷ [])))))
    ≡ ls ++ (all_lexemes [] ps ++ (ms ++ (all_lexemes [] qs ++ ns)))
branch_pieces text ls ps middle ms qs close ns =
    from_command (ps ++ (Written middle ms ∷ (qs ++ (Written close ns ∷ [])))) text ls
    ∙ ap (λ l. ls ++ l) (before_command [] ps (Written middle ms ∷ (qs ++ (Written close ns ∷ [])))
    (Opened.opened_ middle ms (qs ++ (Written close ns ∷ [])))
    ∙ ap (λ l. all_lexemes [] ps ++ l) (block_pieces middle ms qs close ns))
