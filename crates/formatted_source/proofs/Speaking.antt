-- Parts of a line by their lexemes: tokens of these spell commands, inside so many blocks, of which something holds.
-- Parts are joined, and put into a block, by what holds of their commands alone.
use Rattle.std.proofs.Common.{◌≡◌, ℕ, ◌+◌, List, [], ◌∷◌, ◌++◌, refl, sym, ap, subst, ◌∙◌, arith}
use Rattle.std.proofs.lemmas.List.{map-append}
use Rattle.soy_lexer.specs.declared.token.Token.{Token}
use Rattle.soy_parser.specs.declared.command.Command.{Command}
use Rattle.soy_parser.specs.declared.command.CommandForm.{CommandForm}
use Rattle.soy_parser.specs.Depth.{inside_blocks}
use Rattle.formatted_source.specs.Lexemes.{Lexeme, lexemes}
use Rattle.formatted_source.proofs.Commands.CommandTerms.{CommandSpelled}
use Rattle.formatted_source.proofs.LexemeLists.{none_left, split}
use Rattle.formatted_source.proofs.Sourced.SpokenCommands.{Spoken, none_spoken, one_spoken, spoken_append}

pub record Spelled (blocks : ℕ) (ts : List Token) (P : List Command → List ℕ → Type 0) : Type 0 where
  pub commands : List Command
  pub levels : List ℕ
  pub spoken : Spoken ts commands (inside_blocks blocks levels)
  pub said : P commands levels

-- all tokens of these lexemes spell such commands
abbrev pub Speaks : ℕ → List Lexeme → (List Command → List ℕ → Type 0) → Type 0
Speaks blocks ls P = (ts : List Token) → lexemes ts ≡ ls → Spelled blocks ts P

-- or one command
abbrev pub IsCommandOf : ℕ → List Lexeme → (CommandForm → Type 0) → Type 0
IsCommandOf blocks ls F = (ts : List Token) → lexemes ts ≡ ls → CommandSpelled blocks ts F

inside_append : (b : ℕ) (ks ns : List ℕ) → inside_blocks b ks ++ inside_blocks b ns ≡ inside_blocks b (ks ++ ns)
inside_append b ks ns = sym (map-append (λ k. b + k) ks ns)

inside_one : (b : ℕ) (ks : List ℕ) → inside_blocks (b + 1) ks ≡ inside_blocks b (inside_blocks 1 ks)
inside_one b [] = refl
inside_one b (k ∷ ks) =
    let same : (b + 1) + k ≡ b + (1 + k) = omega arith in
    ap (λ n. n ∷ inside_blocks (b + 1) ks) same ∙ ap (λ l. (b + (1 + k)) ∷ l) (inside_one b ks)

pub no_part : (b : ℕ) (P : List Command → List ℕ → Type 0) → P [] [] → Speaks b [] P
no_part b P p ts same = record {
  commands = [];
  levels = [];
  spoken = subst (λ l. Spoken l [] []) (sym (none_left ts same)) none_spoken;
  said = p;
}

pub one_command : (b : ℕ) (ls : List Lexeme) (F : CommandForm → Type 0) (R : List Command → List ℕ → Type 0)
    → IsCommandOf b ls F → ((c : Command) → F c.form → R (c ∷ []) (0 ∷ [])) → Speaks b ls R
one_command b ls F R command then_ ts same =
    let c = command ts same in
    let level : b + 0 ≡ b = omega arith in
    record {
      commands = c.command ∷ [];
      levels = 0 ∷ [];
      spoken = subst (λ l. Spoken ts (c.command ∷ []) (l ∷ [])) (sym level) (one_spoken b ts F c);
      said = then_ c.command c.said;
    }

pub two_parts : (b : ℕ) (ls ms : List Lexeme) (P Q R : List Command → List ℕ → Type 0) → Speaks b ls P
    → Speaks b ms Q
    → ((cs ds : List Command) (ks ns : List ℕ) → P cs ks → Q ds ns → R (cs ++ ds) (ks ++ ns)) → Speaks b (ls ++ ms) R
two_parts b ls ms P Q R one two then_ ts same =
    let parts = split ts ls ms same in
    let p = one parts.first parts.firsts in
    let q = two parts.second parts.seconds in
    subst (λ l. Spelled b l R) (sym parts.are) (record {
      commands = p.commands ++ q.commands;
      levels = p.levels ++ q.levels;
      spoken = subst (λ l. Spoken (parts.first ++ parts.second) (p.commands ++ q.commands) l)
          (inside_append b p.levels q.levels)
          (spoken_append parts.first parts.second p.commands q.commands (inside_blocks b p.levels)
          (inside_blocks b q.levels) p.spoken q.spoken);
      said = then_ p.commands q.commands p.levels q.levels p.said q.said;
    })

-- the same part, of which something else holds, and part by other lexemes

pub as_part : (b : ℕ) (ls : List Lexeme) (P R : List Command → List ℕ → Type 0) → Speaks b ls P
    → ((cs : List Command) (ks : List ℕ) → P cs ks → R cs ks) → Speaks b ls R
as_part b ls P R one then_ ts same =
    let p = one ts same in
    record {
      commands = p.commands;
      levels = p.levels;
      spoken = p.spoken;
      said = then_ p.commands p.levels p.said;
    }

pub same_part : (b : ℕ) (ls ms : List Lexeme) (P : List Command → List ℕ → Type 0) → ms ≡ ls → Speaks b ls P
    → Speaks b ms P
same_part b ls ms P are one ts same = one ts (same ∙ are)

-- one command, with its list
pub data Single (F : CommandForm → Type 0) : List Command → List ℕ → Type 0 where
  single_ : (c : Command) → F c.form → Single F (c ∷ []) (0 ∷ [])

pub command_then : (b : ℕ) (ls ms : List Lexeme) (F : CommandForm → Type 0) (Q R : List Command → List ℕ → Type 0)
    → IsCommandOf b ls F → Speaks b ms Q
    → ((c : Command) (ds : List Command) (ns : List ℕ) → F c.form → Q ds ns → R (c ∷ ds) (0 ∷ ns))
    → Speaks b (ls ++ ms) R
command_then b ls ms F Q R command two then_ =
    two_parts b ls ms (Single F) Q R (one_command b ls F (Single F) command (λ c f. Single.single_ c f)) two
    over
  where
    over : (cs ds : List Command) (ks ns : List ℕ) → Single F cs ks → Q ds ns → R (cs ++ ds) (ks ++ ns)
    over _ ds _ ns (Single.single_ c f) q = then_ c ds ns f q

pub then_command : (b : ℕ) (ls ms : List Lexeme) (P : List Command → List ℕ → Type 0) (F : CommandForm → Type 0)
    (R : List Command → List ℕ → Type 0) → Speaks b ls P → IsCommandOf b ms F
    → ((cs : List Command) (c : Command) (ks : List ℕ) → P cs ks → F c.form → R (cs ++ (c ∷ [])) (ks ++ (0 ∷ [])))
    → Speaks b (ls ++ ms) R
then_command b ls ms P F R one command then_ =
    two_parts b ls ms P (Single F) R one (one_command b ms F (Single F) command (λ c f. Single.single_ c f))
    over
  where
    over : (cs ds : List Command) (ks ns : List ℕ) → P cs ks → Single F ds ns → R (cs ++ ds) (ks ++ ns)
    over cs _ ks _ p (Single.single_ c f) = then_ cs c ks p f

-- a command and the body after it
pub data Headed (F : CommandForm → Type 0) (P : List Command → List ℕ → Type 0) : List Command → List ℕ → Type 0
  where
    headed_ : (c : Command) (cs : List Command) (ks : List ℕ) → F c.form → P cs ks → Headed F P (c ∷ cs) (0 ∷ ks)

pub headed_part : (b : ℕ) (ls ms : List Lexeme) (F : CommandForm → Type 0) (P : List Command → List ℕ → Type 0)
    → IsCommandOf b ls F → Speaks b ms P → Speaks b (ls ++ ms) (Headed F P)
headed_part b ls ms F P command inner =
    command_then b ls ms F P (Headed F P) command inner (λ c cs ks f p. Headed.headed_ c cs ks f p)

-- what stands inside of one block more
pub deeper : (b : ℕ) (ls : List Lexeme) (P R : List Command → List ℕ → Type 0) → Speaks (b + 1) ls P
    → ((cs : List Command) (ks : List ℕ) → P cs ks → R cs (inside_blocks 1 ks)) → Speaks b ls R
deeper b ls P R one then_ ts same =
    let p = one ts same in
    record {
      commands = p.commands;
      levels = inside_blocks 1 p.levels;
      spoken = subst (λ l. Spoken ts p.commands l) (inside_one b p.levels) p.spoken;
      said = then_ p.commands p.levels p.said;
    }

-- one part and another
pub data Both (P Q : List Command → List ℕ → Type 0) : List Command → List ℕ → Type 0 where
  both_ : (cs ds : List Command) (ks ns : List ℕ) → P cs ks → Q ds ns → Both P Q (cs ++ ds) (ks ++ ns)

pub both_parts : (b : ℕ) (ls ms : List Lexeme) (P Q : List Command → List ℕ → Type 0) → Speaks b ls P
    → Speaks b ms Q → Speaks b (ls ++ ms) (Both P Q)
both_parts b ls ms P Q one two =
    two_parts b ls ms P Q (Both P Q) one two (λ cs ds ks ns p q. Both.both_ cs ds ks ns p q)

-- a part of which something holds at the levels inside of a block
pub data Within (P : List Command → List ℕ → Type 0) : List Command → List ℕ → Type 0 where
  within_ : (cs : List Command) (ks : List ℕ) → P cs ks → Within P cs (inside_blocks 1 ks)

pub inner_part : (b : ℕ) (ls : List Lexeme) (P : List Command → List ℕ → Type 0) → Speaks (b + 1) ls P
    → Speaks b ls (Within P)
inner_part b ls P one = deeper b ls P (Within P) one (λ cs ks p. Within.within_ cs ks p)

-- a part and the command after it
pub data Ended (P : List Command → List ℕ → Type 0) (G : CommandForm → Type 0) : List Command → List ℕ → Type 0 where
  ended_ : (cs : List Command) (z : Command) (ks : List ℕ) → P cs ks → G z.form
      → Ended P G (cs ++ (z ∷ [])) (ks ++ (0 ∷ []))

pub ended_part : (b : ℕ) (ls ms : List Lexeme) (P : List Command → List ℕ → Type 0) (G : CommandForm → Type 0)
    → Speaks b ls P → IsCommandOf b ms G → Speaks b (ls ++ ms) (Ended P G)
ended_part b ls ms P G one closing =
    then_command b ls ms P G (Ended P G) one closing (λ cs z ks p g. Ended.ended_ cs z ks p g)

-- **A block: its command, what stands in it, and its end.**
pub block : (b : ℕ) (ls ms ns : List Lexeme) (F : CommandForm → Type 0) (P : List Command → List ℕ → Type 0)
    (G : CommandForm → Type 0) (R : List Command → List ℕ → Type 0)
    → IsCommandOf b ls F → Speaks (b + 1) ms P → IsCommandOf (b + 1) ns G
    → ((c z : Command) (cs : List Command) (ks : List ℕ) → F c.form → P cs ks → G z.form
    → R (c ∷ (cs ++ (z ∷ []))) (0 ∷ inside_blocks 1 (ks ++ (0 ∷ []))))
    → Speaks b (ls ++ (ms ++ ns)) R
block b ls ms ns F P G R opening inner closing then_ =
    command_then b ls (ms ++ ns) F (Within (Ended P G)) R opening
    (inner_part b (ms ++ ns) (Ended P G) (ended_part (b + 1) ms ns P G inner closing)) over
  where
    over : (c : Command) (ds : List Command) (ks : List ℕ) → F c.form → Within (Ended P G) ds ks → R (c ∷ ds) (0 ∷ ks)
    over c _ _ f (Within.within_ _ _ (Ended.ended_ cs z ks p g)) = then_ c z cs ks f p g
