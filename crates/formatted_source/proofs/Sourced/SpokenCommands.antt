-- Tokens that spell commands, each with the blocks around it, none too deep and each type's words known.
use Rattle.std.proofs.Common.{◌≡◌, ℕ, Bool, List, [], ◌∷◌, ◌++◌, sym, subst}
use Rattle.std.proofs.Common.{append_assoc}
use Rattle.std.proofs.Common.{false, append-nil}
use Rattle.soy_lexer.specs.declared.token.Token.{Token}
use Rattle.expr_parser.specs.Depths.{AreWithin}
use Rattle.expr_parser.specs.TypeTerminals.{begins_with_less}
use Rattle.soy_parser.specs.declared.command.Command.{Command}
use Rattle.soy_parser.specs.declared.command.CommandForm.{CommandForm}
use Rattle.soy_parser.specs.Depth.{inside_blocks}
use Rattle.soy_parser.specs.SpellsCommand.{SpellsCommands}
use Rattle.formatted_source.proofs.Commands.CommandTerms.{CommandSpelled, Names, SameLength, names_append, same_append}
use Rattle.formatted_source.proofs.Commands.CommandTerms.{within_append, within_inside}

pub record Spoken (ts : List Token) (cs : List Command) (levels : List ℕ) : Type 0 where
  pub depths : List ℕ
  pub words : List Bool
  pub spell : SpellsCommands ts depths words cs levels
  pub within : AreWithin 0 depths
  pub names : Names ts words
  pub each : SameLength ts words
  pub starts : (rest : List Token) → begins_with_less rest ≡ false → begins_with_less (ts ++ rest) ≡ false

pub none_spoken : Spoken [] [] []
none_spoken = record {
  depths = [];
  words = [];
  spell = SpellsCommands.none_;
  within = tt;
  names = λ rest none. tt;
  each = tt;
  starts = λ rest none. none;
}

pub spells_append : (ts us : List Token) (ds es : List ℕ) (ws vs : List Bool) (cs bs : List Command) (ls ks : List ℕ)
    → SpellsCommands ts ds ws cs ls → SpellsCommands us es vs bs ks
    → SpellsCommands (ts ++ us) (ds ++ es) (ws ++ vs) (cs ++ bs) (ls ++ ks)
spells_append _ us _ es _ vs _ bs _ ks SpellsCommands.none_ next = next
spells_append _ us _ es _ vs _ bs _ ks (SpellsCommands.more_ ts ms ds fs ws xs c cs level levels s r) next =
    let more = spells_append ms us fs es xs vs cs bs levels ks r next in
    subst (λ l. SpellsCommands l ((inside_blocks level ds ++ fs) ++ es) ((ws ++ xs) ++ vs) (c ∷ (cs ++ bs))
    (level ∷ (levels ++ ks))) (sym (append_assoc ts ms us))
    (subst (λ l. SpellsCommands (ts ++ (ms ++ us)) l ((ws ++ xs) ++ vs) (c ∷ (cs ++ bs)) (level ∷ (levels ++ ks)))
    (sym (append_assoc (inside_blocks level ds) fs es))
    (subst (λ l. SpellsCommands (ts ++ (ms ++ us)) (inside_blocks level ds ++ (fs ++ es)) l (c ∷ (cs ++ bs))
    (level ∷ (levels ++ ks))) (sym (append_assoc ws xs vs))
    (SpellsCommands.more_ ts (ms ++ us) ds (fs ++ es) ws (xs ++ vs) c (cs ++ bs) level (levels ++ ks) s more)))

pub spoken_append : (ts us : List Token) (cs bs : List Command) (ls ks : List ℕ) → Spoken ts cs ls → Spoken us bs ks
    → Spoken (ts ++ us) (cs ++ bs) (ls ++ ks)
spoken_append ts us cs bs ls ks one two = record {
  depths = one.depths ++ two.depths;
  words = one.words ++ two.words;
  spell = spells_append ts us one.depths two.depths one.words two.words cs bs ls ks one.spell two.spell;
  within = within_append 0 one.depths two.depths one.within two.within;
  names = λ rest none. names_append ts us one.words two.words rest (one.names (us ++ rest) (two.starts rest none))
      (two.names rest none) one.each;
  each = same_append ts us one.words two.words one.each two.each;
  starts = λ rest none. subst (λ l. begins_with_less l ≡ false) (sym (append_assoc ts us rest))
      (one.starts (us ++ rest) (two.starts rest none));
}

-- one command
pub one_spoken : (blocks : ℕ) (ts : List Token) (P : CommandForm → Type 0) → (c : CommandSpelled blocks ts P)
    → Spoken ts (c.command ∷ []) (blocks ∷ [])
one_spoken blocks ts P c =
    let s : SpellsCommands (ts ++ []) (inside_blocks blocks c.depths ++ []) (c.words ++ []) (c.command ∷ [])
    (blocks ∷ []) =
    SpellsCommands.more_ ts [] c.depths [] c.words [] c.command [] blocks [] c.spells SpellsCommands.none_ in
    let whole : SpellsCommands ts (inside_blocks blocks c.depths) c.words (c.command ∷ []) (blocks ∷ []) =
    subst (λ l. SpellsCommands l (inside_blocks blocks c.depths) c.words (c.command ∷ []) (blocks ∷ [])) (append-nil ts)
    (subst (λ l. SpellsCommands (ts ++ []) l c.words (c.command ∷ []) (blocks ∷ []))
    (append-nil (inside_blocks blocks c.depths))
    (subst (λ l. SpellsCommands (ts ++ []) (inside_blocks blocks c.depths ++ []) l (c.command ∷ []) (blocks ∷ []))
    (append-nil c.words) s)) in
    record {
      depths = inside_blocks blocks c.depths;
      words = c.words;
      spell = whole;
      within = within_inside blocks c.depths c.within;
      names = c.names;
      each = c.each;
      starts = λ rest none. c.starts rest;
    }
