-- Reading lists of commands one after the other, with the levels of each.
use Rattle.std.proofs.Common.{◌≡◌, ℕ, suc, ◌+◌, List, [], ◌∷◌, ◌++◌, map, length, Option, Some, None, refl, sym, ◌∙◌}
use Rattle.std.proofs.Common.{ap, arith}
use Rattle.soy_parser.specs.declared.block.CommandState.{CommandState}
use Rattle.soy_parser.specs.declared.command.Command.{Command}
use Rattle.soy_parser.proofs.OfCommands.CommandLevels.{levels_from, command_levels}
use Rattle.soy_parser.specs.CommandSteps.{command_step, commands_from, command_run}
use Rattle.soy_parser.specs.Depth.{inside_blocks}

pub map_append : {A B : Type 0} (f : A → B) (xs ys : List A) → map f (xs ++ ys) ≡ map f xs ++ map f ys
map_append f [] ys = refl
map_append f (x ∷ xs) ys = ap (λ l. f x ∷ l) (map_append f xs ys)

-- inside one more block
pub inside_one : (n : ℕ) (ls : List ℕ) → inside_blocks (suc n) ls ≡ inside_blocks n (inside_blocks 1 ls)
inside_one n [] = refl
inside_one n (l ∷ ls) = let e : suc n + l ≡ n + (1 + l) = omega arith in rw (e, inside_one n ls) refl

pub run_append : (cs ds : List Command) (s : CommandState) → command_run (cs ++ ds) s ≡
    commands_from (command_run ds) (command_run cs s)
run_append [] ds s = refl
run_append (c ∷ cs) ds s = over (command_step s c) (run_append cs ds)
  where
    over : (to : Option CommandState) → ((m : CommandState) → command_run (cs ++ ds) m ≡
        commands_from (command_run ds) (command_run cs m)) →
        commands_from (command_run (cs ++ ds)) to ≡ commands_from (command_run ds) (commands_from (command_run cs) to)
    over None inside_ = refl
    over (Some m) inside_ = inside_ m

same_some : (s s' : CommandState) → Some s ≡ Some s' → s ≡ s'
same_some s s' e = ap unwrap e
  where
    unwrap : Option CommandState → CommandState
    unwrap None = s
    unwrap (Some x) = x

pub levels_append : (cs ds : List Command) (s s' : CommandState) → command_run cs s ≡ Some s' →
    command_levels (cs ++ ds) s ≡ command_levels cs s ++ command_levels ds s'
levels_append [] ds s s' e = ap (command_levels ds) (same_some s s' e)
levels_append (c ∷ cs) ds s s' e =
    ap (λ l. length s.blocks ∷ l) (over (command_step s c) e (λ m. levels_append cs ds m s'))
  where
    over : (to : Option CommandState) → commands_from (command_run cs) to ≡ Some s' →
        ((m : CommandState) → command_run cs m ≡ Some s' →
        command_levels (cs ++ ds) m ≡ command_levels cs m ++ command_levels ds s') →
        levels_from (command_levels (cs ++ ds)) to ≡ levels_from (command_levels cs) to ++ command_levels ds s'
    over None e inside_ = absurd (cc e)
    over (Some m) e inside_ = inside_ m e

-- from one state commands lead to another, and these are their levels inside so many blocks
pub record Goes (n : ℕ) (s : CommandState) (cs : List Command) (ls : List ℕ) (s' : CommandState) : Type 0 where
  pub runs : command_run cs s ≡ Some s'
  pub deep : command_levels cs s ≡ inside_blocks n ls

pub none_goes : (n : ℕ) (s : CommandState) → Goes n s [] [] s
none_goes n s = record { runs = refl; deep = refl }

pub step_goes : (n l : ℕ) (s : CommandState) (c : Command) (s' : CommandState) → command_step s c ≡ Some s' →
    length s.blocks ≡ n + l → Goes n s (c ∷ []) (l ∷ []) s'
step_goes n l s c s' e long = record {
  runs = ap (commands_from (command_run [])) e;
  deep = ap (λ o. length s.blocks ∷ levels_from (command_levels []) o) e ∙ ap (λ k. k ∷ []) long;
}

pub then_goes : {n : ℕ} {s m s' : CommandState} {cs ds : List Command} {ls ks : List ℕ} → Goes n s cs ls m →
    Goes n m ds ks s' → Goes n s (cs ++ ds) (ls ++ ks) s'
then_goes {n} {s} {m} {s'} {cs} {ds} {ls} {ks} a b = record {
  runs = run_append cs ds s ∙ (ap (commands_from (command_run ds)) a.runs ∙ b.runs);
  deep = levels_append cs ds s m a.runs ∙ (rw (a.deep, b.deep) (sym (map_append (λ d. n + d) ls ks)));
}

pub inside_goes : {n : ℕ} {s s' : CommandState} {cs : List Command} {ls : List ℕ} → Goes (suc n) s cs ls s' →
    Goes n s cs (inside_blocks 1 ls) s'
inside_goes {n} {ls = ls} a = record { runs = a.runs; deep = a.deep ∙ inside_one n ls }
