-- Lists of commands in the order of the text, as the lists of the grammar, which are gathered at their ends.
use Rattle.std.proofs.Common.{ℕ, List, [], ◌∷◌, ◌++◌, sym, subst, append_assoc, append-nil}
use Rattle.soy_parser.specs.declared.command.Command.{Command}

pub data Rows (A : Type 0) (One : List Command → List ℕ → A → Type 0)
    : List Command → List ℕ → List A → Type 0 where
  no_row_ : Rows A One [] [] []
  row_ : (cs ds : List Command) (ks ns : List ℕ) (a : A) (others : List A) → One cs ks a → Rows A One ds ns others
      → Rows A One (cs ++ ds) (ks ++ ns) (a ∷ others)

-- a list that something holds of, with one more at its end
abbrev pub Gathers : (A : Type 0) → (List Command → List ℕ → A → Type 0) → (List Command → List ℕ → List A → Type 0)
    → Type 0
Gathers A One S =
    (cs ds : List Command) (ks ns : List ℕ) (done : List A) (a : A) → S cs ks done → One ds ns a
    → S (cs ++ ds) (ks ++ ns) (done ++ (a ∷ []))

-- **With all that follow.**
pub gathered : (A : Type 0) (One : List Command → List ℕ → A → Type 0) (S : List Command → List ℕ → List A → Type 0)
    → Gathers A One S → (cs ds : List Command) (ks ns : List ℕ) (done others : List A) → S cs ks done
    → Rows A One ds ns others → S (cs ++ ds) (ks ++ ns) (done ++ others)
gathered A One S more cs _ ks _ done _ s Rows.no_row_ =
    subst (λ l. S l (ks ++ []) (done ++ [])) (sym (append-nil cs))
    (subst (λ l. S cs l (done ++ [])) (sym (append-nil ks)) (subst (λ l. S cs ks l) (sym (append-nil done)) s))
gathered A One S more cs _ ks _ done _ s (Rows.row_ bs ds ms ns a others one rest) =
    subst (λ l. S l (ks ++ (ms ++ ns)) (done ++ (a ∷ others))) (append_assoc cs bs ds)
    (subst (λ l. S ((cs ++ bs) ++ ds) l (done ++ (a ∷ others))) (append_assoc ks ms ns)
    (subst (λ l. S ((cs ++ bs) ++ ds) ((ks ++ ms) ++ ns) l) (append_assoc done (a ∷ []) others)
    (gathered A One S more (cs ++ bs) ds (ks ++ ms) ns (done ++ (a ∷ [])) others (more cs bs ks ms done a s one) rest)))
