-- A stack as a list with its top as the head, and what is taken from it.
--
-- An empty stack gives nothing and stays empty; any other gives its head and keeps the rest.
-- Example: after the pushes of 1 and 2 the stack is the list 2, 1, and a pop gives 2 and leaves 1.
use Rattle.std.specs.Prelude.{◌≡◌, List, [], ◌∷◌, Option, Some, None}

-- what a pop gives of the stack before it and leaves after it
abbrev pub Pops : {A : Type 0} → List A → List A → Option A → Type 0
Pops old new None = (old ≡ []) × (new ≡ [])
Pops old new (Some item) = old ≡ item ∷ new

-- the item on the top of a stack
abbrev pub top_of : {A : Type 0} → List A → Option A
top_of [] = None
top_of (item ∷ items) = Some item
