-- Rows that are written behind those that are there.
use Rattle.std.proofs.Common.{zero, suc, slice_index_or}
use Rattle.std.proofs.Common.{◌≡◌, ◌≤◌, ◌<◌, ◌+◌, ℕ, List, [], ◌∷◌, ◌++◌, Some, Result, Ok, Err, OnOk, IfOk, get_or}
use Rattle.std.proofs.Common.{length}
use Rattle.std.proofs.Common.{take, drop, refl, sym, ap, ◌∙◌, append_assoc, arith, subst}
use Rattle.std.specs.List.{slice_get}
use Rattle.std.proofs.lemmas.List.{get_or-take, length-append, take-append-drop}
use Rattle.std.proofs.Math.Seq.{drop-cons, take-append_seam}
use Rattle.soy_base.specs.declared.memory.OutOfMemory.{OutOfMemory}
use Rattle.soy_meaning.specs.Paths.Plan.{Plan, Nothing}
use Rattle.soy_base.specs.Table.{table}
use Rattle.soy_base.proofs.Tables.{take_table_from}
use Rattle.html_context.specs.RowPlans.{plan_at, row_plan, row_plans}
use Rattle.html_context.specs.StandsFor.{Keeps, Writes, walk_of}
use Rattle.html_context.specs.declared.table.Row.{Row}
use Rattle.html_context.proofs.RowPlans.{at_row}

-- ---- rows that stay

keeps_rest : (old new : List Row) → Keeps old new → new ≡ old ++ drop (length old) new
keeps_rest old new h = sym (take-append-drop (length old) new) ∙ ap (λ l. l ++ drop (length old) new) h

appended : (old more new : List Row) → new ≡ old ++ more → Keeps old new
appended old more new e = ap (λ l. take (length old) l) e ∙ take-append_seam old more

pub keeps_itself : (old : List Row) → Keeps old old
keeps_itself [] = refl
keeps_itself (r ∷ rows) = ap (λ l. r ∷ l) (keeps_itself rows)

pub keeps_on : (a b c : List Row) → Keeps a b → Keeps b c → Keeps a c
keeps_on a b c h k =
    appended a (drop (length a) b ++ drop (length b) c) c
    (keeps_rest b c k ∙ ap (λ l. l ++ drop (length b) c) (keeps_rest a b h)
    ∙ append_assoc a (drop (length a) b) (drop (length b) c))

length_of_both : (a b : List Row) → length a ≤ length (a ++ b)
length_of_both a b = omega (arith, length-append a b)

pub keeps_length : (old new : List Row) → Keeps old new → length old ≤ length new
keeps_length old new h =
    subst (λ l. length old ≤ length l) (sym (keeps_rest old new h)) (length_of_both old (drop (length old) new))

kept_plans : (old new : List Row) → Keeps old new → take (length old) (row_plans new) ≡ row_plans old
kept_plans old new h = take_table_from row_plan [] (length old) new ∙ ap (λ l. table row_plan l) h

-- what a number stands for stays
pub keeps_plan : (old new : List Row) (n : ℕ) → Keeps old new → n < length old → plan_at new n ≡ plan_at old n
keeps_plan old new n h small =
    sym (get_or-take (length old) (row_plans new) n Nothing small)
    ∙ ap (λ l. get_or l n Nothing) (kept_plans old new h)

-- ---- a row more

get_last : (old : List Row) (r : Row) → slice_get (old ++ (r ∷ [])) (length old) ≡ Some r
get_last [] r = refl
get_last (x ∷ old) r = get_last old r

last_plan : (old new : List Row) (r : Row) → new ≡ old ++ (r ∷ []) → plan_at new (length old)
    ≡ row_plan (row_plans old) r
last_plan old new r e =
    at_row new (length old) r (ap (λ l. slice_get l (length old)) e ∙ get_last old r)
    ∙ ap (λ l. row_plan l r) (kept_plans old new (appended old (r ∷ []) new e))

last_within : (old new : List Row) (r : Row) → new ≡ old ++ (r ∷ []) → length old < length new
last_within old new r e =
    let s : length new ≡ length (old ++ (r ∷ [])) = ap length e in
    let t : length (old ++ (r ∷ [])) ≡ length old + 1 = length-append old (r ∷ []) in omega arith

-- a row that is walked as a plan
pub writes : (p : Plan) (old new : List Row) (r : Row) (result : Result ℕ OutOfMemory)
    → OnOk result (new ≡ old ++ (r ∷ [])) → IfOk result (λ n. n ≡ length old)
    → walk_of (row_plan (row_plans old) r) ≡ walk_of p → Writes p old new result
writes p old new r (Ok n) e at same = (
  appended old (r ∷ []) new e,
  subst (λ k. k < length new) (sym at) (last_within old new r e),
  ap (λ k. walk_of (plan_at new k)) at ∙ ap walk_of (last_plan old new r e) ∙ same,
)
writes p old new r (Err o) e at same = tt

-- the same behind rows that were written before
pub writes_on : (p : Plan) (a b c : List Row) (result : Result ℕ OutOfMemory)
    → Keeps a b → Writes p b c result → Writes p a c result
writes_on p a b c (Ok n) h w = (keeps_on a b c h w.0, w.1, w.2)
writes_on p a b c (Err o) h w = tt

-- ---- lists that are gone through

-- the item at an index, and those after it
pub first_of : {X : Type 0} (xs : List X) (j : ℕ) (x : X) → j < length xs → x ≡ slice_index_or xs j x
    → drop j xs ≡ x ∷ drop (j + 1) xs
first_of xs j x small is =
    let one : suc j ≡ j + 1 = omega arith in
    drop-cons xs j x small ∙ ap (λ v. v ∷ drop (suc j) xs) (sym is) ∙ ap (λ k. x ∷ drop k xs) one

pub none_of : {X : Type 0} (xs : List X) (j : ℕ) → length xs ≤ j → drop j xs ≡ []
none_of [] zero h = refl
none_of [] (suc j) h = refl
none_of (x ∷ xs) zero h = absurd (omega arith)
none_of (x ∷ xs) (suc j) h = none_of xs j (omega arith)

-- ---- plans with one walk

pub writes_same : (p q : Plan) (old new : List Row) (result : Result ℕ OutOfMemory) → Writes p old new result
    → walk_of p ≡ walk_of q → Writes q old new result
writes_same p q old new (Ok n) h same = (h.0, h.1, h.2 ∙ same)
writes_same p q old new (Err o) h same = tt
