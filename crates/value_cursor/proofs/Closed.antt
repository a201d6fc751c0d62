-- What is given once all characters are.
use Rattle.std.proofs.Common.{◌≡◌, ℕ, ◌+◌, ◌-◌, ◌≤◌, List, [], ◌++◌, length, take, drop, ap, ◌∙◌, append-nil}
use Rattle.value_cursor.specs.BytesLeft.{bytes_after, bytes_from}
use Rattle.value_cursor.specs.Gives.{Gives}
use Rattle.value_cursor.specs.declared.plan.Plan.{Plan}
use Rattle.value_cursor.specs.declared.progress.Progress.{Progress}
use Rattle.value_cursor.proofs.Forms.{bytes_end}
use Rattle.value_cursor.proofs.Givings.{gives_before, gives_behind, gives_same, gives_then, room_end}

-- what is left where no character is: what is pending
pub pending_left : (plan : Plan) (source : List ℕ) (pending closing : List ℕ) (offset : ℕ) → length source ≤ offset
    → closing ≡ [] → (pending ++ bytes_from plan source offset) ++ closing ≡ pending
pending_left plan source pending closing offset end none =
    ap (λ l. (pending ++ bytes_from plan source offset) ++ l) none
    ∙ append-nil (pending ++ bytes_from plan source offset)
    ∙ ap (λ l. pending ++ l) (bytes_end plan source offset end) ∙ append-nil pending

-- the closing is given behind the characters
pub closing_given : {left room between part : List ℕ} {filled more : ℕ} (plan : Plan) (source : List ℕ) (at : Progress)
    (closing pending : List ℕ)
    → Gives left (bytes_after plan source at) room between filled → at.pending ≡ [] → length source ≤ at.offset
    → Gives closing pending (take (length between - filled) (drop filled between)) part more
    → Gives (left ++ closing) pending room
    (take filled between ++ (part ++ drop (length between - filled) (drop filled between))) (filled + more)
closing_given {left} {room} {between} {part} {filled} {more} plan source at closing pending first none end next =
    gives_then (gives_before closing first)
    (gives_same (bytes_after plan source at ++ closing) (gives_behind between filled next)
    (ap (λ l. (l ++ bytes_from plan source at.offset) ++ closing) none
    ∙ ap (λ l. l ++ closing) (bytes_end plan source at.offset end)))
    (room_end between part filled)
