-- Items joined to those that are there.
use Rattle.std.proofs.Common.{◌≡◌, List, [], ◌++◌, Option, Some, None, refl, sym, ap, append_assoc}
use Rattle.soy_tree.specs.MessageText.{MessageItem, joined_items}

-- before no items
pub joined_none : (more : Option (List MessageItem)) → joined_items (Some []) more ≡ more
joined_none None = refl
joined_none (Some ps) = refl

pub joined_assoc : (ps : List MessageItem) (more rest : Option (List MessageItem))
    → joined_items (Some ps) (joined_items more rest) ≡ joined_items (joined_items (Some ps) more) rest
joined_assoc ps None rest = refl
joined_assoc ps (Some qs) None = refl
joined_assoc ps (Some qs) (Some rs) = ap Some (sym (append_assoc ps qs rs))
