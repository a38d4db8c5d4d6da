use Rattle.std.proofs.Common.{List, drop}
use Rattle.json.specs.Token.{Token}
use Rattle.toml.specs.View.{items_view, members_view}
use Rattle.export.specs.inner.Putting.{PutsItems, PutsMembers}
use Rattle.export.proofs.given.+put.Given as goal

-- tokens that complete the array from here complete it from its start
abbrev pub invariant-put_items-loop-item : goal.invariant-put_items-loop-item
invariant-put_items-loop-item l =
    (end : List Token) → PutsItems (items_view (drop l.item-index l.item-items)) l.out end → PutsItems (items_view l.item-items) l.initial.out end

-- tokens that complete the table from here complete it from its start
abbrev pub invariant-put_members-loop-key : goal.invariant-put_members-loop-key
invariant-put_members-loop-key l =
    (end : List Token) → PutsMembers (members_view l.key-iterator) l.out end → PutsMembers (members_view l.members.entries) l.initial.out end
