use Rattle.std.proofs.Common.{◌≡◌, ◌++◌, true, sym, ◌∙◌, ap, subst}
use mathlib.Core.List.{IsPrefix}
use Rattle.rtrb.specs.Ring.{known_items, received}
use Rattle.vsw_rings.specs.Items.{has_end, items_in}
use Rattle.vsw_rings.proofs.Handed.{front_items, whole_items}
use Rattle.vsw_rings.proofs.drain.agree.Goals as goal

pub returns-clause-front : goal.returns-clause-front
returns-clause-front g c =
    subst (λ w. IsPrefix (items_in (received c.slots_beside.new.self)) (items_in w)) c.slots_beside.ensures.fifo
    (front_items (received c.slots_beside.new.self) (known_items c.slots_beside.new.self))

pub returns-clause-all : goal.returns-clause-all
returns-clause-all g c = λ ended.
    subst (λ w. (items_in (received c.slots_beside.new.self) ≡ items_in w) × (has_end w ≡ true)) c.slots_beside.ensures.fifo
    (whole_items (received c.slots_beside.new.self) (known_items c.slots_beside.new.self) ended)
