use Rattle.std.proofs.Common.{rules, sym, ◌∙◌, ◌≡◌, false}
use Rattle.vsw_host.specs.Memory.{fails}
use Rattle.vsw_host.specs.MemoryInside.{seen}
use Rattle.vsw_host.proofs.MemoryCalls.{may_open-opened, may_open-refused, unrefused, seen-open, opens-seen}
use Rattle.vsw_host.proofs.memory_host.MemoryHostHost.open.Goals as goal

pub returns-in-Some-clause-opens : goal.returns-in-Some-clause-opens
returns-in-Some-clause-opens c =
    let opened = rw c.deref-2.ensures.value at c.in-Some.ensures.some in
    rw (← c.self.view_is) (opens-seen c.self.inside c.open_file.new.opened _ _ _ c.next_fails.ensures.calls opened)

pub returns-in-Some-clause-succeeds : goal.returns-in-Some-clause-succeeds
returns-in-Some-clause-succeeds c =
    let opened = rw c.deref-2.ensures.value at c.in-Some.ensures.some in
    let spared : fails (seen c.self.inside) ≡ false = rw c.deref.ensures.value at (sym c.next_fails.ensures.fails ∙ c.if-next_fails.false) in
    rw (← c.self.view_is) (may_open-opened c.self.inside _ _ _ spared opened)

pub returns-in-Some-clause-after : goal.returns-in-Some-clause-after
returns-in-Some-clause-after c =
    let opened = rw c.deref-2.ensures.value at c.in-Some.ensures.some in
    rw (← c.self.view_is) (seen-open c.self.inside c.open_file.new.opened _ _ c.in-Some.number c.next_fails.ensures.calls opened)

pub returns-in-None-clause-succeeds : goal.returns-in-None-clause-succeeds
returns-in-None-clause-succeeds c =
    let why = rw c.deref-2.ensures.value at c.in-None.ensures.why in
    rw (← c.self.view_is) ((search rules) ∙ sym (may_open-refused c.self.inside _ why))

pub returns-in-None-clause-quiet : goal.returns-in-None-clause-quiet
returns-in-None-clause-quiet c =
    let why = rw c.deref-2.ensures.value at c.in-None.ensures.why in
    rw (← c.self.view_is) (λ spared here few. absurd (unrefused c.self.inside _ why few here))
