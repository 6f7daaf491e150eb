use Rattle.std.proofs.Common.{arith, ◌≡◌, ◌∙◌, ap, length, ℕ}
use Rattle.std.specs.Vec.{with_items}
use Rattle.std.proofs.lemmas.List.{with_items_is}
use Rattle.vsw_host.specs.Memory.{next_count}
use Rattle.vsw_host.specs.MemoryInside.{seen, ReadsNext}
use Rattle.vsw_host.proofs.MemoryCalls.{reads-seen, seen-read, next_count-read}
use Rattle.vsw_host.proofs.memory_host.MemoryHostHost.read.Goals as goal
use Rattle.vsw_host.proofs.memory_host.MemoryHostHost.read.Goals.{After-read_next}

-- what the step did, to the host's own lists
read_step : (c : After-read_next) → ReadsNext c.self.inside.files.items c.self.inside.opened.items (with_items c.self.inside.opened c.read_next.new.opened).items c.self.inside.most c.args.file c.read_next.new.buffer c.read_next.result
read_step c =
    let kept = with_items_is c.self.inside.opened c.read_next.new.opened (omega arith) in
    let read = rw (c.deref-2.ensures.value, c.deref_mut.ensures.value) at c.read_next.ensures.reads in
    rw kept read

pub returns-clause-reads : goal.returns-clause-reads
returns-clause-reads c = rw (← c.self.view_is) (reads-seen c.self.inside c.self.invariant.most_some (with_items c.self.inside.opened c.read_next.new.opened) _ _ _ _ c.next_fails.ensures.calls (read_step (goal.at.returns-clause-reads c).After-read_next))

pub returns-clause-count : goal.returns-clause-count
returns-clause-count c =
    let size : length c.read_next.new.buffer ≡ length c.args.buffer.now = omega arith in
    rw (← c.self.view_is) (next_count-read c.self.inside _ _ c.read_next.new.buffer _ (read_step (goal.at.returns-clause-count c).After-read_next) ∙ ap (λ (k : ℕ). next_count (seen c.self.inside) c.args.file k) size)

pub returns-clause-after : goal.returns-clause-after
returns-clause-after c = rw (← c.self.view_is) (seen-read c.self.inside (with_items c.self.inside.opened c.read_next.new.opened) _ _ _ _ c.next_fails.ensures.calls (read_step (goal.at.returns-clause-after c).After-read_next))
