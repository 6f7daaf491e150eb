use Rattle.std.proofs.Common.{◌∙◌, [], List, ℕ, if◌then◌else◌, refl, ap, map}
use Rattle.vsw_switch.proofs.Opened.{all_stand, are_ports, made_macs, made_open, served_first}
use Rattle.vsw_switch.proofs.switch.Switch.open_with.Goals as goal

pub open_all-requires : goal.open_all-requires
open_all-requires c = record { can = made_open c.args.file.now c.in_ok-made.made c.requires.good c.in_ok-made.ensures; few = c.requires.few }

pub invariant_of-result : goal.invariant_of-result
invariant_of-result c =
    are_ports c.args.file.now c.args.workers c.in_ok-made.made c.in_ok-numbers.numbers.items _ c.in_ok-ports.ports.items c.requires.good c.requires.some c.in_ok-made.ensures
    (c.in_ok-numbers.ensures ∙ ap (map (λ p. p.number)) c.as_slice-2.ensures) (c.macs-2.view_is ∙ (c.in_ok-macs.ensures ∙ ap (map (λ p. p.mac)) c.as_slice.ensures)) c.in_ok-ports.ensures

pub returns-clause-opens : goal.returns-clause-opens
returns-clause-opens c commands = record {
  workers = refl;
  some = c.requires.some;
  few = c.requires.few;
  locals = ap (λ (ms : List ℕ). if c.args.local then ms else []) (made_macs c.args.file.now c.in_ok-made.made _ c.in_ok-made.ensures (c.macs-2.view_is ∙ (c.in_ok-macs.ensures ∙ ap (map (λ p. p.mac)) c.as_slice.ensures)));
  ports = all_stand c.args.file.now c.args.workers c.in_ok-made.made c.in_ok-ports.ports.items c.in_ok-made.ensures c.in_ok-ports.ensures;
  loose = c.new.ensures.items;
}

pub returns-clause-served : goal.returns-clause-served
returns-clause-served c = served_first c.args.file.now c.args.workers c.in_ok-made.made _ c.in_ok-made.ensures c.in_ok-ports.ensures
