-- What `shake` and `obey` leave is what `advance` asks for.
use Rattle.std.proofs.Common.{◌≡◌, ◌&&◌, not, ℕ, Bool, true, false, List, refl, ap}
use Rattle.vsw_base.specs.declared.flow.Crossing.{Crossing}
use Rattle.vsw_policy.specs.declared.command.Command.{Command}
use Rattle.vsw_policy.specs.declared.refusal.Refusal.{Refusal}
use Rattle.vsw_policy.specs.declared.refusal.Reply.{Reply}
use Rattle.vsw_policy.specs.declared.refusal.Reply.TheVariants.{Refused}
use Rattle.vsw_policy.specs.Layer.{LayerSeen}
use Rattle.vsw_port.specs.Cross.{made_by}
use Rattle.vsw_port.specs.declared.event.Event.TheVariants as event
use Rattle.vsw_base.specs.declared.fate.Fate.{Fate}
use Rattle.vsw_rows.specs.Entries.{is_obeyed}
use Rattle.vsw_rows.specs.Way.{looks}
use Rattle.vsw_spares.specs.Spared.{spares}
use Rattle.vsw_flows.specs.Flows.{AllSpared, NoneShaken, Spares, Writing}

and_not : (a b : Bool) → b ≡ true → (a && not b) ≡ false
and_not true b e = ap not e
and_not false b e = refl

-- a command that was obeyed
pub command_owed : (ls : List LayerSeen) (c line : ℕ) (m : Command) (reply : Reply) (v : Writing) → AllSpared ls c m v → Spares ls (event.Command c line m reply) v
command_owed ls c line m reply v h place r one = and_not (is_obeyed reply) (spares ls c m (looks ls r.id)) (h place r one)

-- one that was refused shakes no row
pub refusal_owed : (ls : List LayerSeen) (c line : ℕ) (m : Command) (why : Refusal) (v : Writing) → Spares ls (event.Command c line m (Refused why)) v
refusal_owed ls c line m why v place r one = refl

-- a packet, whose crossing makes these changes
pub crossing_owed : (ls : List LayerSeen) (x : Crossing) (fate : Fate) (v : Writing) → NoneShaken ls (made_by ls x) v → Spares ls (event.Crossing x fate) v
crossing_owed ls x fate v h place r one = h place r one
