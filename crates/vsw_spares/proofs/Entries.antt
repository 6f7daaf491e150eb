-- An entry leaves the rows that it doesn't shake.
use Rattle.std.proofs.Common.{◌≡◌, ◌&&◌, Bool, true, false, not, List, [], ◌∷◌, Result, Ok, Err, refl, sym, ap, ◌∙◌, true≢false}
use Rattle.vsw_policy.specs.declared.refusal.Refusal.{Refusal}
use Rattle.vsw_policy.specs.declared.refusal.Reply.{Reply}
use Rattle.vsw_policy.specs.Layer.{LayerSeen}
use Rattle.vsw_policy.specs.Obey.{obey}
use Rattle.vsw_port.specs.declared.event.Event.TheVariants as event
use Rattle.vsw_port.specs.History.{left_by, reply_in}
use Rattle.vsw_rows.proofs.Ways.{crossing_stays}
use Rattle.vsw_rows.specs.Entries.{is_obeyed}
use Rattle.vsw_rows.specs.Good.{IsGoodLeaning, LeaningRow}
use Rattle.vsw_spares.proofs.Commands.{command_spares}
use Rattle.vsw_spares.specs.Entry.{EntrySpares}
use Rattle.vsw_spares.specs.Spared.{spares}

not_false : (b : Bool) → not b ≡ false → b ≡ true
not_false true h = refl
not_false false h = absurd (true≢false h)

obeyed_leaves : (ls : List LayerSeen) (r : Result (List LayerSeen) Refusal) (a : Reply) (b : Bool) (k : LeaningRow) → a ≡ reply_in r → (is_obeyed a && not b) ≡ false → ((now : List LayerSeen) → r ≡ Ok now → b ≡ true → IsGoodLeaning now k) → IsGoodLeaning ls k
    → IsGoodLeaning (left_by ls r) k
obeyed_leaves ls (Err why) a b k e h f g = g
obeyed_leaves ls (Ok now) a b k e h f g = f now refl (not_false b (sym (ap (λ y. is_obeyed y && not b) e) ∙ h))

pub entry_spares : EntrySpares
entry_spares cs ls (event.Command controller line command reply) k right s h g =
    obeyed_leaves ls (obey cs ls controller command) reply (spares ls controller command k.looks) k right h (λ now e b. command_spares cs ls now controller command k e s b g) g
entry_spares cs ls (event.Crossing x fate) k right s h g = (crossing_stays ls x (k ∷ []) (h, tt) (g, tt)).0
