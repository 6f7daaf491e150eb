-- Entries that shake no row leave rows good.
use Rattle.std.proofs.Common.{◌≡◌, List, [], ◌∷◌, ap, sym, ◌∙◌, arith, true, false, Result, Ok, Err}
use Rattle.std.proofs.lemmas.Grind.{common_steps}
use Rattle.vsw_port.specs.declared.event.Event.TheVariants as event
use Rattle.vsw_port.specs.History.{after, left_by, reply_in}
use Rattle.vsw_policy.specs.Layer.{LayerSeen}
use Rattle.vsw_rows.specs.Good.{IsGoodLeaning, LeaningRow}
use Rattle.vsw_rows.proofs.Ways.{crossing_stays}
use Rattle.vsw_rows.specs.Entries.{is_obeyed}
use Rattle.vsw_rows.specs.GrowingLaw.{EntriesLeave, EntryLeaves}
use Rattle.vsw_policy.specs.declared.refusal.Refusal.{Refusal}
use Rattle.vsw_policy.specs.declared.refusal.Reply.{Reply}
use Rattle.vsw_policy.specs.Obey.{obey}
use Rattle.vsw_policy.specs.Sound.{Each}

-- a command that was obeyed shakes every row, so there are none
command_leaves : (ls : List LayerSeen) (r : Result (List LayerSeen) Refusal) (a : Reply) → a ≡ reply_in r → (ks : List LeaningRow) → Each (λ k. is_obeyed a ≡ false) ks → Each (IsGoodLeaning ls) ks → Each (IsGoodLeaning (left_by ls r)) ks
command_leaves ls (Err why) a e ks none good = good
command_leaves ls (Ok new) a e [] none good = tt
command_leaves ls (Ok new) a e (k ∷ ks) none good =
    let never : true ≡ false = sym (ap is_obeyed e) ∙ none.0 in
    absurd (grind (arith, common_steps, never))

pub entry_leaves : EntryLeaves
entry_leaves cs ls (event.Command controller line command reply) ks right none good = command_leaves ls (obey cs ls controller command) reply right ks none good
entry_leaves cs ls (event.Crossing x fate) ks right none good = crossing_stays ls x ks none good

pub entries_leave : EntriesLeave
entries_leave cs ls [] ks right none good = good
entries_leave cs ls (e ∷ es) ks right none good = entries_leave cs (after cs ls e) es ks right.1 none.1 (entry_leaves cs ls e ks right.0 none.0 good)
