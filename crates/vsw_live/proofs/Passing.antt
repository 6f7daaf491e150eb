-- A frame leaves as its packet was answered.
use Rattle.std.proofs.Common.{◌≡◌, ◌≤◌, inl, inr, ℕ, List, Bool, true, false, true≢false, refl, sym, ◌∙◌, ap}
use Rattle.vsw_base.specs.declared.fate.Cause.TheVariants.{Memory}
use Rattle.vsw_base.specs.declared.fate.Fate.{Fate}
use Rattle.vsw_base.specs.declared.fate.Fate.TheVariants.{Drop}
use Rattle.vsw_base.specs.declared.flow.Crossing.{Crossing}
use Rattle.vsw_base.specs.declared.header.Header.{Header}
use Rattle.vsw_base.specs.Frame.{Parts}
use Rattle.vsw_base.specs.Shape.{is_stack}
use Rattle.vsw_port.specs.Calls.{Shows}
use Rattle.vsw_policy.specs.Layer.{LayerSeen}
use Rattle.vsw_live.specs.Private.Locked.{IsFateAt}
use Rattle.vsw_port.specs.Crossed.{Crossed, EditsPass, crossed, is_short}
use Rattle.vsw_answer.specs.Transit.{CanLeave, IsOfFrame, Leaves, bytes_in, len_of}
use Rattle.vsw_answer.proofs.Passes.{can_leave, short_enough, shows}

memory_of : (fate : Fate) → is_short fate ≡ true → fate ≡ Drop Memory
memory_of (Drop Memory) t = refl
memory_of fate t = absurd (true≢false (sym t))

fate_crossed : (ls : List LayerSeen) (x : Crossing) (fate : Fate) (b : Bool) → is_short fate ≡ b → IsFateAt ls x fate → fate ≡ (crossed b ls x).fate
fate_crossed ls x fate true t at = memory_of fate t
fate_crossed ls x fate false t (inl e) = e
fate_crossed ls x fate false t (inr e) = absurd (true≢false (sym (ap is_short e) ∙ t))

crossed_by : (ls : List LayerSeen) (x : Crossing) (fate : Fate) → IsFateAt ls x fate → record { fate = fate; layers = (crossed (is_short fate) ls x).layers; entry = (crossed (is_short fate) ls x).entry } ≡ crossed (is_short fate) ls x
crossed_by ls x fate at =
    let c : Crossed = crossed (is_short fate) ls x in
    let same : fate ≡ c.fate = fate_crossed ls x fate (is_short fate) refl at in
    λ i. record { fate = same i; layers = c.layers; entry = c.entry }

pub leave_can : (ls : List LayerSeen) (x : Crossing) (p : Parts) (hs : List Header) (left : ℕ) (fate : Fate) → is_stack x.id.stack ≡ true → IsOfFrame x p → IsFateAt ls x fate → EditsPass ls x hs left fate → CanLeave p hs left fate
leave_can ls x p hs left fate shape of at edits = can_leave ls (crossed (is_short fate) ls x).layers x p hs left fate (crossed (is_short fate) ls x).entry (crossed_by ls x fate at) edits shape of.stack of.sizes

pub leave_shows : (ls : List LayerSeen) (x : Crossing) (p : Parts) (hs : List Header) (left : ℕ) (own : Bool) (fate : Fate) (out : List ℕ) → is_stack x.id.stack ≡ true → IsOfFrame x p → IsFateAt ls x fate → EditsPass ls x hs left fate → Leaves p hs left own fate out → Shows ls x p fate (bytes_in own p fate out)
leave_shows ls x p hs left own fate out shape of at edits left_so = shows ls (crossed (is_short fate) ls x).layers x p hs left fate (crossed (is_short fate) ls x).entry own out (crossed_by ls x fate at) edits shape of.stack of.sizes left_so

pub leave_fits : (ls : List LayerSeen) (x : Crossing) (p : Parts) (hs : List Header) (left : ℕ) (own : Bool) (fate : Fate) (out : List ℕ) → is_stack x.id.stack ≡ true → IsOfFrame x p → IsFateAt ls x fate → EditsPass ls x hs left fate → Leaves p hs left own fate out → len_of fate ≤ 65700
leave_fits ls x p hs left own fate out shape of at edits left_so = short_enough ls (crossed (is_short fate) ls x).layers x p hs left fate (crossed (is_short fate) ls x).entry own out (crossed_by ls x fate at) edits shape of.stack of.sizes left_so
