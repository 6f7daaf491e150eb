-- What a call tells is proper: a pass has as many bytes as its length, and a drop a cause whose numbers are small.
use Rattle.std.proofs.Common.{◌≡◌, ◌≤◌, ◌<◌, ◌+◌, ◌*◌, ◌-◌, ◌^◌, ℕ, zero, suc, Bool, true, false, List, [], ◌∷◌, length, take, Option, Some, None, Ok, nat_lt, refl, sym, ap, subst, ◌∙◌, arith}
use Rattle.std.proofs.lemmas.Grind.{common_steps}
use Rattle.std.proofs.lemmas.List.{length-take}
use Rattle.std.specs.Prelude.{if◌then◌else◌}
use Rattle.std.specs.List.{slice_get}
use Rattle.hex.specs.Hex.{IsBytes}
use Rattle.vsw_base.specs.declared.fate.Cause.TheVariants as cause
use Rattle.vsw_base.specs.declared.fate.Fate.{Fate}
use Rattle.vsw_base.specs.declared.fate.Fate.TheVariants as fate
use Rattle.vsw_base.specs.declared.fate.Verdict.{Verdict}
use Rattle.vsw_base.specs.declared.fate.Verdict.TheVariants as verdict
use Rattle.vsw_base.specs.declared.flow.Crossing.{Crossing}
use Rattle.vsw_base.specs.declared.header.Header.{Header}
use Rattle.vsw_base.specs.Frame.{Parts, frame_of, sizes_of}
use Rattle.vsw_base.specs.Shape.{encaps}
use Rattle.vsw_frame.proofs.Carried.{frame_few}
use Rattle.vsw_frame.specs.Bytes.{outgoing, pushes, total_over}
use Rattle.vsw_policy.specs.Layer.{LayerSeen}
use Rattle.vsw_policy.specs.Sound.{Each}
use Rattle.vsw_port.proofs.Alike.{size_told, sized}
use Rattle.vsw_port.specs.Admit.{on_pass, refusal, stop_of}
use Rattle.vsw_port.specs.Calls.{Asked, Ask, Call, Carried, Carry, Deed, Entry, HasBytes, IsCall, Job, Read, Short, Shows, job_of}
use Rattle.vsw_port.specs.Core.{AreAtMost}
use Rattle.vsw_port.specs.Cross.{fate_after}
use Rattle.vsw_port.specs.Fate.{fate_at, fate_by}
use Rattle.vsw_port.specs.History.{AllRight, AreRight, IsRight, Opening, after, after_all, replay}
use Rattle.vsw_port.specs.Long.{is_long, outgoing_size, size_without}
use Rattle.vsw_port.specs.declared.event.Event.{Event}
use Rattle.vsw_port.specs.declared.event.Event.TheVariants as event
use Rattle.vsw_port.specs.declared.stop.Stop.{Stop}
use Rattle.vsw_port.specs.declared.stop.Stop.TheVariants as stop
use Rattle.vsw_port.proofs.Next.{count_within}
use Rattle.vsw_promise.specs.Told.{line_of}
use Rattle.vsw_report.specs.Proper.{IsProperFate, IsProperLine}
use Rattle.vsw_walk.specs.Walk.{Walk, walk_of}
use Rattle.vsw_report_law.proofs.Causes.{FitsEvent, FitsFate, fate_fits, replay_fits}
use Rattle.vsw_report_law.proofs.Layers.{FitsSeen}
use Rattle.vsw_report_law.proofs.Outgoing.{frame_levels, outgoing_bytes, size_few}
use Rattle.vsw_report_law.specs.Fits.{FitsLine}

-- ---- a pass

-- a packet is of a frame, which is bytes
pub record IsFramed (x : Crossing) (p : Parts) : Type 0 where
  pub bytes : List ℕ
  pub frame : frame_of bytes ≡ Ok p
  pub are : IsBytes bytes
  pub stack : x.id.stack ≡ p.stack
  pub sizes : x.sizes ≡ sizes_of p.levels

pass_known : (x : Crossing) (v : Verdict) (o : Option Stop) (hs : List Header) (kept len : ℕ) → fate_by x (fate_after v o hs kept) ≡ fate.Pass len → (outgoing_size x hs kept ≡ len) × (v ≡ verdict.Pass) × (o ≡ None)
pass_known x verdict.Pass None hs kept len e = let same : outgoing_size x hs kept ≡ len = cc e in (same, refl, refl)
pass_known x verdict.Pass (Some s) hs kept len e = absurd (cc e)
pass_known x (verdict.Rule c l g r) o hs kept len e = absurd (cc e)
pass_known x (verdict.Default c l d) o hs kept len e = absurd (cc e)

no_long : (v : Verdict) (b : Bool) (o : Option Stop) → v ≡ verdict.Pass → on_pass v (if b then Some stop.Long else o) ≡ None → b ≡ false
no_long verdict.Pass true o t e = absurd (cc e)
no_long verdict.Pass false o t e = refl
no_long (verdict.Rule c l g r) b o t e = absurd (cc t)
no_long (verdict.Default c l d) b o t e = absurd (cc t)

not_more : (n : ℕ) → nat_lt 65535 n ≡ false → n ≤ 65535
not_more n e = grind (arith, common_steps)

few_pushed : (k n : ℕ) → nat_lt 65535 (total_over k n) ≡ false → 50 * k ≤ 65600
few_pushed zero n e = omega arith
few_pushed (suc k) n e = let le : 36 + 50 * k + n ≤ 65535 = not_more (36 + 50 * k + n) e in omega (arith, le)

pass_small : (ls : List LayerSeen) (x : Crossing) (p : Parts) (len : ℕ) → IsFramed x p → fate_at ls x ≡ fate.Pass len → (len < 2 ^ 32) × (length (outgoing p (walk_of ls x).stack (walk_of ls x).kept) ≡ len)
pass_small ls x p len f e =
    let w : Walk = walk_of ls x in
    let k = pass_known x w.verdict (stop_of ls x w) w.stack w.kept len e in
    let short : is_long x w.stack w.kept ≡ false = no_long w.verdict (is_long x w.stack w.kept) (refusal ls w.changes) k.1 k.2 in
    let pushed = few_pushed (pushes w.stack w.kept) (size_without x.sizes (encaps x.id.stack - w.kept)) short in
    let size = size_told x p w.kept (frame_few f.bytes p f.frame) f.stack f.sizes in
    let few = size_few 65600 (encaps p.stack - w.kept) p.levels (frame_levels f.bytes p f.frame f.are) in
    (omega (arith, k.0, pushed, size, few), sized ls x p f.bytes f.frame f.stack f.sizes ∙ k.0)

-- ---- a fate and its bytes

fate_proper : (ls : List LayerSeen) (x : Crossing) (p : Parts) (f : Fate) (bytes : List ℕ) → IsFramed x p → Each FitsSeen ls → f ≡ fate_at ls x → Shows ls x p f bytes → IsProperFate f bytes
fate_proper ls x p (fate.Pass len) bytes framed seen e shows =
    let k = pass_small ls x p len framed (sym e) in
    let hs = (walk_of ls x).stack in
    let kept = (walk_of ls x).kept in
    (k.0, ap length shows ∙ k.1, subst IsBytes (sym shows) (outgoing_bytes 65600 p hs kept (frame_levels framed.bytes p framed.frame framed.are)))
fate_proper ls x p (fate.Drop why) bytes framed seen e shows = (shows, subst FitsFate (sym e) (fate_fits ls x seen))

memory_proper : (ls : List LayerSeen) (x : Crossing) (p : Parts) (f : Fate) (bytes : List ℕ) → f ≡ fate.Drop cause.Memory → Shows ls x p f bytes → IsProperFate f bytes
memory_proper ls x p (fate.Pass len) bytes e shows = absurd (cc e)
memory_proper ls x p (fate.Drop why) bytes e shows = (shows, (let same : why ≡ cause.Memory = cc e in subst (λ w. FitsFate (fate.Drop w)) (sym same) tt))

-- ---- a call on a history

-- a port's history is right and short, and what its commands give is small
pub record FitsHistory (o : Opening) (h : List Event) : Type 0 where
  pub right : AllRight o h
  pub short : length h < 2 ^ 32
  pub events : Each FitsEvent h
  pub none : AreAtMost 0 o.layers
  pub seen : Each FitsSeen o.layers

right_at : (cs : List ℕ) (ls : List LayerSeen) (h : List Event) (n : ℕ) (e : Event) → AreRight cs ls h → slice_get h n ≡ Some e → IsRight cs (after_all cs ls (take n h)) e
right_at cs ls [] n e a t = absurd (cc t)
right_at cs ls (x ∷ h) zero e a t = let same : x ≡ e = cc t in subst (IsRight cs ls) same a.0
right_at cs ls (x ∷ h) (suc n) e a t = right_at cs (after cs ls x) h n e a.1 t

each_take : {A : Type 0} (P : A → Type 0) (n : ℕ) (xs : List A) → Each P xs → Each P (take n xs)
each_take P zero xs e = tt
each_take P (suc n) [] e = tt
each_take P (suc n) (x ∷ xs) e = (e.0, each_take P n xs e.1)

layers_fit : (o : Opening) (h : List Event) (n : ℕ) → FitsHistory o h → Each FitsSeen (replay o (take n h))
layers_fit o h n f = replay_fits 0 o.controllers o.layers (take n h) (omega (arith, f.short, length-take n h)) (each_take FitsEvent n h f.events) f.none f.seen

pub carried_proper : (o : Opening) (h : List Event) (x : Crossing) (p : Parts) (f : Fate) (bytes : List ℕ) (entry : Bool) (n : ℕ) → FitsHistory o h → IsFramed x p → Shows (replay o (take n h)) x p f bytes
    → IsCall o h (record { deed = Carried x p f bytes; entry = entry; count = n }) → IsProperFate f bytes
carried_proper o h x p f bytes entry n fit framed shows (Entry i) = fate_proper (replay o (take n h)) x p f bytes framed (layers_fit o h n fit) (right_at o.controllers o.layers h n (event.Crossing x f) fit.right i.stands).0 shows
carried_proper o h x p f bytes entry n fit framed shows (Read i) = fate_proper (replay o (take n h)) x p f bytes framed (layers_fit o h n fit) i.reads.0 shows
carried_proper o h x p f bytes entry n fit framed shows (Short i) = memory_proper (replay o (take n h)) x p f bytes i.wants.0 shows

-- a job is of numbers in the ranges of their types, and of bytes
abbrev pub FitsJob : Job → Type 0
FitsJob (Carry x p) = (x.caller < 2 ^ 32) × (x.packet < 2 ^ 32) × IsFramed x p
FitsJob (Ask l) = FitsLine l × (l.controller < 2 ^ 16)

deed_proper : (o : Opening) (h : List Event) (d : Deed) (entry : Bool) (n : ℕ) → FitsHistory o h → FitsJob (job_of d) → HasBytes o h (record { deed = d; entry = entry; count = n }) → IsCall o h (record { deed = d; entry = entry; count = n })
    → IsProperLine (line_of (record { deed = d; entry = entry; count = n }))
deed_proper o h (Carried x p f bytes) entry n fit j b i = (j.1, omega (arith, fit.short, count_within o h (record { deed = Carried x p f bytes; entry = entry; count = n }) i), (j.0, carried_proper o h x p f bytes entry n fit j.2 b i))
deed_proper o h (Asked l reply) entry n fit j b i = (j.0.0, omega (arith, fit.short, count_within o h (record { deed = Asked l reply; entry = entry; count = n }) i), j.1)

pub call_proper : (o : Opening) (h : List Event) (c : Call) → FitsHistory o h → FitsJob (job_of c.deed) → HasBytes o h c → IsCall o h c → IsProperLine (line_of c)
call_proper o h c fit j b i = deed_proper o h c.deed c.entry c.count fit j b i
