-- What a call at the history's end tells of a packet.
use Rattle.std.proofs.Common.{◌≡◌, ℕ, Bool, true, false, List, [], ◌∷◌, ◌++◌, Option, None, Some, Err, refl, sym, ap, subst, ◌∙◌, append-nil}
use Rattle.vsw_port.specs.declared.stop.Stop.{Stop}
use Rattle.vsw_port.specs.declared.stop.Stop.TheVariants.{Long, Full, Taken, Memory}
use Rattle.vsw_port.specs.Admit.{stop_of}
use Rattle.vsw_base.specs.declared.fate.Fate.{Fate}
use Rattle.vsw_base.specs.declared.fate.Verdict.{Verdict}
use Rattle.vsw_base.specs.declared.fate.Verdict.TheVariants.{Pass, Rule, Default}
use Rattle.vsw_base.specs.declared.flow.Crossing.{Crossing}
use Rattle.vsw_base.specs.declared.header.Header.{Header}
use Rattle.vsw_base.specs.declared.packet.Control.TheVariants as control
use Rattle.vsw_base.specs.Frame.{Parts}
use Rattle.vsw_port.specs.Cross.{cross_of, fate_after, is_memory}
use Rattle.vsw_port.specs.Fate.{fate_at, fate_by}
use Rattle.vsw_port.proofs.Makes.{judged_other}
use Rattle.vsw_port.specs.declared.event.Event.{Event}
use Rattle.vsw_port.specs.declared.event.Event.TheVariants as event
use Rattle.vsw_port.specs.Calls.{Carried}
use Rattle.vsw_port.specs.History.{Opening, after, after_all, replay}
use Rattle.vsw_port.specs.Next.{IsDone, Enters, Reading, Wanting}
use Rattle.vsw_port.proofs.Next.{still}
use Rattle.vsw_policy.specs.Layer.{LayerSeen}
use Rattle.vsw_port.specs.Core.{entered}
use Rattle.vsw_port.specs.Crossed.{MayBeShort, crossed, is_short}
use Rattle.vsw_walk.specs.Walk.{walk_of}

-- no crossing ends for want of memory
never_after : (x : Crossing) (v : Verdict) (o : Option Stop) (hs : List Header) (kept : ℕ) → ((s : Stop) → o ≡ Some s → is_memory (Err s) ≡ false) → is_short (fate_by x (fate_after v o hs kept)) ≡ false
never_after x Pass None hs kept free = refl
never_after x Pass (Some Long) hs kept free = refl
never_after x Pass (Some (Full controller layer)) hs kept free = refl
never_after x Pass (Some (Taken controller layer pair)) hs kept free = refl
never_after x Pass (Some Memory) hs kept free = free Memory refl
never_after x (Rule controller layer group rule) o hs kept free = refl
never_after x (Default controller layer dir) o hs kept free = refl

never_short : (ls : List LayerSeen) (x : Crossing) → is_short (fate_at ls x) ≡ false
never_short ls x = never_after x (walk_of ls x).verdict (stop_of ls x (walk_of ls x)) (walk_of ls x).stack (walk_of ls x).kept (λ s e. by s e (is_memory (Err s)) refl)
  where
    by : (s : Stop) → stop_of ls x (walk_of ls x) ≡ Some s → (b : Bool) → is_memory (Err s) ≡ b → is_memory (Err s) ≡ false
    by s e true f = judged_other ls x (walk_of ls x) s e f
    by s e false f = f

-- some frame's parts: what is told of a packet's fate is the same for all
some_parts : Parts
some_parts = record { stack = []; control = control.None; levels = []; payload = [] }

after_more : (cs : List ℕ) (ls : List LayerSeen) (h : List Event) (e : Event) → after_all cs ls (h ++ e ∷ []) ≡ after cs (after_all cs ls h) e
after_more cs ls [] e = refl
after_more cs ls (x ∷ h) e = after_more cs (after cs ls x) h e

-- the fate and the layers are those of a crossing, whether it is an entry or not
right_crossed : (ls new : List LayerSeen) (x : Crossing) (fate : Fate) (entry : Bool) → fate ≡ fate_at ls x → new ≡ (cross_of ls x).layers → entry ≡ (cross_of ls x).changed → record { fate = fate; layers = new; entry = entry } ≡ crossed (is_short fate) ls x
right_crossed ls new x fate entry f n e =
    subst (λ b. record { fate = fate; layers = new; entry = entry } ≡ crossed b ls x) (sym (ap is_short f ∙ never_short ls x)) (λ i. record { fate = f i; layers = n i; entry = e i })

-- so a packet that is done at the history's end has crossed the layers
pub done_crossed : (o : Opening) (h g : List Event) (x : Crossing) (fate : Fate) (entry : Bool) → ((p : Parts) (bytes : List ℕ) → IsDone o h (Carried x p fate bytes) entry) → g ≡ h ++ entered entry (event.Crossing x fate)
    → record { fate = fate; layers = replay o g; entry = entry } ≡ crossed (is_short fate) (replay o h) x
done_crossed o h g x fate entry done is = subst (λ k. record { fate = fate; layers = replay o k; entry = entry } ≡ crossed (is_short fate) (replay o h) x) (sym is) (by (done some_parts []))
  where
    same : entry ≡ false → replay o (h ++ entered entry (event.Crossing x fate)) ≡ replay o h
    same none = ap (λ b. replay o (h ++ entered b (event.Crossing x fate))) none ∙ ap (replay o) (append-nil h)

    by : IsDone o h (Carried x some_parts fate []) entry → record { fate = fate; layers = replay o (h ++ entered entry (event.Crossing x fate)); entry = entry } ≡ crossed (is_short fate) (replay o h) x
    by (Enters enters right) =
        let layers = ap (λ b. replay o (h ++ entered b (event.Crossing x fate))) enters ∙ after_more o.controllers o.layers h (event.Crossing x fate) in
        right_crossed (replay o h) (replay o (h ++ entered entry (event.Crossing x fate))) x fate entry right.0 layers (enters ∙ sym right.1)
    by (Reading none reads) =
        right_crossed (replay o h) (replay o (h ++ entered entry (event.Crossing x fate))) x fate entry reads.0 (same none ∙ sym (still (replay o h) x reads.1)) (none ∙ sym reads.1)
    by (Wanting none wants) =
        subst (λ b. record { fate = fate; layers = replay o (h ++ entered entry (event.Crossing x fate)); entry = entry } ≡ crossed b (replay o h) x) (sym (ap is_short wants.0)) (λ i. record { fate = wants.0 i; layers = same none i; entry = none i })

-- and memory may have been wanting only to make a pair
pub done_short : (o : Opening) (h : List Event) (x : Crossing) (fate : Fate) (entry : Bool) → ((p : Parts) (bytes : List ℕ) → IsDone o h (Carried x p fate bytes) entry) → MayBeShort (is_short fate) (replay o h) x
done_short o h x fate entry done = by (done some_parts [])
  where
    plenty : fate ≡ fate_at (replay o h) x → MayBeShort (is_short fate) (replay o h) x
    plenty f = subst (λ b. MayBeShort b (replay o h) x) (sym (ap is_short f ∙ never_short (replay o h) x)) tt

    by : IsDone o h (Carried x some_parts fate []) entry → MayBeShort (is_short fate) (replay o h) x
    by (Enters enters right) = plenty right.0
    by (Reading none reads) = plenty reads.0
    by (Wanting none wants) = subst (λ b. MayBeShort b (replay o h) x) (sym (ap is_short wants.0)) wants.1
