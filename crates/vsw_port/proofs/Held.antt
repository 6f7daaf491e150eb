-- A core keeps its layers as its history leaves them.
use Rattle.std.proofs.Common.{◌≡◌, ◌+◌, ℕ, Bool, true, false, not, true≢false, List, [], ◌∷◌, ◌++◌, length, Result, Ok, Err, refl, sym, ap, subst, ◌∙◌, arith, length-append, append-nil, OnErr}
use Rattle.vsw_base.specs.declared.fate.Fate.{Fate}
use Rattle.vsw_base.specs.Frame.{Parts}
use Rattle.vsw_port.specs.Cross.{cross_of}
use Rattle.vsw_port.specs.Fate.{fate_at}
use Rattle.vsw_base.specs.declared.flow.Crossing.{Crossing}
use Rattle.vsw_port.specs.declared.event.Event.{Event}
use Rattle.vsw_port.specs.declared.event.Event.TheVariants as event
use Rattle.vsw_port.specs.History.{Opening, IsRight, after, after_all, left_by, replay, reply_in}
use Rattle.vsw_port.specs.Calls.{Carried}
use Rattle.vsw_port.specs.Next.{IsDone, Enters, Reading, Wanting}
use Rattle.vsw_port.proofs.Next.{right_more, still}
use Rattle.vsw_policy.specs.Layer.{LayerSeen}
use Rattle.vsw_policy.specs.declared.command.Command.{Command}
use Rattle.vsw_policy.specs.declared.refusal.Refusal.{Refusal}
use Rattle.vsw_policy.specs.declared.refusal.Refusal.TheVariants as refusal
use Rattle.vsw_policy.specs.Layers.{PolicySeen}
use Rattle.vsw_policy.specs.Obey.{is_memory, obey, told}
use Rattle.vsw_policy.specs.Refusals.{reply_of}
use Rattle.vsw_port.specs.Core.{AreAtMost, IsHeld, entered}
use Rattle.vsw_port.specs.Crossed.{Crossed, MayBeShort, crossed, is_short}
use Rattle.vsw_port.proofs.Numbers.{crossed_grows, more_at_most, obeyed_at_most}

after_more : (cs : List ℕ) (ls : List LayerSeen) (h : List Event) (e : Event) → after_all cs ls (h ++ e ∷ []) ≡ after cs (after_all cs ls h) e
after_more cs ls [] e = refl
after_more cs ls (x ∷ h) e = after_more cs (after cs ls x) h e

one_longer : (h : List Event) (e : Event) → length (h ++ e ∷ []) ≡ length h + 1
one_longer h e = length-append h (e ∷ [])

-- one more right entry, after which these layers stand
held_more : (o : Opening) (h : List Event) (p q : PolicySeen) (e : Event) → IsHeld o h p → q.controllers ≡ p.controllers → q.layers ≡ after o.controllers p.layers e → IsRight o.controllers p.layers e → AreAtMost (length h + 1) q.layers
    → IsHeld o (h ++ e ∷ []) q
held_more o h p q e held names layers right numbers = record {
  layers = layers ∙ (ap (λ ls. after o.controllers ls e) held.layers ∙ sym (after_more o.controllers o.layers h e));
  controllers = names ∙ held.controllers;
  right = right_more o.controllers o.layers h e held.right (subst (λ ls. IsRight o.controllers ls e) held.layers right);
  numbers = subst (λ n. AreAtMost n q.layers) (sym (one_longer h e)) numbers;
}

-- a packet that changed the layers
held_crossing : (o : Opening) (h : List Event) (p q : PolicySeen) (x : Crossing) (fate : Fate) (entry : Bool) → IsHeld o h p → q.controllers ≡ p.controllers → record { fate = fate; layers = q.layers; entry = entry } ≡ crossed (is_short fate) p.layers x → entry ≡ true
    → IsHeld o (h ++ event.Crossing x fate ∷ []) q
held_crossing o h p q x fate entry held names e is = by (is_short fate) e
  where
    by : (b : Bool) → record { fate = fate; layers = q.layers; entry = entry } ≡ crossed b p.layers x → IsHeld o (h ++ event.Crossing x fate ∷ []) q
    by true f = absurd (true≢false (sym is ∙ ap (λ (c : Crossed). c.entry) f))
    by false f =
        let layers = ap (λ (c : Crossed). c.layers) f in
        held_more o h p q (event.Crossing x fate) held names layers (ap (λ (c : Crossed). c.fate) f, sym (ap (λ (c : Crossed). c.entry) f) ∙ is) (subst (AreAtMost (length h + 1)) (sym layers) (crossed_grows (length h) p.layers x held.numbers))

-- a packet that changed nothing
held_still : (o : Opening) (h : List Event) (p q : PolicySeen) (x : Crossing) (fate : Fate) (entry : Bool) → IsHeld o h p → q.controllers ≡ p.controllers → record { fate = fate; layers = q.layers; entry = entry } ≡ crossed (is_short fate) p.layers x → entry ≡ false
    → IsHeld o h q
held_still o h p q x fate entry held names e is =
    let same = by (is_short fate) e in
    record { layers = same ∙ held.layers; controllers = names ∙ held.controllers; right = held.right; numbers = subst (AreAtMost (length h)) (sym same) held.numbers }
  where
    by : (b : Bool) → record { fate = fate; layers = q.layers; entry = entry } ≡ crossed b p.layers x → q.layers ≡ p.layers
    by true f = ap (λ (c : Crossed). c.layers) f
    by false f = ap (λ (c : Crossed). c.layers) f ∙ still p.layers x (sym (ap (λ (c : Crossed). c.entry) f) ∙ is)

-- a packet, whether it changed anything or not
pub held_crossed : (o : Opening) (h : List Event) (p q : PolicySeen) (x : Crossing) (fate : Fate) (entry : Bool) → IsHeld o h p → q.controllers ≡ p.controllers → record { fate = fate; layers = q.layers; entry = entry } ≡ crossed (is_short fate) p.layers x
    → IsHeld o (h ++ entered entry (event.Crossing x fate)) q
held_crossed o h p q x fate entry held names e = by entry refl
  where
    by : (b : Bool) → entry ≡ b → IsHeld o (h ++ entered b (event.Crossing x fate)) q
    by true is = held_crossing o h p q x fate entry held names e is
    by false is = subst (λ g. IsHeld o g q) (sym (append-nil h)) (held_still o h p q x fate entry held names e is)

-- the layers before and after it are those of the history
pub crossed_held : (o : Opening) (h g : List Event) (p q : PolicySeen) (x : Crossing) (fate : Fate) (entry : Bool) → IsHeld o h p → IsHeld o g q → record { fate = fate; layers = q.layers; entry = entry } ≡ crossed (is_short fate) p.layers x
    → record { fate = fate; layers = replay o g; entry = entry } ≡ crossed (is_short fate) (replay o h) x
crossed_held o h g p q x fate entry before after e =
    subst (λ (ls : List LayerSeen). record { fate = fate; layers = ls; entry = entry } ≡ crossed (is_short fate) (replay o h) x) after.layers (subst (λ (ls : List LayerSeen). record { fate = fate; layers = q.layers; entry = entry } ≡ crossed (is_short fate) ls x) before.layers e)

-- and what was told of it is right at the end of the history
pub crossed_done : (o : Opening) (h : List Event) (p : PolicySeen) (x : Crossing) (parts : Parts) (fate : Fate) (layers : List LayerSeen) (entry : Bool) (bytes : List ℕ) → IsHeld o h p → record { fate = fate; layers = layers; entry = entry } ≡ crossed (is_short fate) p.layers x
    → MayBeShort (is_short fate) p.layers x → IsDone o h (Carried x parts fate bytes) entry
crossed_done o h p x parts fate layers entry bytes held e m =
    by (is_short fate) (subst (λ (ls : List LayerSeen). record { fate = fate; layers = layers; entry = entry } ≡ crossed (is_short fate) ls x) held.layers e) (subst (λ (ls : List LayerSeen). MayBeShort (is_short fate) ls x) held.layers m)
  where
    by : (b : Bool) → record { fate = fate; layers = layers; entry = entry } ≡ crossed b (replay o h) x → MayBeShort b (replay o h) x → IsDone o h (Carried x parts fate bytes) entry
    by true f m = Wanting (ap (λ (c : Crossed). c.entry) f) (ap (λ (c : Crossed). c.fate) f, m)
    by false f m = answered entry refl
      where
        right : fate ≡ fate_at (replay o h) x
        right = ap (λ (c : Crossed). c.fate) f

        changes : entry ≡ (cross_of (replay o h) x).changed
        changes = ap (λ (c : Crossed). c.entry) f

        answered : (b : Bool) → entry ≡ b → IsDone o h (Carried x parts fate bytes) entry
        answered true is = Enters is (right, sym changes ∙ is)
        answered false is = Reading is (right, sym changes ∙ is)

memory_answer : (answer : Result (Unit {0}) Refusal) → is_memory answer ≡ true → answer ≡ Err refusal.Memory
memory_answer (Err refusal.Memory) e = refl
memory_answer (Ok done) e = absurd (true≢false (sym e))
memory_answer (Err refusal.NoLayer) e = absurd (true≢false (sym e))
memory_answer (Err refusal.LayerExists) e = absurd (true≢false (sym e))
memory_answer (Err refusal.NoGroup) e = absurd (true≢false (sym e))
memory_answer (Err refusal.GroupExists) e = absurd (true≢false (sym e))
memory_answer (Err refusal.NoRule) e = absurd (true≢false (sym e))
memory_answer (Err refusal.RuleExists) e = absurd (true≢false (sym e))
memory_answer (Err refusal.ManyLayers) e = absurd (true≢false (sym e))
memory_answer (Err refusal.ManyGroups) e = absurd (true≢false (sym e))
memory_answer (Err refusal.ManyRules) e = absurd (true≢false (sym e))
memory_answer (Err refusal.ManyParts) e = absurd (true≢false (sym e))
memory_answer (Err refusal.PartTwice) e = absurd (true≢false (sym e))

reply_told : (answer : Result (Unit {0}) Refusal) (ls : List LayerSeen) → reply_in (told answer ls) ≡ reply_of answer
reply_told (Ok done) ls = refl
reply_told (Err why) ls = refl

left_told : (answer : Result (Unit {0}) Refusal) (old new : List LayerSeen) → OnErr answer (new ≡ old) → left_by old (told answer new) ≡ new
left_told (Ok done) old new same = refl
left_told (Err why) old new same = sym same

-- a command, obeyed or refused
held_command : (o : Opening) (h : List Event) (p q : PolicySeen) (line controller : ℕ) (m : Command) (answer : Result (Unit {0}) Refusal) → IsHeld o h p → q.controllers ≡ p.controllers → OnErr answer (q.layers ≡ p.layers)
    → told answer q.layers ≡ obey p.controllers p.layers controller m → IsHeld o (h ++ event.Command controller line m (reply_of answer) ∷ []) q
held_command o h p q line controller m answer held names same e =
    let exact : told answer q.layers ≡ obey o.controllers p.layers controller m = e ∙ ap (λ cs. obey cs p.layers controller m) held.controllers in
    let layers : q.layers ≡ left_by p.layers (obey o.controllers p.layers controller m) = sym (left_told answer p.layers q.layers same) ∙ ap (left_by p.layers) exact in
    let reply : reply_of answer ≡ reply_in (obey o.controllers p.layers controller m) = sym (reply_told answer q.layers) ∙ ap reply_in exact in
    held_more o h p q (event.Command controller line m (reply_of answer)) held names layers reply
    (subst (AreAtMost (length h + 1)) (sym layers) (more_at_most (length h) (length h + 1) (left_by p.layers (obey o.controllers p.layers controller m)) (omega arith) (obeyed_at_most (length h) o.controllers p.layers controller m held.numbers)))

-- a command, whether memory was wanting or not
pub held_asked : (o : Opening) (h : List Event) (p q : PolicySeen) (line controller : ℕ) (m : Command) (answer : Result (Unit {0}) Refusal) → IsHeld o h p → q.controllers ≡ p.controllers → OnErr answer (q.layers ≡ p.layers)
    → (is_memory answer ≡ false → told answer q.layers ≡ obey p.controllers p.layers controller m) → IsHeld o (h ++ entered (not (is_memory answer)) (event.Command controller line m (reply_of answer))) q
held_asked o h p q line controller m answer held names same e = by (is_memory answer) refl
  where
    by : (b : Bool) → is_memory answer ≡ b → IsHeld o (h ++ entered (not b) (event.Command controller line m (reply_of answer))) q
    by false is = held_command o h p q line controller m answer held names same (e is)
    by true is =
        let layers : q.layers ≡ p.layers = subst (λ a. OnErr a (q.layers ≡ p.layers)) (memory_answer answer is) same in
        subst (λ g. IsHeld o g q) (sym (append-nil h)) (record { layers = layers ∙ held.layers; controllers = names ∙ held.controllers; right = held.right; numbers = subst (AreAtMost (length h)) (sym layers) held.numbers })
