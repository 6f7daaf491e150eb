-- A packet, and a command, against what is told of it.
use Rattle.std.proofs.Common.{◌≡◌, ◌==◌, ◌&&◌, not, ℕ, Bool, true, false, true≢false, List, [], ◌∷◌, ◌++◌, length, Option, None, Some, Err, refl, sym, ap, subst, ◌∙◌, arith}
use Rattle.std.proofs.lemmas.Grind.{common_steps}
use Rattle.vsw_base.specs.declared.fate.Cause.TheVariants as cause
use Rattle.vsw_base.specs.declared.fate.Fate.{Fate}
use Rattle.vsw_base.specs.declared.fate.Fate.TheVariants.{Pass, Drop}
use Rattle.vsw_base.specs.declared.fate.Verdict.{Verdict}
use Rattle.vsw_base.specs.declared.fate.Verdict.TheVariants as verdict
use Rattle.vsw_base.specs.declared.flow.Crossing.{Crossing}
use Rattle.vsw_base.specs.declared.header.Header.{Header}
use Rattle.vsw_base.specs.Frame.{Parts}
use Rattle.vsw_policy.specs.Layer.{LayerSeen}
use Rattle.vsw_port.specs.declared.event.Event.{Event}
use Rattle.vsw_port.specs.declared.event.Event.TheVariants as event
use Rattle.vsw_port.specs.declared.stop.Stop.{Stop}
use Rattle.vsw_port.specs.declared.stop.Stop.TheVariants as stop
use Rattle.vsw_port.specs.Admit.{cause_of, stop_of}
use Rattle.vsw_port.specs.Calls.{Carried, Shows, ShowsAt}
use Rattle.vsw_port.specs.Core.{entered}
use Rattle.vsw_port.specs.Cross.{cross_of, fate_after, made_by, makes}
use Rattle.vsw_port.specs.Cross as port
use Rattle.vsw_port.specs.Crossed.{Crossed, crossed, is_short}
use Rattle.vsw_port.specs.Fate.{fate_at, fate_by}
use Rattle.vsw_port.specs.History.{Opening, replay}
use Rattle.vsw_port.specs.Next.{Enters, IsDone, Reading, Wanting}
use Rattle.vsw_port.specs.Walk.{walk_of}
use Rattle.vsw_port.proofs.Makes.{judged_other}
use Rattle.vsw_audit.specs.Private.Lines.{Judges}
use Rattle.vsw_audit.proofs.Tasks.{append_end}

-- ---- want of memory

short_is : (f : Fate) → is_short f ≡ true → f ≡ Drop cause.Memory
short_is (Drop cause.Memory) e = refl
short_is (Pass len) e = absurd (true≢false (sym e))
short_is (Drop (cause.Rule controller layer group rule)) e = absurd (true≢false (sym e))
short_is (Drop (cause.Default controller layer dir)) e = absurd (true≢false (sym e))
short_is (Drop cause.Long) e = absurd (true≢false (sym e))
short_is (Drop (cause.Full controller layer)) e = absurd (true≢false (sym e))
short_is (Drop (cause.Taken controller layer pair)) e = absurd (true≢false (sym e))

-- where memory suffices no packet is told of want of memory
memory_stop : (s : Stop) → is_short (Drop (cause_of s)) ≡ true → s ≡ stop.Memory
memory_stop stop.Memory e = refl
memory_stop stop.Long e = absurd (true≢false (sym e))
memory_stop (stop.Full controller layer) e = absurd (true≢false (sym e))
memory_stop (stop.Taken controller layer pair) e = absurd (true≢false (sym e))

never_by : (ls : List LayerSeen) (x : Crossing) (v : Verdict) (o : Option Stop) (hs : List Header) (kept : ℕ) → stop_of ls x (walk_of ls x) ≡ o → is_short (fate_by x (fate_after v o hs kept)) ≡ true → ⊥
never_by ls x verdict.Pass None hs kept e f = true≢false (sym f)
never_by ls x verdict.Pass (Some s) hs kept e f = judged_other ls x (walk_of ls x) s e (by (memory_stop s f))
  where
    by : s ≡ stop.Memory → port.is_memory (Err s) ≡ true
    by g = ap (λ w. port.is_memory (Err w)) g
never_by ls x (verdict.Rule controller layer group rule) o hs kept e f = true≢false (sym f)
never_by ls x (verdict.Default controller layer dir) o hs kept e f = true≢false (sym f)

never : (ls : List LayerSeen) (x : Crossing) → is_short (fate_at ls x) ≡ true → ⊥
never ls x e = never_by ls x (walk_of ls x).verdict (stop_of ls x (walk_of ls x)) (walk_of ls x).stack (walk_of ls x).kept refl e

-- ---- a packet

no_bytes : (bytes : List ℕ) → (length bytes == 0) ≡ true → bytes ≡ []
no_bytes [] e = refl
no_bytes (b ∷ bytes) e = grind (arith, common_steps)

both_true : (a b : Bool) → (a && b) ≡ true → (a ≡ true) × (b ≡ true)
both_true true b e = (refl, e)
both_true false b e = absurd (true≢false (sym e))

not_true : (b : Bool) → not b ≡ true → b ≡ false
not_true true e = absurd (true≢false (sym e))
not_true false e = refl

short_judged : (o : Opening) (h : List Event) (x : Crossing) (p : Parts) (fate : Fate) (bytes : List ℕ) (entry pair none : Bool) → fate ≡ Drop cause.Memory → entry ≡ false → pair ≡ makes (made_by (replay o h) x) → none ≡ (length bytes == 0)
    → Judges o h (Carried x p fate bytes) entry h (pair && none)
short_judged o h x p fate bytes entry pair none f n made empty = subst (λ w. Judges o h (Carried x p w bytes) entry h (pair && none)) (sym f) (subst (λ b. Judges o h (Carried x p (Drop cause.Memory) bytes) b h (pair && none)) (sym n) (record {
  yes = λ e. let t = both_true pair none e in (Wanting refl (refl, sym made ∙ t.0), no_bytes bytes (sym empty ∙ t.1), sym (append_end h));
  back = back;
}))
  where
    all : makes (made_by (replay o h) x) ≡ true → bytes ≡ [] → (pair && none) ≡ true
    all m b = let e : none ≡ true = empty ∙ ap (λ w. length w == 0) b in ap (λ c. c && none) (made ∙ m) ∙ e

    back : IsDone o h (Carried x p (Drop cause.Memory) bytes) false → bytes ≡ [] → (pair && none) ≡ true
    back (Enters t r) b = absurd (true≢false (sym t))
    back (Reading t r) b = absurd (never (replay o h) x (ap is_short (sym r.0)))
    back (Wanting t r) b = all r.1 b

pub short_read : (o : Opening) (h new : List Event) (x : Crossing) (p : Parts) (fate : Fate) (bytes : List ℕ) (entry pair none : Bool) → (is_short fate && not entry) ≡ true → pair ≡ makes (made_by (replay o h) x) → none ≡ (length bytes == 0) → new ≡ h
    → Judges o h (Carried x p fate bytes) entry new (pair && none)
short_read o h new x p fate bytes entry pair none e made empty same =
    let t = both_true (is_short fate) (not entry) e in
    subst (λ g. Judges o h (Carried x p fate bytes) entry g (pair && none)) (sym same) (short_judged o h x p fate bytes entry pair none (short_is fate t.0) (not_true entry t.1) made empty)

one_showing : (ls : List LayerSeen) (x : Crossing) (p : Parts) (fate : Fate) (a b : List ℕ) → Shows ls x p fate a → Shows ls x p fate b → a ≡ b
one_showing ls x p (Pass len) a b s t = s ∙ sym t
one_showing ls x p (Drop cause) a b s t = s ∙ sym t

pub record IsSettled (o : Opening) (h : List Event) (x : Crossing) (p : Parts) (f : Fate) (e : Bool) (layers : List LayerSeen) (own : List ℕ) (new : List Event) : Type 0 where
  pub exact : record { fate = f; layers = layers; entry = e } ≡ crossed (is_short f) (replay o h) x
  pub enough : is_short f ≡ false
  pub done : (bytes : List ℕ) → IsDone o h (Carried x p f bytes) e
  pub shows : Shows (replay o h) x p f own
  pub journal : new ≡ h ++ entered e (event.Crossing x f)

pub settled : (o : Opening) (h : List Event) (x : Crossing) (p : Parts) (f fate : Fate) (e entry : Bool) (layers : List LayerSeen) (own bytes : List ℕ) (new : List Event) (answer : Bool) → IsSettled o h x p f e layers own new → (is_short fate && not entry) ≡ false
    → (answer ≡ true → (e ≡ entry) × (f ≡ fate) × (bytes ≡ own)) → (e ≡ entry → f ≡ fate → bytes ≡ own → answer ≡ true)
    → Judges o h (Carried x p fate bytes) entry new answer
settled o h x p f fate e entry layers own bytes new answer s long told back = record { yes = λ a. yes (told a); back = by }
  where
    ls : List LayerSeen
    ls = replay o h

    is : record { fate = f; layers = layers; entry = e } ≡ crossed false ls x
    is = s.exact ∙ ap (λ b. crossed b ls x) s.enough

    yes : (e ≡ entry) × (f ≡ fate) × (bytes ≡ own) → IsDone o h (Carried x p fate bytes) entry × ShowsAt ls (Carried x p fate bytes) × (new ≡ h ++ entered entry (event.Crossing x fate))
    yes t = (
      subst (λ g. IsDone o h (Carried x p g bytes) entry) t.1 (subst (λ b. IsDone o h (Carried x p f bytes) b) t.0 (s.done bytes)),
      subst (λ g. Shows ls x p g bytes) t.1 (subst (Shows ls x p f) (sym t.2) s.shows),
      subst (λ g. new ≡ h ++ entered entry (event.Crossing x g)) t.1 (subst (λ b. new ≡ h ++ entered b (event.Crossing x f)) t.0 s.journal),
    )

    same : fate ≡ fate_at ls x → (cross_of ls x).changed ≡ entry → Shows ls x p fate bytes → answer ≡ true
    same g c b =
        let fates : f ≡ fate = ap (λ (w : Crossed). w.fate) is ∙ sym g in
        back (ap (λ (w : Crossed). w.entry) is ∙ c) fates (one_showing ls x p fate bytes own b (subst (λ w. Shows ls x p w own) fates s.shows))

    wanting : entry ≡ false → fate ≡ Drop cause.Memory → ⊥
    wanting t g = true≢false (sym (ap (λ w. is_short w && not entry) g ∙ ap not t) ∙ long)

    by : IsDone o h (Carried x p fate bytes) entry → Shows ls x p fate bytes → answer ≡ true
    by (Enters t r) b = same r.0 (r.1 ∙ sym t) b
    by (Reading t r) b = same r.0 (r.1 ∙ sym t) b
    by (Wanting t r) b = absurd (wanting t r.0)

-- ---- a command
