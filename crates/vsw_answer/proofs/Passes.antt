-- What a core and the writing of a frame tell is the passage of the frame.
use Rattle.std.proofs.Common.{◌≡◌, ◌≤◌, ◌+◌, ◌*◌, ℕ, Bool, true, false, true≢false, List, [], length, nat_lt, Option, None, Some, Result, Ok, Err, refl, sym, ap, subst, ◌∙◌, arith}
use Rattle.std.specs.Prelude.{if◌then◌else◌}
use Rattle.vsw_port.specs.declared.stop.Stop.{Stop}
use Rattle.vsw_port.specs.declared.stop.Stop.TheVariants.{Long}
use Rattle.vsw_port.specs.Admit.{on_pass, refusal, stop_of}
use Rattle.vsw_port.specs.Long as sizes
use Rattle.vsw_port.specs.Long.{is_long}
use Rattle.vsw_port.proofs.Alike.{long_alike, size_told}
use Rattle.vsw_port.proofs.Edits.{followed}
use Rattle.vsw_base.specs.declared.fate.Cause.{Cause}
use Rattle.vsw_base.specs.declared.fate.Fate.{Fate}
use Rattle.vsw_base.specs.declared.fate.Fate.TheVariants.{Pass, Drop}
use Rattle.vsw_base.specs.declared.fate.Verdict.{Verdict}
use Rattle.vsw_base.specs.declared.fate.Verdict.TheVariants as verdict
use Rattle.vsw_base.specs.declared.flow.Crossing.{Crossing}
use Rattle.vsw_base.specs.declared.header.Header.{Header}
use Rattle.vsw_base.specs.Frame.{Parts, sizes_of}
use Rattle.vsw_base.specs.Shape.{encaps, is_stack}
use Rattle.vsw_base.proofs.Stacks.{in_front}
use Rattle.vsw_port.specs.Cross.{Passing, cross_of, fate_after}
use Rattle.vsw_port.specs.Fate.{fate_at, fate_by}
use Rattle.vsw_walk.specs.Walk.{Walk, walk_of}
use Rattle.vsw_frame.specs.Bytes.{IsEdit, outer_total, outgoing, outgoing_size, pushes}
use Rattle.vsw_frame.specs.Tiles.{outermost}
use Rattle.vsw_port.specs.Calls.{Shows}
use Rattle.vsw_policy.specs.Layer.{LayerSeen}
use Rattle.vsw_port.specs.Crossed.{Crossed, Edits, EditsPass, IsOwn, crossed, is_short}
use Rattle.vsw_answer.specs.Transit.{CanLeave, HasLeft, IsUnedited, Leaves, bytes_in, bytes_of, bytes_of_pass, fate_of, len_of, met, passage_of, told}

abbrev is_pass : Fate → Bool
is_pass (Pass len) = true
is_pass (Drop cause) = false

-- a packet that passes has a verdict that passes, and is stopped by nothing
record Free (v : Verdict) (o : Option Stop) (x : Crossing) (hs : List Header) (left n : ℕ) : Type 0 where
  passes : v ≡ verdict.Pass
  free : o ≡ None
  size : n ≡ sizes.outgoing_size x hs left

free_of : (v : Verdict) (o : Option Stop) (x : Crossing) (hs : List Header) (left n : ℕ) → Pass n ≡ fate_by x (fate_after v o hs left) → Free v o x hs left n
free_of verdict.Pass None x hs left n e = record { passes = refl; free = refl; size = ap len_of e }
free_of verdict.Pass (Some stop) x hs left n e = absurd (true≢false (ap is_pass e))
free_of (verdict.Rule controller layer group rule) o x hs left n e = absurd (true≢false (ap is_pass e))
free_of (verdict.Default controller layer dir) o x hs left n e = absurd (true≢false (ap is_pass e))

abbrev is_none : Option Stop → Bool
is_none None = true
is_none (Some stop) = false

-- nor is it long
not_long : (ls : List LayerSeen) (x : Crossing) (w : Walk) → w.verdict ≡ verdict.Pass → stop_of ls x w ≡ None → is_long x w.stack w.kept ≡ false
not_long ls x w e f = by (is_long x w.stack w.kept) refl
  where
    passed : on_pass verdict.Pass (if is_long x w.stack w.kept then Some Long else refusal ls w.changes) ≡ None
    passed = ap (λ v. on_pass v (if is_long x w.stack w.kept then Some Long else refusal ls w.changes)) (sym e) ∙ f

    by : (b : Bool) → is_long x w.stack w.kept ≡ b → is_long x w.stack w.kept ≡ false
    by true g = absurd (true≢false (sym (ap is_none (ap (λ b. on_pass verdict.Pass (if b then Some Long else refusal ls w.changes)) (sym g) ∙ passed))))
    by false g = g

-- the fate that a core tells of a packet for which memory sufficed
told_fate : (ls new : List LayerSeen) (x : Crossing) (n : ℕ) (entry : Bool) → record { fate = Pass n; layers = new; entry = entry } ≡ crossed false ls x → Pass n ≡ fate_at ls x
told_fate ls new x n entry e = ap (λ (c : Crossed). c.fate) e

free_at : (ls new : List LayerSeen) (x : Crossing) (n : ℕ) (entry : Bool) → record { fate = Pass n; layers = new; entry = entry } ≡ crossed false ls x → Free (walk_of ls x).verdict (stop_of ls x (walk_of ls x)) x (walk_of ls x).stack (walk_of ls x).kept n
free_at ls new x n entry e = free_of (walk_of ls x).verdict (stop_of ls x (walk_of ls x)) x (walk_of ls x).stack (walk_of ls x).kept n (told_fate ls new x n entry e)

-- the stack that a core lends is its own
pub lent : (ls : List LayerSeen) (x : Crossing) (hs gs : List Header) (left : ℕ) (fate : Fate) → gs ≡ hs → EditsPass ls x hs left fate → EditsPass ls x gs left fate
lent ls x hs gs left fate e d = subst (λ (ks : List Header). EditsPass ls x ks left fate) (sym e) d

pub can_leave : (ls new : List LayerSeen) (x : Crossing) (p : Parts) (hs : List Header) (left : ℕ) (fate : Fate) (entry : Bool) → record { fate = fate; layers = new; entry = entry } ≡ crossed (is_short fate) ls x → EditsPass ls x hs left fate
    → is_stack x.id.stack ≡ true → x.id.stack ≡ p.stack → x.sizes ≡ sizes_of p.levels → CanLeave p hs left fate
can_leave ls new x p hs left (Drop cause) entry e d shape stack size = tt
can_leave ls new x p hs left (Pass n) entry e d shape stack size =
    let w : Walk = walk_of ls x in
    let f = free_at ls new x n entry e in
    let long : is_long x w.stack w.kept ≡ false = not_long ls x w f.passes f.free in
    let alike = long_alike p x w.stack w.kept (ap is_stack (sym stack) ∙ shape) stack size in
    let short : nat_lt 65535 (outer_total p w.stack w.kept) ≡ false = ap (nat_lt 65535) (sym alike) ∙ long in
    let edit : IsEdit p.stack w.stack w.kept = subst (λ (gs : List Header). IsEdit gs w.stack w.kept) stack (followed ls x shape) in
    rw (d.stack, d.kept) (edit, short)

-- what stands in the room after a frame passed: its bytes, as many as the fate tells
record Written (ls : List LayerSeen) (x : Crossing) (p : Parts) (n : ℕ) (own : Bool) (out : List ℕ) : Type 0 where
  bytes : bytes_of_pass own p n out ≡ outgoing p (walk_of ls x).stack (walk_of ls x).kept
  length_is : n ≡ length (outgoing p (walk_of ls x).stack (walk_of ls x).kept)
  room : n ≤ 65700

written : (ls new : List LayerSeen) (x : Crossing) (p : Parts) (hs : List Header) (left n : ℕ) (entry own : Bool) (out : List ℕ) → record { fate = Pass n; layers = new; entry = entry } ≡ crossed false ls x → Edits ls x hs left
    → is_stack x.id.stack ≡ true → x.id.stack ≡ p.stack → x.sizes ≡ sizes_of p.levels → HasLeft p hs left own out → Written ls x p n own out
written ls new x p hs left n entry own out e d shape stack size has =
    let w : Walk = walk_of ls x in
    let told = size_told x p w.kept (omega (arith, (in_front x.id.stack shape).0, ap encaps stack)) stack size in
    let many : n ≡ outgoing_size p w.stack w.kept = (free_at ls new x n entry e).size ∙ ap (λ (m : ℕ). m + 50 * pushes w.stack w.kept) told in
    let here : HasLeft p w.stack w.kept own out = subst (λ (gs : List Header). HasLeft p gs w.kept own out) d.stack (subst (λ (m : ℕ). HasLeft p hs m own out) d.kept has) in
    record { bytes = ap (λ m. bytes_of_pass own p m out) many ∙ here.bytes; length_is = many ∙ sym here.size; room = omega (arith, many, here.room) }

pub shows : (ls new : List LayerSeen) (x : Crossing) (p : Parts) (hs : List Header) (left : ℕ) (fate : Fate) (entry own : Bool) (out : List ℕ) → record { fate = fate; layers = new; entry = entry } ≡ crossed (is_short fate) ls x → EditsPass ls x hs left fate
    → is_stack x.id.stack ≡ true → x.id.stack ≡ p.stack → x.sizes ≡ sizes_of p.levels → Leaves p hs left own fate out → Shows ls x p fate (bytes_in own p fate out)
shows ls new x p hs left (Drop cause) entry own out e d shape stack size has = refl
shows ls new x p hs left (Pass n) entry own out e d shape stack size has = (written ls new x p hs left n entry own out e d shape stack size has).bytes

pub short_enough : (ls new : List LayerSeen) (x : Crossing) (p : Parts) (hs : List Header) (left : ℕ) (fate : Fate) (entry own : Bool) (out : List ℕ) → record { fate = fate; layers = new; entry = entry } ≡ crossed (is_short fate) ls x → EditsPass ls x hs left fate
    → is_stack x.id.stack ≡ true → x.id.stack ≡ p.stack → x.sizes ≡ sizes_of p.levels → Leaves p hs left own fate out → len_of fate ≤ 65700
short_enough ls new x p hs left (Drop cause) entry own out e d shape stack size has = omega arith
short_enough ls new x p hs left (Pass n) entry own out e d shape stack size has = (written ls new x p hs left n entry own out e d shape stack size has).room

drop_is : (x : Crossing) (p : Parts) (cause : Cause) (r : Result Passing Cause) → Drop cause ≡ fate_by x r → (fate_of p r ≡ Drop cause) × (bytes_of p r ≡ [])
drop_is x p cause (Ok passing) e = absurd (true≢false (sym (ap is_pass e)))
drop_is x p cause (Err why) e = (sym e, refl)

-- a frame that was told of by its packet
pub passage : (ls new : List LayerSeen) (x : Crossing) (p : Parts) (hs : List Header) (left : ℕ) (fate : Fate) (entry own : Bool) (out : List ℕ) → record { fate = fate; layers = new; entry = entry } ≡ crossed (is_short fate) ls x → EditsPass ls x hs left fate
    → is_stack x.id.stack ≡ true → x.id.stack ≡ p.stack → x.sizes ≡ sizes_of p.levels → Leaves p hs left own fate out → told fate entry (bytes_in own p fate out) new ≡ met (is_short fate) ls x p
unfolding passage_of
passage ls new x p hs left (Pass n) entry own out e d shape stack size has =
    let f = free_at ls new x n entry e in
    let w = written ls new x p hs left n entry own out e d shape stack size has in
    let ends : fate_after verdict.Pass None (walk_of ls x).stack (walk_of ls x).kept ≡ (cross_of ls x).fate =
    ap (λ v. fate_after v None (walk_of ls x).stack (walk_of ls x).kept) (sym f.passes) ∙ ap (λ o. fate_after (walk_of ls x).verdict o (walk_of ls x).stack (walk_of ls x).kept) (sym f.free) in
    let fate_is : Pass n ≡ fate_of p (cross_of ls x).fate = ap Pass w.length_is ∙ ap (fate_of p) ends in
    let bytes_are : bytes_of_pass own p n out ≡ bytes_of p (cross_of ls x).fate = w.bytes ∙ ap (bytes_of p) ends in
    λ i. record { fate = fate_is i; bytes = bytes_are i; layers = (e i).layers; entry = (e i).entry }
passage ls new x p hs left (Drop cause) entry own out e d shape stack size has = by (is_short (Drop cause)) e
  where
    by : (b : Bool) → record { fate = Drop cause; layers = new; entry = entry } ≡ crossed b ls x → told (Drop cause) entry [] new ≡ met b ls x p
    by true g = ap (λ (c : Crossed). record { fate = c.fate; bytes = []; layers = c.layers; entry = c.entry }) g
    by false g =
        let drops = drop_is x p cause (cross_of ls x).fate (ap (λ (c : Crossed). c.fate) g) in
        λ i. record { fate = sym drops.0 i; bytes = sym drops.1 i; layers = (g i).layers; entry = (g i).entry }

-- a packet with its own headers is of an unedited frame
pub unedited : (x : Crossing) (p : Parts) (hs gs : List Header) (left : ℕ) (own : Bool) → gs ≡ hs → x.id.stack ≡ p.stack → (own ≡ true → IsOwn x hs left) → own ≡ true → IsUnedited p gs left
unedited x p hs gs left own same stack leaves e =
    let is : IsOwn x hs left = leaves e in
    record { stack = same ∙ is.stack ∙ stack; kept_is = is.kept ∙ ap encaps stack }

-- its own bytes are those that the definition gives
pub own_left : (p : Parts) (hs : List Header) (left : ℕ) (fate : Fate) (bytes out : List ℕ) → IsUnedited p hs left → bytes ≡ outermost p.levels → outgoing p p.stack (encaps p.stack) ≡ bytes → outgoing_size p p.stack (encaps p.stack) ≡ length bytes → length bytes ≤ 65600
    → Leaves p hs left true fate out
own_left p hs left (Drop cause) bytes out own whole is size short = tt
own_left p hs left (Pass n) bytes out own whole is size short =
    let here : HasLeft p p.stack (encaps p.stack) true out = record { bytes = sym whole ∙ sym is; size = ap length is ∙ sym size; room = omega (arith, size, short) } in
    subst (λ (gs : List Header). HasLeft p gs left true out) (sym own.stack) (subst (λ (m : ℕ). HasLeft p p.stack m true out) (sym own.kept_is) here)
