-- Sizes by the encapsulations that are popped and pushed.
use Rattle.std.proofs.Common.{◌≡◌, ◌+◌, ◌-◌, ◌*◌, ◌<◌, ◌≤◌, ℕ, Bool, List, Option, Some, None, true, false, refl, sym, ap, subst, ◌∙◌, arith, nat_lt, suc, zero}
use Rattle.std.specs.Prelude.{if◌then◌else◌, not}
use Rattle.std.proofs.lemmas.Grind.{common_steps}
use Rattle.vsw_answer.specs.Private.Said.{IsOf, fate_said}
use Rattle.vsw_base.specs.declared.fate.Cause.TheVariants as cause
use Rattle.vsw_base.specs.declared.fate.Fate.{Fate}
use Rattle.vsw_base.specs.declared.fate.Fate.TheVariants.{Pass, Drop}
use Rattle.vsw_base.specs.declared.fate.Verdict.{Verdict}
use Rattle.vsw_base.specs.declared.fate.Verdict.TheVariants as verdict
use Rattle.vsw_base.specs.declared.flow.Crossing.{Crossing}
use Rattle.vsw_base.specs.declared.header.Header.{Header}
use Rattle.vsw_base.specs.declared.packet.Dir.{Dir}
use Rattle.vsw_base.specs.Shape.{encaps}
use Rattle.vsw_words.specs.declared.doing.Doing.{Doing}
use Rattle.vsw_words.specs.Doing.{AreOf, Moves}
use Rattle.vsw_frame.specs.Bytes.{pushes, total_over}
use Rattle.vsw_port.specs.Cross.{fate_after}
use Rattle.vsw_port.specs.Crossed.{IsOwn}
use Rattle.vsw_port.specs.Fate.{fate_by}
use Rattle.vsw_port.specs.Long.{is_long, outgoing_size, size_without}
use Rattle.vsw_port.specs.declared.stop.Stop.TheVariants.{Long}
use Rattle.vsw_port.specs.Admit.{on_pass}
use Rattle.vsw_transpose.specs.declared.act.Act.{Act}
use Rattle.vsw_transpose.specs.Apply.{apply}
use Rattle.vsw_transpose.specs.Fits.{fits, kept}
use Rattle.vsw_words.specs.declared.row.Body.{Body}

-- the total length of a pushed encapsulation
pub total_is : (n len : ℕ) → 0 < n → 50 * n - 14 + len ≡ total_over n len
total_is zero len l = absurd (omega (arith, l))
total_is (suc n) len l = omega arith

pub short_is : (n len : ℕ) → 0 < n → nat_lt 65535 (total_over n len) ≡ false → 50 * n + len ≤ 65549
short_is n len l s = let few : total_over n len ≤ 65535 = grind (arith, common_steps) in omega (arith, few, total_is n len l)

-- the bytes of what leaves, or none
abbrev pub Size : ℕ → ℕ → Option ℕ
Size q n = if nat_lt 65535 (total_over q n) then None else Some (n + 50 * q)

some_is : (m n : ℕ) → ◌≡◌ {A = Option ℕ} (Some m) (Some n) → m ≡ n
some_is m n e = grind (arith, common_steps)

no_size : (b : Bool) (n : ℕ) → (if b then None else Some n) ≡ None → b ≡ true
no_size true n e = refl
no_size false n e = absurd (grind (arith, common_steps))

a_size : (b : Bool) (n m : ℕ) → (if b then None else Some n) ≡ Some m → (b ≡ false) × (n ≡ m)
a_size true n m e = absurd (grind (arith, common_steps))
a_size false n m e = (refl, some_is n m e)

-- encapsulations that are popped and pushed, by those before and after
abbrev Pushes : List Act → List Header → Doing → Type 0
Pushes by hs doing = (pushes (apply by hs) (kept by) ≡ doing.pushes) × (encaps hs - kept by ≡ doing.pops)

moved : (by : List Act) (hs : List Header) (doing : Doing) → Moves by hs doing → Pushes by hs doing
moved by hs doing m = (omega (arith, m.after), omega (arith, m.before))

abbrev pub FateOf : Crossing → List Act → Fate
FateOf x by = if is_long x (apply by x.id.stack) (kept by) then Drop cause.Long else Pass (outgoing_size x (apply by x.id.stack) (kept by))

long_is : (x : Crossing) (by : List Act) (doing : Doing) → Moves by x.id.stack doing → is_long x (apply by x.id.stack) (kept by) ≡ nat_lt 65535 (total_over doing.pushes (size_without x.sizes doing.pops))
long_is x by doing m =
    let p = moved by x.id.stack doing m in
    ap (λ (q : ℕ). nat_lt 65535 (total_over q (size_without x.sizes (encaps x.id.stack - kept by)))) p.0 ∙ ap (λ (d : ℕ). nat_lt 65535 (total_over doing.pushes (size_without x.sizes d))) p.1

size_is : (x : Crossing) (by : List Act) (doing : Doing) → Moves by x.id.stack doing → outgoing_size x (apply by x.id.stack) (kept by) ≡ size_without x.sizes doing.pops + 50 * doing.pushes
size_is x by doing m =
    let p = moved by x.id.stack doing m in
    ap (λ (q : ℕ). size_without x.sizes (encaps x.id.stack - kept by) + 50 * q) p.0 ∙ ap (λ (d : ℕ). size_without x.sizes d + 50 * doing.pushes) p.1

pub too_long : (x : Crossing) (by : List Act) (doing : Doing) (o : Option ℕ) → Moves by x.id.stack doing → o ≡ Size doing.pushes (size_without x.sizes doing.pops) → o ≡ None → Drop cause.Long ≡ FateOf x by
too_long x by doing o m e none =
    let b : is_long x (apply by x.id.stack) (kept by) ≡ true = long_is x by doing m ∙ no_size _ (size_without x.sizes doing.pops + 50 * doing.pushes) (sym e ∙ none) in
    sym (ap (λ (t : Bool). if t then Drop cause.Long else Pass (outgoing_size x (apply by x.id.stack) (kept by))) b)

pub passes_with : (x : Crossing) (by : List Act) (doing : Doing) (o : Option ℕ) (len : ℕ) → Moves by x.id.stack doing → o ≡ Size doing.pushes (size_without x.sizes doing.pops) → o ≡ Some len → Pass len ≡ FateOf x by
passes_with x by doing o len m e some =
    let s = a_size (nat_lt 65535 (total_over doing.pushes (size_without x.sizes doing.pops))) (size_without x.sizes doing.pops + 50 * doing.pushes) len (sym e ∙ some) in
    let b : is_long x (apply by x.id.stack) (kept by) ≡ false = long_is x by doing m ∙ s.0 in
    ap Pass (sym s.1 ∙ sym (size_is x by doing m)) ∙ sym (ap (λ (t : Bool). if t then Drop cause.Long else Pass (outgoing_size x (apply by x.id.stack) (kept by))) b)

pub kept_is : (x : Crossing) (by : List Act) (doing : Doing) (n left : ℕ) → Moves by x.id.stack doing → n ≡ encaps x.id.stack → left ≡ n - doing.pops → left ≡ kept by
kept_is x by doing n left m e l = omega (arith, m.before, e, l)

pub leaves_own : (x : Crossing) (by : List Act) (doing : Doing) (edited : List Header) (left : ℕ) → Moves by x.id.stack doing → edited ≡ apply by x.id.stack → left ≡ kept by → doing.edits ≡ false → IsOwn x edited left
leaves_own x by doing edited left m e k n = record { stack = e ∙ m.same n; kept = k ∙ m.all n }

-- what a body says, by its verdict
fate_in : Verdict → Bool → Crossing → List Header → ℕ → Fate
fate_in v long x hs left = fate_by x (fate_after v (on_pass v (if long then Some Long else None)) hs left)

pass_in : (b : Bool) (x : Crossing) (hs : List Header) (left : ℕ) → (if b then Drop cause.Long else Pass (outgoing_size x hs left)) ≡ fate_in verdict.Pass b x hs left
unfolding fate_in
pass_in true x hs left = refl
pass_in false x hs left = refl

pub said_pass : (x : Crossing) (b : Body) (fate : Fate) → verdict.Pass ≡ b.verdict → fate ≡ FateOf x b.by → fate ≡ fate_said x b
unfolding fate_in
said_pass x b fate v e =
    let long : Bool = is_long x (apply b.by x.id.stack) (kept b.by) in
    e ∙ pass_in long x (apply b.by x.id.stack) (kept b.by) ∙ ap (λ (w : Verdict). fate_in w long x (apply b.by x.id.stack) (kept b.by)) v

pub said_rule : (x : Crossing) (b : Body) (controller layer group rule : ℕ) → verdict.Rule controller layer group rule ≡ b.verdict → Drop (cause.Rule controller layer group rule) ≡ fate_said x b
unfolding fate_in
said_rule x b controller layer group rule v = ap (λ (w : Verdict). fate_in w (is_long x (apply b.by x.id.stack) (kept b.by)) x (apply b.by x.id.stack) (kept b.by)) v

pub said_default : (x : Crossing) (b : Body) (controller layer : ℕ) (dir : Dir) → verdict.Default controller layer dir ≡ b.verdict → Drop (cause.Default controller layer dir) ≡ fate_said x b
unfolding fate_in
said_default x b controller layer dir v = ap (λ (w : Verdict). fate_in w (is_long x (apply b.by x.id.stack) (kept b.by)) x (apply b.by x.id.stack) (kept b.by)) v

pub not_edited : (b : Bool) → not b ≡ true → b ≡ false
not_edited true e = absurd (grind (arith, common_steps))
not_edited false e = refl

-- the words are of a pass
pub of_pass : (x : Crossing) (words : List ℕ) (b : Body) → verdict.Pass ≡ b.verdict → IsOf x words b → AreOf words verdict.Pass b.by b.until × (fits b.by x.id.stack ≡ true)
of_pass x words b v is = (subst (λ (w : Verdict). AreOf words w b.by b.until) (sym v) is.0, is.1 (sym v))
