-- Headers that were pushed.
use Rattle.std.proofs.Common.{◌≡◌, ◌≤◌, ◌+◌, List, [], ◌∷◌, ◌++◌, length, drop, sym, ◌∙◌, ap, arith, append_assoc, length-append}
use Rattle.std.proofs.Math.Seq.{drop-append_seam}
use Rattle.vsw_base.specs.declared.header.Header.{Header}
use Rattle.vsw_frame.specs.Seen.{added, Adds}

added_is : (old new hs : List Header) → new ≡ old ++ hs → added old new ≡ hs
added_is old new hs e = ap (drop (length old)) e ∙ drop-append_seam old hs

adds : (old new hs : List Header) → new ≡ old ++ hs → Adds old new
adds old new hs e = e ∙ ap (λ (l : List Header). old ++ l) (sym (added_is old new hs e))

-- more were pushed behind those that were
pub more : (old mid new hs : List Header) → Adds old mid → new ≡ mid ++ hs → (added old new ≡ added old mid ++ hs) × Adds old new
more old mid new hs a e =
    let all : new ≡ old ++ (added old mid ++ hs) = e ∙ ap (λ (l : List Header). l ++ hs) a ∙ append_assoc old (added old mid) hs in
    (added_is old new (added old mid ++ hs) all, adds old new (added old mid ++ hs) all)

-- one header was pushed behind them, and more behind it
pub more_behind : (old mid next new : List Header) (h : Header) → Adds old mid → next ≡ mid ++ h ∷ [] → Adds next new → (added old new ≡ added old mid ++ h ∷ added next new) × Adds old new
more_behind old mid next new h a e b = more old mid new (h ∷ added next new) a (b ∙ ap (λ (l : List Header). l ++ added next new) e ∙ append_assoc mid (h ∷ []) (added next new))

pub added_first : (old new : List Header) → old ≡ [] → added old new ≡ new
added_first old new e = ap (λ (l : List Header). drop (length l) new) e

-- where few were pushed, the list is hardly longer
pub few_more : (old new : List Header) → Adds old new → length (added old new) ≤ 2 → length new ≤ length old + 2
few_more old new a few = omega (arith, ap length a, length-append old (added old new), few)
