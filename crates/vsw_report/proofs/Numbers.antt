-- Numbers that are printed are read back.
use Rattle.std.proofs.Common.{◌≡◌, ℕ, ◌^◌, ◌<◌, ◌&&◌, true, [], ◌∷◌, map, Some, None, refl, sym, ap, ap₂, ◌∙◌, subst, arith}
use Rattle.std.specs.Prelude.{decimal, nat_lt, if◌then◌else◌}
use Rattle.std.specs.Str.{all_ascii_digits}
use Rattle.std.proofs.lemmas.Bool.{cond-true}
use Rattle.std.proofs.lemmas.Fmt.{digits_decimal, digits_value-decimal}
use Rattle.std.proofs.lemmas.Str.Parse.{numerals_by_value, tells_all_ascii_digits}
use Rattle.vsw_base.specs.Fault.{fault_number}
use Rattle.vsw_base.specs.declared.fault.BadFrame.{BadFrame}
use Rattle.vsw_base.specs.declared.fault.BadFrame.TheVariants as fault
use Rattle.vsw_policy.specs.Refusals.{refusal_number}
use Rattle.vsw_policy.specs.declared.refusal.Refusal.{Refusal}
use Rattle.vsw_policy.specs.declared.refusal.Refusal.TheVariants as refusal
use Rattle.vsw_report.specs.Words.{number_in, numbers_in, refusal_of, fault_of}
use Rattle.vsw_report.proofs.Fields.{slashed}
use Rattle.vsw_report.proofs.Free.{is_free, two, free_decimal, split_joined, below_true}

number_law : (bound n : ℕ) → n < bound → n < 2 ^ 64 → number_in bound (decimal n) ≡ Some n
number_law bound n lt h =
    let own = numerals_by_value (λ ds. all_ascii_digits ds ≡ true) tells_all_ascii_digits in
    let v = digits_value-decimal own n h in
    subst (λ m. (if all_ascii_digits (decimal n) && nat_lt m bound then Some m else None) ≡ Some n) (sym v)
    (cond-true _ _ _ (two (digits_decimal own n h) (below_true n bound lt)))

pub number_32 : (n : ℕ) → n < 2 ^ 32 → number_in (2 ^ 32) (decimal n) ≡ Some n
number_32 n h = number_law (2 ^ 32) n h (omega (arith, h))

pub number_16 : (n : ℕ) → n < 2 ^ 16 → number_in (2 ^ 16) (decimal n) ≡ Some n
number_16 n h = number_law (2 ^ 16) n h (omega (arith, h))

pub free_32 : (c n : ℕ) → c < 48 → n < 2 ^ 32 → is_free c (decimal n) ≡ true
free_32 c n s h = free_decimal c n s (omega (arith, h))

pub free_16 : (c n : ℕ) → c < 48 → n < 2 ^ 16 → is_free c (decimal n) ≡ true
free_16 c n s h = free_decimal c n s (omega (arith, h))

-- a path of two numbers, and of four
pub two_numbers : (c l : ℕ) → c < 2 ^ 16 → l < 2 ^ 16 → numbers_in (slashed (decimal c ∷ decimal l ∷ [])) ≡ Some c ∷ Some l ∷ []
two_numbers c l h k =
    let f = λ (n : ℕ) (k : n < 2 ^ 16). free_16 47 n (omega arith) k in
    ap (λ ws. map (number_in (2 ^ 16)) ws) (split_joined 47 (decimal c) (decimal l ∷ []) (f c h) (two (f l k) refl))
    ∙ ap₂ (λ x y. x ∷ y ∷ []) (number_16 c h) (number_16 l k)

pub four_numbers : (c l g r : ℕ) → c < 2 ^ 16 → l < 2 ^ 16 → g < 2 ^ 16 → r < 2 ^ 16 → numbers_in (slashed (decimal c ∷ decimal l ∷ decimal g ∷ decimal r ∷ [])) ≡ Some c ∷ Some l ∷ Some g ∷ Some r ∷ []
four_numbers c l g r h k m n =
    let f = λ (n : ℕ) (k : n < 2 ^ 16). free_16 47 n (omega arith) k in
    ap (λ ws. map (number_in (2 ^ 16)) ws) (split_joined 47 (decimal c) (decimal l ∷ decimal g ∷ decimal r ∷ []) (f c h) (two (f l k) (two (f g m) (two (f r n) refl))))
    ∙ (ap₂ (λ x y. x ∷ y ∷ number_in (2 ^ 16) (decimal g) ∷ number_in (2 ^ 16) (decimal r) ∷ []) (number_16 c h) (number_16 l k)
    ∙ ap₂ (λ x y. Some c ∷ Some l ∷ x ∷ y ∷ []) (number_16 g m) (number_16 r n))

-- a refusal is told by its number, and so is a fault
pub refusal_small : (r : Refusal) → refusal_number r < 2 ^ 16
refusal_small refusal.NoLayer = omega arith
refusal_small refusal.LayerExists = omega arith
refusal_small refusal.NoGroup = omega arith
refusal_small refusal.GroupExists = omega arith
refusal_small refusal.NoRule = omega arith
refusal_small refusal.RuleExists = omega arith
refusal_small refusal.ManyLayers = omega arith
refusal_small refusal.ManyGroups = omega arith
refusal_small refusal.ManyRules = omega arith
refusal_small refusal.ManyParts = omega arith
refusal_small refusal.PartTwice = omega arith
refusal_small refusal.Memory = omega arith

pub refusal_law : (r : Refusal) → refusal_of (refusal_number r) ≡ Some r
refusal_law refusal.NoLayer = refl
refusal_law refusal.LayerExists = refl
refusal_law refusal.NoGroup = refl
refusal_law refusal.GroupExists = refl
refusal_law refusal.NoRule = refl
refusal_law refusal.RuleExists = refl
refusal_law refusal.ManyLayers = refl
refusal_law refusal.ManyGroups = refl
refusal_law refusal.ManyRules = refl
refusal_law refusal.ManyParts = refl
refusal_law refusal.PartTwice = refl
refusal_law refusal.Memory = refl

pub fault_small : (f : BadFrame) → fault_number f < 2 ^ 16
fault_small fault.ShortEther = omega arith
fault_small fault.ShortIp = omega arith
fault_small fault.IpVersion = omega arith
fault_small fault.IpLength = omega arith
fault_small fault.ShortTcp = omega arith
fault_small fault.TcpOffset = omega arith
fault_small fault.ShortUdp = omega arith
fault_small fault.UdpLength = omega arith
fault_small fault.TooLong = omega arith
fault_small fault.ShortIp6 = omega arith
fault_small fault.Ip6Version = omega arith
fault_small fault.Ip6Length = omega arith

pub fault_law : (f : BadFrame) → fault_of (fault_number f) ≡ Some f
fault_law fault.ShortEther = refl
fault_law fault.ShortIp = refl
fault_law fault.IpVersion = refl
fault_law fault.IpLength = refl
fault_law fault.ShortTcp = refl
fault_law fault.TcpOffset = refl
fault_law fault.ShortUdp = refl
fault_law fault.UdpLength = refl
fault_law fault.TooLong = refl
fault_law fault.ShortIp6 = refl
fault_law fault.Ip6Version = refl
fault_law fault.Ip6Length = refl
