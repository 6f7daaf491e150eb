-- The texts of addresses.
use Rattle.std.specs.Prelude.{ℕ, Bool, true, ◌+◌, ◌*◌, ◌-◌, ◌==◌, ◌&&◌, List, [], ◌∷◌, nat_le, take, drop, position, Option, Some, None, option_map, option_and_then, if◌then◌else◌}
use Rattle.vsw_base.specs.declared.address.Prefix.{Prefix}
use Rattle.vsw_base.specs.Hexadecimal.{octet_of}
use Rattle.vsw_base.specs.Six.{six}

infixl 10 ◌>>=◌
-- the next step, where there was an answer before
abbrev pub ◌>>=◌ : {A B : Type 0} → Option A → (A → Option B) → Option B
o >>= f = option_and_then f o

-- all values, where each is there
abbrev pub all_of : List (Option ℕ) → Option (List ℕ)
all_of [] = Some []
all_of (o ∷ os) = option_and_then (λ x. option_map (λ xs. x ∷ xs) (all_of os)) o

-- each byte is a colon
abbrev pub are_colons : List ℕ → Bool
are_colons [] = true
are_colons (b ∷ bs) = (b == 58) && are_colons bs

-- six groups of two hexadecimal digits with colons between
unfoldable pub octets_of : List ℕ → Option (List ℕ)
octets_of (a ∷ b ∷ p ∷ c ∷ d ∷ q ∷ e ∷ f ∷ r ∷ g ∷ h ∷ s ∷ i ∷ j ∷ t ∷ k ∷ l ∷ []) =
    if are_colons (p ∷ q ∷ r ∷ s ∷ t ∷ [])
    then all_of (octet_of a b ∷ octet_of c d ∷ octet_of e f ∷ octet_of g h ∷ octet_of i j ∷ octet_of k l ∷ [])
    else None
octets_of _ = None

-- the number of an Ethernet address
abbrev pub mac_of : List ℕ → Option ℕ
mac_of text = option_map six (octets_of text)

-- the value of one decimal digit
abbrev pub digit_of : ℕ → Option ℕ
digit_of c = if nat_le 48 c && nat_le c 57 then Some (c - 48) else None

-- a number, if it is within the limit
abbrev pub at_most : ℕ → ℕ → Option ℕ
at_most limit n = if nat_le n limit then Some n else None

-- a decimal number up to 255 without leading zeros
unfoldable pub small_of : List ℕ → Option ℕ
small_of (a ∷ []) = digit_of a
small_of (a ∷ b ∷ []) = if a == 48 then None else option_and_then (λ x. option_map (λ y. 10 * x + y) (digit_of b)) (digit_of a)
small_of (a ∷ b ∷ c ∷ []) = if a == 48 then None else option_and_then (λ x. option_and_then (λ y. option_and_then (λ z. at_most 255 (100 * x + 10 * y + z)) (digit_of c)) (digit_of b)) (digit_of a)
small_of _ = None

-- what stands before and after the first of this byte
unfoldable pub cut_at : ℕ → List ℕ → Option (List ℕ × List ℕ)
cut_at byte text = option_map (λ i. (take i text, drop (i + 1) text)) (position (λ b. b == byte) text)

-- four decimal numbers with dots between
unfoldable pub ip4_of : List ℕ → Option ℕ
ip4_of text = do
  one ← cut_at 46 text
  two ← cut_at 46 one.1
  three ← cut_at 46 two.1
  a ← small_of one.0
  b ← small_of two.0
  c ← small_of three.0
  d ← small_of three.1
  Some (16777216 * a + 65536 * b + 256 * c + d)

-- an address, a slash and a number up to 32, or an address alone, which is all of its bits
unfoldable pub prefix_of : List ℕ → Option Prefix
prefix_of text = elim (cut_at 47 text) [
  | None ↦ option_map (λ v. record { value = v; bits = 32 }) (ip4_of text)
  | Some p ↦ option_and_then (λ v. option_map (λ n. record { value = v; bits = n }) (option_and_then (at_most 32) (small_of p.1))) (ip4_of p.0)
]
