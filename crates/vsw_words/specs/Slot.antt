-- The row of a table at which the search for a key begins.
use Rattle.std.specs.Prelude.{ℕ, ◌+◌, ◌*◌, ◌/◌, ◌%◌, ◌^◌, List, [], ◌∷◌, bit_xor}

-- odd numbers, one for each word of a key that may be other than 0: the first 64 bits behind the point of the square roots of the first fifteen
-- primes, as FIPS 180-4 takes them for SHA-512 and SHA-384, with the last bit set
abbrev pub factors : List ℕ
factors = 0x6a09e667f3bcc909 ∷ 0xbb67ae8584caa73b ∷ 0x3c6ef372fe94f82b ∷ 0xa54ff53a5f1d36f1 ∷ 0x510e527fade682d1
    ∷ 0x9b05688c2b3e6c1f ∷ 0x1f83d9abfb41bd6b ∷ 0x5be0cd19137e2179 ∷ 0xcbbb9d5dc1059ed9 ∷ 0x629a292a367cd507
    ∷ 0x9159015a3070dd17 ∷ 0x152fecd8f70e5939 ∷ 0x67332667ffc00b31 ∷ 0x8eb44a8768581511 ∷ 0xdb0c2e0d64f98fa7 ∷ []

-- the sum of the words, each multiplied by its factor
abbrev pub weighted : List ℕ → List ℕ → ℕ
weighted [] ws = 0
weighted (f ∷ fs) [] = 0
weighted (f ∷ fs) (w ∷ ws) = f * w + weighted fs ws

-- the high half of a number, put into its low half
abbrev pub folded : ℕ → ℕ
folded n = bit_xor n (n / 2 ^ 32)

-- the hash of a key, below 2^32: the high half of the folded sum, multiplied by 2^64 over the golden ratio (Knuth, The Art of Computer
-- Programming, 6.4)
abbrev pub hash : List ℕ → ℕ
hash key = folded (weighted factors key % 2 ^ 64) * 0x9e3779b97f4a7c15 % 2 ^ 64 / 2 ^ 32

-- the slot of a key among so many rows: as far among them as its hash is among the numbers below 2^32
abbrev pub slot : List ℕ → ℕ → ℕ
slot key rows = hash key * rows / 2 ^ 32
