-- A hash that is a polynomial at a secret point: the words of a key, of 32 bits each, are its coefficients.
use Rattle.std.specs.Prelude.{ℕ, ◌+◌, ◌*◌, ◌/◌, ◌%◌, ◌^◌, List, [], ◌∷◌, length, fold, nat_eq, if◌then◌else◌, slice_index}
use Rattle.vsw_layerflow.specs.declared.point.PointHasher.{PointHasher}

-- below 2^62 and the same modulo 2^61 - 1, for numbers below 2^122
abbrev pub folded : ℕ → ℕ
folded n = (n / 2 ^ 61 % 2 ^ 64 + n % 2 ^ 61) % 2 ^ 64

-- a polynomial at a point, before any word: 1, so that keys of other lengths are other polynomials
abbrev pub begun : ℕ → PointHasher
begun point = record { point = point; sum = 1 }

-- with one coefficient more
abbrev pub taken : PointHasher → ℕ → PointHasher
taken h word = record { point = h.point; sum = folded ((h.sum * h.point % 2 ^ 128 + word) % 2 ^ 128) }

-- the four bytes from a place on, lowest first
abbrev pub word_at : List ℕ → ℕ → ℕ
word_at bs i = slice_index bs i + slice_index bs (i + 1) * 256 + slice_index bs (i + 2) * 65536 + slice_index bs (i + 3) * 16777216

-- with the eight bytes from a place on
abbrev pub taken_eight : PointHasher → List ℕ → ℕ → PointHasher
taken_eight h bs i = taken (taken h (word_at bs i)) (word_at bs (i + 4))

-- with a number of 64 or 128 bits word by word, and with other bytes one by one
abbrev pub written : PointHasher → List ℕ → PointHasher
written h bs =
    if nat_eq (length bs) 8 then taken_eight h bs 0
    else (if nat_eq (length bs) 16 then taken_eight (taken_eight h bs 0) bs 8 else fold taken h bs)
