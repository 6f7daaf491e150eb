-- Endpoints among the words that a checksum is taken over, and updates of checksums that were wrong.
use Rattle.std.proofs.Common.{◌≡◌, ℕ, ◌/◌, ◌%◌, ◌^◌, ◌<◌, List, [], ◌∷◌, ◌++◌, true, refl, sym, ap, ◌∙◌, arith, length, length-append, sum, ◌⊎◌}
use Rattle.std.proofs.lemmas.List.Sums.{sum_by-append}
use Rattle.vsw_header.specs.Sum.{AreWords, checksum, six_words}
use Rattle.vsw_header.specs.Update.{AreChanged, IsOtherZero, changes, written}
use Rattle.vsw_header.proofs.Changed.{append_words, changes-append, ignores_same, stays_right, stays_written, sum_cons}
use Rattle.vsw_header.proofs.Folds.{sum_is}
use Rattle.vsw_header.specs.L4Change.{address_words, are_alike, checksum_changed, endpoint_words}
use Rattle.vsw_header.specs.L4Right.{AreAddresses, AreEndpoints, pseudo_of}
use Rattle.vsw_header.specs.declared.l4_change.Addresses.{Addresses}
use Rattle.vsw_header.specs.declared.l4_change.Addresses.TheVariants.{Four, Six}
use Rattle.vsw_header.proofs.Zeros.{was_right, zeros}
use Rattle.vsw_header.specs.declared.l4_change.Endpoints.{Endpoints}

-- what a pseudo-header has behind the addresses
abbrev pub pseudo_end : Addresses → ℕ → ℕ → List ℕ
pseudo_end (Four a b) proto len = proto ∷ len ∷ []
pseudo_end (Six a b) proto len = len / 65536 ∷ len % 65536 ∷ 0 ∷ proto ∷ []

-- the words of pseudo-header and segment
abbrev pub words : Endpoints → ℕ → ℕ → List ℕ → List ℕ
words e proto len last = address_words e.at ++ (pseudo_end e.at proto len ++ (e.src_port ∷ e.dst_port ∷ last))

pub pseudo_is : (at : Addresses) (proto len : ℕ) (last : List ℕ) → pseudo_of at proto len ++ last ≡ address_words at ++ (pseudo_end at proto len ++ last)
pseudo_is (Four a b) proto len last = refl
pseudo_is (Six a b) proto len last = refl

-- addresses of one kind have as many words, and one end of the pseudo-header
pub as_many : (x y : Addresses) → are_alike x y ≡ true → length (address_words x) ≡ length (address_words y)
as_many (Four a b) (Four c d) h = refl
as_many (Six a b) (Six c d) h = refl
as_many (Four a b) (Six c d) h = absurd (grind arith)
as_many (Six a b) (Four c d) h = absurd (grind arith)

same_end : (x y : Addresses) (proto len : ℕ) → are_alike x y ≡ true → pseudo_end x proto len ≡ pseudo_end y proto len
same_end (Four a b) (Four c d) proto len h = refl
same_end (Six a b) (Six c d) proto len h = refl
same_end (Four a b) (Six c d) proto len h = absurd (grind arith)
same_end (Six a b) (Four c d) proto len h = absurd (grind arith)

-- what stands in both lists between and behind what differs is no change
between : (xs ys mid ms ns last : List ℕ) → length xs ≡ length ys → length ms ≡ length ns → changes (xs ++ (mid ++ (ms ++ last))) (ys ++ (mid ++ (ns ++ last))) ≡ changes (xs ++ ms) (ys ++ ns)
between xs ys mid ms ns last l m =
    changes-append xs ys (mid ++ (ms ++ last)) (mid ++ (ns ++ last)) l
    ∙ ap (λ (cs : List ℕ). changes xs ys ++ cs) (ignores_same mid ms ns last m)
    ∙ sym (changes-append xs ys ms ns l)

differ : (from to : Endpoints) (proto len : ℕ) (last : List ℕ) → are_alike from.at to.at ≡ true → changes (words from proto len last) (words to proto len last) ≡ changes (endpoint_words from) (endpoint_words to)
differ from to proto len last h =
    ap (λ (end : List ℕ). changes (address_words from.at ++ (end ++ (from.src_port ∷ from.dst_port ∷ last))) (words to proto len last)) (same_end from.at to.at proto len h)
    ∙ between (address_words from.at) (address_words to.at) (pseudo_end to.at proto len) (from.src_port ∷ from.dst_port ∷ []) (to.src_port ∷ to.dst_port ∷ []) last (as_many from.at to.at h) refl

six_fit : (a : ℕ) → a < 2 ^ 128 → AreWords (six_words a)
six_fit a h = (omega (arith, h), (omega arith, (omega arith, (omega arith, (omega arith, (omega arith, (omega arith, (omega arith, tt))))))))

addresses_fit : (at : Addresses) → AreAddresses at → AreWords (address_words at)
addresses_fit (Four a b) h = (omega (arith, h.0), (omega arith, (omega (arith, h.1), (omega arith, tt))))
addresses_fit (Six a b) h = append_words (six_words a) (six_words b) (six_fit a h.0) (six_fit b h.1)

end_fits : (at : Addresses) (proto len : ℕ) → proto < 65536 → len < 65536 → AreWords (pseudo_end at proto len)
end_fits (Four a b) proto len p l = (p, (l, tt))
end_fits (Six a b) proto len p l = (omega (arith, l), (omega arith, (omega arith, (p, tt))))

words_fit : (e : Endpoints) (proto len : ℕ) (last : List ℕ) → AreEndpoints e → proto < 65536 → len < 65536 → AreWords last → AreWords (words e proto len last)
words_fit e proto len last f p l w = append_words (address_words e.at) (pseudo_end e.at proto len ++ (e.src_port ∷ e.dst_port ∷ last)) (addresses_fit e.at f.0) (append_words (pseudo_end e.at proto len) (e.src_port ∷ e.dst_port ∷ last) (end_fits e.at proto len p l) (f.1, (f.2, w)))

same_length : (from to : Endpoints) (proto len : ℕ) (last : List ℕ) → are_alike from.at to.at ≡ true → length (words from proto len last) ≡ length (words to proto len last)
same_length from to proto len last h =
    let end = ap length (same_end from.at to.at proto len h) in
    length-append (address_words from.at) (pseudo_end from.at proto len ++ (from.src_port ∷ from.dst_port ∷ last))
    ∙ cc (as_many from.at to.at h, length-append (pseudo_end from.at proto len) (from.src_port ∷ from.dst_port ∷ last), length-append (pseudo_end to.at proto len) (to.src_port ∷ to.dst_port ∷ last), end)
    ∙ sym (length-append (address_words to.at) (pseudo_end to.at proto len ++ (to.src_port ∷ to.dst_port ∷ last)))

changed : (from to : Endpoints) (proto len : ℕ) (last : List ℕ) → are_alike from.at to.at ≡ true → AreEndpoints from → AreEndpoints to → proto < 65536 → len < 65536 → AreWords last → AreChanged (endpoint_words from) (endpoint_words to) (words from proto len last) (words to proto len last)
changed from to proto len last h f t p l w = record {
  old_words = words_fit from proto len last f p l w;
  new_words = words_fit to proto len last t p l w;
  same_length = same_length from to proto len last h;
  differ = sym (differ from to proto len last h);
}

-- the protocol alone isn't 0
some_end : (at : Addresses) (proto len : ℕ) (last : List ℕ) → 0 < proto → 0 < sum (pseudo_end at proto len ++ last)
some_end (Four a b) proto len last h = omega (arith, h, sum_cons proto (len ∷ last))
some_end (Six a b) proto len last h = omega (arith, h, sum_cons (len / 65536) (len % 65536 ∷ 0 ∷ proto ∷ last), sum_cons (len % 65536) (0 ∷ proto ∷ last), sum_cons 0 (proto ∷ last), sum_cons proto last)

some_sum : (e : Endpoints) (proto len : ℕ) (last : List ℕ) → 0 < proto → 0 < sum (words e proto len last)
some_sum e proto len last h = omega (arith, some_end e.at proto len (e.src_port ∷ e.dst_port ∷ last) h, sum_by-append (λ (x : ℕ). x) (address_words e.at) (pseudo_end e.at proto len ++ (e.src_port ∷ e.dst_port ∷ last)))

endpoints_fit : (e : Endpoints) → AreEndpoints e → AreWords (endpoint_words e)
endpoints_fit e f = append_words (address_words e.at) (e.src_port ∷ e.dst_port ∷ []) (addresses_fit e.at f.0) (f.1, (f.2, tt))

pub ends_right : (old : ℕ) (from to : Endpoints) (proto len : ℕ) (last : List ℕ) → are_alike from.at to.at ≡ true → AreEndpoints from → AreEndpoints to → 0 < proto → proto < 65536 → len < 65536 → AreWords last → old ≡ checksum (words from proto len last) → checksum_changed old from to ≡ checksum (words to proto len last)
ends_right old from to proto len last k f t z p l w e = stays_right old (endpoint_words from) (endpoint_words to) (words from proto len last) (words to proto len last) (changed from to proto len last k f t p l w) (some_sum to proto len last z) e

pub ends_written : (old : ℕ) (from to : Endpoints) (proto len : ℕ) (last : List ℕ) → are_alike from.at to.at ≡ true → AreEndpoints from → AreEndpoints to → proto < 65536 → len < 65536 → AreWords last → old ≡ written (checksum (words from proto len last)) → written (checksum_changed old from to) ≡ written (checksum (words to proto len last))
ends_written old from to proto len last k f t p l w e = stays_written old (endpoint_words from) (endpoint_words to) (words from proto len last) (words to proto len last) (changed from to proto len last k f t p l w) e

pub ends_were : (old : ℕ) (from to : Endpoints) (proto len : ℕ) (last : List ℕ) → are_alike from.at to.at ≡ true → AreEndpoints from → AreEndpoints to → proto < 65536 → len < 65536 → AreWords last → old < 65536 → written (checksum_changed old from to) ≡ written (checksum (words to proto len last)) → written old ≡ written (checksum (words from proto len last))
ends_were old from to proto len last k f t p l w h e = was_right old (endpoint_words from) (endpoint_words to) (words from proto len last) (words to proto len last) (changed from to proto len last k f t p l w) (endpoints_fit to t) h e

pub right_or_zero : (old : ℕ) (e : Endpoints) (proto len : ℕ) (last : List ℕ) → AreEndpoints e → 0 < proto → proto < 65536 → len < 65536 → AreWords last → written old ≡ written (checksum (words e proto len last)) → (old ≡ checksum (words e proto len last)) ⊎ IsOtherZero old (checksum (words e proto len last))
right_or_zero old e proto len last f z p l w h =
    let some = some_sum e proto len last z in
    zeros old (checksum (words e proto len last)) (grind (arith, some, sum_is (words e proto len last) (words_fit e proto len last f p l w))) h
