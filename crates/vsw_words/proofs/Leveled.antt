-- The words of a stack, level by level.
use Rattle.std.proofs.Common.{◌≡◌, ℕ, ◌^◌, ◌<◌, ◌≤◌, List, refl, ◌∙◌, subst, arith, length, true, drop}
use Rattle.vsw_base.specs.declared.header.Header.{Header}
use Rattle.vsw_base.specs.declared.packet.Dir.{Dir}
use Rattle.vsw_base.specs.Shape.{is_stack, is_plain, encaps, inner}
use Rattle.vsw_base.specs.Fits.{AreFit}
use Rattle.vsw_base.proofs.Stacks.{plain_cases, stack_cases, encapped}
use Rattle.vsw_words.specs.Key.{key_words, head_word, side}
use Rattle.vsw_words.specs.Levels.{level_words, plain_words, FitsFirst, FitsSecond, FitsSix, FitsThird}

-- the words are those of the levels
abbrev pub IsLeveled : List Header → Type 0
IsLeveled hs = (dir : Dir) → level_words (head_word (side dir) (encaps hs) (inner hs)) hs (drop 3 hs) (drop 3 (drop 3 hs)) (inner hs) ≡ key_words dir hs

once : (d s a b v : ℕ) → (hs : List Header) → is_plain hs ≡ true → IsLeveled (encapped d s a b v hs)
unfolding key_words
once d s a b v = plain_cases (λ hs. IsLeveled (encapped d s a b v hs)) (λ d' s' k t dir. refl) (λ d' s' k a' b' p q t dir. refl) (λ d' s' k a' b' p q x y t dir. refl) (λ d' s' k a' b' p t dir. refl) (λ d' s' k a' b' p x y t dir. refl)

twice : (d s a b v e f g h w : ℕ) → (hs : List Header) → is_plain hs ≡ true → IsLeveled (encapped d s a b v (encapped e f g h w hs))
unfolding key_words
twice d s a b v e f g h w = plain_cases (λ hs. IsLeveled (encapped d s a b v (encapped e f g h w hs)))
    (λ d' s' k t dir. refl) (λ d' s' k a' b' p q t dir. refl) (λ d' s' k a' b' p q x y t dir. refl) (λ d' s' k a' b' p t dir. refl) (λ d' s' k a' b' p x y t dir. refl)

pub leveled : (hs : List Header) → is_stack hs ≡ true → IsLeveled hs
unfolding key_words
leveled = stack_cases IsLeveled
    (plain_cases IsLeveled (λ d s k t dir. refl) (λ d s k a b p q t dir. refl) (λ d s k a b p q x y t dir. refl) (λ d s k a b p t dir. refl) (λ d s k a b p x y t dir. refl))
    (λ hs t d s a b v n. once d s a b v hs t)
    (λ hs t e f g h w m d s a b v n. twice d s a b v e f g h w hs t)

-- a plain stack has a header, so four stand where there is an encapsulation
some_header : (hs : List Header) → is_plain hs ≡ true → 1 ≤ length hs
some_header = plain_cases (λ hs. 1 ≤ length hs) (λ d s k t. omega arith) (λ d s k a b p q t. omega arith) (λ d s k a b p q x y t. omega arith) (λ d s k a b p t. omega arith) (λ d s k a b p x y t. omega arith)

-- at most three headers are without encapsulation
abbrev pub Short : (List Header → Type 0) → List Header → Type 0
Short P hs = length hs ≤ 3 → P hs

short_cases : (P : List Header → Type 0) → ((hs : List Header) → is_plain hs ≡ true → P hs) → (hs : List Header) → is_stack hs ≡ true → Short P hs
short_cases P f = stack_cases (Short P)
    (λ hs t l. f hs t)
    (λ hs t d s a b v n l. absurd (omega (arith, l, some_header hs t)))
    (λ hs t e f' g h w m d s a b v n l. absurd (omega (arith, l, some_header hs t)))

abbrev pub IsPlainWords : List Header → Type 0
IsPlainWords hs = (dir : Dir) → plain_words dir hs ≡ key_words dir hs

pub short_words : (hs : List Header) → is_stack hs ≡ true → Short IsPlainWords hs
unfolding key_words
short_words = short_cases IsPlainWords
    (plain_cases IsPlainWords (λ d s k t dir. refl) (λ d s k a b p q t dir. refl) (λ d s k a b p q x y t dir. refl) (λ d s k a b p t dir. refl) (λ d s k a b p x y t dir. refl))

abbrev pub FitsPlain : List Header → Type 0
FitsPlain hs = FitsFirst hs → FitsSecond hs → FitsSix hs → FitsThird hs → AreFit hs

pub short_fits : (hs : List Header) → is_stack hs ≡ true → Short FitsPlain hs
short_fits = short_cases FitsPlain
    (plain_cases FitsPlain
    (λ d s k t one two six last. (one, tt))
    (λ d s k a b p q t one two six last. (one, (two, tt)))
    (λ d s k a b p q x y t one two six last. (one, (two, (last, tt))))
    (λ d s k a b p t one two six last. (one, (six, tt)))
    (λ d s k a b p x y t one two six last. (one, (six, (last, tt)))))

-- the numbers of a stack lie in their ranges, if those of each level do
abbrev pub FitsByLevels : List Header → Type 0
FitsByLevels hs = FitsFirst hs × FitsSecond hs → FitsFirst (drop 3 hs) × FitsSecond (drop 3 hs) → FitsFirst (drop 3 (drop 3 hs)) × FitsSecond (drop 3 (drop 3 hs)) → FitsSix (inner hs) → FitsThird (inner hs) → AreFit hs

once_fits : (d s a b v : ℕ) → v < 2 ^ 24 → (hs : List Header) → is_plain hs ≡ true → FitsByLevels (encapped d s a b v hs)
once_fits d s a b v n = plain_cases (λ hs. FitsByLevels (encapped d s a b v hs))
    (λ d' s' k t one two three six last. (one.0, (one.1, (n, (two.0, tt)))))
    (λ d' s' k a' b' p q t one two three six last. (one.0, (one.1, (n, (two.0, (two.1, tt))))))
    (λ d' s' k a' b' p q x y t one two three six last. (one.0, (one.1, (n, (two.0, (two.1, (last, tt)))))))
    (λ d' s' k a' b' p t one two three six last. (one.0, (one.1, (n, (two.0, (six, tt))))))
    (λ d' s' k a' b' p x y t one two three six last. (one.0, (one.1, (n, (two.0, (six, (last, tt)))))))

twice_fits : (d s a b v e f g h w : ℕ) → v < 2 ^ 24 → w < 2 ^ 24 → (hs : List Header) → is_plain hs ≡ true → FitsByLevels (encapped d s a b v (encapped e f g h w hs))
twice_fits d s a b v e f g h w n m = plain_cases (λ hs. FitsByLevels (encapped d s a b v (encapped e f g h w hs)))
    (λ d' s' k t one two three six last. (one.0, (one.1, (n, (two.0, (two.1, (m, (three.0, tt))))))))
    (λ d' s' k a' b' p q t one two three six last. (one.0, (one.1, (n, (two.0, (two.1, (m, (three.0, (three.1, tt)))))))))
    (λ d' s' k a' b' p q x y t one two three six last. (one.0, (one.1, (n, (two.0, (two.1, (m, (three.0, (three.1, (last, tt))))))))))
    (λ d' s' k a' b' p t one two three six last. (one.0, (one.1, (n, (two.0, (two.1, (m, (three.0, (six, tt)))))))))
    (λ d' s' k a' b' p x y t one two three six last. (one.0, (one.1, (n, (two.0, (two.1, (m, (three.0, (six, (last, tt))))))))))

pub fits_by_levels : (hs : List Header) → is_stack hs ≡ true → FitsByLevels hs
fits_by_levels = stack_cases FitsByLevels
    (plain_cases FitsByLevels
    (λ d s k t one two three six last. (one.0, tt))
    (λ d s k a b p q t one two three six last. (one.0, (one.1, tt)))
    (λ d s k a b p q x y t one two three six last. (one.0, (one.1, (last, tt))))
    (λ d s k a b p t one two three six last. (one.0, (six, tt)))
    (λ d s k a b p x y t one two three six last. (one.0, (six, (last, tt)))))
    (λ hs t d s a b v n. once_fits d s a b v n hs t)
    (λ hs t e f g h w m d s a b v n. twice_fits d s a b v e f g h w n m hs t)

-- and the same of parts that are known by equations
pub words_are : (dir : Dir) (hs second second' third ins : List Header) (head bit count : ℕ) (words : List ℕ) → is_stack hs ≡ true
    → words ≡ level_words head hs second third ins → second ≡ drop 3 hs → second' ≡ drop 3 hs → third ≡ drop 3 second' → head ≡ head_word bit count ins → bit ≡ side dir → count ≡ encaps hs → ins ≡ inner hs
    → words ≡ key_words dir hs
words_are dir hs second second' third ins head bit count words t e f g h i j k l = e ∙ rw (f, h, g, i, j, k, l) refl ∙ leveled hs t dir

pub fit_are : (hs second second' third ins : List Header) → is_stack hs ≡ true → second ≡ drop 3 hs → second' ≡ drop 3 hs → third ≡ drop 3 second' → ins ≡ inner hs
    → FitsFirst hs × FitsSecond hs → FitsFirst second × FitsSecond second → FitsFirst third × FitsSecond third → FitsSix ins → FitsThird ins → AreFit hs
fit_are hs second second' third ins t e f g h one two three six last =
    let P : List Header → Type 0 = λ ks. FitsFirst ks × FitsSecond ks in
    let three' : P (drop 3 second') = subst P g three in
    fits_by_levels hs t one (subst P e two) (subst (λ ks. P (drop 3 ks)) f three') (subst FitsSix h six) (subst FitsThird h last)
