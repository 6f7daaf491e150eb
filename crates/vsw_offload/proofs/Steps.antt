-- A file is read part by part: what was read so far, and one part more.
use Rattle.std.proofs.Common.{◌≡◌, ◌≤◌, ◌<◌, ◌+◌, ◌^◌, ◌==◌, ◌&&◌, ◌||◌, not, ℕ, List, [], ◌∷◌, ◌++◌, Bool, true, false, length, take, drop, refl, ap, sym, ◌∙◌, subst, arith, length-append}
use Rattle.std.proofs.Math.Seq.{take-add}
use Rattle.std.proofs.lemmas.List.{append-nil, append_assoc, flat_map_more, map-append}
use Rattle.byteorder.specs.Endian.{big_bytes, little_bytes}
use Rattle.vsw_offload.specs.Bad.{Address, Begins, Entries, IsNewAt, Number, Ports, Reaches, Rows, entries_text, ports_text, text_of}
use Rattle.vsw_policy.specs.Sound.{Each}
use Rattle.vsw_offload.specs.Rows.{AreRows, IsPortRows, all_rows_bytes, are_distinct, head, is_among, macs_of, numbers_of, port_bytes, row_bytes}
use Rattle.vsw_offload.specs.declared.port_rows.PortRows.{PortRows}

-- the bytes before a place, and a part behind it
pub begins_more : (bytes : List ℕ) (at k : ℕ) (text part : List ℕ) → Begins bytes at text → at + k ≤ length bytes → part ≡ take k (drop at bytes) → Begins bytes (at + k) (text ++ part)
begins_more bytes at k text part b whole is = record { within = whole; is = take-add at k bytes ∙ (λ z. b.is z ++ sym is z) }

-- ---- what is added at the end of a list

pub each_more : {A : Type 0} (P : A → Type 0) (xs : List A) (x : A) → Each P xs → P x → Each P (xs ++ x ∷ [])
each_more P [] x e p = (p, tt)
each_more P (y ∷ ys) x e p = (e.0, each_more P ys x e.1 p)

same_back : (m n : ℕ) → (m == n) ≡ false → (n == m) ≡ false
same_back m n e = grind (arith, e)

among_more : (c n : ℕ) (ns : List ℕ) → is_among c ns ≡ false → (c == n) ≡ false → is_among c (ns ++ n ∷ []) ≡ false
among_more c n [] e d = rw d refl
among_more c n (m ∷ ms) e d = by (c == m) refl e (λ f. among_more c n ms f d)
  where
    by : (b : Bool) → (c == m) ≡ b → (b || is_among c ms) ≡ false → (is_among c ms ≡ false → is_among c (ms ++ n ∷ []) ≡ false) → ((c == m) || is_among c (ms ++ n ∷ [])) ≡ false
    by true s e ih = absurd (cc e)
    by false s e ih = rw s (ih e)

pub distinct_more : (n : ℕ) (ns : List ℕ) → are_distinct ns ≡ true → is_among n ns ≡ false → are_distinct (ns ++ n ∷ []) ≡ true
distinct_more n [] d e = refl
distinct_more n (m ∷ ms) d e = by (is_among m ms) refl d (n == m) refl e (distinct_more n ms)
  where
    by : (a : Bool) → is_among m ms ≡ a → (not a && are_distinct ms) ≡ true → (b : Bool) → (n == m) ≡ b → (b || is_among n ms) ≡ false → (are_distinct ms ≡ true → is_among n ms ≡ false → are_distinct (ms ++ n ∷ []) ≡ true)
        → (not (is_among m (ms ++ n ∷ [])) && are_distinct (ms ++ n ∷ [])) ≡ true
    by true s d b t e ih = absurd (cc d)
    by false s d true t e ih = absurd (cc e)
    by false s d false t e ih = rw (among_more m n ms s (same_back n m t), ih d e) refl

-- one port more
pub ports_more : (ps : List PortRows) (p : PortRows) (count : ℕ) → IsNewAt count ps p.port p.mac → IsPortRows p → AreRows (ps ++ p ∷ [])
ports_more ps p count new is =
    let numbers : are_distinct (numbers_of ps ++ p.port ∷ []) ≡ true = distinct_more p.port (numbers_of ps) new.number.are.numbers new.number.new in
    let macs : are_distinct (macs_of ps ++ p.mac ∷ []) ≡ true = distinct_more p.mac (macs_of ps) new.number.are.macs new.new in
    record {
      few = omega (arith, length-append ps (p ∷ []), new.number.more, new.number.many);
      numbers = ap are_distinct (map-append (λ q. q.port) ps (p ∷ [])) ∙ numbers;
      macs = ap are_distinct (map-append (λ q. q.mac) ps (p ∷ [])) ∙ macs;
      each = each_more IsPortRows ps p new.number.are.each is;
    }

-- ---- the parts

pub reaches_number : (bytes : List ℕ) (at count : ℕ) (ps : List PortRows) (port : ℕ) → Reaches bytes at (Ports count ps) → at + 4 ≤ length bytes → little_bytes 4 port ≡ take 4 (drop at bytes) → port < 2 ^ 32 → is_among port (numbers_of ps) ≡ false
    → Reaches bytes (at + 4) (Number count ps port)
reaches_number bytes at count ps port r whole is below new = record {
  begins = begins_more bytes at 4 (ports_text count ps) (little_bytes 4 port) r.begins whole is;
  open_is = record { many = r.open_is.0; more = r.open_is.1; are = r.open_is.2; below = below; new = new };
}

pub reaches_address : (bytes : List ℕ) (at count : ℕ) (ps : List PortRows) (port mac : ℕ) → Reaches bytes at (Number count ps port) → at + 6 ≤ length bytes → big_bytes 6 mac ≡ take 6 (drop at bytes) → mac < 2 ^ 48 → is_among mac (macs_of ps) ≡ false
    → Reaches bytes (at + 6) (Address count ps port mac)
reaches_address bytes at count ps port mac r whole is below new = record {
  begins = begins_more bytes at 6 (text_of (Number count ps port)) (big_bytes 6 mac) r.begins whole is;
  open_is = record { number = r.open_is; below = below; new = new };
}

pub reaches_entries : (bytes : List ℕ) (at count : ℕ) (ps : List PortRows) (port mac entries : ℕ) → Reaches bytes at (Address count ps port mac) → at + 4 ≤ length bytes → little_bytes 4 entries ≡ take 4 (drop at bytes) → entries < 2 ^ 32
    → Reaches bytes (at + 4) (Entries count ps port mac entries)
reaches_entries bytes at count ps port mac entries r whole is below = record {
  begins = begins_more bytes at 4 (text_of (Address count ps port mac)) (little_bytes 4 entries) r.begins whole is;
  open_is = (r.open_is, below);
}

-- so many rows are told, and none is read yet
pub begins_rows : (bytes : List ℕ) (at count : ℕ) (ps : List PortRows) (port mac entries rows : ℕ) → Reaches bytes at (Entries count ps port mac entries) → at + 4 ≤ length bytes → little_bytes 4 rows ≡ take 4 (drop at bytes)
    → Begins bytes (at + 4) (text_of (Rows count ps (record { port = port; mac = mac; entries = entries; rows = [] }) rows))
begins_rows bytes at count ps port mac entries rows r whole is =
    subst (Begins bytes (at + 4)) (sym (append-nil (entries_text count ps port mac entries ++ little_bytes 4 rows))) (begins_more bytes at 4 (entries_text count ps port mac entries) (little_bytes 4 rows) r.begins whole is)

-- one row more
pub begins_row : (bytes : List ℕ) (at count : ℕ) (ps : List PortRows) (p : PortRows) (rows : ℕ) (words : List ℕ) → Begins bytes at (text_of (Rows count ps p rows)) → at + 584 ≤ length bytes → row_bytes words ≡ take 584 (drop at bytes)
    → Begins bytes (at + 584) (text_of (Rows count ps (record p { rows = p.rows ++ words ∷ [] }) rows))
begins_row bytes at count ps p rows words b whole is =
    subst (Begins bytes (at + 584)) (flat_map_more row_bytes (entries_text count ps p.port p.mac p.entries ++ little_bytes 4 rows) p.rows words) (begins_more bytes at 584 (text_of (Rows count ps p rows)) (row_bytes words) b whole is)

-- all rows of a port are read: the port is whole
pub whole_port : (count : ℕ) (ps : List PortRows) (p : PortRows) → text_of (Rows count ps p (length p.rows)) ≡ ports_text count (ps ++ p ∷ [])
whole_port count ps p =
    let t : List ℕ = ports_text count ps in
    let a : List ℕ = little_bytes 4 p.port in
    let b : List ℕ = big_bytes 6 p.mac in
    let c : List ℕ = little_bytes 4 p.entries in
    let d : List ℕ = little_bytes 4 (length p.rows) in
    let e : List ℕ = all_rows_bytes p.rows in
    joined t a b c d e ∙ flat_map_more port_bytes (head ++ little_bytes 4 count) ps p
  where
    joined : (t a b c d e : List ℕ) → t ++ a ++ b ++ c ++ d ++ e ≡ t ++ (a ++ b ++ c ++ d ++ e)
    joined t a b c d e = ap (λ (x : List ℕ). x ++ c ++ d ++ e) (append_assoc t a b) ∙ ap (λ (x : List ℕ). x ++ d ++ e) (append_assoc t (a ++ b) c) ∙ ap (λ (x : List ℕ). x ++ e) (append_assoc t (a ++ b ++ c) d) ∙ append_assoc t (a ++ b ++ c ++ d) e
