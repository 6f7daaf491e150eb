-- Nothing is at fault with a rows file.
use Rattle.std.proofs.Common.{◌≡◌, ◌≤◌, ◌<◌, ◌*◌, ◌^◌, ◌==◌, ◌&&◌, ◌||◌, not, ℕ, List, [], ◌∷◌, ◌++◌, Bool, true, false, true≢false, length, take, drop, inl, inr, refl, ap, sym, ◌∙◌, subst, arith, length-append, length-drop}
use Rattle.std.proofs.Math.Seq.{take-append_seam}
use Rattle.std.proofs.lemmas.List.{append-nil, append_assoc, length-take-le, map-append, take-append-drop}
use Rattle.std.specs.List.{flat_map}
use Rattle.byteorder.specs.Endian.{big_bytes, big_number, little_bytes, little_number}
use Rattle.byteorder.specs.Numbers.{big_number-reads_back, little_number-reads_back}
use Rattle.vsw_offload.proofs.Cut.{NextPort, NextRow, four, next_port, next_row, ports_one, six}
use Rattle.vsw_offload.specs.Bad.{Address, Begins, Done, Entries, Falls, HasBadRow, HasExtra, HasManyRows, AddressTwice, NumberTwice, Head, IsCut, Number, Ports, Reaches, Rows, Stands, entries_text, next_size, ports_text, row_at, text_of, words_in}
use Rattle.vsw_offload.specs.Exact.{FilesAreRight, FilesTell}
use Rattle.vsw_offload.specs.Rows.{AreRows, AreWords, IsRow, Rise, all_rows_bytes, are_distinct, head, is_among, macs_of, numbers_of, port_bytes, row_bytes, rows_bytes}
use Rattle.vsw_offload.specs.declared.fault.BadRows.TheVariants.{NotRows, Cut, ManyPorts, PortTwice, ManyRows, BadRow, Order, Extra, Memory}
use Rattle.vsw_offload.specs.declared.port_rows.PortRows.{PortRows}

below_four : (n : ℕ) → n ≤ 16384 → n < 2 ^ 32
below_four n h = omega (arith, h)

-- ---- what stands behind what was read

-- a file is what was read, and the rest
whole : (bytes : List ℕ) (at : ℕ) (text : List ℕ) → Begins bytes at text → text ++ drop at bytes ≡ bytes
whole bytes at text b = ap (λ (t : List ℕ). t ++ drop at bytes) (sym b.is) ∙ take-append-drop at bytes

-- the head is eight bytes
at_head : (bytes : List ℕ) (at : ℕ) → Begins bytes at head → at ≡ 8
at_head bytes at b = sym (length-take-le at bytes b.within) ∙ ap length b.is

-- behind so many ports comes the next one
behind_ports : (qs : List PortRows) (count : ℕ) (ps : List PortRows) (u : List ℕ) → AreRows qs → count ≤ 16 → length ps < count → AreRows ps → ports_text count ps ++ u ≡ rows_bytes qs → NextPort ps qs u
behind_ports qs count ps u are few more done e =
    let front : little_bytes 4 count ++ (flat_map port_bytes ps ++ u) ≡ little_bytes 4 (length qs) ++ flat_map port_bytes qs = ap (drop 8) e in
    let parts = four count (length qs) (flat_map port_bytes ps ++ u) (flat_map port_bytes qs) (omega (arith, few)) (omega (arith, are.few)) front in
    next_port ps qs u (omega (arith, parts.0, more)) done.each are.each parts.1

-- what stands at a place, by what was read
abbrev After : List PortRows → Done → List ℕ → Type 0
After qs Head rest = rest ≡ little_bytes 4 (length qs) ++ flat_map port_bytes qs
After qs (Ports count ps) rest = NextPort ps qs rest
After qs (Number count ps port) rest = (n : NextPort ps qs (little_bytes 4 port ++ rest)) × ((y : List ℕ) × (rest ≡ big_bytes 6 n.port.mac ++ y))
After qs (Address count ps port mac) rest = (y : List ℕ) × (n : ℕ) × (rest ≡ little_bytes 4 n ++ y)
After qs (Entries count ps port mac entries) rest = (y : List ℕ) × (n : ℕ) × (n ≤ 16384) × (rest ≡ little_bytes 4 n ++ y)
After qs (Rows count ps p rows) rest = (qrows : List (List ℕ)) × (y : List ℕ) × Rise qrows × NextRow p.rows qrows rest y

after_number : (qs : List PortRows) (ps : List PortRows) (port : ℕ) (rest : List ℕ) → port < 2 ^ 32 → (n : NextPort ps qs (little_bytes 4 port ++ rest)) → (port ≡ n.port.port) × (rest ≡ big_bytes 6 n.port.mac ++ (little_bytes 4 n.port.entries ++ (little_bytes 4 (length n.port.rows) ++ (all_rows_bytes n.port.rows ++ flat_map port_bytes n.behind))))
after_number qs ps port rest below n = four port n.port.port rest (big_bytes 6 n.port.mac ++ (little_bytes 4 n.port.entries ++ (little_bytes 4 (length n.port.rows) ++ (all_rows_bytes n.port.rows ++ flat_map port_bytes n.behind)))) below n.good.port n.rest_is

after_address : (qs : List PortRows) (ps : List PortRows) (port mac : ℕ) (rest : List ℕ) → port < 2 ^ 32 → mac < 2 ^ 48 → (n : NextPort ps qs (little_bytes 4 port ++ (big_bytes 6 mac ++ rest))) → rest ≡ little_bytes 4 n.port.entries ++ (little_bytes 4 (length n.port.rows) ++ (all_rows_bytes n.port.rows ++ flat_map port_bytes n.behind))
after_address qs ps port mac rest a b n =
    (six mac n.port.mac rest (little_bytes 4 n.port.entries ++ (little_bytes 4 (length n.port.rows) ++ (all_rows_bytes n.port.rows ++ flat_map port_bytes n.behind))) b n.good.mac (after_number qs ps port (big_bytes 6 mac ++ rest) a n).1).1

after_entries : (qs : List PortRows) (ps : List PortRows) (port mac entries : ℕ) (rest : List ℕ) → port < 2 ^ 32 → mac < 2 ^ 48 → entries < 2 ^ 32 → (n : NextPort ps qs (little_bytes 4 port ++ (big_bytes 6 mac ++ (little_bytes 4 entries ++ rest))))
    → rest ≡ little_bytes 4 (length n.port.rows) ++ (all_rows_bytes n.port.rows ++ flat_map port_bytes n.behind)
after_entries qs ps port mac entries rest a b d n =
    (four entries n.port.entries rest (little_bytes 4 (length n.port.rows) ++ (all_rows_bytes n.port.rows ++ flat_map port_bytes n.behind)) d n.good.entries (after_address qs ps port mac (little_bytes 4 entries ++ rest) a b n)).1

after : (qs : List PortRows) (at : ℕ) (d : Done) → AreRows qs → Reaches (rows_bytes qs) at d → After qs d (drop at (rows_bytes qs))
after qs at Head are r = ap (λ n. drop n (rows_bytes qs)) (at_head (rows_bytes qs) at r.begins)
after qs at (Ports count ps) are r = behind_ports qs count ps (drop at (rows_bytes qs)) are r.open_is.0 r.open_is.1 r.open_is.2 (whole (rows_bytes qs) at (ports_text count ps) r.begins)
after qs at (Number count ps port) are r =
    let rest : List ℕ = drop at (rows_bytes qs) in
    let n : NextPort ps qs (little_bytes 4 port ++ rest) = behind_ports qs count ps (little_bytes 4 port ++ rest) are r.open_is.many r.open_is.more r.open_is.are (sym (append_assoc (ports_text count ps) (little_bytes 4 port) rest) ∙ whole (rows_bytes qs) at (text_of (Number count ps port)) r.begins) in
    (n, (little_bytes 4 n.port.entries ++ (little_bytes 4 (length n.port.rows) ++ (all_rows_bytes n.port.rows ++ flat_map port_bytes n.behind)), (after_number qs ps port rest r.open_is.below n).1))
after qs at (Address count ps port mac) are r =
    let rest : List ℕ = drop at (rows_bytes qs) in
    let t : List ℕ = ports_text count ps in
    let o = r.open_is.number in
    let split : t ++ (little_bytes 4 port ++ (big_bytes 6 mac ++ rest)) ≡ rows_bytes qs = sym (append_assoc t (little_bytes 4 port) (big_bytes 6 mac ++ rest)) ∙ (sym (append_assoc (t ++ little_bytes 4 port) (big_bytes 6 mac) rest) ∙ whole (rows_bytes qs) at (text_of (Address count ps port mac)) r.begins) in
    let n : NextPort ps qs (little_bytes 4 port ++ (big_bytes 6 mac ++ rest)) = behind_ports qs count ps (little_bytes 4 port ++ (big_bytes 6 mac ++ rest)) are o.many o.more o.are split in
    (little_bytes 4 (length n.port.rows) ++ (all_rows_bytes n.port.rows ++ flat_map port_bytes n.behind), n.port.entries, after_address qs ps port mac rest o.below r.open_is.below n)
after qs at (Entries count ps port mac entries) are r =
    let rest : List ℕ = drop at (rows_bytes qs) in
    let t : List ℕ = ports_text count ps in
    let o = r.open_is.0.number in
    let split : t ++ (little_bytes 4 port ++ (big_bytes 6 mac ++ (little_bytes 4 entries ++ rest))) ≡ rows_bytes qs =
    sym (append_assoc t (little_bytes 4 port) (big_bytes 6 mac ++ (little_bytes 4 entries ++ rest))) ∙ (sym (append_assoc (t ++ little_bytes 4 port) (big_bytes 6 mac) (little_bytes 4 entries ++ rest))
    ∙ (sym (append_assoc (t ++ little_bytes 4 port ++ big_bytes 6 mac) (little_bytes 4 entries) rest) ∙ whole (rows_bytes qs) at (text_of (Entries count ps port mac entries)) r.begins)) in
    let n : NextPort ps qs (little_bytes 4 port ++ (big_bytes 6 mac ++ (little_bytes 4 entries ++ rest))) = behind_ports qs count ps (little_bytes 4 port ++ (big_bytes 6 mac ++ (little_bytes 4 entries ++ rest))) are o.many o.more o.are split in
    (all_rows_bytes n.port.rows ++ flat_map port_bytes n.behind, length n.port.rows, n.good.few, after_entries qs ps port mac entries rest o.below r.open_is.0.below r.open_is.1 n)
after qs at (Rows count ps p rows) are r =
    let rest : List ℕ = drop at (rows_bytes qs) in
    let t : List ℕ = ports_text count ps in
    let o = r.open_is.0.number in
    let u : List ℕ = little_bytes 4 rows ++ (all_rows_bytes p.rows ++ rest) in
    let split : t ++ (little_bytes 4 p.port ++ (big_bytes 6 p.mac ++ (little_bytes 4 p.entries ++ u))) ≡ rows_bytes qs =
    sym (append_assoc t (little_bytes 4 p.port) (big_bytes 6 p.mac ++ (little_bytes 4 p.entries ++ u))) ∙ (sym (append_assoc (t ++ little_bytes 4 p.port) (big_bytes 6 p.mac) (little_bytes 4 p.entries ++ u))
    ∙ (sym (append_assoc (t ++ little_bytes 4 p.port ++ big_bytes 6 p.mac) (little_bytes 4 p.entries) u) ∙ (sym (append_assoc (entries_text count ps p.port p.mac p.entries) (little_bytes 4 rows) (all_rows_bytes p.rows ++ rest))
    ∙ (sym (append_assoc (entries_text count ps p.port p.mac p.entries ++ little_bytes 4 rows) (all_rows_bytes p.rows) rest) ∙ whole (rows_bytes qs) at (text_of (Rows count ps p rows)) r.begins)))) in
    let n : NextPort ps qs (little_bytes 4 p.port ++ (big_bytes 6 p.mac ++ (little_bytes 4 p.entries ++ u))) = behind_ports qs count ps (little_bytes 4 p.port ++ (big_bytes 6 p.mac ++ (little_bytes 4 p.entries ++ u))) are o.many o.more o.are split in
    let told = four rows (length n.port.rows) (all_rows_bytes p.rows ++ rest) (all_rows_bytes n.port.rows ++ flat_map port_bytes n.behind) (below_four rows r.open_is.2) (below_four (length n.port.rows) n.good.few) (after_entries qs ps p.port p.mac p.entries u o.below r.open_is.0.below r.open_is.1.entries n) in
    (n.port.rows, flat_map port_bytes n.behind, n.good.rise, next_row p.rows n.port.rows rest (flat_map port_bytes n.behind) (omega (arith, told.0, r.open_is.3)) r.open_is.1.each n.good.each told.1)

-- ---- what is next is whole

at_least_four : (n : ℕ) (y rest : List ℕ) → rest ≡ little_bytes 4 n ++ y → 4 ≤ length rest
at_least_four n y rest e = subst (λ (r : List ℕ). 4 ≤ length r) (sym e) (omega arith)

at_least_six : (n : ℕ) (y rest : List ℕ) → rest ≡ big_bytes 6 n ++ y → 6 ≤ length rest
at_least_six n y rest e = subst (λ (r : List ℕ). 6 ≤ length r) (sym e) (omega arith)

row_length : (ws : List ℕ) → length (row_bytes ws) ≡ 8 * length ws
row_length [] = refl
row_length (w ∷ ws) = let ih = row_length ws in omega (arith, ih)

row_size : (ws : List ℕ) → length ws ≡ 73 → length (row_bytes ws) ≡ 584
row_size ws l = omega (arith, l, row_length ws)

size_left : (qs : List PortRows) (d : Done) (rest : List ℕ) → After qs d rest → next_size d ≤ length rest
size_left qs Head rest a = at_least_four (length qs) (flat_map port_bytes qs) rest a
size_left qs (Ports count ps) rest a =
    at_least_four a.port.port (big_bytes 6 a.port.mac ++ (little_bytes 4 a.port.entries ++ (little_bytes 4 (length a.port.rows) ++ (all_rows_bytes a.port.rows ++ flat_map port_bytes a.behind)))) rest a.rest_is
size_left qs (Number count ps port) rest (n, (y, e)) = at_least_six n.port.mac y rest e
size_left qs (Address count ps port mac) rest (y, n, e) = at_least_four n y rest e
size_left qs (Entries count ps port mac entries) rest (y, n, few, e) = at_least_four n y rest e
size_left qs (Rows count ps p rows) rest (qrows, y, rise, n) =
    omega (arith, ap length n.rest_is ∙ length-append (row_bytes n.row) (all_rows_bytes n.behind ++ y), row_size n.row n.good.long)

never_cut : (qs : List PortRows) (at : ℕ) → AreRows qs → IsCut (rows_bytes qs) at → ⊥
never_cut qs at are c = let size = size_left qs c.done (drop at (rows_bytes qs)) (after qs at c.done are c.reaches) in omega (arith, size, length-drop at (rows_bytes qs), c.short, c.reaches.begins.within)

-- ---- and not at fault

four_read : (n : ℕ) (y rest : List ℕ) → n < 2 ^ 32 → rest ≡ little_bytes 4 n ++ y → little_number 4 rest ≡ n
four_read n y rest below e = ap (little_number 4) e ∙ little_number-reads_back 4 n y (omega (arith, below))

six_read : (n : ℕ) (y rest : List ℕ) → n < 2 ^ 48 → rest ≡ big_bytes 6 n ++ y → big_number 6 rest ≡ n
six_read n y rest below e = ap (big_number 6) e ∙ big_number-reads_back 6 n y (omega (arith, below))

same_back : (m n : ℕ) → (m == n) ≡ false → (n == m) ≡ false
same_back m n e = grind (arith, e)

either_false : (a b : Bool) → (a || b) ≡ false → (a ≡ false) × (b ≡ false)
either_false true b e = absurd (true≢false e)
either_false false b e = (refl, e)

both_true : (a b : Bool) → (not a && b) ≡ true → (a ≡ false) × (b ≡ true)
both_true true b e = absurd (true≢false (sym e))
both_true false b e = (refl, e)

among_mid : (k n : ℕ) (ns ms : List ℕ) → is_among k (ns ++ n ∷ ms) ≡ false → (k == n) ≡ false
among_mid k n [] ms e = (either_false (k == n) (is_among k ms) e).0
among_mid k n (m ∷ ns) ms e = among_mid k n ns ms (either_false (k == m) (is_among k (ns ++ n ∷ ms)) e).1

not_among : (n : ℕ) (ns ms : List ℕ) → are_distinct (ns ++ n ∷ ms) ≡ true → is_among n ns ≡ false
not_among n [] ms e = refl
not_among n (k ∷ ns) ms e =
    let parts = both_true (is_among k (ns ++ n ∷ ms)) (are_distinct (ns ++ n ∷ ms)) e in
    let other : (n == k) ≡ false = same_back k n (among_mid k n ns ms parts.0) in
    let rest : is_among n ns ≡ false = not_among n ns ms parts.1 in
    rw (other, rest) refl

new_number : (qs ps : List PortRows) (u : List ℕ) (n : NextPort ps qs u) → AreRows qs → is_among n.port.port (numbers_of ps) ≡ false
new_number qs ps u n are = not_among n.port.port (numbers_of ps) (numbers_of n.behind) (sym (ap are_distinct (ap numbers_of n.is ∙ map-append (λ q. q.port) ps (n.port ∷ n.behind))) ∙ are.numbers)

new_address : (qs ps : List PortRows) (u : List ℕ) (n : NextPort ps qs u) → AreRows qs → is_among n.port.mac (macs_of ps) ≡ false
new_address qs ps u n are = not_among n.port.mac (macs_of ps) (macs_of n.behind) (sym (ap are_distinct (ap macs_of n.is ∙ map-append (λ q. q.mac) ps (n.port ∷ n.behind))) ∙ are.macs)

never_number : (qs : List PortRows) (at : ℕ) → AreRows qs → NumberTwice (rows_bytes qs) at → ⊥
never_number qs at are t =
    let n : NextPort t.ps qs (drop at (rows_bytes qs)) = after qs at (Ports t.count t.ps) are t.stands.reaches in
    let y : List ℕ = big_bytes 6 n.port.mac ++ (little_bytes 4 n.port.entries ++ (little_bytes 4 (length n.port.rows) ++ (all_rows_bytes n.port.rows ++ flat_map port_bytes n.behind))) in
    let read : little_number 4 (drop at (rows_bytes qs)) ≡ n.port.port = four_read n.port.port y (drop at (rows_bytes qs)) n.good.port n.rest_is in
    true≢false (sym t.twice ∙ (ap (λ m. is_among m (numbers_of t.ps)) read ∙ new_number qs t.ps (drop at (rows_bytes qs)) n are))

never_address : (qs : List PortRows) (at : ℕ) → AreRows qs → AddressTwice (rows_bytes qs) at → ⊥
never_address qs at are t = by (after qs at (Number t.count t.ps t.port) are t.stands.reaches)
  where
    by : After qs (Number t.count t.ps t.port) (drop at (rows_bytes qs)) → ⊥
    by (n, (y, e)) =
        let read : big_number 6 (drop at (rows_bytes qs)) ≡ n.port.mac = six_read n.port.mac y (drop at (rows_bytes qs)) n.good.mac e in
        true≢false (sym t.twice ∙ (ap (λ m. is_among m (macs_of t.ps)) read ∙ new_address qs t.ps (little_bytes 4 t.port ++ drop at (rows_bytes qs)) n are))

never_many_ports : (qs : List PortRows) (at : ℕ) → AreRows qs → Stands (rows_bytes qs) at Head → 16 < little_number 4 (drop at (rows_bytes qs)) → ⊥
never_many_ports qs at are s many =
    let read = four_read (length qs) (flat_map port_bytes qs) (drop at (rows_bytes qs)) (omega (arith, are.few)) (after qs at Head are s.reaches) in omega (arith, read, many, are.few)

never_many_rows : (qs : List PortRows) (at : ℕ) → AreRows qs → HasManyRows (rows_bytes qs) at → ⊥
never_many_rows qs at are t = by (after qs at (Entries t.count t.ps t.port t.mac t.entries) are t.stands.reaches)
  where
    by : After qs (Entries t.count t.ps t.port t.mac t.entries) (drop at (rows_bytes qs)) → ⊥
    by (y, n, few, e) = let read = four_read n y (drop at (rows_bytes qs)) (below_four n few) e in omega (arith, read, few, t.many)

words_again : (ws : List ℕ) → AreWords ws → words_in (length ws) (row_bytes ws) ≡ ws
words_again [] e = refl
words_again (w ∷ ws) e = (λ z. little_number-reads_back 8 w (row_bytes ws) (omega (arith, e.0)) z ∷ words_again ws e.1 z)

row_again : (bytes : List ℕ) (at : ℕ) (row y : List ℕ) → IsRow row → drop at bytes ≡ row_bytes row ++ y → row_at bytes at ≡ row
row_again bytes at row y good e =
    let front : take 584 (drop at bytes) ≡ row_bytes row = ap (take 584) e ∙ (ap (λ n. take n (row_bytes row ++ y)) (sym (row_size row good.long)) ∙ take-append_seam (row_bytes row) y) in
    ap (words_in 73) front ∙ (ap (λ n. words_in n (row_bytes row)) (sym good.long) ∙ words_again row good.below)

rise_front : (rs : List (List ℕ)) (r : List ℕ) (ss : List (List ℕ)) → Rise (rs ++ r ∷ ss) → Rise (rs ++ r ∷ [])
rise_front [] r ss h = tt
rise_front (a ∷ []) r ss h = (h.0, tt)
rise_front (a ∷ b ∷ rs) r ss h = (h.0, rise_front (b ∷ rs) r ss h.1)

never_bad : (qs : List PortRows) (at : ℕ) → AreRows qs → HasBadRow (rows_bytes qs) at → ⊥
never_bad qs at are t = by (after qs at (Rows t.count t.ps t.p t.rows) are t.stands.reaches)
  where
    by : After qs (Rows t.count t.ps t.p t.rows) (drop at (rows_bytes qs)) → ⊥
    by (qrows, y, rise, n) = t.bad (subst IsRow (sym (row_again (rows_bytes qs) at n.row (all_rows_bytes n.behind ++ y) n.good n.rest_is)) n.good)

never_falls : (qs : List PortRows) (at : ℕ) → AreRows qs → Falls (rows_bytes qs) at → ⊥
never_falls qs at are t = by (after qs at (Rows t.count t.ps t.p t.rows) are t.stands.reaches)
  where
    by : After qs (Rows t.count t.ps t.p t.rows) (drop at (rows_bytes qs)) → ⊥
    by (qrows, y, rise, n) =
        let here : row_at (rows_bytes qs) at ≡ n.row = row_again (rows_bytes qs) at n.row (all_rows_bytes n.behind ++ y) n.good n.rest_is in
        t.falls (subst (λ w. Rise (t.p.rows ++ w ∷ [])) (sym here) (rise_front t.p.rows n.row n.behind (subst Rise n.is rise)))

never_extra : (qs : List PortRows) (at : ℕ) → AreRows qs → HasExtra (rows_bytes qs) at → ⊥
never_extra qs at are t =
    let rest : List ℕ = drop at (rows_bytes qs) in
    let all : little_bytes 4 (length t.ps) ++ (flat_map port_bytes t.ps ++ rest) ≡ little_bytes 4 (length qs) ++ flat_map port_bytes qs = ap (drop 8) (whole (rows_bytes qs) at (ports_text (length t.ps) t.ps) t.begins) in
    let parts = four (length t.ps) (length qs) (flat_map port_bytes t.ps ++ rest) (flat_map port_bytes qs) (omega (arith, t.are.few)) (omega (arith, are.few)) all in
    let none = ports_one t.ps qs rest [] parts.0 t.are.each are.each (parts.1 ∙ sym (append-nil (flat_map port_bytes qs))) in
    omega (arith, ap length none.1, length-drop at (rows_bytes qs), t.more)

-- ---- so

pub files_are_right : FilesAreRight
files_are_right ps NotRows are b = absurd (b refl)
files_are_right ps (Cut at) are b = absurd (never_cut ps at are b)
files_are_right ps (ManyPorts at) are b = absurd (never_many_ports ps at are b.0 b.1)
files_are_right ps (PortTwice at) are (inl b) = absurd (never_number ps at are b)
files_are_right ps (PortTwice at) are (inr b) = absurd (never_address ps at are b)
files_are_right ps (ManyRows at) are b = absurd (never_many_rows ps at are b)
files_are_right ps (BadRow at) are b = absurd (never_bad ps at are b)
files_are_right ps (Order at) are b = absurd (never_falls ps at are b)
files_are_right ps (Extra at) are b = absurd (never_extra ps at are b)
files_are_right ps Memory are b = refl

pub files_tell : FilesTell
files_tell ps qs p q e =
    let all : little_bytes 4 (length ps) ++ flat_map port_bytes ps ≡ little_bytes 4 (length qs) ++ flat_map port_bytes qs = ap (drop 8) e in
    let parts = four (length ps) (length qs) (flat_map port_bytes ps) (flat_map port_bytes qs) (omega (arith, p.few)) (omega (arith, q.few)) all in
    (ports_one ps qs [] [] parts.0 p.each q.each (append-nil (flat_map port_bytes ps) ∙ (parts.1 ∙ sym (append-nil (flat_map port_bytes qs))))).0
