-- Bytes of a file taken apart from the front: what was printed there is told by the bytes.
use Rattle.std.proofs.Common.{◌≡◌, ◌≤◌, ◌<◌, ◌^◌, ℕ, List, [], ◌∷◌, ◌++◌, length, drop, refl, ap, sym, ◌∙◌, arith}
use Rattle.std.proofs.lemmas.List.{append_assoc}
use Rattle.std.specs.List.{flat_map}
use Rattle.byteorder.specs.Endian.{big_bytes, big_number, little_bytes, little_number}
use Rattle.byteorder.specs.Numbers.{big_number-reads_back, little_number-reads_back}
use Rattle.vsw_offload.specs.Rows.{AreWords, IsPortRows, IsRow, all_rows_bytes, port_bytes, row_bytes}
use Rattle.vsw_offload.specs.declared.port_rows.PortRows.{PortRows}
use Rattle.vsw_policy.specs.Sound.{Each}

pub four : (a b : ℕ) (x y : List ℕ) → a < 2 ^ 32 → b < 2 ^ 32 → little_bytes 4 a ++ x ≡ little_bytes 4 b ++ y → (a ≡ b) × (x ≡ y)
four a b x y p q e = (sym (little_number-reads_back 4 a x (omega (arith, p))) ∙ (ap (little_number 4) e ∙ little_number-reads_back 4 b y (omega (arith, q))), ap (drop 4) e)

pub six : (a b : ℕ) (x y : List ℕ) → a < 2 ^ 48 → b < 2 ^ 48 → big_bytes 6 a ++ x ≡ big_bytes 6 b ++ y → (a ≡ b) × (x ≡ y)
six a b x y p q e = (sym (big_number-reads_back 6 a x (omega (arith, p))) ∙ (ap (big_number 6) e ∙ big_number-reads_back 6 b y (omega (arith, q))), ap (drop 6) e)

eight : (a b : ℕ) (x y : List ℕ) → a < 2 ^ 64 → b < 2 ^ 64 → little_bytes 8 a ++ x ≡ little_bytes 8 b ++ y → (a ≡ b) × (x ≡ y)
eight a b x y p q e = (sym (little_number-reads_back 8 a x (omega (arith, p))) ∙ (ap (little_number 8) e ∙ little_number-reads_back 8 b y (omega (arith, q))), ap (drop 8) e)

words_one : (ws vs x y : List ℕ) → length ws ≡ length vs → AreWords ws → AreWords vs → row_bytes ws ++ x ≡ row_bytes vs ++ y → (ws ≡ vs) × (x ≡ y)
words_one [] [] x y l p q e = (refl, e)
words_one [] (v ∷ vs) x y l p q e = absurd (omega (arith, l))
words_one (w ∷ ws) [] x y l p q e = absurd (omega (arith, l))
words_one (w ∷ ws) (v ∷ vs) x y l p q e =
    let one : (w ≡ v) × (row_bytes ws ++ x ≡ row_bytes vs ++ y) = eight w v (row_bytes ws ++ x) (row_bytes vs ++ y) p.0 q.0 e in
    let rest = words_one ws vs x y (omega (arith, l)) p.1 q.1 one.1 in
    ((λ z. one.0 z ∷ rest.0 z), rest.1)

pub row_one : (r s x y : List ℕ) → IsRow r → IsRow s → row_bytes r ++ x ≡ row_bytes s ++ y → (r ≡ s) × (x ≡ y)
row_one r s x y p q e = words_one r s x y (p.long ∙ sym q.long) p.below q.below e

-- a row in front of others
row_front : (r : List ℕ) (rs : List (List ℕ)) (x : List ℕ) → all_rows_bytes (r ∷ rs) ++ x ≡ row_bytes r ++ (all_rows_bytes rs ++ x)
row_front r rs x = append_assoc (row_bytes r) (all_rows_bytes rs) x

pub rows_one : (rs ss : List (List ℕ)) (x y : List ℕ) → length rs ≡ length ss → Each IsRow rs → Each IsRow ss → all_rows_bytes rs ++ x ≡ all_rows_bytes ss ++ y → (rs ≡ ss) × (x ≡ y)
rows_one [] [] x y l p q e = (refl, e)
rows_one [] (s ∷ ss) x y l p q e = absurd (omega (arith, l))
rows_one (r ∷ rs) [] x y l p q e = absurd (omega (arith, l))
rows_one (r ∷ rs) (s ∷ ss) x y l p q e =
    let one = row_one r s (all_rows_bytes rs ++ x) (all_rows_bytes ss ++ y) p.0 q.0 (sym (row_front r rs x) ∙ (e ∙ row_front s ss y)) in
    let rest = rows_one rs ss x y (omega (arith, l)) p.1 q.1 one.1 in
    ((λ z. one.0 z ∷ rest.0 z), rest.1)

-- the row behind some of those of a list, and what stands at its place
pub record NextRow (rs ss : List (List ℕ)) (rest y : List ℕ) : Type 0 where
  pub row : List ℕ
  pub behind : List (List ℕ)
  pub is : ss ≡ rs ++ row ∷ behind
  pub rest_is : rest ≡ row_bytes row ++ (all_rows_bytes behind ++ y)
  pub good : IsRow row

pub next_row : (rs ss : List (List ℕ)) (x y : List ℕ) → length rs < length ss → Each IsRow rs → Each IsRow ss → all_rows_bytes rs ++ x ≡ all_rows_bytes ss ++ y → NextRow rs ss x y
next_row [] [] x y l p q e = absurd (omega (arith, l))
next_row (r ∷ rs) [] x y l p q e = absurd (omega (arith, l))
next_row [] (s ∷ ss) x y l p q e = record { row = s; behind = ss; is = refl; rest_is = e ∙ row_front s ss y; good = q.0 }
next_row (r ∷ rs) (s ∷ ss) x y l p q e =
    let one = row_one r s (all_rows_bytes rs ++ x) (all_rows_bytes ss ++ y) p.0 q.0 (sym (row_front r rs x) ∙ (e ∙ row_front s ss y)) in
    let n : NextRow rs ss x y = next_row rs ss x y (omega (arith, l)) p.1 q.1 one.1 in
    record { row = n.row; behind = n.behind; is = (λ z. sym one.0 z ∷ n.is z); rest_is = n.rest_is; good = n.good }

-- a port with bytes behind it, part by part
pub port_parts : (p : PortRows) (x : List ℕ) → port_bytes p ++ x ≡ little_bytes 4 p.port ++ (big_bytes 6 p.mac ++ (little_bytes 4 p.entries ++ (little_bytes 4 (length p.rows) ++ (all_rows_bytes p.rows ++ x))))
port_parts p x = refl

short : (n : ℕ) → n ≤ 16384 → n < 2 ^ 32
short n h = omega (arith, h)

pub port_one : (p q : PortRows) (x y : List ℕ) → IsPortRows p → IsPortRows q → port_bytes p ++ x ≡ port_bytes q ++ y → (p ≡ q) × (x ≡ y)
port_one p q x y a b e =
    let s = four p.port q.port (big_bytes 6 p.mac ++ (little_bytes 4 p.entries ++ (little_bytes 4 (length p.rows) ++ (all_rows_bytes p.rows ++ x)))) (big_bytes 6 q.mac ++ (little_bytes 4 q.entries ++ (little_bytes 4 (length q.rows) ++ (all_rows_bytes q.rows ++ y)))) a.port b.port e in
    let t = six p.mac q.mac (little_bytes 4 p.entries ++ (little_bytes 4 (length p.rows) ++ (all_rows_bytes p.rows ++ x))) (little_bytes 4 q.entries ++ (little_bytes 4 (length q.rows) ++ (all_rows_bytes q.rows ++ y))) a.mac b.mac s.1 in
    let u = four p.entries q.entries (little_bytes 4 (length p.rows) ++ (all_rows_bytes p.rows ++ x)) (little_bytes 4 (length q.rows) ++ (all_rows_bytes q.rows ++ y)) a.entries b.entries t.1 in
    let v = four (length p.rows) (length q.rows) (all_rows_bytes p.rows ++ x) (all_rows_bytes q.rows ++ y) (short (length p.rows) a.few) (short (length q.rows) b.few) u.1 in
    let w = rows_one p.rows q.rows x y v.0 a.each b.each v.1 in
    ((λ z. record { port = s.0 z; mac = t.0 z; entries = u.0 z; rows = w.0 z }), w.1)

port_front : (p : PortRows) (ps : List PortRows) (x : List ℕ) → flat_map port_bytes (p ∷ ps) ++ x ≡ port_bytes p ++ (flat_map port_bytes ps ++ x)
port_front p ps x = append_assoc (port_bytes p) (flat_map port_bytes ps) x

pub ports_one : (ps qs : List PortRows) (x y : List ℕ) → length ps ≡ length qs → Each IsPortRows ps → Each IsPortRows qs → flat_map port_bytes ps ++ x ≡ flat_map port_bytes qs ++ y → (ps ≡ qs) × (x ≡ y)
ports_one [] [] x y l p q e = (refl, e)
ports_one [] (s ∷ ss) x y l p q e = absurd (omega (arith, l))
ports_one (r ∷ rs) [] x y l p q e = absurd (omega (arith, l))
ports_one (r ∷ rs) (s ∷ ss) x y l p q e =
    let one = port_one r s (flat_map port_bytes rs ++ x) (flat_map port_bytes ss ++ y) p.0 q.0 (sym (port_front r rs x) ∙ (e ∙ port_front s ss y)) in
    let rest = ports_one rs ss x y (omega (arith, l)) p.1 q.1 one.1 in
    ((λ z. one.0 z ∷ rest.0 z), rest.1)

-- the port behind some of those of a list, and what stands at its place
pub record NextPort (ps qs : List PortRows) (rest : List ℕ) : Type 0 where
  pub port : PortRows
  pub behind : List PortRows
  pub is : qs ≡ ps ++ port ∷ behind
  pub rest_is : rest ≡ port_bytes port ++ flat_map port_bytes behind
  pub good : IsPortRows port

pub next_port : (ps qs : List PortRows) (x : List ℕ) → length ps < length qs → Each IsPortRows ps → Each IsPortRows qs → flat_map port_bytes ps ++ x ≡ flat_map port_bytes qs → NextPort ps qs x
next_port [] [] x l p q e = absurd (omega (arith, l))
next_port (r ∷ rs) [] x l p q e = absurd (omega (arith, l))
next_port [] (s ∷ ss) x l p q e = record { port = s; behind = ss; is = refl; rest_is = e; good = q.0 }
next_port (r ∷ rs) (s ∷ ss) x l p q e =
    let one = port_one r s (flat_map port_bytes rs ++ x) (flat_map port_bytes ss) p.0 q.0 (sym (port_front r rs x) ∙ e) in
    let n : NextPort rs ss x = next_port rs ss x (omega (arith, l)) p.1 q.1 one.1 in
    record { port = n.port; behind = n.behind; is = (λ z. sym one.0 z ∷ n.is z); rest_is = n.rest_is; good = n.good }
