-- What a look tells of the packet that looked.
use Rattle.std.proofs.Common.{◌≡◌, ◌<◌, ◌+◌, ◌%◌, ◌++◌, ℕ, List, length, subst}
use Rattle.vsw_answer.specs.declared.answer.RowAnswer.{RowAnswer}
use Rattle.vsw_answer.specs.declared.answer.RowAnswer.TheVariants.{Read, Control, Miss, Late}
use Rattle.vsw_answer.specs.Answers.{HasHit, Misses, Pass, Sees, Tells}
use Rattle.vsw_answer.specs.Private.Said.{Says}
use Rattle.vsw_base.specs.declared.flow.Crossing.{Crossing}
use Rattle.vsw_base.specs.declared.flow.Ufid.{Ufid}
use Rattle.vsw_base.specs.declared.header.Header.{Header}
use Rattle.vsw_base.specs.declared.packet.Control.TheVariants as control
use Rattle.vsw_flows.specs.Flows.{Looking}
use Rattle.vsw_table.specs.declared.lookup.Look.{Look}
use Rattle.vsw_table.specs.Answers.{IfHit, IfMiss}
use Rattle.vsw_table.specs.Held.{Found, Missed}
use Rattle.vsw_rows.specs.GoodRows.{opening_of}
use Rattle.vsw_words.specs.Key.{key_words}
use Rattle.vsw_words.specs.Row.{in_use}
use Rattle.vsw_words.specs.Slot.{slot}

-- a miss from a slot on is one of the key whose slot that is
pub miss_at : (look : Look) (q : Pass) (key other : List ℕ) (first rows : ℕ) → key ≡ other → first ≡ slot key rows
    → IfMiss look (λ n. (length q.front ≡ n) × ((j : ℕ) → j < 8 → Missed key ((first + j) % rows) q.last))
    → IfMiss look (λ n. (length q.front ≡ n) × ((j : ℕ) → j < 8 → Missed other ((slot other rows + j) % rows) q.last))
miss_at look q key other first rows same at m =
    subst (λ k. IfMiss look (λ n. (length q.front ≡ n) × ((j : ℕ) → j < 8 → Missed k ((slot k rows + j) % rows) q.last))) same
    (subst (λ s. IfMiss look (λ n. (length q.front ≡ n) × ((j : ℕ) → j < 8 → Missed key ((s + j) % rows) q.last))) at m)

-- and so is a hit
pub hit_at : (look : Look) (l : Looking) (id : Ufid) (q : Pass) (key words : List ℕ) (first : ℕ) → key ≡ key_words id.dir id.stack → first ≡ slot key l.2
    → IfHit look (λ n. (j : ℕ) × (j < 8) × Found in_use (key ++ words) ((first + j) % l.2) q.last) → IfHit look (λ n. HasHit l id q (key_words id.dir id.stack ++ words))
hit_at look l id q key words first same at m =
    subst (λ k. IfHit look (λ n. (j : ℕ) × (j < 8) × Found in_use (k ++ words) ((slot k l.2 + j) % l.2) q.last)) same
    (subst (λ s. IfHit look (λ n. (j : ℕ) × (j < 8) × Found in_use (key ++ words) ((s + j) % l.2) q.last)) at m)

pub misses : (l : Looking) (x : Crossing) (p q : Pass) → x.control ≡ control.None → p.looks < q.looks
    → ((j : ℕ) → j < 8 → Missed (key_words x.id.dir x.id.stack) ((slot (key_words x.id.dir x.id.stack) l.2 + j) % l.2) q.last) → Misses l x p q
misses l x p q plain begun m = record { control = plain; begun = begun; missed = m }

pub tells_of : (l : Looking) (x : Crossing) (p q : Pass) (words : List ℕ) (edited : List Header) (answer : RowAnswer) → x.control ≡ control.None → p.looks < q.looks → HasHit l x.id q (key_words x.id.dir x.id.stack ++ words)
    → Says (opening_of l.1) q.front x words edited answer → Tells l x p q edited answer
tells_of l x p q words edited (Read outcome count) plain begun hit s = record { control = plain; counted = s.count_is; reads = s.reads; edits = s.edits; own = s.own; entry = s.entry }
tells_of l x p q words edited Control plain begun hit s = absurd s
tells_of l x p q words edited Miss plain begun hit s = absurd s
tells_of l x p q words edited Late plain begun hit s = record { control = plain; begun = begun; row = s.row; hit = subst (HasHit l x.id q) s.whole hit; id = s.id; good = s.good; late = s.late }

pub sees_of : (l : Looking) (x : Crossing) (p q : Pass) (words : List ℕ) (edited : List Header) (answer : RowAnswer) → p.looks < q.looks → HasHit l x.id q (key_words x.id.dir x.id.stack ++ words) → Says (opening_of l.1) q.front x words edited answer → Sees l x p q answer
sees_of l x p q words edited (Read outcome count) begun hit s = record { begun = begun; row = s.row; hit = subst (HasHit l x.id q) s.whole hit; id = s.id; good = s.good; in_time = s.in_time }
sees_of l x p q words edited Control begun hit s = tt
sees_of l x p q words edited Miss begun hit s = tt
sees_of l x p q words edited Late begun hit s = tt
